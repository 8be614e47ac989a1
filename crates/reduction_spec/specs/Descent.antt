-- A walk over the node words from a node at one cut down to the next: the outputs met and the node reached.
-- Assumes nothing.
use Rattle.std.specs.Prelude.{ℕ, zero, suc, ◌+◌, ◌-◌, ◌*◌, cond, List, eqb, ltb, leb, length, get_or}
use Rattle.laws.specs.Bits.{has}
use Rattle.sheet_spec.specs.Limits.{most_variables}
use Rattle.sheet_spec.specs.Job.{is_input}
use Rattle.reduction_spec.specs.Walk.{low_of, high_of}
pub use Rattle.reduction_spec.specs.declared.Reached.{Reached}

abbrev pub reached : ℕ → ℕ → Reached
reached v o = record { node = v; outputs = o }

module _ (ws order : List ℕ) (bottom : ℕ) where
  -- k heights down to bottom, from the node v at height bottom + k; x are the values of the inputs between, topmost most significant,
  -- of which the lowest count are still to be read; o are the outputs met so far, topmost most significant. A d is met as 0: the walk
  -- takes the child for 0 unless that is forbidden. A constant ends the walk
  unfoldable pub descend : ℕ → ℕ → ℕ → ℕ → ℕ → Reached
  descend zero v x count o = reached v o
  descend (suc k) v x count o =
      let input = descend k (cond (has x (count - 1)) (high_of ws v) (low_of ws v)) x (count - 1) o in
      let forced = descend k (high_of ws v) x count (o * 2 + 1) in
      let other = descend k (low_of ws v) x count (o * 2) in
      let next = cond (is_input (get_or order (length order - suc (bottom + k)) 0)) input (cond (eqb (low_of ws v) 0) forced other) in
      cond (ltb v 2) (reached v o) next

-- what is answered for any heights: a diagram has at most 20, and a walk from above that stays where it is
unfoldable pub descent : List ℕ → List ℕ → ℕ → ℕ → ℕ → ℕ → ℕ → Reached
descent ws order top bottom v x count = cond (leb top most_variables) (descend ws order bottom (top - bottom) v x count 0) (reached v 0)
