-- Two columns compared over the node words, from the nodes v and u at one height h (document 01, "The diagram").
-- Assumes nothing.
use Rattle.std.specs.Prelude.{ℕ, zero, suc, Bool, cond, not, ◌&&◌, ◌||◌, List, eqb, ltb, leb}
use Rattle.reduction_spec.specs.Walk.{low_of, high_of}
use Rattle.sheet_spec.specs.Limits.{most_variables}

-- the same column: every walk ends alike
unfoldable pub same_nodes : List ℕ → ℕ → ℕ → ℕ → Bool
same_nodes ws zero v u = eqb v u
same_nodes ws (suc h) v u =
    let low = same_nodes ws h (low_of ws v) (low_of ws u) in
    let high = same_nodes ws h (high_of ws v) (high_of ws u) in
    cond (ltb v 2 || ltb u 2) (eqb v u) (low && high)

-- neither is constant 0
abbrev pub neither_zero : ℕ → ℕ → Bool
neither_zero v u = not (eqb v 0 || eqb u 0)

-- compatible columns: a value that either forbids has the child 0 there, and then the other value's children decide
unfoldable pub compatible_nodes : List ℕ → ℕ → ℕ → ℕ → Bool
compatible_nodes ws zero v u = neither_zero v u
compatible_nodes ws (suc h) v u =
    let low = compatible_nodes ws h (low_of ws v) (low_of ws u) in
    let high = compatible_nodes ws h (high_of ws v) (high_of ws u) in
    let l = neither_zero (low_of ws v) (low_of ws u) in
    let r = neither_zero (high_of ws v) (high_of ws u) in
    cond (ltb v 2 || ltb u 2) (neither_zero v u) ((l || r) && (not l || low) && (not r || high))

-- what is answered for any height: a diagram has at most 20, and nodes above that are neither
unfoldable pub same_columns : List ℕ → ℕ → ℕ → ℕ → Bool
same_columns ws h v u = leb h most_variables && same_nodes ws h v u

unfoldable pub compatible_columns : List ℕ → ℕ → ℕ → ℕ → Bool
compatible_columns ws h v u = leb h most_variables && compatible_nodes ws h v u
