-- Evaluation with a mask of known inputs (document 02, §5): which outputs are still certain.
-- Assumes nothing.
use Rattle.std.specs.Prelude.{ℕ, ◌^◌, Bool, cond, not, ◌||◌, List, eqb}
use Rattle.laws.specs.Tests.{every}
use Rattle.laws.specs.Lists.{tab}
use Rattle.laws.specs.Bits.{bit, has}
use Rattle.sheet_spec.specs.Limits.{most_inputs, most_outputs}
use Rattle.stored_spec.specs.StoredForm.{well_formed}
use Rattle.evaluation_spec.specs.Emits.{emits}

-- v is a filling of the unknown inputs: it has the known inputs as the word w has them
unfoldable pub fills : ℕ → ℕ → ℕ → Bool
fills known w v = every most_inputs (λ i. not (has known i) || eqb (bit v i) (bit w i))

-- every filling makes the cascade emit b at output o
unfoldable pub always : List ℕ → List ℕ → ℕ → ℕ → ℕ → ℕ → Bool
always R bytes known w o b = every (2 ^ most_inputs) (λ v. not (fills known w v) || eqb (emits R bytes v o) b)

-- an output that is neither 0 nor 1 for certain
abbrev pub unknown : ℕ
unknown = 2

-- 0 exactly when every filling makes the cascade emit 0, likewise 1, else unknown
unfoldable pub certain : List ℕ → List ℕ → ℕ → ℕ → ℕ → ℕ
certain R bytes known w o = cond (always R bytes known w o 0) 0 (cond (always R bytes known w o 1) 1 unknown)

pub data Evaluated : Type 0 where
  refused : ℕ → Evaluated
  evaluated : List ℕ → Evaluated

-- the eight outputs, or 12 where the cascade is not well formed
unfoldable pub evaluate : List ℕ → List ℕ → ℕ → ℕ → Evaluated
evaluate R bytes known w = cond (well_formed R bytes) (evaluated (tab most_outputs (certain R bytes known w))) (refused 12)
