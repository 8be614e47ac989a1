-- What stands at each height, from the order and the widths at the heights below t.
-- Assumes nothing.
use Rattle.std.specs.Prelude.{ℕ, suc, ◌+◌, ◌-◌, cond, List, map, eqb, get_or, replicate}
use Rattle.laws.specs.Tests.{count}
use Rattle.laws.specs.Lists.{puts}
use Rattle.sheet_spec.specs.Job.{is_input}
use Rattle.stored_spec.specs.Rails.{rails}
pub use Rattle.cutting.specs.declared.levels.Level.{Level}

abbrev pub no_level : Level
no_level = record { rails = 0; inputs = 0 }

-- the rails and the inputs of levels
unfoldable pub rails_of : List Level → List ℕ
rails_of = map (λ x. x.rails)

unfoldable pub inputs_of : List Level → List ℕ
inputs_of = map (λ x. x.inputs)

-- the inputs at heights h to 1 of an order of t variables
unfoldable pub inputs_in : ℕ → List ℕ → ℕ → ℕ
inputs_in t order h = count h (λ k. is_input (get_or order (t - suc k) 0))

-- ws are the widths at the heights below t; at t the width is 1
unfoldable pub rails_in : ℕ → List ℕ → ℕ → ℕ
rails_in t ws h = cond (eqb h t) 0 (rails (get_or ws h 0))

abbrev pub level_in : ℕ → List ℕ → List ℕ → ℕ → Level
level_in t order ws h = record { rails = rails_in t ws h; inputs = inputs_in t order h }

-- an array of 21 levels with those of the heights 0 to t at its front, else of none
unfoldable pub levelled : ℕ → List ℕ → List ℕ → List Level
levelled t order ws = puts (t + 1) (level_in t order ws) (replicate 21 no_level)
