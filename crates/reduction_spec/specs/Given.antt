-- The answer of the reduction that the code's result holds.
-- Assumes nothing.
use Rattle.std.specs.Prelude.{ℕ, Result, Ok, Err}
use Rattle.refusals.specs.declared.Refusal.{Refusal}
use Rattle.refusals.specs.Numbers.{number}
use Rattle.reduction_spec.specs.Reduction.{Reduction}

-- the number of nodes, or the refusal's number
abbrev pub reduction_given : Result ℕ Refusal → Reduction
reduction_given (Ok n) = record { refusal = 0; nodes = n }
reduction_given (Err r) = record { refusal = number r; nodes = 0 }
