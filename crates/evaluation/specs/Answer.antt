-- What the code answers of an evaluation.
-- Assumes nothing.
use Rattle.std.specs.Prelude.{ℕ, List, Result, Ok, Err, get_or, replicate}
use Rattle.refusals.specs.declared.Refusal.{Refusal}
use Rattle.refusals.specs.Numbers.{number}
use Rattle.laws.specs.Lists.{tab}
use Rattle.sheet_spec.specs.Limits.{most_outputs}
use Rattle.evaluation_spec.specs.Known.{Evaluated, refused, evaluated, unknown}
use Rattle.evaluation_spec.specs.RailSets.{told_of}

-- 0 and the outputs, each 0, 1 or 2 for unknown, or the number and nothing known
pub record Evaluation : Type 0 where
  pub refusal : ℕ
  pub outputs : List ℕ

abbrev pub evaluation_given : Result (List ℕ) Refusal → Evaluation
evaluation_given (Ok outs) = record { refusal = 0; outputs = outs }
evaluation_given (Err r) = record { refusal = number r; outputs = replicate most_outputs unknown }

abbrev pub evaluation_of : Evaluated → Evaluation
evaluation_of (refused n) = record { refusal = n; outputs = replicate most_outputs unknown }
evaluation_of (evaluated outs) = record { refusal = 0; outputs = outs }

-- the eight outputs, where these are the outputs by the bits that some row has and by those that each has
unfoldable pub told_by : List ℕ → List ℕ → List ℕ
told_by some each = tab 8 (λ o. told_of (get_or some o 2) (get_or each o 2))
