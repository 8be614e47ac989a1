-- What an evaluation of a compiled block shows where some inputs are unknown (document 02, §5).
-- Assumes nothing.
use Rattle.std.specs.Prelude.{◌≡◌, true, List, ℕ, ◌<◌, get_or}
use Rattle.sheet_spec.specs.Job.{Job}
use Rattle.bank_spec.specs.Book.{Block}
use Rattle.bank_spec.specs.Demand3.{SetAllowed}
use Rattle.evaluation_spec.specs.Known.{fills, evaluated, evaluate}

-- it is not refused, and an output that it shows as 0 or 1 is allowed by the sheet for every filling of the unknown inputs
pub record ShownAllowed (j : Job) (s : List ℕ) (B : Block) (known w : ℕ) : Type 0 where
  pub outputs : List ℕ
  pub shown : evaluate B.records B.rows known w ≡ evaluated outputs
  pub allowed : (o b : ℕ) → o < j.m → b < 2 → get_or outputs o 2 ≡ b → (v : ℕ) → v < 4096 → fills known w v ≡ true → SetAllowed s v o b
