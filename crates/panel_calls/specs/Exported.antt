-- The compiler's answer as C gets it: the totals as a structure, and the widths in a lent array.
-- Assumes nothing.
use Rattle.std.specs.Prelude.{ℕ, cond, List, eqb, get_or}
use Rattle.laws.specs.Lists.{puts}
use Rattle.sheet_spec.specs.Job.{Job}
use Rattle.cutting.specs.Outcome.{Answered, outcome}
use Rattle.evaluation_spec.specs.Known.{Evaluated, refused, evaluated}
pub use Rattle.panel_calls.specs.declared.Totals.{Totals}

-- a refusal, or 0 and the totals
unfoldable pub totals_of : Answered → Totals
totals_of c = record { refusal = c.refusal; nodes = c.nodes; cells = c.cells; rows = c.rows; bits = c.bits }

-- 20 lent widths after: unchanged on a refusal, else the widths at the heights 0 to t - 1, then zeros
unfoldable pub widths_lent : Answered → List ℕ → List ℕ
widths_lent c old = let made = puts 20 (λ h. get_or c.widths h 0) old in cond (eqb c.refusal 0) made old

-- the answer, and each memory that is lent, after
pub record CompiledBytes : Type 0 where
  pub answer : Totals
  pub nodes : List ℕ
  pub records : List ℕ
  pub rows : List ℕ
  pub widths : List ℕ

abbrev pub compiled_of : Totals → List ℕ → List ℕ → List ℕ → List ℕ → CompiledBytes
compiled_of a nodes records rows widths = record { answer = a; nodes = nodes; records = records; rows = rows; widths = widths }

unfoldable pub compile_bytes : List ℕ → List ℕ → List ℕ → List ℕ → Job → List ℕ → CompiledBytes
compile_bytes nodes records rows widths j s =
    let c = outcome nodes records rows j s in
    compiled_of (totals_of c.answer) c.nodes c.records c.rows (widths_lent c.answer widths)

-- what an evaluation answers, and the lent outputs after: written where it is 0, else as they were
pub record EvaluationBytes : Type 0 where
  pub answer : ℕ
  pub outputs : List ℕ

abbrev pub known_of : ℕ → List ℕ → EvaluationBytes
known_of n outs = record { answer = n; outputs = outs }

abbrev pub known_bytes : Evaluated → List ℕ → EvaluationBytes
known_bytes (refused n) old = known_of n old
known_bytes (evaluated outs) old = known_of 0 outs
