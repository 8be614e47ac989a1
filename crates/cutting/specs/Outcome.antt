-- What the compiler's code gives back: the answer as one structure, and the three memories after.
-- Assumes nothing.
use Rattle.std.specs.Prelude.{ℕ, ◌*◌, ◌/◌, cond, List, Result, Ok, Err, ltb, replicate}
use Rattle.laws.specs.Lists.{written}
use Rattle.refusals.specs.declared.Refusal.{Refusal}
use Rattle.refusals.specs.Numbers.{number}
use Rattle.sheet_spec.specs.Job.{Job}
use Rattle.cutting_spec.specs.Compile.{Answer, refused, accepted, CompiledAs, compile_words}
use Rattle.cutting.specs.declared.Compilation.{Compilation}

-- a refusal, 1 to 11, or 0 and the totals
pub record Answered : Type 0 where
  pub refusal : ℕ
  pub nodes : ℕ
  pub cells : ℕ
  pub rows : ℕ
  pub bits : ℕ
  pub widths : List ℕ

-- a refusal is its number alone; on acceptance the number is 0 and 20 places hold the widths at the heights 0 to t - 1, then zeros
abbrev pub answered : Answer → Answered
answered (refused n) = record { refusal = n; nodes = 0; cells = 0; rows = 0; bits = 0; widths = replicate 20 0 }
answered (accepted a) =
    record { refusal = 0; nodes = a.nodes; cells = a.cells; rows = a.rows; bits = a.bits; widths = written (replicate 20 0) 0 a.widths }

-- what the code answers
abbrev pub compilation_given : Result Compilation Refusal → Answered
compilation_given (Ok a) = record { refusal = 0; nodes = a.nodes; cells = a.cells; rows = a.rows; bits = a.bits; widths = a.widths }
compilation_given (Err r) = answered (refused (number r))

pub record Outcome : Type 0 where
  pub answer : Answered
  pub nodes : List ℕ
  pub records : List ℕ
  pub rows : List ℕ

abbrev pub outcome_of : Answered → List ℕ → List ℕ → List ℕ → Outcome
outcome_of a nodes records rows = record { answer = a; nodes = nodes; records = records; rows = rows }

abbrev pub shown : CompiledAs ℕ → Outcome
shown c = outcome_of (answered c.answer) c.nodes c.records c.rows

unfoldable pub outcome : List ℕ → List ℕ → List ℕ → Job → List ℕ → Outcome
outcome nodes records rows j s = shown (compile_words nodes records rows j s)

-- 9 to 11 for a plan of so many nodes, variables and rows and memories of these lengths; 0 where there is none
unfoldable pub memory_refusal : ℕ → ℕ → ℕ → ℕ → ℕ → ℕ → ℕ
memory_refusal made t total nodes records rows =
    cond (ltb nodes (made * 3)) 9 (cond (ltb records (t * 4)) 10 (cond (ltb (rows / 2) total) 11 0))
