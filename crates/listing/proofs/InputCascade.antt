-- The cascade of the input's job, by what the compiler answered and wrote: evaluated, and as a line.
-- Assumes nothing.
use mathlib.Core.Path.{◌≡◌, sym, ◌∙◌, ap, ap₂}
use mathlib.Core.Bool.{true}
use mathlib.Core.List.{List}
use Prim.Native.Nat.{ℕ, ◌*◌}
use native.Mathlib.Omega.{arith}
use lib.Dec.{eqb}
use lib.ListN.{take, replicate}
use borrow.Author.Tests.{eq-eqb, ne_eqb}
use Rattle.laws.proofs.Cases.{cond_yes, cond_no}
use Rattle.refusals.specs.declared.Refusal.{Refusal}
use Rattle.refusals.specs.Numbers.{number}
use Rattle.refusals.proofs.Promises.{never-zero}
use Rattle.stored_spec.specs.RowBytes.{two_bytes, room}
use Rattle.stored_spec.proofs.Promises.{room_two}
use Rattle.cutting.specs.Outcome.{Answered}
use Rattle.evaluation_spec.specs.Known.{evaluate}
use Rattle.evaluation.specs.Answer.{Evaluation, evaluation_of}
use Rattle.node_table.specs.Nodes.{WholeOutcome, whole_outcome_of, whole_outcome}
use Rattle.block_text.specs.BlockLine.{WrittenLine, write_line}
use Rattle.listing.specs.Split.{variables, job_of, sheet_of}
use Rattle.listing.specs.Known.{evaluate_written, evaluate_input}
use Rattle.listing.specs.Block.{compiled_input, input_records, input_rows, block_input}

-- the memories lent, all zeros, and after
module _ (input records rows : List ℕ) (a : Answered) (R Q : List ℕ) (empty : records ≡ replicate 80 0) (none : rows ≡ replicate 65536 0)
    (e : whole_outcome_of a R Q ≡ whole_outcome records rows (job_of input) (sheet_of input)) where
  pub whole : whole_outcome_of a R Q ≡ compiled_input input
  whole = e ∙ ap₂ (λ (x y : List ℕ). whole_outcome x y (job_of input) (sheet_of input)) empty none

  pub records-lent : (k : ℕ) → k ≡ 4 * variables input → take k R ≡ input_records input
  unfolding input_records
  records-lent k h = ap (λ (n : ℕ). take n R) h ∙ ap (λ (o : WholeOutcome). take (4 * variables input) o.records) whole

  pub rows-lent : (k : ℕ) → k ≡ a.rows * 2 → take k Q ≡ input_rows input
  unfolding input_rows
  rows-lent k h =
      let all : k ≡ room two_bytes a.rows = omega (arith, room_two a.rows) in
      ap (λ (n : ℕ). take n Q) all ∙ ap (λ (o : WholeOutcome). take (room two_bytes o.answer.rows) o.rows) whole

module _ (input : List ℕ) (r : Refusal) (e : number r ≡ (compiled_input input).answer.refusal) where
  some : (compiled_input input).answer.refusal ≡ 0 → ⊥
  some z = never-zero r (e ∙ z)

  pub evaluated_refused : (known w : ℕ) → record { refusal = number r; outputs = replicate 8 2 } ≡ evaluation_of (evaluate_input input known w)
  unfolding evaluate_input evaluate_written
  evaluated_refused known w =
      ap (λ (n : ℕ). record { refusal = n; outputs = replicate 8 2 }) e
      ∙ ap evaluation_of (sym (cond_no (eqb (compiled_input input).answer.refusal 0) _ _ (ne_eqb (compiled_input input).answer.refusal 0 some)))

  pub line_refused : (old : List ℕ) → record { refusal = number r; size = 0; text = old } ≡ block_input input old
  unfolding block_input
  line_refused old =
      ap (λ (n : ℕ). record { refusal = n; size = 0; text = old }) e
      ∙ sym (cond_no (eqb (compiled_input input).answer.refusal 0) _ _ (ne_eqb (compiled_input input).answer.refusal 0 some))

module _ (input : List ℕ) (zero : 0 ≡ (compiled_input input).answer.refusal) (R Q : List ℕ) (er : R ≡ input_records input) (eq : Q ≡ input_rows input) where
  is_zero : eqb (compiled_input input).answer.refusal 0 ≡ true
  is_zero = eq-eqb (compiled_input input).answer.refusal 0 (sym zero)

  pub evaluated_accepted : (known w : ℕ) (o : Evaluation) → o ≡ evaluation_of (evaluate R Q known w) → o ≡ evaluation_of (evaluate_input input known w)
  unfolding evaluate_input evaluate_written input_records input_rows
  evaluated_accepted known w o h =
      h ∙ ap₂ (λ (x y : List ℕ). evaluation_of (evaluate x y known w)) er eq
      ∙ ap evaluation_of (sym (cond_yes (eqb (compiled_input input).answer.refusal 0) _ _ is_zero))

  pub line_accepted : (old : List ℕ) (o : WrittenLine) → o ≡ write_line R Q old → o ≡ block_input input old
  unfolding block_input
  line_accepted old o h =
      h ∙ ap₂ (λ (x y : List ℕ). write_line x y old) er eq ∙ sym (cond_yes (eqb (compiled_input input).answer.refusal 0) _ _ is_zero)
