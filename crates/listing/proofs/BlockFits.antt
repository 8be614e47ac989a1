-- The line of every accepted job fits: of records of at most 80 bytes and rows of at most 24,576 it has at most 49,320 bytes. So `block_input`, lent as
-- many, answers what the compiler answers.
-- Assumes nothing.
use mathlib.Core.Path.{◌≡◌, refl, sym, ◌∙◌, ap}
use mathlib.Core.List.{List}
use Prim.Native.Nat.{ℕ, ◌*◌, ◌≤◌}
use native.Mathlib.Omega.{arith}
use lib.Dec.{eqb}
use lib.ListN.{length, replicate, length-take}
use borrow.Author.Tests.{eq-eqb, ne_eqb}
use Rattle.laws.specs.Lists.{written}
use Rattle.laws.proofs.Cases.{by_equal, cond_yes, cond_no}
use Rattle.stored_spec.specs.RowBytes.{two_bytes, room}
use Rattle.stored_spec.proofs.Promises.{room_two}
use Rattle.block_text.specs.BlockLine.{block_line, WrittenLine}
use Rattle.block_text.proofs.Promises.{text_most, length-line, write-whole}
use Rattle.node_table.proofs.Promises.{whole-variables, whole-rows}
use Rattle.listing.specs.Split.{variables, job_of, sheet_of}
use Rattle.listing.specs.Block.{compiled_input, input_records, input_rows, block_input}

module _ (input : List ℕ) (e : (compiled_input input).answer.refusal ≡ 0) where
  pub records-few : length (input_records input) ≤ 80
  unfolding input_records
  records-few =
      omega (
        arith,
        whole-variables (replicate 80 0) (replicate 65536 0) (job_of input) (sheet_of input) e,
        length-take (4 * variables input) (compiled_input input).records,
      )

  pub rows_few : length (input_rows input) ≤ 24576
  unfolding input_rows
  rows_few =
      let n = (compiled_input input).answer.rows in
      omega (
        arith,
        whole-rows (replicate 80 0) (replicate 65536 0) (job_of input) (sheet_of input) e,
        room_two n,
        length-take (room two_bytes n) (compiled_input input).rows,
      )

  pub line-short : length (block_line (input_records input) (input_rows input)) ≤ 49320
  line-short =
      omega (
        arith,
        length-line (input_records input) (input_rows input),
        text_most (input_records input) 80 (omega arith) records-few,
        text_most (input_rows input) 24576 (omega arith) rows_few,
      )

-- an accepted job's line is written, whole
pub block-fits : (input old : List ℕ) → 49320 ≤ length old → (compiled_input input).answer.refusal ≡ 0
    → ((block_input input old).refusal ≡ 0) × ((block_input input old).text ≡ written old 0 (block_line (input_records input) (input_rows input)))
unfolding block_input
block-fits input old room e =
    let R = input_records input in
    let Q = input_rows input in
    let line = block_line R Q in
    let short = line-short input e in
    let is : block_input input old ≡ record { refusal = 0; size = length line; text = written old 0 line } =
    cond_yes (eqb (compiled_input input).answer.refusal 0) _ _ (eq-eqb (compiled_input input).answer.refusal 0 e)
    ∙ sym (write-whole R Q old (length line) (written old 0 line) (omega (arith, records-few input e)) (omega (arith, rows_few input e)) refl (omega arith) refl) in
    (ap (λ (w : WrittenLine). w.refusal) is, ap (λ (w : WrittenLine). w.text) is)

-- neither 11 nor 12 is of the line: every refusal is the compiler's
pub block_answers : (input old : List ℕ) → 49320 ≤ length old → (block_input input old).refusal ≡ (compiled_input input).answer.refusal
unfolding block_input
block_answers input old room =
    by_equal (compiled_input input).answer.refusal 0 (λ e. (block-fits input old room e).0 ∙ sym e)
    (λ some.
    ap (λ (w : WrittenLine). w.refusal)
    (cond_no (eqb (compiled_input input).answer.refusal 0) _ _ (ne_eqb (compiled_input input).answer.refusal 0 some)))
