-- The line that admits a block, read back, is for `replay` exactly the one call that admits its records and rows, for
-- every scan.
-- Assumes nothing.
use mathlib.Core.Path.{◌≡◌, sym, ◌∙◌, ap, ap₂}
use mathlib.Core.Bool.{true}
use mathlib.Core.List.{List, [], ◌∷◌, ◌++◌}
use Prim.Native.Nat.{ℕ, ◌+◌, ◌/◌, ◌%◌, ◌≤◌}
use native.Mathlib.Omega.{arith}
use lib.ListN.{length, take, length-append}
use Rattle.laws.specs.Lists.{written}
use Rattle.laws.proofs.Filled.{written_front}
use Rattle.bank_spec.specs.Calls.{every_scan}
use Rattle.bank_spec.specs.CallLists.{admission}
use Rattle.call_text.specs.Lines as lines
use Rattle.call_text.specs.Lines.{Read, read_text}
use Rattle.block_text.specs.BlockLine.{block_line}
use Rattle.block_text.proofs.Promises.{AreBytes, read_back}
use Rattle.replay.specs.Coded.{calling, calls_in, readable, older_code}
use Rattle.replay.proofs.Promises.{older_calls, older_readable}

length-call : (R Q : List ℕ) → length (lines.admission R Q) ≡ 6 + length R + length Q
length-call R Q = omega (arith, length-append R Q)

module _ (R Q : List ℕ) (are-R : AreBytes R) (are-Q : AreBytes Q) (few-R : length R ≤ 65535) (few-Q : length Q ≤ 65535) where
  older_coded : older_code R Q ≡ lines.admission R Q
  older_coded =
      let middle : length Q / 256 % 256 ≡ length Q / 256 = omega arith in
      let last : length Q / 65536 ≡ 0 = omega arith in
      ap₂ (λ (x y : ℕ). 1 ∷ length R % 256 ∷ length R / 256 ∷ length Q % 256 ∷ x ∷ y ∷ (R ++ Q)) middle last

  -- the bytes of the call
  pub admits_block : calls_in (lines.admission R Q) ≡ calling (admission (every_scan R Q)) ∷ []
  admits_block = ap calls_in (sym older_coded) ∙ older_calls R Q

  pub block-readable : readable (lines.admission R Q) ≡ true
  block-readable = ap readable (sym older_coded) ∙ older_readable R Q

  -- the line, from any line number on, in any memory that is long enough
  pub line_admits_block : (k : ℕ) (code : List ℕ) → length (block_line R Q) ≤ length code
      → ((read_text (block_line R Q) k code).bad_line ≡ 0)
      × (calls_in (take (read_text (block_line R Q) k code).size (read_text (block_line R Q) k code).code) ≡ calling (admission (every_scan R Q)) ∷ [])
  line_admits_block k code room =
      let e = read_back R Q are-R are-Q few-R few-Q k code room in
      let size = sym (length-call R Q) in (
        ap (λ (r : Read). r.bad_line) e,
        ap (λ (r : Read). calls_in (take r.size r.code)) e
            ∙ ap (λ (n : ℕ). calls_in (take n (written code 0 (lines.admission R Q)))) size
            ∙ ap calls_in (written_front (lines.admission R Q) code)
            ∙ admits_block,
      )
