-- `call_text::lines::read_line` meets its contract.
-- Assumes nothing.
use mathlib.Core.Path.{◌≡◌, refl, sym, ◌∙◌, ap, ap₂}
use mathlib.Core.Bool.{Bool, true, false, ◌||◌}
use mathlib.Core.List.{List, [], ◌∷◌}
use Prim.Native.Nat.{ℕ}
use native.Mathlib.Omega.{arith}
use lib.Dec.{eqb}
use lib.ListN.{length}
use borrow.Author.Tests.{eqb-true}
use Rattle.std.specs.Prelude.{Some, None}
use Rattle.std.specs.Str.{bytes_eq}
use Rattle.laws.proofs.Cases.{and_split}
use Rattle.laws.proofs.Filled.{written_none}
use Rattle.call_text.specs.Words.{begins}
use Rattle.call_text.specs.Lines.{bank_line, latch_line, admit_line, step_word, bank_word, latch_word, admit_word}
use Rattle.call_text.proofs.CallLaws.{set-written, no_call, call}
use Rattle.call_text.proofs.LineCases.{passed, is_step, line_passed, line_step, line-bank, line-latch, line-admit, line_other, line_read}
use Rattle.call_text.proofs.Scans.{step_read}
use Rattle.call_text.proofs.lines.read_line.Goals as goal

pub returns-then-is_empty-byte_at : goal.returns-then-is_empty-byte_at
returns-then-is_empty-byte_at c =
    let a = c.args in
    let l = a.line.now in
    let p : passed l ≡ true = ap₂ (λ (b : Bool) (x : ℕ). b || eqb x 35) (sym c.is_empty.ensures) (sym c.byte_at.ensures) ∙ c.if-is_empty-byte_at.true in
    let done = line_read l (call []) (Some 0) a.code.now a.code.now a.at (line_passed l p) (refl, sym (written_none a.code.now a.at)) in
    record { value = done.0; within = done.1; code_after = done.2 }

pub bounds-code-at : goal.bounds-code-at
bounds-code-at c =
    let a = c.args in
    let l = a.line.now in
    let s : is_step l ≡ true = sym (step_read l) ∙ ap (λ (k : List ℕ). bytes_eq l k) (sym c.as_slice.ensures) ∙ sym c.eq.ensures ∙ c.if-eq.true in
    let four = eqb-true (length l) 4 (and_split (eqb (length l) 4) (begins step_word l) s).0 in
    omega (arith, c.requires)

pub returns-then-eq : goal.returns-then-eq
returns-then-eq c =
    let a = c.args in
    let l = a.line.now in
    let p : passed l ≡ false = ap₂ (λ (b : Bool) (x : ℕ). b || eqb x 35) (sym c.is_empty.ensures) (sym c.byte_at.ensures) ∙ c.if-is_empty-byte_at.false in
    let s : is_step l ≡ true = sym (step_read l) ∙ ap (λ (k : List ℕ). bytes_eq l k) (sym c.as_slice.ensures) ∙ sym c.eq.ensures ∙ c.if-eq.true in
    let four = eqb-true (length l) 4 (and_split (eqb (length l) 4) (begins step_word l) s).0 in
    let done = line_read l (call (3 ∷ [])) (Some 1) a.code.now _ a.at (line_step l p s) (refl, set-written a.code.now a.at 3 (omega (arith, c.requires))) in
    record { value = done.0; within = done.1; code_after = done.2 }

pub bank_line-requires : goal.bank_line-requires
bank_line-requires c =
    let (begun, is, long) = c.in-Some.ensures in
    omega (arith, long, c.requires)

pub returns-in-Some : goal.returns-in-Some
returns-in-Some c =
    let a = c.args in
    let l = a.line.now in
    let p : passed l ≡ false = ap₂ (λ (b : Bool) (x : ℕ). b || eqb x 35) (sym c.is_empty.ensures) (sym c.byte_at.ensures) ∙ c.if-is_empty-byte_at.false in
    let s : is_step l ≡ false = sym (step_read l) ∙ ap (λ (k : List ℕ). bytes_eq l k) (sym c.as_slice.ensures) ∙ sym c.eq.ensures ∙ c.if-eq.false in
    let (begun, is, long) = c.in-Some.ensures in
    let line = c.bank_line in
    let done = line_read l _ line.result a.code.now _ a.at (line-bank l p s begun ∙ ap bank_line (sym is)) (line.ensures.value, line.ensures.code_after) in
    record { value = done.0; within = done.1; code_after = done.2 }

pub latch_line-requires : goal.latch_line-requires
latch_line-requires c =
    let (begun, is, long) = c.in-Some-after.ensures in
    omega (arith, long, c.requires)

pub returns-in-Some-after : goal.returns-in-Some-after
returns-in-Some-after c =
    let a = c.args in
    let l = a.line.now in
    let p : passed l ≡ false = ap₂ (λ (b : Bool) (x : ℕ). b || eqb x 35) (sym c.is_empty.ensures) (sym c.byte_at.ensures) ∙ c.if-is_empty-byte_at.false in
    let s : is_step l ≡ false = sym (step_read l) ∙ ap (λ (k : List ℕ). bytes_eq l k) (sym c.as_slice.ensures) ∙ sym c.eq.ensures ∙ c.if-eq.false in
    let b : begins bank_word l ≡ false = c.in_default.ensures in
    let (begun, is, long) = c.in-Some-after.ensures in
    let line = c.latch_line in
    let done = line_read l _ line.result a.code.now _ a.at (line-latch l p s b begun ∙ ap latch_line (sym is)) (line.ensures.value, line.ensures.code_after) in
    record { value = done.0; within = done.1; code_after = done.2 }

pub admit_line-requires : goal.admit_line-requires
admit_line-requires c =
    let (begun, is, long) = c.in-Some-after-2.ensures in
    omega (arith, long, c.requires)

pub returns-in-Some-after-2 : goal.returns-in-Some-after-2
returns-in-Some-after-2 c =
    let a = c.args in
    let l = a.line.now in
    let p : passed l ≡ false = ap₂ (λ (b : Bool) (x : ℕ). b || eqb x 35) (sym c.is_empty.ensures) (sym c.byte_at.ensures) ∙ c.if-is_empty-byte_at.false in
    let s : is_step l ≡ false = sym (step_read l) ∙ ap (λ (k : List ℕ). bytes_eq l k) (sym c.as_slice.ensures) ∙ sym c.eq.ensures ∙ c.if-eq.false in
    let b : begins bank_word l ≡ false = c.in_default.ensures in
    let t : begins latch_word l ≡ false = c.in_default-after.ensures in
    let (begun, is, long) = c.in-Some-after-2.ensures in
    let line = c.admit_line in
    let done = line_read l _ line.result a.code.now _ a.at (line-admit l p s b t begun ∙ ap admit_line (sym is)) (line.ensures.value, line.ensures.code_after) in
    record { value = done.0; within = done.1; code_after = done.2 }

pub returns : goal.returns
returns c =
    let a = c.args in
    let l = a.line.now in
    let p : passed l ≡ false = ap₂ (λ (b : Bool) (x : ℕ). b || eqb x 35) (sym c.is_empty.ensures) (sym c.byte_at.ensures) ∙ c.if-is_empty-byte_at.false in
    let s : is_step l ≡ false = sym (step_read l) ∙ ap (λ (k : List ℕ). bytes_eq l k) (sym c.as_slice.ensures) ∙ sym c.eq.ensures ∙ c.if-eq.false in
    let b : begins bank_word l ≡ false = c.in_default.ensures in
    let t : begins latch_word l ≡ false = c.in_default-after.ensures in
    let d : begins admit_word l ≡ false = c.in_default-after-2.ensures in
    let done = line_read l no_call None a.code.now a.code.now a.at (line_other l p s b t d) (refl, sym (written_none a.code.now a.at)) in
    record { value = done.0; within = done.1; code_after = done.2 }
