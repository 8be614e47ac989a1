-- `sheet::pairs::add_kinds` meets its contract.
-- Assumes nothing.
use mathlib.Core.Path.{◌≡◌, sym, ap, ap₂}
use Prim.Native.Nat.{ℕ, ◌*◌, ◌/◌, ◌%◌}
use native.Mathlib.Omega.{arith}
use lib.Bits.{bit_or}
use lib.ListN.{length, get_or}
use Rattle.laws.proofs.Puts.{puts_none, puts-next, get_or-next}
use Rattle.sheet_spec.specs.Records.{kind}
use Rattle.sheet.proofs.pairs.add_kinds.Goals as goal

pub loop-r-init : goal.loop-r-init
loop-r-init c =
    let a = c.args in (
      sym (puts_none (λ k. bit_or (get_or a.tests.now.masks k 0) 32768) a.tests.now.masks),
      sym (puts_none (λ k. bit_or (get_or a.tests.now.values k 0) (kind a.sheet.now.bytes.now k % 2 * 32768)) a.tests.now.values),
    )

pub loop-r-preserved : goal.loop-r-preserved
loop-r-preserved c =
    let l = c.loop-r in
    let a = c.args in
    let f : ℕ → ℕ = λ k. bit_or (get_or a.tests.now.masks k 0) 32768 in
    let g : ℕ → ℕ = λ k. bit_or (get_or a.tests.now.values k 0) (kind a.sheet.now.bytes.now k % 2 * 32768) in (
      puts-next f l.r a.tests.now.masks l.tests.masks _ l.invariant.0 (ap (λ (v : ℕ). bit_or v 32768) (get_or-next f l.r a.tests.now.masks l.tests.masks 0 l.invariant.0)),
      puts-next g l.r a.tests.now.values l.tests.values _ l.invariant.1
          (ap₂ (λ (v b : ℕ). bit_or v (b * 32768)) (get_or-next g l.r a.tests.now.values l.tests.values 0 l.invariant.1) c.from.ensures),
    )

pub returns : goal.returns
returns c =
    let l = c.loop-r in
    let e : l.r ≡ length c.args.sheet.now.bytes.now / 8 = omega arith in
    record { masks_after = rw e at l.invariant.0; values_after = rw e at l.invariant.1 }
