-- `evaluation::cells::set_bits` sets the outputs of a cell.
-- Assumes nothing.
use mathlib.Core.Path.{◌≡◌, sym, ◌∙◌, ap₂, subst}
use Prim.Native.Nat.{ℕ, ◌-◌}
use native.Mathlib.Omega.{arith}
use lib.Dec.{ltb}
use Rattle.laws.specs.Bits.{bit}
use Rattle.stored_spec.specs.RowBytes.{two_bytes}
use Rattle.stored_spec.proofs.FormedCells.{small_output}
use Rattle.stored_spec.proofs.StoredParts.{records_have}
use Rattle.evaluation.specs.Answer.{told_by}
use Rattle.evaluation.proofs.cells.CellBits.{SetTo, set_to, length-set_to, to-none, set-none, some-bit, few_bits, to_more, set_more, set_all}
use Rattle.evaluation.proofs.cells.ToldOutputs.{told_turn}
use Rattle.evaluation.proofs.cells.set_bits.Goals as goal

pub loop-i-init : goal.loop-i-init
loop-i-init c =
    let a = c.args in
    let pre = c.requires in
    let R = a.records.now in
    let F = a.first in (
      subst (λ (n : ℕ). SetTo R a.last F F n) (sym pre.3) (to-none R a.last F pre.0 pre.1 pre.2 pre.4),
      λ some each p q e.
          subst (λ (n : ℕ). a.outputs.now ≡ told_by (set_to R a.last some a.seen.some F n) (set_to R a.last each a.seen.each F n)) (sym pre.3)
          (e ∙ sym (ap₂ told_by (set-none R a.last F pre.0 pre.1 pre.2 pre.4 some a.seen.some) (set-none R a.last F pre.0 pre.1 pre.2 pre.4 each a.seen.each))),
    )

pub overflow_mul-i : goal.overflow_mul-i
overflow_mul-i c =
    let pre = c.requires in
    omega (arith, c.loop-i-test.true, pre.1, (records_have two_bytes c.args.records.now pre.0).few)

pub bounds-records-i : goal.bounds-records-i
bounds-records-i c =
    let pre = c.requires in
    omega (arith, c.loop-i-test.true, pre.1, (records_have two_bytes c.args.records.now pre.0).whole)

pub set_output-e-requires : goal.set_output-e-requires
set_output-e-requires c =
    let a = c.args in
    let pre = c.requires in
    let l = c.loop-i in
    let R = a.records.now in
    let more = c.loop-i-test.true in
    let read = c.from.ensures in (
      λ h. (
        some-bit R a.last a.first pre.0 pre.1 pre.2 pre.4 l.invariant.0 more read h,
        omega (arith, read, small_output R l.i ((records_have two_bytes R pre.0).each l.i (omega (arith, more, pre.1))) (omega (arith, read, h))),
      ),
      few_bits R a.last a.first pre.0 pre.1 pre.2 pre.4 l.invariant.0 more read,
    )

pub loop-i-preserved : goal.loop-i-preserved
loop-i-preserved c =
    let a = c.args in
    let pre = c.requires in
    let l = c.loop-i in
    let R = a.records.now in
    let more = c.loop-i-test.true in
    let read = c.from.ensures in
    let e = c.set_output-e.ensures in
    let s = l.invariant.0 in (
      to_more R a.last a.first pre.0 pre.1 pre.2 pre.4 s more read e.0,
      λ some each p q t.
          e.1
          ∙ told_turn (ltb c.from.result 128) (set_to R a.last some a.seen.some l.e l.i) (set_to R a.last each a.seen.each l.e l.i)
          (c.from.result - 128) (bit a.seen.some (l.e - 1)) (bit a.seen.each (l.e - 1))
          (length-set_to R a.last some a.seen.some l.e l.i p) (length-set_to R a.last each a.seen.each l.e l.i q) (l.invariant.1 some each p q t)
          ∙ ap₂ told_by (set_more R a.last a.first pre.0 pre.1 pre.2 pre.4 s more read e.0 some a.seen.some)
          (set_more R a.last a.first pre.0 pre.1 pre.2 pre.4 s more read e.0 each a.seen.each),
    )

pub returns : goal.returns
returns c =
    let a = c.args in
    let pre = c.requires in
    let l = c.loop-i in
    let R = a.records.now in
    let end = c.loop-i-test.false in
    λ some each p q t.
    l.invariant.1 some each p q t
    ∙ ap₂ told_by (set_all R a.last a.first pre.0 pre.1 pre.2 pre.4 l.invariant.0 end some a.seen.some)
    (set_all R a.last a.first pre.0 pre.1 pre.2 pre.4 l.invariant.0 end each a.seen.each)
