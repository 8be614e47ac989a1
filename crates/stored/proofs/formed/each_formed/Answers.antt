-- `each_formed` tests each record, by its bytes and by the bit of its variable.
-- Assumes nothing.
use mathlib.Core.Path.{◌≡◌, refl, sym, ◌∙◌}
use Prim.Native.Nat.{◌<◌}
use lib.Bits.{bit_and}
use native.Mathlib.Omega.{arith}
use borrow.Author.Tests.{eq-eqb, ne_eqb}
use Rattle.laws.specs.Bits.{marks}
use Rattle.laws.proofs.Marks.{marks-step}
use Rattle.laws.proofs.Tests.{every_more}
use Rattle.stored_spec.specs.StoredForm.{record_count}
use Rattle.stored.proofs.formed.RecordBits.{bytes_formed, place_first, bit_at, seen_first, each_holds, bytes_fail, place_fails, name_fails, bytes_are}
use Rattle.stored.proofs.formed.each_formed.Goals as goal

pub loop-i-init : goal.loop-i-init
unfolding marks
loop-i-init c = (refl, refl, refl)

pub returns-then-not-named : goal.returns-then-not-named
returns-then-not-named c =
    let l = c.loop-i in
    let R = c.args.records.now in
    let less : l.i < record_count R = c.loop-i-test.true in
    let n = c.named in
    bytes_fail R (record_count R) l.i less (name_fails R l.i refl n.ensures c.if-not-named.true)

pub returns-then-not-cut_formed : goal.returns-then-not-cut_formed
returns-then-not-cut_formed c =
    let l = c.loop-i in
    let R = c.args.records.now in
    let less : l.i < record_count R = c.loop-i-test.true in
    let n = c.named in
    let f = c.cut_formed in
    bytes_fail R (record_count R) l.i less
    (bytes_are R l.i refl n.ensures refl refl refl
    f.ensures c.if-not-named.false
    ∙ c.if-not-cut_formed.true)

pub returns-then-seen-bit-ne0 : goal.returns-then-seen-bit-ne0
returns-then-seen-bit-ne0 c =
    let l = c.loop-i in
    let R = c.args.records.now in
    let less : l.i < record_count R = c.loop-i-test.true in
    let bit = c.variable_bit-bit.ensures in
    place_fails R (record_count R) l.i less
    (sym (seen_first R l.i l.invariant.2 bit) ∙ ne_eqb (bit_and l.seen c.variable_bit-bit.result) 0 c.if-seen-bit-ne0.true)

pub loop-i-preserved : goal.loop-i-preserved
loop-i-preserved c =
    let l = c.loop-i in
    let R = c.args.records.now in
    let less : l.i < record_count R = c.loop-i-test.true in
    let bit = c.variable_bit-bit.ensures in
    let n = c.named in
    let f = c.cut_formed in
    let bytes =
    bytes_are R l.i refl n.ensures refl refl refl
    f.ensures c.if-not-named.false
    ∙ c.if-not-cut_formed.false in
    let place = sym (seen_first R l.i l.invariant.2 bit) ∙ eq-eqb (bit_and l.seen c.variable_bit-bit.result) 0 c.if-seen-bit-ne0.false in (
      every_more (bytes_formed R) l.i l.invariant.0 bytes,
      every_more (place_first R) l.i l.invariant.1 place,
      marks-step (bit_at R) l.i l.seen _ l.invariant.2 bit,
    )

pub returns : goal.returns
returns c =
    let R = c.args.records.now in
    let l = c.loop-i in
    let e : l.i ≡ record_count R = omega arith in
    each_holds R (record_count R) (rw e at l.invariant.0) (rw e at l.invariant.1)
