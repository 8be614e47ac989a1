-- `find_rails` finds the rails of a cell.
-- Assumes nothing.
use mathlib.Core.Path.{◌≡◌, refl, sym, ◌∙◌, ap, ap₂}
use mathlib.Core.Bool.{Bool, ◌&&◌}
use Prim.Native.Nat.{ℕ}
use native.Mathlib.Omega.{arith}
use lib.Dec.{eqb}
use borrow.Author.Tests.{eqb-true}
use Rattle.laws.proofs.Cases.{and_split}
use Rattle.stored_spec.specs.StoredForm.{record_count, cut_byte, rail_byte}
use Rattle.stored.proofs.CellReads.{cells-none}
use Rattle.stored.proofs.CellFound.{rails, rails_found, rails_none, not_yet, some_is}
use Rattle.stored.proofs.Walks.{cell_begun, upper_begun}
use Rattle.stored.proofs.reads.find_rails.Goals as goal

pub loop-i-init : goal.loop-i-init
loop-i-init c =
    let R = c.args.records.now in
    let none = cells-none R in
    (c.start-walk.ensures R, omega arith)

pub returns-then-is_some-begun : goal.returns-then-is_some-begun
returns-then-is_some-begun c =
    let R = c.args.records.now in
    let l = c.loop-i in
    let (some, here) = and_split _ (eqb l.walk.cell c.args.k) c.if-is_some-begun.true in
    let cut = sym (c.is_some.ensures ∙ some_is R l.i c.args.k c.next.ensures.0) ∙ some in
    let at = sym (cell_begun R l.i l.invariant.0) ∙ eqb-true l.walk.cell c.args.k here in
    ap (λ (u : ℕ). rails u (rail_byte R l.i)) (upper_begun R l.i l.invariant.0) ∙ rails_found R l.i c.args.k cut at c.loop-i-test.true

pub loop-i-preserved : goal.loop-i-preserved
loop-i-preserved c =
    let R = c.args.records.now in
    let l = c.loop-i in
    let test = ap₂ (λ (b : Bool) (n : ℕ). b && eqb n c.args.k) (c.is_some.ensures ∙ some_is R l.i c.args.k c.next.ensures.0) (cell_begun R l.i l.invariant.0) in
    (c.next.ensures.1, not_yet R l.i c.args.k (eqb (cut_byte R l.i) 1) refl (sym test ∙ c.if-is_some-begun.false) l.invariant.1)

pub returns : goal.returns
returns c =
    let R = c.args.records.now in
    let e : c.loop-i.i ≡ record_count R = omega arith in
    rails_none R c.args.k (rw e at c.loop-i.invariant.1)
