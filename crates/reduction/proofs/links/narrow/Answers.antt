-- `reduction::links::narrow` meets its contract.
-- Assumes nothing.
use mathlib.Core.Path.{◌≡◌, refl, sym, ◌∙◌, ap, ap₂}
use mathlib.Core.List.{List}
use Prim.Native.Nat.{ℕ}
use lib.Bits.{bit_and}
use lib.ListN.{get_or}
use Rattle.laws.proofs.Puts.{puts_none, puts-next, get_or_unput}
use Rattle.laws.specs.Bits.{marks}
use Rattle.reduction.specs.FirstBytes.{narrowed}
use Rattle.laws.proofs.Marks.{marks-step}
use native.Mathlib.Omega.{arith}
use Rattle.reduction.proofs.links.narrow.Goals as goal

pub loop-d-init : goal.loop-d-init
unfolding marks
loop-d-init c =
    let a = c.args in
    (refl, sym (puts_none (narrowed a.z a.y a.from a.bytes.now.zero a.bytes.now.one a.row.now) a.row.now))

pub loop-d-preserved : goal.loop-d-preserved
unfolding narrowed
loop-d-preserved c =
    let l = c.loop-d in
    let a = c.args in
    let f : ℕ → ℕ = narrowed a.z a.y a.from a.bytes.now.zero a.bytes.now.one a.row.now in
    let old : get_or l.row l.d 0 ≡ get_or a.row.now l.d 0 =
    ap (λ (s : List ℕ). get_or s l.d 0) l.invariant.1 ∙ get_or_unput f l.d a.row.now 0 l.d (omega arith) in
    let new : bit_and (get_or l.row l.d 0) c.none.result ≡ f l.d = ap₂ bit_and old c.none.ensures in
    (marks-step f l.d l.left _ l.invariant.0 new, puts-next f l.d a.row.now l.row _ l.invariant.1 new)

pub returns : goal.returns
returns c =
    let l = c.loop-d in
    let e : l.d ≡ c.args.w = omega arith in
    record {
      value = rw e at l.invariant.0;
      row_after = rw e at l.invariant.1;
    }
