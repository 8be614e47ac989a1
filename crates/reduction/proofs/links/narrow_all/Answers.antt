-- `reduction::links::narrow_all` meets its contract.
-- Assumes nothing.
use mathlib.Core.Path.{◌≡◌, sym, ◌∙◌}
use mathlib.Core.Bool.{false, true≢false}
use Prim.Native.Nat.{◌+◌}
use Rattle.laws.specs.Tests.{any}
use Rattle.reduction.specs.FirstBytes.{other, agree_to}
use Rattle.laws.proofs.Bits.{flag-zero}
use Rattle.reduction.proofs.links.FirstBytes.{flags_ext, agree_none}
use Rattle.reduction.proofs.links.LinkRows.{fewer_left, narrow_step, narrow_done}
use native.Mathlib.Omega.{arith}
use Rattle.reduction.proofs.links.narrow_all.Goals as goal

pub loop-x-init : goal.loop-x-init
loop-x-init c =
    let a = c.args in
    flags_ext a.w (other a.c) a.row.now c.requires.2 (agree_to a.bytes.now.zero a.bytes.now.one a.c 0) (λ d k. agree_none a.bytes.now.zero a.bytes.now.one a.c d)

pub returns-then-left-eq0 : goal.returns-then-left-eq0
returns-then-left-eq0 c =
    let a = c.args in
    let l = c.loop-x in
    let n = c.narrow-left in
    let s = narrow_step a.bytes.now.zero a.bytes.now.one a.c a.w c.requires.1 l.x l.row _ n.result l.invariant n.ensures.value n.ensures.row_after in
    let e : any a.w (agree_to a.bytes.now.zero a.bytes.now.one a.c (l.x + 1)) ≡ false = flag-zero _ (sym s.1 ∙ c.if-left-eq0.true) in record {
      flags = narrow_done a.bytes.now.zero a.bytes.now.one a.c a.w c.requires.1 (l.x + 1) _ (omega arith) s.0 e;
      none_left = (λ z. fewer_left a.bytes.now.zero a.bytes.now.one a.c a.w (l.x + 1) (omega arith) e);
    }

pub loop-x-preserved : goal.loop-x-preserved
loop-x-preserved c =
    let a = c.args in
    let l = c.loop-x in
    let n = c.narrow-left in (narrow_step a.bytes.now.zero a.bytes.now.one a.c a.w c.requires.1 l.x l.row _ n.result l.invariant n.ensures.value n.ensures.row_after).0

pub returns : goal.returns
returns c =
    let l = c.loop-x in
    let e : l.x ≡ 8 = omega arith in
    record {
      flags = rw e at l.invariant;
      none_left = (λ z. absurd (true≢false z));
    }
