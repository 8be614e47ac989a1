-- `reduction::links::confirm_row` meets its contract.
-- Assumes nothing.
use mathlib.Core.Path.{◌≡◌, sym, ◌∙◌, ap, ap₂}
use mathlib.Core.List.{List}
use Prim.Native.Nat.{ℕ}
use lib.ListN.{get_or}
use Rattle.laws.proofs.Puts.{puts_none, puts-next, get_or_unput}
use Rattle.reduction.specs.FirstBytes.{confirmed}
use native.Mathlib.Omega.{arith}
use Rattle.reduction.proofs.links.confirm_row.Goals as goal

pub loop-d-init : goal.loop-d-init
loop-d-init c =
    let a = c.args in
    sym (puts_none (λ d. confirmed a.planes.now.zero a.planes.now.one a.size (get_or a.row.now d 0) (get_or a.firsts.now a.c 0) (get_or a.firsts.now d 0)) a.row.now)

pub loop-d-preserved : goal.loop-d-preserved
loop-d-preserved c =
    let l = c.loop-d in
    let a = c.args in
    let f : ℕ → ℕ = (λ d. confirmed a.planes.now.zero a.planes.now.one a.size (get_or a.row.now d 0) (get_or a.firsts.now a.c 0) (get_or a.firsts.now d 0)) in
    let old : get_or l.row l.d 0 ≡ get_or a.row.now l.d 0 =
    ap (λ (s : List ℕ). get_or s l.d 0) l.invariant ∙ get_or_unput f l.d a.row.now 0 l.d (omega arith) in
    let new : c.confirm.result ≡ f l.d =
    c.confirm.ensures ∙ ap (λ (k : ℕ). confirmed a.planes.now.zero a.planes.now.one a.size k c.from-p.result c.from.result) old
    ∙ ap₂ (confirmed a.planes.now.zero a.planes.now.one a.size (get_or a.row.now l.d 0)) c.from-p.ensures c.from.ensures in
    puts-next f l.d a.row.now l.row _ l.invariant new
