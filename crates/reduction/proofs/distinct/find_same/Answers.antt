-- `reduction::distinct::find_same` meets its contract.
-- Assumes nothing.
use mathlib.Core.Path.{◌≡◌, sym, ◌∙◌}
use native.Mathlib.Nat.{sub-zero}
use Rattle.laws.proofs.Find.{find-stop, find_skip, find_none}
use Rattle.reduction.specs.ColumnHashes.{is_kept}
use Rattle.reduction.proofs.distinct.ColumnHashes.{matched}
use native.Mathlib.Omega.{arith}
use Rattle.reduction.proofs.distinct.find_same.Goals as goal

pub loop-c-init : goal.loop-c-init
loop-c-init c = rw sub-zero

pub returns-then-matches : goal.returns-then-matches
returns-then-matches c =
    let a = c.args in
    let l = c.loop-c in
    let m : c.matches.result ≡ is_kept a.planes.now.zero a.planes.now.one a.size a.keys.now a.kept.now a.q a.k l.c =
    matched a.planes.now.zero a.planes.now.one a.size a.keys.now a.kept.now a.q a.k l.c _ _ c.from.ensures c.matches.ensures in
    sym (find-stop (is_kept a.planes.now.zero a.planes.now.one a.size a.keys.now a.kept.now a.q a.k) a.count l.c (omega arith) (sym m ∙ c.if-matches.true)) ∙ l.invariant

pub loop-c-preserved : goal.loop-c-preserved
loop-c-preserved c =
    let a = c.args in
    let l = c.loop-c in
    let m : c.matches.result ≡ is_kept a.planes.now.zero a.planes.now.one a.size a.keys.now a.kept.now a.q a.k l.c =
    matched a.planes.now.zero a.planes.now.one a.size a.keys.now a.kept.now a.q a.k l.c _ _ c.from.ensures c.matches.ensures in
    sym (find_skip (is_kept a.planes.now.zero a.planes.now.one a.size a.keys.now a.kept.now a.q a.k) a.count l.c (omega arith) (sym m ∙ c.if-matches.false)) ∙ l.invariant

pub returns : goal.returns
returns c =
    let a = c.args in
    let l = c.loop-c in
    let e : l.c ≡ a.count = omega arith in
    sym e ∙ sym (find_none (is_kept a.planes.now.zero a.planes.now.one a.size a.keys.now a.kept.now a.q a.k) a.count l.c (omega arith)) ∙ l.invariant
