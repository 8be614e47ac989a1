-- `replay::coded::call_size` meets its contract.
-- Assumes nothing.
use mathlib.Core.Path.{sym, ◌∙◌, ap}
use native.Mathlib.Omega.{arith}
use lib.Dec.{eqb}
use borrow.Author.Tests.{eq-eqb, ne_eqb}
use Rattle.std.specs.Prelude.{Some}
use Rattle.laws.proofs.Cases.{cond_yes, cond_no}
use Rattle.replay.specs.Coded.{size}
use Rattle.replay.proofs.Reading.{none_said, short-said, whole-said}
use Rattle.replay.proofs.coded.call_size.Goals as goal

pub returns-then-said-eq0 : goal.returns-then-said-eq0
returns-then-said-eq0 c =
    let l = c.args.list.now in
    sym (cond_yes (eqb (size l) 0) _ _ (eq-eqb (size l) 0 (none_said l (omega arith))))

pub returns-then-list-said : goal.returns-then-list-said
returns-then-list-said c =
    let l = c.args.list.now in
    sym (cond_yes (eqb (size l) 0) _ _ (eq-eqb (size l) 0 (short-said l (omega arith))))

pub returns : goal.returns
returns c =
    let l = c.args.list.now in
    let same = whole-said l (omega arith) in
    ap Some (c.said_size-said.ensures ∙ sym same) ∙ sym (cond_no (eqb (size l) 0) _ _ (ne_eqb (size l) 0 (λ z. omega arith)))
