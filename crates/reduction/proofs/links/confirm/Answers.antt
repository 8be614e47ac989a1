-- `reduction::links::confirm` meets its contract.
-- Assumes nothing.
use mathlib.Core.Path.{◌≡◌, sym, ◌∙◌}
use mathlib.Core.Bool.{true, false}
use lib.Dec.{eqb}
use borrow.Author.Tests.{eq-eqb, ne_eqb}
use Rattle.reduction.specs.Distinct.{agree_words}
use Rattle.reduction.specs.FirstBytes.{confirmed}
use Rattle.reduction.proofs.links.confirm.Goals as goal

pub returns-then-f-eq0 : goal.returns-then-f-eq0
unfolding confirmed
returns-then-f-eq0 c =
    let e : eqb c.args.f 0 ≡ true = eq-eqb c.args.f 0 c.if-f-eq0.true in
    rw e

pub returns-then-agree_at : goal.returns-then-agree_at
unfolding confirmed
returns-then-agree_at c =
    let a = c.args in
    let e : eqb a.f 0 ≡ false = ne_eqb a.f 0 c.if-f-eq0.false in
    let k : agree_words a.planes.now.zero a.planes.now.one a.size a.p a.q ≡ true = sym c.agree_at.ensures ∙ c.if-agree_at.true in
    rw (e, k)

pub returns : goal.returns
unfolding confirmed
returns c =
    let a = c.args in
    let e : eqb a.f 0 ≡ false = ne_eqb a.f 0 c.if-f-eq0.false in
    let k : agree_words a.planes.now.zero a.planes.now.one a.size a.p a.q ≡ false = sym c.agree_at.ensures ∙ c.if-agree_at.false in
    rw (e, k)
