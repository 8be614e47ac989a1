-- `evaluation::gather::read_all` reads rows that stand one after another.
-- Assumes nothing.
use mathlib.Core.Path.{◌≡◌, sym, ◌∙◌, ap}
use Prim.Native.Nat.{ℕ}
use native.Mathlib.Omega.{arith}
use Rattle.laws.specs.Turns.{in_turn}
use Rattle.evaluation.specs.Agreeing.{gathered_of, plain_row}
use Rattle.evaluation.proofs.gather.FewRails.{few_as, few-none, one_rail, plain_next, one_rail_lem}
use Rattle.evaluation.proofs.gather.read_all.Goals as goal

pub loop-j-init : goal.loop-j-init
unfolding one_rail
loop-j-init c = λ s. few-none _ _ s

pub loop-j-preserved : goal.loop-j-preserved
loop-j-preserved c =
    let l = c.loop-j in
    let a = c.args in
    λ s. rw c.with-g.ensures (plain_next a.rows.now a.first l.j (gathered_of a.seen s) s c.row_at.ensures (l.invariant s))

pub returns : goal.returns
returns c = λ s.
    let l = c.loop-j in
    let a = c.args in
    let e : l.j ≡ a.count = omega (arith, c.loop-j-test.false) in
    ap (λ (b : ℕ). few_as l.g.some l.g.each b s) (sym (ap one_rail e ∙ one_rail_lem a.count c.requires.1)) ∙ l.invariant s
    ∙ ap (λ (n : ℕ). in_turn n (plain_row a.rows.now a.first 0) (gathered_of a.seen s)) e
