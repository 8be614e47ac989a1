-- `evaluation::gather::read_either` reads the rows of one rail word by one loop or another.
-- Assumes nothing.
use mathlib.Core.Path.{◌≡◌, sym, ◌∙◌, ap}
use mathlib.Core.Bool.{true, ◌&&◌}
use Prim.Native.Nat.{ℕ, ◌+◌}
use native.Mathlib.Omega.{arith}
use lib.Dec.{eqb, ltb}
use borrow.Author.Tests.{eqb-true}
use Rattle.laws.specs.Turns.{in_turn}
use Rattle.laws.proofs.Cases.{and_split}
use Rattle.evaluation.specs.Agreeing.{gathered_of, plain_row}
use Rattle.evaluation.proofs.gather.FewRails.{plain_rows}
use Rattle.evaluation.proofs.gather.Parts.{whole-small}
use Rattle.evaluation.proofs.gather.read_either.Goals as goal

-- what the test says: no input is known, and the fillings are all rows of the rail word
tested : (mask count free : ℕ) → (eqb mask 0 && eqb count (free + 1)) ≡ true → (mask ≡ 0) × (count ≡ free + 1)
tested mask count free e =
    let (m, n) = and_split (eqb mask 0) (eqb count (free + 1)) e in
    (eqb-true mask 0 m, eqb-true count (free + 1) n)

pub overflow_add-p : goal.overflow_add-p
overflow_add-p c = omega (arith, whole-small c.requires.1.whole)

pub read_all-requires : goal.read_all-requires
read_all-requires c =
    let p = c.args.p.now in
    let t = tested p.mask p.count p.free c.if-p.true in
    (omega (arith, c.requires.0, t.1), omega (arith, t.1))

pub returns-then-p-2 : goal.returns-then-p-2
returns-then-p-2 c =
    let a = c.args in
    let p = a.p.now in
    let pre = c.requires in
    let t = tested p.mask p.count p.free c.if-p.true in
    λ s. c.read_all.ensures s
    ∙ ap (λ (r : ℕ). in_turn p.count (plain_row a.rows.now a.first r) (gathered_of a.seen s)) (sym (eqb-true p.low 0 (and_split (eqb p.low 0) (ltb 15 p.count) c.if-p-2.true).0))
    ∙ plain_rows a.rows.now a.first p.mask p.free p.count p.low (gathered_of a.seen s) pre.1.whole t.0 t.1

pub read_run-requires : goal.read_run-requires
read_run-requires c =
    let p = c.args.p.now in
    let pre = c.requires in
    let t = tested p.mask p.count p.free c.if-p.true in
    (omega (arith, pre.0, t.1), pre.2)

pub returns-then-p : goal.returns-then-p
returns-then-p c =
    let a = c.args in
    let p = a.p.now in
    let pre = c.requires in
    let t = tested p.mask p.count p.free c.if-p.true in
    λ s. c.read_run.ensures s ∙ plain_rows a.rows.now a.first p.mask p.free p.count p.low (gathered_of a.seen s) pre.1.whole t.0 t.1
