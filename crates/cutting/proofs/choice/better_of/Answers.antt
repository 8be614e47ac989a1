-- `cutting::choice::better_of` meets its contract.
-- Assumes nothing.
use mathlib.Core.Path.{◌≡◌, refl, sym}
use mathlib.Core.Bool.{true, false, true≢false}
use native.Mathlib.Omega.{arith}
use borrow.Author.Tests.{eq-eqb, ne_eqb, lt-ltb, le-ltb}
use Rattle.std.specs.Prelude.{Some, None}
use Rattle.laws.proofs.Cases.{by_less, by_equal}
use Rattle.cutting.specs.Ways.{way_given}
use Rattle.cutting.proofs.choice.ChoiceSteps.{take-first, take_cells, take-bits, keep_bits, keep_cells}
use Rattle.cutting.proofs.choice.better_of.Goals as goal

pub returns-in-Some : goal.returns-in-Some
returns-in-Some c =
    let u = c.args.u in
    let v = c.in-Some.v in
    let U = way_given (Some u) in
    let V = way_given (Some v) in
    rw c.in-Some.is
    (by_less v.cells u.cells (λ l. keep_cells U V (λ z. omega arith) (omega arith) (λ e. omega arith))
    (λ l.
    by_equal v.cells u.cells
    (λ e.
    by_less u.bits v.bits
    (λ m.
    let none : true ≡ false =
    rw (le-ltb v.cells u.cells l, eq-eqb v.cells u.cells e, le-ltb v.bits u.bits (omega arith), ne_eqb v.bits u.bits (λ z. omega arith)) at c.if-le.ensures in
    absurd (true≢false none))
    (λ m. keep_bits U V (λ z. omega arith) (omega arith) m))
    (λ n.
    let none : true ≡ false = rw (le-ltb v.cells u.cells l, ne_eqb v.cells u.cells n) at c.if-le.ensures in
    absurd (true≢false none))))

pub returns-in_default : goal.returns-in_default
returns-in_default c =
    let u = c.args.u in
    let v = c.in-Some.v in
    let U = way_given (Some u) in
    let V = way_given (Some v) in
    rw c.in-Some.is
    (by_less u.cells v.cells (λ l. take_cells U V (λ z. omega arith) (omega arith))
    (λ l.
    by_equal v.cells u.cells
    (λ e.
    by_less u.bits v.bits (λ m. take-bits U V (λ z. omega arith) (omega arith) m)
    (λ m.
    by_equal v.bits u.bits
    (λ f.
    let none : false ≡ true =
    rw (le-ltb v.cells u.cells (omega arith), eq-eqb v.cells u.cells e, le-ltb v.bits u.bits (omega arith), eq-eqb v.bits u.bits f) at c.if-le.ensures in
    absurd (true≢false (sym none)))
    (λ f.
    let none : false ≡ true = rw (le-ltb v.cells u.cells (omega arith), eq-eqb v.cells u.cells e, lt-ltb v.bits u.bits (omega arith)) at c.if-le.ensures in
    absurd (true≢false (sym none)))))
    (λ n.
    let none : false ≡ true = rw (lt-ltb v.cells u.cells (omega arith)) at c.if-le.ensures in
    absurd (true≢false (sym none)))))

pub returns-in_default-2 : goal.returns-in_default-2
returns-in_default-2 c = rw c.in_default.is (take-first (way_given (Some c.args.u)) (way_given None) refl)
