-- `cutting::choice::with_cut` meets its contract.
-- Assumes nothing.
use mathlib.Core.Path.{refl, sym, ap}
use native.Mathlib.Omega.{arith}
use Rattle.std.specs.Prelude.{Option, Some}
use Rattle.stored_spec.proofs.Promises.{bits_small}
use Rattle.cutting.specs.declared.choice.Way as declared
use Rattle.cutting.specs.Ways.{way_given}
use Rattle.cutting.proofs.choice.ChoiceSteps.{stay_large, stay_none, go_through}
use Rattle.cutting.proofs.choice.with_cut.Goals as goal

pub returns-then-not-fits : goal.returns-then-not-fits
returns-then-not-fits c =
    let a = c.args in
    stay_large a.k a.l a.c a.g (way_given a.w) (way_given a.v) (sym c.if-not-fits.ensures)

pub returns-in_default : goal.returns-in_default
returns-in_default c =
    let a = c.args in
    stay_none a.k a.l a.c a.g (way_given a.w) (way_given a.v) (sym c.if-not-fits.ensures) (rw c.in_default.is refl)

pub overflow_cast-u : goal.overflow_cast-u
overflow_cast-u c = omega (arith, c.bits.ensures, bits_small c.args.c)

pub overflow_add-u-2 : goal.overflow_add-u-2
overflow_add-u-2 c =
    omega (arith, c.bits.ensures, bits_small c.args.c, c.requires.3, ap (λ (x : Option declared.Way). (way_given x).bits) c.in-Some.is)

pub returns : goal.returns
returns c =
    let a = c.args in
    let w = way_given (Some c.in-Some.w) in
    rw c.in-Some.is
    (go_through a.k a.l a.c a.g w (way_given a.v) (sym c.if-not-fits.ensures) c.requires.0 c.requires.1 (λ z. omega arith)
    c.bits.result (way_given (Some c.better_of.result)) c.bits.ensures c.better_of.ensures)
