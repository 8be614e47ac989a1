-- `cutting::levels::levels_of` meets its contract.
-- Assumes nothing.
use mathlib.Core.Path.{◌≡◌, sym, ◌∙◌, ap, ap₂}
use Prim.Native.Nat.{ℕ, ◌+◌, ◌-◌}
use native.Mathlib.Omega.{arith}
use lib.Dec.{ltb}
use lib.ListN.{length, get_or, replicate}
use Rattle.laws.specs.Lists.{puts}
use Rattle.laws.proofs.Puts.{puts_none, puts-next}
use Rattle.cutting.specs.Levels.{Level, no_level, inputs_in, level_in, levelled}
use Rattle.cutting.proofs.levels.LevelLists.{flag-more, flag-most, inputs-none, inputs-step, inputs_most, rails_last, rails_below}
use Rattle.cutting.proofs.levels.levels_of.Goals as goal

abbrev level : ℕ → ℕ → Level
level r i = record { rails = r; inputs = i }

pub loop-h-init : goal.loop-h-init
loop-h-init c =
    let a = c.args in
    (inputs-none (length a.order.now) a.order.now, sym (puts_none (level_in (length a.order.now) a.order.now a.widths.now) (replicate 21 no_level)))

pub overflow_add-inputs : goal.overflow_add-inputs
overflow_add-inputs c =
    let s = c.loop-h in
    let most = inputs_most (length c.args.order.now) c.args.order.now s.h in
    omega (arith, s.invariant.0, c.from-inputs.ensures, most, flag-most (ltb (get_or c.args.order.now (length c.args.order.now - 1 - s.h) 0) 128))

pub loop-h-preserved : goal.loop-h-preserved
loop-h-preserved c =
    let a = c.args in
    let t = length a.order.now in
    let s = c.loop-h in (
      ap (λ (n : ℕ). s.inputs + n) c.from-inputs.ensures ∙ flag-more (ltb (get_or a.order.now (t - 1 - s.h) 0) 128) s.inputs ∙ inputs-step t a.order.now s.h s.inputs s.invariant.0,
      puts-next (level_in t a.order.now a.widths.now) s.h _ _ _ s.invariant.1
          (ap₂ level (c.rails.ensures ∙ sym (rails_below t a.widths.now s.h c.loop-h-test.true)) s.invariant.0),
    )

pub returns : goal.returns
unfolding levelled
returns c =
    let a = c.args in
    let t = length a.order.now in
    let f : ℕ → Level = level_in t a.order.now a.widths.now in
    let s = c.loop-h in
    let e : s.h ≡ t = omega arith in
    puts-next f t _ _ _ (s.invariant.1 ∙ ap (λ (k : ℕ). puts k f (replicate 21 no_level)) e)
    (ap₂ level (rails_last t a.widths.now) (s.invariant.0 ∙ ap (inputs_in t a.order.now) e))
