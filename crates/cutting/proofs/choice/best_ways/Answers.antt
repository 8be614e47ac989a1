-- `cutting::choice::best_ways` meets its contract.
-- Assumes nothing.
use Prim.Native.Nat.{ℕ, ◌+◌}
use mathlib.Core.Path.{◌≡◌, sym, ◌∙◌, ap}
use mathlib.Core.List.{List}
use native.Mathlib.Omega.{arith}
use lib.ListN.{get_or, replicate}
use Rattle.laws.specs.Lists.{puts}
use Rattle.laws.proofs.Puts.{puts_none, puts-next, get_or-puts}
use Rattle.cutting.specs.Levels.{rails_of, inputs_of}
use Rattle.cutting.specs.Ways.{Way, no_way, list_way, ways_given, ways_to}
use Rattle.cutting.proofs.choice.WayLists.{way-read, way-stored}
use Rattle.cutting.proofs.choice.best_ways.Goals as goal

pub loop-h-init : goal.loop-h-init
unfolding ways_given
loop-h-init c =
    let a = c.args in
    sym (puts_none (list_way a.k a.l (rails_of a.levels.now) (inputs_of a.levels.now)) (replicate 21 no_way))

pub way_from-requires : goal.way_from-requires
way_from-requires c =
    let a = c.args in
    let p = c.requires in
    let s = c.loop-h in (
      p.1,
      p.2,
      omega arith,
      λ g l.
          sym (way-read s.ways g) ∙ ap (λ (x : List Way). get_or x g no_way) s.invariant
          ∙ get_or-puts (list_way a.k a.l (rails_of a.levels.now) (inputs_of a.levels.now)) s.h (replicate 21 no_way) no_way g l (omega arith),
    )

pub loop-h-preserved : goal.loop-h-preserved
loop-h-preserved c =
    let a = c.args in
    let s = c.loop-h in
    way-stored s.ways s.h c.way_from.result
    ∙ puts-next (list_way a.k a.l (rails_of a.levels.now) (inputs_of a.levels.now)) s.h _ _ _ s.invariant c.way_from.ensures

pub returns : goal.returns
unfolding ways_to
returns c =
    let a = c.args in
    let s = c.loop-h in
    let e : s.h ≡ a.t + 1 = omega arith in
    s.invariant ∙ ap (λ (n : ℕ). puts n (list_way a.k a.l (rails_of a.levels.now) (inputs_of a.levels.now)) (replicate 21 no_way)) e
