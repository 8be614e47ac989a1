-- A plan by the levels and the ways that it is made of.
-- Assumes nothing.
use mathlib.Core.Path.{◌≡◌, refl, sym, ◌∙◌, ap}
use mathlib.Core.List.{List}
use Prim.Native.Nat.{ℕ, ◌+◌, ◌≤◌}
use native.Mathlib.Omega.{arith}
use lib.ListN.{get_or}
use Rattle.std.specs.Prelude.{Option, Some, None, Ok, Err, ok_or}
use Rattle.laws.proofs.Cases.{either}
use Rattle.refusals.specs.declared.Refusal.{Refusal}
use Rattle.refusals.specs.declared.Refusal.TheVariants.{NoCutList}
use Rattle.sheet_spec.specs.Limits.{largest_inputs, largest_outputs}
use Rattle.cutting.specs.declared.choice.Way as declared
use Rattle.cutting.specs.Levels.{Level, rails_of, inputs_of, levelled}
use Rattle.cutting.specs.Ways.{Way, list_cell, list_way, way_given, ways_given, nexts_of, ways_to}
use Rattle.cutting.specs.Plan.{cut_in, rows_to, bytes21, planned, listed}
use Rattle.cutting.proofs.choice.BestWays.{way_cuts}
use Rattle.cutting.proofs.choice.ChoiceSteps.{ways-small}
use Rattle.cutting.proofs.choice.WayLists.{way-is, nexts-are}
use Rattle.cutting.proofs.plan.PlanSteps.{next_low, cuts-low, plan_is, unlisted, listed_is}

-- no way is refused, another is taken
pub refused-way : (o : Option declared.Way) (e : Refusal) → Err e ≡ ok_or o NoCutList → (o ≡ None) × (e ≡ NoCutList)
refused-way None e is = (refl, cc)
refused-way (Some w) e is = absurd cc

pub taken-way : (o : Option declared.Way) (w : declared.Way) → Ok w ≡ ok_or o NoCutList → o ≡ Some w
taken-way None w is = absurd cc
taken-way (Some v) w is = cc

module _ (t k l : ℕ) (order ws : List ℕ) (ls : List Level) (ways : List (Option declared.Way)) (some : 1 ≤ t) (high : t ≤ 20)
    (ins : k ≤ largest_inputs) (outs : l ≤ largest_outputs) (ls-are : ls ≡ levelled t order ws)
    (ways-are : ways_given ways ≡ ways_to t k l (rails_of ls) (inputs_of ls)) where
  last-is : way_given (get_or ways t None) ≡ list_way k l (rails_of ls) (inputs_of ls) t
  last-is = way-is t k l (rails_of ls) (inputs_of ls) ways ways-are high t (omega arith)

  pub none-listed : get_or ways t None ≡ None → Err NoCutList ≡ listed (planned t k l order ws)
  none-listed e = unlisted t k l order ws ls ls-are (ap way_given (sym e) ∙ last-is)

  pub nexts-low : (h : ℕ) → h ≤ 20 → get_or (nexts_of ways) h 0 ≤ 20
  unfolding bytes21
  nexts-low = next_low t k l (rails_of ls) (inputs_of ls) high (nexts_of ways) (nexts-are t k l (rails_of ls) (inputs_of ls) ways ways-are)

  pub cuts-small : (n : ℕ) (cs : List ℕ) → n ≤ 20 → cs ≡ bytes21 (n + 1) (cut_in (nexts_of ways) t) → (i : ℕ) → i ≤ 20 → get_or cs i 0 ≤ 20
  unfolding bytes21
  cuts-small = cuts-low t k l (rails_of ls) (inputs_of ls) high (nexts_of ways) (nexts-are t k l (rails_of ls) (inputs_of ls) ways ways-are)

  module _ (way : declared.Way) (found : get_or ways t None ≡ Some way) where
    way-found : way_given (Some way) ≡ list_way k l (rails_of ls) (inputs_of ls) t
    way-found = ap way_given (sym found) ∙ last-is

    pub way-few : (n : ℕ) → n ≡ way.cells → n ≤ 20
    way-few n e =
        let s = ways-small k l (rails_of ls) (inputs_of ls) ins outs t high in
        omega (arith, s.0, ap (λ (w : Way). w.cuts) way-found)

    has-cells : way.cells ≡ 0 → ⊥
    unfolding list_way
    has-cells z =
        let cuts = ap (λ (w : Way). w.cuts) way-found in
        either (way_cuts (list_cell (rails_of ls) (inputs_of ls)) k l t some) (λ e. absurd (omega arith)) (λ e. absurd (omega arith))

    pub way-listed : (cs : List ℕ) (n rows : ℕ) → n ≡ way.cells → cs ≡ bytes21 (n + 1) (cut_in (nexts_of ways) t)
        → rows ≡ rows_to (rails_of ls) (inputs_of ls) cs n
        → Ok (record { levels = ls; cuts = cs; cells = way.cells; bits = way.bits; rows = rows }) ≡ listed (planned t k l order ws)
    way-listed cs n rows en es eo =
        listed_is _ _
        (plan_is t k l order ws (nexts_of ways) cs ls (way_given (Some way)) n way.cells rows ls-are way-found refl
        (nexts-are t k l (rails_of ls) (inputs_of ls) ways ways-are) en es eo)
        has-cells
