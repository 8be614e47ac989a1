-- The widths of a compile in a lent array: written where nothing is refused, else as they were.
-- Assumes nothing.
use mathlib.Core.Path.{◌≡◌, sym, ◌∙◌, ap}
use mathlib.Core.List.{List}
use Prim.Native.Nat.{ℕ}
use borrow.Author.Tests.{eq-eqb, ne_eqb}
use lib.ListN.{length, get_or}
use Rattle.laws.specs.Lists.{tab}
use Rattle.laws.proofs.Cases.{cond_yes, cond_no}
use Rattle.laws.proofs.Lists.{tab_of}
use Rattle.laws.proofs.Puts.{puts_whole}
use Rattle.cutting.specs.Outcome.{Answered}
use Rattle.panel_calls.specs.Exported.{widths_lent}

pub widths-made : (c : Answered) (old : List ℕ) → c.refusal ≡ 0 → length c.widths ≡ 20 → length old ≡ 20 → c.widths ≡ widths_lent c old
unfolding widths_lent
widths-made c old z l m =
    sym
    (cond_yes _ _ old (eq-eqb c.refusal 0 z) ∙ puts_whole (λ h. get_or c.widths h 0) 20 old m
    ∙ ap (λ (n : ℕ). tab n (λ h. get_or c.widths h 0)) (sym l) ∙ tab_of 0 c.widths)

pub widths-kept : (c : Answered) (old : List ℕ) → (c.refusal ≡ 0 → ⊥) → old ≡ widths_lent c old
unfolding widths_lent
widths-kept c old z = sym (cond_no _ _ old (ne_eqb c.refusal 0 z))
