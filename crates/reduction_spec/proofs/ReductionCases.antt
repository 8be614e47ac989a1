-- What the reduction answers, case by case: a refusal of the sheet, 7, or the number of nodes.
-- Assumes nothing.
use mathlib.Core.Path.{◌≡◌, sym, ◌∙◌, ap₂}
use mathlib.Core.Bool.{true, false}
use mathlib.Core.List.{List}
use Prim.Native.Nat.{ℕ}
use native.Mathlib.Omega.{arith}
use borrow.Author.Tests.{eq-eqb, ne_eqb}
use lib.Dec.{eqb}
use lib.ListN.{length}
use Rattle.laws.proofs.Cases.{cond_yes, cond_no}
use Rattle.sheet_spec.specs.Job.{Job}
use Rattle.sheet_spec.specs.Refusals.{sheet_refusal}
use Rattle.sheet_spec.specs.Table.{table}
use Rattle.reduction_spec.specs.Merge.{refuse7}
use Rattle.reduction_spec.specs.Reduction.{Reduction, reduction_refusal, final_nodes, reduction}

-- the answers
answers : (r n : ℕ) → Reduction
answers r n = record { refusal = r; nodes = n }

module _ (j : Job) (s : List ℕ) where
  refused-sheet : (sheet_refusal j s ≡ 0 → ⊥) → reduction_refusal j s ≡ sheet_refusal j s
  unfolding reduction_refusal
  refused-sheet h = cond_no (eqb (sheet_refusal j s) 0) _ (sheet_refusal j s) (ne_eqb (sheet_refusal j s) 0 h)

  refused_7 : sheet_refusal j s ≡ 0 → refuse7 j (table j s) ≡ true → reduction_refusal j s ≡ 7
  unfolding reduction_refusal
  refused_7 e h = cond_yes (eqb (sheet_refusal j s) 0) _ (sheet_refusal j s) (eq-eqb (sheet_refusal j s) 0 e) ∙ cond_yes (refuse7 j (table j s)) 7 0 h

  pub not-refused : sheet_refusal j s ≡ 0 → refuse7 j (table j s) ≡ false → reduction_refusal j s ≡ 0
  unfolding reduction_refusal
  not-refused e h = cond_yes (eqb (sheet_refusal j s) 0) _ (sheet_refusal j s) (eq-eqb (sheet_refusal j s) 0 e) ∙ cond_no (refuse7 j (table j s)) 7 0 h

  refused-answer : (r : ℕ) → (r ≡ 0 → ⊥) → reduction_refusal j s ≡ r → answers r 0 ≡ reduction j s
  unfolding reduction answers
  refused-answer r h e =
      ap₂ answers (sym e) (sym (cond_no (eqb (reduction_refusal j s) 0) (length (final_nodes j s)) 0 (ne_eqb (reduction_refusal j s) 0 (λ z. h (sym e ∙ z)))))

  pub answer-sheet : (r : ℕ) → r ≡ sheet_refusal j s → (r ≡ 0 → ⊥) → ◌≡◌ {A = Reduction} (record { refusal = r; nodes = 0 }) (reduction j s)
  unfolding answers
  answer-sheet r is h = refused-answer r h (refused-sheet (λ z. h (is ∙ z)) ∙ sym is)

  pub answer_7 : sheet_refusal j s ≡ 0 → refuse7 j (table j s) ≡ true → ◌≡◌ {A = Reduction} (record { refusal = 7; nodes = 0 }) (reduction j s)
  unfolding answers
  answer_7 e h = refused-answer 7 (λ z. absurd (omega arith)) (refused_7 e h)

  pub answer-made : (n : ℕ) → sheet_refusal j s ≡ 0 → refuse7 j (table j s) ≡ false → n ≡ length (final_nodes j s)
      → ◌≡◌ {A = Reduction} (record { refusal = 0; nodes = n }) (reduction j s)
  unfolding reduction answers
  answer-made n e h is =
      let z = not-refused e h in
      ap₂ answers (sym z) (is ∙ sym (cond_yes (eqb (reduction_refusal j s) 0) (length (final_nodes j s)) 0 (eq-eqb (reduction_refusal j s) 0 z)))

  -- a refusal is not 0
  pub refused-not : (sheet_refusal j s ≡ 0 → ⊥) → reduction_refusal j s ≡ 0 → ⊥
  refused-not h e = h (sym (refused-sheet h) ∙ e)

  pub wide_not : sheet_refusal j s ≡ 0 → refuse7 j (table j s) ≡ true → reduction_refusal j s ≡ 0 → ⊥
  wide_not e h z = let y = refused_7 e h in absurd (omega arith)
