-- An evaluation's answer in a lent array: written where nothing is refused, else as it was.
-- Assumes nothing.
use mathlib.Core.Path.{◌≡◌, sym, ◌∙◌, ap}
use mathlib.Core.Bool.{true, false}
use mathlib.Core.List.{List}
use Prim.Native.Nat.{ℕ}
use native.Mathlib.Omega.{arith}
use Rattle.laws.specs.Lists.{tab}
use Rattle.laws.proofs.Cases.{by_test, cond_yes, cond_no}
use Rattle.stored_spec.specs.StoredForm.{well_formed}
use Rattle.evaluation_spec.specs.Known.{Evaluated, refused, evaluated, certain, evaluate}
use Rattle.evaluation.specs.Answer.{Evaluation, evaluation_of}
use Rattle.panel_calls.specs.Exported.{known_of, known_bytes}

module _ (R bytes : List ℕ) (known w : ℕ) (old : List ℕ) (m : Evaluation) (e : m ≡ evaluation_of (evaluate R bytes known w)) where
  formed : well_formed R bytes ≡ true → evaluate R bytes known w ≡ evaluated (tab 8 (certain R bytes known w))
  unfolding evaluate
  formed p = cond_yes (well_formed R bytes) _ _ p

  other : well_formed R bytes ≡ false → evaluate R bytes known w ≡ refused 12
  unfolding evaluate
  other p = cond_no (well_formed R bytes) _ _ p

  pub lent-certain : m.refusal ≡ 0 → known_of m.refusal m.outputs ≡ known_bytes (evaluate R bytes known w) old
  lent-certain z =
      by_test (well_formed R bytes)
      (λ p.
      ap (λ (x : Evaluation). known_of x.refusal x.outputs) (e ∙ ap evaluation_of (formed p))
      ∙ sym (ap (λ (x : Evaluated). known_bytes x old) (formed p)))
      (λ p. let n = ap (λ (x : Evaluation). x.refusal) (e ∙ ap evaluation_of (other p)) in absurd (omega (arith, n, z)))

  pub lent-kept : (m.refusal ≡ 0 → ⊥) → known_of m.refusal old ≡ known_bytes (evaluate R bytes known w) old
  lent-kept z =
      by_test (well_formed R bytes) (λ p. absurd (z (ap (λ (x : Evaluation). x.refusal) (e ∙ ap evaluation_of (formed p)))))
      (λ p.
      ap (λ (x : Evaluation). known_of x.refusal old) (e ∙ ap evaluation_of (other p))
      ∙ sym (ap (λ (x : Evaluated). known_bytes x old) (other p)))
