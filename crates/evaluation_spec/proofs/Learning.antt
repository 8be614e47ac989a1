-- What an evaluation says of an output, and that learning more inputs keeps every 0 and 1.
-- Assumes nothing.
use mathlib.Core.Path.{◌≡◌, refl, sym, ◌∙◌, ap}
use mathlib.Core.Bool.{Bool, true, false, not, ◌||◌}
use mathlib.Core.List.{List}
use Prim.Native.Nat.{ℕ, zero, suc, ◌%◌, ◌<◌}
use native.Mathlib.Nat.{mod-lt}
use native.Mathlib.Omega.{arith}
use lib.Dec.{eqb}
use lib.Pow.{pow_pos}
use borrow.Author.Tests.{eqb-true, eq-eqb}
use Rattle.laws.specs.Bits.{bit}
use Rattle.laws.proofs.Cases.{by_test, no_test}
use Rattle.laws.proofs.Tests.{every_of, every_at}
use Rattle.stored_spec.proofs.SameRuns.{kept-inputs}
use Rattle.evaluation_spec.specs.Emits.{emits}
use Rattle.evaluation_spec.specs.Known.{fills, always, certain, unknown}
use Rattle.evaluation_spec.proofs.Words.{Fills}
use Rattle.evaluation_spec.proofs.Mixed.{fills_is, fills_so}

-- there is a filling: the word itself
own_fills : (known w : ℕ) → Fills known w (w % 4096)
own_fills known w i l k = kept-inputs w i l

module _ (R bytes : List ℕ) (known w o : ℕ) where
  -- every filling of the unknown inputs makes the cascade emit b
  abbrev pub Always : ℕ → Type 0
  Always b = (v : ℕ) → v < 4096 → Fills known w v → emits R bytes v o ≡ b

  pub always_is : (b : ℕ) → always R bytes known w o b ≡ true → Always b
  unfolding always
  always_is b e v l f =
      let h = every_at (λ v. not (fills known w v) || eqb (emits R bytes v o) b) 4096 e v l in
      eqb-true (emits R bytes v o) b (sym (ap (λ (t : Bool). not t || eqb (emits R bytes v o) b) (fills_so known w v f)) ∙ h)

  pub always_so : (b : ℕ) → Always b → always R bytes known w o b ≡ true
  unfolding always
  always_so b h =
      every_of (λ v. not (fills known w v) || eqb (emits R bytes v o) b) 4096
      (λ v l.
      by_test (fills known w v)
      (λ p. ap (λ (t : Bool). not t || eqb (emits R bytes v o) b) p ∙ eq-eqb (emits R bytes v o) b (h v l (fills_is known w v p)))
      (λ p. ap (λ (t : Bool). not t || eqb (emits R bytes v o) b) p))

  -- no two values are emitted always
  one_value : (b c : ℕ) → Always b → Always c → b ≡ c
  one_value b c p q =
      let l = mod-lt w (pow_pos 12) in
      sym (p (w % 4096) l (own_fills known w)) ∙ q (w % 4096) l (own_fills known w)

  -- it is 0 exactly when every filling makes the cascade emit 0, likewise 1, else unknown
  pub zero_is : certain R bytes known w o ≡ 0 → Always 0
  unfolding certain
  zero_is e =
      by_test (always R bytes known w o 0) (always_is 0)
      (λ p.
      by_test (always R bytes known w o 1) (λ q. absurd (let z = rw (p, q) at e in omega arith)) (λ q. absurd (let z = rw (p, q) at e in omega arith)))

  pub zero_so : Always 0 → certain R bytes known w o ≡ 0
  unfolding certain
  zero_so h = rw (always_so 0 h) refl

  pub one_is : certain R bytes known w o ≡ 1 → Always 1
  unfolding certain
  one_is e =
      by_test (always R bytes known w o 0) (λ p. absurd (let z = rw p at e in omega arith))
      (λ p. by_test (always R bytes known w o 1) (always_is 1) (λ q. absurd (let z = rw (p, q) at e in omega arith)))

  pub one_so : Always 1 → certain R bytes known w o ≡ 1
  unfolding certain
  one_so h =
      let none : always R bytes known w o 0 ≡ false =
      no_test (always R bytes known w o 0) (λ p. let z = one_value 0 1 (always_is 0 p) h in absurd (omega arith)) in
      rw (none, always_so 1 h) refl

  pub unknown_is : certain R bytes known w o ≡ unknown → (Always 0 → ⊥) × (Always 1 → ⊥)
  unknown_is e = (λ h. absurd (let z = zero_so h in omega arith), λ h. absurd (let z = one_so h in omega arith))

  pub unknown_so : (Always 0 → ⊥) → (Always 1 → ⊥) → certain R bytes known w o ≡ unknown
  unfolding certain
  unknown_so z e =
      rw (no_test (always R bytes known w o 0) (λ p. z (always_is 0 p)), no_test (always R bytes known w o 1) (λ p. e (always_is 1 p))) refl

  -- where every filling emits one value it is that value
  pub settled : (b : ℕ) → b < 3 → Always b → certain R bytes known w o ≡ b
  settled zero l h = zero_so h
  settled (suc zero) l h = one_so h
  settled (suc (suc zero)) l h =
      unknown_so (λ p. absurd (let z = one_value 0 2 p h in omega arith)) (λ p. absurd (let z = one_value 1 2 p h in omega arith))
  settled (suc (suc (suc b))) l h = absurd (omega arith)

-- more inputs are known, and the word has the inputs known before as it had them: each 0 and each 1 stays
pub learning : (R bytes : List ℕ) (known w more v : ℕ) → ((i : ℕ) → i < 12 → bit known i ≡ 1 → (bit more i ≡ 1) × (bit v i ≡ bit w i))
    → (o b : ℕ) → b < 2 → certain R bytes known w o ≡ b → certain R bytes more v o ≡ b
learning R bytes known w more v h o zero l e =
    zero_so R bytes more v o (λ u m f. zero_is R bytes known w o e u m (λ i p q. let (a, c) = h i p q in f i p a ∙ c))
learning R bytes known w more v h o (suc zero) l e =
    one_so R bytes more v o (λ u m f. one_is R bytes known w o e u m (λ i p q. let (a, c) = h i p q in f i p a ∙ c))
learning R bytes known w more v h o (suc (suc b)) l e = absurd (omega arith)
