-- A column and the columns one height below it: at an input it is two columns, one for each value; at an output it is one column and the
-- output's line, which holds one value.
-- Assumes nothing.
use mathlib.Core.Path.{◌≡◌, sym, ◌∙◌, ap, ap₂}
use mathlib.Core.Bool.{Bool, false, not, ◌&&◌}
use mathlib.Core.List.{List}
use Prim.Native.Nat.{ℕ, suc, ◌+◌, ◌-◌, ◌*◌, ◌^◌, ◌<◌}
use native.Mathlib.Nat.{pow-suc, mul_assoc, add-mul, one-mul}
use native.Mathlib.Omega.{arith}
use lib.Dec.{eqb}
use lib.Pow.{pow_pos}
use lib.ListN.{get_or}
use Rattle.laws.proofs.Cases.{by_less, and_split, and_join, same_test}
use Rattle.laws.proofs.Tests.{every_of, every_at}
use Rattle.reduction_spec.specs.Columns.{entry, same_line, same}
use Rattle.reduction_spec.specs.Compatible.{opposite, compatible_line, compatible}
use Rattle.reduction_spec.proofs.ColumnNumbers.{same-entry, entry-same}
use Rattle.reduction_spec.proofs.CompatiblePlaces.{compatible-entry, entry-compatible}

module _ (n a b : ℕ) (f : List ℕ) where
  -- the places at which the topmost input below is 0; is 1
  entry-low : (p k x : ℕ) → entry n (suc a) f p k x ≡ entry n a f (p * 2) k x
  entry-low p k x =
      let e : p * 2 ^ suc a + x ≡ p * 2 * 2 ^ a + x = ap (λ (z : ℕ). z + x) (ap (λ (z : ℕ). p * z) double ∙ sym (mul_assoc p 2 (2 ^ a))) in
      ap (λ (i : ℕ). get_or f (k * 2 ^ n + i) 0) e
    where
      double : 2 ^ suc a ≡ 2 * 2 ^ a
      double = omega (arith, pow-suc 2 a)

  entry-high : (p k x : ℕ) → entry n (suc a) f p k (2 ^ a + x) ≡ entry n a f (p * 2 + 1) k x
  entry-high p k x =
      let e : p * 2 * 2 ^ a + (2 ^ a + x) ≡ (p * 2 + 1) * 2 ^ a + x = omega (arith, add-mul (p * 2) 1 (2 ^ a), one-mul (2 ^ a)) in
      entry-low p k (2 ^ a + x) ∙ ap (λ (i : ℕ). get_or f (k * 2 ^ n + i) 0) e

  -- what holds at the places of both halves holds at all
  both_halves : (P : ℕ → Type 0) → ((x : ℕ) → x < 2 ^ a → P x) → ((x : ℕ) → x < 2 ^ a → P (2 ^ a + x)) → (x : ℕ) → x < 2 ^ suc a → P x
  both_halves P low high x h =
      by_less x (2 ^ a) (low x)
      (λ l.
      let e : x ≡ 2 ^ a + (x - 2 ^ a) = omega arith in
      rw e (high (x - 2 ^ a) (omega (arith, pow-suc 2 a))))

  module _ (p q : ℕ) where
    pub same_halves : same n (suc a) b f p q ≡ (same n a b f (p * 2) (q * 2) && same n a b f (p * 2 + 1) (q * 2 + 1))
    same_halves =
        same_test (same n (suc a) b f p q) (same n a b f (p * 2) (q * 2) && same n a b f (p * 2 + 1) (q * 2 + 1))
        (λ e.
        and_join
        (entry-same n a b f (p * 2) (q * 2) (λ k x hk hx.
        sym (entry-low p k x) ∙ same-entry n (suc a) b f p q e k x hk (omega (arith, pow-suc 2 a)) ∙ entry-low q k x))
        (entry-same n a b f (p * 2 + 1) (q * 2 + 1) (λ k x hk hx.
        sym (entry-high p k x) ∙ same-entry n (suc a) b f p q e k (2 ^ a + x) hk (omega (arith, pow-suc 2 a)) ∙ entry-high q k x)))
        (λ e.
        let s = and_split (same n a b f (p * 2) (q * 2)) (same n a b f (p * 2 + 1) (q * 2 + 1)) e in
        entry-same n (suc a) b f p q (λ k x hk.
        both_halves (λ x. entry n (suc a) f p k x ≡ entry n (suc a) f q k x)
        (λ x hx. entry-low p k x ∙ same-entry n a b f (p * 2) (q * 2) s.0 k x hk hx ∙ sym (entry-low q k x))
        (λ x hx. entry-high p k x ∙ same-entry n a b f (p * 2 + 1) (q * 2 + 1) s.1 k x hk hx ∙ sym (entry-high q k x)) x))

    pub compatible_halves : compatible n (suc a) b f p q ≡ (compatible n a b f (p * 2) (q * 2) && compatible n a b f (p * 2 + 1) (q * 2 + 1))
    compatible_halves =
        same_test (compatible n (suc a) b f p q) (compatible n a b f (p * 2) (q * 2) && compatible n a b f (p * 2 + 1) (q * 2 + 1))
        (λ e.
        and_join
        (entry-compatible n a b f (p * 2) (q * 2) (λ k x hk hx.
        sym (ap₂ opposite (entry-low p k x) (entry-low q k x)) ∙ compatible-entry n (suc a) b f p q e k x hk (omega (arith, pow-suc 2 a))))
        (entry-compatible n a b f (p * 2 + 1) (q * 2 + 1) (λ k x hk hx.
        sym (ap₂ opposite (entry-high p k x) (entry-high q k x))
        ∙ compatible-entry n (suc a) b f p q e k (2 ^ a + x) hk (omega (arith, pow-suc 2 a)))))
        (λ e.
        let s = and_split (compatible n a b f (p * 2) (q * 2)) (compatible n a b f (p * 2 + 1) (q * 2 + 1)) e in
        entry-compatible n (suc a) b f p q (λ k x hk.
        both_halves (λ x. opposite (entry n (suc a) f p k x) (entry n (suc a) f q k x) ≡ false)
        (λ x hx. ap₂ opposite (entry-low p k x) (entry-low q k x) ∙ compatible-entry n a b f (p * 2) (q * 2) s.0 k x hk hx)
        (λ x hx. ap₂ opposite (entry-high p k x) (entry-high q k x) ∙ compatible-entry n a b f (p * 2 + 1) (q * 2 + 1) s.1 k x hk hx) x))

    -- line b holds one value in either column
    module _ (flat : (x : ℕ) → x < 2 ^ a → entry n a f p b x ≡ entry n a f p b 0)
        (flat' : (x : ℕ) → x < 2 ^ a → entry n a f q b x ≡ entry n a f q b 0)
      where
        pub same_line_lem : same n a (suc b) f p q ≡ (same n a b f p q && eqb (entry n a f p b 0) (entry n a f q b 0))
        unfolding same same_line
        same_line_lem =
            ap (λ (z : Bool). same n a b f p q && z)
            (same_test (same_line n a f p q b) (eqb (entry n a f p b 0) (entry n a f q b 0))
            (λ e. every_at (λ x. eqb (entry n a f p b x) (entry n a f q b x)) (2 ^ a) e 0 (pow_pos a))
            (λ e. every_of (λ x. eqb (entry n a f p b x) (entry n a f q b x)) (2 ^ a) (λ x hx. ap₂ eqb (flat x hx) (flat' x hx) ∙ e)))

        pub compatible-line : compatible n a (suc b) f p q ≡ (compatible n a b f p q && not (opposite (entry n a f p b 0) (entry n a f q b 0)))
        unfolding compatible compatible_line
        compatible-line =
            ap (λ (z : Bool). compatible n a b f p q && z)
            (same_test (compatible_line n a f p q b) (not (opposite (entry n a f p b 0) (entry n a f q b 0)))
            (λ e. every_at (λ x. not (opposite (entry n a f p b x) (entry n a f q b x))) (2 ^ a) e 0 (pow_pos a))
            (λ e.
            every_of (λ x. not (opposite (entry n a f p b x) (entry n a f q b x))) (2 ^ a)
            (λ x hx. ap not (ap₂ opposite (flat x hx) (flat' x hx)) ∙ e)))
