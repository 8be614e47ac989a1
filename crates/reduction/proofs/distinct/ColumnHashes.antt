-- Keys of packed columns: columns that are equal have equal keys, and so a search by key finds a column's number.
-- Assumes nothing.
use mathlib.Core.Path.{◌≡◌, refl, ap}
use mathlib.Core.Bool.{Bool, true, false, ◌&&◌, and-false}
use mathlib.Core.List.{List}
use Prim.Native.Nat.{ℕ, zero, suc, ◌+◌, ◌*◌, ◌<◌}
use native.Mathlib.Numerals.{add-one}
use native.Mathlib.Omega.{arith}
use borrow.Author.Tests.{eqb-true, eq-eqb, ne_eqb}
use lib.Dec.{eqb}
use lib.ListN.{get_or}
use Rattle.laws.specs.Tests.{any, least}
use Rattle.laws.proofs.Cases.{by_less, and_split, and_join}
use Rattle.laws.proofs.Find.{least-le, least-hit}
use Rattle.laws.proofs.Masks.{not-both}
use Rattle.laws.proofs.Tests.{every_at, any_out}
use Rattle.reduction.specs.Distinct.{same_words}
use Rattle.reduction.specs.ColumnHashes.{stirred, stirred_to, folded, key_of, is_kept}

-- word i of two packed columns is the same in both planes
abbrev pub same_word : List ℕ → List ℕ → ℕ → ℕ → ℕ → ℕ → Bool
same_word zs os size p q i = eqb (get_or zs (p * size + i) 0) (get_or zs (q * size + i) 0) && eqb (get_or os (p * size + i) 0) (get_or os (q * size + i) 0)

module _ (zs os : List ℕ) where
  pub stirred-next : (p i : ℕ) → stirred (stirred_to zs os p i) (get_or zs (p + i) 0) (get_or os (p + i) 0) ≡ stirred_to zs os p (i + 1)
  unfolding stirred_to
  stirred-next p i = rw add-one refl

  stirred-same : (p q n : ℕ) → ((i : ℕ) → i < n → (get_or zs (p + i) 0 ≡ get_or zs (q + i) 0) × (get_or os (p + i) 0 ≡ get_or os (q + i) 0))
      → stirred_to zs os p n ≡ stirred_to zs os q n
  unfolding stirred_to
  stirred-same p q zero h = refl
  stirred-same p q (suc n) h =
      let e = h n (omega arith) in
      rw (stirred-same p q n (λ i l. h i (omega arith)), e.0, e.1)

  pub same_key : (size p q : ℕ) → same_words zs os size p q ≡ true → key_of zs os size p ≡ key_of zs os size q
  unfolding key_of same_words
  same_key size p q e =
      ap folded (stirred-same (p * size) (q * size) size (λ i l.
      let h = and_split (eqb (get_or zs (p * size + i) 0) (get_or zs (q * size + i) 0)) (eqb (get_or os (p * size + i) 0) (get_or os (q * size + i) 0))
      (every_at (same_word zs os size p q) size e i l) in
      (eqb-true (get_or zs (p * size + i) 0) (get_or zs (q * size + i) 0) h.0, eqb-true (get_or os (p * size + i) 0) (get_or os (q * size + i) 0) h.1)))

  pub differ_zero : (size p q i : ℕ) → (get_or zs (p * size + i) 0 ≡ get_or zs (q * size + i) 0 → ⊥) → same_word zs os size p q i ≡ false
  differ_zero size p q i h = rw (ne_eqb (get_or zs (p * size + i) 0) (get_or zs (q * size + i) 0) h)

  pub differ_one : (size p q i : ℕ) → (get_or os (p * size + i) 0 ≡ get_or os (q * size + i) 0 → ⊥) → same_word zs os size p q i ≡ false
  differ_one size p q i h = rw (ne_eqb (get_or os (p * size + i) 0) (get_or os (q * size + i) 0) h, and-false)

  pub same_word_lem : (size p q i : ℕ) → get_or zs (p * size + i) 0 ≡ get_or zs (q * size + i) 0 → get_or os (p * size + i) 0 ≡ get_or os (q * size + i) 0 → same_word zs os size p q i ≡ true
  same_word_lem size p q i e f = and_join (eq-eqb (get_or zs (p * size + i) 0) (get_or zs (q * size + i) 0) e) (eq-eqb (get_or os (p * size + i) 0) (get_or os (q * size + i) 0) f)

  pub matched : (size : ℕ) (ks ps : List ℕ) (q k c p : ℕ) (b : Bool) → p ≡ get_or ps c 0 → b ≡ (eqb (get_or ks c 0) k && same_words zs os size q p)
      → b ≡ is_kept zs os size ks ps q k c
  unfolding is_kept
  matched size ks ps q k c p b e f = rw e at f

  -- no key is k
  pub no_key : (size : ℕ) (ks ps : List ℕ) (q k count : ℕ) → any count (λ c. eqb (get_or ks c 0) k) ≡ false → count ≡ least count (is_kept zs os size ks ps q k)
  unfolding is_kept
  no_key size ks ps q k count e =
      let f : ℕ → Bool = is_kept zs os size ks ps q k in
      let b = least-le f count in
      by_less (least count f) count
      (λ l.
      let i = least count f in
      let t : (eqb (get_or ks i 0) k && same_words zs os size q (get_or ps i 0)) ≡ true = least-hit f count l in
      not-both (and_split (eqb (get_or ks i 0) k) (same_words zs os size q (get_or ps i 0)) t).0 (any_out (λ c. eqb (get_or ks c 0) k) count e i l))
      (λ l. omega arith)
