-- Columns and their numbers: having the same column is an equivalence, each prefix has the column that its number names, and columns are
-- numbered by their smallest prefixes.
-- Assumes nothing.
use mathlib.Core.Path.{◌≡◌, refl, sym, ◌∙◌}
use mathlib.Core.Bool.{true, false}
use mathlib.Core.List.{List}
use Prim.Native.Nat.{ℕ, ◌-◌, ◌^◌, ◌<◌, ◌≤◌}
use native.Mathlib.Omega.{arith}
use borrow.Author.Tests.{eq-eqb, eqb-true}
use lib.Dec.{eqb}
use lib.Pow.{pow_pos}
use lib.ListN.{length, get_or}
use Rattle.laws.proofs.Cases.{same_test}
use Rattle.laws.proofs.Tests.{every_of, every_at}
use Rattle.reduction_spec.specs.Columns.{entry, same_line, same, number_in, firsts}
use Rattle.reduction_spec.proofs.Numbering.{Equivalence, Numbered, numbered, index_same, index_equal, index_first, length-few, firsts_of_ext, index_ext}

module _ (n a b : ℕ) (f : List ℕ) where
  pub same-entry : (p q : ℕ) → same n a b f p q ≡ true → (k x : ℕ) → k < b → x < 2 ^ a → entry n a f p k x ≡ entry n a f q k x
  unfolding same same_line
  same-entry p q e k x hk hx =
      eqb-true (entry n a f p k x) (entry n a f q k x)
      (every_at (λ y. eqb (entry n a f p k y) (entry n a f q k y)) (2 ^ a) (every_at (same_line n a f p q) b e k hk) x hx)

  pub entry-same : (p q : ℕ) → ((k x : ℕ) → k < b → x < 2 ^ a → entry n a f p k x ≡ entry n a f q k x) → same n a b f p q ≡ true
  unfolding same same_line
  entry-same p q h =
      every_of (same_line n a f p q) b (λ k hk.
      every_of (λ x. eqb (entry n a f p k x) (entry n a f q k x)) (2 ^ a) (λ x hx. eq-eqb (entry n a f p k x) (entry n a f q k x) (h k x hk hx)))

  pub same_refl : (p : ℕ) → same n a b f p p ≡ true
  same_refl p = entry-same p p (λ k x hk hx. refl)

  same_back : (p q : ℕ) → same n a b f p q ≡ true → same n a b f q p ≡ true
  same_back p q e = entry-same q p (λ k x hk hx. sym (same-entry p q e k x hk hx))

  pub same_sym : (p q : ℕ) → same n a b f p q ≡ same n a b f q p
  same_sym p q = same_test (same n a b f p q) (same n a b f q p) (same_back p q) (same_back q p)

  pub same_trans : (p q r : ℕ) → same n a b f p q ≡ true → same n a b f q r ≡ true → same n a b f p r ≡ true
  same_trans p q r e g = entry-same p r (λ k x hk hx. same-entry p q e k x hk hx ∙ same-entry q r g k x hk hx)

  pub same_equivalence : Equivalence (same n a b f)
  same_equivalence = record { self = same_refl; back = same_back; on = same_trans }

  pub numbered-firsts : Numbered (same n a b f) (2 ^ (n - a)) (firsts n a b f)
  unfolding firsts
  numbered-firsts = numbered (same n a b f) same_equivalence (2 ^ (n - a))

  pub first_below : (c : ℕ) → c < length (firsts n a b f) → get_or (firsts n a b f) c 0 < 2 ^ (n - a)
  first_below = numbered-firsts.below

  pub firsts_rise : (c d : ℕ) → c < d → d < length (firsts n a b f) → get_or (firsts n a b f) c 0 < get_or (firsts n a b f) d 0
  firsts_rise = numbered-firsts.rise

  pub first_smallest : (c p : ℕ) → c < length (firsts n a b f) → p < get_or (firsts n a b f) c 0 → same n a b f p (get_or (firsts n a b f) c 0) ≡ false
  first_smallest = numbered-firsts.smallest

  pub number_below_lem : (p : ℕ) → p < 2 ^ (n - a) → number_in n a b f (firsts n a b f) p < length (firsts n a b f)
  unfolding number_in
  number_below_lem = numbered-firsts.found

  pub number_same : (p : ℕ) → p < 2 ^ (n - a) → same n a b f p (get_or (firsts n a b f) (number_in n a b f (firsts n a b f) p) 0) ≡ true
  unfolding number_in
  number_same p h = index_same (same n a b f) same_equivalence (firsts n a b f) p (number_below_lem p h)

  pub number-first : (c : ℕ) → c < length (firsts n a b f) → number_in n a b f (firsts n a b f) (get_or (firsts n a b f) c 0) ≡ c
  unfolding number_in
  number-first = index_first (same n a b f) same_equivalence (2 ^ (n - a)) (firsts n a b f) numbered-firsts

  pub number_in_equal : (ps : List ℕ) (p q : ℕ) → same n a b f p q ≡ true → number_in n a b f ps p ≡ number_in n a b f ps q
  unfolding number_in
  number_in_equal = index_equal (same n a b f) same_equivalence

  pub number_equal : (p q : ℕ) → p < 2 ^ (n - a) → q < 2 ^ (n - a) → same n a b f p q ≡ true
      → number_in n a b f (firsts n a b f) p ≡ number_in n a b f (firsts n a b f) q
  number_equal p q hp hq e = number_in_equal (firsts n a b f) p q e

  pub equal_number : (p q : ℕ) → p < 2 ^ (n - a) → q < 2 ^ (n - a)
      → number_in n a b f (firsts n a b f) p ≡ number_in n a b f (firsts n a b f) q → same n a b f p q ≡ true
  equal_number p q hp hq e =
      let r = get_or (firsts n a b f) (number_in n a b f (firsts n a b f) q) 0 in
      same_trans p r q (rw e at (number_same p hp)) (same_back q r (number_same q hq))

  pub width_positive : 0 < length (firsts n a b f)
  width_positive = let h = number_below_lem 0 (pow_pos (n - a)) in omega arith

  pub width_few : length (firsts n a b f) ≤ 2 ^ (n - a)
  width_few = length-few (same n a b f) same_equivalence (2 ^ (n - a)) (firsts n a b f) numbered-firsts

-- tables in which the same prefixes have the same columns
module _ (n a b : ℕ) (f g : List ℕ) (h : (p q : ℕ) → p < 2 ^ (n - a) → q < 2 ^ (n - a) → same n a b f p q ≡ same n a b g p q) where
  pub firsts_ext : firsts n a b f ≡ firsts n a b g
  unfolding firsts
  firsts_ext = firsts_of_ext (same n a b f) (same n a b g) (2 ^ (n - a)) h (same_equivalence n a b f)

  pub number_in_ext : (p : ℕ) → p < 2 ^ (n - a) → number_in n a b f (firsts n a b f) p ≡ number_in n a b g (firsts n a b g) p
  unfolding firsts number_in
  number_in_ext = index_ext (same n a b f) (same n a b g) (2 ^ (n - a)) h (same_equivalence n a b f)
