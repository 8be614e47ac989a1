-- The columns one height below: each is that of a smallest prefix above, followed at an input by 0 or 1. So they are numbered alike when
-- only the smallest prefixes above are looked at.
-- Assumes nothing.
use mathlib.Core.Path.{◌≡◌, sym, ◌∙◌, ap}
use mathlib.Core.Bool.{true}
use mathlib.Core.List.{List}
use Prim.Native.Nat.{ℕ, suc, ◌+◌, ◌-◌, ◌*◌, ◌/◌, ◌%◌, ◌^◌, ◌<◌, ◌≤◌}
use native.Mathlib.Nat.{add-mul, mul_assoc}
use native.Mathlib.Omega.{arith}
use lib.ListN.{length, get_or}
use Rattle.laws.proofs.Cases.{by_less}
use Rattle.laws.proofs.Masks.{not-both}
use Rattle.reduction_spec.specs.Columns.{entry, same, number_in, firsts}
use Rattle.reduction_spec.proofs.ColumnNumbers.{same-entry, entry-same, first_below, firsts_rise, first_smallest, number_below_lem, number_same}

-- name gives Q prefixes, rising, among which each prefix finds one of its column that is not above it
pub record Names (n a b : ℕ) (g : List ℕ) (Q : ℕ) (name : ℕ → ℕ) : Type 0 where
  pub rise : (c d : ℕ) → c < d → d < Q → name c < name d
  pub into : (q : ℕ) → q < Q → name q < 2 ^ (n - a)
  pub onto : (p : ℕ) → p < 2 ^ (n - a) → (q : ℕ) × (q < Q) × (name q ≤ p) × (same n a b g p (name q) ≡ true)

module _ (n a b : ℕ) (g : List ℕ) where
  -- the smallest prefix of a column is not above the others
  pub first-least : (p : ℕ) → p < 2 ^ (n - a) → get_or (firsts n a b g) (number_in n a b g (firsts n a b g) p) 0 ≤ p
  first-least p h =
      let ps = firsts n a b g in
      let c = number_in n a b g ps p in
      by_less p (get_or ps c 0)
      (λ l. not-both (number_same n a b g p h) (first_smallest n a b g c p (number_below_lem n a b g p h) l))
      (λ l. l)

  -- the smallest prefixes themselves
  pub first_names : Names n a b g (length (firsts n a b g)) (λ c. get_or (firsts n a b g) c 0)
  first_names =
      record {
        rise = firsts_rise n a b g;
        into = first_below n a b g;
        onto = λ p h. (number_in n a b g (firsts n a b g) p, number_below_lem n a b g p h, first-least p h, number_same n a b g p h);
      }

-- below an output
pub output_names : (n a b : ℕ) (g : List ℕ) → Names n a b g (length (firsts n a (suc b) g)) (λ c. get_or (firsts n a (suc b) g) c 0)
output_names n a b g =
    let i = first_names n a (suc b) g in
    record {
      rise = i.rise;
      into = i.into;
      onto = λ p h.
          let (q, l, m, e) = i.onto p h in
          (q, l, m, entry-same n a b g p (get_or (firsts n a (suc b) g) q 0) (λ k x hk hx. same-entry n a (suc b) g p (get_or (firsts n a (suc b) g) q 0) e k x (omega arith) hx));
    }

-- below an input: a place of a half is one of the whole column
pub input_entry : (n a : ℕ) (g : List ℕ) (p r k x : ℕ) → entry n a g (p * 2 + r) k x ≡ entry n (suc a) g p k (r * 2 ^ a + x)
input_entry n a g p r k x =
    let e : (p * 2 + r) * 2 ^ a + x ≡ p * 2 ^ suc a + (r * 2 ^ a + x) =
    let u = add-mul (p * 2) r (2 ^ a) in let v = mul_assoc p 2 (2 ^ a) in let w : 2 * 2 ^ a ≡ 2 ^ suc a = omega arith in let z : p * (2 * 2 ^ a) ≡ p * 2 ^ suc a = ap (λ (i : ℕ). p * i) w in omega arith in
    ap (λ (i : ℕ). get_or g (k * 2 ^ n + i) 0) e

module _ (n a b : ℕ) (g : List ℕ) (ha : suc a ≤ n) where
  abbrev ps : List ℕ
  ps = firsts n (suc a) b g

  abbrev named : ℕ → ℕ
  named q = get_or ps (q / 2) 0 * 2 + q % 2

  twice : 2 ^ (n - a) ≡ 2 ^ (n - suc a) * 2
  twice =
      let e : n - a ≡ suc (n - suc a) = omega arith in
      let s : 2 ^ suc (n - suc a) ≡ 2 ^ (n - suc a) * 2 = omega arith in
      ap (λ (i : ℕ). 2 ^ i) e ∙ s

  rises : (c d : ℕ) → c < d → d < length ps * 2 → named c < named d
  rises c d l h =
      by_less (c / 2) (d / 2)
      (λ k. let z = firsts_rise n (suc a) b g (c / 2) (d / 2) k (omega arith) in omega arith)
      (λ k.
      let e : c / 2 ≡ d / 2 = omega arith in
      let z : get_or ps (c / 2) 0 ≡ get_or ps (d / 2) 0 = ap (λ (i : ℕ). get_or ps i 0) e in
      omega arith)

  inside : (q : ℕ) → q < length ps * 2 → named q < 2 ^ (n - a)
  inside q h = let z = first_below n (suc a) b g (q / 2) (omega arith) in omega (arith, twice)

  -- halves of the same column are the same
  halves_same : (p q r : ℕ) → r < 2 → same n (suc a) b g p q ≡ true → same n a b g (p * 2 + r) (q * 2 + r) ≡ true
  halves_same p q r hr e =
      entry-same n a b g (p * 2 + r) (q * 2 + r) (λ k x hk hx.
      let room : r * 2 ^ a + x < 2 ^ suc a =
      by_less r 1
      (λ l. let z : r ≡ 0 = omega arith in rw z (omega arith))
      (λ l. let z : r ≡ 1 = omega arith in rw z (omega arith)) in
      input_entry n a g p r k x ∙ same-entry n (suc a) b g p q e k (r * 2 ^ a + x) hk room ∙ sym (input_entry n a g q r k x))

  reaches : (p : ℕ) → p < 2 ^ (n - a) → (q : ℕ) × (q < length ps * 2) × (named q ≤ p) × (same n a b g p (named q) ≡ true)
  reaches p h =
      let up : p / 2 < 2 ^ (n - suc a) = omega (arith, twice) in
      let c = number_in n (suc a) b g ps (p / 2) in
      let hc = number_below_lem n (suc a) b g (p / 2) up in
      let q = c * 2 + p % 2 in
      let eq : q / 2 ≡ c = omega arith in
      let er : q % 2 ≡ p % 2 = omega arith in
      let least = first-least n (suc a) b g (p / 2) up in
      let whole : p / 2 * 2 + p % 2 ≡ p = omega arith in
      let is : named q ≡ get_or ps c 0 * 2 + p % 2 = ap (λ (i : ℕ). get_or ps i 0 * 2 + q % 2) eq ∙ ap (λ (i : ℕ). get_or ps c 0 * 2 + i) er in (
        q,
        omega arith,
        omega (arith, is),
        rw is
            (ap (λ (i : ℕ). same n a b g i (get_or ps c 0 * 2 + p % 2)) (sym whole)
            ∙ halves_same (p / 2) (get_or ps c 0) (p % 2) (omega arith) (number_same n (suc a) b g (p / 2) up)),
      )

  pub input_names : Names n a b g (length (firsts n (suc a) b g) * 2) (λ q. get_or (firsts n (suc a) b g) (q / 2) 0 * 2 + q % 2)
  input_names = record { rise = rises; into = inside; onto = reaches }
