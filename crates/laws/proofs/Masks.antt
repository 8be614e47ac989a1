-- Laws of numbers as sets of bits: equality and emptiness, exclusive or, a number given by its bits, values on two masks;
-- and of a test that is counted.
-- Assumes nothing.
use mathlib.Core.Path.{◌≡◌, refl, sym, ◌∙◌, ap, ap₂}
use mathlib.Core.Bool.{Bool, true, false, not, cond, ◌&&◌, ◌||◌, and-true, and_comm, true≢false}
use Prim.Native.Nat.{ℕ, zero, suc, ◌+◌, ◌*◌, ◌/◌, ◌%◌, ◌^◌, ◌<◌, ◌≤◌}
use native.Mathlib.Nat.{pow-suc}
use native.Mathlib.Omega.{arith}
use lib.Dec.{eqb}
use lib.Bits.{bit_and, bit_or, bit_xor, xor_shr, xor_mod, and_lt, and_le_r, or_lt, xor_lt}
use lib.Pow.{pow_pos, pow_mono}
use borrow.Author.Tests.{eqb-true, eq-eqb, lt-ltb, not-true}
use Rattle.laws.specs.Bits.{bit, has, flag}
use Rattle.laws.specs.Tests.{any, sum, count, least}
use Rattle.laws.proofs.Cases.{by_test, by_less, and_split, and_join, same_test, equal_sym}
use Rattle.laws.proofs.Tests.{every_at, any_of, any_at, any_out, any_ext, any_one}
use Rattle.laws.proofs.Find.{least_before}
use Rattle.laws.proofs.Powers.{sum-bit, sum-small, lt-pow}
use Rattle.laws.proofs.Bits.{bit-lt, flag-lt, flag_is, bit-zero, flag-has, has_and, has_or, has_power, same_bits}

-- a test that is both
pub not-both : {C : Type 0} {b : Bool} → b ≡ true → b ≡ false → C
not-both p q = absurd (true≢false (sym p ∙ q))

-- numbers below 2^k with the same set of bits are equal
pub same-has : (k a b : ℕ) → a < 2 ^ k → b < 2 ^ k → ((i : ℕ) → i < k → has a i ≡ has b i) → a ≡ b
same-has k a b p q h = same_bits k a b p q (λ i l. sym (flag-has a i) ∙ ap flag (h i l) ∙ flag-has b i)

-- numbers as bits are or-ed in any order
pub or_assoc : (a b c : ℕ) → bit_or (bit_or a b) c ≡ bit_or a (bit_or b c)
or_assoc a b c =
    let k = a + b + c in
    let p : a < 2 ^ k = within a (omega arith) in
    let q : b < 2 ^ k = within b (omega arith) in
    let r : c < 2 ^ k = within c (omega arith) in
    same-has k (bit_or (bit_or a b) c) (bit_or a (bit_or b c)) (or_lt k (bit_or a b) c (or_lt k a b p q) r) (or_lt k a (bit_or b c) p (or_lt k b c q r))
    (λ i l.
    has_or (bit_or a b) c i ∙ ap (λ (t : Bool). t || has c i) (has_or a b i) ∙ or_turn (has a i) (has b i) (has c i)
    ∙ sym (has_or a (bit_or b c) i ∙ ap (λ (t : Bool). has a i || t) (has_or b c i)))
  where
    within : (x : ℕ) → x ≤ a + b + c → x < 2 ^ (a + b + c)
    within x h = let m = pow_mono {i = x} {j = a + b + c} h in omega (arith, lt-pow x, m)

    or_turn : (x y z : Bool) → ((x || y) || z) ≡ (x || (y || z))
    or_turn true y z = refl
    or_turn false y z = refl

pub has-zero : (i : ℕ) → has 0 i ≡ false
has-zero i = ap (λ (x : ℕ). eqb x 1) (bit-zero i)

-- a number below 2^k is not 0 where it has a bit
pub some-bit : (k a : ℕ) → a < 2 ^ k → not (eqb a 0) ≡ any k (has a)
some-bit k a h =
    same_test (not (eqb a 0)) (any k (has a))
    (λ e.
    by_test (any k (has a)) (λ p. p)
    (λ p.
    let none : a ≡ 0 = same-has k a 0 h (pow_pos k) (λ i l. any_out (has a) k p i l ∙ sym (has-zero i)) in
    not-both (eq-eqb a 0 none) (not-true (eqb a 0) e)))
    (λ e.
    let at = any_at (has a) k e in
    by_test (eqb a 0) (λ p. not-both at.2 (ap (λ (x : ℕ). has x at.0) (eqb-true a 0 p) ∙ has-zero at.0)) (λ p. ap not p))

-- a number without bit q
pub no_bit : (a q : ℕ) → eqb (bit_and a (2 ^ q)) 0 ≡ not (has a q)
no_bit a q =
    let b = bit_and a (2 ^ q) in
    let most = and_le_r a (2 ^ q) in
    let some : not (eqb b 0) ≡ has a q =
    some-bit (suc q) b (omega (arith, pow-suc 2 q, pow_pos q))
    ∙ any_ext (has b) (λ k. eqb k q && has a k) (suc q)
    (λ k l. has_and a (2 ^ q) k ∙ ap (λ (t : Bool). has a k && t) (has_power q k ∙ equal_sym q k) ∙ and_comm (has a k) (eqb k q))
    ∙ any_one (has a) q (suc q)
    ∙ ap (λ (t : Bool). t && has a q) (lt-ltb q (suc q) (omega arith)) in
    twice (eqb b 0) ∙ ap not some
  where
    twice : (t : Bool) → t ≡ not (not t)
    twice true = refl
    twice false = refl

-- one bit of an exclusive or
abbrev pub differ : Bool → Bool → Bool
differ a b = a && not b || not a && b

pub differ_same : (a b : Bool) → differ a b ≡ false → a ≡ b
differ_same true true e = refl
differ_same true false e = not-both refl e
differ_same false true e = not-both refl e
differ_same false false e = refl

pub same_differ : (a b : Bool) → a ≡ b → differ a b ≡ false
same_differ true true e = refl
same_differ true false e = e
same_differ false true e = sym e
same_differ false false e = refl

pub xor_bit : (a b i : ℕ) → bit (bit_xor a b) i ≡ bit_xor (bit a i) (bit b i)
xor_bit a b i = ap (λ (x : ℕ). x % 2) (xor_shr a b i) ∙ xor_mod (a / 2 ^ i) (b / 2 ^ i) 1

xor_flags : (a b : ℕ) → a < 2 → b < 2 → eqb (bit_xor a b) 1 ≡ differ (eqb a 1) (eqb b 1)
xor_flags zero zero p q = refl
xor_flags zero (suc zero) p q = refl
xor_flags zero (suc (suc b)) p q = absurd (omega arith)
xor_flags (suc zero) zero p q = refl
xor_flags (suc zero) (suc zero) p q = refl
xor_flags (suc zero) (suc (suc b)) p q = absurd (omega arith)
xor_flags (suc (suc a)) b p q = absurd (omega arith)

pub has_xor : (a b i : ℕ) → has (bit_xor a b) i ≡ differ (has a i) (has b i)
has_xor a b i = ap (λ (x : ℕ). eqb x 1) (xor_bit a b i) ∙ xor_flags (bit a i) (bit b i) (bit-lt a i) (bit-lt b i)

-- the bits that a byte does not have
pub has_complement : (a i : ℕ) → i < 8 → has (bit_xor a 255) i ≡ not (has a i)
has_complement a i h = has_xor a 255 i ∙ ap (differ (has a i)) (every_at (has 255) 8 refl i h) ∙ turned (has a i)
  where
    turned : (b : Bool) → differ b true ≡ not b
    turned true = refl
    turned false = refl

-- the numbers at which a test holds, as a mask
module _ (p : ℕ → Bool) (n : ℕ) where
  pub flags-lt : sum n (λ i. flag (p i) * 2 ^ i) < 2 ^ n
  flags-lt = sum-small (λ i. flag (p i)) n (λ i l. flag-lt (p i))

  pub has-flags : (i : ℕ) → i < n → has (sum n (λ k. flag (p k) * 2 ^ k)) i ≡ p i
  has-flags i h = ap (λ (x : ℕ). eqb x 1) (sum-bit (λ k. flag (p k)) (λ k. k) n (λ k l. flag-lt (p k)) (λ k q l r e. e) i h) ∙ flag_is (p i)

-- the bits of both masks a and b in which v and u differ
abbrev pub apart : ℕ → ℕ → ℕ → ℕ → ℕ
apart v a u b = bit_and (bit_and (bit_xor u v) b) a

has-apart : (v a u b i : ℕ) → has (apart v a u b) i ≡ (differ (has u i) (has v i) && has b i && has a i)
has-apart v a u b i =
    has_and (bit_and (bit_xor u v) b) a i ∙ ap (λ (x : Bool). x && has a i) (has_and (bit_xor u v) b i ∙ ap (λ (x : Bool). x && has b i) (has_xor u v i))

-- one bit x of a word on both masks; bits x and y of the two values
split-bits : (x a b : Bool) → ((differ (x && b) (x && a) && b) && a) ≡ false
split-bits true true true = refl
split-bits true true false = refl
split-bits true false true = refl
split-bits true false false = refl
split-bits false true true = refl
split-bits false true false = refl
split-bits false false true = refl
split-bits false false false = refl

join_bits : (x y a b : Bool) → (x && a) ≡ x → (y && b) ≡ y → ((differ y x && b) && a) ≡ false → (((x || y) && a) ≡ x) × (((x || y) && b) ≡ y)
join_bits true true a b p q r = (p, q)
join_bits true false a true p q r = (p, not-both p r)
join_bits true false a false p q r = (p, refl)
join_bits false true true b p q r = (not-both q (sym (and-true b) ∙ r), q)
join_bits false true false b p q r = (refl, q)
join_bits false false a b p q r = (refl, refl)

-- Where v has bits of a alone and u of b alone, some word has v on a and u on b exactly when v and u agree on both masks: the word is v or u
module _ (n v a u b : ℕ) (v< : v < 2 ^ n) (a< : a < 2 ^ n) (u< : u < 2 ^ n) (b< : b < 2 ^ n) (va : bit_and v a ≡ v) (ub : bit_and u b ≡ u) where
  apart-lt : apart v a u b < 2 ^ n
  apart-lt = and_lt n (bit_and (bit_xor u v) b) a (and_lt n (bit_xor u v) b (xor_lt n u v u< v<) b<) a<

  word-agrees : (w : ℕ) → bit_and w a ≡ v → bit_and w b ≡ u → apart v a u b ≡ 0
  word-agrees w p q =
      same-has n (apart v a u b) 0 apart-lt (pow_pos n)
      (λ i h.
      has-apart v a u b i
      ∙ ap₂ (λ (x y : Bool). differ x y && has b i && has a i) (ap (λ (x : ℕ). has x i) (sym q) ∙ has_and w b i) (ap (λ (x : ℕ). has x i) (sym p) ∙ has_and w a i)
      ∙ split-bits (has w i) (has a i) (has b i) ∙ sym (has-zero i))

  joined_at : apart v a u b ≡ 0 → (i : ℕ) → (((has v i || has u i) && has a i) ≡ has v i) × (((has v i || has u i) && has b i) ≡ has u i)
  joined_at e i =
      join_bits (has v i) (has u i) (has a i) (has b i) (sym (has_and v a i) ∙ ap (λ (x : ℕ). has x i) va) (sym (has_and u b i) ∙ ap (λ (x : ℕ). has x i) ub)
      (sym (has-apart v a u b i) ∙ ap (λ (x : ℕ). has x i) e ∙ has-zero i)

  or_on : (k i : ℕ) → has (bit_and (bit_or v u) k) i ≡ ((has v i || has u i) && has k i)
  or_on k i = has_and (bit_or v u) k i ∙ ap (λ (x : Bool). x && has k i) (has_or v u i)

  word-joined : apart v a u b ≡ 0 → (bit_and (bit_or v u) a ≡ v) × (bit_and (bit_or v u) b ≡ u)
  word-joined e = (
    same-has n (bit_and (bit_or v u) a) v (and_lt n (bit_or v u) a (or_lt n v u v< u<) a<) v< (λ i h. or_on a i ∙ (joined_at e i).0),
    same-has n (bit_and (bit_or v u) b) u (and_lt n (bit_or v u) b (or_lt n v u v< u<) b<) u< (λ i h. or_on b i ∙ (joined_at e i).1),
  )

  pub common-word : any (2 ^ n) (λ w. eqb (bit_and w a) v && eqb (bit_and w b) u) ≡ eqb (apart v a u b) 0
  common-word =
      same_test (any (2 ^ n) (λ w. eqb (bit_and w a) v && eqb (bit_and w b) u)) (eqb (apart v a u b) 0)
      (λ e.
      let found = any_at (λ w. eqb (bit_and w a) v && eqb (bit_and w b) u) (2 ^ n) e in
      let w = found.0 in
      let both = and_split (eqb (bit_and w a) v) (eqb (bit_and w b) u) found.2 in
      eq-eqb (apart v a u b) 0 (word-agrees w (eqb-true (bit_and w a) v both.0) (eqb-true (bit_and w b) u both.1)))
      (λ e.
      let w = bit_or v u in
      let both = word-joined (eqb-true (apart v a u b) 0 e) in
      any_of (λ w. eqb (bit_and w a) v && eqb (bit_and w b) u) (2 ^ n) w (or_lt n v u v< u<)
      (and_join (eq-eqb (bit_and w a) v both.0) (eq-eqb (bit_and w b) u both.1)))

-- a test that is counted is found
pub count_empty : (p : ℕ → Bool) (n : ℕ) → ((i : ℕ) → i < n → p i ≡ false) → count n p ≡ 0
count_empty p zero h = refl
count_empty p (suc n) h = rw (h n (omega arith)) (count_empty p n (λ i l. h i (omega arith)))

pub least_counted : (p : ℕ → Bool) (n : ℕ) → 0 < count n p → least n p < n
least_counted p n h = by_less (least n p) n (λ l. l) (λ l. let e = count_empty p n (λ i k. least_before p n i (omega arith)) in absurd (omega arith))

pub has-cond : (b : Bool) (f o : ℕ) → has (cond b f 0) o ≡ (b && has f o)
has-cond true f o = refl
has-cond false f o = has-zero o
