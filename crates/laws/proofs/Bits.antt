-- Laws of single bits: of and and or, of a number read bit by bit, and of numbers equal on a mask.
-- Assumes nothing.
use mathlib.Core.Path.{◌≡◌, refl, sym, ◌∙◌, ap, ap₂}
use mathlib.Core.Bool.{Bool, true, false, ◌&&◌, ◌||◌, not}
use Prim.Native.Nat.{ℕ, zero, suc, ◌+◌, ◌-◌, ◌*◌, ◌/◌, ◌%◌, ◌^◌, ◌<◌, ◌≤◌}
use native.Mathlib.Nat.{mod-lt, add-zero, div-add-mod', div-one, zero-div, pow-suc, div-eq_of_lt, div-lt_iff_lt-mul, one-mul}
use native.Mathlib.Omega.{arith}
use lib.Dec.{eqb, ltb}
use lib.Bits.{block_half, block_odd, bit_and, bit_or, and_shr, or_shr, and_mod, or_mod}
use lib.Pow.{pow_pos, shr-shr, pow_mono, high, split, shl_lt}
use borrow.Author.Tests.{lt-ltb, le-ltb, eq-eqb, ne_eqb}
use Rattle.laws.specs.Bits.{bit, has, flag}
use Rattle.laws.proofs.Cases.{by_less, by_equal}
use Rattle.laws.specs.Tests.{any}
use Rattle.laws.proofs.Tests.{any_next}

pub bit-lt : (w i : ℕ) → bit w i < 2
bit-lt w i = mod-lt (w / 2 ^ i) (omega arith)

pub flag-lt : (b : Bool) → flag b < 2
flag-lt true = omega arith
flag-lt false = omega arith

pub flag_is : (b : Bool) → eqb (flag b) 1 ≡ b
flag_is true = refl
flag_is false = refl

-- a bit is 1 where `has` says so
pub flag-has : (w i : ℕ) → flag (has w i) ≡ bit w i
flag-has w i = of (bit w i) (bit-lt w i)
  where
    of : (b : ℕ) → b < 2 → flag (eqb b 1) ≡ b
    of zero h = refl
    of (suc zero) h = refl
    of (suc (suc b)) h = absurd (omega arith)

-- one bit of an and, of an or
pub and_bit : (a b i : ℕ) → bit (bit_and a b) i ≡ bit_and (bit a i) (bit b i)
and_bit a b i = ap (λ (x : ℕ). x % 2) (and_shr a b i) ∙ and_mod (a / 2 ^ i) (b / 2 ^ i) 1

pub or_bit : (a b i : ℕ) → bit (bit_or a b) i ≡ bit_or (bit a i) (bit b i)
or_bit a b i = ap (λ (x : ℕ). x % 2) (or_shr a b i) ∙ or_mod (a / 2 ^ i) (b / 2 ^ i) 1

and_flags : (a b : ℕ) → a < 2 → b < 2 → eqb (bit_and a b) 1 ≡ (eqb a 1 && eqb b 1)
and_flags zero zero p q = refl
and_flags zero (suc zero) p q = refl
and_flags zero (suc (suc b)) p q = absurd (omega arith)
and_flags (suc zero) zero p q = refl
and_flags (suc zero) (suc zero) p q = refl
and_flags (suc zero) (suc (suc b)) p q = absurd (omega arith)
and_flags (suc (suc a)) b p q = absurd (omega arith)

or_flags : (a b : ℕ) → a < 2 → b < 2 → eqb (bit_or a b) 1 ≡ (eqb a 1 || eqb b 1)
or_flags zero zero p q = refl
or_flags zero (suc zero) p q = refl
or_flags zero (suc (suc b)) p q = absurd (omega arith)
or_flags (suc zero) zero p q = refl
or_flags (suc zero) (suc zero) p q = refl
or_flags (suc zero) (suc (suc b)) p q = absurd (omega arith)
or_flags (suc (suc a)) b p q = absurd (omega arith)

pub has_and : (a b i : ℕ) → has (bit_and a b) i ≡ (has a i && has b i)
has_and a b i = ap (λ (x : ℕ). eqb x 1) (and_bit a b i) ∙ and_flags (bit a i) (bit b i) (bit-lt a i) (bit-lt b i)

pub has_or : (a b i : ℕ) → has (bit_or a b) i ≡ (has a i || has b i)
has_or a b i = ap (λ (x : ℕ). eqb x 1) (or_bit a b i) ∙ or_flags (bit a i) (bit b i) (bit-lt a i) (bit-lt b i)

-- bits of 0, and bits past those of a small number
pub bit-zero : (i : ℕ) → bit 0 i ≡ 0
bit-zero i = rw (zero-div (2 ^ i))

pub bit_past : (w k i : ℕ) → w < 2 ^ k → k ≤ i → bit w i ≡ 0
bit_past w k i h l =
    let small : w < 2 ^ i = omega (arith, pow_mono l) in
    rw (div-eq_of_lt small)

-- a bit above the lowest is a bit of the half
pub bit-suc : (w i : ℕ) → bit w (suc i) ≡ bit (w / 2) i
bit-suc w i = ap (λ (x : ℕ). x % 2) (sym (shr-shr w 1 i ∙ ap (λ (k : ℕ). w / 2 ^ k) (omega arith)))

half_lt : (k a : ℕ) → a < 2 ^ suc k → a / 2 < 2 ^ k
half_lt k a h = (div-lt_iff_lt-mul {k = 2} (omega arith)).1 (omega (arith, pow-suc 2 k))

-- two numbers below 2^k with the same bits below k are equal
pub same_bits : (k a b : ℕ) → a < 2 ^ k → b < 2 ^ k → ((i : ℕ) → i < k → bit a i ≡ bit b i) → a ≡ b
same_bits zero a b p q h = omega arith
same_bits (suc k) a b p q h =
    let lowest : a % 2 ≡ b % 2 = ap (λ (x : ℕ). x % 2) (sym (div-one a)) ∙ h 0 (omega arith) ∙ ap (λ (x : ℕ). x % 2) (div-one b) in
    let above : a / 2 ≡ b / 2 =
    same_bits k (a / 2) (b / 2) (half_lt k a p) (half_lt k b q)
    (λ i l. sym (bit-suc a i) ∙ h (suc i) (omega arith) ∙ bit-suc b i) in
    sym (div-add-mod' a 2) ∙ ap₂ (λ (x y : ℕ). x * 2 + y) above lowest ∙ div-add-mod' b 2

-- the bits of a number put below another: hi * 2^k + lo
pub bit-low : (hi k lo i : ℕ) → lo < 2 ^ k → i < k → bit (hi * 2 ^ k + lo) i ≡ bit lo i
bit-low hi zero lo i h l = absurd (omega arith)
bit-low hi (suc k) lo zero h l =
    ap (λ (x : ℕ). x % 2) (div-one (hi * 2 ^ suc k + lo)) ∙ block_odd hi k lo ∙ ap (λ (x : ℕ). x % 2) (sym (div-one lo))
bit-low hi (suc k) lo (suc i) h l =
    bit-suc (hi * 2 ^ suc k + lo) i ∙ ap (λ (x : ℕ). bit x i) (block_half hi k lo)
    ∙ bit-low hi k (lo / 2) i (half_lt k lo h) (omega arith) ∙ sym (bit-suc lo i)

pub bit_high : (hi k lo i : ℕ) → lo < 2 ^ k → bit (hi * 2 ^ k + lo) (k + i) ≡ bit hi i
bit_high hi k lo i h = ap (λ (x : ℕ). x % 2) (sym (shr-shr (hi * 2 ^ k + lo) k i) ∙ ap (λ (x : ℕ). x / 2 ^ i) (high hi k h))

-- clearing the c lowest bits keeps those from c on
pub cleared-bit : (x c q : ℕ) → c ≤ q → bit (x / 2 ^ c * 2 ^ c) q ≡ bit x q
cleared-bit x c q h =
    let p = x / 2 ^ c in
    let e : c + (q - c) ≡ q = omega arith in
    ap (bit (p * 2 ^ c)) (sym e) ∙ ap (λ (z : ℕ). bit z (c + (q - c))) (sym (add-zero (p * 2 ^ c)))
    ∙ bit_high p c 0 (q - c) (pow_pos c) ∙ sym (bit_high p c (x % 2 ^ c) (q - c) (mod-lt x (pow_pos c)))
    ∙ ap (λ (z : ℕ). bit z (c + (q - c))) (div-add-mod' x (2 ^ c)) ∙ ap (bit x) e

-- the bits of the s lowest, and of those from s on
pub has-low : (x s r : ℕ) → has (x % 2 ^ s) r ≡ (ltb r s && has x r)
has-low x s r =
    let small = mod-lt x (pow_pos s) in
    by_less r s
    (λ l.
    ap (λ (b : ℕ). eqb b 1) (sym (bit-low (x / 2 ^ s) s (x % 2 ^ s) r small l) ∙ ap (λ (y : ℕ). bit y r) (split x s))
    ∙ sym (ap (λ (t : Bool). t && has x r) (lt-ltb r s l)))
    (λ l. ap (λ (b : ℕ). eqb b 1) (bit_past (x % 2 ^ s) s r small l) ∙ sym (ap (λ (t : Bool). t && has x r) (le-ltb r s l)))

pub has-high : (x s r : ℕ) → has (x / 2 ^ s) r ≡ has x (s + r)
has-high x s r = ap (λ (y : ℕ). eqb (y % 2) 1) (shr-shr x s r)

-- the bits of a number put q places up
pub has-moved : (p q r : ℕ) → has (p * 2 ^ q) (q + r) ≡ has p r
has-moved p q r =
    ap (λ (x : ℕ). has x (q + r)) (sym (add-zero (p * 2 ^ q))) ∙ ap (λ (b : ℕ). eqb b 1) (bit_high p q 0 r (pow_pos q))

pub has_unmoved : (p q r : ℕ) → r < q → has (p * 2 ^ q) r ≡ false
has_unmoved p q r l =
    ap (λ (x : ℕ). has x r) (sym (add-zero (p * 2 ^ q))) ∙ ap (λ (b : ℕ). eqb b 1) (bit-low p q 0 r (pow_pos q) l ∙ bit-zero r)

pub has_past : (w k i : ℕ) → w < 2 ^ k → k ≤ i → has w i ≡ false
has_past w k i h l = ap (λ (b : ℕ). eqb b 1) (bit_past w k i h l)

pub has_power : (q k : ℕ) → has (2 ^ q) k ≡ eqb q k
has_power q k =
    let one = ap (λ (x : ℕ). has x k) (sym (one-mul (2 ^ q))) in
    by_less k q (λ l. one ∙ has_unmoved 1 q k l ∙ sym (ne_eqb q k (λ e. absurd (omega arith))))
    (λ l.
    let e : q + (k - q) ≡ k = omega arith in
    let moved = one ∙ ap (has (1 * 2 ^ q)) (sym e) ∙ has-moved 1 q (k - q) in
    by_equal q k
    (λ s. let z : k - q ≡ 0 = omega arith in moved ∙ ap (has 1) z ∙ sym (eq-eqb q k s))
    (λ n. moved ∙ has_past 1 1 (k - q) (omega arith) (omega arith) ∙ sym (ne_eqb q k n)))

-- line k of place j of a byte put at place q
pub has-byte : (p q j k : ℕ) → p < 256 → k < 8 → has (p * 2 ^ (q * 8)) (j * 8 + k) ≡ (eqb q j && has p k)
has-byte p q j k hp hk =
    by_less j q
    (λ l.
    has_unmoved p (q * 8) (j * 8 + k) (omega arith)
    ∙ sym (ap (λ (t : Bool). t && has p k) (ne_eqb q j (λ e. absurd (omega arith)))))
    (λ l.
    by_equal q j
    (λ e.
    let at : j * 8 + k ≡ q * 8 + k = omega arith in
    ap (has (p * 2 ^ (q * 8))) at ∙ has-moved p (q * 8) k ∙ sym (ap (λ (t : Bool). t && has p k) (eq-eqb q j e)))
    (λ n.
    let past : 8 + q * 8 ≤ j * 8 + k = omega arith in
    has_past (p * 2 ^ (q * 8)) (8 + q * 8) (j * 8 + k) (shl_lt 8 (q * 8) hp) past
    ∙ sym (ap (λ (t : Bool). t && has p k) (ne_eqb q j n))))

-- flags by bits
pub or_flag : (a b : Bool) → bit_or (flag a) (flag b) ≡ flag (a || b)
or_flag true true = refl
or_flag true false = refl
or_flag false true = refl
or_flag false false = refl

pub any_flag : (f : ℕ → Bool) (i a b : ℕ) → a ≡ flag (any i f) → b ≡ flag (f i) → bit_or a b ≡ flag (any (i + 1) f)
any_flag f i a b p q = ap₂ bit_or p q ∙ or_flag (any i f) (f i) ∙ ap flag (sym (any_next f i))

-- flags by bits
pub and_flag : (a b : Bool) → bit_and (flag a) (flag b) ≡ flag (a && b)
and_flag true true = refl
and_flag true false = refl
and_flag false true = refl
and_flag false false = refl

pub flag-none : (b : Bool) → not (eqb (flag b) 0) ≡ b
flag-none true = refl
flag-none false = refl

pub flag-zero : (b : Bool) → flag b ≡ 0 → b ≡ false
flag-zero true e = absurd (omega arith)
flag-zero false e = refl

-- a number by its two bytes
pub two_bytes_lem : (x : ℕ) → x % 256 + 256 * (x / 256) ≡ x
two_bytes_lem x = omega arith
