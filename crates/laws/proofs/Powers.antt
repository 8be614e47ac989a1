-- Sums of distinct powers of two, read bit by bit; a number put above another.
-- Assumes nothing.
use mathlib.Core.Path.{◌≡◌, sym, ◌∙◌, ap}
use mathlib.Core.Bool.{cond}
use Prim.Native.Nat.{ℕ, zero, suc, ◌+◌, ◌-◌, ◌*◌, ◌/◌, ◌%◌, ◌^◌, ◌<◌, ◌≤◌}
use native.Mathlib.Nat.{mod-lt, add-mul, div-one, pow-suc, not-suc-le-zero, mul-le-mul_right, one-mul, zero-mul, mul_comm, mul_assoc}
use native.Mathlib.Omega.{arith}
use lib.Dec.{eqb}
use lib.Pow.{pow_pos, pow-add, shr-shr, split}
use lib.Arith.{digits_lt}
use borrow.Author.Tests.{eq-eqb, ne_eqb}
use Rattle.laws.specs.Tests.{sum}
use Rattle.laws.specs.Bits.{bit}
use Rattle.laws.proofs.Cases.{by_less, last_or_below, cond_yes, cond_no}
use Rattle.laws.proofs.Bits.{bit-zero, bit-suc, bit-low, bit_high, same_bits}

-- a bit added at 0 to an even number
even_low : (q b : ℕ) → b < 2 → q % 2 ≡ 0 → bit (q + b) 0 ≡ b
even_low q b h z = rw div-one (omega arith)

even_high : (q b j : ℕ) → b < 2 → q % 2 ≡ 0 → bit (q + b) (suc j) ≡ bit q (suc j)
even_high q b j h z =
    let halves : (q + b) / 2 ≡ q / 2 = omega arith in
    bit-suc (q + b) j ∙ ap (λ (x : ℕ). bit x j) halves ∙ sym (bit-suc q j)

-- a bit added at e, where there was none
above_add : (q r b e i : ℕ) → r < 2 ^ e → b < 2 → q % 2 ≡ 0 → bit ((q + b) * 2 ^ e + r) i ≡ cond (eqb i e) b (bit (q * 2 ^ e + r) i)
above_add q r b e i l h z =
    by_less i e
    (λ k.
    bit-low (q + b) e r i l k ∙ sym (bit-low q e r i l k)
    ∙ sym (cond_no (eqb i e) b (bit (q * 2 ^ e + r) i) (ne_eqb i e (λ s. absurd (omega arith)))))
    (λ k. at (i - e) (omega arith))
  where
    at : (j : ℕ) → i ≡ e + j → bit ((q + b) * 2 ^ e + r) i ≡ cond (eqb i e) b (bit (q * 2 ^ e + r) i)
    at zero s =
        ap (λ (x : ℕ). bit ((q + b) * 2 ^ e + r) x) s ∙ bit_high (q + b) e r 0 l ∙ even_low q b h z
        ∙ sym (cond_yes (eqb i e) b (bit (q * 2 ^ e + r) i) (eq-eqb i e (omega arith)))
    at (suc j) s =
        ap (λ (x : ℕ). bit ((q + b) * 2 ^ e + r) x) s ∙ bit_high (q + b) e r (suc j) l ∙ even_high q b j h z
        ∙ sym (bit_high q e r (suc j) l) ∙ ap (λ (x : ℕ). bit (q * 2 ^ e + r) x) (sym s)
        ∙ sym (cond_no (eqb i e) b (bit (q * 2 ^ e + r) i) (ne_eqb i e (λ t. absurd (omega arith))))

pub add-bit : (s b e i : ℕ) → b < 2 → bit s e ≡ 0 → bit (s + b * 2 ^ e) i ≡ cond (eqb i e) b (bit s i)
add-bit s b e i h z =
    let whole = split s e in
    let more : s + b * 2 ^ e ≡ (s / 2 ^ e + b) * 2 ^ e + s % 2 ^ e = omega (arith, add-mul (s / 2 ^ e) b (2 ^ e)) in
    ap (λ (x : ℕ). bit x i) more ∙ above_add (s / 2 ^ e) (s % 2 ^ e) b e i (mod-lt s (pow_pos e)) h z
    ∙ ap (λ (x : ℕ). cond (eqb i e) b (bit x i)) whole

-- f 0 times 2^(e 0), f 1 times 2^(e 1), .. with distinct e's: bit e k of the sum is f k, and no other bit is set
pub sum_no_bit : (f e : ℕ → ℕ) (n : ℕ) → ((k : ℕ) → k < n → f k < 2) → ((k q : ℕ) → k < n → q < n → e k ≡ e q → k ≡ q)
    → (i : ℕ) → ((k : ℕ) → k < n → e k ≡ i → ⊥) → bit (sum n (λ i. f i * 2 ^ e i)) i ≡ 0
sum_no_bit f e zero small apart i free = bit-zero i
sum_no_bit f e (suc n) small apart i free =
    let before : (j : ℕ) → ((k : ℕ) → k < n → e k ≡ j → ⊥) → bit (sum n (λ i. f i * 2 ^ e i)) j ≡ 0 =
    sum_no_bit f e n (λ k l. small k (omega arith)) (λ k q l p. apart k q (omega arith) (omega arith)) in
    add-bit (sum n (λ i. f i * 2 ^ e i)) (f n) (e n) i (small n (omega arith))
    (before (e n) (λ k l s. let t = apart k n (omega arith) (omega arith) s in omega arith))
    ∙ cond_no (eqb i (e n)) (f n) _ (ne_eqb i (e n) (λ s. free n (omega arith) (sym s)))
    ∙ before i (λ k l. free k (omega arith))

pub sum-bit : (f e : ℕ → ℕ) (n : ℕ) → ((k : ℕ) → k < n → f k < 2) → ((k q : ℕ) → k < n → q < n → e k ≡ e q → k ≡ q)
    → (k : ℕ) → k < n → bit (sum n (λ i. f i * 2 ^ e i)) (e k) ≡ f k
sum-bit f e zero small apart k h = absurd (not-suc-le-zero h)
sum-bit f e (suc n) small apart k h =
    let small' : (k : ℕ) → k < n → f k < 2 = λ k l. small k (omega arith) in
    let apart' : (k q : ℕ) → k < n → q < n → e k ≡ e q → k ≡ q = λ k q l p. apart k q (omega arith) (omega arith) in
    let step : bit (sum n (λ i. f i * 2 ^ e i) + f n * 2 ^ e n) (e k) ≡ cond (eqb (e k) (e n)) (f n) (bit (sum n (λ i. f i * 2 ^ e i)) (e k)) =
    add-bit (sum n (λ i. f i * 2 ^ e i)) (f n) (e n) (e k) (small n (omega arith))
    (sum_no_bit f e n small' apart' (e n) (λ k l s. let t = apart k n (omega arith) (omega arith) s in omega arith)) in
    last_or_below k n h (λ s. step ∙ cond_yes (eqb (e k) (e n)) (f n) _ (eq-eqb (e k) (e n) (ap e s)) ∙ ap f (sym s))
    (λ l.
    step
    ∙ cond_no (eqb (e k) (e n)) (f n) _ (ne_eqb (e k) (e n) (λ s. let t = apart k n (omega arith) (omega arith) s in omega arith))
    ∙ sum-bit f e n small' apart' k l)

pub sum-small : (f : ℕ → ℕ) (n : ℕ) → ((k : ℕ) → k < n → f k < 2) → sum n (λ i. f i * 2 ^ i) < 2 ^ n
sum-small f zero small = omega arith
sum-small f (suc n) small =
    let before = sum-small f n (λ k l. small k (omega arith)) in
    let last : f n ≤ 1 = let l = small n (omega arith) in omega arith in
    omega (arith, pow-suc 2 n, mul-le-mul_right (2 ^ n) last, one-mul (2 ^ n))

pub lt-pow : (n : ℕ) → n < 2 ^ n
lt-pow zero = omega arith
lt-pow (suc n) = let h = lt-pow n in omega (arith, pow-suc 2 n)

-- a number without bits from n on
pub small-bits : (n w : ℕ) → ((i : ℕ) → n ≤ i → bit w i ≡ 0) → w < 2 ^ n
small-bits n w h =
    let top : w / 2 ^ n ≡ 0 =
    same_bits (w / 2 ^ n) (w / 2 ^ n) 0 (lt-pow (w / 2 ^ n)) (pow_pos (w / 2 ^ n))
    (λ i l. ap (λ (x : ℕ). x % 2) (shr-shr w n i) ∙ h (n + i) (omega arith) ∙ sym (bit-zero i)) in
    let rest : w % 2 ^ n < 2 ^ n = mod-lt w (pow_pos n) in
    let whole : 0 * 2 ^ n + w % 2 ^ n ≡ w = rw top at (split w n) in
    omega arith

-- a number of n - a bits put above one of a bits
pub place_below : (n a p x : ℕ) → a ≤ n → p < 2 ^ (n - a) → x < 2 ^ a → p * 2 ^ a + x < 2 ^ n
place_below n a p x ha hp hx =
    let e : n - a + a ≡ n = omega arith in
    rw (ap (λ (i : ℕ). 2 ^ i) (sym e) ∙ pow-add 2 (n - a) a) (digits_lt hp hx)

-- bits that start at place r
pub sum_moved : (f : ℕ → ℕ) (r d : ℕ) → sum d (λ i. f i * 2 ^ (r + i)) ≡ sum d (λ i. f i * 2 ^ i) * 2 ^ r
sum_moved f r zero = sym (zero-mul (2 ^ r))
sum_moved f r (suc d) =
    let one : f d * 2 ^ (r + d) ≡ f d * 2 ^ d * 2 ^ r =
    ap (λ (k : ℕ). f d * k) (pow-add 2 r d ∙ mul_comm (2 ^ r) (2 ^ d)) ∙ sym (mul_assoc (f d) (2 ^ d) (2 ^ r)) in
    omega (arith, sum_moved f r d, one, add-mul (sum d (λ i. f i * 2 ^ i)) (f d * 2 ^ d) (2 ^ r))
