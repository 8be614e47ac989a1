-- Laws of words, numbers and bytes in text: how long a text is that begins with a word, how great a number of five digits is, or of four in base
-- 16, and what the digits of bytes are.
-- Assumes nothing.
use mathlib.Core.Path.{◌≡◌, refl}
use mathlib.Core.Bool.{Bool, true, false, ◌&&◌}
use mathlib.Core.List.{List}
use Prim.Native.Nat.{ℕ, ◌*◌, ◌/◌, ◌%◌, ◌<◌, ◌≤◌}
use native.Mathlib.Omega.{arith}
use lib.Dec.{eqb, ltb}
use lib.ListN.{length, get_or, get_or-eq_default}
use borrow.Author.Tests.{eqb-true, ltb-true}
use Rattle.laws.specs.Tests.{every, within}
use Rattle.laws.proofs.Tests.{within_has, every_at}
use Rattle.laws.proofs.Cases.{by_test, by_less, and_split}
use Rattle.call_text.specs.Words.{begins, without_zeros, hex_digit, is_hex, is_bytes}
use Rattle.call_text.specs.Lines.{bank_word, latch_word, admit_word}

-- a text that begins with a word of bytes that are not 0 is at least as long
pub begins-long : (word l : List ℕ) → without_zeros word ≡ true → begins word l ≡ true → length word ≤ length l
unfolding begins
begins-long word l some h =
    by_less (length l) (length word)
    (λ k.
    let same = eqb-true (get_or l (length l) 0) (get_or word (length l) 0) (every_at (λ i. eqb (get_or l i 0) (get_or word i 0)) (length word) h (length l) k) in
    let ended : get_or l (length l) 0 ≡ 0 = get_or-eq_default l 0 (omega arith) in
    let more = ltb-true 0 (get_or word (length l) 0) (every_at (λ i. ltb 0 (get_or word i 0)) (length word) some (length l) k) in
    absurd (omega arith))
    (λ k. k)

pub bank-long : (l : List ℕ) → begins bank_word l ≡ true → length bank_word ≤ length l
bank-long l = begins-long bank_word l refl

pub latch-long : (l : List ℕ) → begins latch_word l ≡ true → length latch_word ≤ length l
latch-long l = begins-long latch_word l refl

pub admit-long : (l : List ℕ) → begins admit_word l ≡ true → length admit_word ≤ length l
admit-long l = begins-long admit_word l refl

-- a digit in base 16
pub hex_below : (l : List ℕ) (i : ℕ) → is_hex l i ≡ true → hex_digit (get_or l i 0) < 16
unfolding is_hex
hex_below l i = ltb-true (hex_digit (get_or l i 0)) 16

-- the text is - alone
none : List ℕ → Bool
none l = eqb (length l) 1 && eqb (get_or l 0 0) 45

-- the text of bytes: at most 131,071 digits, and each of a pair is one in base 16
module _ (l : List ℕ) (h : is_bytes l ≡ true) where
  hex_tests : none l ≡ false → (length l ≤ 131071) × (every (length l) (is_hex l) ≡ true)
  unfolding is_bytes none
  hex_tests e =
      let (p, q) = and_split (within 1 131071 (length l) && eqb (length l % 2) 0) (every (length l) (is_hex l)) (rw e at h) in
      ((within_has 1 131071 (length l) (and_split (within 1 131071 (length l)) (eqb (length l % 2) 0) p).0).1, q)

  none-length : none l ≡ true → length l ≡ 1
  unfolding none
  none-length e = eqb-true (length l) 1 (and_split (eqb (length l) 1) (eqb (get_or l 0 0) 45) e).0

  pub bytes-short : length l ≤ 131071
  bytes-short = by_test (none l) (λ e. omega (arith, none-length e)) (λ e. (hex_tests e).0)

  pub bytes_hex : (i : ℕ) → i < length l / 2 * 2 → is_hex l i ≡ true
  bytes_hex i k =
      by_test (none l) (λ e. let one = none-length e in absurd (omega arith))
      (λ e. every_at (is_hex l) (length l) (hex_tests e).1 i (omega arith))
