-- The text of bytes: its length, which signs it has, and that it is read back as the bytes.
-- Assumes nothing.
use mathlib.Core.Path.{◌≡◌, refl, ◌∙◌, ap, ap₂}
use mathlib.Core.Bool.{Bool, true, ◌&&◌, ◌||◌, or-true}
use mathlib.Core.List.{List, [], ◌∷◌}
use Prim.Native.Nat.{ℕ, ◌+◌, ◌-◌, ◌*◌, ◌/◌, ◌%◌, ◌<◌, ◌≤◌}
use native.Mathlib.Omega.{arith}
use lib.Dec.{eqb, ltb}
use lib.ListN.{length, get_or}
use borrow.Author.Tests.{eq-eqb, ne_eqb, lt-ltb, le-ltb}
use Rattle.laws.specs.Tests.{within}
use Rattle.laws.specs.Lists.{tab}
use Rattle.laws.proofs.Cases.{by_less, by_equal, cond_yes, cond_no, cond-each, and_join}
use Rattle.laws.proofs.Lists.{length-tab, get_or-tab, by_elements}
use Rattle.laws.proofs.Tests.{every_of, within_yes, within-high}
use Rattle.call_text.specs.Words.{hex_digit, is_hex, hex_byte, is_bytes, bytes_of}
use Rattle.block_text.specs.BlockLine.{hex_sign, digit_at, sign_at, bytes_text}

-- every element is a byte
abbrev pub AreBytes : List ℕ → Type 0
AreBytes l = (i : ℕ) → get_or l i 0 < 256

-- the sign of a digit
pub sign_low : (d : ℕ) → d < 10 → hex_sign d ≡ 48 + d
unfolding hex_sign
sign_low d h = cond_yes (ltb d 10) (48 + d) (87 + d) (lt-ltb d 10 h)

pub sign_high : (d : ℕ) → 10 ≤ d → hex_sign d ≡ 87 + d
unfolding hex_sign
sign_high d h = cond_no (ltb d 10) (48 + d) (87 + d) (le-ltb d 10 h)

sign_ends : (d : ℕ) → d < 16 → (48 ≤ hex_sign d) × (hex_sign d ≤ 102)
sign_ends d h =
    by_less d 10 (λ l. let e = sign_low d l in (omega arith, omega arith)) (λ l. let e = sign_high d l in (omega arith, omega arith))

sign_back : (d : ℕ) → d < 16 → hex_digit (hex_sign d) ≡ d
unfolding hex_digit
sign_back d h =
    by_less d 10
    (λ l.
    let s = hex_sign d in
    let e = sign_low d l in
    let same : s - 48 ≡ d = omega arith in
    cond_yes (within 48 57 s) _ _ (within_yes 48 57 s (omega arith) (omega arith)) ∙ same)
    (λ l.
    let s = hex_sign d in
    let e = sign_high d l in
    let same : s - 87 ≡ d = omega arith in
    cond_no (within 48 57 s) _ _ (within-high 48 57 s (omega arith)) ∙ cond_yes (within 97 102 s) _ _ (within_yes 97 102 s (omega arith) (omega arith)) ∙ same)

-- the two digits of a byte
digit_first : (R : List ℕ) (i : ℕ) → digit_at R (2 * i) ≡ get_or R i 0 / 16
unfolding digit_at
digit_first R i =
    let even : 2 * i % 2 ≡ 0 = omega arith in
    let half : 2 * i / 2 ≡ i = omega arith in
    cond_yes (eqb (2 * i % 2) 0) _ _ (eq-eqb (2 * i % 2) 0 even) ∙ ap (λ (k : ℕ). get_or R k 0 / 16) half

digit_second : (R : List ℕ) (i : ℕ) → digit_at R (2 * i + 1) ≡ get_or R i 0 % 16
unfolding digit_at
digit_second R i =
    let odd : (2 * i + 1) % 2 ≡ 1 = omega arith in
    let half : (2 * i + 1) / 2 ≡ i = omega arith in
    cond_no (eqb ((2 * i + 1) % 2) 0) _ _ (ne_eqb ((2 * i + 1) % 2) 0 (λ e. omega arith)) ∙ ap (λ (k : ℕ). get_or R k 0 % 16) half

module _ (R : List ℕ) (are : AreBytes R) where
  digit_below : (i : ℕ) → digit_at R i < 16
  unfolding digit_at
  digit_below i = cond-each (λ (d : ℕ). d < 16) (eqb (i % 2) 0) (λ e. omega (arith, are (i / 2))) (λ e. omega arith)

  sign_at-ends : (i : ℕ) → (48 ≤ sign_at R i) × (sign_at R i ≤ 102)
  unfolding sign_at
  sign_at-ends i = sign_ends (digit_at R i) (digit_below i)

  sign_at_back : (i : ℕ) → hex_digit (sign_at R i) ≡ digit_at R i
  unfolding sign_at
  sign_at_back i = sign_back (digit_at R i) (digit_below i)

-- the text
pub text-none : (R : List ℕ) → length R ≡ 0 → bytes_text R ≡ 45 ∷ []
unfolding bytes_text
text-none R e = cond_yes (eqb (length R) 0) _ _ (eq-eqb (length R) 0 e)

pub text-some : (R : List ℕ) → (length R ≡ 0 → ⊥) → bytes_text R ≡ tab (2 * length R) (sign_at R)
unfolding bytes_text
text-some R e = cond_no (eqb (length R) 0) _ _ (ne_eqb (length R) 0 e)

-- one sign for no bytes, else two a byte
pub length_none : (R : List ℕ) → length R ≡ 0 → length (bytes_text R) ≡ 1
length_none R e = ap length (text-none R e)

pub length_some : (R : List ℕ) → (length R ≡ 0 → ⊥) → length (bytes_text R) ≡ 2 * length R
length_some R e = ap length (text-some R e) ∙ length-tab (sign_at R) (2 * length R)

pub text-long : (R : List ℕ) → (1 ≤ length (bytes_text R)) × (2 * length R ≤ length (bytes_text R)) × (length (bytes_text R) ≤ 2 * length R + 1)
text-long R =
    by_equal (length R) 0 (λ e. let n = length_none R e in (omega arith, omega arith, omega arith))
    (λ e.
    let n = length_some R e in
    (by_less 0 (length R) (λ h. omega arith) (λ h. absurd (e (omega arith))), omega arith, omega arith))

pub text_most : (R : List ℕ) (n : ℕ) → 1 ≤ n → length R ≤ n → length (bytes_text R) ≤ 2 * n
text_most R n some h =
    by_equal (length R) 0 (λ e. let l = length_none R e in omega arith) (λ e. let l = length_some R e in omega arith)

-- each of its signs is above a blank and above a line feed
pub text_sign : (R : List ℕ) → AreBytes R → (i : ℕ) → i < length (bytes_text R) → 33 ≤ get_or (bytes_text R) i 0
text_sign R are i h =
    by_equal (length R) 0
    (λ e.
    let n = length_none R e in
    let first : i ≡ 0 = omega arith in
    let s : get_or (bytes_text R) i 0 ≡ 45 = ap₂ (λ (l : List ℕ) (k : ℕ). get_or l k 0) (text-none R e) first in
    omega arith)
    (λ e.
    let n = length_some R e in
    let s : get_or (bytes_text R) i 0 ≡ sign_at R i =
    ap (λ (l : List ℕ). get_or l i 0) (text-some R e) ∙ get_or-tab (sign_at R) 0 (2 * length R) i (omega arith) in
    omega (arith, sign_at-ends R are i))

-- read back: a digit, a byte, all of them
module _ (R : List ℕ) (are : AreBytes R) (some : length R ≡ 0 → ⊥) where
  digit_back : (i : ℕ) → i < 2 * length R → hex_digit (get_or (bytes_text R) i 0) ≡ digit_at R i
  digit_back i h =
      ap (λ (l : List ℕ). hex_digit (get_or l i 0)) (text-some R some) ∙ ap hex_digit (get_or-tab (sign_at R) 0 (2 * length R) i h) ∙ sign_at_back R are i

  digit_said : (i : ℕ) → i < 2 * length R → is_hex (bytes_text R) i ≡ true
  unfolding is_hex
  digit_said i h =
      let e = digit_back i h in
      lt-ltb (hex_digit (get_or (bytes_text R) i 0)) 16 (omega (arith, digit_below R are i))

  byte_back : (i : ℕ) → i < length R → hex_byte (bytes_text R) (2 * i) ≡ get_or R i 0
  unfolding hex_byte
  byte_back i h =
      let first = digit_back (2 * i) (omega arith) ∙ digit_first R i in
      let second = digit_back (2 * i + 1) (omega arith) ∙ digit_second R i in
      omega arith

pub bytes_back : (R : List ℕ) → AreBytes R → bytes_of (bytes_text R) ≡ R
unfolding bytes_of
bytes_back R are =
    let f : ℕ → ℕ = λ i. hex_byte (bytes_text R) (2 * i) in
    by_equal (length R) 0
    (λ e.
    let n = length_none R e in
    let half : length R ≡ length (bytes_text R) / 2 = omega arith in
    by_elements R (length (bytes_text R) / 2) f half (λ i h. absurd (omega arith)))
    (λ e.
    let n = length_some R e in
    let half : length R ≡ length (bytes_text R) / 2 = omega arith in
    by_elements R (length (bytes_text R) / 2) f half (λ i h. byte_back R are e i (omega arith)))

none_said : is_bytes (45 ∷ []) ≡ true
unfolding is_bytes
none_said = refl

pub bytes-said : (R : List ℕ) → AreBytes R → length R ≤ 65535 → is_bytes (bytes_text R) ≡ true
unfolding is_bytes
bytes-said R are h =
    by_equal (length R) 0 (λ e. ap is_bytes (text-none R e) ∙ none_said)
    (λ e.
    let n = length_some R e in
    let l = bytes_text R in
    let even : length l % 2 ≡ 0 = omega arith in
    let ends = within_yes 1 131071 (length l) (text-long R).0 (omega arith) in
    let signs = every_of (is_hex l) (length l) (λ i k. digit_said R are e i (omega arith)) in
    ap (λ (b : Bool). eqb (length l) 1 && eqb (get_or l 0 0) 45 || b) (and_join (and_join ends (eq-eqb (length l % 2) 0 even)) signs)
    ∙ or-true (eqb (length l) 1 && eqb (get_or l 0 0) 45))
