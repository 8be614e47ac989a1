-- Laws of what the words of a call are read as, and how the parts of the call come to be written.
-- Assumes nothing.
use mathlib.Core.Path.{◌≡◌, refl, sym, ◌∙◌, ap, ap₂}
use mathlib.Core.Bool.{Bool, true, false, cond, not, ◌&&◌, ◌||◌, and-false, and_assoc}
use mathlib.Core.List.{List, [], ◌∷◌, ◌++◌, append_assoc}
use Prim.Native.Nat.{ℕ, ◌+◌, ◌-◌, ◌*◌, ◌/◌, ◌%◌, ◌<◌, ◌≤◌}
use native.Mathlib.Numerals.{add-one}
use native.Mathlib.Omega.{arith}
use lib.Dec.{eqb, leb, ltb}
use lib.ListN.{length, get_or, set, take, drop, length-set, length-append, length-take, length-drop}
use lib.Seq.{take_all, drop-drop}
use borrow.Author.Tests.{eqb-true, leb-true, eq-eqb, ne_eqb}
use Rattle.laws.specs.Tests.{every, least, within}
use Rattle.laws.specs.Lists.{tab, written, puts_at}
use Rattle.laws.proofs.Cases.{by_test, cond_yes, cond_no, and_split, and_left_no}
use Rattle.std.proofs.lemmas.Bool.Decides.{nat_tests}
use Rattle.laws.proofs.Lists.{length-tab}
use Rattle.laws.proofs.Filled.{length-written, written-sets, written_none, written_next}
use Rattle.laws.proofs.Puts.{puts_at-sets}
use borrow.Rule.Slice.PartMut.{put_mid}
use Rattle.std.specs.Prelude.{Option, Some, None, is_some}
use Rattle.std.proofs.lemmas.Option.{none-some, same_Some}
use Rattle.call_text.specs.Given.{line_size}
use Rattle.call_text.specs.Words.{is_digit, decimal, is_number, is_hex, hex_byte, is_bytes, bytes_of}
use Rattle.call_text.specs.Lines.{Line, line_of, low, high, bank_line, word_place, is_word_byte, latch_line, space_in, admission, older_line, timed_admission, is_byte_number, timed_line, admit_line}
use Rattle.laws.proofs.Tests.{within_has}
use Rattle.call_text.proofs.WordLaws.{bytes-short}

-- what is written one after another
pub set-written : (l : List ℕ) (at v : ℕ) → at < length l → set l at v ≡ written l at (v ∷ [])
set-written l at v h = sym (written-sets l at (v ∷ []) (omega arith))

pub puts-written : (f : ℕ → ℕ) (at n : ℕ) (l : List ℕ) → at + n ≤ length l → puts_at at n f l ≡ written l at (tab n f)
puts-written f at n l h = puts_at-sets f at n l ∙ sym (written-sets l at (tab n f) (omega (arith, length-tab f n)))

pub written_on : (old mid new a b : List ℕ) (at next : ℕ) → next ≡ at + length a → next ≤ length old → mid ≡ written old at a → new ≡ written mid next b
    → new ≡ written old at (a ++ b)
written_on old mid new a b at next e h first second =
    second ∙ ap₂ (λ (l : List ℕ) (k : ℕ). written l k b) first e ∙ written_next old at a b (omega arith)

-- a part of a list written over
pub mid_written : (a k : ℕ) (l s : List ℕ) → k ≡ length s → put_mid a k l s ≡ written l a s
mid_written a k l s e =
    ap (λ (t : List ℕ). take a l ++ (s ++ t)) (drop-drop k a l ∙ ap (λ (n : ℕ). drop (a + n) l) e) ∙ sym (append_assoc (take a l) s (drop (a + length s) l))

pub put_two : (l : List ℕ) (at x y : ℕ) → at + 2 ≤ length l → set (set l at x) (at + 1) y ≡ written l at (x ∷ y ∷ [])
put_two l at x y h = ap (λ (k : ℕ). set (set l at x) k y) (add-one at) ∙ sym (written-sets l at (x ∷ y ∷ []) (omega arith))

-- all that follows place a
pub rest_all : (a : ℕ) (l : List ℕ) → take (length l - a) (drop a l) ≡ drop a l
rest_all a l = take_all (length l - a) (drop a l) (omega (arith, length-drop a l))

pub rest-long : (a : ℕ) (l : List ℕ) → length (take (length l - a) (drop a l)) ≡ length l - a
rest-long a l = ap length (rest_all a l) ∙ length-drop a l

-- the second of two tests fails
pub and_no : (a b : Bool) → b ≡ false → (a && b) ≡ false
and_no a b e = ap (λ (x : Bool). a && x) e ∙ and-false a

-- what is answered only where a test holds
pub some_test : {A : Type 0} (b : Bool) (v n : A) → Some n ≡ cond b (Some v) None → (b ≡ true) × (n ≡ v)
some_test true v n e = (refl, same_Some n v e)
some_test false v n e = absurd (none-some n (sym e))

pub none_test : {A : Type 0} (b : Bool) (v : A) → None ≡ cond b (Some v) None → b ≡ false
none_test true v e = absurd (none-some v e)
none_test false v e = refl

-- a line that can be read, and one that can't be
abbrev pub no_call : Line
no_call = record { good = false; code = [] }

abbrev pub call : List ℕ → Line
call code = record { good = true; code = code }

line_no : (b : Bool) (code : List ℕ) → b ≡ false → line_of b code ≡ no_call
line_no b code e = rw e

line_yes : (b : Bool) (code : List ℕ) → b ≡ true → line_of b code ≡ call code
line_yes b code e = rw e

pub bad_line_lem : (x : Line) (old : List ℕ) (at : ℕ) → x ≡ no_call → (None ≡ line_size x) × (old ≡ written old at x.code)
bad_line_lem x old at e = rw e (refl, sym (written_none old at))

pub good-line : (x : Line) (code old new : List ℕ) (at n : ℕ) → x ≡ call code → n ≡ length code → new ≡ written old at code
    → (Some n ≡ line_size x) × (new ≡ written old at x.code)
good-line x code old new at n e size wrote = rw e (ap Some size, wrote)

pub size_there : (x : Line) → is_some (line_size x) ≡ x.good
size_there x = by_test x.good (λ e. ap is_some (cond_yes x.good _ None e) ∙ sym e) (λ e. ap is_some (cond_no x.good _ None e) ∙ sym e)

pub same_line_lem : (x y : Line) (r : Option ℕ) (old new : List ℕ) (at : ℕ) → x ≡ y
    → (r ≡ line_size y) × (new ≡ written old at y.code) → (r ≡ line_size x) × (new ≡ written old at x.code)
same_line_lem x y r old new at e h = rw e h

-- a bank
abbrev pub bank_code : ℕ → List ℕ
bank_code d = 0 ∷ low d ∷ high d ∷ []

pub bank_bad : (l : List ℕ) → (is_number l && leb (decimal l) 65535) ≡ false → bank_line l ≡ no_call
unfolding bank_line
bank_bad l e = line_no (is_number l && leb (decimal l) 65535) (bank_code (decimal l)) e

pub bank-good : (l : List ℕ) → (is_number l && leb (decimal l) 65535) ≡ true → bank_line l ≡ call (bank_code (decimal l))
unfolding bank_line
bank-good l e = line_yes (is_number l && leb (decimal l) 65535) (bank_code (decimal l)) e

pub put_bank_lem : (old new : List ℕ) (at x d : ℕ) → x ≡ d → at + 3 ≤ length old → new ≡ written (set old at 0) (at + 1) (x % 256 ∷ x / 256 ∷ [])
    → new ≡ written old at (bank_code d)
put_bank_lem old new at x d e h wrote =
    written_on old (set old at 0) new (0 ∷ []) (low x ∷ high x ∷ []) at (at + 1) refl (omega arith) (set-written old at 0 (omega arith)) wrote
    ∙ ap (λ (k : ℕ). written old at (bank_code k)) e

-- a latch
pub place_even : (i : ℕ) → i % 2 ≡ 0 → 5 * (i / 2) + 3 ≡ word_place i
unfolding word_place
place_even i e = ap (λ (k : ℕ). 5 * (i / 2) + k) (sym (cond_yes (eqb (i % 2) 0) 3 1 (eq-eqb (i % 2) 0 e)))

pub place_odd : (i : ℕ) → (i % 2 ≡ 0 → ⊥) → 5 * (i / 2) + 1 ≡ word_place i
unfolding word_place
place_odd i e = ap (λ (k : ℕ). 5 * (i / 2) + k) (sym (cond_no (eqb (i % 2) 0) 3 1 (ne_eqb (i % 2) 0 e)))

pub word_test : (l : List ℕ) (i place : ℕ) → place ≡ word_place i → (is_hex l place && is_hex l (place + 1)) ≡ is_word_byte l i
unfolding is_word_byte
word_test l i place e = ap (λ (k : ℕ). is_hex l k && is_hex l (k + 1)) e

pub word_hex : (l : List ℕ) (i place : ℕ) → place ≡ word_place i → is_word_byte l i ≡ true → (is_hex l place ≡ true) × (is_hex l (place + 1) ≡ true)
word_hex l i place e h = and_split (is_hex l place) (is_hex l (place + 1)) (word_test l i place e ∙ h)

abbrev pub word_byte : List ℕ → ℕ → ℕ
word_byte l i = hex_byte l (word_place i)

abbrev pub is_space : List ℕ → ℕ → Bool
is_space l b = eqb (get_or l (5 * b) 0) 32

abbrev pub is_latch : List ℕ → Bool
is_latch l = eqb (length l) 40 && every 8 (is_space l) && every 16 (is_word_byte l)

abbrev pub latch_code : List ℕ → List ℕ
latch_code l = 2 ∷ tab 16 (word_byte l)

pub latch_bad : (l : List ℕ) → is_latch l ≡ false → latch_line l ≡ no_call
unfolding latch_line
latch_bad l e = line_no (is_latch l) (latch_code l) e

pub latch-good : (l : List ℕ) → is_latch l ≡ true → latch_line l ≡ call (latch_code l)
unfolding latch_line
latch-good l e = line_yes (is_latch l) (latch_code l) e

pub latch-length : (l : List ℕ) → is_latch l ≡ true → length l ≡ 40
latch-length l e = eqb-true (length l) 40 (and_split (eqb (length l) 40) (every 8 (is_space l)) (and_split (eqb (length l) 40 && every 8 (is_space l)) (every 16 (is_word_byte l)) e).0).0

pub put_latch : (l old new : List ℕ) (at : ℕ) → at + 17 ≤ length old → new ≡ puts_at (at + 1) 16 (word_byte l) (set old at 2) → new ≡ written old at (latch_code l)
put_latch l old new at h wrote =
    let one = set-written old at 2 (omega arith) in
    let long : length (set old at 2) ≡ length old = length-set old at 2 in
    written_on old (set old at 2) new (2 ∷ []) (tab 16 (word_byte l)) at (at + 1) refl (omega arith) one
    (wrote ∙ puts-written (word_byte l) (at + 1) 16 (set old at 2) (omega arith))

-- texts of bytes: fewer bytes than digits, and not too many for two bytes
pub bytes_fit_lem : (l : List ℕ) → is_bytes l ≡ true → (length l / 2 + 1 ≤ length l) × (length l / 2 < 65536)
unfolding is_bytes
bytes_fit_lem l h =
    let half : length l / 2 + 1 ≤ length l =
    by_test (eqb (length l) 1 && eqb (get_or l 0 0) 45)
    (λ e. let one = eqb-true (length l) 1 (and_split (eqb (length l) 1) (eqb (get_or l 0 0) 45) e).0 in omega arith)
    (λ e.
    let (p, q) = and_split (within 1 131071 (length l) && eqb (length l % 2) 0) (every (length l) (is_hex l)) (rw e at h) in
    let (r, s) = and_split (within 1 131071 (length l)) (eqb (length l % 2) 0) p in
    let ends = within_has 1 131071 (length l) r in
    let even = eqb-true (length l % 2) 0 s in
    omega arith) in
    (half, omega (arith, bytes-short l h))

pub length-bytes : (l : List ℕ) → length (bytes_of l) ≡ length l / 2
unfolding bytes_of
length-bytes l = length-tab (λ i. hex_byte l (2 * i)) (length l / 2)

-- an admission
pub space_found : (l : List ℕ) (n : ℕ) → n ≡ least (length l) (λ i. eqb (get_or l i 0) 32) → n ≡ space_in l
unfolding space_in
space_found l n e = e

-- the texts before and after the first space
abbrev pub first_word : List ℕ → List ℕ
first_word l = take (space_in l) l

abbrev pub other_words : List ℕ → List ℕ
other_words l = drop (space_in l + 1) l

module _ (l r q : List ℕ) (er : r ≡ first_word l) (eq : q ≡ other_words l) where
  older : older_line l ≡ line_of (is_bytes r && is_bytes q) (admission (bytes_of r) (bytes_of q))
  unfolding older_line
  older = rw (er, eq) refl

  pub older_bad : (is_bytes r && is_bytes q) ≡ false → older_line l ≡ no_call
  older_bad h = older ∙ line_no (is_bytes r && is_bytes q) (admission (bytes_of r) (bytes_of q)) h

  pub older_good : (is_bytes r && is_bytes q) ≡ true → older_line l ≡ call (admission (bytes_of r) (bytes_of q))
  older_good h = older ∙ line_yes (is_bytes r && is_bytes q) (admission (bytes_of r) (bytes_of q)) h

pub older_empty : (l : List ℕ) → (older_line l).good ≡ false → (older_line l).code ≡ []
unfolding older_line
older_empty l e = cond_no _ _ [] e

-- a period and a phase
pub byte-number : (l : List ℕ) → is_byte_number l ≡ true → (is_number l ≡ true) × (1 ≤ length l) × (decimal l ≤ 255)
unfolding is_byte_number is_number
byte-number l h =
    let (p, q) = and_split (is_number l && leb (length l) 3) (leb (decimal l) 255) h in
    let n = (and_split (is_number l) (leb (length l) 3) p).0 in
    let some = (and_split (within 1 5 (length l)) (every (length l) (is_digit l)) n).0 in
    (n, (within_has 1 5 (length l) some).0, leb-true (decimal l) 255 q)

both_small : (a b : ℕ) → (leb a 3 && leb b 255) ≡ not (ltb 3 a || ltb 255 b)
both_small a b = grind (arith, nat_tests)

pub byte_test : (l : List ℕ) (n : ℕ) → n ≡ decimal l → is_number l ≡ true → is_byte_number l ≡ not (ltb 3 (length l) || ltb 255 n)
unfolding is_byte_number
byte_test l n e h =
    and_assoc (is_number l) (leb (length l) 3) (leb (decimal l) 255) ∙ ap (λ (b : Bool). b && (leb (length l) 3 && leb (decimal l) 255)) h
    ∙ both_small (length l) (decimal l) ∙ ap (λ (k : ℕ). not (ltb 3 (length l) || ltb 255 k)) (sym e)

pub byte_none : (l : List ℕ) → is_number l ≡ false → is_byte_number l ≡ false
unfolding is_byte_number
byte_none l h = and_left_no (is_number l && leb (length l) 3) (leb (decimal l) 255) (and_left_no (is_number l) (leb (length l) 3) h)

abbrev pub are_times : List ℕ → Bool
are_times t = is_byte_number (first_word t) && is_byte_number (other_words t)

pub times-some : (t : List ℕ) → are_times t ≡ true → 1 ≤ length t
times-some t h =
    let some = byte-number (first_word t) (and_split (is_byte_number (first_word t)) (is_byte_number (other_words t)) h).0 in
    omega (arith, length-take (space_in t) t)

-- with them: the texts of records, rows and times
abbrev pub timed_code : List ℕ → List ℕ → List ℕ → List ℕ
timed_code r q t = timed_admission (bytes_of r) (bytes_of q) (decimal (first_word t)) (decimal (other_words t))

pub timed_of : (l : List ℕ)
    → timed_line l
    ≡ line_of (is_bytes (first_word l) && is_bytes (first_word (other_words l)) && are_times (other_words (other_words l)))
    (timed_code (first_word l) (first_word (other_words l)) (other_words (other_words l)))
unfolding timed_line
timed_of l =
    let t = other_words (other_words l) in
    ap (λ (b : Bool). line_of b (timed_code (first_word l) (first_word (other_words l)) t))
    (and_assoc (is_bytes (first_word l) && is_bytes (first_word (other_words l))) (is_byte_number (first_word t)) (is_byte_number (other_words t)))

module _ (l r q t : List ℕ) (er : r ≡ first_word l) (eq : q ≡ first_word (other_words l)) (et : t ≡ other_words (other_words l)) where
  timed : timed_line l ≡ line_of (is_bytes r && is_bytes q && are_times t) (timed_code r q t)
  timed = timed_of l ∙ rw (er, eq, et) refl

  pub timed_bad : (is_bytes r && is_bytes q && are_times t) ≡ false → timed_line l ≡ no_call
  timed_bad h = timed ∙ line_no (is_bytes r && is_bytes q && are_times t) (timed_code r q t) h

  pub timed-good : (is_bytes r && is_bytes q && are_times t) ≡ true → timed_line l ≡ call (timed_code r q t)
  timed-good h = timed ∙ line_yes (is_bytes r && is_bytes q && are_times t) (timed_code r q t) h

pub timed_empty : (l : List ℕ) → (timed_line l).good ≡ false → (timed_line l).code ≡ []
unfolding timed_line
timed_empty l e = cond_no _ _ [] e

-- the older line comes first
pub admit_older : (l : List ℕ) → (older_line l).good ≡ true → admit_line l ≡ older_line l
unfolding admit_line
admit_older l e = cond_yes (older_line l).good _ _ e

pub admit-timed : (l : List ℕ) → (older_line l).good ≡ false → admit_line l ≡ timed_line l
unfolding admit_line
admit-timed l e = cond_no (older_line l).good _ _ e

-- how an admission is written: the numbers of bytes, the bytes, the whole
abbrev pub sizes : ℕ → ℕ → ℕ → List ℕ
sizes k m n = k ∷ low m ∷ high m ∷ low n ∷ high n ∷ 0 ∷ []

pub put_sizes : (c₀ c₁ c₂ : List ℕ) (at k m n : ℕ) → at + 6 ≤ length c₀ → c₁ ≡ written (set c₀ at k) (at + 1) (m % 256 ∷ m / 256 ∷ [])
    → c₂ ≡ written c₁ (at + 3) (n % 256 ∷ n / 256 ∷ []) → set c₂ (at + 5) 0 ≡ written c₀ at (sizes k m n)
put_sizes c₀ c₁ c₂ at k m n h w₁ w₂ =
    let numbers : List ℕ = k ∷ low m ∷ high m ∷ low n ∷ high n ∷ [] in
    let s₁ = written_on c₀ (set c₀ at k) c₁ (k ∷ []) (low m ∷ high m ∷ []) at (at + 1) refl (omega arith) (set-written c₀ at k (omega arith)) w₁ in
    let s₂ = written_on c₀ c₁ c₂ (k ∷ low m ∷ high m ∷ []) (low n ∷ high n ∷ []) at (at + 3) refl (omega arith) s₁ w₂ in
    let long : length c₂ ≡ length c₀ = ap length s₂ ∙ length-written c₀ at numbers (omega arith) in
    written_on c₀ c₂ (set c₂ (at + 5) 0) numbers (0 ∷ []) at (at + 5) refl (omega arith) s₂ (set-written c₂ (at + 5) 0 (omega arith))

module _ (r q : List ℕ) where
  pub put_parts : (c₀ c₁ c₂ : List ℕ) (at : ℕ) → at + length r / 2 + length q / 2 ≤ length c₀ → c₁ ≡ puts_at at (length r / 2) (λ i. hex_byte r (2 * i)) c₀
      → c₂ ≡ puts_at (at + length r / 2) (length q / 2) (λ i. hex_byte q (2 * i)) c₁ → c₂ ≡ written c₀ at (bytes_of r ++ bytes_of q)
  unfolding bytes_of
  put_parts c₀ c₁ c₂ at h w₁ w₂ =
      let f : ℕ → ℕ = λ i. hex_byte r (2 * i) in
      let g : ℕ → ℕ = λ i. hex_byte q (2 * i) in
      let m = length r / 2 in
      let n = length q / 2 in
      let lf = length-tab f m in
      let s = w₁ ∙ puts-written f at m c₀ (omega arith) in
      let long : length c₁ ≡ length c₀ = ap length s ∙ length-written c₀ at (tab m f) (omega arith) in
      written_on c₀ c₁ c₂ (tab m f) (tab n g) at (at + m) (omega arith) (omega arith) s (w₂ ∙ puts-written g (at + m) n c₁ (omega arith))

  -- as many bytes as half the signs
  sized : (c : List ℕ) (at k : ℕ) (rest : List ℕ) → written c at (sizes k (length r / 2) (length q / 2) ++ rest) ≡ written c at (sizes k (length (bytes_of r)) (length (bytes_of q)) ++ rest)
  sized c at k rest = ap₂ (λ (m n : ℕ). written c at (sizes k m n ++ rest)) (sym (length-bytes r)) (sym (length-bytes q))

  module _ (c₀ c₁ c₂ : List ℕ) (at : ℕ) where
    pub put_admission : at + 6 ≤ length c₀ → c₁ ≡ written c₀ at (sizes 1 (length r / 2) (length q / 2))
        → c₂ ≡ written c₁ (at + 6) (bytes_of r ++ bytes_of q) → c₂ ≡ written c₀ at (admission (bytes_of r) (bytes_of q))
    put_admission h w₁ w₂ =
        let head = sizes 1 (length r / 2) (length q / 2) in
        written_on c₀ c₁ c₂ head (bytes_of r ++ bytes_of q) at (at + 6) refl (omega arith) w₁ w₂ ∙ sized c₀ at 1 (bytes_of r ++ bytes_of q)

    pub put_timed : (period phase : ℕ) → at + 8 ≤ length c₀ → c₁ ≡ written c₀ at (sizes 4 (length r / 2) (length q / 2))
        → c₂ ≡ written (set (set c₁ (at + 6) period) (at + 7) phase) (at + 8) (bytes_of r ++ bytes_of q)
        → c₂ ≡ written c₀ at (timed_admission (bytes_of r) (bytes_of q) period phase)
    put_timed period phase h w₁ w₂ =
        let head = sizes 4 (length r / 2) (length q / 2) in
        let c = set c₁ (at + 6) period in
        let d = set c (at + 7) phase in
        let long₁ : length c₁ ≡ length c₀ = ap length w₁ ∙ length-written c₀ at head (omega arith) in
        let long : length c ≡ length c₀ = length-set c₁ (at + 6) period ∙ long₁ in
        let s = written_on c₀ c₁ c head (period ∷ []) at (at + 6) refl (omega arith) w₁ (set-written c₁ (at + 6) period (omega arith)) in
        let z = written_on c₀ c d (head ++ (period ∷ [])) (phase ∷ []) at (at + 7) refl (omega arith) s (set-written c (at + 7) phase (omega arith)) in
        written_on c₀ d c₂ (head ++ (period ∷ phase ∷ [])) (bytes_of r ++ bytes_of q) at (at + 8) refl (omega arith) z w₂
        ∙ sized c₀ at 4 (period ∷ phase ∷ (bytes_of r ++ bytes_of q))

-- how long it is
pub length-admission : (r q : List ℕ) → length (admission r q) ≡ 6 + length r + length q
length-admission r q = omega (arith, length-append r q)

pub length-timed : (r q : List ℕ) (period phase : ℕ) → length (timed_admission r q period phase) ≡ 8 + length r + length q
length-timed r q period phase = omega (arith, length-append r q)
