-- What searches through a text find, and what its digits are worth, as the definitions say it.
-- Assumes nothing.
use mathlib.Core.Path.{◌≡◌, refl, sym, ◌∙◌, ap, ap₂}
use mathlib.Core.Bool.{Bool, true, false, cond, ◌&&◌, ◌||◌, and-true, and_assoc, false≢true}
use mathlib.Core.List.{List, [], ◌∷◌, ◌++◌}
use Prim.Native.Nat.{ℕ, zero, suc, ◌+◌, ◌-◌, ◌*◌, ◌^◌, ◌<◌, ◌≤◌}
use native.Mathlib.Nat.{pow-zero, pow-suc, pow-le-pow_right, mul-le-mul_left, mul-suc, mul_comm}
use native.Mathlib.Numerals.{add-one}
use native.Mathlib.Omega.{arith}
use lib.Dec.{eqb, ltb}
use lib.ListN.{length, get_or, take, drop, get_or-append}
use lib.Seq.{length-take-le, take_all}
use borrow.Author.Tests.{eqb-true, eq-eqb, ltb-true, ltb-false, lt-ltb, le-ltb}
use Rattle.std.specs.Prelude.{Option, Some, None, unwrap_or}
use Rattle.std.specs.Char.{digit_value, is_ascii_hexdigit}
use Rattle.std.specs.List.{position_or_len, list_all, range_with_len}
use Rattle.std.proofs.lemmas.List.Sums.{fails_before_first, passes_at_first, prefix_len-le-length}
use Rattle.std.proofs.lemmas.Option.{none-some, same_Some}
use Rattle.std.proofs.lemmas.Bool.Decides.{nat_tests}
use Rattle.std.specs.Option.{MatchOption, SomeIff}
use Rattle.std.specs.Str.{bytes_eq}
use Rattle.std.proofs.lemmas.List.{take-append-drop, get_or-take}
use Rattle.std.proofs.lemmas.Slice.Eq.{bytes_eq-Decides}
use denote.Ref.{Bor}
use Rattle.laws.specs.Tests.{every, least, within}
use Rattle.laws.proofs.Find.{least_is}
use Rattle.laws.proofs.Tests.{every_of, every_at, every_ext, every_fails, within_has, within_yes}
use Rattle.laws.proofs.Cases.{by_test, by_less, same_test, no_test, cond_yes, cond_no, and_split, and_join, and_left_no, or_split}
use Rattle.laws.proofs.Lists.{tab_of, by_elements}
use Rattle.call_text.proofs.CallLaws.{and_no}
use Rattle.call_text.proofs.WordLaws.{begins-long}
use Rattle.call_text.specs.Words.{begins, without_zeros, is_digit, decimal_to, decimal, is_number, hex_digit, is_hex, hex_to, hex_word, is_hex_word}
use Rattle.call_text.specs.Lines.{step_word}
use Rattle.call_text.proofs.LineCases.{is_step}
use Rattle.call_text.specs.Based.{based_to, is_based, are_based, number_in}

-- the first element that passes
pub placed : (p : ℕ → Bool) (l : List ℕ) → position_or_len p l ≡ least (length l) (λ i. p (get_or l i 0))
placed p l =
    sym
    (least_is (λ i. p (get_or l i 0)) (length l) (position_or_len p l) (prefix_len-le-length _ l) (λ j h. fails_before_first p l j 0 h)
    (λ h. passes_at_first p l 0 h))

at_end : (p : ℕ → Bool) (l : List ℕ) → ltb (position_or_len p l) (length l) ≡ false → length l ≡ position_or_len p l
at_end p l h = let long : position_or_len p l ≤ length l = prefix_len-le-length _ l in omega (arith, ltb-false (position_or_len p l) (length l) h)

pub placed_or : (p : ℕ → Bool) (l : List ℕ) (r : Option ℕ) (n : ℕ) → r ≡ cond (ltb (position_or_len p l) (length l)) (Some (position_or_len p l)) None
    → n ≡ unwrap_or r (length l) → (n ≡ least (length l) (λ i. p (get_or l i 0))) × (n ≤ length l)
placed_or p l r n e u =
    let long : position_or_len p l ≤ length l = prefix_len-le-length _ l in
    let here : n ≡ position_or_len p l =
    by_test (ltb (position_or_len p l) (length l)) (λ h. u ∙ ap (λ (o : Option ℕ). unwrap_or o (length l)) (e ∙ cond_yes _ _ _ h))
    (λ h. u ∙ ap (λ (o : Option ℕ). unwrap_or o (length l)) (e ∙ cond_no _ _ _ h) ∙ at_end p l h) in
    (here ∙ placed p l, omega (arith, here, long))

-- every element passes
every_front : (f : ℕ → Bool) (n : ℕ) → every (suc n) f ≡ (f 0 && every n (λ i. f (suc i)))
every_front f zero = sym (and-true (f 0))
every_front f (suc n) = ap (λ (b : Bool). b && f (suc n)) (every_front f n) ∙ and_assoc (f 0) (every n (λ i. f (suc i))) (f (suc n))

pub all_placed : (p : ℕ → Bool) (l : List ℕ) → list_all p l ≡ every (length l) (λ i. p (get_or l i 0))
all_placed p [] = refl
all_placed p (c ∷ l) = ap (λ (b : Bool). p c && b) (all_placed p l) ∙ sym (every_front (λ i. p (get_or (c ∷ l) i 0)) (length l))

-- every number of a range passes
pub all_ranged : (p : ℕ → Bool) (a n : ℕ) → list_all p (range_with_len a n) ≡ every n (λ i. p (i + a))
all_ranged p a zero = refl
all_ranged p a (suc n) =
    let first : a ≡ 0 + a = omega arith in
    let rest = λ (i : ℕ). p (suc i + a) in
    ap (λ (b : Bool). p a && b) (all_ranged p (a + 1) n ∙ every_ext (λ i. p (i + (a + 1))) rest n (λ i h. ap p (omega arith)))
    ∙ ap (λ (k : ℕ). p k && every n rest) first ∙ sym (every_front (λ i. p (i + a)) n)

-- the digits of bases 10 and 16
digit_ten : (c : ℕ) → ltb (digit_value c) 10 ≡ within 48 57 c
digit_ten c = grind (arith, nat_tests)

value_ten : (c : ℕ) → within 48 57 c ≡ true → digit_value c ≡ c - 48
value_ten c h = let e = within_has 48 57 c h in grind (arith, nat_tests)

pub digit_sixteen : (c : ℕ) → cond (ltb (digit_value c) 16) (digit_value c) 16 ≡ hex_digit c
unfolding hex_digit
digit_sixteen c = grind (arith, nat_tests)

pub digit_or : (b c : ℕ) (o : Option ℕ) (r : ℕ) → c ≡ b → SomeIff o (digit_value c < 16) (digit_value c) → r ≡ unwrap_or o 16
    → (r ≡ hex_digit b) × (r ≤ 16)
digit_or b c None r e h u =
    let last : ltb (digit_value c) 16 ≡ false = le-ltb (digit_value c) 16 (by_less (digit_value c) 16 (λ k. absurd (h k)) (λ k. k)) in
    (u ∙ sym (cond_no (ltb (digit_value c) 16) (digit_value c) 16 last) ∙ digit_sixteen c ∙ ap hex_digit e, omega (arith, u))
digit_or b c (Some d) r e (h, k) u =
    (u ∙ k ∙ sym (cond_yes (ltb (digit_value c) 16) (digit_value c) 16 (lt-ltb (digit_value c) 16 h)) ∙ digit_sixteen c ∙ ap hex_digit e, omega (arith, u, k, h))

pub test_sixteen : (c : ℕ) → ltb (digit_value c) 16 ≡ ltb (hex_digit c) 16
unfolding hex_digit
test_sixteen c = grind (arith, nat_tests)

pub ascii_sixteen : (c : ℕ) → is_ascii_hexdigit c ≡ ltb (hex_digit c) 16
unfolding hex_digit
ascii_sixteen c = grind (arith, nat_tests)

-- one digit more
pub based_next : (base : ℕ) (l : List ℕ) (n : ℕ) → based_to base l (n + 1) ≡ base * based_to base l n + digit_value (get_or l n 0)
unfolding based_to
based_next base l n = rw add-one refl

grown_full : (base v n : ℕ) → v < base ^ n → base * v + base ≤ base ^ (n + 1)
grown_full base v n h =
    let most : base * suc v ≤ base * base ^ n = mul-le-mul_left base (omega arith) in
    let last : base ^ (n + 1) ≡ base * base ^ n = ap (λ (k : ℕ). base ^ k) (add-one n) ∙ pow-suc base n ∙ mul_comm (base ^ n) base in
    omega (arith, mul-suc base v)

grown : (base v d n : ℕ) → v < base ^ n → d < base → base * v + d < base ^ (suc n)
grown base v d n h k =
    let last : base ^ (n + 1) ≡ base ^ suc n = ap (λ (k : ℕ). base ^ k) (add-one n) in
    omega (arith, grown_full base v n h)

based_below : (base : ℕ) (l : List ℕ) (n : ℕ) → every n (is_based base l) ≡ true → based_to base l n < base ^ n
unfolding based_to
based_below base l zero h = omega (arith, pow-zero base)
based_below base l (suc n) h =
    let (front, last) = and_split (every n (is_based base l)) (is_based base l n) h in
    let below = based_below base l n front in
    let digit = ltb-true (digit_value (get_or l n 0)) base last in
    grown base (based_to base l n) (digit_value (get_or l n 0)) n below digit

-- room for one digit more
pub based_room : (base most : ℕ) (l : List ℕ) (n v : ℕ) → base ^ most < 2 ^ 32 → 2 ≤ base → n < most → v ≡ based_to base l n → every n (is_based base l) ≡ true
    → base * v + base < 2 ^ 32
based_room base most l n v room two more e h =
    let below : v < base ^ n = omega (arith, based_below base l n h, e) in
    let fits : base ^ (n + 1) ≤ base ^ most = pow-le-pow_right (omega arith) (omega arith) in
    omega (arith, grown_full base v n below)

pub few_digits : (l : List ℕ) (most : ℕ) (none : Bool) → none ≡ eqb (length l) 0 → (none || ltb most (length l)) ≡ false → (length l ≤ most) × (0 < length l)
few_digits l most none e h =
    let (some, few) = or_split none (ltb most (length l)) h in
    (ltb-false most (length l) few, by_less 0 (length l) (λ k. k) (λ k. absurd (false≢true (sym (sym e ∙ some) ∙ eq-eqb (length l) 0 (omega (arith, k))))))

-- the whole text
module _ (base most : ℕ) (l : List ℕ) where
  pub based_yes : length l ≤ most → 0 < length l → every (length l) (is_based base l) ≡ true → Some (based_to base l (length l)) ≡ number_in base most l
  unfolding number_in
  based_yes few some h = sym (cond_yes (are_based base most l) _ _ (and_join (within_yes 1 most (length l) (omega arith) few) h))

  pub based_long : (eqb (length l) 0 || ltb most (length l)) ≡ true → None ≡ number_in base most l
  unfolding number_in
  based_long h =
      sym (cond_no (are_based base most l) _ _ (and_left_no (within 1 most (length l)) (every (length l) (is_based base l)) (grind (arith, nat_tests))))

  pub based_no : (i : ℕ) → i < length l → (base ≤ digit_value (get_or l i 0)) → None ≡ number_in base most l
  unfolding number_in
  based_no i h many =
      sym
      (cond_no (are_based base most l) _ _
      (and_no (within 1 most (length l)) (every (length l) (is_based base l))
      (every_fails (is_based base l) (length l) i h (le-ltb (digit_value (get_or l i 0)) base many))))

-- numbers of base 10
ten_tests : (l : List ℕ) → are_based 10 5 l ≡ is_number l
unfolding is_number is_digit
ten_tests l = ap (λ (b : Bool). within 1 5 (length l) && b) (every_ext (is_based 10 l) (is_digit l) (length l) (λ i h. digit_ten (get_or l i 0)))

ten_value : (l : List ℕ) (n : ℕ) → every n (is_digit l) ≡ true → based_to 10 l n ≡ decimal_to l n
unfolding based_to decimal_to is_digit
ten_value l zero h = refl
ten_value l (suc n) h =
    let (front, last) = and_split (every n (is_digit l)) (is_digit l n) h in
    ap₂ (λ (v d : ℕ). 10 * v + d) (ten_value l n front) (value_ten (get_or l n 0) last)

pub number_ten : (l : List ℕ) → number_in 10 5 l ≡ cond (is_number l) (Some (decimal l)) None
unfolding number_in is_number
number_ten l =
    by_test (is_number l)
    (λ h.
    cond_yes (are_based 10 5 l) _ _ (ten_tests l ∙ h)
    ∙ ap Some (ten_value l (length l) (and_split (within 1 5 (length l)) (every (length l) (is_digit l)) h).1) ∙ sym (cond_yes (is_number l) _ _ h))
    (λ h. cond_no (are_based 10 5 l) _ _ (ten_tests l ∙ h) ∙ sym (cond_no (is_number l) _ _ h))

-- numbers of base 16
sixteen_tests : (l : List ℕ) → are_based 16 4 l ≡ is_hex_word l
unfolding is_hex_word is_hex
sixteen_tests l = ap (λ (b : Bool). within 1 4 (length l) && b) (every_ext (is_based 16 l) (is_hex l) (length l) (λ i h. test_sixteen (get_or l i 0)))

sixteen_value : (l : List ℕ) (n : ℕ) → every n (is_based 16 l) ≡ true → based_to 16 l n ≡ hex_to l n
unfolding based_to hex_to
sixteen_value l zero h = refl
sixteen_value l (suc n) h =
    let (front, last) = and_split (every n (is_based 16 l)) (is_based 16 l n) h in
    let c = get_or l n 0 in
    ap₂ (λ (v d : ℕ). 16 * v + d) (sixteen_value l n front) (sym (cond_yes (ltb (digit_value c) 16) _ _ last) ∙ digit_sixteen c)

pub number_sixteen : (l : List ℕ) → number_in 16 4 l ≡ cond (is_hex_word l) (Some (hex_word l)) None
unfolding number_in
number_sixteen l =
    by_test (is_hex_word l)
    (λ h.
    let t = sixteen_tests l ∙ h in
    cond_yes (are_based 16 4 l) _ _ t
    ∙ ap Some (sixteen_value l (length l) (and_split (within 1 4 (length l)) (every (length l) (is_based 16 l)) t).1) ∙ sym (cond_yes (is_hex_word l) _ _ h))
    (λ h. cond_no (are_based 16 4 l) _ _ (sixteen_tests l ∙ h) ∙ sym (cond_no (is_hex_word l) _ _ h))

pub few_sixteen : (l : List ℕ) (n : ℕ) → Some n ≡ number_in 16 4 l → n < 65536
unfolding number_in
few_sixteen l n e =
    by_test (are_based 16 4 l)
    (λ h.
    let (long, digits) = and_split (within 1 4 (length l)) (every (length l) (is_based 16 l)) h in
    let same : n ≡ based_to 16 l (length l) = same_Some _ _ (e ∙ cond_yes (are_based 16 4 l) _ _ h) in
    let few : 16 ^ length l ≤ 16 ^ 4 = pow-le-pow_right (omega arith) (within_has 1 4 (length l) long).1 in
    omega (arith, based_below 16 l (length l) digits))
    (λ h. absurd (none-some n (sym (e ∙ cond_no (are_based 16 4 l) _ _ h))))

-- a text begins with a word of bytes that are not 0
module _ (w l : List ℕ) where
  pub word_taken : without_zeros w ≡ true → begins w l ≡ true → take (length w) l ≡ w
  unfolding begins
  word_taken z h =
      let long = begins-long w l z h in
      sym
      (by_elements (take (length w) l) (length w) (λ i. get_or w i 0) (length-take-le (length w) l long)
      (λ i k. sym (eqb-true (get_or l i 0) (get_or w i 0) (every_at (λ j. eqb (get_or l j 0) (get_or w j 0)) (length w) h i k)) ∙ sym (get_or-take (length w) l i 0 k)))
      ∙ tab_of 0 w

  taken_begins : take (length w) l ≡ w → begins w l ≡ true
  unfolding begins
  taken_begins e =
      let whole : w ++ drop (length w) l ≡ l = ap (λ (s : List ℕ). s ++ drop (length w) l) (sym e) ∙ take-append-drop (length w) l in
      every_of (λ i. eqb (get_or l i 0) (get_or w i 0)) (length w)
      (λ i k. eq-eqb (get_or l i 0) (get_or w i 0) (ap (λ (s : List ℕ). get_or s i 0) (sym whole) ∙ get_or-append w (drop (length w) l) 0 i k))

  pub after_word : without_zeros w ≡ true → (r : Option (Bor (List ℕ)))
      → MatchOption r (bytes_eq (take (length w) l) w ≡ false) (λ x. (bytes_eq (take (length w) l) w ≡ true) × (x.now ≡ drop (length w) l) × (length x.now + length w ≡ length l))
      → MatchOption r (begins w l ≡ false) (λ x. (begins w l ≡ true) × (x.now ≡ drop (length w) l) × (length x.now + length w ≡ length l))
  after_word z None h = no_test (begins w l) (λ b. false≢true (sym h ∙ (bytes_eq-Decides (take (length w) l) w).1 (word_taken z b)))
  after_word z (Some x) (h, k, m) = (taken_begins ((bytes_eq-Decides (take (length w) l) w).0 h), k, m)

  pub starts_word : without_zeros w ≡ true → (r : Bool) → r ≡ bytes_eq w (take (length w) l) → r ≡ begins w l
  starts_word z r e =
      e
      ∙ same_test (bytes_eq w (take (length w) l)) (begins w l) (λ h. taken_begins (sym ((bytes_eq-Decides w (take (length w) l)).0 h)))
      (λ h. (bytes_eq-Decides w (take (length w) l)).1 (sym (word_taken z h)))

pub step_read : (l : List ℕ) → bytes_eq l step_word ≡ is_step l
unfolding begins
step_read l =
    same_test (bytes_eq l step_word) (is_step l)
    (λ h. let e = (bytes_eq-Decides l step_word).0 h in rw e refl)
    (λ h.
    let (four, b) = and_split (eqb (length l) 4) (begins step_word l) h in
    (bytes_eq-Decides l step_word).1 (sym (take_all 4 l (omega (arith, eqb-true (length l) 4 four))) ∙ word_taken step_word l refl b))
