-- The line that admits a block is read back as the call that admits exactly its records and rows.
-- Assumes nothing.
use mathlib.Core.Path.{◌≡◌, refl, sym, ◌∙◌, ap, ap₂}
use mathlib.Core.Bool.{true, ◌||◌}
use mathlib.Core.List.{List, [], ◌∷◌, ◌++◌, append-nil, append_assoc}
use Prim.Native.Nat.{ℕ, ◌+◌, ◌-◌, ◌<◌, ◌≤◌}
use native.Mathlib.Omega.{arith}
use lib.Dec.{eqb, ltb}
use lib.ListN.{length, get_or, take, drop, length-append, get_or-append}
use lib.Seq.{take_at, get_or_at, get_or-append-add, drop-append-add}
use borrow.Author.Tests.{eq-eqb, ne_eqb, ltb-true}
use Rattle.laws.specs.Tests.{least}
use Rattle.laws.specs.Lists.{written}
use Rattle.laws.proofs.Cases.{by_less, and_join}
use Rattle.laws.proofs.Find.{least_is}
use Rattle.laws.proofs.Tests.{every_at}
use Rattle.call_text.specs.Words.{begins, is_bytes, bytes_of}
use Rattle.call_text.specs.Lines.{Line, Text, text_of, admission, space_in, admit_line, step_word, admit_word, line_in, line_end, lines_in}
use Rattle.call_text.proofs.CallLaws.{and_no, call, older_good, admit_older, length-admission}
use Rattle.call_text.proofs.LineCases.{line-admit}
use Rattle.call_text.proofs.LineLaws.{lines_none, lines_more, read_whole}
use Rattle.block_text.specs.BlockLine.{bytes_text, block_line, ReadsBack}
use Rattle.block_text.proofs.BytesBack.{AreBytes, text_sign, bytes_back, bytes-said}

-- the byte x stands first behind a list that has none
pub first_at_lem : (x : ℕ) (a b : List ℕ) → ((i : ℕ) → i < length a → get_or a i 0 ≡ x → ⊥)
    → least (length (a ++ x ∷ b)) (λ i. eqb (get_or (a ++ x ∷ b) i 0) x) ≡ length a
first_at_lem x a b none =
    least_is (λ i. eqb (get_or (a ++ x ∷ b) i 0) x) (length (a ++ x ∷ b)) (length a) (omega (arith, length-append a (x ∷ b)))
    (λ i h. ne_eqb (get_or (a ++ x ∷ b) i 0) x (λ e. none i h (sym (get_or-append a (x ∷ b) 0 i h) ∙ e)))
    (λ h. eq-eqb (get_or (a ++ x ∷ b) (length a) 0) x (get_or_at a x b 0 (length a) refl))

-- all behind it
pub behind : (x : ℕ) (a b : List ℕ) → drop (length a + 1) (a ++ x ∷ b) ≡ b
behind x a b = drop-append-add a (x ∷ b) 1

-- every element is above n
abbrev pub Above : ℕ → List ℕ → Type 0
Above n l = (i : ℕ) → i < length l → n < get_or l i 0

above_append : (n : ℕ) (a b : List ℕ) → Above n a → Above n b → Above n (a ++ b)
above_append n a b p q i h =
    by_less i (length a) (λ l. let e = get_or-append a b 0 i l in omega (arith, p i l))
    (λ l.
    let k = i - length a in
    let at : i ≡ length a + k = omega arith in
    let e : get_or (a ++ b) i 0 ≡ get_or b k 0 = ap (λ (x : ℕ). get_or (a ++ b) x 0) at ∙ get_or-append-add a b k 0 in
    omega (arith, q k (omega (arith, length-append a b))))

word_above : Above 10 admit_word
word_above i h = ltb-true 10 (get_or admit_word i 0) (every_at (λ i. ltb 10 (get_or admit_word i 0)) 6 refl i h)

space_above : Above 10 (32 ∷ [])
space_above i h = ltb-true 10 (get_or (32 ∷ []) i 0) (every_at (λ i. ltb 10 (get_or (32 ∷ []) i 0)) 1 refl i h)

-- the texts of records and rows
module _ (A B : List ℕ) (first : (i : ℕ) → i < length A → 33 ≤ get_or A i 0) where
  space_at : space_in (A ++ 32 ∷ B) ≡ length A
  unfolding space_in
  space_at = first_at_lem 32 A B (λ i h e. let s = first i h in omega arith)

  words_back : is_bytes A ≡ true → is_bytes B ≡ true → admit_line (A ++ 32 ∷ B) ≡ call (admission (bytes_of A) (bytes_of B))
  words_back p q =
      let l = A ++ 32 ∷ B in
      let front : take (length A) l ≡ A = take_at A (32 ∷ B) (length A) refl in
      let first = sym front ∙ ap (λ (k : ℕ). take k l) (sym space_at) in
      let second = sym (behind 32 A B) ∙ ap (λ (k : ℕ). drop (k + 1) l) (sym space_at) in
      let older = older_good l A B first second (and_join p q) in
      admit_older l (ap (λ (x : Line). x.good) older) ∙ older

pub line_admits : (l : List ℕ) → line_in (admit_word ++ l) ≡ admit_line l
unfolding begins
line_admits l =
    let w = admit_word ++ l in
    line-admit w (ap₂ ◌||◌ (ne_eqb (length w) 0 (λ e. omega arith)) refl) (and_no (eqb (length w) 4) (begins step_word w) refl) refl refl refl

-- the line without its line feed
abbrev pub line_text : List ℕ → List ℕ → List ℕ
line_text R Q = admit_word ++ (bytes_text R ++ (32 ∷ bytes_text Q))

pub line-ends : (R Q : List ℕ) → block_line R Q ≡ line_text R Q ++ (10 ∷ [])
unfolding block_line
line-ends R Q = ap (λ (l : List ℕ). admit_word ++ l) (sym (append_assoc (bytes_text R) (32 ∷ bytes_text Q) (10 ∷ [])))

pub length-line : (R Q : List ℕ) → length (block_line R Q) ≡ 8 + length (bytes_text R) + length (bytes_text Q)
unfolding block_line
length-line R Q = omega (arith, length-append (bytes_text R) (32 ∷ (bytes_text Q ++ (10 ∷ []))), length-append (bytes_text Q) (10 ∷ []))

module _ (R Q : List ℕ) (are-R : AreBytes R) (are-Q : AreBytes Q) where
  -- no line feed before its end
  text_above : Above 10 (line_text R Q)
  text_above =
      above_append 10 admit_word (bytes_text R ++ (32 ∷ bytes_text Q)) word_above
      (above_append 10 (bytes_text R) (32 ∷ bytes_text Q) (λ i h. omega (arith, text_sign R are-R i h))
      (above_append 10 (32 ∷ []) (bytes_text Q) space_above (λ i h. omega (arith, text_sign Q are-Q i h))))

  line_end_lem : line_end (line_text R Q ++ (10 ∷ [])) ≡ length (line_text R Q)
  unfolding line_end
  line_end_lem = first_at_lem 10 (line_text R Q) [] (λ i h e. let s = text_above i h in omega arith)

  module _ (few-R : length R ≤ 65535) (few-Q : length Q ≤ 65535) where
    -- the line without its line feed is read as the call that admits the block
    pub line_back : line_in (line_text R Q) ≡ call (admission R Q)
    line_back =
        line_admits (bytes_text R ++ (32 ∷ bytes_text Q))
        ∙ words_back (bytes_text R) (bytes_text Q) (text_sign R are-R) (bytes-said R are-R few-R) (bytes-said Q are-Q few-Q)
        ∙ ap₂ (λ (x y : List ℕ). call (admission x y)) (bytes_back R are-R) (bytes_back Q are-Q)

    -- so is the line as a text
    pub text_back : (k : ℕ) → lines_in k (block_line R Q) ≡ record { code = admission R Q; bad_line = 0 }
    text_back k =
        let l = line_text R Q ++ (10 ∷ []) in
        let cut : take (line_end l) l ≡ line_text R Q = ap (λ (n : ℕ). take n l) line_end_lem ∙ take_at (line_text R Q) (10 ∷ []) (length (line_text R Q)) refl in
        let rest : drop (line_end l + 1) l ≡ [] = ap (λ (n : ℕ). drop (n + 1) l) line_end_lem ∙ behind 10 (line_text R Q) [] in
        ap (lines_in k) (line-ends R Q)
        ∙ lines_more k l (omega (arith, length-append (line_text R Q) (10 ∷ [])))
        ∙ ap₂ (λ (x : Line) (s : List ℕ). text_of x k (lines_in (k + 1) s)) (ap line_in cut ∙ line_back) rest
        ∙ ap (λ (t : Text). text_of (call (admission R Q)) k t) (lines_none (k + 1) [] refl)
        ∙ ap (λ (c : List ℕ). record { code = c; bad_line = 0 }) (append-nil (admission R Q))

    -- and as `read_text` reads it
    pub read_back : ReadsBack (block_line R Q) R Q
    read_back k code room =
        let t = text_back k in
        let size : 6 + length R + length Q ≡ length (lines_in k (block_line R Q)).code =
        sym (length-admission R Q) ∙ ap (λ (x : Text). length x.code) (sym t) in
        sym
        (read_whole (block_line R Q) code k (6 + length R + length Q) 0 (written code 0 (admission R Q)) room
        (size, ap (λ (x : Text). x.bad_line) (sym t)) (ap (λ (x : Text). written code 0 x.code) (sym t)))
