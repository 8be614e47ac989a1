-- Columns that are different and compatible, found by the bytes of their first words and then by all their words.
-- Assumes nothing.
use mathlib.Core.Path.{◌≡◌, sym, ◌∙◌, ap, ap₂}
use mathlib.Core.Bool.{Bool, true, false, ◌&&◌, and-true, and-false}
use mathlib.Core.List.{List}
use Prim.Native.Nat.{ℕ, ◌+◌, ◌*◌, ◌^◌, ◌<◌, ◌≤◌}
use native.Mathlib.Nat.{add-zero}
use native.Mathlib.Omega.{arith}
use lib.Bits.{bit_and, bit_or, and_lt, or_lt}
use lib.Dec.{eqb}
use lib.ListN.{get_or}
use Rattle.laws.specs.Tests.{every, any}
use Rattle.laws.specs.Lists.{puts}
use Rattle.laws.specs.Bits.{flag, marks}
use Rattle.laws.proofs.Cases.{by_test, and_split}
use Rattle.laws.proofs.Tests.{every_at, every_ext, every-fewer, any_none, any_out}
use Rattle.laws.proofs.Masks.{not-both}
use Rattle.reduction.specs.Distinct.{agree_words, linked_words}
use Rattle.reduction.specs.FirstBytes.{byte_of, first_word, byte_at, Spread, Flags, other, byte_agree, agree_to, narrowed, confirmed}
use Rattle.laws.proofs.Bits.{flag-none}
use Rattle.laws.proofs.Marks.{marks-any}
use Rattle.reduction.proofs.links.FirstBytes.{flags_put, flags_ext, narrow_next, byte_and, byte_or, word-zero}

-- word i of two packed columns agrees
abbrev pub agree_word : List ℕ → List ℕ → ℕ → ℕ → ℕ → ℕ → Bool
agree_word zs os size p q i =
    eqb
    (bit_or (bit_and (get_or zs (p * size + i) 0) (get_or os (q * size + i) 0)) (bit_and (get_or os (p * size + i) 0) (get_or zs (q * size + i) 0)))
    0

-- columns with no byte left
pub fewer_left : (zs os : List ℕ) (c w n : ℕ) → n ≤ 8 → any w (agree_to zs os c n) ≡ false → any w (agree_to zs os c 8) ≡ false
unfolding agree_to
fewer_left zs os c w n l e =
    any_none (agree_to zs os c 8) w (λ d h.
    by_test (agree_to zs os c 8 d)
    (λ t.
    let s = and_split (other c d) (every 8 (byte_agree zs os c d)) t in
    let k : agree_to zs os c n d ≡ true = rw (s.0, every-fewer (byte_agree zs os c d) n 8 l s.1) in
    not-both k (any_out (agree_to zs os c n) w e d h))
    (λ t. t))

-- a row narrowed by byte n, of which r are the flags left; the row is narrowed by all eight where none is left
module _ (zs os : List ℕ) (c w : ℕ) (hw : w ≤ 512) where
  pub narrow_step : (n : ℕ) (row next : List ℕ) (r : ℕ) → Flags w (agree_to zs os c n) row
      → r ≡ marks 0 (narrowed (get_or zs (n * 512 + c) 0) (get_or os (n * 512 + c) 0) (n * 512) zs os row) w
      → next ≡ puts w (narrowed (get_or zs (n * 512 + c) 0) (get_or os (n * 512 + c) 0) (n * 512) zs os row) row
      → Flags w (agree_to zs os c (n + 1)) next × (r ≡ flag (any w (agree_to zs os c (n + 1))))
  narrow_step n row next r h e k =
      let f : ℕ → ℕ = narrowed (get_or zs (n * 512 + c) 0) (get_or os (n * 512 + c) 0) (n * 512) zs os row in
      let step : (d : ℕ) → d < w → f d ≡ flag (agree_to zs os c (n + 1) d) = narrow_next zs os c w n row h in
      (rw k (flags_put w (agree_to zs os c n) row h (agree_to zs os c (n + 1)) f hw step), e ∙ marks-any f (agree_to zs os c (n + 1)) w step)

  pub narrow_done : (n : ℕ) (row : List ℕ) → n ≤ 8 → Flags w (agree_to zs os c n) row → any w (agree_to zs os c n) ≡ false → Flags w (agree_to zs os c 8) row
  narrow_done n row l h e =
      flags_ext w (agree_to zs os c n) row h (agree_to zs os c 8)
      (λ d k. any_out (agree_to zs os c n) w e d k ∙ sym (any_out (agree_to zs os c 8) w (fewer_left zs os c w n l e) d k))

module _ (Z O : List ℕ) (size : ℕ) (F : List ℕ) (w : ℕ) (zs os : List ℕ) (sz : Spread w Z size F 8 zs) (so : Spread w O size F 8 os) (c : ℕ) (hc : c < w) where
  word : ℕ → ℕ
  word d = bit_or (bit_and (first_word Z size F c) (first_word O size F d)) (bit_and (first_word O size F c) (first_word Z size F d))

  word_lt : (d : ℕ) → d < w → word d < 2 ^ 64
  unfolding word
  word_lt d h =
      or_lt 64 (bit_and (first_word Z size F c) (first_word O size F d)) (bit_and (first_word O size F c) (first_word Z size F d))
      (and_lt 64 (first_word Z size F c) (first_word O size F d) (sz.short 0 c (omega arith) hc) (so.short 0 d (omega arith) h))
      (and_lt 64 (first_word O size F c) (first_word Z size F d) (so.short 0 c (omega arith) hc) (sz.short 0 d (omega arith) h))

  byte_agree_lem : (d x : ℕ) → d < w → x < 8 → byte_agree zs os c d x ≡ eqb (byte_of (word d) x) 0
  unfolding byte_agree byte_at word
  byte_agree_lem d x h l =
      let a = first_word Z size F c in
      let b = first_word O size F d in
      let e = first_word O size F c in
      let f = first_word Z size F d in
      ap (λ (k : ℕ). eqb k 0)
      (ap₂ bit_or (ap₂ bit_and (sz.byte x c l hc) (so.byte x d l h)) (ap₂ bit_and (so.byte x c l hc) (sz.byte x d l h))
      ∙ sym (byte_or (bit_and a b) (bit_and e f) x ∙ ap₂ bit_or (byte_and a b x) (byte_and e f x)))

  -- the eight bytes agree where the first words do
  first_agree : (d : ℕ) → d < w → agree_to zs os c 8 d ≡ (other c d && eqb (word d) 0)
  unfolding agree_to
  first_agree d h =
      ap (λ (b : Bool). other c d && b)
      (every_ext (byte_agree zs os c d) (λ x. eqb (byte_of (word d) x) 0) 8 (λ x l. byte_agree_lem d x h l) ∙ word-zero (word d) (word_lt d h))

  word_agree : (d : ℕ) → agree_word Z O size (get_or F c 0) (get_or F d 0) 0 ≡ eqb (word d) 0
  unfolding word first_word
  word_agree d = rw (add-zero (get_or F c 0 * size), add-zero (get_or F d 0 * size))

  -- and so a pair is linked where the bytes and the words agree
  linked-both : 1 ≤ size → (d : ℕ) → d < w → (agree_to zs os c 8 d && agree_words Z O size (get_or F c 0) (get_or F d 0)) ≡ linked_words Z O size F c d
  unfolding linked_words agree_words
  linked-both one d h =
      let p = get_or F c 0 in
      let q = get_or F d 0 in
      by_test (agree_words Z O size p q)
      (λ t.
      let first : eqb (word d) 0 ≡ true = sym (word_agree d) ∙ every_at (agree_word Z O size p q) size t 0 one in
      rw (first_agree d h, first, t) (and-true (other c d && true)))
      (λ t. rw t (and-false (agree_to zs os c 8 d) ∙ sym (and-false (other c d))))

  pub linked_one : size ≡ 1 → (d : ℕ) → d < w → agree_to zs os c 8 d ≡ linked_words Z O size F c d
  unfolding linked_words agree_words
  linked_one one d h =
      let f : ℕ → Bool = agree_word Z O size (get_or F c 0) (get_or F d 0) in
      first_agree d h ∙ ap (λ (b : Bool). other c d && b) (sym (ap (λ (n : ℕ). every n f) one ∙ word_agree d))

  pub linked-none : 1 ≤ size → any w (agree_to zs os c 8) ≡ false → (d : ℕ) → d < w → agree_to zs os c 8 d ≡ linked_words Z O size F c d
  linked-none one e d h =
      let z : agree_to zs os c 8 d ≡ false = any_out (agree_to zs os c 8) w e d h in
      z ∙ sym (ap (λ (b : Bool). b && agree_words Z O size (get_or F c 0) (get_or F d 0)) z) ∙ linked-both one d h

  pub linked-confirmed : 1 ≤ size → (f d : ℕ) → d < w → f ≡ flag (agree_to zs os c 8 d)
      → confirmed Z O size f (get_or F c 0) (get_or F d 0) ≡ flag (linked_words Z O size F c d)
  unfolding confirmed
  linked-confirmed one f d h e =
      rw (e, flag-none (agree_to zs os c 8 d)) (ap flag (linked-both one d h))
