-- The line that admits a block is tidy already.
-- Assumes nothing.
use mathlib.Core.Path.{◌≡◌, refl, ◌∙◌, ap, ap₂}
use mathlib.Core.Bool.{false, not, ◌&&◌, ◌||◌}
use mathlib.Core.List.{List, [], ◌∷◌, ◌++◌}
use Prim.Native.Nat.{ℕ, suc, ◌<◌}
use native.Mathlib.Omega.{arith}
use lib.Dec.{eqb, ltb}
use lib.ListN.{length, get_or}
use borrow.Author.Tests.{ne_eqb, ltb-true}
use Rattle.laws.proofs.Cases.{cond_no}
use Rattle.laws.proofs.Tests.{every_at}
use Rattle.call_text.specs.Tidy.{is_blank, place_after, tidied_byte, tidied_from, tidied}
use Rattle.block_text.specs.BlockLine.{bytes_text, block_line}
use Rattle.block_text.proofs.BytesBack.{AreBytes, text-long, text_sign}
use Rattle.block_text.proofs.LineBack.{Above}

-- a byte above a space is no blank and no line feed
module _ (c : ℕ) (h : 32 < c) where
  not_blank : is_blank c ≡ false
  unfolding is_blank
  not_blank = ap₂ ◌||◌ (ap₂ ◌||◌ (ne_eqb c 32 (λ e. omega arith)) (ne_eqb c 9 (λ e. omega arith))) (ne_eqb c 13 (λ e. omega arith))

  not_feed : eqb c 10 ≡ false
  not_feed = ne_eqb c 10 (λ e. omega arith)

  place_word : (s : ℕ) → place_after s c ≡ 1
  unfolding place_after
  place_word s = cond_no (is_blank c) _ _ not_blank ∙ cond_no (eqb c 10) _ _ not_feed

  byte-kept : (s : ℕ) → eqb s 2 ≡ false → tidied_byte s c ≡ c ∷ []
  unfolding tidied_byte
  byte-kept s e = cond_no (is_blank c) _ _ not_blank ∙ cond_no (eqb s 2 && not (eqb c 10)) _ _ (rw e refl)

  byte_spaced : tidied_byte 2 c ≡ 32 ∷ c ∷ []
  unfolding tidied_byte
  byte_spaced = cond_no (is_blank c) _ _ not_blank ∙ rw not_feed refl

-- at the front of a line or in a word, a byte above a space; and one after a space
from-kept : (s c : ℕ) (l : List ℕ) → 32 < c → eqb s 2 ≡ false → tidied_from s (c ∷ l) ≡ c ∷ tidied_from 1 l
unfolding tidied_from
from-kept s c l h e = ap₂ (λ (x : List ℕ) (p : ℕ). x ++ tidied_from p l) (byte-kept c h s e) (place_word c h s)

from_spaced : (c : ℕ) (l : List ℕ) → 32 < c → tidied_from 2 (c ∷ l) ≡ 32 ∷ c ∷ tidied_from 1 l
unfolding tidied_from
from_spaced c l h = ap₂ (λ (x : List ℕ) (p : ℕ). x ++ tidied_from p l) (byte_spaced c h) (place_word c h 2)

space_waits : (l : List ℕ) → tidied_from 1 (32 ∷ l) ≡ tidied_from 2 l
unfolding tidied_from tidied_byte place_after is_blank
space_waits l = refl

feed_ends : tidied_from 1 (10 ∷ []) ≡ 10 ∷ []
unfolding tidied_from tidied_byte place_after is_blank
feed_ends = refl

-- a word, and one after a space
pub word_kept : (w l : List ℕ) → Above 32 w → tidied_from 1 (w ++ l) ≡ w ++ tidied_from 1 l
word_kept [] l h = refl
word_kept (c ∷ w) l h =
    from-kept 1 c (w ++ l) (h 0 (omega arith)) refl ∙ ap (λ (x : List ℕ). c ∷ x) (word_kept w l (λ i k. h (suc i) (omega arith)))

pub first-kept : (w l : List ℕ) → 0 < length w → Above 32 w → tidied_from 0 (w ++ l) ≡ w ++ tidied_from 1 l
first-kept [] l some h = absurd (omega arith)
first-kept (c ∷ w) l some h =
    from-kept 0 c (w ++ l) (h 0 (omega arith)) refl ∙ ap (λ (x : List ℕ). c ∷ x) (word_kept w l (λ i k. h (suc i) (omega arith)))

pub next-kept : (w l : List ℕ) → 0 < length w → Above 32 w → tidied_from 1 (32 ∷ (w ++ l)) ≡ 32 ∷ (w ++ tidied_from 1 l)
next-kept [] l some h = absurd (omega arith)
next-kept (c ∷ w) l some h =
    space_waits (c ∷ (w ++ l)) ∙ from_spaced c (w ++ l) (h 0 (omega arith))
    ∙ ap (λ (x : List ℕ). 32 ∷ c ∷ x) (word_kept w l (λ i k. h (suc i) (omega arith)))

-- "admit"
abbrev name : List ℕ
name = 97 ∷ 100 ∷ 109 ∷ 105 ∷ 116 ∷ []

name_above : Above 32 name
name_above i h = ltb-true 32 (get_or name i 0) (every_at (λ i. ltb 32 (get_or name i 0)) 5 refl i h)

pub block-tidied : (R Q : List ℕ) → AreBytes R → AreBytes Q → tidied (block_line R Q) ≡ block_line R Q
unfolding tidied block_line
block-tidied R Q are-R are-Q =
    let A = bytes_text R in
    let B = bytes_text Q in
    let second : tidied_from 1 (32 ∷ (B ++ (10 ∷ []))) ≡ 32 ∷ (B ++ (10 ∷ [])) =
    next-kept B (10 ∷ []) (text-long Q).0 (text_sign Q are-Q) ∙ ap (λ (x : List ℕ). 32 ∷ (B ++ x)) feed_ends in
    let first : tidied_from 1 (32 ∷ (A ++ (32 ∷ (B ++ (10 ∷ []))))) ≡ 32 ∷ (A ++ (32 ∷ (B ++ (10 ∷ [])))) =
    next-kept A (32 ∷ (B ++ (10 ∷ []))) (text-long R).0 (text_sign R are-R) ∙ ap (λ (x : List ℕ). 32 ∷ (A ++ x)) second in
    first-kept name (32 ∷ (A ++ (32 ∷ (B ++ (10 ∷ []))))) (omega arith) name_above ∙ ap (λ (x : List ℕ). name ++ x) first
