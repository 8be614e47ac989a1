-- Reading a list of calls from its front: a whole call there is the first one and the rest is read after it; where none stands, reading ends.
-- Assumes nothing.
use mathlib.Core.Path.{◌≡◌, refl, sym, ◌∙◌, ap}
use mathlib.Core.Bool.{cond}
use mathlib.Core.List.{List, [], ◌∷◌}
use Prim.Native.Nat.{ℕ, zero, suc, ◌<◌, ◌≤◌}
use native.Mathlib.Omega.{arith}
use lib.Dec.{eqb, leb}
use lib.ListN.{length, drop, length-drop}
use borrow.Author.Tests.{leb-true, lt-leb, le-leb, eq-eqb, ne_eqb}
use Rattle.laws.proofs.Cases.{by_less, cond_yes, cond_no, cond_both, cond-each}
use Rattle.replay.specs.Coded.{Coded, said_size, size, first, calls_to, left_after, calls_in, readable}

pub size_fits_lem : (l : List ℕ) → size l ≤ length l
unfolding size
size_fits_lem l = cond-each (λ (r : ℕ). r ≤ length l) (leb (said_size l) (length l)) (leb-true (said_size l) (length l)) (λ e. omega arith)

pub none_said : (l : List ℕ) → said_size l ≡ 0 → size l ≡ 0
unfolding size
none_said l e = cond-each (λ (r : ℕ). r ≡ 0) (leb (said_size l) (length l)) (λ _. e) (λ _. refl)

pub short-said : (l : List ℕ) → length l < said_size l → size l ≡ 0
unfolding size
short-said l h = cond_no _ _ _ (lt-leb (said_size l) (length l) h)

pub whole-said : (l : List ℕ) → said_size l ≤ length l → size l ≡ said_size l
unfolding size
whole-said l h = cond_yes _ _ _ (le-leb (said_size l) (length l) h)

-- n turns of reading: `end` where no call stands at the front, else `turn` of what is read after it
module _ {A : Type 0} (end : List ℕ → A) (turn : List ℕ → A → A) (read : ℕ → List ℕ → A) (read-zero : (l : List ℕ) → read 0 l ≡ end l)
    (read-suc : (n : ℕ) (l : List ℕ) → read (suc n) l ≡ cond (eqb (size l) 0) (end l) (turn l (read n (drop (size l) l)))) where
  read_none : (n : ℕ) (l : List ℕ) → size l ≡ 0 → read n l ≡ end l
  read_none zero l e = read-zero l
  read_none (suc n) l e = read-suc n l ∙ cond_yes _ _ _ (eq-eqb (size l) 0 e)

  read-turn : (n : ℕ) (l : List ℕ) → 0 < size l → read (suc n) l ≡ turn l (read n (drop (size l) l))
  read-turn n l h = read-suc n l ∙ cond_no _ _ _ (ne_eqb (size l) 0 (λ e. omega arith))

  -- as many turns as there are bytes are enough
  read-enough : (n m : ℕ) (l : List ℕ) → length l ≤ n → length l ≤ m → read n l ≡ read m l
  read-enough zero m l p q = let e : size l ≡ 0 = omega (arith, size_fits_lem l) in read_none 0 l e ∙ sym (read_none m l e)
  read-enough (suc n) zero l p q = let e : size l ≡ 0 = omega (arith, size_fits_lem l) in read_none (suc n) l e ∙ sym (read_none 0 l e)
  read-enough (suc n) (suc m) l p q =
      let s = length-drop (size l) l in
      by_less 0 (size l)
      (λ h. read-turn n l h ∙ ap (turn l) (read-enough n m (drop (size l) l) (omega arith) (omega arith)) ∙ sym (read-turn m l h))
      (λ h. let e : size l ≡ 0 = omega arith in read_none (suc n) l e ∙ sym (read_none (suc m) l e))

  read_more : (l : List ℕ) → 0 < size l → read (length l) l ≡ turn l (read (length (drop (size l) l)) (drop (size l) l))
  read_more l h =
      let r = drop (size l) l in
      let s = length-drop (size l) l in
      read-enough (length l) (suc (length l)) l (omega arith) (omega arith) ∙ read-turn (length l) l h
      ∙ ap (turn l) (read-enough (length l) (length r) r (omega arith) (omega arith))

pub calls_more : (l : List ℕ) → 0 < size l → calls_in l ≡ first l ∷ calls_in (drop (size l) l)
unfolding calls_in calls_to
calls_more l h = read_more (λ l. []) (λ l cs. first l ∷ cs) calls_to (λ l. refl) (λ n l. refl) l h

pub calls_none : (l : List ℕ) → size l ≡ 0 → calls_in l ≡ []
unfolding calls_in calls_to
calls_none l e = read_none (λ l. []) (λ l cs. first l ∷ cs) calls_to (λ l. refl) (λ n l. refl) (length l) l e

pub readable_more : (l : List ℕ) → 0 < size l → readable l ≡ readable (drop (size l) l)
unfolding readable left_after
readable_more l h = ap (λ (s : List ℕ). eqb (length s) 0) (read_more (λ l. l) (λ l s. s) left_after (λ l. refl) (λ n l. refl) l h)

pub readable-none : (l : List ℕ) → size l ≡ 0 → readable l ≡ eqb (length l) 0
unfolding readable left_after
readable-none l e = ap (λ (s : List ℕ). eqb (length s) 0) (read_none (λ l. l) (λ l s. s) left_after (λ l. refl) (λ n l. refl) (length l) l e)

pub calls_few : (l : List ℕ) → length (calls_in l) ≤ length l
unfolding calls_in calls_to
calls_few l = at_most (length l) l
  where
    at_most : (n : ℕ) (l : List ℕ) → length (calls_to n l) ≤ n
    at_most zero l = omega arith
    at_most (suc n) l =
        let h = at_most n (drop (size l) l) in
        cond_both (λ (cs : List Coded). length cs ≤ suc n) (eqb (size l) 0) (omega arith) (omega arith)
