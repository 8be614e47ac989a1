-- Where 8 is not given, the chosen list is a cut list and admissible.
-- Assumes nothing.
use mathlib.Core.Path.{◌≡◌, refl, sym, ◌∙◌, ap}
use mathlib.Core.Bool.{true, false, ◌&&◌, ◌||◌, true≢false}
use mathlib.Core.List.{List, [], ◌∷◌, ◌++◌, map}
use Prim.Native.Nat.{ℕ, zero, suc, ◌≤◌}
use native.Mathlib.Omega.{arith}
use Rattle.laws.proofs.Cases.{by_test, cond_yes, cond_no, and_split}
use Rattle.sheet_spec.specs.Job.{Job, t}
use Rattle.cutting_spec.specs.Cuts.{CutList, bottom, next, lists_to, cut_lists}
use Rattle.cutting_spec.specs.Choice.{admissible, better, is_none, best, chosen, refuse8}

-- what holds of each list
abbrev Each : (List ℕ → Type 0) → List (List ℕ) → Type 0
Each P [] = Unit {0}
Each P (l ∷ ls) = P l × Each P ls

each_append : (P : List ℕ → Type 0) (ls ks : List (List ℕ)) → Each P ls → Each P ks → Each P (ls ++ ks)
each_append P [] ks a b = b
each_append P (l ∷ ls) ks a b = (a.0, each_append P ls ks a.1 b)

each_map : (P Q : List ℕ → Type 0) (f : List ℕ → List ℕ) → ((l : List ℕ) → P l → Q (f l)) → (ls : List (List ℕ)) → Each P ls → Each Q (map f ls)
each_map P Q f h [] a = tt
each_map P Q f h (l ∷ ls) a = (h l a.0, each_map P Q f h ls a.1)

each_more : (P Q : List ℕ → Type 0) → ((l : List ℕ) → P l → Q l) → (ls : List (List ℕ)) → Each P ls → Each Q ls
each_more P Q h [] a = tt
each_more P Q h (l ∷ ls) a = (h l a.0, each_more P Q h ls a.1)

-- every list falls to 0
abbrev Falling : ℕ → List ℕ → Type 0
Falling h l = (g : ℕ) × (g ≤ h) × CutList g l

all_fall : (h : ℕ) → Each (Falling h) (lists_to h)
unfolding lists_to
all_fall zero = ((0, omega arith, bottom), tt)
all_fall (suc h) =
    let before = all_fall h in
    each_append (Falling (suc h)) (lists_to h) (map (λ l. suc h ∷ l) (lists_to h))
    (each_more (Falling h) (Falling (suc h)) (λ l a. (a.0, (let p = a.1 in omega arith), a.2)) (lists_to h) before)
    (each_map (Falling h) (Falling (suc h)) (λ l. suc h ∷ l) (λ l a. (suc h, omega arith, next (let p = a.1 in omega arith) a.2)) (lists_to h) before)

pub cuts-all : (h : ℕ) → Each (CutList h) (cut_lists h)
unfolding cut_lists
cuts-all zero = (bottom, tt)
cuts-all (suc h) =
    each_map (Falling h) (CutList (suc h)) (λ l. suc h ∷ l) (λ l a. next (let p = a.1 in omega arith) a.2) (lists_to h) (all_fall h)

module _ (j : Job) (ws : List ℕ) where
  best_is : (P : List ℕ → Type 0) (ls : List (List ℕ)) → Each P ls → is_none j ws (best j ws ls) ≡ false
      → P (best j ws ls) × (admissible j ws (best j ws ls) ≡ true)
  unfolding best is_none
  best_is P [] a e = absurd (true≢false e)
  best_is P (l ∷ ls) a e =
      let r = best j ws ls in
      let test = admissible j ws l && (is_none j ws r || better j ws l r) in
      by_test test
      (λ p. rw (cond_yes test l r p) (a.0, (and_split (admissible j ws l) (is_none j ws r || better j ws l r) p).0))
      (λ p. rw (cond_no test l r p) (best_is P ls a.1 (ap (is_none j ws) (sym (cond_no test l r p)) ∙ e)))

  pub chosen-cuts : refuse8 j ws ≡ false → CutList (t j) (chosen j ws)
  unfolding refuse8 chosen
  chosen-cuts e = (best_is (CutList (t j)) (cut_lists (t j)) (cuts-all (t j)) e).0

  pub chosen-admissible : refuse8 j ws ≡ false → admissible j ws (chosen j ws) ≡ true
  unfolding refuse8 chosen
  chosen-admissible e = (best_is (CutList (t j)) (cut_lists (t j)) (cuts-all (t j)) e).1

-- a cut list is not the list that stands for none
pub cuts-none : (j : Job) (ws : List ℕ) {h : ℕ} {l : List ℕ} → CutList h l → is_none j ws l ≡ false
unfolding is_none
cuts-none j ws bottom = refl
cuts-none j ws (next p c) = refl
