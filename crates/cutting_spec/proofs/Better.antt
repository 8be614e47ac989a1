-- Better is a strict order on lists, and total on the falling lists from one height; `best` picks a list that no admissible one is better than.
-- Assumes nothing.
use mathlib.Core.Path.{◌≡◌, refl, sym, ◌∙◌, ap}
use mathlib.Core.Logic.{◌⊎◌, inl, inr}
use mathlib.Core.Bool.{Bool, true, false, cond, ◌&&◌, ◌||◌, false≢true, true≢false}
use mathlib.Core.List.Memᴰ
use mathlib.Core.List.{List, [], ◌∷◌, Memᴰ}
use Prim.Native.Nat.{ℕ, ◌-◌, ◌<◌}
use native.Mathlib.Omega.{arith}
use lib.Dec.{eqb, ltb}
use lib.ListN.{length}
use borrow.Author.Tests.{lt-ltb, le-ltb, eq-eqb, ne_eqb}
use Rattle.laws.proofs.Cases.{by_test, by_less, by_equal, either, no_test}
use Rattle.sheet_spec.specs.Job.{Job}
use Rattle.stored_spec.specs.Cells.{bit_total}
use Rattle.cutting_spec.specs.Cuts.{CutList, bottom, next, cells_of}
use Rattle.cutting_spec.specs.Choice.{longer, admissible, better, is_none, best}

-- a below b, or a equal to b and the test x
abbrev pub first : ℕ → ℕ → Bool → Bool
first a b x = ltb a b || eqb a b && x

module _ (a b : ℕ) (x : Bool) where
  pub first_less : a < b → first a b x ≡ true
  first_less h = rw (lt-ltb a b h)

  pub first-same : a ≡ b → first a b x ≡ x
  first-same e = rw (le-ltb a b (omega arith), eq-eqb a b e)

  pub first_more : b < a → first a b x ≡ false
  first_more h = rw (le-ltb a b (omega arith), ne_eqb a b (λ e. omega arith))

  -- what it says
  pub first_yes : {C : Type 0} → first a b x ≡ true → (a < b → C) → (a ≡ b → x ≡ true → C) → C
  first_yes e f g =
      by_less a b f (λ l. by_equal a b (λ q. g q (sym (first-same q) ∙ e)) (λ q. absurd (true≢false (sym e ∙ first_more (omega arith)))))

  pub first_no : {C : Type 0} → first a b x ≡ false → (b < a → C) → (a ≡ b → x ≡ false → C) → C
  first_no e f g =
      by_less b a f (λ l. by_equal a b (λ q. g q (sym (first-same q) ∙ e)) (λ q. absurd (true≢false (sym (first_less (omega arith)) ∙ e))))

pub first_trans : (a b c : ℕ) (x y z : Bool) → (x ≡ true → y ≡ true → z ≡ true) → first a b x ≡ true → first b c y ≡ true → first a c z ≡ true
first_trans a b c x y z f p q =
    first_yes a b x p (λ l. first_yes b c y q (λ k. first_less a c z (omega arith)) (λ k v. first_less a c z (omega arith)))
    (λ l u. first_yes b c y q (λ k. first_less a c z (omega arith)) (λ k v. first-same a c z (omega arith) ∙ f u v))

-- longer
pub longer_trans : (l k r : List ℕ) → longer l k ≡ true → longer k r ≡ true → longer l r ≡ true
unfolding longer
longer_trans [] k r p q = p
longer_trans (a ∷ []) k r p q = p
longer_trans (a ∷ b ∷ l) [] r p q = absurd (false≢true p)
longer_trans (a ∷ b ∷ l) (c ∷ []) r p q = absurd (false≢true p)
longer_trans (a ∷ b ∷ l) (c ∷ d ∷ k) [] p q = q
longer_trans (a ∷ b ∷ l) (c ∷ d ∷ k) (e ∷ []) p q = q
longer_trans (a ∷ b ∷ l) (c ∷ d ∷ k) (e ∷ f ∷ r) p q =
    first_trans (e - f) (c - d) (a - b) (longer (d ∷ k) (f ∷ r)) (longer (b ∷ l) (d ∷ k)) (longer (b ∷ l) (f ∷ r))
    (λ u v. longer_trans (b ∷ l) (d ∷ k) (f ∷ r) v u) q p

pub longer_itself : (l : List ℕ) → longer l l ≡ false
unfolding longer
longer_itself [] = refl
longer_itself (a ∷ []) = refl
longer_itself (a ∷ b ∷ l) = first-same (a - b) (a - b) (longer (b ∷ l) (b ∷ l)) refl ∙ longer_itself (b ∷ l)

-- from one height: the lower next cut is the longer first cell
first-turn : (h g f : ℕ) (x : Bool) → g < h → f < h → first (h - f) (h - g) x ≡ first g f x
first-turn h g f x p q =
    by_less g f (λ l. first_less (h - f) (h - g) x (omega arith) ∙ sym (first_less g f x l))
    (λ l.
    by_less f g (λ k. first_more (h - f) (h - g) x (omega arith) ∙ sym (first_more g f x k))
    (λ k. first-same (h - f) (h - g) x (omega arith) ∙ sym (first-same g f x (omega arith))))

pub longer-next : (h : ℕ) {g f : ℕ} {l k : List ℕ} → g < h → f < h → CutList g l → CutList f k → longer (h ∷ l) (h ∷ k) ≡ first g f (longer l k)
unfolding longer
longer-next h p q bottom bottom = first-turn h 0 0 (longer (0 ∷ []) (0 ∷ [])) p q
longer-next h p q bottom (next {h = f} {l = k} b d) = first-turn h 0 f (longer (0 ∷ []) (f ∷ k)) p q
longer-next h p q (next {h = g} {l = l} a c) bottom = first-turn h g 0 (longer (g ∷ l) (0 ∷ [])) p q
longer-next h p q (next {h = g} {l = l} a c) (next {h = f} {l = k} b d) = first-turn h g f (longer (g ∷ l) (f ∷ k)) p q

-- of two falling lists from one height one is longer, or they are the same
longer_total : {h g : ℕ} {l k : List ℕ} → h ≡ g → CutList h l → CutList g k → longer l k ≡ false → longer k l ≡ false → l ≡ k
longer_total e bottom bottom p q = refl
longer_total e bottom (next b d) p q = absurd (omega arith)
longer_total e (next a c) bottom p q = absurd (omega arith)
longer_total e (next {h = h} {g = x} {l = l} a c) (next {h = g} {g = y} {l = k} b d) p q =
    let b' : y < h = omega arith in
    let p' : first x y (longer l k) ≡ false = sym (longer-next h a b' c d) ∙ ap (λ (i : ℕ). longer (h ∷ l) (i ∷ k)) e ∙ p in
    let q' : first y x (longer k l) ≡ false = sym (longer-next h b' a d c) ∙ ap (λ (i : ℕ). longer (i ∷ k) (h ∷ l)) e ∙ q in
    first_no x y (longer l k) p'
    (λ u. first_no y x (longer k l) q' (λ v. absurd (omega arith)) (λ v w. absurd (omega arith)))
    (λ u s.
    first_no y x (longer k l) q' (λ v. absurd (omega arith))
    (λ v w. let same : l ≡ k = longer_total u c d s w in rw (e, same)))

module _ (j : Job) (ws : List ℕ) where
  abbrev pub cells_in : List ℕ → ℕ
  cells_in l = length (cells_of j ws l)

  abbrev pub bits_in : List ℕ → ℕ
  bits_in l = bit_total (cells_of j ws l)

  pub better_is : (l k : List ℕ) → better j ws l k ≡ first (cells_in l) (cells_in k) (first (bits_in l) (bits_in k) (longer l k))
  unfolding better
  better_is l k = refl

  pub better_trans : (l k r : List ℕ) → better j ws l k ≡ true → better j ws k r ≡ true → better j ws l r ≡ true
  unfolding better
  better_trans l k r =
      first_trans (cells_in l) (cells_in k) (cells_in r) (first (bits_in l) (bits_in k) (longer l k)) (first (bits_in k) (bits_in r) (longer k r))
      (first (bits_in l) (bits_in r) (longer l r))
      (first_trans (bits_in l) (bits_in k) (bits_in r) (longer l k) (longer k r) (longer l r) (longer_trans l k r))

  pub better_itself : (l : List ℕ) → better j ws l l ≡ false
  unfolding better
  better_itself l =
      first-same (cells_in l) (cells_in l) (first (bits_in l) (bits_in l) (longer l l)) refl
      ∙ first-same (bits_in l) (bits_in l) (longer l l) refl ∙ longer_itself l

  pub better_total : {h : ℕ} {l k : List ℕ} → CutList h l → CutList h k → better j ws l k ≡ false → better j ws k l ≡ false → l ≡ k
  unfolding better
  better_total {l = l} {k = k} c d p q =
      first_no (cells_in l) (cells_in k) (first (bits_in l) (bits_in k) (longer l k)) p
      (λ u. first_no (cells_in k) (cells_in l) (first (bits_in k) (bits_in l) (longer k l)) q (λ v. absurd (omega arith)) (λ v w. absurd (omega arith)))
      (λ u x.
      first_no (cells_in k) (cells_in l) (first (bits_in k) (bits_in l) (longer k l)) q (λ v. absurd (omega arith))
      (λ v y.
      first_no (bits_in l) (bits_in k) (longer l k) x
      (λ a. first_no (bits_in k) (bits_in l) (longer k l) y (λ b. absurd (omega arith)) (λ b z. absurd (omega arith)))
      (λ a z. first_no (bits_in k) (bits_in l) (longer k l) y (λ b. absurd (omega arith)) (λ b w. longer_total refl c d z w))))

  -- r is an admissible one of the lists, and no admissible one is better
  pub record Picked (ls : List (List ℕ)) (r : List ℕ) : Type 0 where
    pub among : Memᴰ r ls
    pub good : admissible j ws r ≡ true
    pub none-better : (k : List ℕ) → Memᴰ k ls → admissible j ws k ≡ true → better j ws k r ≡ false

  -- nothing is picked: no list is admissible
  abbrev pub Unpicked : List (List ℕ) → List ℕ → Type 0
  Unpicked ls r = (r ≡ []) × ((k : List ℕ) → Memᴰ k ls → admissible j ws k ≡ false)

  picked_new : (l : List ℕ) (ls : List (List ℕ)) → admissible j ws l ≡ true
      → ((k : List ℕ) → Memᴰ k ls → admissible j ws k ≡ true → better j ws k l ≡ false) → Picked (l ∷ ls) l
  picked_new l ls a h =
      record {
        among = Memᴰ.head refl;
        good = a;
        none-better = λ k m b.
            either (Memᴰ.cases_cons m) (λ e. ap (λ (x : List ℕ). better j ws x l) e ∙ better_itself l) (λ q. h k q b);
      }

  picked_old : (l r : List ℕ) (ls : List (List ℕ)) → Picked ls r → (admissible j ws l ≡ true → better j ws l r ≡ false) → Picked (l ∷ ls) r
  picked_old l r ls n h =
      record {
        among = Memᴰ.tail n.among;
        good = n.good;
        none-better = λ k m b.
            either (Memᴰ.cases_cons m) (λ e. ap (λ (x : List ℕ). better j ws x r) e ∙ h (ap (admissible j ws) (sym e) ∙ b))
            (λ q. n.none-better k q b);
      }

  pick_next : (l r : List ℕ) (ls : List (List ℕ)) → ((k : List ℕ) → Memᴰ k ls → is_none j ws k ≡ false) → Unpicked ls r ⊎ Picked ls r
      → Unpicked (l ∷ ls) (cond (admissible j ws l && (is_none j ws r || better j ws l r)) l r)
      ⊎ Picked (l ∷ ls) (cond (admissible j ws l && (is_none j ws r || better j ws l r)) l r)
  unfolding is_none
  pick_next l r ls some (inl (e, n)) =
      by_test (admissible j ws l)
      (λ a. rw (a, e) (inr (picked_new l ls a (λ k m b. absurd (true≢false (sym b ∙ n k m))))))
      (λ a. rw a (inl (e, (λ k m. either (Memᴰ.cases_cons m) (λ q. ap (admissible j ws) q ∙ a) (λ q. n k q)))))
  pick_next l r ls some (inr n) =
      by_test (admissible j ws l)
      (λ a.
      by_test (better j ws l r)
      (λ b.
      rw (a, some r n.among, b)
      (inr (picked_new l ls a
      (λ k m c. no_test (better j ws k l) (λ d. absurd (true≢false (sym (better_trans k l r d b) ∙ n.none-better k m c)))))))
      (λ b. rw (a, some r n.among, b) (inr (picked_old l r ls n (λ c. b)))))
      (λ a. rw a (inr (picked_old l r ls n (λ c. absurd (true≢false (sym c ∙ a))))))

  pub best_of : (ls : List (List ℕ)) → ((l : List ℕ) → Memᴰ l ls → is_none j ws l ≡ false)
      → Unpicked ls (best j ws ls) ⊎ Picked ls (best j ws ls)
  unfolding best
  best_of [] some = inl (refl, (λ k m. absurd (Memᴰ.not-nil m)))
  best_of (l ∷ ls) some =
      let some' : (k : List ℕ) → Memᴰ k ls → is_none j ws k ≡ false = λ k m. some k (Memᴰ.tail m) in
      pick_next l (best j ws ls) ls some' (best_of ls some')
