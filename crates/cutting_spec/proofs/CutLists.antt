-- The members of `cut_lists h` are the falling lists from h to 0.
-- Assumes nothing.
use mathlib.Core.Path.{◌≡◌, refl, sym, ap, subst}
use mathlib.Core.List.Memᴰ
use mathlib.Core.List.{List, [], ◌∷◌, map, Memᴰ}
use Prim.Native.Nat.{ℕ, zero, suc, ◌≤◌}
use native.Mathlib.Omega.{arith}
use Rattle.laws.proofs.Cases.{either, last_or_below}
use Rattle.cutting_spec.specs.Cuts.{CutList, bottom, next, lists_to, cut_lists}

-- a list of lists, each put behind a
map-member : {l : List ℕ} (a : ℕ) (ls : List (List ℕ)) → Memᴰ l ls → Memᴰ (a ∷ l) (map (λ k. a ∷ k) ls)
map-member a ls (Memᴰ.head e) = Memᴰ.head (ap (λ (k : List ℕ). a ∷ k) e)
map-member a ls (Memᴰ.tail {xs = xs} m) = Memᴰ.tail (map-member a xs m)

member-map : {l : List ℕ} (a : ℕ) (ls : List (List ℕ)) → Memᴰ l (map (λ k. a ∷ k) ls) → (k : List ℕ) × Memᴰ k ls × (l ≡ a ∷ k)
member-map a [] m = absurd (Memᴰ.not-nil m)
member-map a (k ∷ ls) m =
    either (Memᴰ.cases_cons m) (λ e. (k, Memᴰ.head refl, e)) (λ r. let (x, y, z) = member-map a ls r in (x, Memᴰ.tail y, z))

-- every falling list from a height of at most h
pub member_to : {g : ℕ} {l : List ℕ} (h : ℕ) → g ≤ h → CutList g l → Memᴰ l (lists_to h)
unfolding lists_to
member_to zero le bottom = Memᴰ.head refl
member_to zero le (next p c) = absurd (omega arith)
member_to (suc h) le bottom = Memᴰ.append_left _ (member_to h (omega arith) bottom)
member_to (suc h) le (next {h = g} {l = l} p c) =
    last_or_below g (suc h) (omega arith)
    (λ e. Memᴰ.append_right (lists_to h) (Memᴰ-at e (map-member (suc h) (lists_to h) (member_to h (omega arith) c))))
    (λ q. Memᴰ.append_left _ (member_to h (omega arith) (next p c)))
  where
    Memᴰ-at : {ls : List (List ℕ)} → g ≡ suc h → Memᴰ (suc h ∷ l) ls → Memᴰ (g ∷ l) ls
    Memᴰ-at e m = rw e m

pub member_of : {h : ℕ} {l : List ℕ} → CutList h l → Memᴰ l (cut_lists h)
unfolding cut_lists
member_of bottom = Memᴰ.head refl
member_of (next {h = zero} p c) = absurd (omega arith)
member_of (next {h = suc h} p c) = map-member (suc h) (lists_to h) (member_to h (omega arith) c)

-- and no others
pub to_falls : (h : ℕ) (l : List ℕ) → Memᴰ l (lists_to h) → (g : ℕ) × (g ≤ h) × CutList g l
unfolding lists_to
to_falls zero l m = (0, omega arith, subst (CutList 0) (sym (Memᴰ.eq_of_singleton m)) bottom)
to_falls (suc h) l m =
    either (Memᴰ.append_cases (lists_to h) m)
    (λ r. let (g, le, c) = to_falls h l r in (g, omega arith, c))
    (λ r.
    let (k, y, e) = member-map (suc h) (lists_to h) r in
    let (g, le, c) = to_falls h k y in
    (suc h, omega arith, subst (CutList (suc h)) (sym e) (next (omega arith) c)))

pub of_falls : (h : ℕ) (l : List ℕ) → Memᴰ l (cut_lists h) → CutList h l
unfolding cut_lists
of_falls zero l m = subst (CutList 0) (sym (Memᴰ.eq_of_singleton m)) bottom
of_falls (suc h) l m =
    let (k, y, e) = member-map (suc h) (lists_to h) m in
    let (g, le, c) = to_falls h k y in
    subst (CutList (suc h)) (sym e) (next (omega arith) c)
