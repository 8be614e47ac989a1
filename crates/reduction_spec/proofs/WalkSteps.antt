-- One step of a walk, and of the comparison of two nodes.
-- Assumes nothing.
use mathlib.Core.Path.{◌≡◌, refl, sym, ◌∙◌, ap, ap₂}
use mathlib.Core.Logic.{◌⊎◌, inl, inr}
use mathlib.Core.Bool.{Bool, true, false, not, ◌&&◌, ◌||◌, or-true}
use mathlib.Core.List.{List, [], ◌∷◌}
use Prim.Native.Nat.{ℕ, zero, suc, ◌-◌, ◌<◌, ◌≤◌}
use native.Mathlib.Omega.{arith}
use lib.Dec.{eqb, ltb}
use lib.ListN.{length, get_or}
use borrow.Author.Tests.{lt-ltb, le-ltb, eq-eqb, ne_eqb}
use Rattle.sheet_spec.specs.Job.{is_input}
use Rattle.laws.proofs.Cases.{cond_yes, cond_no, cond_both}
use Rattle.reduction_spec.specs.Walk.{low_of, high_of, child, walk}
use Rattle.reduction_spec.specs.Compare.{neither_zero, same_nodes, compatible_nodes}

-- what the children of two nodes say: those for 0 are open as l says and compatible as x says, those for 1 as r and y say
abbrev pub joint : Bool → Bool → Bool → Bool → Bool
joint l r x y = (l || r) && (not l || x) && (not r || y)

-- a height that is not 0
pub above : (h : ℕ) → (h ≡ 0 → ⊥) → h ≡ suc (h - 1)
above h n = omega arith

-- the variable at height h + 1 of an order that is not that long
pub empty_order : (l : List ℕ) (h : ℕ) → length l ≡ 0 → true ≡ is_input (get_or l (length l - suc h) 0)
empty_order [] h e = refl
empty_order (x ∷ l) h e = absurd (omega arith)

pub topmost : (l : List ℕ) (h : ℕ) → length l ≤ h → is_input (get_or l 0 0) ≡ is_input (get_or l (length l - suc h) 0)
topmost l h b = let e : 0 ≡ length l - suc h = omega arith in ap (λ (i : ℕ). is_input (get_or l i 0)) e

module _ (ws : List ℕ) (bits : ℕ) where
  pub walk-bottom : (h v : ℕ) → h ≡ 0 → v ≡ walk ws bits h v
  unfolding walk
  walk-bottom h v e = rw e refl

  pub walk-stop : (h v : ℕ) → v < 2 → v ≡ walk ws bits h v
  unfolding walk
  walk-stop zero v l = refl
  walk-stop (suc h) v l = sym (cond_yes (ltb v 2) v _ (lt-ltb v 2 l))

  pub walk-next : (h v y r : ℕ) → (h ≡ 0 → ⊥) → 2 ≤ v → y ≡ child ws bits (h - 1) v → r ≡ walk ws bits (h - 1) y → r ≡ walk ws bits h v
  unfolding walk
  walk-next h v y r n l ey er =
      er ∙ ap (walk ws bits (h - 1)) ey ∙ sym (cond_no (ltb v 2) v _ (le-ltb v 2 l)) ∙ ap (λ (k : ℕ). walk ws bits k v) (sym (above h n))

module _ (ws : List ℕ) where
  -- a node has its own column
  pub same_self : (h v : ℕ) → same_nodes ws h v v ≡ true
  unfolding same_nodes
  same_self zero v = eq-eqb v v refl
  same_self (suc h) v =
      cond_both (λ (b : Bool). b ≡ true) (ltb v 2 || ltb v 2) (eq-eqb v v refl) (ap₂ ◌&&◌ (same_self h (low_of ws v)) (same_self h (high_of ws v)))

  pub same_equal : (h v u : ℕ) → v ≡ u → true ≡ same_nodes ws h v u
  same_equal h v u e = sym (same_self h u) ∙ ap (λ (x : ℕ). same_nodes ws h x u) (sym e)

  -- the column of a constant is that of no other node
  same_constant : (h v u : ℕ) → (ltb v 2 || ltb u 2) ≡ true → eqb v u ≡ same_nodes ws h v u
  unfolding same_nodes
  same_constant zero v u e = refl
  same_constant (suc h) v u e = sym (cond_yes (ltb v 2 || ltb u 2) (eqb v u) _ e)

  same-bottom : (h v u : ℕ) → h ≡ 0 → eqb v u ≡ same_nodes ws h v u
  unfolding same_nodes
  same-bottom h v u e = rw e refl

  -- at height 0, or where one of the nodes is constant
  pub same_ended : (h v u : ℕ) → (h ≡ 0) ⊎ (((h ≡ 0 → ⊥) × (v < 2)) ⊎ ((h ≡ 0 → ⊥) × (2 ≤ v) × (u < 2))) → eqb v u ≡ same_nodes ws h v u
  same_ended h v u (inl e) = same-bottom h v u e
  same_ended h v u (inr (inl e)) = same_constant h v u (ap (λ (b : Bool). b || ltb u 2) (lt-ltb v 2 e.1))
  same_ended h v u (inr (inr e)) = same_constant h v u (ap (λ (b : Bool). ltb v 2 || b) (lt-ltb u 2 e.2) ∙ or-true (ltb v 2))

  pub same_left : (h v u : ℕ) → v < 2 → (v ≡ u → ⊥) → false ≡ same_nodes ws h v u
  same_left h v u l n = sym (ne_eqb v u n) ∙ same_constant h v u (ap (λ (b : Bool). b || ltb u 2) (lt-ltb v 2 l))

  pub same_right : (h v u : ℕ) → u < 2 → (v ≡ u → ⊥) → false ≡ same_nodes ws h v u
  same_right h v u l n = sym (ne_eqb v u n) ∙ same_constant h v u (ap (λ (b : Bool). ltb v 2 || b) (lt-ltb u 2 l) ∙ or-true (ltb v 2))

  neither : (v u : ℕ) → 2 ≤ v → 2 ≤ u → (ltb v 2 || ltb u 2) ≡ false
  neither v u p q = ap₂ ◌||◌ (le-ltb v 2 p) (le-ltb u 2 q)

  -- of two nodes the children decide
  pub same_step : (h v u : ℕ) → 2 ≤ v → 2 ≤ u
      → same_nodes ws (suc h) v u ≡ (same_nodes ws h (low_of ws v) (low_of ws u) && same_nodes ws h (high_of ws v) (high_of ws u))
  unfolding same_nodes
  same_step h v u p q = cond_no (ltb v 2 || ltb u 2) (eqb v u) _ (neither v u p q)

  module _ (h v u : ℕ) (n : h ≡ 0 → ⊥) (p : 2 ≤ v) (q : 2 ≤ u) where
    same_children : same_nodes ws h v u ≡ (same_nodes ws (h - 1) (low_of ws v) (low_of ws u) && same_nodes ws (h - 1) (high_of ws v) (high_of ws u))
    same_children = ap (λ (k : ℕ). same_nodes ws k v u) (above h n) ∙ same_step (h - 1) v u p q

    pub same_low : (y z : ℕ) (r : Bool) → y ≡ low_of ws v → z ≡ low_of ws u → r ≡ same_nodes ws (h - 1) y z → r ≡ false → false ≡ same_nodes ws h v u
    same_low y z r ey ez er out =
        let low : same_nodes ws (h - 1) (low_of ws v) (low_of ws u) ≡ false = ap₂ (same_nodes ws (h - 1)) (sym ey) (sym ez) ∙ sym er ∙ out in
        sym (same_children ∙ ap (λ (b : Bool). b && same_nodes ws (h - 1) (high_of ws v) (high_of ws u)) low)

    pub same-high : (y z y' z' : ℕ) (r r' : Bool) → y ≡ low_of ws v → z ≡ low_of ws u → r ≡ same_nodes ws (h - 1) y z → r ≡ true
        → y' ≡ high_of ws v → z' ≡ high_of ws u → r' ≡ same_nodes ws (h - 1) y' z' → r' ≡ same_nodes ws h v u
    same-high y z y' z' r r' ey ez er alike ey' ez' er' =
        let low : same_nodes ws (h - 1) (low_of ws v) (low_of ws u) ≡ true = ap₂ (same_nodes ws (h - 1)) (sym ey) (sym ez) ∙ sym er ∙ alike in
        er' ∙ ap₂ (same_nodes ws (h - 1)) ey' ez'
        ∙ sym (same_children ∙ ap (λ (b : Bool). b && same_nodes ws (h - 1) (high_of ws v) (high_of ws u)) low)

  open_constant : (h v u : ℕ) → (ltb v 2 || ltb u 2) ≡ true → neither_zero v u ≡ compatible_nodes ws h v u
  unfolding compatible_nodes
  open_constant zero v u e = refl
  open_constant (suc h) v u e = sym (cond_yes (ltb v 2 || ltb u 2) (neither_zero v u) _ e)

  compatible-bottom : (h v u : ℕ) → h ≡ 0 → neither_zero v u ≡ compatible_nodes ws h v u
  unfolding compatible_nodes
  compatible-bottom h v u e = rw e refl

  pub compatible_ended : (h v u : ℕ) → (h ≡ 0) ⊎ (((h ≡ 0 → ⊥) × (v < 2)) ⊎ ((h ≡ 0 → ⊥) × (2 ≤ v) × (u < 2))) → neither_zero v u ≡ compatible_nodes ws h v u
  compatible_ended h v u (inl e) = compatible-bottom h v u e
  compatible_ended h v u (inr (inl e)) = open_constant h v u (ap (λ (b : Bool). b || ltb u 2) (lt-ltb v 2 e.1))
  compatible_ended h v u (inr (inr e)) = open_constant h v u (ap (λ (b : Bool). ltb v 2 || b) (lt-ltb u 2 e.2) ∙ or-true (ltb v 2))

  pub compatible-step : (h v u : ℕ) → 2 ≤ v → 2 ≤ u
      → compatible_nodes ws (suc h) v u
      ≡ joint (neither_zero (low_of ws v) (low_of ws u)) (neither_zero (high_of ws v) (high_of ws u)) (compatible_nodes ws h (low_of ws v) (low_of ws u))
      (compatible_nodes ws h (high_of ws v) (high_of ws u))
  unfolding compatible_nodes
  compatible-step h v u p q = cond_no (ltb v 2 || ltb u 2) (neither_zero v u) _ (neither v u p q)

  -- lv, lu, hv and hu are the children of v and u
  module _ (h v u : ℕ) (n : h ≡ 0 → ⊥) (p : 2 ≤ v) (q : 2 ≤ u) (lv lu hv hu : ℕ) (elv : lv ≡ low_of ws v) (elu : lu ≡ low_of ws u)
      (ehv : hv ≡ high_of ws v) (ehu : hu ≡ high_of ws u) (l r : Bool) (el : l ≡ neither_zero lv lu) (er : r ≡ neither_zero hv hu) where
    compatible_children : joint l r (compatible_nodes ws (h - 1) lv lu) (compatible_nodes ws (h - 1) hv hu) ≡ compatible_nodes ws h v u
    compatible_children =
        rw (el, er, elv, elu, ehv, ehu)
        (sym (compatible-step (h - 1) v u p q) ∙ ap (λ (k : ℕ). compatible_nodes ws k v u) (sym (above h n)))

    -- both are open, and the low children are compatible
    pub compatible-both : (x y : Bool) → l ≡ true → x ≡ compatible_nodes ws (h - 1) lv lu → x ≡ true → r ≡ true
        → y ≡ compatible_nodes ws (h - 1) hv hu → y ≡ compatible_nodes ws h v u
    compatible-both x y yl ex yx yr ey = joined ∙ compatible_children
      where
        joined : y ≡ joint l r (compatible_nodes ws (h - 1) lv lu) (compatible_nodes ws (h - 1) hv hu)
        joined = rw (yl, yr, sym ex ∙ yx) ey

    pub compatible-low : (x : Bool) → l ≡ true → x ≡ compatible_nodes ws (h - 1) lv lu → x ≡ true → r ≡ false → true ≡ compatible_nodes ws h v u
    compatible-low x yl ex yx nr = joined ∙ compatible_children
      where
        joined : true ≡ joint l r (compatible_nodes ws (h - 1) lv lu) (compatible_nodes ws (h - 1) hv hu)
        joined = rw (yl, nr, sym ex ∙ yx) refl

    pub compatible_fails : (x : Bool) → l ≡ true → x ≡ compatible_nodes ws (h - 1) lv lu → x ≡ false → false ≡ compatible_nodes ws h v u
    compatible_fails x yl ex nx = joined ∙ compatible_children
      where
        joined : false ≡ joint l r (compatible_nodes ws (h - 1) lv lu) (compatible_nodes ws (h - 1) hv hu)
        joined = rw (yl, sym ex ∙ nx) refl

    pub compatible-high : (y : Bool) → l ≡ false → r ≡ true → y ≡ compatible_nodes ws (h - 1) hv hu → y ≡ compatible_nodes ws h v u
    compatible-high y nl yr ey = joined ∙ compatible_children
      where
        joined : y ≡ joint l r (compatible_nodes ws (h - 1) lv lu) (compatible_nodes ws (h - 1) hv hu)
        joined = rw (nl, yr) ey

    pub compatible_closed : l ≡ false → r ≡ false → false ≡ compatible_nodes ws h v u
    compatible_closed nl nr = joined ∙ compatible_children
      where
        joined : false ≡ joint l r (compatible_nodes ws (h - 1) lv lu) (compatible_nodes ws (h - 1) hv hu)
        joined = rw (nl, nr) refl
