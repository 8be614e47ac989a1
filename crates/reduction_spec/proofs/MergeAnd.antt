-- After a merge the characteristic function of a column is the AND of those of the columns of its clique (document 000, algorithm 3.3).
-- Assumes nothing.
use mathlib.Core.Path.{◌≡◌, refl, sym, ◌∙◌, ap}
use mathlib.Core.Bool.{Bool, true, false, cond, not, ◌&&◌, ◌||◌, or-true}
use mathlib.Core.List.{List}
use Prim.Native.Nat.{ℕ, ◌+◌, ◌-◌, ◌*◌, ◌^◌, ◌<◌, ◌≤◌}
use native.Mathlib.Omega.{arith}
use borrow.Author.Tests.{eq-eqb, ne_eqb, eqb-true}
use lib.Dec.{eqb}
use lib.ListN.{length, get_or}
use Rattle.laws.specs.Tests.{every}
use Rattle.laws.specs.Bits.{has}
use Rattle.laws.proofs.Cases.{by_test, by_less, by_equal, cond_yes, cond_no, and_split, same_test}
use Rattle.laws.proofs.Tests.{every_of, every_at, any_at}
use Rattle.sheet_spec.specs.Values.{free}
use Rattle.sheet_spec.specs.Characteristic.{meets}
use Rattle.reduction_spec.specs.Columns.{entry, number_in, firsts}
use Rattle.reduction_spec.specs.Cover.{cover}
use Rattle.reduction_spec.specs.Merge.{holds, product, graph, merge}
use Rattle.reduction_spec.specs.Cofactors.{column_chi}
use Rattle.reduction_spec.proofs.CoverPartition.{cover-clique}
use Rattle.reduction_spec.proofs.OneMerge.{graph_sym, product-keeps, merge-entry}

-- each bit meets d
meets-free : (y : Bool) (v : ℕ) → v ≡ free → meets y v ≡ true
unfolding meets
meets-free y v e = rw e (or-true (not y && false || y && false))

module _ (n a b : ℕ) (f : List ℕ) (small : (i : ℕ) → get_or f i 0 < 3) where
  abbrev ps : List ℕ
  ps = firsts n a b f

  abbrev owner : List ℕ
  owner = cover (length ps) (graph n a b f ps)

  -- the clique of prefix p's column
  abbrev clique_of : ℕ → ℕ
  clique_of p = get_or owner (number_in n a b f ps p) 0

  -- the value of column c at a place
  abbrev value : ℕ → ℕ → ℕ → ℕ
  value c k x = entry n a f (get_or ps c 0) k x

  -- a bit that meets the product of a clique meets the value of each member, and one that meets each of these meets the product
  member_met : (c k x : ℕ) (y : Bool) → c < length ps → k < b → x < 2 ^ a → meets y (product n a b f ps owner (get_or owner c 0) k x) ≡ true
      → meets y (value c k x) ≡ true
  member_met c k x y hc hk hx e =
      by_less (value c k x) 2
      (λ l.
      ap (meets y)
      (sym (product-keeps n a b f (cover-clique (length ps) (graph n a b f ps) (graph_sym n a b f)) c k x (value c k x) hc hk hx l refl))
      ∙ e)
      (λ l. meets-free y (value c k x) (omega (arith, small (k * 2 ^ n + (get_or ps c 0 * 2 ^ a + x)))))

  module _ (g k x : ℕ) (y : Bool) (each : (c : ℕ) → c < length ps → get_or owner c 0 ≡ g → meets y (value c k x) ≡ true) where
    held_met : (v : ℕ) → holds n a b f ps owner v g k x ≡ true → meets y v ≡ true
    unfolding holds
    held_met v e =
        let (c, hc, q) = any_at (λ c. eqb (get_or owner c 0) g && eqb (value c k x) v) (length ps) e in
        let (s, t) = and_split (eqb (get_or owner c 0) g) (eqb (value c k x) v) q in
        ap (meets y) (sym (eqb-true (value c k x) v t)) ∙ each c hc (eqb-true (get_or owner c 0) g s)

    product_met : meets y (product n a b f ps owner g k x) ≡ true
    unfolding product
    product_met =
        let zero = holds n a b f ps owner 0 g k x in
        let one = holds n a b f ps owner 1 g k x in
        by_test zero (λ e. ap (meets y) (cond_yes zero 0 (cond one 1 free) e) ∙ held_met 0 e)
        (λ e.
        let rest = cond_no zero 0 (cond one 1 free) e in
        by_test one (λ o. ap (meets y) (rest ∙ cond_yes one 1 free o) ∙ held_met 1 o) (λ o. meets-free y _ (rest ∙ cond_no one 1 free o)))

  module _ (m : ℕ) (ha : a ≤ n) (hb : b ≤ m) (p x y : ℕ) (hp : p < 2 ^ (n - a)) (hx : x < 2 ^ a) where
    -- column c is none of the clique, or y and x satisfy its characteristic function
    abbrev member : ℕ → Bool
    member c = not (eqb (get_or owner c 0) (clique_of p)) || column_chi n a b f (get_or ps c 0) x y

    abbrev line : ℕ → Bool
    line k = meets (has y k) (entry n a (merge n m a b f) p k x)

    after : (k : ℕ) → k < b → line k ≡ meets (has y k) (product n a b f ps owner (clique_of p) k x)
    after k hk = ap (meets (has y k)) (merge-entry n a b f m ha hb p k x hp hk hx)

    and_to : every b line ≡ true → (c : ℕ) → c < length ps → member c ≡ true
    unfolding column_chi
    and_to e c hc =
        let g = get_or owner c 0 in
        by_equal g (clique_of p)
        (λ s.
        ap (λ (t : Bool). not t || column_chi n a b f (get_or ps c 0) x y) (eq-eqb g (clique_of p) s)
        ∙ every_of (λ k. meets (has y k) (value c k x)) b (λ k hk.
        member_met c k x (has y k) hc hk hx
        (ap (λ (i : ℕ). meets (has y k) (product n a b f ps owner i k x)) s ∙ sym (after k hk) ∙ every_at line b e k hk)))
        (λ s. ap (λ (t : Bool). not t || column_chi n a b f (get_or ps c 0) x y) (ne_eqb g (clique_of p) s))

    and_from : every (length ps) member ≡ true → (k : ℕ) → k < b → line k ≡ true
    unfolding column_chi
    and_from e k hk =
        after k hk
        ∙ product_met (clique_of p) k x (has y k) (λ c hc s.
        every_at (λ k. meets (has y k) (value c k x)) b
        (ap (λ (t : Bool). not t || column_chi n a b f (get_or ps c 0) x y) (sym (eq-eqb (get_or owner c 0) (clique_of p) s)) ∙ every_at member (length ps) e c hc)
        k hk)

    pub merge_and : column_chi n a b (merge n m a b f) p x y
        ≡ every (length (firsts n a b f)) (λ c.
        not (eqb (get_or (cover (length (firsts n a b f)) (graph n a b f (firsts n a b f))) c 0)
        (get_or (cover (length (firsts n a b f)) (graph n a b f (firsts n a b f))) (number_in n a b f (firsts n a b f) p) 0))
        || column_chi n a b f (get_or (firsts n a b f) c 0) x y)
    unfolding column_chi
    merge_and =
        same_test (every b line) (every (length ps) member)
        (λ e. every_of member (length ps) (and_to e)) (λ e. every_of line b (and_from e))
