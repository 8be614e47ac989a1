-- Laws of the best ways: the way from a height by those from the lower ones, what it is the least of, and equal cells, equal ways.
-- Assumes nothing.
use mathlib.Core.Path.{◌≡◌, refl, sym, ◌∙◌, ap, ap₂}
use mathlib.Core.Logic.{◌⊎◌, inl, inr}
use mathlib.Core.Bool.{Bool, true, false, true≢false}
use mathlib.Core.List.{[]}
use Prim.Native.Nat.{ℕ, zero, suc, ◌+◌, ◌*◌, ◌<◌, ◌≤◌}
use native.Mathlib.Numerals.{add-one}
use native.Mathlib.Omega.{arith}
use lib.Dec.{ltb}
use lib.ListN.{length, get_or, length-append, get_or-append}
use lib.Seq.{get_or_at}
use borrow.Author.Tests.{ltb-true, ltb-false, le-ltb, ne_eqb}
use Rattle.laws.proofs.Cases.{by_test, by_less, either, last_or_below, and_split}
use Rattle.sheet_spec.specs.Limits.{largest_inputs, largest_outputs}
use Rattle.stored_spec.specs.declared.Cell.{Cell}
use Rattle.stored_spec.specs.Cells.{fits, bits}
use Rattle.cutting.specs.Ways.{Way, no_way, bottom_way, fewer, through, goes, with_cut_at, way_below, ways, way_from}
use Rattle.stored_spec.proofs.Promises.{fits_largest, usable_bits_lem, bits_small}
use Rattle.cutting_spec.proofs.Better.{first, first-same, first_more, first_yes, first_no}

-- u = (a, c) comes before v = (b, d), and (e, f) not before v: then not before u
before_both : (a b c d e f : ℕ) (x y : Bool) → first a b (ltb c d) ≡ true → first e b (first f d x) ≡ false → first e a (first f c y) ≡ false
before_both a b c d e f x y p q =
    first_yes a b (ltb c d) p
    (λ l. first_no e b (first f d x) q (λ k. first_more e a (first f c y) (omega arith)) (λ k s. first_more e a (first f c y) (omega arith)))
    (λ l r.
    let less = ltb-true c d r in
    first_no e b (first f d x) q (λ k. first_more e a (first f c y) (omega arith))
    (λ k s.
    first-same e a (first f c y) (omega arith)
    ∙ first_no f d x s (λ i. first_more f c y (omega arith)) (λ i z. first_more f c y (omega arith))))

-- u not before v in these two, and x does not decide
before_neither : (a b c d : ℕ) (x : Bool) → first a b (ltb c d) ≡ false → x ≡ false → first a b (first c d x) ≡ false
before_neither a b c d x p e =
    first_no a b (ltb c d) p (λ l. first_more a b (first c d x) l)
    (λ l r.
    let most = ltb-false c d r in
    first-same a b (first c d x) l ∙ by_less d c (λ k. first_more c d x k) (λ k. first-same c d x (omega arith) ∙ e))

module _ (C : ℕ → ℕ → Cell) (k l : ℕ) where
  -- the ways by the ways from lower heights
  ways-length : (h : ℕ) → length (ways C k l h) ≡ suc h
  unfolding ways
  ways-length zero = refl
  ways-length (suc h) = length-append (ways C k l h) _ ∙ ap (λ (i : ℕ). i + 1) (ways-length h) ∙ add-one (suc h)

  pub ways_at : (h g : ℕ) → g ≤ h → get_or (ways C k l h) g no_way ≡ way_from C k l g
  unfolding ways way_from
  ways_at zero g le = let e : g ≡ 0 = omega arith in rw e
  ways_at (suc h) g le =
      last_or_below g (suc h) (omega arith) (λ e. rw e)
      (λ p. get_or-append (ways C k l h) _ no_way g (omega (arith, ways-length h)) ∙ ways_at h g (omega arith))

  pub below_ext : (F G : ℕ → Way) (h n : ℕ) → ((g : ℕ) → g < n → F g ≡ G g) → way_below C k l F h n ≡ way_below C k l G h n
  unfolding way_below
  below_ext F G h zero e = refl
  below_ext F G h (suc n) e =
      ap₂ (λ (w v : Way). with_cut_at k l (C h n) n w v) (e n (omega arith)) (below_ext F G h n (λ g p. e g (omega arith)))

  pub way_bottom : way_from C k l 0 ≡ bottom_way
  unfolding ways way_from
  way_bottom = refl

  pub way_next : (h : ℕ) → way_from C k l (suc h) ≡ way_below C k l (way_from C k l) (suc h) (suc h)
  unfolding ways way_from
  way_next h =
      get_or_at (ways C k l h) _ [] no_way (suc h) (ways-length h)
      ∙ below_ext (λ g. get_or (ways C k l h) g no_way) (way_from C k l) (suc h) (suc h) (λ g p. ways_at h g (omega arith))

  -- one more cut to go through
  pub below_next : (F : ℕ → Way) (h g : ℕ) → way_below C k l F h (g + 1) ≡ with_cut_at k l (C h g) g (F g) (way_below C k l F h g)
  unfolding way_below
  below_next F h g = rw add-one refl

  -- no way goes through a cut below n
  abbrev pub Blocked : (ℕ → Way) → ℕ → ℕ → Way → Type 0
  Blocked F h n v = (v ≡ no_way) × ((g : ℕ) → g < n → goes k l (C h g) (F g) ≡ false)

  -- v goes through a cut below n, and no way through another has fewer cells, or as many and fewer bits, or as many and a lower next cut
  pub record Least (F : ℕ → Way) (h n : ℕ) (v : Way) : Type 0 where
    pub below : v.next < n
    pub is : v ≡ through (C h v.next) v.next (F v.next)
    pub open_there : goes k l (C h v.next) (F v.next) ≡ true
    pub least : (g : ℕ) → g < n → goes k l (C h g) (F g) ≡ true
        → first ((F g).cuts + 1) v.cuts (first (bits (C h g) + (F g).bits) v.bits (ltb g v.next)) ≡ false

  module _ (F : ℕ → Way) (h n : ℕ) (v : Way) where
    kept : goes k l (C h n) (F n) ≡ false → Blocked F h n v ⊎ Least F h n v → Blocked F h (suc n) v ⊎ Least F h (suc n) v
    kept e (inl (z, b)) = inl (z, (λ g p. last_or_below g n p (λ q. ap (λ (i : ℕ). goes k l (C h i) (F i)) q ∙ e) (λ q. b g q)))
    kept e (inr s) =
        inr
        (record {
          below = let p = s.below in omega arith;
          is = s.is;
          open_there = s.open_there;
          least = λ g p o.
              last_or_below g n p (λ q. absurd (true≢false (sym o ∙ ap (λ (i : ℕ). goes k l (C h i) (F i)) q ∙ e))) (λ q. s.least g q o);
        })

    -- the way through n is the least where each one before is not before it
    replaced : goes k l (C h n) (F n) ≡ true
        → ((g : ℕ) → g < n → goes k l (C h g) (F g) ≡ true
        → first ((F g).cuts + 1) ((F n).cuts + 1) (first (bits (C h g) + (F g).bits) (bits (C h n) + (F n).bits) (ltb g n)) ≡ false)
        → Least F h (suc n) (through (C h n) n (F n))
    unfolding through
    replaced o b =
        record {
          below = omega arith;
          is = refl;
          open_there = o;
          least = λ g p a.
              last_or_below g n p
              (λ q.
              rw q
              (first-same ((F n).cuts + 1) ((F n).cuts + 1) (first (bits (C h n) + (F n).bits) (bits (C h n) + (F n).bits) (ltb n n)) refl
              ∙ first-same (bits (C h n) + (F n).bits) (bits (C h n) + (F n).bits) (ltb n n) refl ∙ le-ltb n n (omega arith)))
              (λ q. b g q a);
        }

    abbrev here : Bool
    here = first ((F n).cuts + 1) v.cuts (ltb (bits (C h n) + (F n).bits) v.bits)

    none_there : Blocked F h n v → fewer (through (C h n) n (F n)) v ≡ true
    unfolding fewer
    none_there (z, b) = rw z

    some_there : Least F h n v → fewer (through (C h n) n (F n)) v ≡ here
    unfolding fewer through
    some_there s =
        let e : v.cuts ≡ (F v.next).cuts + 1 = ap (λ (w : Way). w.cuts) s.is in
        rw (ne_eqb v.cuts 0 (λ z. omega arith))

    pub least-next : Blocked F h n v ⊎ Least F h n v
        → Blocked F h (suc n) (with_cut_at k l (C h n) n (F n) v) ⊎ Least F h (suc n) (with_cut_at k l (C h n) n (F n) v)
    unfolding with_cut_at
    least-next s =
        by_test (goes k l (C h n) (F n))
        (λ o.
        rw o
        (either s (λ b. rw (none_there b) (inr (replaced o (λ g p a. absurd (true≢false (sym a ∙ b.1 g p))))))
        (λ b.
        by_test here
        (λ e.
        rw (some_there b, e)
        (inr (replaced o
        (λ g p a.
        before_both ((F n).cuts + 1) v.cuts (bits (C h n) + (F n).bits) v.bits
        ((F g).cuts + 1) (bits (C h g) + (F g).bits) (ltb g v.next) (ltb g n)
        e (b.least g p a)))))
        (λ e.
        rw (some_there b, e)
        (inr (record {
          below = let p = b.below in omega arith;
          is = b.is;
          open_there = b.open_there;
          least = λ g p a.
              last_or_below g n p
              (λ q.
              rw q
              (before_neither ((F n).cuts + 1) v.cuts (bits (C h n) + (F n).bits) v.bits (ltb n v.next) e
              (le-ltb n v.next (let r = b.below in omega arith))))
              (λ q. b.least g q a);
        }))))))
        (λ o. rw o (kept o s))

  -- the best way from h with its next cut below n
  pub below_least : (F : ℕ → Way) (h n : ℕ) → Blocked F h n (way_below C k l F h n) ⊎ Least F h n (way_below C k l F h n)
  unfolding way_below
  below_least F h zero = inl (refl, (λ g p. absurd (omega arith)))
  below_least F h (suc n) = least-next F h n (way_below C k l F h n) (below_least F h n)

  pub way_least : (h : ℕ)
      → Blocked (way_from C k l) (suc h) (suc h) (way_from C k l (suc h)) ⊎ Least (way_from C k l) (suc h) (suc h) (way_from C k l (suc h))
  way_least h = rw (way_next h) (below_least (way_from C k l) (suc h) (suc h))

-- equal cells at the heights to t, equal ways
module _ (C D : ℕ → ℕ → Cell) (k l t : ℕ) (same : (h g : ℕ) → h ≤ t → g < h → C h g ≡ D h g) where
  below_same : (F : ℕ → Way) (h n : ℕ) → h ≤ t → n ≤ h → way_below C k l F h n ≡ way_below D k l F h n
  unfolding way_below with_cut_at goes through
  below_same F h zero p q = refl
  below_same F h (suc n) p q = rw (same h n p (omega arith), below_same F h n p (omega arith))

  ways-same : (h : ℕ) → h ≤ t → ways C k l h ≡ ways D k l h
  unfolding ways
  ways-same zero p = refl
  ways-same (suc h) p =
      let e = ways-same h (omega arith) in
      rw (e, below_same (λ g. get_or (ways D k l h) g no_way) (suc h) (suc h) p (omega arith))

  pub way_same : (h : ℕ) → h ≤ t → way_from C k l h ≡ way_from D k l h
  unfolding way_from
  way_same h p = rw (ways-same h p)

-- cells not larger than the largest: few cuts, few bits
module _ (C : ℕ → ℕ → Cell) (k l : ℕ) (ins : k ≤ largest_inputs) (outs : l ≤ largest_outputs) where
  few_bits : (c : Cell) → fits k l c ≡ true → bits c ≤ 65536
  few_bits c e = omega (arith, usable_bits_lem c (fits_largest k l c ins outs e), bits_small c)

  pub record Small (h : ℕ) (w : Way) : Type 0 where
    pub cuts : w.cuts ≤ h + 1
    pub bits : w.bits ≤ h * 65536
    pub next : w.next ≤ h

  small-next : (h : ℕ) → ((g : ℕ) → g < suc h → Small g (way_from C k l g)) → Small (suc h) (way_from C k l (suc h))
  unfolding goes through
  small-next h low =
      either (way_least C k l h) (λ b. rw b.0 (record { cuts = omega arith; bits = omega arith; next = omega arith }))
      (λ b.
      let v = way_from C k l (suc h) in
      let g = v.next in
      let p : g < suc h = b.below in
      let s = low g p in
      let c : v.cuts ≡ (way_from C k l g).cuts + 1 = ap (λ (w : Way). w.cuts) b.is in
      let d : v.bits ≡ bits (C (suc h) g) + (way_from C k l g).bits = ap (λ (w : Way). w.bits) b.is in
      let e = few_bits (C (suc h) g) (and_split (fits k l (C (suc h) g)) (ltb 0 (way_from C k l g).cuts) b.open_there).0 in
      let few = s.cuts in
      let low = s.bits in
      record { cuts = omega arith; bits = omega arith; next = omega arith })

  small_at : (h : ℕ) → ((g : ℕ) → g < h → Small g (way_from C k l g)) → Small h (way_from C k l h)
  small_at zero low = rw (way_bottom C k l) (record { cuts = omega arith; bits = omega arith; next = omega arith })
  small_at (suc h) low = small-next h low

  way_small_to : (n h : ℕ) → h ≤ n → Small h (way_from C k l h)
  way_small_to zero h le = small_at h (λ g p. absurd (omega arith))
  way_small_to (suc n) h le = small_at h (λ g p. way_small_to n g (omega arith))

  pub way_small : (h : ℕ) → Small h (way_from C k l h)
  way_small h = way_small_to h h (omega arith)

-- from above 0 a way has a cell
pub way_cuts : (C : ℕ → ℕ → Cell) (k l h : ℕ) → 1 ≤ h → ((way_from C k l h).cuts ≡ 0) ⊎ (2 ≤ (way_from C k l h).cuts)
unfolding goes through
way_cuts C k l zero p = absurd (omega arith)
way_cuts C k l (suc h) p =
    either (way_least C k l h) (λ b. inl (ap (λ (w : Way). w.cuts) b.0))
    (λ b.
    let v = way_from C k l (suc h) in
    let c : v.cuts ≡ (way_from C k l v.next).cuts + 1 = ap (λ (w : Way). w.cuts) b.is in
    let d = ltb-true 0 (way_from C k l v.next).cuts (and_split (fits k l (C (suc h) v.next)) _ b.open_there).1 in
    inr (omega arith))

-- the next cut is no higher
pub way_falls : (C : ℕ → ℕ → Cell) (k l h : ℕ) → (way_from C k l h).next ≤ h
way_falls C k l zero = rw (way_bottom C k l) (omega arith)
way_falls C k l (suc h) =
    either (way_least C k l h) (λ b. rw b.0 (omega arith)) (λ b. let p = b.below in omega arith)
