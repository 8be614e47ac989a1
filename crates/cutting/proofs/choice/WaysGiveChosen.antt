-- The chosen list follows the best ways from t to 0; there is none, and refusal 8, where t has no way.
-- Assumes nothing.
use mathlib.Core.Path.{◌≡◌, refl, sym, ◌∙◌, ap}
use mathlib.Core.Logic.{◌⊎◌, inl, inr}
use mathlib.Core.Bool.{Bool, true, false, cond, ◌&&◌, true≢false}
use mathlib.Core.List.{List, [], ◌∷◌, Memᴰ}
use Prim.Native.Nat.{ℕ, zero, suc, ◌+◌, ◌-◌, ◌^◌, ◌<◌, ◌≤◌}
use native.Mathlib.Omega.{arith}
use lib.Dec.{eqb, ltb}
use lib.ListN.{length, get_or}
use borrow.Author.Tests.{ltb-true, ltb-false, lt-ltb, ne_eqb}
use Rattle.laws.proofs.Cases.{by_less, either, and_split, and_join, no_test}
use Rattle.sheet_spec.specs.Job.{Job, t, ins, outs}
use Rattle.sheet_spec.specs.Refusals.{not_each_once}
use Rattle.stored_spec.specs.Cells.{fits, bits, all_fit, bit_total}
use Rattle.cutting_spec.specs.Cuts.{CutList, bottom, next, cut_lists, cell_inputs, cell_outputs, cell_between, cells_of}
use Rattle.stored_spec.specs.Rails.{rails_at}
use Rattle.cutting_spec.specs.Choice.{longer, admissible, better, is_none, chosen, refuse8}
use Rattle.cutting.specs.Ways.{Way, no_way, through, goes, falling, job_way, list_cell, list_way}
use Rattle.sheet_spec.proofs.Promises.{ins-outs}
use Rattle.cutting_spec.proofs.RowLimit.{cells-next, admissible-fits}
use Rattle.cutting_spec.proofs.CutLists.{member_of, of_falls}
use Rattle.cutting_spec.proofs.Better.{first, first_less, first-same, first_more, first_no, cells_in, bits_in, better_is, better_itself, better_total, longer-next, best_of}
use Rattle.cutting_spec.proofs.ChosenCuts.{cuts-none}
use Rattle.cutting.proofs.choice.BestWays.{way_bottom, way_least, way_same, way_cuts, way_falls, Blocked, Least}

-- k not before f, and f not before g, in cells, bits and next cuts: then k not before g; q and p are the bits of the first cells
not_before : (ak af ag bk bf bg p q f g : ℕ) (x y : Bool) → first ak af (first bk bf x) ≡ false
    → first (af + 1 + 1) (ag + 1 + 1) (first (p + bf) (q + bg) (ltb f g)) ≡ false → (f ≡ g → x ≡ false → y ≡ false)
    → first ak ag (first (p + bk) (q + bg) (first f g y)) ≡ false
not_before ak af ag bk bf bg p q f g x y s r e =
    first_no (af + 1 + 1) (ag + 1 + 1) (first (p + bf) (q + bg) (ltb f g)) r
    (λ a. first_no ak af (first bk bf x) s (λ b. first_more ak ag z (omega arith)) (λ b c. first_more ak ag z (omega arith)))
    (λ a r'.
    first_no ak af (first bk bf x) s (λ b. first_more ak ag z (omega arith))
    (λ b s'.
    first-same ak ag z (omega arith)
    ∙ first_no (p + bf) (q + bg) (ltb f g) r'
    (λ c. first_no bk bf x s' (λ d. first_more (p + bk) (q + bg) w (omega arith)) (λ d i. first_more (p + bk) (q + bg) w (omega arith)))
    (λ c r''.
    first_no bk bf x s' (λ d. first_more (p + bk) (q + bg) w (omega arith))
    (λ d i. first-same (p + bk) (q + bg) w (omega arith) ∙ last r'' i))))
  where
    w : Bool
    w = first f g y

    z : Bool
    z = first (p + bk) (q + bg) w

    last : ltb f g ≡ false → x ≡ false → first f g y ≡ false
    last n i = by_less g f (λ a. first_more f g y a) (λ a. let b = ltb-false f g n in let c : f ≡ g = omega arith in first-same f g y c ∙ e c i)

first-suc : (a b : ℕ) (x : Bool) → first (suc a) (suc b) x ≡ first a b x
first-suc a b x =
    by_less a b (λ l. first_less (suc a) (suc b) x (omega arith) ∙ sym (first_less a b x l))
    (λ l.
    by_less b a (λ k. first_more (suc a) (suc b) x (omega arith) ∙ sym (first_more a b x k))
    (λ k. first-same (suc a) (suc b) x (omega arith) ∙ sym (first-same a b x (omega arith))))

first-both : {a b c d a' b' c' d' : ℕ} (x : Bool) → a ≡ a' → b ≡ b' → c ≡ c' → d ≡ d' → first a b (first c d x) ≡ first a' b' (first c' d' x)
first-both x p q r s = rw (p, q, r, s)

-- a falling list from above 0 goes on
falls_on : {h : ℕ} {l : List ℕ} → CutList h l → 0 < h → (g : ℕ) × (k : List ℕ) × (g < h) × CutList g k × (l ≡ h ∷ k)
falls_on bottom p = absurd (omega arith)
falls_on (next {g = g} {l = k} q c) p = (g, k, q, c, refl)

-- next cuts that agree at the heights to m
falling-same : (f g : ℕ → ℕ) (m : ℕ) → ((h : ℕ) → h ≤ m → f h ≡ g h) → ((h : ℕ) → h ≤ m → f h ≤ m) → (n h : ℕ) → h ≤ m
    → falling f n h ≡ falling g n h
unfolding falling
falling-same f g m same low zero h p = refl
falling-same f g m same low (suc n) h p =
    ap (λ (l : List ℕ). cond (eqb h 0) (h ∷ []) (h ∷ l)) (falling-same f g m same low n (f h) (low h p) ∙ ap (λ (i : ℕ). falling g n i) (same h p))

module _ (j : Job) (ws : List ℕ) where
  abbrev next_cut : ℕ → ℕ
  next_cut h = (job_way j ws h).next

  abbrev pub all_in : List ℕ → Bool
  all_in l = all_fit j.K j.L (cells_of j ws l)

  -- no list from h has cells that all fit
  pub record Nothing (h : ℕ) (w : Way) : Type 0 where
    pub none : w ≡ no_way
    pub all : (l : List ℕ) → CutList h l → all_in l ≡ false

  -- l is the best list from h, and w has its cells and bits
  pub record Following (h : ℕ) (l : List ℕ) (w : Way) : Type 0 where
    pub falls : CutList h l
    pub fit : all_in l ≡ true
    pub cells : cells_in j ws l + 1 ≡ w.cuts
    pub bits : bits_in j ws l ≡ w.bits
    pub best : (k : List ℕ) → CutList h k → all_in k ≡ true → better j ws k l ≡ false

  -- one cell more
  all-next : (h : ℕ) {g : ℕ} {l : List ℕ} → CutList g l → all_in (h ∷ l) ≡ (fits j.K j.L (cell_between j ws h g) && all_in l)
  unfolding all_fit
  all-next h c = rw (cells-next j ws h c)

  cells_more : (h : ℕ) {g : ℕ} {l : List ℕ} → CutList g l → cells_in j ws (h ∷ l) ≡ suc (cells_in j ws l)
  cells_more h c = rw (cells-next j ws h c)

  bits_more : (h : ℕ) {g : ℕ} {l : List ℕ} → CutList g l → bits_in j ws (h ∷ l) ≡ bits (cell_between j ws h g) + bits_in j ws l
  unfolding bit_total
  bits_more h c = rw (cells-next j ws h c)

  -- of lists from h, the cells and bits from the next cuts on, then the next cuts, then the lists from these
  pub better-next : (h : ℕ) {f g : ℕ} {k l : List ℕ} → f < h → g < h → CutList f k → CutList g l
      → better j ws (h ∷ k) (h ∷ l)
      ≡ first (cells_in j ws k) (cells_in j ws l)
      (first (bits (cell_between j ws h f) + bits_in j ws k) (bits (cell_between j ws h g) + bits_in j ws l) (first f g (longer k l)))
  better-next h {f} {g} {k} {l} p q c d =
      better_is j ws (h ∷ k) (h ∷ l) ∙ rw (cells_more h c, cells_more h d, bits_more h c, bits_more h d, longer-next h p q c d)
      (first-suc (cells_in j ws k) (cells_in j ws l)
      (first (bits (cell_between j ws h f) + bits_in j ws k) (bits (cell_between j ws h g) + bits_in j ws l) (first f g (longer k l))))

  at_bottom : Following 0 (0 ∷ []) (job_way j ws 0)
  unfolding job_way all_fit cells_of bit_total
  at_bottom =
      record {
        falls = bottom;
        fit = refl;
        cells = sym (ap (λ (w : Way). w.cuts) (way_bottom (cell_between j ws) j.K j.L));
        bits = sym (ap (λ (w : Way). w.bits) (way_bottom (cell_between j ws) j.K j.L));
        best = λ k c a. alone k c;
      }
    where
      only : {h : ℕ} {l : List ℕ} → CutList h l → h ≡ 0 → l ≡ 0 ∷ []
      only bottom e = refl
      only (next p c) e = absurd (omega arith)

      alone : (k : List ℕ) → CutList 0 k → better j ws k (0 ∷ []) ≡ false
      alone k c = ap (λ (x : List ℕ). better j ws x (0 ∷ [])) (only c refl) ∙ better_itself j ws (0 ∷ [])

  module _ (h n : ℕ) (le : h ≤ n) (lower : (g : ℕ) → g ≤ n → Nothing g (job_way j ws g) ⊎ Following g (falling next_cut n g) (job_way j ws g)) where
    -- where a list goes on at g and fits, the way from g is the best
    lower_at : (g : ℕ) (k : List ℕ) → g < suc h → CutList g k → all_in (suc h ∷ k) ≡ true
        → (all_in k ≡ true) × (goes j.K j.L (cell_between j ws (suc h) g) (job_way j ws g) ≡ true)
        × Following g (falling next_cut n g) (job_way j ws g)
    unfolding goes
    lower_at g k p c a =
        let (own, rest) = and_split (fits j.K j.L (cell_between j ws (suc h) g)) (all_in k) (sym (all-next (suc h) c) ∙ a) in
        either (lower g (omega arith)) (λ s. absurd (true≢false (sym rest ∙ s.all k c)))
        (λ s. let e = s.cells in (rest, and_join own (lt-ltb 0 (job_way j ws g).cuts (omega arith)), s))

    blocked : Blocked (cell_between j ws) j.K j.L (job_way j ws) (suc h) (suc h) (job_way j ws (suc h)) → Nothing (suc h) (job_way j ws (suc h))
    blocked (z, b) =
        record {
          none = z;
          all = λ l c.
              let (g, k, p, d, e) = falls_on c (omega arith) in
              ap all_in e ∙ no_test (all_in (suc h ∷ k)) (λ a. absurd (true≢false (sym (lower_at g k p d a).1 ∙ b g p)));
        }

    open_way : Least (cell_between j ws) j.K j.L (job_way j ws) (suc h) (suc h) (job_way j ws (suc h))
        → Following (suc h) (suc h ∷ falling next_cut n (next_cut (suc h))) (job_way j ws (suc h))
    unfolding goes through
    open_way s =
        let g = next_cut (suc h) in
        let p : g < suc h = s.below in
        let (own, some) = and_split (fits j.K j.L (cell_between j ws (suc h) g)) (ltb 0 (job_way j ws g).cuts) s.open_there in
        let cuts : (job_way j ws (suc h)).cuts ≡ (job_way j ws g).cuts + 1 = ap (λ (w : Way). w.cuts) s.is in
        let total : (job_way j ws (suc h)).bits ≡ bits (cell_between j ws (suc h) g) + (job_way j ws g).bits = ap (λ (w : Way). w.bits) s.is in
        either (lower g (omega arith))
        (λ b.
        let z = ltb-true 0 (job_way j ws g).cuts some in
        let y = ap (λ (w : Way). w.cuts) b.none in
        absurd (omega arith))
        (λ b.
        record {
          falls = next p b.falls;
          fit = all-next (suc h) b.falls ∙ and_join own b.fit;
          cells = let i = cells_more (suc h) b.falls in let e = b.cells in omega arith;
          bits = bits_more (suc h) b.falls ∙ ap (λ (i : ℕ). bits (cell_between j ws (suc h) g) + i) b.bits ∙ sym total;
          best = λ k c a.
              let (f, k', q, d, e) = falls_on c (omega arith) in
              let (rest, o, b') = lower_at f k' q d (sym (ap all_in e) ∙ a) in
              let lf = falling next_cut n f in
              let lg = falling next_cut n g in
              let r : first (cells_in j ws lf + 1 + 1) (cells_in j ws lg + 1 + 1)
              (first (bits (cell_between j ws (suc h) f) + bits_in j ws lf) (bits (cell_between j ws (suc h) g) + bits_in j ws lg) (ltb f g)) ≡ false =
              first-both (ltb f g) (ap (λ (i : ℕ). i + 1) b'.cells) (ap (λ (i : ℕ). i + 1) b.cells ∙ sym cuts)
              (ap (λ (i : ℕ). bits (cell_between j ws (suc h) f) + i) b'.bits)
              (ap (λ (i : ℕ). bits (cell_between j ws (suc h) g) + i) b.bits ∙ sym total)
              ∙ s.least f q o in
              ap (λ (x : List ℕ). better j ws x (suc h ∷ lg)) e ∙ better-next (suc h) q p d b.falls
              ∙ not_before (cells_in j ws k') (cells_in j ws lf) (cells_in j ws lg) (bits_in j ws k') (bits_in j ws lf) (bits_in j ws lg)
              (bits (cell_between j ws (suc h) f)) (bits (cell_between j ws (suc h) g)) f g (longer k' lf) (longer k' lg)
              (sym (better_is j ws k' lf) ∙ b'.best k' d rest) r (λ u v. ap (λ (i : ℕ). longer k' (falling next_cut n i)) (sym u) ∙ v);
        })

  -- from every height there is no list that fits, or the ways lead along the best
  pub ways_lead : (n h : ℕ) → h ≤ n → Nothing h (job_way j ws h) ⊎ Following h (falling next_cut n h) (job_way j ws h)
  unfolding falling job_way
  ways_lead zero h le = let e : h ≡ 0 = omega arith in rw e (inr at_bottom)
  ways_lead (suc n) zero le = inr at_bottom
  ways_lead (suc n) (suc h) le =
      rw (ne_eqb (suc h) 0 (λ z. omega arith))
      (either (way_least (cell_between j ws) j.K j.L h) (λ b. inl (blocked h n (omega arith) (ways_lead n) b))
      (λ b. inr (open_way h n (omega arith) (ways_lead n) b)))

-- the chosen list of a job
module _ (j : Job) (ws : List ℕ) (once : not_each_once j.n j.m j.order ≡ false) (few : j.n ≤ 12) (out : j.m ≤ 8)
    (slim : (h : ℕ) → h ≤ t j → get_or ws h 0 ≤ 512)
    (narrow : (h : ℕ) → h ≤ t j → get_or ws h 0 ≤ 2 ^ (j.n - ins j h)) where
  abbrev top : Way
  top = job_way j ws (t j)

  abbrev led : List ℕ
  led = falling (λ h. (job_way j ws h).next) (t j) (t j)

  some_list : (l : List ℕ) → Memᴰ l (cut_lists (t j)) → is_none j ws l ≡ false
  some_list l m = cuts-none j ws (of_falls (t j) l m)

  admitted : (l : List ℕ) → CutList (t j) l → admissible j ws l ≡ all_in j ws l
  admitted = admissible-fits j ws once few out slim narrow

  chosen_is : ((top ≡ no_way) × (chosen j ws ≡ [])) ⊎ ((chosen j ws ≡ led) × Following j ws (t j) led top)
  unfolding chosen
  chosen_is =
      let picked = best_of j ws (cut_lists (t j)) some_list in
      either (ways_lead j ws (t j) (t j) (omega arith))
      (λ n.
      either picked (λ u. inl (n.none, u.0))
      (λ p.
      let c = of_falls (t j) (chosen j ws) p.among in
      absurd (true≢false (sym p.good ∙ admitted (chosen j ws) c ∙ n.all (chosen j ws) c))))
      (λ f.
      let good : admissible j ws led ≡ true = admitted led f.falls ∙ f.fit in
      either picked (λ u. absurd (true≢false (sym good ∙ u.1 led (member_of f.falls))))
      (λ p.
      let c = of_falls (t j) (chosen j ws) p.among in
      inr (
        better_total j ws c f.falls (f.best (chosen j ws) c (sym (admitted (chosen j ws) c) ∙ p.good))
            (p.none-better led (member_of f.falls) good),
        f,
      )))

  -- no way: no list
  pub chosen_none : (job_way j ws (t j)).cuts ≡ 0 → chosen j ws ≡ []
  chosen_none z = either chosen_is (λ n. n.1) (λ f. let e = f.1.cells in absurd (omega arith))

  -- a way: the list that follows it
  pub chosen_way : 0 < (job_way j ws (t j)).cuts → chosen j ws ≡ falling (λ h. (job_way j ws h).next) (t j) (t j)
  chosen_way p = either chosen_is (λ n. let e = ap (λ (w : Way). w.cuts) n.0 in absurd (omega arith)) (λ f. f.0)

  pub chosen-cells : length (cells_of j ws (chosen j ws)) ≡ (job_way j ws (t j)).cuts - 1
  unfolding cells_of
  chosen-cells =
      either chosen_is (λ n. rw (n.1, n.0))
      (λ f. let e = f.1.cells in ap (cells_in j ws) f.0 ∙ omega arith)

  pub chosen-bits : bit_total (cells_of j ws (chosen j ws)) ≡ (job_way j ws (t j)).bits
  unfolding cells_of bit_total
  chosen-bits = either chosen_is (λ n. rw (n.1, n.0)) (λ f. ap (bits_in j ws) f.0 ∙ f.1.bits)

  pub refuse8_is : refuse8 j ws ≡ eqb (job_way j ws (t j)).cuts 0
  unfolding refuse8 is_none
  refuse8_is =
      either chosen_is (λ n. rw (n.1, n.0))
      (λ f.
      let e = f.1.cells in
      ap (is_none j ws) f.0 ∙ some_list led (member_of f.1.falls) ∙ sym (ne_eqb (job_way j ws (t j)).cuts 0 (λ z. omega arith)))

  -- where there are variables: no way, no cells
  pub refuse8-cells : 1 ≤ t j → refuse8 j ws ≡ eqb ((job_way j ws (t j)).cuts - 1) 0
  unfolding job_way
  refuse8-cells p =
      refuse8_is
      ∙ either (way_cuts (cell_between j ws) j.K j.L (t j) p) (λ e. rw e)
      (λ e.
      ne_eqb (job_way j ws (t j)).cuts 0 (λ z. omega arith)
      ∙ sym (ne_eqb ((job_way j ws (t j)).cuts - 1) 0 (λ z. omega arith)))

  -- next cuts that stand in a list
  pub chosen-next : (nx : List ℕ) → ((h : ℕ) → h ≤ t j → get_or nx h 0 ≡ (job_way j ws h).next) → 0 < (job_way j ws (t j)).cuts
      → chosen j ws ≡ falling (λ h. get_or nx h 0) (t j) (t j)
  unfolding job_way
  chosen-next nx e p =
      chosen_way p
      ∙ falling-same (λ h. (job_way j ws h).next) (λ h. get_or nx h 0) (t j) (λ h q. sym (e h q))
      (λ h q. let r = way_falls (cell_between j ws) j.K j.L h in omega arith) (t j) (t j) (omega arith)

-- the ways of a job by its rails and inputs at the heights 0 to t
module _ (j : Job) (ws rs is : List ℕ) (rails_are : (h : ℕ) → h ≤ t j → get_or rs h 0 ≡ rails_at j ws h)
    (inputs_are : (h : ℕ) → h ≤ t j → get_or is h 0 ≡ ins j h) where
  pub cell_same : (h g : ℕ) → h ≤ t j → g < h → list_cell rs is h g ≡ cell_between j ws h g
  unfolding list_cell cell_between cell_inputs cell_outputs
  cell_same h g p q =
      let l : g ≤ t j = omega arith in
      let a : h - ins j h ≡ outs j h = omega (arith, ins-outs j h) in
      let b : g - ins j g ≡ outs j g = omega (arith, ins-outs j g) in
      rw (rails_are h p, rails_are g l, inputs_are h p, inputs_are g l, a, b)

  pub way_list : (h : ℕ) → h ≤ t j → list_way j.K j.L rs is h ≡ job_way j ws h
  unfolding list_way job_way
  way_list h p = way_same (list_cell rs is) (cell_between j ws) j.K j.L (t j) cell_same h p
