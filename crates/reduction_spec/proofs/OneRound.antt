-- One round of the cover: its clique lies among the columns left, is not empty, any two of its columns are compatible, and each other column
-- left is incompatible with some column of it.
-- Assumes nothing.
use mathlib.Core.Path.{◌≡◌, refl, sym, ◌∙◌, ap, ap₂}
use mathlib.Core.Logic.{◌⊎◌, inl, inr}
use mathlib.Core.Bool.{Bool, true, false, cond, not, ◌&&◌, ◌||◌, false≢true}
use mathlib.Core.List.{List}
use Prim.Native.Nat.{ℕ, zero, suc, ◌+◌, ◌*◌, ◌<◌, ◌≤◌}
use native.Mathlib.Omega.{arith}
use native.Mathlib.Nat.{not-suc-le-zero}
use borrow.Author.Tests.{eq-eqb, eqb-true, eqb-false, ne_eqb}
use lib.Dec.{eqb, ltb}
use lib.ListN.{length, get_or, set, replicate, length-set, length-replicate, get_or-replicate}
use lib.Seq.{get_or-set_same, get_or-set_other}
use Rattle.laws.specs.Tests.{any, count}
use Rattle.laws.specs.Lists.{tab}
use Rattle.laws.specs.Bits.{flag}
use Rattle.laws.proofs.Bits.{flag_is}
use Rattle.laws.proofs.Cases.{cond-each, cond_yes, by_test, by_equal, either, last_or_below, and_split}
use Rattle.laws.proofs.Tests.{any_none}
use Rattle.laws.proofs.Counts.{count_none, count-lt, count-max}
use Rattle.laws.proofs.Lists.{get_or-tab}
use Rattle.reduction_spec.specs.Cover.{is_in, linked, edges, fewer, fewest, staying, candidates, grown, clique}

-- a set given by a test
pub in_tab : (f : ℕ → Bool) (w c : ℕ) → c < w → is_in (tab w (λ d. flag (f d))) c ≡ f c
in_tab f w c h = ap (λ (v : ℕ). eqb v 1) (get_or-tab (λ d. flag (f d)) 0 w c h) ∙ flag_is (f c)

-- the set of all columns and the set of none
pub in_all : (w c : ℕ) → c < w → is_in (replicate w 1) c ≡ true
in_all w c h = ap (λ (v : ℕ). eqb v 1) (get_or-replicate w c 1 0 h)

in_none : (w c : ℕ) → c < w → is_in (replicate w 0) c ≡ true → ⊥
in_none w c h e = false≢true (sym (ap (λ (v : ℕ). eqb v 1) (get_or-replicate w c 0 0 h)) ∙ e)

-- a set with column u put in
module _ (q : List ℕ) (u : ℕ) where
  put_in : u < length q → is_in (set q u 1) u ≡ true
  put_in h = ap (λ (v : ℕ). eqb v 1) (get_or-set_same q u 1 0 h)

  pub put_other : (c : ℕ) → (c ≡ u → ⊥) → is_in (set q u 1) c ≡ is_in q c
  put_other c p = ap (λ (v : ℕ). eqb v 1) (get_or-set_other q u c 1 0 p)

  put_out : (c : ℕ) → is_in (set q u 1) c ≡ true → (c ≡ u) ⊎ (is_in q c ≡ true)
  put_out c e = by_equal c u (λ p. inl p) (λ p. inr (sym (put_other c p) ∙ e))

  put_keeps : (c : ℕ) → u < length q → is_in q c ≡ true → is_in (set q u 1) c ≡ true
  put_keeps c h e = by_equal c u (λ p. ap (is_in (set q u 1)) p ∙ put_in h) (λ p. put_other c p ∙ e)

-- the flag of columns c and d in the graph
abbrev pub Adj : ℕ → List ℕ → ℕ → ℕ → Type 0
Adj w graph c d = is_in graph (c * w + d) ≡ true

-- column d is incompatible with some column of the set q
abbrev pub Apart : ℕ → List ℕ → List ℕ → ℕ → Type 0
Apart w graph q d = (e : ℕ) × (e < w) × (is_in q e ≡ true) × (is_in graph (e * w + d) ≡ false)

-- the clique q of a round that began with the columns left, while s are the candidates
pub record Part (w : ℕ) (graph left s q : List ℕ) : Type 0 where
  pub sized : length q ≡ w
  pub pair : (c d : ℕ) → c < w → d < w → (c ≡ d → ⊥) → is_in q c ≡ true → is_in q d ≡ true → Adj w graph c d ⊎ Adj w graph d c
  pub near : (c d : ℕ) → c < w → d < w → is_in q c ≡ true → is_in s d ≡ true → Adj w graph c d
  pub within : (c : ℕ) → c < w → is_in s c ≡ true → is_in left c ≡ true
  pub inside : (c : ℕ) → c < w → is_in q c ≡ true → is_in left c ≡ true
  pub full : (d : ℕ) → d < w → is_in left d ≡ true → is_in q d ≡ false → is_in s d ≡ false → Apart w graph q d

module _ (w : ℕ) (graph : List ℕ) where
  -- the member with fewest edges is a member; where there is none the set is empty
  pub fewest_in : (es s : List ℕ) (c : ℕ) → (fewest w graph es s c ≡ w → ⊥)
      → (fewest w graph es s c < c) × (is_in s (fewest w graph es s c) ≡ true)
  unfolding fewest
  fewest_in es s zero ne = absurd (ne refl)
  fewest_in es s (suc c) ne = by (is_in s c && better) refl ne (fewest_in es s c)
    where
      b : ℕ
      b = fewest w graph es s c

      better : Bool
      better = fewer w graph es c b

      by : (t : Bool) → (is_in s c && better) ≡ t → (cond t c b ≡ w → ⊥) → ((b ≡ w → ⊥) → (b < c) × (is_in s b ≡ true))
          → (cond t c b < suc c) × (is_in s (cond t c b) ≡ true)
      by true e ne' ih = (omega arith, (and_split (is_in s c) better e).0)
      by false e ne' ih = let r = ih ne' in (omega arith, r.1)

  pub fewest-none : (es s : List ℕ) (c : ℕ) → c ≤ w → fewest w graph es s c ≡ w → (d : ℕ) → d < c → is_in s d ≡ false
  unfolding fewest fewer
  fewest-none es s zero h e d l = absurd (not-suc-le-zero l)
  fewest-none es s (suc c) h e d l = by (is_in s c && better) refl e (λ p q. fewest-none es s c (omega arith) p d q)
    where
      b : ℕ
      b = fewest w graph es s c

      better : Bool
      better = eqb b w || ltb (get_or es c 0) (get_or es b 0)

      last : b ≡ w → (is_in s c && better) ≡ false → is_in s c ≡ false
      last q r =
          by_test (is_in s c)
          (λ p. absurd (false≢true (sym r ∙ ap₂ ◌&&◌ p (ap (λ (v : Bool). v || ltb (get_or es c 0) (get_or es b 0)) (eq-eqb b w q)))))
          (λ p. p)

      by : (t : Bool) → (is_in s c && better) ≡ t → cond t c b ≡ w → (b ≡ w → d < c → is_in s d ≡ false) → is_in s d ≡ false
      by true p q ih = absurd (omega arith)
      by false p q ih = last_or_below d c l (λ k. ap (is_in s) k ∙ last q p) (λ k. ih q k)

  -- the candidates that stay when column u joins
  pub stays : (s : List ℕ) (u d : ℕ) → d < w → is_in (candidates w graph s u) d ≡ (is_in s d && not (eqb u d) && is_in graph (u * w + d))
  unfolding candidates staying linked
  stays s u d h = in_tab (linked w graph s u) w d h

  stays_out : (s : List ℕ) (u d : ℕ) → d < w → is_in (candidates w graph s u) d ≡ true → (is_in s d ≡ true) × Adj w graph u d
  stays_out s u d h e =
      let p = and_split (is_in s d && not (eqb u d)) (is_in graph (u * w + d)) (sym (stays s u d h) ∙ e) in
      ((and_split (is_in s d) (not (eqb u d)) p.0).0, p.1)

  gone : (s : List ℕ) (u d : ℕ) → d < w → (u ≡ d → ⊥) → is_in s d ≡ true → is_in (candidates w graph s u) d ≡ false → is_in graph (u * w + d) ≡ false
  gone s u d h ne m e =
      sym (ap₂ (λ (a b : Bool). a && not b && is_in graph (u * w + d)) m (ne_eqb u d ne)) ∙ sym (stays s u d h) ∙ e

  fewer_stay : (s : List ℕ) (u : ℕ) → u < w → is_in s u ≡ true → count w (is_in (candidates w graph s u)) < count w (is_in s)
  fewer_stay s u h m =
      count-lt (is_in (candidates w graph s u)) (is_in s) w u (λ d l e. (stays_out s u d l e).0) h
      (stays s u u h ∙ ap₂ (λ (a b : Bool). a && not b && is_in graph (u * w + u)) m (eq-eqb u u refl)) m

  -- a candidate joins
  joins : (left s q : List ℕ) (u : ℕ) → u < w → is_in s u ≡ true → Part w graph left s q
      → Part w graph left (candidates w graph s u) (set q u 1)
  joins left s q u h m p =
      record {
        sized = length-set q u 1 ∙ p.sized;
        pair = pair';
        near = near';
        within = λ c l e. p.within c l (stays_out s u c l e).0;
        inside = λ c l e. either (put_out q u c e) (λ a. ap (is_in left) a ∙ p.within u h m) (p.inside c l);
        full = full';
      }
    where
      fits : u < length q
      fits = omega (arith, p.sized)

      pair' : (c d : ℕ) → c < w → d < w → (c ≡ d → ⊥) → is_in (set q u 1) c ≡ true → is_in (set q u 1) d ≡ true → Adj w graph c d ⊎ Adj w graph d c
      pair' c d hc hd ne ec ed =
          either (put_out q u c ec)
          (λ a. either (put_out q u d ed) (λ b. absurd (ne (a ∙ sym b))) (λ b. inr (rw a (p.near d u hd h b m))))
          (λ a. either (put_out q u d ed) (λ b. inl (rw b (p.near c u hc h a m))) (λ b. p.pair c d hc hd ne a b))

      near' : (c d : ℕ) → c < w → d < w → is_in (set q u 1) c ≡ true → is_in (candidates w graph s u) d ≡ true → Adj w graph c d
      near' c d hc hd ec ed =
          let r = stays_out s u d hd ed in
          either (put_out q u c ec) (λ a. rw a r.1) (λ a. p.near c d hc hd a r.0)

      full' : (d : ℕ) → d < w → is_in left d ≡ true → is_in (set q u 1) d ≡ false → is_in (candidates w graph s u) d ≡ false
          → Apart w graph (set q u 1) d
      full' d hd l eq es =
          let ne : u ≡ d → ⊥ = λ a. false≢true (sym eq ∙ ap (is_in (set q u 1)) (sym a) ∙ put_in q u fits) in
          let out : is_in q d ≡ false = sym (put_other q u d (λ a. ne (sym a))) ∙ eq in
          by_test (is_in s d)
          (λ a. (u, h, put_in q u fits, gone s u d hd ne a es))
          (λ a. let r = p.full d hd l out a in (r.0, r.1, put_keeps q u r.0 fits r.2, r.3))

  -- a clique whose candidates are used up, with column v in it
  abbrev pub Whole : List ℕ → ℕ → List ℕ → Type 0
  Whole left v q = (s : List ℕ) × ((c : ℕ) → c < w → is_in s c ≡ false) × Part w graph left s q × (is_in q v ≡ true)

  grown-whole : (left es : List ℕ) (v n : ℕ) (s q : List ℕ) → count w (is_in s) ≤ n → Part w graph left s q → is_in q v ≡ true
      → Whole left v (grown w graph n es s q)
  unfolding grown
  grown-whole left es v zero s q l p m = (s, count_none (is_in s) w l, p, m)
  grown-whole left es v (suc n) s q l p m =
      let u = fewest w graph es s w in
      cond-each (Whole left v) (eqb u w)
      (λ e. (s, fewest-none es s w (omega arith) (eqb-true u w e), p, m))
      (λ e.
      let i = fewest_in es s w (eqb-false u w e) in
      grown-whole left es v n (candidates w graph s u) (set q u 1) (omega (arith, fewer_stay s u i.0 i.1))
      (joins left s q u i.0 i.1 p) (put_keeps q u v (omega (arith, p.sized, i.0)) m))

  no_member : (s : List ℕ) (u : ℕ) → count w (is_in s) ≤ 0 → ((u ≡ w → ⊥) → (u < w) × (is_in s u ≡ true)) → eqb u w ≡ true
  no_member s u l h =
      by_test (eqb u w) (λ t. t)
      (λ t. let i = h (eqb-false u w t) in absurd (false≢true (sym (count_none (is_in s) w l u i.0) ∙ i.1)))

  -- as many joins as there are candidates are enough
  pub grown-enough : (es : List ℕ) (n : ℕ) (s q : List ℕ) → count w (is_in s) ≤ n → grown w graph (suc n) es s q ≡ grown w graph n es s q
  unfolding grown
  grown-enough es zero s q l =
      let u = fewest w graph es s w in
      cond_yes (eqb u w) q _ (no_member s u l (fewest_in es s w))
  grown-enough es (suc n) s q l =
      let u = fewest w graph es s w in
      by_test (eqb u w) (λ t. rw t refl)
      (λ t.
      let i = fewest_in es s w (eqb-false u w t) in
      ap (cond (eqb u w) q) (grown-enough es n (candidates w graph s u) (set q u 1) (omega (arith, fewer_stay s u i.0 i.1))))

  -- the clique of a round, where columns are left
  pub clique-whole : (left : List ℕ) → any w (is_in left) ≡ true → (v : ℕ) × (v < w) × Whole left v (clique w graph left)
  unfolding clique
  clique-whole left e =
      let es = tab w (edges w graph left) in
      let u = fewest w graph es left w in
      let ne : u ≡ w → ⊥ = λ p. false≢true (sym (any_none (is_in left) w (fewest-none es left w (omega arith) p)) ∙ e) in
      let i = fewest_in es left w ne in (
        u,
        i.0,
        grown-whole left es u w (candidates w graph left u) (set (replicate w 0) u 1)
            (count-max (is_in (candidates w graph left u)) w) (joins left left (replicate w 0) u i.0 i.1 start)
            (put_in (replicate w 0) u (omega (arith, i.0, length-replicate {A = ℕ} w 0))),
      )
    where
      start : Part w graph left left (replicate w 0)
      start =
          record {
            sized = length-replicate w 0;
            pair = λ c d hc hd ne ec. absurd (in_none w c hc ec);
            near = λ c d hc hd ec. absurd (in_none w c hc ec);
            within = λ c h e. e;
            inside = λ c h e. absurd (in_none w c h e);
            full = λ d h l q s. absurd (false≢true (sym s ∙ l));
          }
