-- The cover by cliques: the columns of one clique are pairwise compatible, a column that leaves in a later round is incompatible with some
-- column of each earlier clique, and the cliques' numbers are below w and leave no gaps.
-- Assumes nothing.
use mathlib.Core.Path.{◌≡◌, sym, ◌∙◌, ap₂}
use mathlib.Core.Logic.{◌⊎◌}
use mathlib.Core.Bool.{Bool, true, false, cond, not, ◌&&◌, false≢true}
use mathlib.Core.List.{List}
use Prim.Native.Nat.{ℕ, zero, suc, ◌+◌, ◌*◌, ◌<◌, ◌≤◌}
use native.Mathlib.Omega.{arith}
use lib.ListN.{length, get_or, replicate, length-replicate}
use Rattle.laws.specs.Tests.{any, count}
use Rattle.laws.proofs.Cases.{cond-each, by_test, by_less, either, cond_both, cond_yes, cond_no, and_split, no_test}
use Rattle.laws.proofs.Tests.{any_out}
use Rattle.laws.proofs.Counts.{count_none, count-lt, count-max}
use Rattle.laws.proofs.Lists.{get_or-tab, length-tab}
use Rattle.reduction_spec.specs.Cover.{is_in, clique, leave, owned, rounds, cover}
use Rattle.reduction_spec.proofs.OneRound.{in_tab, in_all, Adj, Part, clique-whole}

-- before round g a column has the number of its clique, or g where it is left
number : ℕ → List ℕ → List ℕ → ℕ → ℕ
number g left owner c = cond (is_in left c) g (get_or owner c 0)

module _ (g : ℕ) (left owner : List ℕ) (c : ℕ) where
  number_left : is_in left c ≡ true → number g left owner c ≡ g
  unfolding number
  number_left e = cond_yes (is_in left c) g (get_or owner c 0) e

  number_out : is_in left c ≡ false → number g left owner c ≡ get_or owner c 0
  unfolding number
  number_out e = cond_no (is_in left c) g (get_or owner c 0) e

-- what holds before round g
record Stage (w : ℕ) (graph : List ℕ) (g : ℕ) (left owner : List ℕ) : Type 0 where
  below : (c : ℕ) → c < w → is_in left c ≡ false → get_or owner c 0 < g
  used : (h : ℕ) → h < g → (d : ℕ) × (d < w) × (number g left owner d ≡ h)
  pair : (c d : ℕ) → c < w → d < w → (c ≡ d → ⊥) → number g left owner c < g → number g left owner c ≡ number g left owner d
      → Adj w graph c d ⊎ Adj w graph d c
  apart : (c d : ℕ) → c < w → d < w → number g left owner c < number g left owner d
      → (e : ℕ) × (e < w) × (number g left owner e ≡ number g left owner c) × (is_in graph (e * w + d) ≡ false)

module _ (w : ℕ) (graph : List ℕ) where
  left_at : (left q : List ℕ) (c : ℕ) → c < w → is_in (leave w graph left q) c ≡ (is_in left c && not (is_in q c))
  unfolding leave
  left_at left q c h = in_tab (λ d. is_in left d && not (is_in q d)) w c h

  owned_at : (owner q : List ℕ) (g c : ℕ) → c < w → get_or (owned w graph owner q g) c 0 ≡ cond (is_in q c) g (get_or owner c 0)
  unfolding owned
  owned_at owner q g c h = get_or-tab (λ d. cond (is_in q d) g (get_or owner d 0)) 0 w c h

  module _ (g : ℕ) (left owner q s : List ℕ) (v : ℕ) (hv : v < w) (some : is_in q v ≡ true)
      (none : (c : ℕ) → c < w → is_in s c ≡ false) (part : Part w graph left s q) (stage : Stage w graph g left owner) where
    abbrev left' : List ℕ
    left' = leave w graph left q

    abbrev owner' : List ℕ
    owner' = owned w graph owner q g

    abbrev old : ℕ → ℕ
    old = number g left owner

    abbrev new : ℕ → ℕ
    new = number (g + 1) left' owner'

    -- a column has left before, leaves in this round, or is left after it
    kind : {C : Type 0} (c : ℕ) → c < w → (is_in q c ≡ false → old c < g → new c ≡ old c → C) → (is_in q c ≡ true → old c ≡ g → new c ≡ g → C)
        → (is_in q c ≡ false → is_in left c ≡ true → old c ≡ g → new c ≡ g + 1 → C) → C
    kind c h before now after =
        by_test (is_in left c)
        (λ l. by_test (is_in q c)
        (λ m. now m (number_left g left owner c l)
        (number_out (g + 1) left' owner' c (at l m) ∙ owned_at owner q g c h ∙ cond_yes (is_in q c) g (get_or owner c 0) m))
        (λ m. after m l (number_left g left owner c l) (number_left (g + 1) left' owner' c (at l m))))
        (λ l.
        let m : is_in q c ≡ false = no_test (is_in q c) (λ e. false≢true (sym l ∙ part.inside c h e)) in
        let o = number_out g left owner c l in
        before m (omega (arith, o, stage.below c h l))
        (number_out (g + 1) left' owner' c (at l m) ∙ owned_at owner q g c h ∙ cond_no (is_in q c) g (get_or owner c 0) m ∙ sym o))
      where
        at : {a b : Bool} → is_in left c ≡ a → is_in q c ≡ b → is_in left' c ≡ (a && not b)
        at l m = left_at left q c h ∙ ap₂ (λ (x y : Bool). x && not y) l m

    kept : (c : ℕ) → c < w → old c < g → new c ≡ old c
    kept c h l = kind c h (λ m k e. e) (λ m o e. absurd (omega arith)) (λ m k o e. absurd (omega arith))

    took : (c : ℕ) → c < w → is_in q c ≡ true → new c ≡ g
    took c h t = kind c h (λ m k e. absurd (false≢true (sym m ∙ t))) (λ m o e. e) (λ m k o e. absurd (false≢true (sym m ∙ t)))

    next : Stage w graph (g + 1) left' owner'
    next = record { below = below'; used = used'; pair = pair'; apart = apart' }
      where
        below' : (c : ℕ) → c < w → is_in left' c ≡ false → get_or owner' c 0 < g + 1
        below' c h l =
            let o = number_out (g + 1) left' owner' c l in
            let a = left_at left q c h in
            kind c h (λ m k e. omega arith) (λ m k e. omega arith)
            (λ m k o e. absurd (false≢true (sym l ∙ a ∙ ap₂ (λ (x y : Bool). x && not y) k m)))

        used' : (h : ℕ) → h < g + 1 → (d : ℕ) × (d < w) × (new d ≡ h)
        used' h l =
            by_less h g (λ k. let r = stage.used h k in (r.0, r.1, kept r.0 r.1 (omega (arith, r.2)) ∙ r.2))
            (λ k. let e : g ≡ h = omega arith in (v, hv, took v hv some ∙ e))

        pair' : (c d : ℕ) → c < w → d < w → (c ≡ d → ⊥) → new c < g + 1 → new c ≡ new d → Adj w graph c d ⊎ Adj w graph d c
        pair' c d hc hd ne l e =
            kind c hc
            (λ mc kc ec. kind d hd (λ md kd ed. stage.pair c d hc hd ne kc (sym ec ∙ e ∙ ed)) (λ md kd ed. absurd (omega arith))
            (λ md k kd ed. absurd (omega arith)))
            (λ mc kc ec. kind d hd (λ md kd ed. absurd (omega arith)) (λ md kd ed. part.pair c d hc hd ne mc md)
            (λ md k kd ed. absurd (omega arith)))
            (λ mc k kc ec. absurd (omega arith))

        apart' : (c d : ℕ) → c < w → d < w → new c < new d → (e : ℕ) × (e < w) × (new e ≡ new c) × (is_in graph (e * w + d) ≡ false)
        apart' c d hc hd l =
            kind c hc
            (λ mc kc ec.
            let less : old c < old d = kind d hd (λ m k e. omega arith) (λ m k e. omega arith) (λ m j k e. omega arith) in
            let r = stage.apart c d hc hd less in
            (r.0, r.1, kept r.0 r.1 (omega (arith, r.2)) ∙ r.2 ∙ sym ec, r.3))
            (λ mc kc ec. kind d hd (λ m k e. absurd (omega arith)) (λ m k e. absurd (omega arith))
            (λ m j k e. let r = part.full d hd j m (none d hd) in (r.0, r.1, took r.0 r.1 r.2 ∙ sym ec, r.3)))
            (λ mc j kc ec. absurd (kind d hd (λ m k e. omega arith) (λ m k e. omega arith) (λ m i k e. omega arith)))

    fewer_left : count w (is_in left') < count w (is_in left)
    fewer_left =
        let l = part.inside v hv some in
        count-lt (is_in left') (is_in left) w v
        (λ c h e. (and_split (is_in left c) (not (is_in q c)) (sym (left_at left q c h) ∙ e)).0)
        hv (left_at left q v hv ∙ ap₂ (λ (x y : Bool). x && not y) l some) l

  -- what holds of the owners after the rounds
  abbrev Ended : List ℕ → Type 0
  Ended owner =
      (g : ℕ) × (left : List ℕ) × (g ≤ w) × ((c : ℕ) → c < w → is_in left c ≡ false) × Stage w graph g left owner

  rounds_end : (n g : ℕ) (left owner : List ℕ) → count w (is_in left) ≤ n → g + count w (is_in left) ≤ w → Stage w graph g left owner
      → Ended (rounds w graph n g left owner)
  unfolding rounds
  rounds_end zero g left owner l k s = (g, left, omega arith, count_none (is_in left) w l, s)
  rounds_end (suc n) g left owner l k s =
      cond-each Ended (any w (is_in left))
      (λ e.
      let r = clique-whole w graph left e in
      let q = clique w graph left in
      let f = fewer_left g left owner q r.2.0 r.0 r.1 r.2.3 r.2.1 r.2.2 s in
      rounds_end n (g + 1) (leave w graph left q) (owned w graph owner q g) (omega arith) (omega arith)
      (next g left owner q r.2.0 r.0 r.1 r.2.3 r.2.1 r.2.2 s))
      (λ e. (g, left, omega arith, any_out (is_in left) w e, s))

  cover_end : Ended (cover w graph)
  unfolding cover
  cover_end = rounds_end w 0 (replicate w 1) (replicate w 0) (count-max (is_in (replicate w 1)) w) (omega (arith, count-max (is_in (replicate w 1)) w)) start
    where
      same : (c : ℕ) → c < w → number 0 (replicate w 1) (replicate w 0) c ≡ 0
      same c h = number_left 0 (replicate w 1) (replicate w 0) c (in_all w c h)

      start : Stage w graph 0 (replicate w 1) (replicate w 0)
      start =
          record {
            below = λ c h e. absurd (false≢true (sym e ∙ in_all w c h));
            used = λ h l. absurd (omega arith);
            pair = λ c d hc hd ne l. absurd (omega arith);
            apart = λ c d hc hd l. absurd (omega (arith, same d hd));
          }

  rounds-length : (n g : ℕ) (left owner : List ℕ) → length owner ≡ w → length (rounds w graph n g left owner) ≡ w
  unfolding rounds owned
  rounds-length zero g left owner e = e
  rounds-length (suc n) g left owner e =
      let q = clique w graph left in
      cond_both (λ (r : List ℕ). length r ≡ w) (any w (is_in left))
      (rounds-length n (g + 1) (leave w graph left q) (owned w graph owner q g) (length-tab (λ c. cond (is_in q c) g (get_or owner c 0)) w)) e

  abbrev end_number : (c : ℕ) → c < w → number cover_end.0 cover_end.1 (cover w graph) c ≡ get_or (cover w graph) c 0
  end_number c h = number_out cover_end.0 cover_end.1 (cover w graph) c (cover_end.3 c h)

pub cover-length : (w : ℕ) (graph : List ℕ) → length (cover w graph) ≡ w
unfolding cover
cover-length w graph = rounds-length w graph w 0 (replicate w 1) (replicate w 0) (length-replicate w 0)

-- the columns of one clique are pairwise compatible
pub cover-clique : (w : ℕ) (graph : List ℕ) → ((c d : ℕ) → c < w → d < w → is_in graph (c * w + d) ≡ is_in graph (d * w + c)) → (c d : ℕ)
    → c < w → d < w → (c ≡ d → ⊥) → get_or (cover w graph) c 0 ≡ get_or (cover w graph) d 0 → is_in graph (c * w + d) ≡ true
cover-clique w graph same c d hc hd ne e =
    let s = cover_end w graph in
    let ec = end_number w graph c hc in
    let ed = end_number w graph d hd in
    either (s.4.pair c d hc hd ne (omega (arith, s.4.below c hc (s.3 c hc))) (ec ∙ e ∙ sym ed)) (λ a. a) (λ a. same c d hc hd ∙ a)

-- a column that leaves later is incompatible with some column of the clique
pub cover_maximal : (w : ℕ) (graph : List ℕ) → ((c d : ℕ) → c < w → d < w → is_in graph (c * w + d) ≡ is_in graph (d * w + c)) → (c d : ℕ)
    → c < w → d < w → get_or (cover w graph) c 0 < get_or (cover w graph) d 0
    → (e : ℕ) × (e < w) × (get_or (cover w graph) e 0 ≡ get_or (cover w graph) c 0) × (is_in graph (e * w + d) ≡ false)
cover_maximal w graph same c d hc hd l =
    let s = cover_end w graph in
    let ec = end_number w graph c hc in
    let ed = end_number w graph d hd in
    let r = s.4.apart c d hc hd (omega arith) in
    (r.0, r.1, sym (end_number w graph r.0 r.1) ∙ r.2 ∙ ec, r.3)

pub cover_below : (w : ℕ) (graph : List ℕ) → (c : ℕ) → c < w → get_or (cover w graph) c 0 < w
cover_below w graph c h =
    let s = cover_end w graph in
    omega (arith, s.2, s.4.below c h (s.3 c h))

-- the numbers leave no gaps
pub cover_dense : (w : ℕ) (graph : List ℕ) → (c g : ℕ) → c < w → g < get_or (cover w graph) c 0 → (d : ℕ) × (d < w) × (get_or (cover w graph) d 0 ≡ g)
cover_dense w graph c g h l =
    let s = cover_end w graph in
    let r = s.4.used g (omega (arith, s.4.below c h (s.3 c h))) in
    (r.0, r.1, sym (end_number w graph r.0 r.1) ∙ r.2)
