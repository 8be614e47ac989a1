-- Keys that hold running counts of edges: when a clique leaves, the keys lowered by it count the edges among the columns that remain; and the
-- candidates' keys when a column joins.
-- Assumes nothing.
use mathlib.Core.Path.{◌≡◌, refl, sym, ◌∙◌, ap, ap₂}
use mathlib.Core.Bool.{Bool, true, false, not, cond, ◌&&◌, ◌||◌, and-true, and-false, or-true, or-false}
use mathlib.Core.List.{List}
use Prim.Native.Nat.{ℕ, zero, suc, ◌+◌, ◌-◌, ◌*◌, ◌<◌, ◌≤◌}
use native.Mathlib.Nat.{not-suc-le-zero}
use native.Mathlib.Omega.{arith}
use borrow.Author.Tests.{eq-eqb, ne_eqb, lt-ltb}
use lib.Arith.{digits_div, digits_mod}
use lib.Dec.{eqb, ltb}
use lib.ListN.{length, get_or, set, length-set}
use lib.Seq.{get_or-set_same, get_or-set_other}
use Rattle.laws.specs.Tests.{any, count, sum}
use Rattle.laws.specs.Bits.{flag}
use Rattle.laws.specs.Lists.{tab, puts}
use Rattle.laws.proofs.Cases.{by_test, by_equal, last_or_below, cond_yes, cond_no, and_left_no, or_split}
use Rattle.laws.proofs.Tests.{any_none}
use Rattle.laws.proofs.Masks.{not-both}
use Rattle.laws.proofs.Counts.{count_ext, count-max}
use Rattle.laws.proofs.Puts.{get_or-puts, length-puts}
use Rattle.reduction_spec.specs.Cover.{is_in, linked, edges, leave, candidates}
use Rattle.reduction.specs.RunningKeys.{gone, keeping, fewer_by, partners, lowered_keys, stored_for, kept_keys, Mutual}
use Rattle.reduction_spec.proofs.OneRound.{in_tab, stays}
use Rattle.reduction.proofs.cover.CliqueLeaves.{fewer-gone}
use Rattle.reduction.proofs.cover.LeastKey.{key, Keyed}

and_or : (p a b : Bool) → (p && not (a || b)) ≡ ((p && not a) && not b)
and_or true true b = refl
and_or true false b = refl
and_or false a b = refl

-- two tests that differ at u alone, where the first fails
pub count_but : (f g : ℕ → Bool) (u n : ℕ) → u < n → ((d : ℕ) → d < n → (d ≡ u → ⊥) → f d ≡ g d) → f u ≡ false
    → count n g ≡ count n f + flag (g u)
count_but f g u zero h same out = absurd (not-suc-le-zero h)
count_but f g u (suc n) h same out =
    last_or_below u n h
    (λ e.
    let before : count n f ≡ count n g = count_ext f g n (λ d l. same d (omega arith) (λ q. absurd (omega arith))) in
    let none : f n ≡ false = ap f (sym e) ∙ out in
    by_test (g n) (λ p. rw (none, p, ap g e ∙ p) (omega arith)) (λ p. rw (none, p, ap g e ∙ p) (omega arith)))
    (λ l.
    let before = count_but f g u n l (λ d k. same d (omega arith)) out in
    let last : f n ≡ g n = same n (omega arith) (λ q. absurd (omega arith)) in
    by_test (g n) (λ p. rw (last ∙ p, p) (omega arith)) (λ p. rw (last ∙ p, p) before))

pub sum-flags : (f : ℕ → Bool) (n : ℕ) → sum n (λ d. flag (f d)) ≡ count n f
sum-flags f zero = refl
sum-flags f (suc n) = let e = sum-flags f n in by_test (f n) (λ p. rw p (omega arith)) (λ p. rw p (omega arith))

-- lists as long as before
pub stored-length : (v n : ℕ) (q l : List ℕ) → length (stored_for v n q l) ≡ length l
unfolding stored_for
stored-length v zero q l = refl
stored-length v (suc n) q l = length-set (stored_for v n q l) (get_or q n 0) v ∙ stored-length v n q l

pub lowered_length : (w : ℕ) (graph : List ℕ) (n : ℕ) (q keys : List ℕ) → length (lowered_keys w graph n q keys) ≡ length keys
unfolding lowered_keys
lowered_length w graph n q keys = length-puts (λ c. fewer_by (partners w graph n q c) (get_or keys c 0)) w keys

-- a key that counts edges, lowered
fewer-edges : (j e c : ℕ) → c < 512 → e ≤ 512 → fewer_by j (e * 512 + c) ≡ (e - j) * 512 + c
unfolding fewer_by
fewer-edges j e c low few =
    cond_yes (ltb (e * 512 + c) gone) _ (e * 512 + c) (lt-ltb (e * 512 + c) gone (omega arith))
    ∙ ap₂ (λ (x y : ℕ). (x - j) * 512 + y) (digits_div e low) (digits_mod e low)

module _ (w : ℕ) (graph : List ℕ) where
  -- column d is another column of p than c, and compatible with c; the edges of c among the columns of p
  abbrev pub near : (ℕ → Bool) → ℕ → ℕ → Bool
  near p c d = p d && not (eqb c d) && is_in graph (c * w + d)

  abbrev pub among : (ℕ → Bool) → ℕ → ℕ
  among p c = count w (near p c)

  -- the keys of the columns p, with their edges among these
  abbrev pub Running : (ℕ → Bool) → List ℕ → Type 0
  Running p keys = Keyed w (among p) p keys

  among_ext : (p q : ℕ → Bool) → ((d : ℕ) → d < w → p d ≡ q d) → (c : ℕ) → among p c ≡ among q c
  among_ext p q h c = count_ext (near p c) (near q c) w (λ d l. ap (λ (b : Bool). b && not (eqb c d) && is_in graph (c * w + d)) (h d l))

  running_ext : (p q : ℕ → Bool) (keys : List ℕ) → ((d : ℕ) → d < w → p d ≡ q d) → Running p keys → Running q keys
  running_ext p q keys h r c l = r c l ∙ ap₂ (λ (b : Bool) (e : ℕ). key b e c) (h c l) (among_ext p q h c)

  -- column u leaves
  module _ (both : Mutual w graph) (p q : ℕ → Bool) (u : ℕ) (hu : u < w) (in-u : p u ≡ true)
      (less : (d : ℕ) → d < w → q d ≡ (p d && not (eqb u d))) where
    q_self : (c : ℕ) → c < w → c ≡ u → q c ≡ false
    q_self c h e = less c h ∙ ap₂ (λ (a b : Bool). a && not b) (ap p e ∙ in-u) (eq-eqb u c (sym e))

    q_other : (c : ℕ) → c < w → (c ≡ u → ⊥) → q c ≡ p c
    q_other c h n =
        let e : not (eqb u c) ≡ true = ap not (ne_eqb u c (λ x. n (sym x))) in
        less c h ∙ by_test (p c) (λ m. ap₂ ◌&&◌ m e ∙ sym m) (λ m. and_left_no (p c) (not (eqb u c)) m ∙ sym m)

    among_less : (c : ℕ) → c < w → (c ≡ u → ⊥) → among p c ≡ among q c + flag (is_in graph (u * w + c))
    among_less c h n =
        count_but (near q c) (near p c) u w hu
        (λ d l k. ap (λ (b : Bool). b && not (eqb c d) && is_in graph (c * w + d)) (q_other d l k))
        (ap (λ (b : Bool). b && not (eqb c u) && is_in graph (c * w + u)) (q_self u hu refl))
        ∙ ap (λ (b : Bool). among q c + flag b)
        (ap₂ (λ (a b : Bool). a && not b && is_in graph (c * w + u)) in-u (ne_eqb c u n) ∙ both c u h hu)

  -- the columns p without the first n of q
  module _ (p : ℕ → Bool) (q : List ℕ) where
    abbrev pub rest : ℕ → ℕ → Bool
    rest n c = p c && not (any n (λ i. eqb (get_or q i 0) c))

    -- the first n of q are different columns of p
    pub record Members (n : ℕ) : Type 0 where
      pub low : (i : ℕ) → i < n → get_or q i 0 < w
      pub inside : (i : ℕ) → i < n → p (get_or q i 0) ≡ true
      pub apart : (i k : ℕ) → i < k → k < n → get_or q i 0 ≡ get_or q k 0 → ⊥

    fewer-members : (n : ℕ) → Members (suc n) → Members n
    fewer-members n m =
        record {
          low = λ i l. m.low i (omega arith);
          inside = λ i l. m.inside i (omega arith);
          apart = λ i k h l. m.apart i k h (omega arith);
        }

    -- each remaining column's edges fall by exactly the members compatible with it
    pub edges_fall : Mutual w graph → (n : ℕ) → Members n → (c : ℕ) → c < w → any n (λ i. eqb (get_or q i 0) c) ≡ false
        → among p c ≡ among (rest n) c + partners w graph n q c
    unfolding partners
    edges_fall both zero m c c< out = among_ext p (rest 0) (λ d l. sym (and-true (p d))) c ∙ omega arith
    edges_fall both (suc n) m c c< out =
        let u = get_or q n 0 in
        let parts = or_split (any n (λ i. eqb (get_or q i 0) c)) (eqb u c) out in
        let before = edges_fall both n (fewer-members n m) c c< parts.0 in
        let other : c ≡ u → ⊥ = λ e. not-both (eq-eqb u c (sym e)) parts.1 in
        let fresh : any n (λ i. eqb (get_or q i 0) u) ≡ false =
        any_none (λ i. eqb (get_or q i 0) u) n (λ i l. ne_eqb (get_or q i 0) u (m.apart i n l (omega arith))) in
        let in-u : rest n u ≡ true = ap₂ (λ (a b : Bool). a && not b) (m.inside n (omega arith)) fresh in
        let fall = among_less both (rest n) (rest (suc n)) u (m.low n (omega arith)) in-u
        (λ d l. and_or (p d) (any n (λ i. eqb (get_or q i 0) d)) (eqb u d)) c c< other in
        let last : count (suc n) (λ i. is_in graph (get_or q i 0 * w + c)) ≡ count n (λ i. is_in graph (get_or q i 0 * w + c)) + flag (is_in graph (u * w + c)) =
        by_test (is_in graph (u * w + c)) (λ t. rw t refl) (λ t. rw t (omega arith)) in
        omega (arith, before, fall, last)

    -- a value stored for each member
    pub stored_at : (v n : ℕ) → Members n → (l : List ℕ) → w ≤ length l → (c : ℕ) → c < w
        → get_or (stored_for v n q l) c 0 ≡ cond (any n (λ i. eqb (get_or q i 0) c)) v (get_or l c 0)
    unfolding stored_for
    stored_at v zero m l long c c< = refl
    stored_at v (suc n) m l long c c< =
        let u = get_or q n 0 in
        let before = stored_at v n (fewer-members n m) l long c c< in
        let low = m.low n (omega arith) in
        by_equal c u
        (λ e.
        ap (λ (i : ℕ). get_or (set (stored_for v n q l) u v) i 0) e ∙ get_or-set_same (stored_for v n q l) u v 0 (omega (arith, stored-length v n q l))
        ∙ sym (cond_yes (any n (λ i. eqb (get_or q i 0) c) || eqb u c) v (get_or l c 0) (ap (λ (b : Bool). any n (λ i. eqb (get_or q i 0) c) || b) (eq-eqb u c (sym e)) ∙ or-true (any n (λ i. eqb (get_or q i 0) c)))))
        (λ e.
        get_or-set_other (stored_for v n q l) u c v 0 e ∙ before
        ∙ ap (λ (b : Bool). cond b v (get_or l c 0)) (sym (ap (λ (b : Bool). any n (λ i. eqb (get_or q i 0) c) || b) (ne_eqb u c (λ z. e (sym z))) ∙ or-false (any n (λ i. eqb (get_or q i 0) c)))))

    -- the clique leaves: the keys count the edges among the columns that remain
    pub leave-clique : Mutual w graph → w ≤ 512 → (n : ℕ) → Members n → (keys : List ℕ) → w ≤ length keys → Running p keys
        → Running (rest n) (lowered_keys w graph n q (stored_for gone n q keys))
    unfolding lowered_keys
    leave-clique both wide n m keys long r c h =
        let base = stored_for gone n q keys in
        let mem = any n (λ i. eqb (get_or q i 0) c) in
        let j = partners w graph n q c in
        get_or-puts (λ d. fewer_by (partners w graph n q d) (get_or base d 0)) w base 0 c h (omega (arith, stored-length gone n q keys))
        ∙ ap (fewer_by j) (stored_at gone n m keys long c h)
        ∙ by_test mem
        (λ e.
        ap (fewer_by j) (cond_yes mem gone (get_or keys c 0) e) ∙ fewer-gone j
        ∙ sym (cond_no (rest n c) (among (rest n) c * 512 + c) gone (ap (λ (b : Bool). p c && not b) e ∙ and-false (p c))))
        (λ e.
        ap (fewer_by j) (cond_no mem gone (get_or keys c 0) e ∙ r c h)
        ∙ by_test (p c)
        (λ i.
        let most = count-max (near p c) w in
        let fall = edges_fall both n m c h e in
        let less : among p c - j ≡ among (rest n) c = omega arith in
        ap (fewer_by j) (cond_yes (p c) (among p c * 512 + c) gone i) ∙ fewer-edges j (among p c) c (omega arith) (omega arith)
        ∙ ap (λ (x : ℕ). x * 512 + c) less
        ∙ sym (cond_yes (rest n c) (among (rest n) c * 512 + c) gone (ap₂ (λ (a b : Bool). a && not b) i e)))
        (λ i.
        ap (fewer_by j) (cond_no (p c) (among p c * 512 + c) gone i) ∙ fewer-gone j
        ∙ sym (cond_no (rest n c) (among (rest n) c * 512 + c) gone (and_left_no (p c) (not mem) i))))

  -- the same over the definition's edges, for the columns left and a clique q, of which the first n of ms are the members: each round begins
  -- with the edges among the columns left
  abbrev pub Counted : List ℕ → List ℕ → Type 0
  Counted left keys = Keyed w (edges w graph left) (is_in left) keys

  pub counted : (left keys : List ℕ) → Running (is_in left) keys → Counted left keys
  unfolding edges linked
  counted left keys r = r

  pub running : (left keys : List ℕ) → Counted left keys → Running (is_in left) keys
  unfolding edges linked
  running left keys r = r

  pub round_begins : Mutual w graph → w ≤ 512 → (left q ms keys : List ℕ) (n : ℕ) → Members (is_in left) ms n
      → ((c : ℕ) → c < w → any n (λ i. eqb (get_or ms i 0) c) ≡ is_in q c) → w ≤ length keys → Counted left keys
      → Counted (leave w graph left q) (lowered_keys w graph n ms (stored_for gone n ms keys))
  unfolding leave
  round_begins both wide left q ms keys n m flags long r =
      let out : ℕ → Bool = λ c. is_in left c && not (is_in q c) in
      let after = lowered_keys w graph n ms (stored_for gone n ms keys) in
      counted (tab w (λ c. flag (out c))) after
      (running_ext (rest (is_in left) ms n) (is_in (tab w (λ c. flag (out c)))) after
      (λ d l. ap (λ (b : Bool). is_in left d && not b) (flags d l) ∙ sym (in_tab out w d l))
      (leave-clique (is_in left) ms both wide n m keys long (running left keys r)))

  -- a column u without edges leaves: no other key changes
  pub leave_lone : (both : Mutual w graph) (p q : ℕ → Bool) (u : ℕ) → u < w → p u ≡ true → ((d : ℕ) → d < w → q d ≡ (p d && not (eqb u d)))
      → (keys : List ℕ) → w ≤ length keys → Running p keys → ((d : ℕ) → d < w → near p u d ≡ false) → Running q (set keys u gone)
  leave_lone both p q u hu in-u less keys long r none c h =
      by_equal c u
      (λ e.
      ap (λ (i : ℕ). get_or (set keys u gone) i 0) e ∙ get_or-set_same keys u gone 0 (omega arith)
      ∙ sym (cond_no (q c) (among q c * 512 + c) gone (q_self both p q u hu in-u less c h e)))
      (λ n.
      let same = q_other both p q u hu in-u less c h n in
      get_or-set_other keys u c gone 0 n ∙ r c h
      ∙ by_test (p c)
      (λ m.
      let fall = among_less both p q u hu in-u less c h n in
      let unlinked : is_in graph (u * w + c) ≡ false =
      sym (ap₂ (λ (a b : Bool). a && not b && is_in graph (u * w + c)) m (ne_eqb u c (λ z. n (sym z)))) ∙ none c h in
      let kept : among p c ≡ among q c + 0 = fall ∙ ap (λ (b : Bool). among q c + flag b) unlinked in
      cond_yes (p c) (among p c * 512 + c) gone m ∙ ap (λ (x : ℕ). x * 512 + c) (kept ∙ omega arith)
      ∙ sym (cond_yes (q c) (among q c * 512 + c) gone (same ∙ m)))
      (λ m. cond_no (p c) (among p c * 512 + c) gone m ∙ sym (cond_no (q c) (among q c * 512 + c) gone (same ∙ m))))

  -- the candidates' keys when column u joins
  pub keep_one : (es : ℕ → ℕ) (s cand : List ℕ) (u : ℕ) → u < w → w ≤ length cand → Keyed w es (is_in s) cand
      → Keyed w es (is_in (candidates w graph s u)) (kept_keys w graph u cand)
  unfolding kept_keys keeping
  keep_one es s cand u hu long r c h =
      let f : ℕ → ℕ = λ d. keeping (get_or graph (u * w + d) 0) (get_or cand d 0) in
      let all = puts w f cand in
      let t = stays w graph s u c h in
      let new = is_in (candidates w graph s u) c in
      let long' = length-puts f w cand in
      by_equal c u
      (λ e.
      let out : new ≡ false =
      t ∙ by_test (is_in s c) (λ m. rw (m, eq-eqb u c (sym e))) (λ m. rw m) in
      ap (λ (i : ℕ). get_or (set all u gone) i 0) e ∙ get_or-set_same all u gone 0 (omega arith) ∙ sym (cond_no new (es c * 512 + c) gone out))
      (λ n.
      let apart : eqb u c ≡ false = ne_eqb u c (λ y. n (sym y)) in
      get_or-set_other all u c gone 0 n ∙ get_or-puts f w cand 0 c h (omega arith)
      ∙ by_test (is_in graph (u * w + c))
      (λ m.
      let same : new ≡ is_in s c = t ∙ by_test (is_in s c) (λ i. rw (i, apart, m)) (λ i. rw i) in
      cond_yes (is_in graph (u * w + c)) (get_or cand c 0) gone m ∙ r c h ∙ ap (λ (b : Bool). key b (es c) c) (sym same))
      (λ m.
      let out : new ≡ false = t ∙ by_test (is_in s c) (λ i. rw (i, apart, m)) (λ i. rw i) in
      cond_no (is_in graph (u * w + c)) (get_or cand c 0) gone m ∙ sym (cond_no new (es c * 512 + c) gone out)))
