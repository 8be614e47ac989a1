-- The rounds over keys give the cover: a clique grown over keys is the clique, and the numbers after all rounds are the cover's.
-- Assumes nothing.
use mathlib.Core.Path.{◌≡◌, refl, sym, ◌∙◌, ap, ap₂}
use mathlib.Core.Bool.{Bool, true, false, cond, not, ◌&&◌, ◌||◌, or-true, or-false, true≢false}
use mathlib.Core.List.{List}
use Prim.Native.Nat.{ℕ, zero, suc, ◌+◌, ◌*◌, ◌%◌, ◌<◌, ◌≤◌}
use native.Mathlib.Omega.{arith}
use borrow.Author.Tests.{eq-eqb, ne_eqb}
use lib.Arith.{digits_mod}
use lib.Dec.{eqb}
use lib.ListN.{length, get_or, set, replicate, length-set, length-replicate, get_or-replicate}
use lib.Seq.{get_or-set_same, get_or-set_other}
use Rattle.laws.specs.Tests.{any, count}
use Rattle.laws.specs.Bits.{flag}
use Rattle.laws.specs.Lists.{tab, puts}
use Rattle.laws.proofs.Cases.{by_equal, by_less, either, cond_yes, cond_no, and_split}
use Rattle.laws.proofs.Tests.{any_none, any_of, any_out, any_ext, any_next}
use Rattle.laws.proofs.Counts.{count-max, count_none}
use Rattle.laws.proofs.Lists.{get_or-tab}
use Rattle.laws.proofs.Puts.{length-puts, stored}
use Rattle.reduction_spec.specs.Cover.{is_in, linked, edges, fewest, candidates, grown, clique, leave, owned, rounds, cover}
use Rattle.reduction.specs.RunningKeys.{gone, keeping, least_key, degree, first_key, Growth, Stand, lowered_keys, stored_for, kept_keys, joining, growing, turn, turns, Mutual}
use Rattle.reduction_spec.proofs.OneRound.{in_tab, in_all, put_other, stays, grown-enough}
use Rattle.reduction.proofs.cover.KeySteps.{turn_alone, turn-opened}
use Rattle.reduction.proofs.cover.LeastKey.{key, Keyed, least_found, fewest_empty}
use Rattle.reduction.proofs.cover.RunningCounts.{count_but, sum-flags, near, among, Members, Counted, counted, running, round_begins, leave_lone, stored_at, stored-length, lowered_length, keep_one}

-- the columns left without those of the clique q
abbrev remain : List ℕ → List ℕ → ℕ → Bool
remain left q c = is_in left c && not (is_in q c)

long_kept : (w : ℕ) (graph cand : List ℕ) (u : ℕ) → length (kept_keys w graph u cand) ≡ length cand
unfolding kept_keys
long_kept w graph cand u =
    let f : ℕ → ℕ = λ d. keeping (get_or graph (u * w + d) 0) (get_or cand d 0) in
    length-set (puts w f cand) u gone ∙ length-puts f w cand

-- the state between rounds: the columns left, and the numbers of those that left
record Stands (w : ℕ) (graph left owner : List ℕ) (r : Stand) : Type 0 where
  counts : Counted w graph left r.keys
  numbers : (c : ℕ) → c < w → get_or r.owner c 0 ≡ get_or owner c 0
  keys-long : w ≤ length r.keys
  owner-long : w ≤ length r.owner

-- without candidates a clique does not grow
grown_empty : (w : ℕ) (graph es s q : List ℕ) (n : ℕ) → ((d : ℕ) → d < w → is_in s d ≡ false) → grown w graph n es s q ≡ q
unfolding grown
grown_empty w graph es s q zero h = refl
grown_empty w graph es s q (suc n) h =
    let u = fewest w graph es s w in
    cond_yes (eqb u w) q _ (eq-eqb u w (fewest_empty w graph es s w h))

module _ (w : ℕ) (graph : List ℕ) (both : Mutual w graph) (wide : w ≤ 512) where
  few : (left : List ℕ) (c : ℕ) → c < w → get_or (tab w (edges w graph left)) c 0 ≡ among w graph (is_in left) c
  unfolding edges linked
  few left c h = get_or-tab (edges w graph left) 0 w c h

  few_most : (left : List ℕ) (c : ℕ) → c < w → get_or (tab w (edges w graph left)) c 0 ≤ 512
  few_most left c h = omega (arith, few left c h, count-max (near w graph (is_in left) c) w)

  -- the state of a growing clique q with the candidates s, in a round that began with the columns left
  record Grows (left s q : List ℕ) (r : Growth) : Type 0 where
    keyed : Keyed w (λ c. get_or (tab w (edges w graph left)) c 0) (is_in s) r.cand
    members : Members w graph (is_in left) r.members r.count
    flags : (c : ℕ) → c < w → any r.count (λ i. eqb (get_or r.members i 0) c) ≡ is_in q c
    within : (c : ℕ) → c < w → is_in s c ≡ true → is_in left c ≡ true
    fresh : (c : ℕ) → c < w → is_in s c ≡ true → is_in q c ≡ false
    sized : length q ≡ w
    cand-long : w ≤ length r.cand
    room : length r.members ≡ 512

  module _ (left : List ℕ) where
    abbrev es : List ℕ
    es = tab w (edges w graph left)

    -- a candidate joins
    joins : (s q : List ℕ) (r : Growth) (u : ℕ) → u < w → r.count < 512 → is_in s u ≡ true → Grows left s q r
        → Grows left (candidates w graph s u) (set q u 1) (joining w graph u r)
    unfolding joining
    joins s q r u h space m p =
        record {
          keyed = keep_one w graph (λ c. get_or es c 0) s r.cand u h p.cand-long p.keyed;
          members = record { low = low'; inside = inside'; apart = apart' };
          flags = flags';
          within = λ c l e. p.within c l (was c l e).0;
          fresh = λ c l e. put_other q u c (was c l e).1 ∙ p.fresh c l (was c l e).0;
          sized = length-set q u 1 ∙ p.sized;
          cand-long = omega (arith, long_kept w graph r.cand u, p.cand-long);
          room = length-set r.members r.count u ∙ p.room;
        }
      where
        ms : List ℕ
        ms = set r.members r.count u

        new : get_or ms r.count 0 ≡ u
        new = get_or-set_same r.members r.count u 0 (omega (arith, p.room))

        old : (i : ℕ) → i < r.count → get_or ms i 0 ≡ get_or r.members i 0
        old i l = get_or-set_other r.members r.count i u 0 (λ e. absurd (omega arith))

        -- a candidate that stays was one, and is not u
        was : (c : ℕ) → c < w → is_in (candidates w graph s u) c ≡ true → (is_in s c ≡ true) × (c ≡ u → ⊥)
        was c l e =
            let t = (and_split (is_in s c && not (eqb u c)) (is_in graph (u * w + c)) (sym (stays w graph s u c l) ∙ e)).0 in
            let i = and_split (is_in s c) (not (eqb u c)) t in
            (i.0, λ z. absurd (true≢false (sym i.1 ∙ ap not (eq-eqb u c (sym z)))))

        low' : (i : ℕ) → i < r.count + 1 → get_or ms i 0 < w
        low' i l = by_less i r.count (λ k. omega (arith, old i k, p.members.low i k)) (λ k. let e : i ≡ r.count = omega arith in omega (arith, ap (λ (x : ℕ). get_or ms x 0) e, new))

        inside' : (i : ℕ) → i < r.count + 1 → is_in left (get_or ms i 0) ≡ true
        inside' i l =
            by_less i r.count (λ k. ap (is_in left) (old i k) ∙ p.members.inside i k)
            (λ k. let e : i ≡ r.count = omega arith in ap (is_in left) (ap (λ (x : ℕ). get_or ms x 0) e ∙ new) ∙ p.within u h m)

        apart' : (i k : ℕ) → i < k → k < r.count + 1 → get_or ms i 0 ≡ get_or ms k 0 → ⊥
        apart' i k l b e =
            by_less k r.count (λ c. p.members.apart i k l c (sym (old i (omega arith)) ∙ e ∙ old k c))
            (λ c.
            let last : k ≡ r.count = omega arith in
            let same : get_or r.members i 0 ≡ u = sym (old i (omega arith)) ∙ e ∙ ap (λ (x : ℕ). get_or ms x 0) last ∙ new in
            absurd
            (true≢false
            (sym (eq-eqb (get_or r.members i 0) u same)
            ∙ any_out (λ i. eqb (get_or r.members i 0) u) r.count (p.flags u h ∙ p.fresh u h m) i (omega arith))))

        flags' : (c : ℕ) → c < w → any (r.count + 1) (λ i. eqb (get_or ms i 0) c) ≡ is_in (set q u 1) c
        flags' c l =
            any_next (λ i. eqb (get_or ms i 0) c) r.count
            ∙ ap₂ ◌||◌
            (any_ext (λ i. eqb (get_or ms i 0) c) (λ i. eqb (get_or r.members i 0) c) r.count (λ i k. ap (λ (x : ℕ). eqb x c) (old i k)) ∙ p.flags c l)
            (ap (λ (x : ℕ). eqb x c) new)
            ∙ by_equal c u
            (λ e.
            ap (λ (b : Bool). is_in q c || b) (eq-eqb u c (sym e)) ∙ or-true (is_in q c)
            ∙ sym (ap (is_in (set q u 1)) e ∙ ap (λ (v : ℕ). eqb v 1) (get_or-set_same q u 1 0 (omega (arith, p.sized)))))
            (λ e. ap (λ (b : Bool). is_in q c || b) (ne_eqb u c (λ z. e (sym z))) ∙ or-false (is_in q c) ∙ sym (put_other q u c e))

    -- a clique grown, with whatever candidates remain
    abbrev Ends : List ℕ → Growth → Type 0
    Ends q r = (s : List ℕ) × Grows left s q r

    ends_is : {q q' : List ℕ} {r r' : Growth} → q ≡ q' → r ≡ r' → Ends q' r' → Ends q r
    ends_is p e f = rw (p, e) f

    grows : (n : ℕ) (s q : List ℕ) (r : Growth) → r.count + n ≤ 512 → Grows left s q r → Ends (grown w graph n es s q) (growing w graph n r)
    unfolding grown growing joining
    grows zero s q r space p = (s, p)
    grows (suc n) s q r space p =
        let u = fewest w graph es s w in
        let k = least_key r.cand w in
        let r' = growing w graph n (joining w graph (k % 512) r) in
        let q' = grown w graph n es (candidates w graph s u) (set q u 1) in
        either (least_found w graph es s r.cand wide (few_most left) p.keyed w (omega arith))
        (λ f. ends_is (cond_yes (eqb u w) q q' (eq-eqb u w f.0)) (cond_yes (eqb k gone) r r' (eq-eqb k gone f.1)) (s, p))
        (λ f.
        let h : u < w = f.0 in
        let most = few_most left u h in
        let column : k % 512 ≡ u = ap (λ (x : ℕ). x % 512) f.2 ∙ digits_mod (get_or es u 0) (omega arith) in
        ends_is (cond_no (eqb u w) q q' (ne_eqb u w (λ e. absurd (omega arith))))
        (cond_no (eqb k gone) r r' (ne_eqb k gone (λ e. absurd (omega (arith, f.2))))
        ∙ ap (λ (x : ℕ). growing w graph n (joining w graph x r)) column)
        (grows n (candidates w graph s u) (set q u 1) (joining w graph u r) (omega arith) (joins s q r u h (omega arith) f.1 p)))

  -- a round begins
  module _ (left owner : List ℕ) (r : Stand) (p : Stands w graph left owner r) where
    abbrev edged : List ℕ
    edged = tab w (edges w graph left)

    abbrev none : List ℕ
    none = replicate w 0

    start : Growth
    start = record { cand = puts w (λ c. get_or r.keys c 0) (replicate 512 0); members = replicate 512 0; count = 0 }

    none_in : (c : ℕ) → c < w → is_in none c ≡ false
    none_in c h = ap (λ (v : ℕ). eqb v 1) (get_or-replicate w c 0 0 h)

    keyed_left : Keyed w (λ c. get_or edged c 0) (is_in left) r.keys
    keyed_left c h = p.counts c h ∙ ap (λ (e : ℕ). key (is_in left c) e c) (sym (get_or-tab (edges w graph left) 0 w c h))

    begins : Grows left left none start
    unfolding start
    begins =
        let f : ℕ → ℕ = λ c. get_or r.keys c 0 in
        record {
          keyed = λ c h. stored 512 w f c wide h ∙ keyed_left c h;
          members = record { low = λ i l. absurd (omega arith); inside = λ i l. absurd (omega arith); apart = λ i k a b. absurd (omega arith) };
          flags = λ c h. sym (none_in c h);
          within = λ c h e. e;
          fresh = λ c h e. none_in c h;
          sized = length-replicate w 0;
          cand-long = omega (arith, length-puts f w (replicate 512 0), length-replicate {A = ℕ} 512 0);
          room = length-replicate {A = ℕ} 512 0;
        }

    -- the clique q leaves, of which x holds the members
    ends : (g : ℕ) (q s : List ℕ) (x : Growth) → Grows left s q x
        → Stands w graph (leave w graph left q) (owned w graph owner q g)
        (record {
          keys = lowered_keys w graph x.count x.members (stored_for gone x.count x.members r.keys);
          owner = stored_for g x.count x.members r.owner;
        })
    unfolding owned
    ends g q s x e =
        let marked = stored_for gone x.count x.members r.keys in
        record {
          counts = round_begins w graph both wide left q x.members r.keys x.count e.members e.flags p.keys-long p.counts;
          numbers = λ c h.
              stored_at w graph (is_in left) x.members g x.count e.members r.owner p.owner-long c h
              ∙ ap₂ (λ (b : Bool) (v : ℕ). cond b g v) (e.flags c h) (p.numbers c h)
              ∙ sym (get_or-tab (λ d. cond (is_in q d) g (get_or owner d 0)) 0 w c h);
          keys-long = omega (arith, lowered_length w graph x.count x.members marked, stored-length gone x.count x.members r.keys, p.keys-long);
          owner-long = omega (arith, stored-length g x.count x.members r.owner, p.owner-long);
        }

    module _ (g k u : ℕ) (first : fewest w graph edged left w ≡ u) (h : u < w) (m : is_in left u ≡ true) (least : k ≡ get_or edged u 0 * 512 + u) where
      column : k % 512 ≡ u
      column = ap (λ (x : ℕ). x % 512) least ∙ digits_mod (get_or edged u 0) (omega arith)

      turned : {q q' : List ℕ} {x x' : Stand} → q ≡ q' → x ≡ x' → Stands w graph (leave w graph left q') (owned w graph owner q' g) x'
          → Stands w graph (leave w graph left q) (owned w graph owner q g) x
      turned a b s = rw (a, b) s

      lone_clique : ((d : ℕ) → d < w → near w graph (is_in left) u d ≡ false) → clique w graph left ≡ set none u 1
      unfolding clique
      lone_clique lone =
          ap (λ (v : ℕ). grown w graph w edged (candidates w graph left v) (set none v 1)) first
          ∙ grown_empty w graph edged (candidates w graph left u) (set none u 1) w (λ d l. stays w graph left u d l ∙ lone d l)

      opened_once : clique w graph left ≡ grown w graph (suc w) edged left none
      unfolding clique grown
      opened_once =
          let v = fewest w graph edged left w in
          sym (cond_no (eqb v w) none (grown w graph w edged (candidates w graph left v) (set none v 1)) (ne_eqb v w (λ e. absurd (omega arith))))

      opened-clique : clique w graph left ≡ grown w graph w edged left none
      opened-clique = opened_once ∙ grown-enough w graph edged w left none (count-max (is_in left) w)

      only : (d : ℕ) → d < w → is_in (set none u 1) d ≡ eqb u d
      only d d< =
          by_equal d u
          (λ e.
          ap (is_in (set none u 1)) e ∙ ap (λ (v : ℕ). eqb v 1) (get_or-set_same none u 1 0 (omega (arith, length-replicate {A = ℕ} w 0))) ∙ sym (eq-eqb u d (sym e)))
          (λ e. put_other none u d e ∙ none_in d d< ∙ sym (ne_eqb u d (λ z. e (sym z))))

      -- the round of a column without edges: nothing is lowered
      single : k < 512 → Stands w graph (leave w graph left (clique w graph left)) (owned w graph owner (clique w graph left) g) (turn w graph g k r)
      unfolding leave owned
      single l =
          let few-u : among w graph (is_in left) u ≤ 0 = omega (arith, few left u h) in
          let lone : (d : ℕ) → d < w → near w graph (is_in left) u d ≡ false = count_none (near w graph (is_in left) u) w few-u in
          let q : List ℕ = set none u 1 in
          let after : Stands w graph (leave w graph left q) (owned w graph owner q g) (record { keys = set r.keys u gone; owner = set r.owner u g }) =
          record {
            counts = counted w graph (leave w graph left q) (set r.keys u gone)
                (leave_lone w graph both (is_in left) (is_in (leave w graph left q)) u h m
                (λ d d<. in_tab (remain left q) w d d< ∙ ap (λ (b : Bool). is_in left d && not b) (only d d<))
                r.keys p.keys-long (running w graph left r.keys p.counts) lone);
            numbers = numbers';
            keys-long = omega (arith, length-set r.keys u gone, p.keys-long);
            owner-long = omega (arith, length-set r.owner u g, p.owner-long);
          } in
          turned (lone_clique lone) (sym (turn_alone w graph g k u r l (sym column))) after
        where
          numbers' : (c : ℕ) → c < w → get_or (set r.owner u g) c 0 ≡ get_or (tab w (λ d. cond (is_in (set none u 1) d) g (get_or owner d 0))) c 0
          numbers' c c< =
              by_equal c u
              (λ e.
              ap (λ (i : ℕ). get_or (set r.owner u g) i 0) e ∙ get_or-set_same r.owner u g 0 (omega (arith, p.owner-long))
              ∙ sym (get_or-tab (λ d. cond (is_in (set none u 1) d) g (get_or owner d 0)) 0 w c c< ∙ cond_yes (is_in (set none u 1) c) g (get_or owner c 0) (only c c< ∙ eq-eqb u c (sym e))))
              (λ e.
              get_or-set_other r.owner u c g 0 e ∙ p.numbers c c<
              ∙ sym (get_or-tab (λ d. cond (is_in (set none u 1) d) g (get_or owner d 0)) 0 w c c< ∙ cond_no (is_in (set none u 1) c) g (get_or owner c 0) (only c c< ∙ ne_eqb u c (λ z. e (sym z)))))

      -- of a column with edges
      several : 512 ≤ k → Stands w graph (leave w graph left (clique w graph left)) (owned w graph owner (clique w graph left) g) (turn w graph g k r)
      unfolding start
      several l =
          let e = grows left w left none start (omega arith) begins in
          let x : Growth = growing w graph w start in
          turned opened-clique (sym (turn-opened w graph g k r start.cand x l refl refl)) (ends g (grown w graph w edged left none) e.0 x e.1)

  -- all rounds
  turns_are : (n g : ℕ) (left owner : List ℕ) (r : Stand) → Stands w graph left owner r → (c : ℕ) → c < w
      → get_or (turns w graph n g r).owner c 0 ≡ get_or (rounds w graph n g left owner) c 0
  unfolding turns rounds
  turns_are zero g left owner r p c h = p.numbers c h
  turns_are (suc n) g left owner r p c h =
      let k = least_key r.keys w in
      let q = clique w graph left in
      let es = tab w (edges w graph left) in
      let u = fewest w graph es left w in
      let r' = turns w graph n (g + 1) (turn w graph g k r) in
      let o' = rounds w graph n (g + 1) (leave w graph left q) (owned w graph owner q g) in
      either (least_found w graph es left r.keys wide (few_most left) (keyed_left left owner r p) w (omega arith))
      (λ f.
      ap (λ (x : Stand). get_or x.owner c 0) (cond_yes (eqb k gone) r r' (eq-eqb k gone f.1)) ∙ p.numbers c h
      ∙ sym (ap (λ (x : List ℕ). get_or x c 0) (cond_no (any w (is_in left)) o' owner (any_none (is_in left) w f.2))))
      (λ f.
      let most = few_most left u f.0 in
      let next : Stands w graph (leave w graph left q) (owned w graph owner q g) (turn w graph g k r) =
      by_less k 512 (single left owner r p g k u refl f.0 f.1 f.2) (several left owner r p g k u refl f.0 f.1 f.2) in
      ap (λ (x : Stand). get_or x.owner c 0) (cond_no (eqb k gone) r r' (ne_eqb k gone (λ e. absurd (omega (arith, f.0, f.2)))))
      ∙ turns_are n (g + 1) (leave w graph left q) (owned w graph owner q g) (turn w graph g k r) next c h
      ∙ sym (ap (λ (x : List ℕ). get_or x c 0) (cond_yes (any w (is_in left)) o' owner (any_of (is_in left) w u f.0 f.1))))

  -- the keys when all columns are left
  degree_is : (c : ℕ) → c < w → degree w graph c ≡ among w graph (is_in (replicate w 1)) c
  unfolding degree
  degree_is c h =
      let row : ℕ → Bool = λ d. is_in graph (c * w + d) in
      let all : ℕ → Bool = is_in (replicate w 1) in
      let total = sum-flags row w in
      let but : count w row ≡ among w graph all c + flag (row c) =
      count_but (near w graph all c) row c w h
      (λ d l n. ap₂ (λ (a b : Bool). a && not b && row d) (in_all w d l) (ne_eqb c d (λ e. n (sym e))))
      (ap₂ (λ (a b : Bool). a && not b && row c) (in_all w c h) (eq-eqb c c refl)) in
      omega arith

  first_stands : Stands w graph (replicate w 1) (replicate w 0) (record { keys = puts w (first_key w graph) (replicate 512 0); owner = replicate 512 0 })
  unfolding first_key
  first_stands =
      let ones : List ℕ = replicate w 1 in
      record {
        counts = counted w graph ones (puts w (first_key w graph) (replicate 512 0)) (λ c h. stored 512 w (first_key w graph) c wide h ∙ ap (λ (e : ℕ). e * 512 + c) (degree_is c h)
            ∙ sym (cond_yes (is_in ones c) (among w graph (is_in ones) c * 512 + c) gone (in_all w c h)));
        numbers = λ c h. get_or-replicate 512 c 0 0 (omega arith) ∙ sym (get_or-replicate w c 0 0 h);
        keys-long = omega (arith, length-puts (first_key w graph) w (replicate 512 0), length-replicate {A = ℕ} 512 0);
        owner-long = omega (arith, length-replicate {A = ℕ} 512 0);
      }

  pub turns-cover : (c : ℕ) → c < w
      → get_or (turns w graph w 0 (record { keys = puts w (first_key w graph) (replicate 512 0); owner = replicate 512 0 })).owner c 0
      ≡ get_or (cover w graph) c 0
  unfolding cover
  turns-cover c h =
      turns_are w 0 (replicate w 1) (replicate w 0) (record { keys = puts w (first_key w graph) (replicate 512 0); owner = replicate 512 0 }) first_stands c h
