-- A clique that leaves, as the code takes it: its members as it grew, their marks, the tally of the members compatible with each column, and
-- the keys lowered by the tally.
-- Assumes nothing.
use mathlib.Core.Path.{◌≡◌, refl, sym, ◌∙◌, ap, ap₂}
use mathlib.Core.Logic.{◌⊎◌}
use mathlib.Core.List.{List}
use Prim.Native.Nat.{ℕ, zero, suc, ◌+◌, ◌-◌, ◌*◌, ◌/◌, ◌%◌, ◌<◌, ◌≤◌, min}
use native.Mathlib.Nat.{mod-lt, div-add-mod'}
use native.Mathlib.Numerals.{add-one}
use native.Mathlib.Omega.{arith}
use borrow.Author.Tests.{lt-ltb, le-ltb}
use lib.Arith.{digits_div, digits_mod}
use lib.Dec.{eqb, ltb}
use lib.ListN.{length, get_or, set, replicate, length-set, length-replicate, get_or-replicate, get_or-eq_default}
use lib.Seq.{get_or-set_same, get_or-set_other}
use Rattle.laws.specs.Bits.{flag}
use Rattle.laws.specs.Lists.{puts}
use Rattle.laws.proofs.Cases.{by_test, by_less, either, cond_yes, cond_no, cond_both}
use Rattle.laws.proofs.Counts.{count_next, count-max}
use Rattle.laws.proofs.Puts.{puts_over, puts-same, puts_ext, length-puts, get_or-puts, get_or_unput, stored}
use Rattle.reduction_spec.specs.Cover.{is_in}
use Rattle.reduction.specs.RunningKeys.{gone, fewer_by, partners, lowered_keys, stored_for, Growth, joining, growing, least_key}

-- a key lowered: what is gone stays so, and no more edges are taken than there are
pub fewer-gone : (j : ℕ) → fewer_by j gone ≡ gone
unfolding fewer_by
fewer-gone j = refl

pub fewer_taken : (j k : ℕ) → k < gone → k - min j (k / 512) * 512 ≡ fewer_by j k
unfolding fewer_by
fewer_taken j k left =
    let whole = div-add-mod' k 512 in
    by_less j (k / 512) (λ l. omega arith) (λ l. omega arith) ∙ sym (cond_yes (ltb k gone) ((k / 512 - j) * 512 + k % 512) k (lt-ltb k gone left))

-- the tally of the first members q compatible with each column
module _ (w : ℕ) (graph q : List ℕ) where
  abbrev pub tallied : ℕ → List ℕ
  tallied n = puts w (partners w graph n q) (replicate 512 0)

  partners-next : (i c : ℕ) → partners w graph (i + 1) q c ≡ partners w graph i q c + flag (is_in graph (get_or q i 0 * w + c))
  unfolding partners
  partners-next i c =
      count_next (λ k. is_in graph (get_or q k 0 * w + c)) i ∙ by_test (is_in graph (get_or q i 0 * w + c)) (λ t. rw t refl) (λ t. rw t (omega arith))

  module _ (wide : w ≤ 512) where
    pub tally_none : replicate 512 0 ≡ tallied 0
    unfolding partners
    tally_none = puts-same (partners w graph 0 q) w (replicate 512 0) 0 (λ c l. get_or-replicate 512 c 0 0 (omega arith))

    pub tally_few : (i : ℕ) (p : List ℕ) → p ≡ tallied i → i < 512 → (c : ℕ) → c < w → get_or p c 0 < 512
    unfolding partners
    tally_few i p e few c l =
        omega (arith, ap (λ (s : List ℕ). get_or s c 0) e ∙ stored 512 w (partners w graph i q) c wide l, count-max (λ k. is_in graph (get_or q k 0 * w + c)) i)

    pub tally_next : (i base : ℕ) (p r : List ℕ) → base ≡ get_or q i 0 * w → p ≡ tallied i
        → r ≡ puts w (λ d. get_or p d 0 + flag (is_in graph (base + d))) p → r ≡ tallied (i + 1)
    tally_next i base p r eb ep er =
        let f : ℕ → ℕ = partners w graph i q in
        er ∙ ap₂ (λ (b : ℕ) (s : List ℕ). puts w (λ d. get_or s d 0 + flag (is_in graph (b + d))) s) eb ep
        ∙ puts_over f (λ d. get_or (tallied i) d 0 + flag (is_in graph (get_or q i 0 * w + d))) (partners w graph (i + 1) q) w (replicate 512 0) 0
        (λ c l b. ap (λ (x : ℕ). x + flag (is_in graph (get_or q i 0 * w + c))) (stored 512 w f c wide l) ∙ sym (partners-next i c))

    -- the keys lowered by the tally are those lowered by the clique
    pub tally_lowers : (n : ℕ) (keys p r : List ℕ) → p ≡ tallied n → r ≡ puts w (λ c. fewer_by (get_or p c 0) (get_or keys c 0)) keys → r ≡ lowered_keys w graph n q keys
    unfolding lowered_keys
    tally_lowers n keys p r ep er =
        er
        ∙ puts_ext (λ c. fewer_by (get_or p c 0) (get_or keys c 0)) (λ c. fewer_by (partners w graph n q c) (get_or keys c 0)) w keys
        (λ c l. ap (λ (j : ℕ). fewer_by j (get_or keys c 0)) (ap (λ (s : List ℕ). get_or s c 0) ep ∙ stored 512 w (partners w graph n q) c wide l))

-- what a clique does to the numbers of edges, whatever the keys were: that of a column which remains falls by the members compatible with
-- it, never below 0, and any other key is as it was
module _ (w : ℕ) (graph : List ℕ) (n : ℕ) (q keys : List ℕ) where
  abbrev after : ℕ → ℕ
  after c = get_or (lowered_keys w graph n q keys) c 0

  pub number_falls : (c : ℕ) → c < w → c < length keys → get_or keys c 0 < gone
      → (after c / 512 ≡ get_or keys c 0 / 512 - partners w graph n q c) × (after c % 512 ≡ get_or keys c 0 % 512)
  unfolding lowered_keys fewer_by
  number_falls c h long left =
      let k = get_or keys c 0 in
      let e = k / 512 - partners w graph n q c in
      let low = mod-lt k {m = 512} (omega arith) in
      let new : after c ≡ e * 512 + k % 512 =
      get_or-puts (λ d. fewer_by (partners w graph n q d) (get_or keys d 0)) w keys 0 c h long ∙ cond_yes (ltb k gone) (e * 512 + k % 512) k (lt-ltb k gone left) in
      (ap (λ (x : ℕ). x / 512) new ∙ digits_div e low, ap (λ (x : ℕ). x % 512) new ∙ digits_mod e low)

  pub number_stays : (c : ℕ) → (w ≤ c) ⊎ (gone ≤ get_or keys c 0) → after c ≡ get_or keys c 0
  unfolding lowered_keys fewer_by
  number_stays c other =
      let f : ℕ → ℕ = λ d. fewer_by (partners w graph n q d) (get_or keys d 0) in
      let past : w ≤ c → after c ≡ get_or keys c 0 = λ l. get_or_unput f w keys 0 c l in
      either other past
      (λ l.
      by_less c w
      (λ h.
      by_less c (length keys)
      (λ long. get_or-puts f w keys 0 c h long ∙ cond_no (ltb (get_or keys c 0) gone) _ (get_or keys c 0) (le-ltb (get_or keys c 0) gone l))
      (λ short. get_or-eq_default (puts w f keys) 0 (omega (arith, length-puts f w keys)) ∙ sym (get_or-eq_default keys 0 short)))
      past)

-- a value stored for one member more
pub stored-none : (v : ℕ) (q l : List ℕ) → l ≡ stored_for v 0 q l
unfolding stored_for
stored-none v q l = refl

pub stored_next : (v i u : ℕ) (q l p : List ℕ) → p ≡ stored_for v i q l → u ≡ get_or q i 0 → set p u v ≡ stored_for v (i + 1) q l
unfolding stored_for
stored_next v i u q l p e f = rw (e, f, add-one i) refl

-- what a clique grown holds: at most so many members, each a column's number
pub record Few (s : Growth) (most : ℕ) : Type 0 where
  pub count-few : s.count ≤ most
  pub low : (i : ℕ) → i < s.count → get_or s.members i 0 < 512
  pub room : length s.members ≡ 512

module _ (w : ℕ) (graph : List ℕ) where
  few_joins : (u : ℕ) (s : Growth) (most : ℕ) → u < 512 → most < 512 → Few s most → Few (joining w graph u s) (suc most)
  unfolding joining
  few_joins u s most h l f =
      record {
        count-few = omega (arith, f.count-few);
        low = λ i k.
            by_less i s.count (λ b. omega (arith, get_or-set_other s.members s.count i u 0 (λ e. absurd (omega arith)), f.low i b))
            (λ b.
            let e : i ≡ s.count = omega arith in
            omega (arith, ap (λ (x : ℕ). get_or (set s.members s.count u) x 0) e, get_or-set_same s.members s.count u 0 (omega (arith, f.room, f.count-few))));
        room = length-set s.members s.count u ∙ f.room;
      }

  growing-few : (n : ℕ) (s : Growth) (most : ℕ) → most + n ≤ 512 → Few s most → Few (growing w graph n s) (most + n)
  unfolding growing
  growing-few zero s most h f = let e : most + 0 ≡ most = omega arith in rw e f
  growing-few (suc n) s most h f =
      let k = least_key s.cand w in
      let e : suc most + n ≡ most + suc n = omega arith in
      let more : Few (growing w graph n (joining w graph (k % 512) s)) (most + suc n) =
      rw (← e) (growing-few n (joining w graph (k % 512) s) (suc most) (omega arith) (few_joins (k % 512) s most (mod-lt k (omega arith)) (omega arith) f)) in
      let same : Few s (most + suc n) = record { count-few = omega (arith, f.count-few); low = f.low; room = f.room } in
      cond_both (λ (x : Growth). Few x (most + suc n)) (eqb k gone) same more

  -- from none on
  pub grown-few : (cand : List ℕ) (r : Growth) → w ≤ 512 → r ≡ growing w graph w (record { cand = cand; members = replicate 512 0; count = 0 }) → Few r 512
  grown-few cand r wide e =
      let start : Growth = record { cand = cand; members = replicate 512 0; count = 0 } in
      let f = growing-few w start 0 (omega arith) (record { count-few = omega arith; low = λ i l. absurd (omega arith); room = length-replicate {A = ℕ} 512 0 }) in
      rw e (record { count-few = omega (arith, f.count-few); low = f.low; room = f.room })
