-- What the kinds of records do to a value (document 02, §3). On an accepted sheet records of one kind never force an output both ways for a word. A stop record decides of each output
-- that it names, at every word that it matches; where no stop record names an output, the ordinary records decide; where no record does, it is free.
-- Assumes nothing.
use mathlib.Core.Path.{◌≡◌, refl, sym, ◌∙◌, ap, ap₂}
use mathlib.Core.Bool.{Bool, true, false, cond, ◌&&◌, ◌||◌}
use mathlib.Core.List.{List}
use Prim.Native.Nat.{ℕ, ◌%◌, ◌^◌, ◌<◌}
use native.Mathlib.Nat.{mod-eq_of_lt, mod-lt}
use native.Mathlib.Omega.{arith}
use lib.Dec.{eqb}
use lib.Bits.{bit_and, and_le_r, and_mod}
use lib.Pow.{pow_pos}
use borrow.Author.Tests.{eq-eqb, eqb-true}
use Rattle.laws.specs.Tests.{any}
use Rattle.laws.proofs.Cases.{by_test, cond_yes, cond_no, cond-zero, and_join, or_split}
use Rattle.laws.proofs.Tests.{any_of, any_none, any_ext}
use Rattle.laws.proofs.Masks.{not-both}
use Rattle.sheet_spec.specs.Job.{Job}
use Rattle.sheet_spec.specs.Records.{record_count, kind, ordinary, stop, mask, values, matches, forces0, forces1}
use Rattle.sheet_spec.specs.Values.{forced_to0, forced_to1, free, value_by, value}
use Rattle.sheet_spec.specs.Refusals.{any_malformed, refuse1, refuse2, refuse3, refuse4, refuse5, sheet_refusal}
use Rattle.sheet_spec.proofs.LeastRefusal.{job-accepted}
use Rattle.sheet_spec.proofs.RecordFields.{good_at}
use Rattle.sheet_spec.proofs.Clashes.{never_both}

-- a record names an output that it forces
abbrev pub names : List ℕ → ℕ → ℕ → Bool
names s r o = forces0 s r o || forces1 s r o

-- bits of a word outside the inputs have no effect
module _ (n m : ℕ) (s : List ℕ) (good : any_malformed n m s ≡ false) where
  matches-low : (w r : ℕ) → r < record_count s → matches s r w ≡ matches s r (w % 2 ^ n)
  unfolding matches
  matches-low w r l =
      let k = mask s r in
      let k< = (good_at n m s good r l).mask_low in
      let less = and_le_r w k in
      let small : bit_and w k < 2 ^ n = omega arith in
      ap (λ (y : ℕ). eqb y (bit_and (values s r) k)) (sym (mod-eq_of_lt small) ∙ and_mod w k n ∙ ap (bit_and (w % 2 ^ n)) (mod-eq_of_lt k<))

  forced_low : (f : ℕ → Bool) (k w : ℕ)
      → any (record_count s) (λ r. eqb (kind s r) k && (matches s r w && f r)) ≡ any (record_count s) (λ r. eqb (kind s r) k && (matches s r (w % 2 ^ n) && f r))
  forced_low f k w =
      any_ext (λ r. eqb (kind s r) k && (matches s r w && f r)) (λ r. eqb (kind s r) k && (matches s r (w % 2 ^ n) && f r)) (record_count s)
      (λ r l. ap (λ (b : Bool). eqb (kind s r) k && (b && f r)) (matches-low w r l))

  forced_low_0 : (k w o : ℕ) → forced_to0 s k w o ≡ forced_to0 s k (w % 2 ^ n) o
  unfolding forced_to0
  forced_low_0 k w o = forced_low (λ r. forces0 s r o) k w

  forced_low_1 : (k w o : ℕ) → forced_to1 s k w o ≡ forced_to1 s k (w % 2 ^ n) o
  unfolding forced_to1
  forced_low_1 k w o = forced_low (λ r. forces1 s r o) k w

  by_low : (k w o d : ℕ) → value_by s k w o d ≡ value_by s k (w % 2 ^ n) o d
  unfolding value_by
  by_low k w o d = ap₂ (λ (a b : Bool). cond a 0 (cond b 1 d)) (forced_low_0 k w o) (forced_low_1 k w o)

  pub value_low : (w o : ℕ) → value s w o ≡ value s (w % 2 ^ n) o
  unfolding value
  value_low w o =
      by_low stop w o (value_by s ordinary w o free) ∙ ap (value_by s stop (w % 2 ^ n) o) (by_low ordinary w o free)

-- records of kind k none of which both matches the word and names the output leave it to the others
unnamed : (s : List ℕ) (k w o d : ℕ) → ((r : ℕ) → r < record_count s → kind s r ≡ k → matches s r w ≡ true → names s r o ≡ false) → value_by s k w o d ≡ d
unfolding value_by forced_to0 forced_to1
unnamed s k w o d none =
    ap₂ (λ (a b : Bool). cond a 0 (cond b 1 d))
    (absent (λ r. forces0 s r o) (λ r p. (or_split (forces0 s r o) (forces1 s r o) p).0))
    (absent (λ r. forces1 s r o) (λ r p. (or_split (forces0 s r o) (forces1 s r o) p).1))
  where
    absent : (f : ℕ → Bool) → ((r : ℕ) → names s r o ≡ false → f r ≡ false) → any (record_count s) (λ r. eqb (kind s r) k && (matches s r w && f r)) ≡ false
    absent f h =
        any_none (λ r. eqb (kind s r) k && (matches s r w && f r)) (record_count s)
        (λ r r<.
        by_test (eqb (kind s r) k)
        (λ p.
        by_test (matches s r w) (λ q. rw (p, q, h r (none r r< (eqb-true (kind s r) k p) q)) refl) (λ q. rw (p, q) refl))
        (λ p. rw p refl))

-- an accepted sheet, a word of any bits and an output
module _ (j : Job) (s : List ℕ) (e : sheet_refusal j s ≡ 0) (w o : ℕ) (o< : o < j.m) where
  good : any_malformed j.n j.m s ≡ false
  good = (job-accepted j s e).records-good

  no_clash : refuse5 j s ≡ false
  unfolding sheet_refusal
  no_clash =
      let a = cond-zero (refuse1 j) 0 _ e in
      let b = cond-zero (refuse2 j) 1 _ a.1 in
      let c = cond-zero (refuse3 s) 2 _ b.1 in
      let d = cond-zero (refuse4 j s) 3 _ c.1 in
      (cond-zero (refuse5 j s) 4 _ d.1).0

  -- records of one kind force an output one way at most
  pub one_way : (k : ℕ) → (forced_to0 s k w o && forced_to1 s k w o) ≡ false
  unfolding refuse5
  one_way k =
      ap₂ ◌&&◌ (forced_low_0 j.n j.m s good k w o) (forced_low_1 j.n j.m s good k w o)
      ∙ never_both j.n j.m s no_clash k (w % 2 ^ j.n) o (mod-lt w (pow_pos j.n)) o<

  module _ (r : ℕ) (r< : r < record_count s) (hit : matches s r w ≡ true) where
    by_0 : (d : ℕ) → forces0 s r o ≡ true → value_by s (kind s r) w o d ≡ 0
    unfolding value_by forced_to0
    by_0 d f =
        let k = kind s r in
        let forced : forced_to0 s k w o ≡ true =
        any_of (λ q. eqb (kind s q) k && (matches s q w && forces0 s q o)) (record_count s) r r< (and_join (eq-eqb k k refl) (and_join hit f)) in
        cond_yes (forced_to0 s k w o) 0 (cond (forced_to1 s k w o) 1 d) forced

    by_1 : (d : ℕ) → forces1 s r o ≡ true → value_by s (kind s r) w o d ≡ 1
    unfolding value_by forced_to1
    by_1 d f =
        let k = kind s r in
        let forced : forced_to1 s k w o ≡ true =
        any_of (λ q. eqb (kind s q) k && (matches s q w && forces1 s q o)) (record_count s) r r< (and_join (eq-eqb k k refl) (and_join hit f)) in
        by_test (forced_to0 s k w o) (λ z. not-both (and_join z forced) (one_way k))
        (λ z. cond_no (forced_to0 s k w o) 0 (cond (forced_to1 s k w o) 1 d) z ∙ cond_yes (forced_to1 s k w o) 1 d forced)

    pub stop_decides : kind s r ≡ stop → (forces0 s r o ≡ true → value s w o ≡ 0) × (forces1 s r o ≡ true → value s w o ≡ 1)
    unfolding value
    stop_decides k =
        let d = value_by s ordinary w o free in
        (λ f. ap (λ (x : ℕ). value_by s x w o d) (sym k) ∙ by_0 d f, λ f. ap (λ (x : ℕ). value_by s x w o d) (sym k) ∙ by_1 d f)

  module _ (none : (q : ℕ) → q < record_count s → kind s q ≡ stop → matches s q w ≡ true → names s q o ≡ false) where
    unstopped : value s w o ≡ value_by s ordinary w o free
    unfolding value
    unstopped = unnamed s stop w o (value_by s ordinary w o free) none

    pub ordinary_decides : (r : ℕ) → r < record_count s → matches s r w ≡ true → kind s r ≡ ordinary
        → (forces0 s r o ≡ true → value s w o ≡ 0) × (forces1 s r o ≡ true → value s w o ≡ 1)
    ordinary_decides r r< hit k = (
      λ f. unstopped ∙ ap (λ (x : ℕ). value_by s x w o free) (sym k) ∙ by_0 r r< hit free f,
      λ f. unstopped ∙ ap (λ (x : ℕ). value_by s x w o free) (sym k) ∙ by_1 r r< hit free f,
    )

    pub free_unnamed : ((q : ℕ) → q < record_count s → kind s q ≡ ordinary → matches s q w ≡ true → names s q o ≡ false) → value s w o ≡ free
    free_unnamed others = unstopped ∙ unnamed s ordinary w o free others
