-- Refusal 6 as document 01 has it, by naming, and what became of it (document 02, §1): an output depends only on inputs that are named for it, so 6 comes
-- in fewer cases and never in new ones. The refusals of document 01, before both changes, and when they are those of today. Nothing else cites naming.
-- Assumes nothing.
use mathlib.Core.Path.{◌≡◌, refl, sym, ◌∙◌, ap, ap₂}
use mathlib.Core.Logic.{◌⊎◌, inl, inr}
use mathlib.Core.Bool.{Bool, true, false, cond, ◌&&◌, ◌||◌, and-false, or-true}
use mathlib.Core.List.{List}
use Prim.Native.Nat.{ℕ, ◌^◌, ◌<◌}
use lib.Dec.{eqb, ltb}
use lib.Bits.{bit_and, and_lt}
use Rattle.laws.specs.Tests.{any}
use Rattle.laws.specs.Bits.{bit, has}
use Rattle.laws.proofs.Cases.{by_test, by_equal, and_split, and_join}
use Rattle.laws.proofs.Tests.{any_of, any_at, any_out, any_ext}
use Rattle.laws.proofs.Bits.{has_and}
use Rattle.laws.proofs.Masks.{not-both, same-has}
use Rattle.sheet_spec.specs.Records.{record_count, kind, ordinary, stop, mask, values, matches, forces0, forces1}
use Rattle.sheet_spec.specs.Job.{Job, output_byte}
use Rattle.sheet_spec.specs.Values.{forced_to0, forced_to1, free, value_by, value, depends}
use Rattle.sheet_spec.specs.Refusals.{any_malformed, height_of, above_input, refuse1, refuse2, refuse3, refuse4, refuse6, sheet_refusal}
use Rattle.sheet_spec.proofs.RecordFields.{good_at}
use Rattle.sheet_spec.proofs.Dependence.{depends_at}
use Rattle.sheet_spec.proofs.StopRecords.{names}
use Rattle.sheet_spec.proofs.OrdinarySheets.{refuse4_before, refuse5_before, ordinary_unless_4, refuse4-kept, refuse5-kept, table_kept, Kept, kept_early}

-- an input is named for an output when some record names the output and tests the input
abbrev tests : List ℕ → ℕ → ℕ → Bool
tests s r i = has (mask s r) i

unfoldable pub named : List ℕ → ℕ → ℕ → Bool
named s i o = any (record_count s) (λ r. names s r o && tests s r i)

-- output o stands above input i, which is named for it
unfoldable pub above_named : Job → List ℕ → ℕ → ℕ → Bool
above_named j s o i = ltb (height_of j i) (height_of j (output_byte o)) && named s i o

-- 6 as it was, and the least refusal of document 01
unfoldable pub refuse6_named : Job → List ℕ → Bool
refuse6_named j s = any j.m (λ o. any j.n (above_named j s o))

unfoldable pub named_refusal : Job → List ℕ → ℕ
named_refusal j s =
    cond (refuse1 j) 1
    (cond (refuse2 j) 2
    (cond (refuse3 s) 3
    (cond (refuse4_before j s) 4
    (cond (refuse5_before j s) 5
    (cond (refuse6_named j s) 6 0)))))

-- words that differ in an input alone that is not named for the output
module _ (n m : ℕ) (s : List ℕ) (good : any_malformed n m s ≡ false) (i o : ℕ) (none : named s i o ≡ false) (w v : ℕ) (w< : w < 2 ^ n) (v< : v < 2 ^ n)
    (alone : (k : ℕ) → k < n → (k ≡ i → ⊥) → bit w k ≡ bit v k) where
  matched_alike : (r : ℕ) → r < record_count s → names s r o ≡ true → matches s r w ≡ matches s r v
  unfolding matches named
  matched_alike r r< e =
      let k = mask s r in
      let k< = (good_at n m s good r r<).mask_low in
      let untested : has k i ≡ false =
      by_test (has k i) (λ p. not-both (and_join e p) (any_out (λ q. names s q o && tests s q i) (record_count s) none r r<)) (λ p. p) in
      ap (λ (x : ℕ). eqb x (bit_and (values s r) k))
      (same-has n (bit_and w k) (bit_and v k) (and_lt n w k w< k<) (and_lt n v k v< k<)
      (λ a a<.
      has_and w k a
      ∙ by_equal a i
      (λ c.
      let off : has k a ≡ false = ap (has k) c ∙ untested in
      ap (λ (x : Bool). has w a && x) off ∙ and-false (has w a) ∙ sym (ap (λ (x : Bool). has v a && x) off ∙ and-false (has v a)))
      (λ c. ap (λ (x : ℕ). eqb x 1 && has k a) (alone a a< c))
      ∙ sym (has_and v k a)))

  forced_alike : (k : ℕ) (f : ℕ → Bool) → ((r : ℕ) → f r ≡ true → names s r o ≡ true)
      → any (record_count s) (λ r. eqb (kind s r) k && (matches s r w && f r)) ≡ any (record_count s) (λ r. eqb (kind s r) k && (matches s r v && f r))
  forced_alike k f h =
      any_ext (λ r. eqb (kind s r) k && (matches s r w && f r)) (λ r. eqb (kind s r) k && (matches s r v && f r)) (record_count s)
      (λ r r<.
      ap (λ (b : Bool). eqb (kind s r) k && b)
      (by_test (f r) (λ e. ap (λ (x : Bool). x && f r) (matched_alike r r< (h r e)))
      (λ e. ap (λ (x : Bool). matches s r w && x) e ∙ and-false (matches s r w) ∙ sym (ap (λ (x : Bool). matches s r v && x) e ∙ and-false (matches s r v)))))

  by_alike : (k d : ℕ) → value_by s k w o d ≡ value_by s k v o d
  unfolding value_by forced_to0 forced_to1
  by_alike k d =
      ap₂ (λ (a b : Bool). cond a 0 (cond b 1 d)) (forced_alike k (λ r. forces0 s r o) (λ r e. ap (λ (x : Bool). x || forces1 s r o) e))
      (forced_alike k (λ r. forces1 s r o) (λ r e. ap (λ (x : Bool). forces0 s r o || x) e ∙ or-true (forces0 s r o)))

  value-alike : value s w o ≡ value s v o
  unfolding value
  value-alike = by_alike stop (value_by s ordinary w o free) ∙ ap (value_by s stop v o) (by_alike ordinary free)

pub depends_named : (n m : ℕ) (s : List ℕ) → any_malformed n m s ≡ false → (i o : ℕ) → depends n s i o ≡ true → named s i o ≡ true
depends_named n m s good i o e =
    by_test (named s i o) (λ p. p)
    (λ p.
    let d = depends_at n s i o e in
    absurd (d.different (value-alike n m s good i o p d.w d.v d.w_small d.v_small d.alone)))

-- 6 by dependence is 6 by naming
pub fewer_6 : (j : Job) (s : List ℕ) → any_malformed j.n j.m s ≡ false → refuse6_named j s ≡ false → refuse6 j s ≡ false
unfolding refuse6 refuse6_named above_input above_named
fewer_6 j s good e =
    by_test (refuse6 j s)
    (λ p.
    let (o, o<, a) = any_at (λ o. any j.n (above_input j s o)) j.m p in
    let (i, i<, b) = any_at (above_input j s o) j.n a in
    let both = and_split (ltb (height_of j i) (height_of j (output_byte o))) (depends j.n s i o) b in
    not-both
    (any_of (λ o. any j.n (above_named j s o)) j.m o o<
    (any_of (above_named j s o) j.n i i< (and_join both.0 (depends_named j.n j.m s good i o both.1))))
    e)
    (λ p. p)

-- the least of refusals 1 to 6 and the table are as document 01 has them, or it was 4 or 6
pub kept_or_4_6 : (j : Job) (s : List ℕ) → Kept j s (named_refusal j s) ⊎ (named_refusal j s ≡ 4) ⊎ (named_refusal j s ≡ 6)
unfolding sheet_refusal named_refusal refuse4
kept_or_4_6 j s =
    by_test (refuse1 j) (λ a. inl (kept_early j s _ 0 (rw a refl) (rw a refl)))
    (λ a.
    by_test (refuse2 j) (λ b. inl (kept_early j s _ 1 (rw (a, b) refl) (rw (a, b) refl)))
    (λ b.
    by_test (refuse3 s) (λ c. inl (kept_early j s _ 2 (rw (a, b, c) refl) (rw (a, b, c) refl)))
    (λ c.
    by_test (refuse4_before j s) (λ d. inr (inl (rw (a, b, c, d) refl)))
    (λ d.
    let all = ordinary_unless_4 j s d in
    let d2 = refuse4-kept s all j ∙ d in
    by_test (refuse5_before j s)
    (λ e. let e2 = refuse5-kept s all j ∙ e in inl (kept_early j s _ 4 (rw (a, b, c, d2, e2) refl) (rw (a, b, c, d, e) refl)))
    (λ e.
    let e2 = refuse5-kept s all j ∙ e in
    by_test (refuse6_named j s) (λ f. inr (inr (rw (a, b, c, d, e, f) refl)))
    (λ f. inl (rw (a, b, c, d, d2, e, e2, f, fewer_6 j s d2 f) refl, λ z. table_kept s all j)))))))
