-- Sheets without stop records (document 02, §3): values, table and refusals are as they were when each matching record forced, any two records could clash and byte 6 had to be 0.
-- The definitions before stop records stand here, and nothing else cites them but what keeps to them.
-- Assumes nothing.
use mathlib.Core.Path.{◌≡◌, refl, sym, ◌∙◌, ap, ap₂}
use mathlib.Core.Logic.{◌⊎◌, inl, inr}
use mathlib.Core.Bool.{Bool, false, not, cond, ◌&&◌}
use mathlib.Core.List.{List}
use Prim.Native.Nat.{ℕ, suc, ◌+◌, ◌^◌, ◌<◌}
use native.Mathlib.Omega.{arith}
use lib.Dec.{eqb, ltb}
use lib.ListN.{get_or}
use lib.Bits.{bit_and}
use borrow.Author.Tests.{eqb-true, not-false}
use Rattle.laws.specs.Tests.{any}
use Rattle.laws.specs.Lists.{rect}
use Rattle.laws.proofs.Cases.{by_test, and_split}
use Rattle.laws.proofs.Tests.{any_none, any_out, any_ext}
use Rattle.laws.proofs.Lists.{rect_ext}
use Rattle.sheet_spec.specs.Records.{record_count, byte, kind, ordinary, stop, mask, values, zeros, ones, matches, forces0, forces1}
use Rattle.sheet_spec.specs.Job.{Job, inputs_to, outputs_to, word_of, output_byte}
use Rattle.sheet_spec.specs.Values.{forced_to0, forced_to1, free, value_by, value, differ_alone, depends}
use Rattle.sheet_spec.specs.Refusals.{malformed, any_malformed, alike, common, opposed, clash, height_of, above_input, refuse1, refuse2, refuse3, refuse4, refuse5, refuse6, sheet_refusal}
use Rattle.sheet_spec.specs.Table.{table_at, table_of, table}

-- an output is 0 or 1 for a word if a matching record forces it, else free
unfoldable pub value_before : List ℕ → ℕ → ℕ → ℕ
value_before s w o =
    cond (any (record_count s) (λ r. matches s r w && forces0 s r o)) 0 (cond (any (record_count s) (λ r. matches s r w && forces1 s r o)) 1 free)

unfoldable pub table_before : Job → List ℕ → List ℕ
table_before j s =
    let t = j.n + j.m in
    rect j.m (2 ^ j.n) (λ k x. value_before s (word_of (inputs_to t j.order t) x) (get_or (outputs_to t j.order t) k 0))

-- 4: a bit outside n or m, a value bit outside the mask, one output in bytes 4 and 5, or 6 and 7 not zero
unfoldable pub malformed_before : ℕ → ℕ → List ℕ → ℕ → Bool
malformed_before n m s r =
    not
    (ltb (mask s r) (2 ^ n) && ltb (values s r) (2 ^ n) && ltb (zeros s r) (2 ^ m) && ltb (ones s r) (2 ^ m)
    && eqb (bit_and (values s r) (mask s r)) (values s r)
    && eqb (bit_and (zeros s r) (ones s r)) 0
    && eqb (byte s r 6) 0
    && eqb (byte s r 7) 0)

unfoldable pub refuse4_before : Job → List ℕ → Bool
refuse4_before j s = any (record_count s) (malformed_before j.n j.m s)

-- 5: two records match a common word and force one output both ways
unfoldable pub refuse5_before : Job → List ℕ → Bool
refuse5_before j s = any (record_count s) (λ r. any (record_count s) (λ q. opposed j.m s r q && common j.n s r q))

-- 6: an output stands above an input on which it depends
unfoldable pub depends_before : ℕ → List ℕ → ℕ → ℕ → Bool
depends_before n s i o = any (2 ^ n) (λ w. any (2 ^ n) (λ v. differ_alone i w v && not (eqb (value_before s w o) (value_before s v o))))

unfoldable pub refuse6_before : Job → List ℕ → Bool
refuse6_before j s = any j.m (λ o. any j.n (λ i. ltb (height_of j i) (height_of j (output_byte o)) && depends_before j.n s i o))

unfoldable pub refusal_before : Job → List ℕ → ℕ
refusal_before j s =
    cond (refuse1 j) 1
    (cond (refuse2 j) 2
    (cond (refuse3 s) 3
    (cond (refuse4_before j s) 4
    (cond (refuse5_before j s) 5
    (cond (refuse6_before j s) 6 0)))))

-- no record is a stop record, and none is of a kind that is not listed
abbrev pub AllOrdinary : List ℕ → Type 0
AllOrdinary s = (r : ℕ) → r < record_count s → kind s r ≡ ordinary

module _ (s : List ℕ) (all : AllOrdinary s) where
  by_stop : (w : ℕ) (f : ℕ → Bool) → any (record_count s) (λ r. eqb (kind s r) stop && (matches s r w && f r)) ≡ false
  by_stop w f =
      any_none (λ r. eqb (kind s r) stop && (matches s r w && f r)) (record_count s) (λ r r<. ap (λ (k : ℕ). eqb k stop && (matches s r w && f r)) (all r r<))

  by_ordinary : (w : ℕ) (f : ℕ → Bool)
      → any (record_count s) (λ r. eqb (kind s r) ordinary && (matches s r w && f r)) ≡ any (record_count s) (λ r. matches s r w && f r)
  by_ordinary w f =
      any_ext (λ r. eqb (kind s r) ordinary && (matches s r w && f r)) (λ r. matches s r w && f r) (record_count s)
      (λ r r<. ap (λ (k : ℕ). eqb k ordinary && (matches s r w && f r)) (all r r<))

  pub value-kept : (w o : ℕ) → value s w o ≡ value_before s w o
  unfolding value value_by value_before forced_to0 forced_to1
  value-kept w o =
      let said : ℕ → Bool → Bool → ℕ = λ d a b. cond a 0 (cond b 1 d) in
      ap₂ (said (value_by s ordinary w o free)) (by_stop w (λ r. forces0 s r o)) (by_stop w (λ r. forces1 s r o))
      ∙ ap₂ (said free) (by_ordinary w (λ r. forces0 s r o)) (by_ordinary w (λ r. forces1 s r o))

  module _ (j : Job) where
    pub table_kept : table j s ≡ table_before j s
    unfolding table_of table_at table_before
    table_kept =
        let t = j.n + j.m in
        let at : (ℕ → ℕ → ℕ) → ℕ → ℕ → ℕ = λ v k x. v (word_of (inputs_to t j.order t) x) (get_or (outputs_to t j.order t) k 0) in
        rect_ext (at (value s)) (at (value_before s)) j.m (2 ^ j.n) (λ k x k< x<. value-kept _ _)

    pub refuse4-kept : refuse4 j s ≡ refuse4_before j s
    unfolding refuse4 refuse4_before any_malformed malformed malformed_before
    refuse4-kept =
        any_ext (malformed j.n j.m s) (malformed_before j.n j.m s) (record_count s) (λ r r<. rw (all r r<) refl)

    pub refuse5-kept : refuse5 j s ≡ refuse5_before j s
    unfolding refuse5 refuse5_before clash alike
    refuse5-kept =
        any_ext (λ r. any (record_count s) (clash j.n j.m s r)) (λ r. any (record_count s) (λ q. opposed j.m s r q && common j.n s r q)) (record_count s)
        (λ r r<.
        any_ext (clash j.n j.m s r) (λ q. opposed j.m s r q && common j.n s r q) (record_count s)
        (λ q q<. ap₂ (λ (a b : ℕ). eqb a b && (opposed j.m s r q && common j.n s r q)) (all r r<) (all q q<)))

    depends-kept : (i o : ℕ) → depends j.n s i o ≡ depends_before j.n s i o
    unfolding depends depends_before
    depends-kept i o =
        let apart : (ℕ → ℕ → ℕ) → ℕ → ℕ → Bool = λ f w v. differ_alone i w v && not (eqb (f w o) (f v o)) in
        any_ext (λ w. any (2 ^ j.n) (apart (value s) w)) (λ w. any (2 ^ j.n) (apart (value_before s) w)) (2 ^ j.n)
        (λ w w<.
        any_ext (apart (value s) w) (apart (value_before s) w) (2 ^ j.n)
        (λ v v<. ap₂ (λ (a b : ℕ). differ_alone i w v && not (eqb a b)) (value-kept w o) (value-kept v o)))

    pub refuse6-kept : refuse6 j s ≡ refuse6_before j s
    unfolding refuse6 refuse6_before above_input
    refuse6-kept =
        let above : (ℕ → ℕ → Bool) → ℕ → ℕ → Bool = λ d o i. ltb (height_of j i) (height_of j (output_byte o)) && d i o in
        any_ext (λ o. any j.n (above (depends j.n s) o)) (λ o. any j.n (above (depends_before j.n s) o)) j.m
        (λ o o<.
        any_ext (above (depends j.n s) o) (above (depends_before j.n s) o) j.n
        (λ i i<. ap (λ (b : Bool). ltb (height_of j i) (height_of j (output_byte o)) && b) (depends-kept i o)))

    pub refusal-kept : sheet_refusal j s ≡ refusal_before j s
    unfolding sheet_refusal refusal_before
    refusal-kept = rw (refuse4-kept, refuse5-kept, refuse6-kept) refl

-- a sheet that 4 was not given is one
unmarked : (n m : ℕ) (s : List ℕ) (r : ℕ) → malformed_before n m s r ≡ false → kind s r ≡ ordinary
unfolding malformed_before
unmarked n m s r e =
    let fields =
    ltb (mask s r) (2 ^ n) && ltb (values s r) (2 ^ n) && ltb (zeros s r) (2 ^ m) && ltb (ones s r) (2 ^ m)
    && eqb (bit_and (values s r) (mask s r)) (values s r)
    && eqb (bit_and (zeros s r) (ones s r)) 0 in
    let first = fields && eqb (byte s r 6) 0 in
    let six = (and_split first (eqb (byte s r 7) 0) (not-false (first && eqb (byte s r 7) 0) e)).0 in
    eqb-true (byte s r 6) 0 (and_split fields (eqb (byte s r 6) 0) six).1

pub ordinary_unless_4 : (j : Job) (s : List ℕ) → refuse4_before j s ≡ false → AllOrdinary s
unfolding refuse4_before
ordinary_unless_4 j s e r r< = unmarked j.n j.m s r (any_out (malformed_before j.n j.m s) (record_count s) e r r<)

-- the number and, where it is 0, the table are those of before
abbrev pub Kept : Job → List ℕ → ℕ → Type 0
Kept j s n = (sheet_refusal j s ≡ n) × (n ≡ 0 → table j s ≡ table_before j s)

pub kept_early : (j : Job) (s : List ℕ) (n i : ℕ) → sheet_refusal j s ≡ suc i → n ≡ suc i → Kept j s n
kept_early j s n i p q = (p ∙ sym q, λ z. let e : ◌≡◌ {A = ℕ} 0 (suc i) = sym z ∙ q in absurd (omega arith))

pub kept_or_4 : (j : Job) (s : List ℕ) → Kept j s (refusal_before j s) ⊎ (refusal_before j s ≡ 4)
unfolding sheet_refusal refusal_before
kept_or_4 j s =
    by_test (refuse1 j) (λ a. inl (kept_early j s _ 0 (rw a refl) (rw a refl)))
    (λ a.
    by_test (refuse2 j) (λ b. inl (kept_early j s _ 1 (rw (a, b) refl) (rw (a, b) refl)))
    (λ b.
    by_test (refuse3 s) (λ c. inl (kept_early j s _ 2 (rw (a, b, c) refl) (rw (a, b, c) refl)))
    (λ c.
    by_test (refuse4_before j s) (λ d. inr (rw (a, b, c, d) refl))
    (λ d.
    let all = ordinary_unless_4 j s d in
    inl (refusal-kept s all j, λ z. table_kept s all j)))))
