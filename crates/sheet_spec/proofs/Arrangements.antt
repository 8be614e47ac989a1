-- Sheets with the same records, each as often, have the same values, the same refusal 1 to 6 and the same table (document 02, §4).
-- Assumes nothing.
use mathlib.Core.Path.{◌≡◌, refl, sym, ◌∙◌}
use mathlib.Core.Bool.{Bool, true}
use mathlib.Core.List.{List}
use Prim.Native.Nat.{ℕ, ◌^◌, ◌<◌}
use native.Mathlib.Omega.{arith}
use Rattle.laws.specs.Tests.{any}
use Rattle.laws.proofs.Cases.{same_test}
use Rattle.laws.proofs.Tests.{any_of, any_at, any_ext}
use Rattle.laws.proofs.Picked.{count_before, count_place}
use Rattle.laws.proofs.Lists.{get_or-tab, rect_ext}
use Rattle.sheet_spec.specs.Records.{record_count, byte, ordinary, stop, matches, forces0, forces1}
use Rattle.sheet_spec.specs.Job.{Job}
use Rattle.sheet_spec.specs.Values.{forced_to0, forced_to1, value_by, value, depends}
use Rattle.sheet_spec.specs.Refusals.{refuse3, malformed, any_malformed, refuse4, alike, common, opposed, clash, refuse5, above_input, refuse6, sheet_refusal}
use Rattle.sheet_spec.specs.Table.{table_at, table_of, table, table_after, fill_table}
use Rattle.sheet_spec.specs.SameRecords.{is_record, times_in, SameRecords, record_at}
use Rattle.sheet_spec.proofs.Permuted.{record_bytes_lem, bytes_record, same_length}

-- record r of s and record q of z are the same eight bytes
abbrev Same : List ℕ → ℕ → List ℕ → ℕ → Type 0
Same s r z q =
    (byte s r 0 ≡ byte z q 0) × (byte s r 1 ≡ byte z q 1) × (byte s r 2 ≡ byte z q 2) × (byte s r 3 ≡ byte z q 3)
    × (byte s r 4 ≡ byte z q 4)
    × (byte s r 5 ≡ byte z q 5)
    × (byte s r 6 ≡ byte z q 6)
    × (byte s r 7 ≡ byte z q 7)

same_bytes : (s : List ℕ) (r : ℕ) (z : List ℕ) (q : ℕ) → ((k : ℕ) → k < 8 → byte s r k ≡ byte z q k) → Same s r z q
same_bytes s r z q at =
    (at 0 (omega arith), at 1 (omega arith), at 2 (omega arith), at 3 (omega arith), at 4 (omega arith), at 5 (omega arith), at 6 (omega arith), at 7 (omega arith))

-- a record that stands in s stands in z
stands : (s z : List ℕ) → ((b : List ℕ) → times_in s b ≡ times_in z b) → (r : ℕ) → r < record_count s
    → (q : ℕ) × (q < record_count z) × ((k : ℕ) → k < 8 → byte s r k ≡ byte z q k)
unfolding times_in record_at
stands s z often r r< =
    let b = record_at s r in
    let here : is_record s b r ≡ true = bytes_record s b r (λ k k<. sym (get_or-tab (byte s r) 0 8 k k<)) in
    let once = count_before (is_record s b) (record_count s) r r< here in
    let (q, q<, is, first) = count_place (is_record z b) (record_count z) 0 (omega (arith, often b)) in
    (q, q<, λ k k<. sym (record_bytes_lem z b q is k k< ∙ get_or-tab (byte s r) 0 8 k k<))

module _ (s z : List ℕ) (h : SameRecords s z) where
  -- some record passes a test that looks at its bytes alone, or none in both
  any_same : (f g : ℕ → Bool) → ((r q : ℕ) → Same s r z q → f r ≡ g q) → any (record_count s) f ≡ any (record_count z) g
  any_same f g same =
      same_test (any (record_count s) f) (any (record_count z) g)
      (λ e.
      let (r, r<, p) = any_at f (record_count s) e in
      let (q, q<, at) = stands s z h.as_often r r< in
      any_of g (record_count z) q q< (sym (same r q (same_bytes s r z q at)) ∙ p))
      (λ e.
      let (q, q<, p) = any_at g (record_count z) e in
      let (r, r<, at) = stands z s (λ b. sym (h.as_often b)) q q< in
      any_of f (record_count s) r r< (same r q (same_bytes s r z q (λ k k<. sym (at k k<))) ∙ p))

  -- an output is forced by some record of kind k
  forced0_same : (k w o : ℕ) → forced_to0 s k w o ≡ forced_to0 z k w o
  unfolding forced_to0 matches forces0
  forced0_same k w o = any_same _ _ (λ r q is. rw (is.0, is.1, is.2, is.3, is.4, is.6) refl)

  forced1_same : (k w o : ℕ) → forced_to1 s k w o ≡ forced_to1 z k w o
  unfolding forced_to1 matches forces1
  forced1_same k w o = any_same _ _ (λ r q is. rw (is.0, is.1, is.2, is.3, is.5, is.6) refl)

  -- what the sheet says of an output for a word, and on which inputs that depends
  pub value_same : (w o : ℕ) → value s w o ≡ value z w o
  unfolding value value_by
  value_same w o = rw (forced0_same stop w o, forced1_same stop w o, forced0_same ordinary w o, forced1_same ordinary w o) refl

  depends-same : (n i o : ℕ) → depends n s i o ≡ depends n z i o
  unfolding depends
  depends-same n i o = any_ext _ _ (2 ^ n) (λ w w<. any_ext _ _ (2 ^ n) (λ v v<. rw (value_same w o, value_same v o) refl))

  -- refusals 3 to 6; 1 and 2 are of the job
  module _ (j : Job) where
    refuse3-same : refuse3 s ≡ refuse3 z
    unfolding refuse3
    refuse3-same = rw (same_length s z h) refl

    refuse4-same : refuse4 j s ≡ refuse4 j z
    unfolding refuse4 any_malformed malformed
    refuse4-same = any_same _ _ (λ r q is. rw (is.0, is.1, is.2, is.3, is.4, is.5, is.6, is.7) refl)

    refuse5-same : refuse5 j s ≡ refuse5 j z
    unfolding refuse5 clash alike opposed common matches forces0 forces1
    refuse5-same =
        any_same _ _
        (λ r q a. any_same _ _ (λ p u b. rw (a.0, a.1, a.2, a.3, a.4, a.6, b.0, b.1, b.2, b.3, b.5, b.6) refl))

    refuse6-same : refuse6 j s ≡ refuse6 j z
    unfolding refuse6 above_input
    refuse6-same = any_ext _ _ j.m (λ o o<. any_ext _ _ j.n (λ i i<. rw (depends-same j.n i o) refl))

    -- the least of them, and the table of the function
    pub refusal-same : sheet_refusal j s ≡ sheet_refusal j z
    unfolding sheet_refusal
    refusal-same = rw (refuse3-same, refuse4-same, refuse5-same, refuse6-same) refl

    pub table_same : table j s ≡ table j z
    unfolding table_of table_at
    table_same = rect_ext _ _ j.m (2 ^ j.n) (λ k x k< x<. value_same _ _)

    -- the answer and the lent table after
    pub fill_table-same : (old : List ℕ) → fill_table j s old ≡ fill_table j z old
    unfolding table_after
    fill_table-same old = rw (refusal-same, table_same) refl
