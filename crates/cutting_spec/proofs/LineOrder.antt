-- Line order does not matter (document 02, §4): two sheets with the same records, each as often, in any arrangement, have one outcome. So have two
-- that 3 refuses, as it does all that are not whole records.
-- Assumes nothing.
use mathlib.Core.Path.{◌≡◌, refl, ap}
use mathlib.Core.Bool.{true}
use mathlib.Core.List.{List}
use Prim.Native.Nat.{ℕ}
use Rattle.laws.proofs.Cases.{by_test}
use Rattle.sheet_spec.specs.Job.{Job}
use Rattle.sheet_spec.specs.Refusals.{refuse1, refuse2, refuse3, sheet_refusal}
use Rattle.sheet_spec.specs.Table.{table}
use Rattle.sheet_spec.specs.SameRecords.{SameRecords}
use Rattle.sheet_spec.proofs.Promises.{refusal-same, table_same}
use Rattle.reduction_spec.specs.declared.Node.{Node}
use Rattle.cutting_spec.specs.Compile.{made, compile_as}
use Rattle.cutting_spec.specs.Listing.{listing}

module _ (s z : List ℕ) (h : SameRecords s z) (j : Job) where
  -- the answer, a refusal's number or all totals and widths, and the three memories, for every job and every memory lent; held gives the
  -- nodes in the elements of the node memory
  pub compile-same : {A : Type 0} (held : List Node → List A) (nodes : List A) (records rows : List ℕ)
      → compile_as held nodes records rows j s ≡ compile_as held nodes records rows j z
  unfolding compile_as
  compile-same held nodes records rows = rw (refusal-same s z h j, table_same s z h j) refl

  -- the lines that the listing prints
  pub listing-same : listing j (made j (table j s)) ≡ listing j (made j (table j z))
  listing-same = ap (λ (f : List ℕ). listing j (made j f)) (table_same s z h j)

-- the refusal is 3, or the 1 or 2 of the job, and nothing lent changes
pub unread_same : (s z : List ℕ) → refuse3 s ≡ true → refuse3 z ≡ true → (j : Job) {A : Type 0} (held : List Node → List A) (nodes : List A) (records rows : List ℕ)
    → compile_as held nodes records rows j s ≡ compile_as held nodes records rows j z
unfolding compile_as sheet_refusal
unread_same s z e f j held nodes records rows =
    by_test (refuse1 j) (λ a. rw a refl) (λ a. by_test (refuse2 j) (λ b. rw (a, b) refl) (λ b. rw (a, b, e, f) refl))
