-- The least refusal, test by test, and what its absence gives.
-- Assumes nothing.
use mathlib.Core.Path.{◌≡◌, refl, sym, ◌∙◌}
use mathlib.Core.Bool.{true, false, not, ◌&&◌}
use mathlib.Core.List.{List}
use Prim.Native.Nat.{ℕ, suc, ◌≤◌, ◌%◌}
use native.Mathlib.Omega.{arith}
use lib.Dec.{leb, ltb, eqb}
use lib.ListN.{length}
use lib.Seq.{sets}
use borrow.Author.Tests.{leb-true, ltb-false, not-false, eq-eqb, ne_eqb}
use Rattle.laws.specs.Tests.{within}
use Rattle.laws.proofs.Cases.{by_test, and_split, or_split, cond_yes, cond_no}
use Rattle.sheet_spec.specs.Job.{Job, job}
use Rattle.sheet_spec.specs.Refusals.{out_of_range, not_each_once, refuse1, refuse2, refuse3, any_malformed, refuse4, sheet_refusal}
use Rattle.sheet_spec.specs.Table.{table_of, table_after}
use Rattle.sheet_spec.specs.Accepted.{Accepted}

-- numbers in range, and a sheet of a good length, are small
pub in_range : (n m k l : ℕ) → out_of_range n m k l ≡ false → (n ≤ 12) × (m ≤ 8)
unfolding out_of_range
in_range n m k l e =
    let all = not-false (within 1 12 n && within 1 8 m && within 2 12 k && within 1 16 l) e in
    let three = (and_split (within 1 12 n && within 1 8 m && within 2 12 k) (within 1 16 l) all).0 in
    let two = (and_split (within 1 12 n && within 1 8 m) (within 2 12 k) three).0 in
    let one = and_split (within 1 12 n) (within 1 8 m) two in
    (leb-true n 12 (and_split (leb 1 n) (leb n 12) one.0).1, leb-true m 8 (and_split (leb 1 m) (leb m 8) one.1).1)

pub short : (s : List ℕ) → refuse3 s ≡ false → length s ≤ 2048
unfolding refuse3
short s e = ltb-false 2048 (length s) (or_split (not (eqb (length s % 8) 0)) (ltb 2048 (length s)) e).1

module _ (n m k l : ℕ) (order s : List ℕ) where
  abbrev j : Job
  j = job n m k l order

  pub given1 : out_of_range n m k l ≡ true → sheet_refusal j s ≡ 1
  unfolding sheet_refusal refuse1
  given1 e = rw e refl

  module _ (e1 : out_of_range n m k l ≡ false) where
    pub given2 : not_each_once n m order ≡ true → sheet_refusal j s ≡ 2
    unfolding sheet_refusal refuse1 refuse2
    given2 e = rw (e1, e) refl

    module _ (e2 : not_each_once n m order ≡ false) where
      pub given3 : refuse3 s ≡ true → sheet_refusal j s ≡ 3
      unfolding sheet_refusal refuse1 refuse2
      given3 e = rw (e1, e2, e) refl

      module _ (e3 : refuse3 s ≡ false) where
        pub given4 : any_malformed n m s ≡ true → sheet_refusal j s ≡ 4
        unfolding sheet_refusal refuse1 refuse2 refuse4
        given4 e = rw (e1, e2, e3, e) refl

  -- a job and sheet that none of the six is given
  pub sheet-accepted : sheet_refusal j s ≡ 0 → Accepted n m order s
  sheet-accepted e =
      by_test (out_of_range n m k l) (λ t. other 0 (given1 t))
      (λ e1.
      by_test (not_each_once n m order) (λ t. other 1 (given2 e1 t))
      (λ e2.
      by_test (refuse3 s) (λ t. other 2 (given3 e1 e2 t))
      (λ e3.
      by_test (any_malformed n m s) (λ t. other 3 (given4 e1 e2 e3 t))
      (λ e4.
      let r = in_range n m k l e1 in
      record { inputs = r.0; outputs = r.1; order-whole = e2; length-good = e3; records-good = e4 }))))
    where
      other : (i : ℕ) → sheet_refusal j s ≡ suc i → Accepted n m order s
      other i f = let z : ◌≡◌ {A = ℕ} 0 (suc i) = sym e ∙ f in absurd (omega arith)

  -- the table after, in either case
  pub after_write : (old : List ℕ) → sheet_refusal j s ≡ 0 → sets old 0 (table_of n m order s) ≡ table_after j s old
  unfolding table_after
  after_write old e = sym (cond_yes (eqb (sheet_refusal j s) 0) (sets old 0 (table_of n m order s)) old (eq-eqb (sheet_refusal j s) 0 e))

  pub after-refusal : (old : List ℕ) → (sheet_refusal j s ≡ 0 → ⊥) → old ≡ table_after j s old
  unfolding table_after
  after-refusal old e = sym (cond_no (eqb (sheet_refusal j s) 0) (sets old 0 (table_of n m order s)) old (ne_eqb (sheet_refusal j s) 0 e))

-- the same of a job
pub job-accepted : (j : Job) (s : List ℕ) → sheet_refusal j s ≡ 0 → Accepted j.n j.m j.order s
job-accepted j s = sheet-accepted j.n j.m j.K j.L j.order s
