-- Each output of a cell is the variable of a record.
-- Assumes nothing.
use mathlib.Core.Path.{◌≡◌, sym, ◌∙◌, ap}
use mathlib.Core.Bool.{true, false, not, false≢true}
use mathlib.Core.List.{List, [], ◌∷◌, ◌++◌}
use Prim.Native.Nat.{ℕ, zero, suc, ◌-◌, ◌<◌}
use native.Mathlib.Nat.{not-suc-le-zero}
use native.Mathlib.Omega.{arith}
use lib.Dec.{eqb}
use lib.ListN.{length, get_or}
use borrow.Author.Tests.{eqb-true, ltb-false}
use Rattle.laws.proofs.Cases.{by_test, last_or_below, cond_both}
use Rattle.laws.proofs.Tests.{any_at}
use Rattle.sheet_spec.specs.Job.{is_input, output_byte}
use Rattle.stored_spec.specs.StoredForm.{member, StoredCell, Reading, record_count, variable, cut_byte, rail_byte, appended, with_variable, with_cut, reading, stored_cells, cell_count, no_cell, cell_at}
use Rattle.stored_spec.proofs.StoredCells.{longer, earlier, latest}
use Rattle.stored_spec.proofs.OneCell.{member-snoc, seen, seen_more, seen_here}

-- what n records have read: outputs of the cells are variables seen
pub record OutputsSeen (R : List ℕ) (n : ℕ) (s : Reading) : Type 0 where
  pub ended : (k o : ℕ) → k < length s.ended → member o (get_or s.ended k no_cell).outs ≡ true → seen R n (output_byte o) ≡ true
  pub begun : (o : ℕ) → member o s.outs ≡ true → seen R n (output_byte o) ≡ true

with_variable_lem : (R : List ℕ) (n : ℕ) (s : Reading) → OutputsSeen R n s → OutputsSeen R (suc n) (with_variable s (variable R n))
unfolding with_variable
with_variable_lem R n s h =
    record { ended = λ k o l p. seen_more R n (output_byte o) (h.ended k o l p); begun = by_test (is_input v) kept more }
  where
    v : ℕ
    v = variable R n

    old : (o : ℕ) → member o s.outs ≡ true → seen R (suc n) (output_byte o) ≡ true
    old o p = seen_more R n (output_byte o) (h.begun o p)

    kept : is_input v ≡ true → (o : ℕ) → member o (appended (not (is_input v)) s.outs (v - 128)) ≡ true → seen R (suc n) (output_byte o) ≡ true
    kept i o p = old o (rw i at p)

    more : is_input v ≡ false → (o : ℕ) → member o (appended (not (is_input v)) s.outs (v - 128)) ≡ true → seen R (suc n) (output_byte o) ≡ true
    more i o p =
        by_test (member o s.outs) (old o)
        (λ q.
        let e : o ≡ v - 128 = member-snoc o s.outs (v - 128) (rw i at p) q in
        let same : output_byte o ≡ v = omega (arith, ltb-false v 128 i) in
        ap (seen R (suc n)) same ∙ seen_here R n)

with_cut_lem : (R : List ℕ) (n : ℕ) (s : Reading) (r : ℕ) → OutputsSeen R n s → OutputsSeen R n (with_cut s r)
unfolding with_cut
with_cut_lem R n s r h =
    let c : StoredCell = record { ins = s.ins; outs = s.outs; upper = s.upper; lower = r } in
    let more : List StoredCell = s.ended ++ (c ∷ []) in
    let was : (k o : ℕ) (d : StoredCell) → get_or more k no_cell ≡ d → member o (get_or more k no_cell).outs ≡ true → member o d.outs ≡ true =
    λ k o d e p. sym (ap (λ (d : StoredCell). member o d.outs) e) ∙ p in
    record {
      ended = λ k o l p.
          last_or_below k (length s.ended) (omega (arith, longer s.ended c))
          (λ q. h.begun o (was k o c (ap (λ (x : ℕ). get_or more x no_cell) q ∙ latest s.ended c) p))
          (λ q. h.ended k o q (was k o (get_or s.ended k no_cell) (earlier s.ended c k q) p));
      begun = λ o p. absurd (false≢true p);
    }

read-outputs : (R : List ℕ) (n : ℕ) → OutputsSeen R n (reading R n)
unfolding reading
read-outputs R zero = record { ended = λ k o l. absurd (not-suc-le-zero l); begun = λ o p. absurd (false≢true p) }
read-outputs R (suc n) =
    let s = with_variable_lem R n (reading R n) (read-outputs R n) in
    cond_both (OutputsSeen R (suc n)) (eqb (cut_byte R n) 1) (with_cut_lem R (suc n) (with_variable (reading R n) (variable R n)) (rail_byte R n) s) s

pub output_record : (R : List ℕ) (k o : ℕ) → k < cell_count R → member o (cell_at R k).outs ≡ true
    → (i : ℕ) × (i < record_count R) × (variable R i ≡ output_byte o)
unfolding cell_at cell_count stored_cells seen
output_record R k o l p =
    let (i, m, e) = any_at (λ i. eqb (variable R i) (output_byte o)) (record_count R) ((read-outputs R (record_count R)).ended k o l p) in
    (i, m, eqb-true (variable R i) (output_byte o) e)
