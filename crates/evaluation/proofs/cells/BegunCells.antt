-- The cell begun, as the code holds it: with the variable of one record more, and after a cut.
-- Assumes nothing.
use mathlib.Core.Path.{◌≡◌, refl, sym, ◌∙◌, ap, ap₂}
use mathlib.Core.Bool.{Bool, true, false, cond, not}
use mathlib.Core.List.{List, [], ◌∷◌}
use Prim.Native.Nat.{ℕ, suc, ◌+◌, ◌-◌, ◌*◌, ◌^◌, ◌≤◌, ◌<◌}
use native.Mathlib.Nat.{pow-suc, mul-le-mul_right}
use native.Mathlib.Numerals.{add-one}
use native.Mathlib.Omega.{arith}
use lib.Dec.{eqb}
use lib.Bits.{bit_and}
use lib.ListN.{length, length-append}
use borrow.Author.Tests.{eq-eqb}
use Rattle.laws.specs.Bits.{bit}
use Rattle.laws.proofs.Cases.{cond_yes, cond_no, cond_both}
use Rattle.sheet_spec.specs.Job.{is_input}
use Rattle.stored_spec.specs.Cells.{rows}
use Rattle.stored_spec.specs.StoredForm.{StoredCell, Reading, record_count, variable, cut_byte, rail_byte, appended, with_variable, with_cut, reading, size_of, rows_before}
use Rattle.stored_spec.specs.Run.{address}
use Rattle.stored_spec.proofs.StoredCells.{ended_cell, begun-few}
use Rattle.stored.proofs.RowBits.{address_more}
use Rattle.evaluation_spec.proofs.Words.{gather_lt}
use Rattle.evaluation.specs.BegunCell.{Few, ended_by, start_of, more_fillings, fillings, with_var, next_cell, begun_by, begun_at, begun_with}
use Rattle.evaluation.proofs.Enumeration.{fillings_more}
use Rattle.evaluation.proofs.cells.CellRecords.{cell_is, ended-next, ended_same}

fillings-few : (known : ℕ) (is : List ℕ) (n : ℕ) → fillings known n is ≤ n * 2 ^ length is
unfolding fillings more_fillings
fillings-few known [] n = omega arith
fillings-few known (i ∷ is) n =
    let m = more_fillings (bit known i) n in
    let h = mul-le-mul_right {m = m} {n = n * 2} (2 ^ length is) (cond_both (λ (x : ℕ). x ≤ n * 2) (eqb (bit known i) 1) (omega arith) (omega arith)) in
    let e : n * 2 ^ suc (length is) ≡ n * 2 * 2 ^ length is = omega (arith, ap (λ (x : ℕ). n * x) (pow-suc 2 (length is))) in
    omega (arith, fillings-few known is m, h, e)

module _ (R : List ℕ) (known w : ℕ) where
  pub begun-keeps : (i : ℕ) → i ≤ 20 → Few (begun_at R known w i)
  unfolding begun_at begun_by
  begun-keeps i l =
      let h = begun-few R i in
      let is = (reading R i).ins in
      record {
        ins = omega (arith, h.0, l);
        outs = omega (arith, h.1, l);
        mask = gather_lt is known;
        value = gather_lt is (bit_and w known);
        count = omega (arith, fillings-few known is 1);
      }

  -- one variable more
  one_more : (b : Bool) (from at v : ℕ) (s : Reading)
      → cond b
      (record {
        from = from;
        at = at;
        upper = s.upper;
        ins = length s.ins + 1;
        outs = length s.outs;
        mask = address 0 s.ins known * 2 + bit known v;
        value = address 0 s.ins (bit_and w known) * 2 + bit (bit_and w known) v;
        count = more_fillings (bit known v) (fillings known 1 s.ins);
      })
      (record {
        from = from;
        at = at;
        upper = s.upper;
        ins = length s.ins;
        outs = length s.outs + 1;
        mask = address 0 s.ins known;
        value = address 0 s.ins (bit_and w known);
        count = fillings known 1 s.ins;
      })
      ≡ begun_by known w from at (record { ended = s.ended; ins = appended b s.ins v; outs = appended (not b) s.outs (v - 128); upper = s.upper })
  unfolding begun_by
  one_more true from at v s =
      rw
      (length-append s.ins (v ∷ []), address_more s.ins 0 v known, address_more s.ins 0 v (bit_and w known), fillings_more known w s.ins 1 v)
      refl
  one_more false from at v s = rw (length-append s.outs ((v - 128) ∷ [])) refl

  pub begun_with_lem : (i : ℕ) → with_var known w (begun_at R known w i) (variable R i) ≡ begun_with R known w i
  unfolding with_var begun_at begun_with begun_by with_variable
  begun_with_lem i = one_more (is_input (variable R i)) (start_of R i) (rows_before R (ended_by R i)) (variable R i) (reading R i)

  -- no cut below record i; a cut
  reads : Bool → ℕ → Reading
  reads b i = let s = with_variable (reading R i) (variable R i) in cond b (with_cut s (rail_byte R i)) s

  reading-next : (i : ℕ) → reading R (i + 1) ≡ reads (eqb (cut_byte R i) 1) i
  unfolding reading reads
  reading-next i = ap (reading R) (add-one i)

  start_next : (i : ℕ) → start_of R (i + 1) ≡ cond (eqb (cut_byte R i) 1) (i + 1) (start_of R i)
  unfolding start_of
  start_next i = ap (start_of R) (add-one i) ∙ ap (λ (n : ℕ). cond (eqb (cut_byte R i) 1) n (start_of R i)) (sym (add-one i))

  pub begun_uncut : (i : ℕ) → eqb (cut_byte R i) 1 ≡ false → begun_with R known w i ≡ begun_at R known w (i + 1)
  unfolding begun_with begun_at reads
  begun_uncut i cut =
      ap₂ (λ (f k : ℕ). begun_by known w f (rows_before R k) (with_variable (reading R i) (variable R i)))
      (sym (start_next i ∙ cond_no (eqb (cut_byte R i) 1) (i + 1) (start_of R i) cut)) (sym (ended_same R i cut))
      ∙ ap (begun_by known w (start_of R (i + 1)) (rows_before R (ended_by R (i + 1)))) (sym (reading-next i ∙ cond_no (eqb (cut_byte R i) 1) _ _ cut))

  module _ (i : ℕ) (within : i < record_count R) (cut : cut_byte R i ≡ 1) where
    rows_next : rows_before R (ended_by R (i + 1)) ≡ rows_before R (ended_by R i) + rows (size_of (ended_cell R i))
    unfolding rows_before
    rows_next = ap (rows_before R) (ended-next R i within cut) ∙ ap (λ (d : StoredCell). rows_before R (ended_by R i) + rows (size_of d)) (cell_is R i within cut)

    pub begun-cut : next_cell (begun_with R known w i) (i + 1) (rail_byte R i) ≡ begun_at R known w (i + 1)
    unfolding next_cell begun_with begun_at begun_by with_cut with_variable reads rows size_of address fillings
    begun-cut =
        let yes = eq-eqb (cut_byte R i) 1 cut in
        ap₂ (λ (f a : ℕ). record { from = f; at = a; upper = rail_byte R i; ins = 0; outs = 0; mask = 0; value = 0; count = 1 })
        (sym (start_next i ∙ cond_yes (eqb (cut_byte R i) 1) (i + 1) (start_of R i) yes)) (sym rows_next)
        ∙ ap (begun_by known w (start_of R (i + 1)) (rows_before R (ended_by R (i + 1)))) (sym (reading-next i ∙ cond_yes (eqb (cut_byte R i) 1) _ _ yes))
