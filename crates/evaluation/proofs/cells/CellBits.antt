-- The outputs of a cell set to their bits of a row, one record after another.
-- Assumes nothing.
use mathlib.Core.Path.{◌≡◌, refl, sym, ◌∙◌, ap}
use mathlib.Core.Bool.{Bool, true, false, cond, not, ◌&&◌}
use mathlib.Core.List.{List}
use Prim.Native.Nat.{ℕ, ◌+◌, ◌-◌, ◌/◌, ◌^◌, ◌≤◌, ◌<◌}
use native.Mathlib.Omega.{arith}
use lib.Dec.{eqb, ltb}
use lib.ListN.{length, set}
use borrow.Author.Tests.{eq-eqb, le-ltb}
use Rattle.laws.specs.Bits.{bit}
use Rattle.laws.proofs.Cases.{cond-not, and_join}
use Rattle.stored_spec.specs.StoredForm.{StoredCell, record_count, variable, cut_byte, cell_at, records_formed}
use Rattle.stored_spec.specs.Run.{set_outputs, outputs_after}
use Rattle.stored_spec.proofs.StoredCells.{cells_to}
use Rattle.stored.proofs.CellReads.{part_to, few-outs, rows_told_lem}
use Rattle.stored.proofs.RowBits.{some_left, turn_left, turn-outputs, length-outputs}
use Rattle.evaluation.specs.BegunCell.{ended_by, start_of}
use Rattle.evaluation.proofs.cells.CellRecords.{start_le, same-cells, part_begun, part_ended, has-cell}

-- after the records before i: e outputs and lower rails are still to be set
pub record SetTo (R : List ℕ) (last first e i : ℕ) : Type 0 where
  pub from : start_of R last ≤ i
  pub to : i ≤ last + 1
  pub left : e + length (part_to R i (ended_by R last)).outs ≡ first

-- outputs set to their bits of a row
unfoldable pub set_to : List ℕ → ℕ → List ℕ → ℕ → ℕ → ℕ → List ℕ
set_to R last outs row e i = set_outputs outs (part_to R i (ended_by R last)).outs (row / 2 ^ e)

pub length-set_to : (R : List ℕ) (last : ℕ) (outs : List ℕ) (row e i : ℕ) → length outs ≡ 8 → length (set_to R last outs row e i) ≡ 8
unfolding set_to
length-set_to R last outs row e i l = length-outputs (part_to R i (ended_by R last)).outs outs (row / 2 ^ e) ∙ l

module _ (R : List ℕ) (last first : ℕ) (formed : records_formed R ≡ true) (within : last < record_count R) (cut : cut_byte R last ≡ 1)
    (all : first ≡ length (cell_at R (ended_by R last)).outs + (cell_at R (ended_by R last)).lower) where
  abbrev k : ℕ
  k = ended_by R last

  pub to-none : SetTo R last first first (start_of R last)
  to-none =
      record {
        from = omega arith;
        to = omega (arith, start_le R last);
        left = omega (arith, ap (λ (l : List ℕ). length l) (part_begun R last));
      }

  pub set-none : (outs : List ℕ) (row : ℕ) → set_to R last outs row first (start_of R last) ≡ outs
  unfolding set_to set_outputs
  set-none outs row = ap (λ (l : List ℕ). set_outputs outs l (row / 2 ^ first)) (part_begun R last)

  module _ {e i : ℕ} (s : SetTo R last first e i) (more : i < last + 1) {v : ℕ} (read : v ≡ variable R i) where
    here : k ≡ length (cells_to R i)
    here = sym (same-cells R last i s.from (omega arith))

    turned : {A : Type 0} (x y : A) → cond (ltb v 128) y x ≡ cond (eqb k k && not (ltb v 128)) x y
    turned x y = cond-not (ltb v 128) x y ∙ ap (λ (b : Bool). cond (b && not (ltb v 128)) x y) (sym (eq-eqb k k refl))

    some : (eqb k k && not (ltb v 128)) ≡ true → 1 ≤ e
    some = some_left R k (has-cell R last within cut formed) i (omega (arith, more, within)) here read (s.left ∙ all)

    pub some-bit : 128 ≤ v → 1 ≤ e
    some-bit l = some (and_join (eq-eqb k k refl) (ap not (le-ltb v 128 l)))

    pub few_bits : e ≤ 16
    few_bits = omega (arith, s.left, all, few-outs R k (rows_told_lem R k (has-cell R last within cut formed)))

    module _ {d : ℕ} (p : d ≡ cond (ltb v 128) e (e - 1)) where
      pub to_more : SetTo R last first d (i + 1)
      to_more =
          record {
            from = omega (arith, s.from);
            to = omega arith;
            left = turn_left R i k here read some (p ∙ turned (e - 1) e) s.left;
          }

      pub set_more : (outs : List ℕ) (row : ℕ)
          → cond (ltb v 128) (set_to R last outs row e i) (set (set_to R last outs row e i) (v - 128) (bit row (e - 1))) ≡ set_to R last outs row d (i + 1)
      unfolding set_to
      set_more outs row =
          turn-outputs R i k here read outs row some (p ∙ turned (e - 1) e) refl (same (ltb v 128) p ∙ turned (set before (v - 128) (bit row d)) before)
        where
          before : List ℕ
          before = set_outputs outs (part_to R i k).outs (row / 2 ^ e)

          same : (b : Bool) → d ≡ cond b e (e - 1) → cond b before (set before (v - 128) (bit row (e - 1))) ≡ cond b before (set before (v - 128) (bit row d))
          same true r = refl
          same false r = ap (λ (y : ℕ). set before (v - 128) (bit row y)) (sym r)

  pub set_all : {e i : ℕ} → SetTo R last first e i → last + 1 ≤ i → (outs : List ℕ) (row : ℕ) → set_to R last outs row e i ≡ outputs_after (cell_at R k) outs row
  unfolding set_to outputs_after
  set_all {e} {i} s l outs row =
      let n : i ≡ last + 1 = omega (arith, s.to, l) in
      let c = ap (λ (j : ℕ). part_to R j k) n ∙ part_ended R last within cut in
      let low : e ≡ (cell_at R k).lower = omega (arith, s.left, all, ap (λ (d : StoredCell). length d.outs) c) in
      ap (λ (d : StoredCell). set_outputs outs d.outs (row / 2 ^ e)) c
      ∙ ap (λ (x : ℕ). set_outputs outs (cell_at R k).outs (row / 2 ^ x)) low
