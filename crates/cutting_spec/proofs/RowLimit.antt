-- The limit of 32,768 rows never decides for a job: no cut list has over 12,288 rows where widths are at most 512.
-- Assumes nothing.
use mathlib.Core.Path.{◌≡◌, refl, sym, ◌∙◌, ap}
use mathlib.Core.Bool.{false}
use mathlib.Core.List.{List, ◌∷◌}
use Prim.Native.Nat.{ℕ, ◌+◌, ◌-◌, ◌*◌, ◌^◌, ◌<◌, ◌≤◌}
use native.Mathlib.Nat.{pow-suc}
use native.Mathlib.Numerals.{add-one}
use native.Mathlib.Omega.{arith}
use lib.Dec.{eqb}
use lib.ListN.{get_or}
use lib.Pow.{pow_mono}
use borrow.Author.Tests.{le-leb}
use Rattle.laws.proofs.Cases.{by_test, by_less, cond_both, and_join, and_left_no}
use Rattle.sheet_spec.specs.Job.{Job, t, ins, outs}
use Rattle.sheet_spec.specs.Refusals.{not_each_once, sheet_refusal}
use Rattle.sheet_spec.specs.Table.{table}
use Rattle.sheet_spec.proofs.Promises.{job-accepted, ins_rise, outs_rise, outs-all, ins-outs, ins_below_lem}
use Rattle.reduction_spec.specs.Columns.{firsts_at, width, layers}
use Rattle.reduction_spec.specs.Merge.{reduced, refuse7}
use Rattle.reduction_spec.proofs.Promises.{width_few, width_most, width-layer}
use Rattle.stored_spec.specs.Cells.{rows, all_fit, row_total}
use Rattle.cutting_spec.specs.Cuts.{CutList, bottom, next, cell_inputs, cell_between, cells_of}
use Rattle.cutting_spec.specs.Compile.{widths_of}
use Rattle.cutting_spec.proofs.RailCounts.{width_at}
use Rattle.stored_spec.specs.Rails.{rails_at}
use Rattle.stored_spec.proofs.Promises.{rails-least}
use Rattle.cutting_spec.specs.Choice.{admissible}

pow-twice : (i : ℕ) → 2 ^ (i + 1) ≡ 2 * 2 ^ i
pow-twice i = rw add-one (omega (arith, pow-suc 2 i))

-- the cells from h, where the list goes on at g
pub cells-next : (j : Job) (ws : List ℕ) (h : ℕ) {g : ℕ} {l : List ℕ} → CutList g l → cells_of j ws (h ∷ l) ≡ cell_between j ws h g ∷ cells_of j ws l
unfolding cells_of
cells-next j ws h bottom = refl
cells-next j ws h (next p c) = refl

module _ (j : Job) (ws : List ℕ) (once : not_each_once j.n j.m j.order ≡ false) (few : j.n ≤ 12) (out : j.m ≤ 8)
    (slim : (h : ℕ) → h ≤ t j → get_or ws h 0 ≤ 512)
    (narrow : (h : ℕ) → h ≤ t j → get_or ws h 0 ≤ 2 ^ (j.n - ins j h)) where
  -- rails are at most the inputs above
  pub rails_below : (h : ℕ) → h ≤ t j → rails_at j ws h ≤ j.n - ins j h
  unfolding rails_at
  rails_below h l =
      cond_both (λ (r : ℕ). r ≤ j.n - ins j h) (eqb h (t j)) (omega arith) (rails-least (get_or ws h 0) (j.n - ins j h) (narrow h l))

  rails_nine : (h : ℕ) → h ≤ t j → rails_at j ws h ≤ 9
  unfolding rails_at
  rails_nine h l = cond_both (λ (r : ℕ). r ≤ 9) (eqb h (t j)) (omega arith) (rails-least (get_or ws h 0) 9 (slim h l))

  -- one cell, with an input of the order or without
  cell-rows : (h g : ℕ) → g < h → h ≤ t j
      → rows (cell_between j ws h g) + 2 ^ (j.n - ins j h + 1) + 512 * outs j g ≤ 2 ^ (j.n - ins j g + 1) + 512 * outs j h
  unfolding rows cell_between cell_inputs
  cell-rows h g l top =
      let nine = rails_nine h top in
      let rise = ins_rise j g h (omega arith) in
      let grow = outs_rise j g h (omega arith) in
      let most = ins_below_lem j once few out h top in
      let below = rails_below h top in
      by_less (ins j g) (ins j h)
      (λ i.
      let own : 2 ^ (rails_at j ws h + (ins j h - ins j g)) ≤ 2 ^ (j.n - ins j g) =
      pow_mono (omega arith) in
      let above : 2 ^ (j.n - ins j h + 1) ≤ 2 ^ (j.n - ins j g) = pow_mono (omega arith) in
      let twice : 2 ^ (j.n - ins j g + 1) ≡ 2 * 2 ^ (j.n - ins j g) = pow-twice (j.n - ins j g) in
      omega arith)
      (λ i.
      let same : ins j g ≡ ins j h = omega arith in
      let own : 2 ^ (rails_at j ws h + (ins j h - ins j g)) ≤ 512 = pow_mono {j = 9} (omega arith) in
      let one : outs j g + 1 ≤ outs j h = omega (arith, ins-outs j g, ins-outs j h) in
      let power : 2 ^ (j.n - ins j g + 1) ≡ 2 ^ (j.n - ins j h + 1) = ap (λ (i : ℕ). 2 ^ (j.n - i + 1)) same in
      omega arith)

  -- all cells from a cut
  rows-from : (h : ℕ) (l : List ℕ) → CutList h l → h ≤ t j
      → row_total (cells_of j ws l) + 2 ^ (j.n - ins j h + 1) ≤ 2 ^ (j.n + 1) + 512 * outs j h
  unfolding cells_of row_total
  rows-from h l bottom top = let m : 2 ^ (j.n - ins j 0 + 1) ≤ 2 ^ (j.n + 1) = pow_mono (omega arith) in omega arith
  rows-from h l (next {g = g} {l = k} p c) top =
      let below = rows-from g k c (omega arith) in
      rw (cells-next j ws h c) (omega (arith, cell-rows h g p top))

  pub rows_few : (l : List ℕ) → CutList (t j) l → row_total (cells_of j ws l) ≤ 12288
  rows_few l c =
      let most : 2 ^ (j.n + 1) ≤ 8192 = pow_mono {j = 13} (omega arith) in
      omega (arith, rows-from (t j) l c (omega arith), outs-all j once few out)

  -- so on these lists admissible means that each cell fits
  pub admissible-fits : (l : List ℕ) → CutList (t j) l → admissible j ws l ≡ all_fit j.K j.L (cells_of j ws l)
  unfolding admissible
  admissible-fits l c =
      by_test (all_fit j.K j.L (cells_of j ws l))
      (λ e. and_join e (le-leb (row_total (cells_of j ws l)) 32768 (omega (arith, rows_few l c))) ∙ sym e) (λ e. and_left_no _ _ e ∙ sym e)

-- the widths of an accepted sheet, where 7 is not given: so its cut lists have few rows
module _ (j : Job) (s : List ℕ) (e : sheet_refusal j s ≡ 0) where
  pub sheet-narrow : (h : ℕ) → h ≤ t j → get_or (widths_of (layers j (reduced j (table j s)))) h 0 ≤ 2 ^ (j.n - ins j h)
  unfolding width firsts_at
  sheet-narrow h l =
      let f = reduced j (table j s) in
      omega (arith, width_at (layers j f) h, width-layer j f h l, width_few j.n (ins j h) (outs j h) f)

  module _ (seven : refuse7 j (table j s) ≡ false) where
    pub sheet_slim : (h : ℕ) → h ≤ t j → get_or (widths_of (layers j (reduced j (table j s)))) h 0 ≤ 512
    sheet_slim h l =
        let f = reduced j (table j s) in
        omega (arith, width_at (layers j f) h, width-layer j f h l, width_most j s e seven h l)

    pub sheet-rows : (l : List ℕ) → CutList (t j) l → row_total (cells_of j (widths_of (layers j (reduced j (table j s)))) l) ≤ 12288
    sheet-rows l c =
        let r = job-accepted j s e in
        rows_few j (widths_of (layers j (reduced j (table j s)))) r.order-whole r.inputs r.outputs sheet_slim sheet-narrow l c

    pub sheet-fits : (l : List ℕ) → CutList (t j) l
        → admissible j (widths_of (layers j (reduced j (table j s)))) l ≡ all_fit j.K j.L (cells_of j (widths_of (layers j (reduced j (table j s)))) l)
    sheet-fits l c =
        let r = job-accepted j s e in
        admissible-fits j (widths_of (layers j (reduced j (table j s)))) r.order-whole r.inputs r.outputs sheet_slim sheet-narrow l c
