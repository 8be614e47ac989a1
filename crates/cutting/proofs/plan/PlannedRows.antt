-- The rows stored from lists of an accepted job's widths, rails, inputs and cuts: as many as the cascade has, and the same.
-- Assumes nothing.
use mathlib.Core.Path.{◌≡◌, refl, sym, ◌∙◌, ap, ap₂}
use mathlib.Core.Bool.{true, false}
use mathlib.Core.List.{List, [], ◌∷◌, ◌++◌}
use Prim.Native.Nat.{ℕ, zero, suc, ◌+◌, ◌-◌, ◌^◌, ◌<◌, ◌≤◌}
use native.Mathlib.Numerals.{add-one}
use native.Mathlib.Omega.{arith}
use lib.ListN.{length, get_or}
use lib.Seq.{sets}
use Rattle.laws.specs.Lists.{joined, puts_at}
use Rattle.laws.proofs.Counts.{sum_ext}
use Rattle.laws.proofs.Lists.{length-tab, length-joined, joined_front}
use Rattle.laws.proofs.Puts.{sets-append, puts_at_ext}
use Rattle.sheet_spec.specs.Job.{Job, t, ins, outs}
use Rattle.sheet_spec.specs.Limits.{largest_inputs, largest_outputs}
use Rattle.sheet_spec.specs.Refusals.{sheet_refusal}
use Rattle.sheet_spec.specs.Table.{table}
use Rattle.reduction_spec.specs.Columns.{layers, width_in}
use Rattle.reduction_spec.specs.Merge.{reduced, refuse7}
use Rattle.reduction_spec.proofs.Promises.{words_of}
use Rattle.stored_spec.specs.Cells.{fits, all_fit, rows, usable_rows}
use Rattle.cutting_spec.specs.Cuts.{CutList, cell_inputs, cell_outputs, cell_between, cells_of}
use Rattle.stored_spec.specs.Rails.{rails_at}
use Rattle.cutting_spec.specs.Rows.{row, cell_rows, cascade_rows}
use Rattle.cutting.specs.RowWalks.{first_at, walked_row}
use Rattle.cutting.specs.Ways.{list_cell}
use Rattle.cutting_spec.specs.Compile.{widths_of}
use Rattle.cutting.specs.Plan.{width_up, first_in, rows_of, rows_to, row_between, Writable, rows_stored}
use Rattle.cutting_spec.proofs.StoredCuts.{cuts_fall, cuts_most}
use Rattle.cutting_spec.proofs.RailCounts.{width_at}
use Rattle.stored_spec.proofs.Promises.{few-inputs, few-outputs, usable_rows_lem}
use Rattle.cutting.proofs.cell_rows.RowsWritten.{upper_fit, columns_fit, nodes-within, stored-small, rows_written_lem}
use Rattle.cutting_spec.proofs.StoredWell.{fit_at}
use Rattle.cutting.proofs.choice.WaysGiveChosen.{cell_same}

-- a cascade's rows are those of its cells, one after another
cascade_joined : (j : Job) (f : List ℕ) (ls : List (List ℕ)) (vs l : List ℕ)
    → cascade_rows j f ls vs l ≡ joined (length l - 1) (λ k. cell_rows j f ls vs (get_or l k 0) (get_or l (suc k) 0))
unfolding cascade_rows
cascade_joined j f ls vs [] = refl
cascade_joined j f ls vs (a ∷ []) = refl
cascade_joined j f ls vs (a ∷ b ∷ l) =
    let own : ℕ → List ℕ = λ k. cell_rows j f ls vs (get_or (a ∷ b ∷ l) k 0) (get_or (a ∷ b ∷ l) (suc k) 0) in
    let n : length (a ∷ b ∷ l) - 1 ≡ suc (length (b ∷ l) - 1) = omega arith in
    ap (λ (x : List ℕ). cell_rows j f ls vs a b ++ x) (cascade_joined j f ls vs (b ∷ l))
    ∙ sym (ap (λ (k : ℕ). joined k own) n ∙ joined_front own (length (b ∷ l) - 1))

-- an accepted job, a cut list l whose cells fit, and lists that hold its heights' numbers and its cuts
module _ (j : Job) (s : List ℕ) (e : sheet_refusal j s ≡ 0) (narrow : refuse7 j (table j s) ≡ false)
    (ws rs is cs l words : List ℕ)
    (cuts : CutList (t j) l)
    (fit : all_fit largest_inputs largest_outputs (cells_of j (widths_of (layers j (reduced j (table j s)))) l) ≡ true)
    (widths_are : (h : ℕ) → h ≤ t j → width_up (t j) ws h ≡ width_in (layers j (reduced j (table j s))) h)
    (firsts_are : (h : ℕ) → h ≤ t j → first_in (t j) ws h ≡ first_at j (layers j (reduced j (table j s))) h)
    (rails_are : (h : ℕ) → h ≤ t j → get_or rs h 0 ≡ rails_at j (widths_of (layers j (reduced j (table j s)))) h)
    (inputs_are : (h : ℕ) → h ≤ t j → get_or is h 0 ≡ ins j h)
    (cuts_are : (i : ℕ) → i < length l → get_or cs i 0 ≡ get_or l i 0)
    (same : (i : ℕ) → get_or words i 0 ≡ get_or (words_of j (reduced j (table j s))) i 0) where
  abbrev f : List ℕ
  f = reduced j (table j s)

  abbrev ls : List (List ℕ)
  ls = layers j f

  abbrev vs : List ℕ
  vs = widths_of ls

  abbrev own : ℕ → List ℕ
  own k = cell_rows j f ls vs (get_or l k 0) (get_or l (suc k) 0)

  -- one cell that fits
  module _ (a b : ℕ) (above : b < a) (within : a ≤ t j) (small : fits largest_inputs largest_outputs (cell_between j vs a b) ≡ true) where
    row_is : (x : ℕ) → row_between (t j) words j.order ws rs is a b x
        ≡ walked_row words j.order a b (first_at j ls a) (width_in ls a) (first_at j ls b) (rails_at j vs b) (ins j a - ins j b) x
    unfolding row_between
    row_is x =
        let low : b ≤ t j = omega arith in
        rw (firsts_are a within, widths_are a within, firsts_are b low, rails_are b low, inputs_are a within, inputs_are b low) refl

    size_is : usable_rows (list_cell rs is a b) ≡ 2 ^ cell_inputs j vs a b
    unfolding rows cell_between
    size_is =
        ap usable_rows (cell_same j vs rs is rails_are inputs_are a b within above)
        ∙ usable_rows_lem (cell_between j vs a b) small

    size-length : usable_rows (list_cell rs is a b) ≡ length (cell_rows j f ls vs a b)
    unfolding cell_rows
    size-length = size_is ∙ sym (length-tab (row j f ls vs a b) (2 ^ cell_inputs j vs a b))

    writable : Writable (t j) words j.order ws rs is a b
    unfolding cell_between cell_inputs cell_outputs
    writable =
        let low : b ≤ t j = omega arith in
        let inputs : rails_at j vs a + (ins j a - ins j b) ≤ largest_inputs = few-inputs (cell_between j vs a b) small in
        let outputs : outs j a - outs j b + rails_at j vs b ≤ largest_outputs = few-outputs (cell_between j vs a b) small in
        let count : get_or is a 0 - get_or is b 0 ≡ ins j a - ins j b = ap₂ (λ (x y : ℕ). x - y) (inputs_are a within) (inputs_are b low) in
        record {
          upper = within;
          lower = low;
          rails = omega (arith, rails_are b low, outputs);
          inputs = omega (arith, count, inputs);
          nodes = omega (arith, firsts_are a within, widths_are a within, nodes-within j s e narrow vs a b above within);
          columns = rw (count, widths_are a within, size_is)
              (columns_fit j s e narrow vs a b above within (upper_fit j s e narrow vs a b above within (λ h. width_at ls a)));
          small = λ x h. rw (row_is x) (stored-small j s e narrow vs a b above within words same (width_at ls b) outputs x);
        }

    rows_put : (at : ℕ) (mem : List ℕ)
        → puts_at at (usable_rows (list_cell rs is a b)) (row_between (t j) words j.order ws rs is a b) mem ≡ sets mem at (cell_rows j f ls vs a b)
    rows_put at mem =
        ap (λ (n : ℕ). puts_at at n (row_between (t j) words j.order ws rs is a b) mem) size_is
        ∙ puts_at_ext (row_between (t j) words j.order ws rs is a b)
        (walked_row words j.order a b (first_at j ls a) (width_in ls a) (first_at j ls b) (rails_at j vs b) (ins j a - ins j b))
        at (2 ^ cell_inputs j vs a b) mem (λ x h. row_is x)
        ∙ rows_written_lem j s e narrow vs a b above within words same at mem

  -- cell i, between the cuts i and i + 1
  module _ (i : ℕ) (h : i < length l - 1) where
    upper_is : get_or cs i 0 ≡ get_or l i 0
    upper_is = cuts_are i (omega arith)

    lower_is : get_or cs (i + 1) 0 ≡ get_or l (suc i) 0
    lower_is = ap (λ (k : ℕ). get_or cs k 0) (add-one i) ∙ cuts_are (suc i) (omega arith)

    fits_there : fits largest_inputs largest_outputs (cell_between j vs (get_or l i 0) (get_or l (suc i) 0)) ≡ true
    fits_there = fit_at j vs largest_inputs largest_outputs l i fit (omega arith)

    falls : get_or l (suc i) 0 < get_or l i 0
    falls = cuts_fall cuts i (omega arith)

    rows_own : rows_of rs is cs i ≡ length (own i)
    unfolding rows_of
    rows_own =
        ap₂ (λ (a b : ℕ). usable_rows (list_cell rs is a b)) upper_is lower_is
        ∙ size-length (get_or l i 0) (get_or l (suc i) 0) falls (cuts_most cuts i) fits_there

    -- each cell can be written
    pub cell_writable : Writable (t j) words j.order ws rs is (get_or cs i 0) (get_or cs (i + 1) 0)
    cell_writable =
        rw (upper_is, lower_is)
        (writable (get_or l i 0) (get_or l (suc i) 0) falls (cuts_most cuts i) fits_there)

    own_put : (at : ℕ) (mem : List ℕ)
        → puts_at at (rows_of rs is cs i) (row_between (t j) words j.order ws rs is (get_or cs i 0) (get_or cs (i + 1) 0)) mem ≡ sets mem at (own i)
    unfolding rows_of
    own_put at mem =
        ap₂ (λ (a b : ℕ). puts_at at (usable_rows (list_cell rs is a b)) (row_between (t j) words j.order ws rs is a b) mem) upper_is lower_is
        ∙ rows_put (get_or l i 0) (get_or l (suc i) 0) falls (cuts_most cuts i) fits_there at mem

  -- the first i cells
  rows_to_lem : (i : ℕ) → i ≤ length l - 1 → rows_to rs is cs i ≡ length (joined i own)
  unfolding rows_to
  rows_to_lem i h = sum_ext (rows_of rs is cs) (λ k. length (own k)) i (λ k p. rows_own k (omega arith)) ∙ sym (length-joined own i)

  stored_to_lem : (mem : List ℕ) (i : ℕ) → i ≤ length l - 1 → rows_stored (t j) words j.order ws rs is cs i mem ≡ sets mem 0 (joined i own)
  unfolding rows_stored
  stored_to_lem mem zero h = refl
  stored_to_lem mem (suc i) h =
      let at : 0 + length (joined i own) ≡ rows_to rs is cs i = omega (arith, rows_to_lem i (omega arith)) in
      own_put i h (rows_to rs is cs i) (rows_stored (t j) words j.order ws rs is cs i mem)
      ∙ ap₂ (λ (k : ℕ) (x : List ℕ). sets x k (own i)) (sym at) (stored_to_lem mem i (omega arith)) ∙ sym (sets-append (joined i own) (own i) mem 0)

  -- the rows counted are the rows made
  pub rows_counted_lem : rows_to rs is cs (length l - 1)
      ≡ length (cascade_rows j (reduced j (table j s)) (layers j (reduced j (table j s))) (widths_of (layers j (reduced j (table j s)))) l)
  rows_counted_lem = rows_to_lem (length l - 1) (omega arith) ∙ ap (λ (x : List ℕ). length x) (sym (cascade_joined j f ls vs l))

  -- the rows stored are those of the cascade
  pub rows-stored : (mem : List ℕ) → rows_stored (t j) words j.order ws rs is cs (length l - 1) mem
      ≡ sets mem 0 (cascade_rows j (reduced j (table j s)) (layers j (reduced j (table j s))) (widths_of (layers j (reduced j (table j s)))) l)
  rows-stored mem = stored_to_lem mem (length l - 1) (omega arith) ∙ ap (λ (x : List ℕ). sets mem 0 x) (sym (cascade_joined j f ls vs l))
