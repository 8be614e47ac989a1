-- Laws of the reading of stored records: one record more, and tests and sums over the cells ended.
-- Assumes nothing.
use mathlib.Core.Path.{◌≡◌, refl, sym, ◌∙◌, ap, ap₂}
use mathlib.Core.Bool.{Bool, true, false, cond, not, ◌&&◌}
use mathlib.Core.List.{List, [], ◌∷◌, ◌++◌}
use Prim.Native.Nat.{ℕ, zero, suc, ◌+◌, ◌-◌, ◌^◌, ◌≤◌, ◌<◌}
use native.Mathlib.Nat.{add-zero}
use native.Mathlib.Numerals.{add-one}
use native.Mathlib.Omega.{arith}
use lib.Dec.{eqb, ltb}
use lib.ListN.{length, get_or, length-append, get_or-append}
use lib.Seq.{get_or_at}
use Rattle.laws.specs.Tests.{every, sum}
use borrow.Author.Tests.{eq-eqb}
use Rattle.laws.proofs.Cases.{last_or_below, and_split, cond_yes}
use Rattle.laws.proofs.Tests.{every_ext}
use Rattle.laws.proofs.Counts.{sum_ext}
use Rattle.sheet_spec.specs.Job.{is_input}
use Rattle.sheet_spec.specs.Limits.{largest_inputs}
use Rattle.stored_spec.specs.Cells.{Cell, cell, fits, rows}
use Rattle.stored_spec.specs.RowBytes.{outputs_in, row_value}
use Rattle.stored_spec.specs.StoredForm.{StoredCell, Reading, record_count, variable, cut_byte, rail_byte, appended, with_variable, with_cut, reading, stored_cells, cell_count, no_cell, cell_at, size_of, rows_before, row_count, cell_formed_as, rows_formed_as}
use Rattle.stored_spec.proofs.CellSizes.{fits-split}

-- the reading after i records: of the cell begun its inputs and outputs in number, with record i's variable, and its upper rails
abbrev pub begun_ins : List ℕ → ℕ → ℕ
begun_ins R i = length (reading R i).ins

abbrev pub begun_outs : List ℕ → ℕ → ℕ
begun_outs R i = length (reading R i).outs

abbrev pub more_ins : List ℕ → ℕ → ℕ
more_ins R i = cond (is_input (variable R i)) (begun_ins R i + 1) (begun_ins R i)

abbrev pub more_outs : List ℕ → ℕ → ℕ
more_outs R i = cond (is_input (variable R i)) (begun_outs R i) (begun_outs R i + 1)

-- inputs and outputs, rails counted, of the cell that a cut below record i ends
abbrev pub end_inputs : List ℕ → ℕ → ℕ
end_inputs R i = (reading R i).upper + more_ins R i

abbrev pub end_outputs : List ℕ → ℕ → ℕ
end_outputs R i = more_outs R i + rail_byte R i

-- the cells ended
abbrev pub cells_to : List ℕ → ℕ → List StoredCell
cells_to R i = (reading R i).ended

-- the cell that a cut below record i ends
abbrev pub ended_cell : List ℕ → ℕ → StoredCell
ended_cell R i =
    let s = with_variable (reading R i) (variable R i) in
    record { ins = s.ins; outs = s.outs; upper = s.upper; lower = rail_byte R i }

length_yes : (b : Bool) (l : List ℕ) (v : ℕ) → length (appended b l v) ≡ cond b (length l + 1) (length l)
length_yes true l v = length-append l (v ∷ [])
length_yes false l v = refl

length_no : (b : Bool) (l : List ℕ) (v : ℕ) → length (appended (not b) l v) ≡ cond b (length l) (length l + 1)
length_no true l v = refl
length_no false l v = length-append l (v ∷ [])

-- the reading with record i, whether or not a cut lies below
abbrev read_with : Bool → List ℕ → ℕ → Reading
read_with b R i = let s = with_variable (reading R i) (variable R i) in cond b (with_cut s (rail_byte R i)) s

module _ (R : List ℕ) (i : ℕ) where
  pub ended-size : size_of (ended_cell R i) ≡ cell (end_inputs R i) (end_outputs R i)
  unfolding size_of with_variable
  ended-size =
      ap₂ (λ (a b : ℕ). cell ((reading R i).upper + a) (b + rail_byte R i)) (length_yes (is_input (variable R i)) (reading R i).ins (variable R i))
      (length_no (is_input (variable R i)) (reading R i).outs (variable R i - 128))

  pub next-ins : begun_ins R (i + 1) ≡ cond (eqb (cut_byte R i) 1) 0 (more_ins R i)
  unfolding reading with_variable with_cut
  next-ins = rw (add-one i) (by (eqb (cut_byte R i) 1))
    where
      by : (b : Bool) → length (read_with b R i).ins ≡ cond b 0 (more_ins R i)
      by true = refl
      by false = length_yes (is_input (variable R i)) (reading R i).ins (variable R i)

  pub next-outs : begun_outs R (i + 1) ≡ cond (eqb (cut_byte R i) 1) 0 (more_outs R i)
  unfolding reading with_variable with_cut
  next-outs = rw (add-one i) (by (eqb (cut_byte R i) 1))
    where
      by : (b : Bool) → length (read_with b R i).outs ≡ cond b 0 (more_outs R i)
      by true = refl
      by false = length_no (is_input (variable R i)) (reading R i).outs (variable R i - 128)

  pub next-upper : (reading R (i + 1)).upper ≡ cond (eqb (cut_byte R i) 1) (rail_byte R i) (reading R i).upper
  unfolding reading with_variable with_cut
  next-upper = rw (add-one i) (by (eqb (cut_byte R i) 1))
    where
      by : (b : Bool) → (read_with b R i).upper ≡ cond b (rail_byte R i) (reading R i).upper
      by true = refl
      by false = refl

  pub next-ended : cells_to R (i + 1) ≡ cond (eqb (cut_byte R i) 1) (cells_to R i ++ (ended_cell R i ∷ [])) (cells_to R i)
  unfolding reading with_variable with_cut
  next-ended = rw (add-one i) (by (eqb (cut_byte R i) 1))
    where
      by : (b : Bool) → (read_with b R i).ended
          ≡ cond b (cells_to R i ++ (ended_cell R i ∷ [])) (cells_to R i)
      by true = refl
      by false = refl

-- with z bytes a row: not larger than the largest; each of the cells is so; the rows of all
abbrev size_fits : ℕ → StoredCell → Bool
size_fits z c = fits largest_inputs (outputs_in z) (size_of c)

unfoldable pub fit_all : ℕ → List StoredCell → Bool
fit_all z cs = every (length cs) (λ k. size_fits z (get_or cs k no_cell))

unfoldable pub row_sum : List StoredCell → ℕ
row_sum cs = sum (length cs) (λ k. rows (size_of (get_or cs k no_cell)))

-- of row bytes: each of the n from place at on is below b; the rows of each cell are below 2^outputs
unfoldable pub rows_below : ℕ → List ℕ → ℕ → ℕ → ℕ → Bool
rows_below z bytes at n b = every n (λ i. ltb (row_value z bytes (at + i)) b)

unfoldable pub bytes_fit : ℕ → List ℕ → List StoredCell → Bool
bytes_fit z bytes cs =
    every (length cs)
    (λ k. rows_below z bytes (sum k (λ j. rows (size_of (get_or cs j no_cell)))) (rows (size_of (get_or cs k no_cell))) (2 ^ (size_of (get_or cs k no_cell)).outputs))

and_true : (a : Bool) → (a && true) ≡ a
and_true true = refl
and_true false = refl

module _ (cs : List StoredCell) (c : StoredCell) where
  pub longer : length (cs ++ (c ∷ [])) ≡ suc (length cs)
  longer = length-append cs (c ∷ []) ∙ add-one (length cs)

  pub earlier : (k : ℕ) → k < length cs → get_or (cs ++ (c ∷ [])) k no_cell ≡ get_or cs k no_cell
  earlier k l = get_or-append cs (c ∷ []) no_cell k l

  pub latest : get_or (cs ++ (c ∷ [])) (length cs) no_cell ≡ c
  latest = get_or_at cs c [] no_cell (length cs) refl

  pub fit_one_more : (z : ℕ) → fit_all z (cs ++ (c ∷ [])) ≡ (fit_all z cs && size_fits z c)
  unfolding fit_all
  fit_one_more z =
      ap (λ (n : ℕ). every n (λ k. size_fits z (get_or (cs ++ (c ∷ [])) k no_cell))) longer
      ∙ ap₂ ◌&&◌
      (every_ext (λ k. size_fits z (get_or (cs ++ (c ∷ [])) k no_cell)) (λ k. size_fits z (get_or cs k no_cell)) (length cs)
      (λ k l. ap (size_fits z) (earlier k l)))
      (ap (size_fits z) latest)

  pub rows_one_more : row_sum (cs ++ (c ∷ [])) ≡ row_sum cs + rows (size_of c)
  unfolding row_sum
  rows_one_more =
      ap (λ (n : ℕ). sum n (λ k. rows (size_of (get_or (cs ++ (c ∷ [])) k no_cell)))) longer
      ∙ ap₂ ◌+◌
      (sum_ext (λ k. rows (size_of (get_or (cs ++ (c ∷ [])) k no_cell))) (λ k. rows (size_of (get_or cs k no_cell))) (length cs)
      (λ k l. ap (λ (d : StoredCell). rows (size_of d)) (earlier k l)))
      (ap (λ (d : StoredCell). rows (size_of d)) latest)

module _ (z : ℕ) (bytes : List ℕ) (cs : List StoredCell) (c : StoredCell) where
  pub bytes_one_more : bytes_fit z bytes (cs ++ (c ∷ [])) ≡ (bytes_fit z bytes cs && rows_below z bytes (row_sum cs) (rows (size_of c)) (2 ^ (size_of c).outputs))
  unfolding bytes_fit row_sum
  bytes_one_more =
      ap (λ (n : ℕ). every n (at (cs ++ (c ∷ [])))) (longer cs c)
      ∙ ap₂ ◌&&◌ (every_ext (at (cs ++ (c ∷ []))) (at cs) (length cs) (λ k l. same k (omega arith) _ _ (earlier cs c k l)))
      (same (length cs) (omega arith) _ _ (latest cs c))
    where
      at : List StoredCell → ℕ → Bool
      at ds k = rows_below z bytes (sum k (λ j. rows (size_of (get_or ds j no_cell)))) (rows (size_of (get_or ds k no_cell))) (2 ^ (size_of (get_or ds k no_cell)).outputs)

      same : (k : ℕ) → k ≤ length cs → (d e : StoredCell) → d ≡ e
          → rows_below z bytes (sum k (λ j. rows (size_of (get_or (cs ++ (c ∷ [])) j no_cell)))) (rows (size_of d)) (2 ^ (size_of d).outputs)
          ≡ rows_below z bytes (sum k (λ j. rows (size_of (get_or cs j no_cell)))) (rows (size_of e)) (2 ^ (size_of e).outputs)
      same k l d e p =
          ap₂ (λ (s : ℕ) (q : StoredCell). rows_below z bytes s (rows (size_of q)) (2 ^ (size_of q).outputs))
          (sum_ext (λ j. rows (size_of (get_or (cs ++ (c ∷ [])) j no_cell))) (λ j. rows (size_of (get_or cs j no_cell))) k
          (λ j h. ap (λ (q : StoredCell). rows (size_of q)) (earlier cs c j (omega arith)))) p

-- one record more
module _ (R : List ℕ) (i : ℕ) where
  pub fit_next : (z : ℕ) → fit_all z (cells_to R (i + 1))
      ≡ (fit_all z (cells_to R i) && cond (eqb (cut_byte R i) 1) (fits largest_inputs (outputs_in z) (cell (end_inputs R i) (end_outputs R i))) true)
  fit_next z = ap (fit_all z) (next-ended R i) ∙ by (eqb (cut_byte R i) 1)
    where
      by : (b : Bool) → fit_all z (cond b (cells_to R i ++ (ended_cell R i ∷ [])) (cells_to R i))
          ≡ (fit_all z (cells_to R i) && cond b (fits largest_inputs (outputs_in z) (cell (end_inputs R i) (end_outputs R i))) true)
      by true =
          fit_one_more (cells_to R i) (ended_cell R i) z ∙ ap (λ (d : Cell). fit_all z (cells_to R i) && fits largest_inputs (outputs_in z) d) (ended-size R i)
      by false = sym (and_true (fit_all z (cells_to R i)))

  pub rows_next : row_sum (cells_to R (i + 1)) ≡ row_sum (cells_to R i) + cond (eqb (cut_byte R i) 1) (2 ^ end_inputs R i) 0
  unfolding rows
  rows_next = ap row_sum (next-ended R i) ∙ by (eqb (cut_byte R i) 1)
    where
      by : (b : Bool) → row_sum (cond b (cells_to R i ++ (ended_cell R i ∷ [])) (cells_to R i))
          ≡ row_sum (cells_to R i) + cond b (2 ^ end_inputs R i) 0
      by true = rows_one_more (cells_to R i) (ended_cell R i) ∙ ap (λ (d : Cell). row_sum (cells_to R i) + rows d) (ended-size R i)
      by false = sym (add-zero (row_sum (cells_to R i)))

  pub bytes_next : (z : ℕ) (bytes : List ℕ) → bytes_fit z bytes (cells_to R (i + 1))
      ≡ (bytes_fit z bytes (cells_to R i) && cond (eqb (cut_byte R i) 1) (rows_below z bytes (row_sum (cells_to R i)) (2 ^ end_inputs R i) (2 ^ end_outputs R i)) true)
  unfolding rows
  bytes_next z bytes = ap (bytes_fit z bytes) (next-ended R i) ∙ by (eqb (cut_byte R i) 1)
    where
      by : (b : Bool) → bytes_fit z bytes (cond b (cells_to R i ++ (ended_cell R i ∷ [])) (cells_to R i))
          ≡ (bytes_fit z bytes (cells_to R i) && cond b (rows_below z bytes (row_sum (cells_to R i)) (2 ^ end_inputs R i) (2 ^ end_outputs R i)) true)
      by true =
          bytes_one_more z bytes (cells_to R i) (ended_cell R i)
          ∙ ap (λ (d : Cell). bytes_fit z bytes (cells_to R i) && rows_below z bytes (row_sum (cells_to R i)) (rows d) (2 ^ d.outputs)) (ended-size R i)
      by false = sym (and_true (bytes_fit z bytes (cells_to R i)))

-- no record read; all records read
pub begin : (z : ℕ) (R : List ℕ) → (fit_all z (cells_to R 0) ≡ true) × (row_sum (cells_to R 0) ≡ 0)
    × (begun_ins R 0 ≡ 0) × (begun_outs R 0 ≡ 0) × ((reading R 0).upper ≡ 0)
unfolding fit_all row_sum reading
begin z R = (refl, refl, refl, refl, refl)

pub bytes_begin : (z : ℕ) (bytes R : List ℕ) → bytes_fit z bytes (cells_to R 0) ≡ true
unfolding bytes_fit reading
bytes_begin z bytes R = refl

pub fit_all_lem : (z : ℕ) (R : List ℕ) → fit_all z (cells_to R (record_count R)) ≡ every (cell_count R) (cell_formed_as z R)
unfolding fit_all cell_count cell_formed_as cell_at stored_cells
fit_all_lem z R = refl

pub rows_all : (R : List ℕ) → row_sum (cells_to R (record_count R)) ≡ row_count R
unfolding row_sum row_count rows_before cell_count cell_at stored_cells
rows_all R = refl

pub bytes-all : (z : ℕ) (bytes R : List ℕ) → bytes_fit z bytes (cells_to R (record_count R)) ≡ every (cell_count R) (rows_formed_as z R bytes)
unfolding bytes_fit rows_below rows_formed_as rows_before cell_count cell_at stored_cells
bytes-all z bytes R = refl

-- the cell begun is small
pub begun-few : (R : List ℕ) (i : ℕ) → (begun_ins R i ≤ i) × (begun_outs R i ≤ i)
begun-few R zero = let b = begin 0 R in (omega (arith, b.2), omega (arith, b.3))
begun-few R (suc i) =
    let h = begun-few R i in
    let e : begun_ins R (suc i) ≡ cond (eqb (cut_byte R i) 1) 0 (more_ins R i) = ap (begun_ins R) (sym (add-one i)) ∙ next-ins R i in
    let d : begun_outs R (suc i) ≡ cond (eqb (cut_byte R i) 1) 0 (more_outs R i) = ap (begun_outs R) (sym (add-one i)) ∙ next-outs R i in
    let k = by (eqb (cut_byte R i) 1) (is_input (variable R i)) h in
    (omega (arith, e, k.0), omega (arith, d, k.1))
  where
    by : (b d : Bool) → (begun_ins R i ≤ i) × (begun_outs R i ≤ i)
        → (cond b 0 (cond d (begun_ins R i + 1) (begun_ins R i)) ≤ suc i) × (cond b 0 (cond d (begun_outs R i) (begun_outs R i + 1)) ≤ suc i)
    by true d h = (omega arith, omega arith)
    by false true h = (omega arith, omega arith)
    by false false h = (omega arith, omega arith)

-- where all cells fit, those ended fit
pub fit_fewer : (z : ℕ) (R : List ℕ) (i n : ℕ) → i ≤ n → fit_all z (cells_to R n) ≡ true → fit_all z (cells_to R i) ≡ true
fit_fewer z R i zero l h = let e : i ≡ 0 = omega arith in ap (λ (k : ℕ). fit_all z (cells_to R k)) e ∙ h
fit_fewer z R i (suc n) l h =
    last_or_below i (suc n) (omega arith) (λ e. ap (λ (k : ℕ). fit_all z (cells_to R k)) e ∙ h)
    (λ k.
    let f = sym (fit_next R n z) ∙ ap (λ (q : ℕ). fit_all z (cells_to R q)) (add-one n) ∙ h in
    fit_fewer z R i n (omega arith) (and_split (fit_all z (cells_to R n)) _ f).0)

pub rows_rise : (R : List ℕ) (i n : ℕ) → i ≤ n → row_sum (cells_to R i) ≤ row_sum (cells_to R n)
rows_rise R i zero l = let e : i ≡ 0 = omega arith in let f = ap (λ (k : ℕ). row_sum (cells_to R k)) e in omega (arith, f)
rows_rise R i (suc n) l =
    last_or_below i (suc n) (omega arith) (λ e. let f = ap (λ (k : ℕ). row_sum (cells_to R k)) e in omega (arith, f))
    (λ k.
    let f = ap (λ (q : ℕ). row_sum (cells_to R q)) (sym (add-one n)) ∙ rows_next R n in
    let h = rows_rise R i n (omega arith) in
    omega (arith, f, h))

-- a cell that fits
module _ (z : ℕ) (R : List ℕ) (fit : every (cell_count R) (cell_formed_as z R) ≡ true) (i : ℕ) (l : i < record_count R) (c : cut_byte R i ≡ 1) where
  pub cell-small : (end_inputs R i ≤ largest_inputs) × (end_outputs R i ≤ outputs_in z)
  cell-small =
      let size : Cell = cell (end_inputs R i) (end_outputs R i) in
      let a = fit_fewer z R (i + 1) (record_count R) (omega arith) (fit_all_lem z R ∙ fit) in
      let b = (and_split (fit_all z (cells_to R i)) _ (sym (fit_next R i z) ∙ a)).1 in
      let d = sym (cond_yes (eqb (cut_byte R i) 1) (fits largest_inputs (outputs_in z) size) true (eq-eqb (cut_byte R i) 1 c)) ∙ b in
      fits-split largest_inputs (outputs_in z) size d

  pub cell_inside : row_sum (cells_to R i) + 2 ^ end_inputs R i ≤ row_count R
  cell_inside =
      let a = rows_rise R (i + 1) (record_count R) (omega arith) in
      let b = rows_next R i ∙ ap (λ (x : ℕ). row_sum (cells_to R i) + x) (cond_yes (eqb (cut_byte R i) 1) (2 ^ end_inputs R i) 0 (eq-eqb (cut_byte R i) 1 c)) in
      omega (arith, a, b, rows_all R)
