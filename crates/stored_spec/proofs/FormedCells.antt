-- What the cells of well formed records have: at least one, inputs 0 to 11, each as many upper rails as the cell above has lower rails,
-- and a row at each address.
-- Assumes nothing.
use mathlib.Core.Path.{◌≡◌, refl, sym, ◌∙◌, ap}
use mathlib.Core.Bool.{true, not, ◌||◌}
use mathlib.Core.List.{List, [], ◌∷◌, ◌++◌}
use Prim.Native.Nat.{ℕ, zero, suc, ◌+◌, ◌-◌, ◌*◌, ◌^◌, ◌<◌, ◌≤◌}
use native.Mathlib.Nat.{not-suc-le-zero, add-zero, pow-suc}
use native.Mathlib.Omega.{arith}
use lib.Dec.{eqb, leb}
use lib.ListN.{length, get_or}
use borrow.Author.Tests.{leb-true, ltb-true, eq-eqb}
use Rattle.laws.specs.Bits.{bit}
use Rattle.laws.specs.Tests.{every, within}
use Rattle.laws.proofs.Bits.{bit-lt}
use Rattle.laws.proofs.Cases.{by_test, cond_both, cond_yes, and_split}
use Rattle.laws.proofs.Counts.{sum_at}
use Rattle.laws.proofs.Tests.{within_has}
use Rattle.sheet_spec.specs.Job.{is_input}
use Rattle.stored_spec.specs.Cells.{rows}
use Rattle.stored_spec.specs.StoredForm.{StoredCell, Reading, record_count, variable, cut_byte, rail_byte, last_byte, with_variable, with_cut, reading, stored_cells, cell_count, no_cell, cell_at, size_of, rows_before, row_count, record_formed, records_formed}
use Rattle.stored_spec.specs.RowBytes.{two_bytes}
use Rattle.stored_spec.specs.Run.{address, row_place}
use Rattle.stored_spec.proofs.StoredParts.{records_have}
use Rattle.stored_spec.proofs.StoredCells.{cells_to, ended_cell, next-ended, longer}

-- each number of the list is below n
abbrev pub AllBelow : ℕ → List ℕ → Type 0
AllBelow n [] = Unit
AllBelow n (x ∷ xs) = (x < n) × AllBelow n xs

below_snoc : (n : ℕ) (l : List ℕ) (x : ℕ) → AllBelow n l → x < n → AllBelow n (l ++ (x ∷ []))
below_snoc n [] x h p = (p, tt)
below_snoc n (y ∷ l) x h p = (h.0, below_snoc n l x h.1 p)

-- the cells have inputs 0 to 11
abbrev SmallInputs : List StoredCell → Type 0
SmallInputs [] = Unit
SmallInputs (c ∷ cs) = AllBelow 12 c.ins × SmallInputs cs

small-snoc : (cs : List StoredCell) (c : StoredCell) → SmallInputs cs → AllBelow 12 c.ins → SmallInputs (cs ++ (c ∷ []))
small-snoc [] c h p = (p, tt)
small-snoc (d ∷ cs) c h p = (h.0, small-snoc cs c h.1 p)

small_at : (cs : List StoredCell) (k : ℕ) → SmallInputs cs → AllBelow 12 (get_or cs k no_cell).ins
small_at [] k h = tt
small_at (c ∷ cs) zero h = h.0
small_at (c ∷ cs) (suc k) h = small_at cs k h.1

-- the cells follow one another from u rails above the first to v below the last
abbrev Follow : ℕ → List StoredCell → ℕ → Type 0
Follow u [] v = u ≡ v
Follow u (c ∷ cs) v = (c.upper ≡ u) × Follow c.lower cs v

follow_snoc : (u : ℕ) (cs : List StoredCell) (v : ℕ) (c : StoredCell) → Follow u cs v → c.upper ≡ v → Follow u (cs ++ (c ∷ [])) c.lower
follow_snoc u [] v c h p = (p ∙ sym h, refl)
follow_snoc u (d ∷ cs) v c h p = (h.0, follow_snoc d.lower cs v c h.1 p)

follow_at : (u : ℕ) (cs : List StoredCell) (v k : ℕ) → Follow u cs v → suc k < length cs → (get_or cs (suc k) no_cell).upper ≡ (get_or cs k no_cell).lower
follow_at u [] v k h l = absurd (not-suc-le-zero l)
follow_at u (c ∷ []) v k h l = absurd (omega arith)
follow_at u (c ∷ d ∷ cs) v zero h l = h.1.0
follow_at u (c ∷ d ∷ cs) v (suc k) h l = follow_at c.lower (d ∷ cs) v k h.1 (omega arith)

follow_first : (u : ℕ) (cs : List StoredCell) (v : ℕ) → Follow u cs v → 0 < length cs → (get_or cs 0 no_cell).upper ≡ u
follow_first u [] v h l = absurd (not-suc-le-zero l)
follow_first u (c ∷ cs) v h l = h.0

pub record Ordered (r : Reading) : Type 0 where
  pub inputs : SmallInputs r.ended
  pub begun : AllBelow 12 r.ins
  pub follow : Follow 0 r.ended r.upper

-- the variable of a well formed record: an input 0 to 11 or an output 128 to 135
module _ (R : List ℕ) (i : ℕ) (e : record_formed R i ≡ true) where
  in_range : (leb (variable R i) 11 || within 128 135 (variable R i)) ≡ true
  unfolding record_formed
  in_range =
      let d = (and_split _ (every i (λ k. not (eqb (variable R k) (variable R i)))) e).0 in
      let c = (and_split _ (eqb (last_byte R i) 0) d).0 in
      let b = (and_split _ (eqb (cut_byte R i) 1 || eqb (rail_byte R i) 0) c).0 in
      (and_split _ (leb (cut_byte R i) 1) b).0

  pub small_input : variable R i < 128 → variable R i < 12
  small_input l =
      by_test (leb (variable R i) 11) (λ q. omega (arith, leb-true (variable R i) 11 q))
      (λ q. let w : within 128 135 (variable R i) ≡ true = rw q at in_range in absurd (omega (arith, (within_has 128 135 (variable R i) w).0, l)))

  pub small_output : 128 ≤ variable R i → variable R i < 136
  small_output l =
      by_test (leb (variable R i) 11) (λ q. absurd (omega (arith, leb-true (variable R i) 11 q, l)))
      (λ q. let w : within 128 135 (variable R i) ≡ true = rw q at in_range in omega (arith, (within_has 128 135 (variable R i) w).1))

with_variable_lem : (R : List ℕ) (i : ℕ) → record_formed R i ≡ true → Ordered (reading R i) → Ordered (with_variable (reading R i) (variable R i))
unfolding with_variable
with_variable_lem R i e h =
    record {
      inputs = h.inputs;
      begun =
          by_test (is_input (variable R i))
          (λ p. rw p (below_snoc 12 (reading R i).ins (variable R i) h.begun (small_input R i e (ltb-true (variable R i) 128 p)))) (λ p. rw p h.begun);
      follow = h.follow;
    }

with_cut_lem : (s : Reading) (r : ℕ) → Ordered s → Ordered (with_cut s r)
unfolding with_cut
with_cut_lem s r h =
    let c : StoredCell = record { ins = s.ins; outs = s.outs; upper = s.upper; lower = r } in
    record {
      inputs = small-snoc s.ended c h.inputs h.begun;
      begun = tt;
      follow = follow_snoc 0 s.ended s.upper c h.follow refl;
    }

read_ordered : (R : List ℕ) (n : ℕ) → ((i : ℕ) → i < n → record_formed R i ≡ true) → Ordered (reading R n)
unfolding reading
read_ordered R zero h = record { inputs = tt; begun = tt; follow = refl }
read_ordered R (suc n) h =
    let s = with_variable_lem R n (h n (omega arith)) (read_ordered R n (λ i l. h i (omega arith))) in
    cond_both Ordered (eqb (cut_byte R n) 1) (with_cut_lem (with_variable (reading R n) (variable R n)) (rail_byte R n) s) s

module _ (R : List ℕ) (formed : records_formed R ≡ true) where
  all_ordered : Ordered (reading R (record_count R))
  all_ordered = read_ordered R (record_count R) (records_have two_bytes R formed).each

  pub inputs-small : (k : ℕ) → AllBelow 12 (cell_at R k).ins
  unfolding cell_at stored_cells
  inputs-small k = small_at (reading R (record_count R)).ended k all_ordered.inputs

  pub rails_follow : (k : ℕ) → suc k < cell_count R → (cell_at R (suc k)).upper ≡ (cell_at R k).lower
  unfolding cell_at cell_count stored_cells
  rails_follow k l = follow_at 0 (reading R (record_count R)).ended (reading R (record_count R)).upper k all_ordered.follow l

  -- no rails above the first cell
  pub first-upper : 0 < cell_count R → (cell_at R 0).upper ≡ 0
  unfolding cell_at cell_count stored_cells
  first-upper l = follow_first 0 (reading R (record_count R)).ended (reading R (record_count R)).upper all_ordered.follow l

  -- the last record ends a cell
  pub some-cell : 0 < cell_count R
  unfolding cell_count stored_cells
  some-cell =
      let have = records_have two_bytes R formed in
      let i = record_count R - 1 in
      let e : i + 1 ≡ record_count R = omega (arith, have.some) in
      let cells : cells_to R (record_count R) ≡ cells_to R i ++ (ended_cell R i ∷ []) =
      ap (cells_to R) (sym e) ∙ next-ended R i ∙ cond_yes (eqb (cut_byte R i) 1) _ _ (eq-eqb (cut_byte R i) 1 have.last) in
      omega (arith, ap (λ (cs : List StoredCell). length cs) cells, longer (cells_to R i) (ended_cell R i))

-- an address lies within the cell's rows
pub address-lt : (u r : ℕ) (is : List ℕ) (w : ℕ) → r < 2 ^ u → address r is w < 2 ^ (u + length is)
unfolding address
address-lt u r [] w h = rw add-zero h
address-lt u r (i ∷ is) w h =
    let d : r * 2 + bit w i < 2 ^ suc u = rw pow-suc (omega (arith, bit-lt w i)) in
    let e : suc u + length is ≡ u + suc (length is) = omega arith in
    rw e at (address-lt (suc u) (r * 2 + bit w i) is w d)

pub row_within : (R : List ℕ) (k r w : ℕ) → k < cell_count R → r < 2 ^ (cell_at R k).upper → row_place R k r w < row_count R
unfolding row_place row_count rows_before rows size_of
row_within R k r w l h =
    omega (arith, address-lt (cell_at R k).upper r (cell_at R k).ins w h, sum_at (λ i. rows (size_of (cell_at R i))) (cell_count R) k l)
