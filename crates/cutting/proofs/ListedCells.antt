-- The places of the cells by the stored records of an accepted job: the cuts and the rows of the cascade made, and the lines printed of them.
-- Assumes nothing.
use mathlib.Core.Path.{◌≡◌, refl, sym, ◌∙◌, ap, ap₂}
use mathlib.Core.Bool.{true, false, ◌&&◌}
use mathlib.Core.List.{List, [], ◌∷◌}
use Prim.Native.Nat.{ℕ, zero, suc, ◌+◌, ◌-◌, ◌<◌, ◌≤◌}
use native.Mathlib.Nat.{not-suc-le-zero}
use native.Mathlib.Omega.{arith}
use lib.Dec.{ltb}
use lib.ListN.{length, get_or, take, drop}
use lib.Seq.{drop-drop}
use borrow.Author.Tests.{lt-ltb}
use Rattle.laws.specs.Tests.{sum}
use Rattle.laws.proofs.Cases.{and_join, cond_yes}
use Rattle.laws.proofs.Counts.{sum_front}
use Rattle.sheet_spec.specs.Job.{Job, t}
use Rattle.sheet_spec.specs.Refusals.{sheet_refusal}
use Rattle.sheet_spec.specs.Table.{table}
use Rattle.sheet_spec.proofs.Promises.{ins_rise, outs_rise, ins-outs}
use Rattle.cutting_spec.specs.Cuts.{CutList, cell_between}
use Rattle.stored_spec.specs.Cells.{rows}
use Rattle.cutting_spec.specs.Choice.{refuse8}
use Rattle.stored_spec.specs.StoredForm.{cell_at, cell_count, rows_before, records_formed, stored}
use Rattle.stored_spec.proofs.Promises.{formed-records}
use Rattle.cutting_spec.specs.Compile.{made}
use Rattle.cutting_spec.specs.Listing.{cell_lines}
use Rattle.stored.specs.declared.CellPlace.{CellPlace}
use Rattle.stored.specs.Places.{variables_of, height_above, cell_place}
use Rattle.cutting_spec.proofs.StoredCuts.{stored_between, between_ins, between_outs, record_count_lem, cuts_fall, cuts_first, cell_at_lem, cell-count, rows_before_lem}
use Rattle.cutting_spec.proofs.MadeCascade.{made-cuts, made-count, made-formed}
use Rattle.stored.proofs.Promises.{between, between_same}

-- the variables between two cuts
variables_between : (j : Job) (ws : List ℕ) (a b : ℕ) → b ≤ a → variables_of (stored_between j ws a b) + b ≡ a
unfolding variables_of stored_between
variables_between j ws a b l =
    omega (arith, between_ins j ws a b l, between_outs j ws a b l, ins-outs j a, ins-outs j b, ins_rise j b a l, outs_rise j b a l)

-- the line of cell k of a list: its rows lie behind those of the cells above
module _ (j : Job) (ws : List ℕ) where
  abbrev sizes : List ℕ → ℕ → ℕ
  sizes l i = rows (cell_between j ws (get_or l i 0) (get_or l (suc i) 0))

  line_at_lem : (l bytes : List ℕ) (k : ℕ) → suc k < length l
      → get_or (cell_lines j ws l bytes) k [] ≡ get_or l k 0 ∷ get_or l (suc k) 0 ∷ take (sizes l k) (drop (sum k (sizes l)) bytes)
  unfolding cell_lines
  line_at_lem [] bytes k h = absurd (not-suc-le-zero h)
  line_at_lem (a ∷ []) bytes k h = absurd (omega arith)
  line_at_lem (a ∷ b ∷ l) bytes zero h = refl
  line_at_lem (a ∷ b ∷ l) bytes (suc k) h =
      let first = rows (cell_between j ws a b) in
      line_at_lem (b ∷ l) (drop first bytes) k (omega arith)
      ∙ ap (λ (x : List ℕ). get_or (b ∷ l) k 0 ∷ get_or (b ∷ l) (suc k) 0 ∷ take (sizes (b ∷ l) k) x)
      (drop-drop (sum k (sizes (b ∷ l))) first bytes ∙ ap (λ (x : ℕ). drop x bytes) (sym (sum_front (sizes (a ∷ b ∷ l)) k)))

module _ (j : Job) (ws l : List ℕ) (c : CutList (t j) l) where
  variables_above : (k : ℕ) → k < length l → sum k (λ i. variables_of (cell_at (stored j ws l) i)) + get_or l k 0 ≡ t j
  variables_above zero h = omega (arith, cuts_first c)
  variables_above (suc k) h =
      let fall = cuts_fall c k h in
      let one = ap variables_of (cell_at_lem j ws l c k h) in
      omega (arith, variables_above k (omega arith), one, variables_between j ws (get_or l k 0) (get_or l (suc k) 0) (omega arith))

  -- the height above a cell is that of its cut
  height_above_lem : (k : ℕ) → k < length l → height_above (stored j ws l) k ≡ get_or l k 0
  unfolding height_above
  height_above_lem k h = omega (arith, variables_above k h, record_count_lem j ws l)

  stored_place : records_formed (stored j ws l) ≡ true → (k : ℕ) → k < cell_count (stored j ws l)
      → cell_place (stored j ws l) k
      ≡ between (get_or l k 0) (get_or l (suc k) 0) (rows_before (stored j ws l) k) (rows_before (stored j ws l) (suc k))
  unfolding cell_place
  stored_place e k h =
      let some = cell-count j ws l c in
      cond_yes (records_formed (stored j ws l) && ltb k (cell_count (stored j ws l))) _ _ (and_join e (lt-ltb k (cell_count (stored j ws l)) h))
      ∙ between_same (height_above_lem k (omega arith)) (height_above_lem (suc k) (omega arith)) refl refl

  -- the line by a place in all rows
  abbrev line_of : List ℕ → CellPlace → List ℕ
  line_of bytes p = p.top ∷ p.bottom ∷ take (p.end - p.at) (drop p.at bytes)

  stored-line : records_formed (stored j ws l) ≡ true → (bytes : List ℕ) (k : ℕ) → k < cell_count (stored j ws l)
      → get_or (cell_lines j ws l bytes) k [] ≡ line_of bytes (cell_place (stored j ws l) k)
  stored-line e bytes k h =
      let some = cell-count j ws l c in
      let from = rows_before_lem j ws l c k (omega arith) in
      let size : sizes j ws l k ≡ rows_before (stored j ws l) (suc k) - rows_before (stored j ws l) k =
      omega (arith, from, rows_before_lem j ws l c (suc k) (omega arith)) in
      line_at_lem j ws l bytes k (omega arith)
      ∙ ap₂ (λ (n at : ℕ). get_or l k 0 ∷ get_or l (suc k) 0 ∷ take n (drop at bytes)) size (sym from)
      ∙ sym (ap (line_of bytes) (stored_place e k h))

module _ (j : Job) (s : List ℕ) (e : sheet_refusal j s ≡ 0) (kept : refuse8 j (made j (table j s)).widths ≡ false) where
  made-records : records_formed (made j (table j s)).records ≡ true
  made-records = formed-records (made j (table j s)).records (made j (table j s)).row_bytes (made-formed j s e kept)

  pub listed_place : (k : ℕ) → k < (made j (table j s)).cells
      → cell_place (made j (table j s)).records k
      ≡ record {
        top = get_or (made j (table j s)).cuts k 0;
        bottom = get_or (made j (table j s)).cuts (suc k) 0;
        at = rows_before (made j (table j s)).records k;
        end = rows_before (made j (table j s)).records (suc k);
      }
  unfolding made
  listed_place k h =
      stored_place j (made j (table j s)).widths (made j (table j s)).cuts (made-cuts j s e kept) made-records k (omega (arith, h, made-count j s e kept))

  -- the line of cell k: its cuts, and its rows out of all rows
  pub listed_line : (k : ℕ) → k < (made j (table j s)).cells
      → get_or (cell_lines j (made j (table j s)).widths (made j (table j s)).cuts (made j (table j s)).rows) k []
      ≡ (cell_place (made j (table j s)).records k).top ∷ (cell_place (made j (table j s)).records k).bottom
      ∷ take ((cell_place (made j (table j s)).records k).end - (cell_place (made j (table j s)).records k).at)
      (drop (cell_place (made j (table j s)).records k).at (made j (table j s)).rows)
  unfolding made
  listed_line k h =
      stored-line j (made j (table j s)).widths (made j (table j s)).cuts (made-cuts j s e kept) made-records (made j (table j s)).rows k
      (omega (arith, h, made-count j s e kept))
