-- A compiled block: its job and sheet are refused in no case, its records and rows are those made, and a run over it sets its outputs to
-- allowed values.
-- Assumes nothing.
use mathlib.Core.Path.{◌≡◌, sym, ◌∙◌, ap, ap₂}
use mathlib.Core.Logic.{◌⊎◌, inl, inr}
use mathlib.Core.Bool.{true, false}
use mathlib.Core.List.{List}
use Prim.Native.Nat.{ℕ, suc, ◌+◌, ◌-◌, ◌*◌, ◌^◌, ◌<◌, ◌≤◌}
use native.Mathlib.Omega.{arith}
use lib.Dec.{eqb}
use lib.ListN.{length, get_or, take}
use Rattle.laws.specs.Lists.{written}
use Rattle.laws.proofs.Cases.{by_less, cond_no}
use Rattle.laws.proofs.Bits.{flag-lt}
use Rattle.laws.proofs.Filled.{written_front}
use Rattle.sheet_spec.specs.Job.{Job, t, outs, var_at, is_input, input_list, number_of}
use Rattle.sheet_spec.specs.Refusals.{refuse1, refuse2, refuse3, refuse4, refuse5, refuse6, sheet_refusal}
use Rattle.sheet_spec.specs.Table.{table}
use Rattle.sheet_spec.proofs.Promises.{job-accepted, output_height}
use Rattle.reduction_spec.specs.declared.Node.{Node}
use Rattle.reduction_spec.specs.Merge.{reduced, refuse7}
use Rattle.stored_spec.specs.RowBytes.{two_bytes, room}
use Rattle.stored_spec.specs.StoredForm.{cell_count, cell_at, size_of, well_formed}
use Rattle.stored_spec.specs.Run.{Running, run}
use Rattle.stored_spec.proofs.Promises.{length-row_bytes, bytes_small}
use Rattle.cutting_spec.specs.Choice.{refuse8}
use Rattle.cutting_spec.specs.Compile.{Answer, refused, accepted, CompiledAs, made, totals, acceptance, compile}
use Rattle.cutting_spec.proofs.Promises.{case, accepts, cuts-some, length-stored, Emitted, emitted-allowed, compiled-unset, cells_count, made-formed, made-outputs, made-cuts, made-count, made-run, made-emits, made_all}
use Rattle.bank_spec.specs.Book.{Block}
use Rattle.bank_spec.specs.Demand3.{CompiledBy, SetAllowed}
use Rattle.bank_spec.proofs.CompiledAs.{none}

unfoldable rows_answered : Answer → ℕ
rows_answered (refused n) = 0
rows_answered (accepted a) = a.rows

module _ (j : Job) (s : List ℕ) (B : Block) (c : CompiledBy j s B) where
  no_case : (n : ℕ) → n ≤ 11 → case (λ xs. xs) c.nodes c.records c.rows j s n ≡ false
  unfolding compile
  no_case = none (λ xs. xs) c.nodes c.records c.rows j s c.totals c.accepted

  pub compiled-sheet : sheet_refusal j s ≡ 0
  unfolding sheet_refusal
  compiled-sheet =
      cond_no (refuse1 j) 1 _ (no_case 1 (omega arith)) ∙ cond_no (refuse2 j) 2 _ (no_case 2 (omega arith))
      ∙ cond_no (refuse3 s) 3 _ (no_case 3 (omega arith)) ∙ cond_no (refuse4 j s) 4 _ (no_case 4 (omega arith))
      ∙ cond_no (refuse5 j s) 5 _ (no_case 5 (omega arith)) ∙ cond_no (refuse6 j s) 6 0 (no_case 6 (omega arith))

  pub compiled-narrow : refuse7 j (table j s) ≡ false
  compiled-narrow = no_case 7 (omega arith)

  pub compiled-cut : refuse8 j (made j (table j s)).widths ≡ false
  compiled-cut = no_case 8 (omega arith)

  accepted_as : compile c.nodes c.records c.rows j s
      ≡ acceptance (λ xs. xs) c.nodes c.records c.rows j (made j (table j s))
  unfolding compile
  accepted_as = accepts (λ xs. xs) c.nodes c.records c.rows j s no_case

  records-made : length (made j (table j s)).records ≡ 4 * t j
  unfolding made
  records-made = length-stored j (made j (table j s)).widths (made j (table j s)).cuts

  rows_made : room two_bytes c.totals.rows ≡ length (made j (table j s)).row_bytes
  unfolding acceptance totals rows_answered made
  rows_made =
      ap (room two_bytes) (sym (ap rows_answered c.accepted) ∙ ap (λ (r : CompiledAs Node). rows_answered r.answer) accepted_as)
      ∙ sym (length-row_bytes two_bytes (made j (table j s)).rows)

  pub compiled-records : B.records ≡ (made j (table j s)).records
  unfolding acceptance
  compiled-records =
      let R = (made j (table j s)).records in
      c.records_written ∙ ap (λ (r : CompiledAs Node). take (4 * t j) r.records) accepted_as
      ∙ ap (λ (n : ℕ). take n (written c.records 0 R)) (sym records-made) ∙ written_front R c.records

  pub compiled-rows : B.rows ≡ (made j (table j s)).row_bytes
  unfolding acceptance
  compiled-rows =
      let bytes = (made j (table j s)).row_bytes in
      c.rows_written ∙ ap (λ (r : CompiledAs Node). take (room two_bytes c.totals.rows) r.rows) accepted_as
      ∙ ap (λ (n : ℕ). take n (written c.rows 0 bytes)) rows_made ∙ written_front bytes c.rows

  pub compiled-bytes : (i : ℕ) → get_or B.rows i 0 < 256
  unfolding made
  compiled-bytes i = rw compiled-rows (bytes_small two_bytes (made j (table j s)).rows i)

  pub compiled-formed : well_formed B.records B.rows ≡ true
  compiled-formed = ap₂ well_formed compiled-records compiled-rows ∙ made-formed j s compiled-sheet compiled-cut

  pub compiled-outputs : (k : ℕ) → k < cell_count B.records → (size_of (cell_at B.records k)).outputs ≤ j.L
  compiled-outputs k h = rw compiled-records (made-outputs j s compiled-sheet compiled-cut k (omega (arith, ap cell_count compiled-records)))

  run-made : (w k : ℕ) → run B.records B.rows w k ≡ run (made j (table j s)).records (made j (table j s)).row_bytes w k
  run-made w k = ap₂ (λ (R bytes : List ℕ). run R bytes w k) compiled-records compiled-rows

  -- after k cells, at the k-th cut: the rail word, the outputs above the cut, and no others
  pub compiled_runs : (w k : ℕ) → k < length (made j (table j s)).cuts
      → Emitted j (reduced j (table j s)) (number_of (input_list j) w) (get_or (made j (table j s)).cuts k 0) (run B.records B.rows w k)
  compiled_runs w k h = rw (run-made w k) (made-emits j s compiled-sheet compiled-cut w k h)

  pub compiled-cells : cell_count B.records ≡ (made j (table j s)).cells
  compiled-cells = ap cell_count compiled-records ∙ made-count j s compiled-sheet compiled-cut

  -- after its last cell each output is set to an allowed value
  pub compiled-whole : (w o : ℕ) → o < j.m → SetAllowed s w o (get_or (run B.records B.rows w (cell_count B.records)).outputs o 2)
  compiled-whole w o h =
      let all = made_all j s compiled-sheet compiled-cut w o h in
      let is : run B.records B.rows w (cell_count B.records)
      ≡ run (made j (table j s)).records (made j (table j s)).row_bytes w (made j (table j s)).cells =
      run-made w (cell_count B.records) ∙ ap (run (made j (table j s)).records (made j (table j s)).row_bytes w) compiled-cells in
      rw is (record { is_set = all.0; allowed = all.1 })

  cuts-made : (made j (table j s)).cells ≡ length (made j (table j s)).cuts - 1
  unfolding made
  cuts-made = cells_count j (made j (table j s)).widths (made j (table j s)).cuts

  unset_below : (w k h : ℕ) → k < length (made j (table j s)).cuts → h < get_or (made j (table j s)).cuts k 0
      → is_input (var_at j (suc h)) ≡ false
      → get_or (run B.records B.rows w k).outputs (var_at j (suc h) - 128) 2 ≡ 2
  unfolding made
  unset_below w k h p below output =
      ap (λ (r : Running). get_or r.outputs (var_at j (suc h) - 128) 2) (run-made w k ∙ made-run j s compiled-sheet compiled-cut w k p)
      ∙ compiled-unset j s compiled-sheet (made j (table j s)).cuts (made-cuts j s compiled-sheet compiled-cut) w k h p below output

  -- after k cells each output is unset or set to an allowed value
  pub compiled_part : (w k o : ℕ) → k ≤ cell_count B.records → o < j.m
      → (get_or (run B.records B.rows w k).outputs o 2 ≡ 2) ⊎ SetAllowed s w o (get_or (run B.records B.rows w k).outputs o 2)
  compiled_part w k o k≤ o< =
      let good = job-accepted j s compiled-sheet in
      let (h, h<, output, is) = output_height j good.order-whole good.inputs good.outputs o o< in
      let l = (made j (table j s)).cuts in
      let some = cuts-some (made-cuts j s compiled-sheet compiled-cut) in
      let k< : k < length l = omega (arith, compiled-cells, cuts-made) in
      rw (sym is)
      (by_less h (get_or l k 0) (λ below. inl (unset_below w k h k< below output))
      (λ above.
      let set = (compiled_runs w k k<).above h above h< output in
      inr
      (rw set
      (record {
        is_set = flag-lt (eqb (get_or (reduced j (table j s)) (outs j h * 2 ^ j.n + number_of (input_list j) w) 0) 1);
        allowed = emitted-allowed j s compiled-sheet w h h< output;
      }))))
