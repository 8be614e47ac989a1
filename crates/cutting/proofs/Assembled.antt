-- The whole compiler: what each step of it needs and gives, from the reduction's answer to the three memories.
-- Assumes nothing.
use mathlib.Core.Path.{◌≡◌, refl, sym, ◌∙◌, ap, ap₂}
use mathlib.Core.Bool.{true, false}
use mathlib.Core.List.{List}
use Prim.Native.Nat.{ℕ, ◌+◌, ◌-◌, ◌*◌, ◌/◌, ◌<◌, ◌≤◌}
use native.Mathlib.Omega.{arith}
use borrow.Author.Tests.{eq-eqb, ne_eqb}
use lib.Dec.{eqb}
use lib.ListN.{length, get_or, replicate}
use lib.Seq.{sets}
use Rattle.laws.specs.Lists.{joined, puts, written}
use Rattle.laws.proofs.Cases.{and_split, by_less, by_equal, cond_yes, cond_no}
use Rattle.laws.proofs.Filled.{written-sets}
use Rattle.laws.proofs.Puts.{puts_ext, copied}
use Rattle.std.specs.Prelude.{Ok, Err}
use Rattle.refusals.specs.declared.Refusal.{Refusal}
use Rattle.refusals.specs.declared.Refusal.TheVariants.{NoCutList}
use Rattle.refusals.specs.Numbers.{number}
use Rattle.sheet_spec.specs.Job.{Job, t, ins}
use Rattle.sheet_spec.specs.Refusals.{sheet_refusal}
use Rattle.sheet_spec.specs.Table.{table}
use Rattle.sheet_spec.proofs.Promises.{order-length, job-accepted}
use Rattle.reduction_spec.specs.Columns.{layers, width_in}
use Rattle.reduction_spec.specs.Merge.{reduced, refuse7}
use Rattle.reduction_spec.specs.Diagram.{nodes, node_words}
use Rattle.reduction_spec.specs.declared.Reduction.{Reduction}
use Rattle.reduction_spec.specs.Reduction.{Reduced, reduced_of, reduce_as, reduction_refusal, final_nodes, final_table, reduction, widths_after, words_after}
use Rattle.reduction_spec.proofs.Promises.{length-node_words, words_of, refusal_is, accepted, narrow, nodes-few, node-count, few-variables}
use Rattle.stored_spec.specs.Cells.{all_fit}
use Rattle.cutting_spec.specs.Cuts.{CutList, cells_of}
use Rattle.stored_spec.specs.Rails.{rails_at}
use Rattle.cutting_spec.specs.Choice.{admissible, refuse8}
use Rattle.cutting_spec.specs.Compile as compiler
use Rattle.cutting_spec.specs.Compile.{widths_of, made, totals, refused}
use Rattle.cutting.specs.Levels.{rails_of, inputs_of}
use Rattle.cutting.specs.Plan.{Plan, planned, listed, width_up, first_in, record_in, rows_to, Writable, rows_stored, row_byte}
use Rattle.cutting.specs.RowWalks.{first_at}
use Rattle.cutting.specs.Outcome.{Answered, answered, outcome_of, outcome, memory_refusal}
use Rattle.cutting_spec.proofs.StoredWell.{all_more, job_limits}
use Rattle.cutting_spec.proofs.ChosenCuts.{chosen-admissible}
use Rattle.cutting_spec.proofs.MadeCascade.{made-cuts}
use Rattle.cutting.proofs.cell_rows.RowsWritten.{words-read}
use Rattle.cutting.proofs.records.RecordsWritten.{records-written}
use Rattle.cutting_spec.proofs.StoredCuts.{length-stored}
use Rattle.cutting.proofs.plan.PlanOfCascade.{plan, widths-answered, up_width, up_small, first_is, plan_rails, plan_inputs, plan_none, plan_cells, plan_bits, plan_few, plan_length, plan_cuts}
use Rattle.cutting.proofs.plan.PlannedRows.{rows_counted_lem, cell_writable, rows-stored}
use Rattle.cutting.proofs.Outcomes.{outcome_early, outcome_8, outcome_9, outcome_10, outcome_11, outcome-accepted}
use Rattle.stored_spec.specs.RowBytes.{two_bytes}
use Rattle.stored_spec.proofs.Promises.{length-row_bytes, room_two}
use Rattle.cutting.proofs.row_bytes.BytesPut.{bytes_put}
use Rattle.cutting.proofs.Enough.{rows_few}
use Rattle.cutting.proofs.MemoryRefusals.{is_9, is_10, is_11, is_0, holds-nodes, holds-records, holds_rows}

-- what holds of a plan that is not refused
pub record Kept (j : Job) (s : List ℕ) (r : Reduction) (ws words : List ℕ) (p : Plan) (nodes records rows : List ℕ) : Type 0 where
  pub variables : length j.order ≤ 20
  pub words-few : r.nodes * 3 ≤ 30720
  pub cells-few : p.cells ≤ 20
  pub rows_few : p.rows ≤ 12288
  pub nodes_fit : r.nodes * 3 ≤ length nodes
  pub records_fit : length j.order * 4 ≤ length records
  pub rows_fit : rows_to (rails_of p.levels) (inputs_of p.levels) p.cuts p.cells ≤ 12288
  pub bytes_fit : p.rows * 2 ≤ length rows
  pub columns : (g : ℕ) → g ≤ length j.order → width_up (length j.order) ws g ≤ 512
  pub writable : (i : ℕ) → i < p.cells
      → Writable (length j.order) words j.order ws (rails_of p.levels) (inputs_of p.levels) (get_or p.cuts i 0) (get_or p.cuts (i + 1) 0)
  pub stored : (nodes' records' rows'' : List ℕ)
      → nodes' ≡ puts (r.nodes * 3) (λ i. get_or words i 0) nodes
      → records' ≡ sets records 0 (joined (length j.order) (record_in (length j.order) j.order (rails_of p.levels) p.cuts (p.cells + 1)))
      → rows''
      ≡ puts (p.rows * 2)
      (row_byte (rows_stored (length j.order) words j.order ws (rails_of p.levels) (inputs_of p.levels) p.cuts p.cells (replicate 12288 0))) rows
      → outcome_of (record { refusal = 0; nodes = r.nodes; cells = p.cells; rows = p.rows; bits = p.bits; widths = ws }) nodes' records' rows''
      ≡ outcome nodes records rows j s

-- a plan that is none, and one that is
unlisted : (p : Plan) (r : Refusal) → Err r ≡ listed p → (p.cells ≡ 0) × (number r ≡ 8)
unfolding listed
unlisted p r e =
    by_equal p.cells 0
    (λ z. let same : Err r ≡ Err NoCutList = e ∙ cond_yes (eqb p.cells 0) (Err NoCutList) (Ok p) (eq-eqb p.cells 0 z) in
    let r-is : r ≡ NoCutList = cc in
    (z, ap number r-is))
    (λ some. let same : Err r ≡ Ok p = e ∙ cond_no (eqb p.cells 0) (Err NoCutList) (Ok p) (ne_eqb p.cells 0 some) in absurd cc)

list_is : (q p : Plan) → Ok q ≡ listed p → (q ≡ p) × (q.cells ≡ 0 → ⊥)
unfolding listed
list_is q p e =
    by_equal p.cells 0
    (λ z. let same : Ok q ≡ Err NoCutList = e ∙ cond_yes (eqb p.cells 0) (Err NoCutList) (Ok p) (eq-eqb p.cells 0 z) in absurd cc)
    (λ some.
    let same : Ok q ≡ Ok p = e ∙ cond_no (eqb p.cells 0) (Err NoCutList) (Ok p) (ne_eqb p.cells 0 some) in
    let q-is : q ≡ p = cc in
    (q-is, λ z. some (ap (λ (x : Plan). x.cells) (sym q-is) ∙ z)))

module _ (j : Job) (s : List ℕ) (r : Reduction) (is : r ≡ reduction j s) where
  -- 1 to 7
  pub refused_early : (r.refusal ≡ 0 → ⊥) → (nodes records rows : List ℕ) (a : Answered) → a ≡ answered (refused r.refusal)
      → outcome_of a nodes records rows ≡ outcome nodes records rows j s
  refused_early h nodes records rows a e =
      let same : r.refusal ≡ reduction_refusal j s = refusal_is j s r is in
      ap (λ (x : Answered). outcome_of x nodes records rows) (e ∙ ap (λ (n : ℕ). answered (refused n)) same)
      ∙ outcome_early nodes records rows j s (λ z. h (same ∙ z))

  module _ (none : r.refusal ≡ 0) where
    reads : reduction_refusal j s ≡ 0
    reads = sym (refusal_is j s r is) ∙ none

    e : sheet_refusal j s ≡ 0
    e = accepted j s reads

    slim : refuse7 j (table j s) ≡ false
    slim = narrow j s reads

    pub limits : (t j ≤ 20) × (j.K ≤ 12) × (j.L ≤ 16) × (length j.order ≡ t j)
    limits = let (some, k≤, l≤) = job_limits j s e in (few-variables j s reads, k≤, l≤, order-length j.n j.m j.order (job-accepted j s e).order-whole)

    -- what a plan needs
    pub asked : (1 ≤ length j.order) × (length j.order ≤ 20) × (j.K ≤ 12) × (j.L ≤ 16)
    asked = let (some, _, _) = job_limits j s e in rw limits.3 (omega (arith, some), limits.0, limits.1, limits.2)

    abbrev cascade : compiler.Made
    cascade = made j (table j s)

    node-words : length (node_words (made j (table j s)).nodes) ≡ r.nodes * 3
    unfolding made final_nodes final_table
    node-words = length-node_words cascade.nodes ∙ ap (λ (n : ℕ). n * 3) (sym (node-count j s reads r is))

    words-few : r.nodes * 3 ≤ 30720
    words-few = omega (arith, node-count j s reads r is, nodes-few j s reads)

    -- the plan
    module _ (ws words : List ℕ) (ws-is : ws ≡ widths_after j s (replicate 20 0)) (words-is : words ≡ words_after j s (replicate 30720 0))
        (p : Plan) (p-is : p ≡ planned (t j) j.K j.L j.order ws) (cells : ℕ) (cells_are : cells ≡ p.cells) where
      planned_is : p ≡ plan j s e slim
      planned_is = p-is ∙ ap (planned (t j) j.K j.L j.order) ws-is

      cells-few : cells ≤ 20
      cells-few = omega (arith, cells_are, ap (λ (q : Plan). q.cells) planned_is, plan_few j s e slim)

      none_is : refuse8 j (made j (table j s)).widths ≡ eqb cells 0
      none_is = plan_none j s e slim ∙ ap (λ (q : Plan). eqb q.cells 0) (sym planned_is) ∙ ap (λ (n : ℕ). eqb n 0) (sym cells_are)

      refused_8 : cells ≡ 0 → (nodes records rows : List ℕ) (a : Answered) → a ≡ answered (refused 8)
          → outcome_of a nodes records rows ≡ outcome nodes records rows j s
      refused_8 z nodes records rows a q =
          ap (λ (x : Answered). outcome_of x nodes records rows) q ∙ outcome_8 nodes records rows j s e slim (none_is ∙ eq-eqb cells 0 z)

      module _ (some : cells ≡ 0 → ⊥) where
        kept : refuse8 j (made j (table j s)).widths ≡ false
        kept = none_is ∙ ne_eqb cells 0 some

        abbrev l : List ℕ
        l = (made j (table j s)).cuts

        long : length l ≡ cells + 1
        long = plan_length j s e slim kept ∙ ap (λ (q : Plan). q.cells + 1) (sym planned_is) ∙ ap (λ (n : ℕ). n + 1) (sym cells_are)

        cuts_are : (i : ℕ) → i < length l → get_or p.cuts i 0 ≡ get_or l i 0
        cuts_are i h = ap (λ (q : Plan). get_or q.cuts i 0) planned_is ∙ plan_cuts j s e slim kept i h

        rails_are : (h : ℕ) → h ≤ t j → get_or (rails_of p.levels) h 0 ≡ rails_at j (made j (table j s)).widths h
        rails_are h q = ap (λ (x : Plan). get_or (rails_of x.levels) h 0) planned_is ∙ plan_rails j s e slim h q

        inputs_are : (h : ℕ) → h ≤ t j → get_or (inputs_of p.levels) h 0 ≡ ins j h
        inputs_are h q = ap (λ (x : Plan). get_or (inputs_of x.levels) h 0) planned_is ∙ plan_inputs j s e slim h q

        widths_are : (h : ℕ) → h ≤ t j → width_up (t j) ws h ≡ width_in (layers j (reduced j (table j s))) h
        widths_are h q = ap (λ (x : List ℕ). width_up (t j) x h) ws-is ∙ up_width j s e slim h q

        firsts_are : (h : ℕ) → h ≤ t j → first_in (t j) ws h ≡ first_at j (layers j (reduced j (table j s))) h
        firsts_are h q = ap (λ (x : List ℕ). first_in (t j) x h) ws-is ∙ first_is j s e slim h q

        same : (i : ℕ) → get_or words i 0 ≡ get_or (words_of j (reduced j (table j s))) i 0
        same i = ap (λ (x : List ℕ). get_or x i 0) words-is ∙ words-read j s e slim i

        falls : CutList (t j) l
        falls = made-cuts j s e kept

        good : admissible j (widths_of (layers j (reduced j (table j s)))) l ≡ true
        unfolding made
        good = chosen-admissible j (widths_of (layers j (reduced j (table j s)))) kept

        fit : all_fit 12 16 (cells_of j (widths_of (layers j (reduced j (table j s)))) l) ≡ true
        unfolding admissible
        fit =
            let (some', k≤, l≤) = job_limits j s e in
            all_more j.K j.L 12 16 k≤ l≤ (cells_of j (widths_of (layers j (reduced j (table j s)))) l)
            (and_split (all_fit j.K j.L (cells_of j (widths_of (layers j (reduced j (table j s)))) l)) _ good).0

        last : length l - 1 ≡ cells
        last = omega (arith, long)

        -- the rows
        rows_are : p.rows ≡ length (made j (table j s)).rows
        unfolding made planned
        rows_are =
            ap (λ (q : Plan). q.rows) p-is
            ∙ ap₂ (λ (q : Plan) (n : ℕ). rows_to (rails_of q.levels) (inputs_of q.levels) q.cuts n) (sym p-is) (sym (ap (λ (q : Plan). q.cells) p-is) ∙ sym cells_are ∙ sym last)
            ∙ rows_counted_lem j s e slim ws (rails_of p.levels) (inputs_of p.levels) p.cuts l words falls fit widths_are firsts_are rails_are inputs_are cuts_are same

        bytes_are : p.rows * 2 ≡ length (made j (table j s)).row_bytes
        unfolding made
        bytes_are =
            omega (arith, length-row_bytes two_bytes (made j (table j s)).rows, room_two (length (made j (table j s)).rows), rows_are)

        rows-small : p.rows ≤ 12288
        rows-small = omega (arith, rows_are, rows_few j s e slim kept)

        rows_fit : rows_to (rails_of p.levels) (inputs_of p.levels) p.cuts cells ≤ 12288
        unfolding planned
        rows_fit =
            let here : p.rows ≡ rows_to (rails_of p.levels) (inputs_of p.levels) p.cuts cells =
            ap (λ (q : Plan). q.rows) p-is
            ∙ ap₂ (λ (q : Plan) (n : ℕ). rows_to (rails_of q.levels) (inputs_of q.levels) q.cuts n) (sym p-is) (sym (ap (λ (q : Plan). q.cells) p-is) ∙ sym cells_are) in
            omega (arith, here, rows-small)

        columns-few : (g : ℕ) → g ≤ t j → width_up (t j) ws g ≤ 512
        columns-few g h = omega (arith, ap (λ (x : List ℕ). width_up (t j) x g) ws-is, up_small j s e slim g h)

        writable : (i : ℕ) → i < cells
            → Writable (t j) words j.order ws (rails_of p.levels) (inputs_of p.levels) (get_or p.cuts i 0) (get_or p.cuts (i + 1) 0)
        unfolding made
        writable i h =
            cell_writable j s e slim ws (rails_of p.levels) (inputs_of p.levels) p.cuts l words falls fit widths_are firsts_are rails_are inputs_are cuts_are same i
            (omega (arith, last))

        -- the memories
        module _ (nodes records rows : List ℕ) where
          refused_9 : length nodes < r.nodes * 3 → (a : Answered) → a ≡ answered (refused 9)
              → outcome_of a nodes records rows ≡ outcome nodes records rows j s
          refused_9 h a q =
              ap (λ (x : Answered). outcome_of x nodes records rows) q
              ∙ outcome_9 nodes records rows j s e slim kept (omega (arith, node-words))

          module _ (room : r.nodes * 3 ≤ length nodes) where
            fits : length (node_words (made j (table j s)).nodes) ≤ length nodes
            fits = omega (arith, node-words)

            refused_10 : length records < t j * 4 → (a : Answered) → a ≡ answered (refused 10)
                → outcome_of a nodes records rows ≡ outcome nodes records rows j s
            refused_10 h a q =
                ap (λ (x : Answered). outcome_of x nodes records rows) q
                ∙ outcome_10 nodes records rows j s e slim kept fits (omega arith)

            module _ (space : t j * 4 ≤ length records) where
              refused_11 : length rows / 2 < p.rows → (a : Answered) → a ≡ answered (refused 11)
                  → outcome_of a nodes records rows ≡ outcome nodes records rows j s
              refused_11 h a q =
                  ap (λ (x : Answered). outcome_of x nodes records rows) q
                  ∙ outcome_11 nodes records rows j s e slim kept fits (omega arith) (omega (arith, bytes_are))

              words-written : puts (r.nodes * 3) (λ i. get_or words i 0) nodes ≡ written nodes 0 (node_words (made j (table j s)).nodes)
              unfolding made
              words-written =
                  let vs : List ℕ = node_words (made j (table j s)).nodes in
                  ap (λ (n : ℕ). puts n (λ i. get_or words i 0) nodes) (sym node-words)
                  ∙ puts_ext (λ i. get_or words i 0) (λ i. get_or vs i 0) (length vs) nodes (λ i h. same i)
                  ∙ copied vs nodes fits

              records_put : sets records 0 (joined (t j) (record_in (t j) j.order (rails_of p.levels) p.cuts (cells + 1)))
                  ≡ written records 0 (made j (table j s)).records
              unfolding made
              records_put =
                  let vs = widths_of (layers j (reduced j (table j s))) in
                  ap (λ (n : ℕ). sets records 0 (joined (t j) (record_in (t j) j.order (rails_of p.levels) p.cuts n))) (sym long)
                  ∙ ap (sets records 0) (records-written j vs l (rails_of p.levels) p.cuts limits.3 (λ h q. rails_are h (omega arith)) cuts_are)
                  ∙ sym (written-sets records 0 (made j (table j s)).records (omega (arith, length-stored j vs l)))

              rows_put : length (made j (table j s)).row_bytes ≤ length rows
                  → puts (p.rows * 2) (row_byte (rows_stored (t j) words j.order ws (rails_of p.levels) (inputs_of p.levels) p.cuts cells (replicate 12288 0))) rows
                  ≡ written rows 0 (made j (table j s)).row_bytes
              unfolding made
              rows_put h =
                  let vs = (made j (table j s)).rows in
                  let stored = ap (λ (n : ℕ). rows_stored (t j) words j.order ws (rails_of p.levels) (inputs_of p.levels) p.cuts n (replicate 12288 0)) (sym last)
                  ∙ rows-stored j s e slim ws (rails_of p.levels) (inputs_of p.levels) p.cuts l words falls fit widths_are firsts_are rails_are inputs_are cuts_are same (replicate 12288 0) in
                  ap₂ (λ (n : ℕ) (x : List ℕ). puts (n * 2) (row_byte x) rows) rows_are stored
                  ∙ bytes_put vs rows (rows_few j s e slim kept) h

              answer_is : (rows' : ℕ) → rows' ≡ p.rows
                  → record { refusal = 0; nodes = r.nodes; cells = p.cells; rows = rows'; bits = p.bits; widths = ws }
                  ≡ answered (compiler.accepted (totals j (made j (table j s))))
              unfolding totals made final_nodes final_table
              answer_is rows' q =
                  rw (
                    node-count j s reads r is,
                    ap (λ (x : Plan). x.cells) planned_is ∙ plan_cells j s e slim,
                    q ∙ rows_are,
                    ap (λ (x : Plan). x.bits) planned_is ∙ plan_bits j s e slim,
                    ws-is ∙ widths-answered j s e slim,
                  )

              accepted-all : p.rows ≤ length rows / 2 → (nodes' records' rows'' : List ℕ) (count rows' : ℕ) → count ≡ r.nodes * 3 → rows' ≡ p.rows
                  → nodes' ≡ puts count (λ i. get_or words i 0) nodes
                  → records' ≡ sets records 0 (joined (t j) (record_in (t j) j.order (rails_of p.levels) p.cuts (cells + 1)))
                  → rows'' ≡ puts (p.rows * 2) (row_byte (rows_stored (t j) words j.order ws (rails_of p.levels) (inputs_of p.levels) p.cuts cells (replicate 12288 0))) rows
                  → outcome_of (record { refusal = 0; nodes = r.nodes; cells = p.cells; rows = rows'; bits = p.bits; widths = ws }) nodes' records' rows''
                  ≡ outcome nodes records rows j s
              accepted-all h nodes' records' rows'' count rows' n q a b c =
                  let enough : length (made j (table j s)).row_bytes ≤ length rows = omega (arith, bytes_are) in
                  rw (a ∙ ap (λ (k : ℕ). puts k (λ i. get_or words i 0) nodes) n ∙ words-written, b ∙ records_put, c ∙ rows_put enough, answer_is rows' q)
                  (outcome-accepted nodes records rows j s e slim kept fits (omega arith) enough)

      -- a memory is refused, or the three are long enough
      module _ (some : cells ≡ 0 → ⊥) (nodes records rows : List ℕ) where
        refused_late_lem : (number : ℕ) → number ≡ memory_refusal r.nodes (t j) p.rows (length nodes) (length records) (length rows)
            → (number ≡ 0 → ⊥) → (a : Answered) → a ≡ answered (refused number) → outcome_of a nodes records rows ≡ outcome nodes records rows j s
        refused_late_lem number late_is h a q =
            let gives : (n : ℕ) → memory_refusal r.nodes (t j) p.rows (length nodes) (length records) (length rows) ≡ n → a ≡ answered (refused n) =
            λ n x. q ∙ ap (λ (i : ℕ). answered (refused i)) (late_is ∙ x) in
            by_less (length nodes) (r.nodes * 3)
            (λ x. refused_9 some nodes records rows x a (gives 9 (is_9 _ _ _ _ _ _ x)))
            (λ room.
            by_less (length records) (t j * 4)
            (λ x. refused_10 some nodes records rows room x a (gives 10 (is_10 _ _ _ _ _ _ room x)))
            (λ space.
            by_less (length rows / 2) p.rows
            (λ x. refused_11 some nodes records rows room space x a (gives 11 (is_11 _ _ _ _ _ _ room space x)))
            (λ x. absurd (h (late_is ∙ is_0 _ _ _ _ _ _ room space x)))))

    -- 8
    pub refused_unlisted : (ws words : List ℕ) → ws ≡ widths_after j s (replicate 20 0) → words ≡ words_after j s (replicate 30720 0)
        → (none : Refusal) → Err none ≡ listed (planned (length j.order) j.K j.L j.order ws) → (nodes records rows : List ℕ) (a : Answered)
        → a ≡ answered (refused (number none)) → outcome_of a nodes records rows ≡ outcome nodes records rows j s
    refused_unlisted ws words ws-is words-is none is nodes records rows a q =
        let p = planned (t j) j.K j.L j.order ws in
        let (z, eight) = unlisted p none (rw limits.3 at is) in
        refused_8 ws words ws-is words-is p refl p.cells refl z nodes records rows a (q ∙ ap (λ (i : ℕ). answered (refused i)) eight)

    module _ (ws words : List ℕ) (ws-is : ws ≡ widths_after j s (replicate 20 0)) (words-is : words ≡ words_after j s (replicate 30720 0))
        (p : Plan) (is-listed : Ok p ≡ listed (planned (length j.order) j.K j.L j.order ws)) (nodes records rows : List ℕ) where
      planned-of : (p ≡ planned (t j) j.K j.L j.order ws) × (p.cells ≡ 0 → ⊥)
      planned-of = list_is p (planned (t j) j.K j.L j.order ws) (rw limits.3 at is-listed)

      -- 9 to 11
      pub refused_late : (number : ℕ)
          → number ≡ memory_refusal r.nodes (length j.order) p.rows (length nodes) (length records) (length rows)
          → (number ≡ 0 → ⊥) → (a : Answered) → a ≡ answered (refused number) → outcome_of a nodes records rows ≡ outcome nodes records rows j s
      refused_late n late_is = refused_late_lem ws words ws-is words-is p planned-of.0 p.cells refl planned-of.1 nodes records rows n (rw limits.3 at late_is)

      pub plan_kept : 0 ≡ memory_refusal r.nodes (length j.order) p.rows (length nodes) (length records) (length rows)
          → Kept j s r ws words p nodes records rows
      plan_kept late_is =
          let (p-is, some) = planned-of in
          let z = sym (rw limits.3 at late_is) in
          let room = holds-nodes _ _ _ _ _ _ z in
          let space = holds-records _ _ _ _ _ _ z in
          let enough = holds_rows _ _ _ _ _ _ z in
          record {
            variables = rw limits.3 limits.0;
            words-few = words-few;
            cells-few = cells-few ws words ws-is words-is p p-is p.cells refl;
            rows_few = rows-small ws words ws-is words-is p p-is p.cells refl some;
            nodes_fit = room;
            records_fit = rw limits.3 space;
            rows_fit = rows_fit ws words ws-is words-is p p-is p.cells refl some;
            bytes_fit = omega (arith, enough);
            columns = rw limits.3 (columns-few ws words ws-is words-is p p-is p.cells refl some);
            writable = rw limits.3 (writable ws words ws-is words-is p p-is p.cells refl some);
            stored =
                λ nodes' records' rows'' a b c.
                accepted-all ws words ws-is words-is p p-is p.cells refl some nodes records rows room space enough nodes' records' rows''
                (r.nodes * 3) p.rows refl refl a (rw limits.3 at b) (rw limits.3 at c);
          }

-- the same from what each step gives
pub kept_plan : (j : Job) (s : List ℕ) (made : ℕ) (ws words : List ℕ) (p : Plan) (nodes records rows : List ℕ)
    → reduced_of (record { refusal = 0; nodes = made }) ws words ≡ reduce_as j s (replicate 20 0) (replicate 30720 0)
    → Ok p ≡ listed (planned (length j.order) j.K j.L j.order ws)
    → 0 ≡ memory_refusal made (length j.order) p.rows (length nodes) (length records) (length rows)
    → Kept j s (record { refusal = 0; nodes = made }) ws words p nodes records rows
kept_plan j s made ws words p nodes records rows e is-listed late_is =
    plan_kept j s (record { refusal = 0; nodes = made }) (ap (λ (x : Reduced). x.answer) e) refl ws words
    (ap (λ (x : Reduced). x.widths) e) (ap (λ (x : Reduced). x.words) e) p is-listed nodes records rows late_is
