-- A run over a function's cascade: after each cell the rail word is the number of the word's column at the cut below, and the outputs set
-- are those above that cut, each to its value in the function. Where the function is a sheet's, reduced, the sheet allows each.
-- Assumes nothing.
use mathlib.Core.Path.{◌≡◌, sym, ◌∙◌, ap, ap₂}
use mathlib.Core.Bool.{true, false, or-true}
use mathlib.Core.List.{List}
use Prim.Native.Nat.{ℕ, zero, suc, ◌+◌, ◌-◌, ◌*◌, ◌/◌, ◌%◌, ◌^◌, ◌<◌, ◌≤◌}
use native.Mathlib.Nat.{mod-lt}
use native.Mathlib.Omega.{arith}
use lib.Dec.{eqb}
use lib.ListN.{length, get_or, length-replicate, get_or-replicate, get_or-eq_default}
use lib.Pow.{pow_pos, pow-add, split}
use lib.Arith.{digits_lt}
use Rattle.laws.specs.Bits.{bit, flag}
use Rattle.laws.proofs.Cases.{by_less}
use Rattle.laws.proofs.Bits.{bit-low, same_bits, flag-lt}
use Rattle.sheet_spec.specs.Job.{Job, t, ins, outs, var_at, is_input, input_list, word_of, number_of}
use Rattle.sheet_spec.specs.Values.{value, allows}
use Rattle.sheet_spec.specs.Refusals.{not_each_once, sheet_refusal}
use Rattle.sheet_spec.specs.Table.{table_at, table}
use Rattle.sheet_spec.specs.Accepted.{Accepted}
use Rattle.sheet_spec.proofs.Promises.{input_below, number_bit, number_small, word_number, ins_below, job-accepted, value_below, value_low, output_number, output_listed, output_one, output_height}
use Rattle.reduction_spec.specs.Columns.{number_at, layers, layer, width_in}
use Rattle.reduction_spec.specs.Merge.{reduced}
use Rattle.reduction_spec.proofs.Promises.{Ruled, width_top, width-layer, reduced_refines, reduced_ruled}
use Rattle.stored_spec.specs.Cells.{rows}
use Rattle.cutting_spec.specs.Cuts.{CutList, cell_inputs, cell_between}
use Rattle.stored_spec.specs.Rails.{rails_at}
use Rattle.cutting_spec.specs.Compile.{widths_of}
use Rattle.cutting_spec.specs.Rows.{row_of, cascade_rows}
use Rattle.stored_spec.specs.StoredForm.{StoredCell, cell_at, rows_before, stored}
use Rattle.stored_spec.specs.Run.{address, row_place, set_outputs, outputs_after, rail_after, unset, Running, ran_one_by, run_by}
use Rattle.stored_spec.proofs.Promises.{set-length}
use Rattle.cutting_spec.proofs.StoredCuts.{outs_from, stored_between, cell_at_lem, rows_at, cuts_fall, cuts_most, cuts_first, cuts_last, cuts-some}
use Rattle.cutting_spec.proofs.RailCounts.{rails_hold}
use Rattle.cutting_spec.proofs.CellRead.{address_between, set_between, kept_between}
use Rattle.cutting_spec.proofs.RowRead.{column_below, prefix_small, row_read_lem, row-rail, row-value}

-- what a run holds at the cut b, for the word whose inputs read down the order are x: the rail word is the number of the column of its
-- prefix; the outputs at heights over b hold their values, a free one 0, and no other is set
pub record Emitted (j : Job) (f : List ℕ) (x b : ℕ) (s : Running) : Type 0 where
  pub rail : s.rail ≡ number_at j f (layer (layers j f) b) b (x / 2 ^ ins j b)
  pub size : length s.outputs ≡ 8
  pub above : (h : ℕ) → b ≤ h → h < t j → is_input (var_at j (suc h)) ≡ false
      → get_or s.outputs (var_at j (suc h) - 128) 2 ≡ flag (eqb (get_or f (outs j h * 2 ^ j.n + x) 0) 1)
  pub others : (o : ℕ) → ((h : ℕ) → b ≤ h → h < t j → is_input (var_at j (suc h)) ≡ false → var_at j (suc h) - 128 ≡ o → ⊥)
      → get_or s.outputs o 2 ≡ 2

-- the run over the word w of a function's cascade with the cuts l, after k cells
abbrev pub ran_over : Job → List ℕ → List ℕ → ℕ → ℕ → Running
ran_over j f l w k =
    run_by (λ p. get_or (cascade_rows j f (layers j f) (widths_of (layers j f)) l) p 0) (stored j (widths_of (layers j f)) l) w k

module _ (j : Job) (once : not_each_once j.n j.m j.order ≡ false) (few : j.n ≤ 12) (out : j.m ≤ 8) (f : List ℕ)
    (ruled : Ruled j.n j.m (ins_below (t j) j.order) f) (l : List ℕ) (cuts : CutList (t j) l) (w : ℕ) where
  abbrev ls : List (List ℕ)
  ls = layers j f

  abbrev ws : List ℕ
  ws = widths_of (layers j f)

  abbrev R : List ℕ
  R = stored j ws l

  abbrev values : List ℕ
  values = cascade_rows j f ls ws l

  abbrev row_at : ℕ → ℕ
  row_at p = get_or values p 0

  abbrev x : ℕ
  x = number_of (input_list j) w

  small : x < 2 ^ j.n
  small = number_small j.n j.m j.order once few out w

  -- before the first cell
  none-set : (o : ℕ) → get_or unset o 2 ≡ 2
  none-set o =
      by_less o 8 (λ p. get_or-replicate {A = ℕ} 8 o 2 2 p) (λ p. get_or-eq_default unset 2 {n = o} (omega (arith, length-replicate {A = ℕ} 8 2)))

  starts : Emitted j f x (get_or l 0 0) (run_by row_at R w 0)
  unfolding run_by
  starts =
      let top = cuts_first cuts in
      let below = column_below j once few out f (t j) (x / 2 ^ ins j (t j)) (omega arith) (prefix_small j once few out f (t j) x (omega arith) small) in
      let one : width_in ls (t j) ≡ 1 = width-layer j f (t j) (omega arith) ∙ width_top j once few out f in
      rw top
      (record {
        rail = omega (arith, below, one);
        size = length-replicate {A = ℕ} 8 2;
        above = λ h p q. absurd (omega arith);
        others = λ o n. none-set o;
      })

  module _ (k : ℕ) (within : suc k < length l) (s : Running) (now : Emitted j f x (get_or l k 0) s) where
    abbrev a : ℕ
    a = get_or l k 0

    abbrev b : ℕ
    b = get_or l (suc k) 0

    fall : b < a
    fall = cuts_fall cuts k within

    top : a ≤ t j
    top = cuts_most cuts k

    abbrev row : ℕ
    row = row_of j f ls ws a b (x / 2 ^ ins j b)

    -- the row that the cell reads
    reads : get_or values (row_place R k s.rail w) 0 ≡ row
    unfolding row_place stored_between rows cell_between cell_inputs
    reads =
        let le : b ≤ a = omega (arith, fall) in
        let c = ins j a - ins j b in
        let r = number_at j f (layer ls a) a (x / 2 ^ ins j a) in
        let i = r * 2 ^ c + x / 2 ^ ins j b % 2 ^ c in
        let below = column_below j once few out f a (x / 2 ^ ins j a) top (prefix_small j once few out f a x top small) in
        let r< : r < 2 ^ rails_at j ws a = omega (arith, below, rails_hold j once few out f a top) in
        let place : address s.rail (cell_at R k).ins w ≡ i =
        ap₂ (λ (c : StoredCell) (r : ℕ). address r c.ins w) (cell_at_lem j ws l cuts k within) now.rail
        ∙ address_between j once few out w r a b le top in
        let i< : i < rows (cell_between j ws a b) =
        rw (pow-add 2 (rails_at j ws a) c) (digits_lt r< (mod-lt (x / 2 ^ ins j b) (pow_pos c))) in
        ap (λ (i : ℕ). get_or values (rows_before R k + i) 0) place ∙ rows_at j f ls ws l cuts k i within i<
        ∙ row_read_lem j once few out f a b x top le small

    ran : ran_one_by row_at R w k s
        ≡ record { rail = row % 2 ^ rails_at j ws b; outputs = set_outputs s.outputs (outs_from j a (a - b)) (row / 2 ^ rails_at j ws b) }
    unfolding ran_one_by rail_after outputs_after stored_between
    ran =
        ap₂ (λ (c : StoredCell) (y : ℕ). record { rail = rail_after c y; outputs = outputs_after c s.outputs y }) (cell_at_lem j ws l cuts k within) reads

    next_is : Emitted j f x b (ran_one_by row_at R w k s)
    next_is =
        let le : b ≤ a = omega (arith, fall) in
        let y = row / 2 ^ rails_at j ws b in
        rw ran
        (record {
          rail = row-rail j once few out f a b x top le small;
          size = set-length s.outputs (outs_from j a (a - b)) y ∙ now.size;
          above = λ h p q output.
              by_less h a
              (λ under.
              set_between j once few out s.outputs now.size a b y h top le p under output
              ∙ row-value j once few out f a b x top le small ruled h p q output under)
              (λ over.
              kept_between j once few out s.outputs a b y (var_at j (suc h) - 128) le
              (λ g p' q' other e.
              let same = output_one j once few out h q output g (omega (arith, top)) other (sym e) in
              omega arith)
              ∙ now.above h over q output);
          others = λ o none.
              kept_between j once few out s.outputs a b y o le (λ h p q. none h p (omega (arith, top)))
              ∙ now.others o (λ h p. none h (omega (arith, le)));
        })

  pub emits : (k : ℕ) → k < length l → Emitted j f (number_of (input_list j) w) (get_or l k 0) (ran_over j f l w k)
  unfolding run_by
  emits zero h = starts
  emits (suc k) h = next_is k h (run_by row_at R w k) (emits k (omega arith))

-- a sheet says the same of words with the same inputs
module _ (j : Job) (s : List ℕ) (e : sheet_refusal j s ≡ 0) where
  read : Accepted j.n j.m j.order s
  read = job-accepted j s e

  number-low : (w : ℕ) → number_of (input_list j) (w % 2 ^ j.n) ≡ number_of (input_list j) w
  number-low w =
      let c = read in
      let v = w % 2 ^ j.n in
      let bits = number_bit j.n j.m j.order c.order-whole c.inputs c.outputs in
      let small = number_small j.n j.m j.order c.order-whole c.inputs c.outputs in
      same_bits j.n (number_of (input_list j) v) (number_of (input_list j) w) (small v) (small w)
      (λ k l.
      let i = get_or (input_list j) k 0 in
      bits v k l
      ∙ sym (bit-low (w / 2 ^ j.n) j.n v i (mod-lt w (pow_pos j.n))
      (input_below j.n j.m j.order c.order-whole c.inputs c.outputs k l))
      ∙ ap (λ (y : ℕ). bit y i) (split w j.n) ∙ sym (bits w k l))

  pub value-number : (w o : ℕ) → value s w o ≡ value s (word_of (input_list j) (number_of (input_list j) w)) o
  value-number w o =
      let c = read in
      let v = w % 2 ^ j.n in
      value_low j.n j.m s c.records-good w o
      ∙ ap (λ (y : ℕ). value s y o)
      (sym (word_number j.n j.m j.order c.order-whole c.inputs c.outputs v (mod-lt w (pow_pos j.n)))
      ∙ ap (word_of (input_list j)) (number-low w))

  allowed : (v u : ℕ) → v < 3 → (v < 2 → u ≡ v) → allows v (flag (eqb u 1)) ≡ true
  unfolding allows
  allowed zero u l h = rw (h (omega arith))
  allowed (suc zero) u l h = rw (h (omega arith))
  allowed (suc (suc zero)) u l h = or-true (eqb 2 (flag (eqb u 1)))
  allowed (suc (suc (suc v))) u l h = absurd (omega arith)

  -- what the reduced function emits is allowed: the output at height h + 1
  pub emitted-allowed : (w h : ℕ) → h < t j → is_input (var_at j (suc h)) ≡ false
      → allows (value s w (var_at j (suc h) - 128)) (flag (eqb (get_or (reduced j (table j s)) (outs j h * 2 ^ j.n + number_of (input_list j) w) 0) 1)) ≡ true
  unfolding table_at
  emitted-allowed w h l output =
      let c = read in
      let x = number_of (input_list j) w in
      let o = var_at j (suc h) - 128 in
      let is : value s w o ≡ table_at j.n j.m j.order s (outs j h) x =
      value-number w o ∙ ap (value s (word_of (input_list j) x)) (sym (output_listed j c.order-whole c.inputs c.outputs h l output)) in
      allowed (value s w o) _ (value_below s w o)
      (λ small.
      reduced_refines j s e (outs j h) x (value s w o) (output_number j c.order-whole c.inputs c.outputs h l output)
      (number_small j.n j.m j.order c.order-whole c.inputs c.outputs w) small (sym is))

  module _ (l : List ℕ) (cuts : CutList (t j) l) (w : ℕ) where
    abbrev f : List ℕ
    f = reduced j (table j s)

    -- after k cells, at the k-th cut below the top
    pub compiled-emits : (k : ℕ) → k < length l
        → Emitted j (reduced j (table j s)) (number_of (input_list j) w) (get_or l k 0) (ran_over j (reduced j (table j s)) l w k)
    compiled-emits = let c = read in emits j c.order-whole c.inputs c.outputs f (reduced_ruled j s e) l cuts w

    -- each output set is allowed by the sheet
    pub compiled-allowed : (k h : ℕ) → k < length l → get_or l k 0 ≤ h → h < t j → is_input (var_at j (suc h)) ≡ false
        → allows (value s w (var_at j (suc h) - 128)) (get_or (ran_over j (reduced j (table j s)) l w k).outputs (var_at j (suc h) - 128) 2) ≡ true
    compiled-allowed k h p from below output =
        ap (allows (value s w (var_at j (suc h) - 128))) ((compiled-emits k p).above h from below output) ∙ emitted-allowed w h below output

    -- an output not set is one at a height up to the cut
    pub compiled-unset : (k h : ℕ) → k < length l → h < get_or l k 0 → is_input (var_at j (suc h)) ≡ false
        → get_or (ran_over j (reduced j (table j s)) l w k).outputs (var_at j (suc h) - 128) 2 ≡ 2
    compiled-unset k h p below output =
        let c = read in
        let most = cuts_most cuts k in
        (compiled-emits k p).others (var_at j (suc h) - 128)
        (λ g from high other same.
        let one = output_one j c.order-whole c.inputs c.outputs g high other h (omega arith) output same in
        omega arith)

    -- after the last cell every output is set, to a value that the sheet allows for the word
    pub compiled-all : (o : ℕ) → o < j.m
        → (get_or (ran_over j (reduced j (table j s)) l w (length l - 1)).outputs o 2 < 2)
        × (allows (value s w o) (get_or (ran_over j (reduced j (table j s)) l w (length l - 1)).outputs o 2) ≡ true)
    compiled-all o o< =
        let c = read in
        let (h, h<, output, is) = output_height j c.order-whole c.inputs c.outputs o o< in
        let some = cuts-some cuts in
        let last = length l - 1 in
        let end : get_or l last 0 ≤ h = omega (arith, cuts_last cuts) in
        let set = (compiled-emits last (omega arith)).above h end h< output in
        let bound : get_or (ran_over j f l w last).outputs (var_at j (suc h) - 128) 2 < 2 =
        rw set (flag-lt (eqb (get_or f (outs j h * 2 ^ j.n + number_of (input_list j) w) 0) 1)) in
        rw (sym is) (bound, compiled-allowed last h (omega arith) end h< output)
