-- The plan made of the widths that the reduction leaves for an accepted job: its rails, inputs, cells, bits and cuts are those of the
-- compile's definition.
-- Assumes nothing.
use mathlib.Core.Path.{◌≡◌, refl, sym, ◌∙◌, ap}
use mathlib.Core.Bool.{false, cond}
use mathlib.Core.List.{List}
use Prim.Native.Nat.{ℕ, zero, suc, ◌+◌, ◌-◌, ◌^◌, ◌<◌, ◌≤◌}
use native.Mathlib.Omega.{arith}
use borrow.Author.Tests.{eqb-false, eq-eqb, lt-ltb, le-ltb}
use lib.Dec.{eqb, ltb}
use lib.ListN.{length, get_or, take, replicate, length-take, length-map, length-replicate}
use lib.Seq.{get_or-take, ext_get_or, sets}
use Rattle.laws.specs.Lists.{tab, written}
use Rattle.laws.proofs.Cases.{by_test, by_less, by_equal, cond_yes, cond_no, cond_both}
use Rattle.laws.proofs.Lists.{length-tab, get_or-tab}
use Rattle.laws.proofs.Filled.{laid, written-sets}
use Rattle.laws.proofs.Counts.{sum_ext}
use Rattle.laws.proofs.Puts.{stored}
use Rattle.sheet_spec.specs.Job.{Job, t, ins}
use Rattle.sheet_spec.specs.Refusals.{sheet_refusal}
use Rattle.sheet_spec.specs.Table.{table}
use Rattle.sheet_spec.proofs.Promises.{job-accepted}
use Rattle.reduction_spec.specs.Columns.{firsts_at, width, layers, width_in}
use Rattle.reduction_spec.specs.Merge.{reduced, refuse7}
use Rattle.reduction_spec.specs.Diagram.{nodes_above}
use Rattle.reduction_spec.specs.Reduction.{reduction_refusal, final_table, final_widths, widths_after}
use Rattle.reduction_spec.proofs.Promises.{width_top, width_most, width-layer, not-refused}
use Rattle.stored_spec.specs.Rails.{rails, rails_at}
use Rattle.cutting_spec.specs.Choice.{refuse8}
use Rattle.cutting.specs.Ways.{Way, falling, job_way, list_cell, list_way, next_from}
use Rattle.cutting_spec.specs.Compile.{made, widths_of}
use Rattle.cutting.specs.RowWalks.{first_at}
use Rattle.cutting.specs.Levels.{rails_of, inputs_of, inputs_in, rails_in}
use Rattle.cutting.specs.Plan.{Plan, width_up, first_in, cut_in, bytes21, planned}
use Rattle.cutting_spec.proofs.RowLimit.{sheet_slim, sheet-narrow}
use Rattle.cutting_spec.proofs.RailCounts.{width_at}
use Rattle.cutting_spec.proofs.StoredCuts.{cuts-some}
use Rattle.cutting_spec.proofs.StoredWell.{job_limits}
use Rattle.cutting_spec.proofs.MadeCascade.{cells_count, made-cuts}
use Rattle.cutting.proofs.levels.LevelLists.{rails-levelled, inputs-levelled}
use Rattle.cutting.proofs.choice.BestWays.{way_small}
use Rattle.cutting.proofs.choice.WaysGiveChosen.{chosen-cells, chosen-bits, refuse8-cells, chosen-next, way_list}

-- the widths below t, of those at the heights 0 to t
widths_below : (j : Job) (f : List ℕ) → take (t j) (widths_of (layers j f)) ≡ tab (t j) (width j f)
unfolding widths_of layers
widths_below j f =
    let ls = layers j f in
    let ws = widths_of ls in
    let all : length ws ≡ suc (t j) = length-map ls (λ (l : List ℕ). length l) ∙ length-tab (firsts_at j f) (suc (t j)) in
    let few : length (take (t j) ws) ≡ t j = simp length-take (omega arith) in
    ext_get_or 0 (take (t j) ws) (tab (t j) (width j f)) (few ∙ sym (length-tab (width j f) (t j)))
    (λ h l.
    let below : h < t j = omega arith in
    get_or-take (t j) ws h 0 below ∙ width_at ls h ∙ width-layer j f h (omega arith) ∙ sym (get_or-tab (width j f) 0 (t j) h below))

-- the list that follows next cuts, cut by cut
cut-after : (nx : List ℕ) (h i : ℕ) → cut_in nx h (suc i) ≡ cut_in nx (get_or nx h 0) i
unfolding cut_in
cut-after nx h zero = refl
cut-after nx h (suc i) = ap (λ (k : ℕ). get_or nx k 0) (cut-after nx h i)

falling-cut : (nx : List ℕ) (n h i : ℕ) → i < length (falling (λ k. get_or nx k 0) n h) → get_or (falling (λ k. get_or nx k 0) n h) i 0 ≡ cut_in nx h i
unfolding falling cut_in
falling-cut nx zero h zero l = refl
falling-cut nx zero h (suc i) l = absurd (omega arith)
falling-cut nx (suc n) h zero l = cond_both (λ (x : List ℕ). get_or x 0 0 ≡ h) (eqb h 0) refl refl
falling-cut nx (suc n) h (suc i) l =
    let rest = falling (λ k. get_or nx k 0) n (get_or nx h 0) in
    by_test (eqb h 0) (λ e. let l' : suc i < 1 = rw e at l in absurd (omega arith))
    (λ e.
    let l' : suc i < suc (length rest) = rw e at l in
    rw e (falling-cut nx n (get_or nx h 0) i (omega arith) ∙ sym (cut-after nx h i)))

-- an accepted job; what the reduction leaves in 20 zeros, and the plan made of it
module _ (j : Job) (s : List ℕ) (e : sheet_refusal j s ≡ 0) (narrow : refuse7 j (table j s) ≡ false) where
  abbrev pub held_widths : List ℕ
  held_widths = widths_after j s (replicate 20 0)

  abbrev pub plan : Plan
  plan = planned (t j) j.K j.L j.order held_widths

  abbrev f : List ℕ
  f = reduced j (table j s)

  abbrev ls : List (List ℕ)
  ls = layers j (reduced j (table j s))

  abbrev ws : List ℕ
  ws = (made j (table j s)).widths

  held_is : held_widths ≡ sets (replicate 20 0) 0 (tab (t j) (width j f))
  unfolding widths_after final_widths final_table
  held_is =
      cond_yes (eqb (reduction_refusal j s) 0) (sets (replicate 20 0) 0 (tab (t j) (width j f))) (replicate 20 0)
      (eq-eqb (reduction_refusal j s) 0 (not-refused j s e narrow))

  few-variables : t j ≤ 20
  few-variables = let r = job-accepted j s e in omega (arith, r.inputs, r.outputs)

  held-width : (h : ℕ) → h < t j → get_or held_widths h 0 ≡ width j f h
  held-width h l =
      let n = length-tab (width j f) (t j) in
      let few = few-variables in
      ap (λ (x : List ℕ). get_or x h 0) held_is ∙ laid 20 (tab (t j) (width j f)) h (omega arith) (omega arith)
      ∙ get_or-tab (width j f) 0 (t j) h l

  made-width : (h : ℕ) → h ≤ t j → get_or ws h 0 ≡ width j f h
  unfolding made
  made-width h l = width_at ls h ∙ width-layer j f h l

  pub widths-held : (h : ℕ) → h < t j → get_or held_widths h 0 ≡ get_or (made j (table j s)).widths h 0
  widths-held h l = held-width h l ∙ sym (made-width h (omega arith))

  pub widths-answered : held_widths ≡ written (replicate 20 0) 0 (take (t j) (made j (table j s)).widths)
  unfolding made
  widths-answered =
      let n = length-tab (width j f) (t j) in
      let few = few-variables in
      held_is ∙ sym (written-sets (replicate 20 0) 0 (tab (t j) (width j f)) (omega (arith, length-replicate {A = ℕ} 20 0)))
      ∙ ap (λ (x : List ℕ). written (replicate 20 0) 0 x) (sym (widths_below j f))

  pub widths-small : (h : ℕ) → h < t j → get_or held_widths h 0 ≤ 512
  widths-small h l = omega (arith, held-width h l, width_most j s e narrow h (omega arith))

  up_is : (h : ℕ) → h ≤ t j → width_up (t j) held_widths h ≡ width j f h
  unfolding width_up
  up_is h l =
      by_less h (t j) (λ b. cond_yes (ltb h (t j)) (get_or held_widths h 0) 1 (lt-ltb h (t j) b) ∙ held-width h b)
      (λ b.
      let r = job-accepted j s e in
      let top : h ≡ t j = omega arith in
      cond_no (ltb h (t j)) (get_or held_widths h 0) 1 (le-ltb h (t j) b)
      ∙ sym (ap (width j f) top ∙ width_top j r.order-whole r.inputs r.outputs f))

  pub up_width : (h : ℕ) → h ≤ t j → width_up (t j) held_widths h ≡ width_in (layers j (reduced j (table j s))) h
  up_width h l = up_is h l ∙ sym (width-layer j f h l)

  pub up_small : (h : ℕ) → h ≤ t j → width_up (t j) held_widths h ≤ 512
  up_small h l = omega (arith, up_is h l, width_most j s e narrow h l)

  pub first_is : (h : ℕ) → h ≤ t j → first_in (t j) held_widths h ≡ first_at j (layers j (reduced j (table j s))) h
  unfolding first_in first_at nodes_above
  first_is h l =
      ap (λ (k : ℕ). cond (eqb h 0) 1 (2 + k))
      (sum_ext (λ i. width_up (t j) held_widths (t j - i)) (λ i. width_in ls (t j - i)) (t j - h) (λ i b. up_width (t j - i) (omega arith)))

  -- the numbers at each height
  pub plan_rails : (h : ℕ) → h ≤ t j → get_or (rails_of plan.levels) h 0 ≡ rails_at j (made j (table j s)).widths h
  unfolding planned bytes21 rails_in rails_at
  plan_rails h l =
      let few = few-variables in
      ap (λ (x : List ℕ). get_or x h 0) (rails-levelled (t j) j.order held_widths)
      ∙ stored 21 (t j + 1) (rails_in (t j) held_widths) h (omega arith) (omega arith)
      ∙ by_equal h (t j)
      (λ top. let y = eq-eqb h (t j) top in cond_yes (eqb h (t j)) 0 (rails (get_or held_widths h 0)) y ∙ sym (cond_yes (eqb h (t j)) 0 (rails (get_or ws h 0)) y))
      (λ below. ap (λ (w : ℕ). cond (eqb h (t j)) 0 (rails w)) (widths-held h (omega arith)))

  pub plan_inputs : (h : ℕ) → h ≤ t j → get_or (inputs_of plan.levels) h 0 ≡ ins j h
  unfolding planned bytes21 inputs_in ins
  plan_inputs h l =
      let few = few-variables in
      ap (λ (x : List ℕ). get_or x h 0) (inputs-levelled (t j) j.order held_widths)
      ∙ stored 21 (t j + 1) (inputs_in (t j) j.order) h (omega arith) (omega arith)

  -- the ways by these numbers are the job's
  way_planned : (h : ℕ) → h ≤ t j → list_way j.K j.L (rails_of plan.levels) (inputs_of plan.levels) h ≡ job_way j ws h
  way_planned = way_list j ws (rails_of plan.levels) (inputs_of plan.levels) plan_rails plan_inputs

  narrow-enough : (h : ℕ) → h ≤ t j → get_or ws h 0 ≤ 2 ^ (j.n - ins j h)
  unfolding made
  narrow-enough = sheet-narrow j s e

  slim_enough : (h : ℕ) → h ≤ t j → get_or ws h 0 ≤ 512
  unfolding made
  slim_enough = sheet_slim j s e narrow

  cells_way : plan.cells ≡ (job_way j ws (t j)).cuts - 1
  unfolding planned
  cells_way = ap (λ (w : Way). w.cuts - 1) (way_planned (t j) (omega arith))

  pub plan_none : refuse8 j (made j (table j s)).widths ≡ eqb plan.cells 0
  plan_none =
      let r = job-accepted j s e in
      let (some, k≤, l≤) = job_limits j s e in
      refuse8-cells j ws r.order-whole r.inputs r.outputs slim_enough narrow-enough (omega arith)
      ∙ ap (λ (k : ℕ). eqb k 0) (sym cells_way)

  pub plan_cells : plan.cells ≡ (made j (table j s)).cells
  unfolding made
  plan_cells =
      let r = job-accepted j s e in
      cells_way ∙ sym (chosen-cells j ws r.order-whole r.inputs r.outputs slim_enough narrow-enough)

  pub plan_bits : plan.bits ≡ (made j (table j s)).bits
  unfolding planned made
  plan_bits =
      let r = job-accepted j s e in
      ap (λ (w : Way). w.bits) (way_planned (t j) (omega arith))
      ∙ sym (chosen-bits j ws r.order-whole r.inputs r.outputs slim_enough narrow-enough)

  pub plan_few : plan.cells ≤ 20
  unfolding planned list_way
  plan_few =
      let (some, k≤, l≤) = job_limits j s e in
      let few = few-variables in
      omega (arith, (way_small (list_cell (rails_of plan.levels) (inputs_of plan.levels)) j.K j.L k≤ l≤ (t j)).cuts)

  -- the cuts, where there are any
  module _ (kept : refuse8 j (made j (table j s)).widths ≡ false) where
    pub plan_length : length (made j (table j s)).cuts ≡ plan.cells + 1
    unfolding made
    plan_length =
        let l = (made j (table j s)).cuts in
        omega (arith, plan_cells, cells_count j ws l, cuts-some (made-cuts j s e kept))

    abbrev nx : List ℕ
    nx = bytes21 (t j + 1) (next_from j.K j.L (rails_of plan.levels) (inputs_of plan.levels))

    next-planned : (h : ℕ) → h ≤ t j → get_or nx h 0 ≡ (job_way j ws h).next
    unfolding bytes21
    next-planned h l =
        let few = few-variables in
        stored 21 (t j + 1) (next_from j.K j.L (rails_of plan.levels) (inputs_of plan.levels)) h (omega arith) (omega arith)
        ∙ ap (λ (w : Way). w.next) (way_planned h l)

    cuts_follow : (made j (table j s)).cuts ≡ falling (λ h. get_or nx h 0) (t j) (t j)
    unfolding made
    cuts_follow =
        let r = job-accepted j s e in
        let (some, k≤, l≤) = job_limits j s e in
        let none = eqb-false plan.cells 0 (sym plan_none ∙ kept) in
        chosen-next j ws r.order-whole r.inputs r.outputs slim_enough narrow-enough nx next-planned (omega (arith, cells_way))

    pub plan_cuts : (i : ℕ) → i < length (made j (table j s)).cuts → get_or plan.cuts i 0 ≡ get_or (made j (table j s)).cuts i 0
    unfolding planned bytes21
    plan_cuts i l =
        let few = plan_few in
        let same = plan_length in
        let l' : i < length (falling (λ h. get_or nx h 0) (t j) (t j)) = rw cuts_follow at l in
        stored 21 (plan.cells + 1) (cut_in nx (t j)) i (omega arith) (omega arith)
        ∙ sym (falling-cut nx (t j) (t j) i l') ∙ ap (λ (x : List ℕ). get_or x i 0) (sym cuts_follow)
