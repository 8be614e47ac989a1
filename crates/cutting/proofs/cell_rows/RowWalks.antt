-- The rows of a cell are those that walks over the diagram make: a row holds the outputs met and the column reached. Each row of a cell with
-- at most 16 outputs has 16 bits.
-- Assumes nothing.
use mathlib.Core.Path.{◌≡◌, refl, sym, ◌∙◌, ap, ap₂}
use mathlib.Core.Bool.{false}
use mathlib.Core.List.{List}
use Prim.Native.Nat.{ℕ, zero, suc, ◌+◌, ◌-◌, ◌*◌, ◌/◌, ◌%◌, ◌^◌, ◌<◌, ◌≤◌}
use native.Mathlib.Nat.{mod-lt}
use native.Mathlib.Omega.{arith}
use borrow.Author.Tests.{lt-ltb, le-ltb, ne_eqb}
use lib.Dec.{eqb, ltb}
use lib.ListN.{length, get_or}
use lib.Pow.{pow_pos, pow-add, pow_mono, high, low as low_part}
use lib.Arith.{digits_lt}
use Rattle.laws.specs.Bits.{flag}
use Rattle.laws.proofs.Cases.{by_less, cond_yes, cond_no}
use Rattle.laws.proofs.Bits.{flag-lt}
use Rattle.laws.proofs.Powers.{sum-small, sum_moved, place_below}
use Rattle.sheet_spec.specs.Job.{Job, t, ins, outs}
use Rattle.sheet_spec.specs.Refusals.{sheet_refusal}
use Rattle.sheet_spec.specs.Table.{table}
use Rattle.sheet_spec.proofs.Promises.{ins_rise, job-accepted, ins_below_lem}
use Rattle.reduction_spec.specs.Columns.{entry, layers, layer, width_in}
use Rattle.reduction_spec.specs.Merge.{reduced, refuse7}
use Rattle.reduction_spec.specs.Diagram.{nodes_above}
use Rattle.reduction_spec.specs.declared.Reached.{Reached}
use Rattle.reduction_spec.specs.Descent.{reached, descent}
use Rattle.reduction_spec.proofs.Promises.{first_below, number_below_lem, number-first, width-bottom, reduced_ruled, nodes_fit, width-layer, words_of, node_for, number_for, layer_at, number_is, node_of_lem, node-bottom, met, descent_is}
use Rattle.stored_spec.specs.Rails.{rails, rails_at}
use Rattle.stored_spec.proofs.Promises.{rails-enough}
use Rattle.cutting_spec.specs.Cuts.{cell_outputs}
use Rattle.cutting_spec.specs.Rows.{emitted, row_of, row}
use Rattle.cutting.specs.RowWalks.{first_at, row_from, node_row, walked_row}

-- the node of column 0
pub first-bottom : (j : Job) (ls : List (List ℕ)) → first_at j ls 0 ≡ 1
unfolding first_at
first-bottom j ls = refl

pub first_above : (j : Job) (ls : List (List ℕ)) (h : ℕ) → 1 ≤ h → first_at j ls h ≡ 2 + nodes_above j ls h
unfolding first_at
first_above j ls h l = cond_no (eqb h 0) 1 (2 + nodes_above j ls h) (ne_eqb h 0 (λ z. absurd (omega arith)))

module _ (j : Job) (f : List ℕ) where
  -- a row holds the outputs met above the column's number
  row_met : (ws : List ℕ) (a b p : ℕ) → row_of j f (layers j f) ws a b p ≡ met j f b (outs j a - outs j b) p * 2 ^ rails_at j ws b + number_for j f b p
  unfolding row_of emitted
  row_met ws a b p =
      ap (λ (s : ℕ). s + number_for j f b p)
      (sum_moved (λ i. flag (eqb (entry j.n (ins j b) f p (outs j b + i) 0) 1)) (rails_at j ws b) (outs j a - outs j b))

  met_small : (b d p : ℕ) → met j f b d p < 2 ^ d
  met_small b d p =
      sum-small (λ i. flag (eqb (entry j.n (ins j b) f p (outs j b + i) 0) 1)) d
      (λ k l. flag-lt (eqb (entry j.n (ins j b) f p (outs j b + k) 0) 1))

  number_small : (b p : ℕ) → b ≤ t j → p < 2 ^ (j.n - ins j b) → number_for j f b p < width_in (layers j f) b
  number_small b p l hp =
      let w = ap (λ (ps : List ℕ). length ps) (layer_at j f b l) in
      omega (arith, w, number_is j f b p l, number_below_lem j.n (ins j b) (outs j b) f p hp)

  -- the node of a prefix is its column's, counted from that of column 0
  node-first : (b p : ℕ) → b ≤ t j → p < 2 ^ (j.n - ins j b) → node_for j f b p ≡ first_at j (layers j f) b + number_for j f b p
  node-first zero p l hp =
      omega (arith, first-bottom j (layers j f), node-bottom j f p, number_small 0 p l hp, width-layer j f 0 l, width-bottom j f)
  node-first (suc b) p l hp =
      node_of_lem j f b p
      ∙ ap (λ (k : ℕ). k + number_for j f (suc b) p) (sym (first_above j (layers j f) (suc b) (omega arith)))

-- an accepted job
module _ (j : Job) (s : List ℕ) (e : sheet_refusal j s ≡ 0) (narrow : refuse7 j (table j s) ≡ false) (ws : List ℕ) (a b : ℕ) (above : b < a)
    (within : a ≤ t j) where
  abbrev f : List ℕ
  f = reduced j (table j s)

  abbrev ls : List (List ℕ)
  ls = layers j f

  -- the cell's inputs from the order, and its lower rails
  abbrev inputs : ℕ
  inputs = ins j a - ins j b

  abbrev low : ℕ
  low = rails_at j ws b

  module _ (c x : ℕ) (hc : c < width_in ls a) (hx : x < 2 ^ inputs) where
    abbrev start : ℕ
    start = get_or (layer ls a) c 0

    start_below : start < 2 ^ (j.n - ins j a)
    start_below = rw (layer_at j f a within) (first_below j.n (ins j a) (outs j a) f c (rw (layer_at j f a within) at hc))

    start_number : number_for j f a start ≡ c
    start_number =
        number_is j f a start within
        ∙ rw (layer_at j f a within) (number-first j.n (ins j a) (outs j a) f c (rw (layer_at j f a within) at hc))

    start_node : node_for j f a start ≡ first_at j ls a + c
    start_node = node-first j f a start within start_below ∙ ap (λ (k : ℕ). first_at j ls a + k) start_number

    foot_below : start * 2 ^ inputs + x < 2 ^ (j.n - ins j b)
    foot_below =
        let r = job-accepted j s e in
        let rise = ins_rise j b a (omega arith) in
        let most = ins_below_lem j r.order-whole r.inputs r.outputs a within in
        let same : j.n - ins j b - inputs ≡ j.n - ins j a = omega arith in
        place_below (j.n - ins j b) inputs start x (omega arith) (rw same start_below) hx

    walk_ends : descent (words_of j f) j.order a b (first_at j ls a + c) x inputs
        ≡ reached (node_for j f b (start * 2 ^ inputs + x)) (met j f b (outs j a - outs j b) (start * 2 ^ inputs + x))
    walk_ends =
        let r = job-accepted j s e in
        ap (λ (v : ℕ). descent (words_of j f) j.order a b v x inputs) (sym start_node)
        ∙ descent_is j r.order-whole r.inputs r.outputs f (reduced_ruled j s e) (nodes_fit j s e narrow) b a start x (omega arith) within start_below hx

    -- the row of column c at the upper cut for the inputs x
    row-walk : row_of j f ls ws a b (start * 2 ^ inputs + x) ≡ node_row (words_of j f) j.order a b (first_at j ls b) low inputs (first_at j ls a + c) x
    unfolding node_row row_from
    row-walk =
        let q = start * 2 ^ inputs + x in
        let m = met j f b (outs j a - outs j b) q in
        let column : number_for j f b q ≡ node_for j f b q - first_at j ls b = omega (arith, node-first j f b q (omega arith) foot_below) in
        row_met j f ws a b q ∙ ap (λ (k : ℕ). m * 2 ^ low + k) column
        ∙ ap (λ (d : Reached). d.outputs * 2 ^ low + (d.node - first_at j ls b)) (sym walk_ends)

    row_bound : width_in ls b ≤ 2 ^ low → row_of j f ls ws a b (start * 2 ^ inputs + x) < 2 ^ cell_outputs j ws a b
    unfolding cell_outputs
    row_bound w =
        let q = start * 2 ^ inputs + x in
        let d = outs j a - outs j b in
        let small : number_for j f b q < 2 ^ low = omega (arith, number_small j f b q (omega arith) foot_below) in
        rw (row_met j f ws a b q, pow-add 2 d low) (digits_lt (met_small j f b d q) small)

  -- a row of a column, and one of an unused rail word
  row_used : (i : ℕ) → i / 2 ^ inputs < width_in ls a → row j f ls ws a b i ≡ row_of j f ls ws a b (get_or (layer ls a) (i / 2 ^ inputs) 0 * 2 ^ inputs + i % 2 ^ inputs)
  unfolding row
  row_used i h = cond_yes (ltb (i / 2 ^ inputs) (width_in ls a)) _ 0 (lt-ltb (i / 2 ^ inputs) (width_in ls a) h)

  pub row_unused : (i : ℕ) → width_in (layers j (reduced j (table j s))) a ≤ i / 2 ^ (ins j a - ins j b)
      → row j (reduced j (table j s)) (layers j (reduced j (table j s))) ws a b i ≡ 0
  unfolding row
  row_unused i h = cond_no (ltb (i / 2 ^ inputs) (width_in ls a)) _ 0 (le-ltb (i / 2 ^ inputs) (width_in ls a) h)

  -- the row of column c for the inputs x
  pub row_at : (c x : ℕ) → c < width_in (layers j (reduced j (table j s))) a → x < 2 ^ (ins j a - ins j b)
      → row j (reduced j (table j s)) (layers j (reduced j (table j s))) ws a b (c * 2 ^ (ins j a - ins j b) + x)
      ≡ node_row (words_of j (reduced j (table j s))) j.order a b (first_at j (layers j (reduced j (table j s))) b) (rails_at j ws b) (ins j a - ins j b)
      (first_at j (layers j (reduced j (table j s))) a + c) x
  row_at c x hc hx =
      let i = c * 2 ^ inputs + x in
      row_used i (rw (high c inputs hx) hc)
      ∙ ap₂ (λ (k y : ℕ). row_of j f ls ws a b (get_or (layer ls a) k 0 * 2 ^ inputs + y)) (high c inputs hx) (low_part c inputs hx)
      ∙ row-walk c x hc hx

  -- each row is as walked
  pub row_walked : (i : ℕ) → row j (reduced j (table j s)) (layers j (reduced j (table j s))) ws a b i
      ≡ walked_row (words_of j (reduced j (table j s))) j.order a b (first_at j (layers j (reduced j (table j s))) a)
      (width_in (layers j (reduced j (table j s))) a) (first_at j (layers j (reduced j (table j s))) b) (rails_at j ws b) (ins j a - ins j b) i
  unfolding walked_row
  row_walked i =
      let c = i / 2 ^ inputs in
      by_less c (width_in ls a)
      (λ h.
      row_used i h ∙ row-walk c (i % 2 ^ inputs) h (mod-lt i (pow_pos inputs))
      ∙ sym (cond_yes (ltb c (width_in ls a)) _ 0 (lt-ltb c (width_in ls a) h)))
      (λ h. row_unused i h ∙ sym (cond_no (ltb c (width_in ls a)) _ 0 (le-ltb c (width_in ls a) h)))

  -- each row stands in the cell's outputs
  pub row_below : width_in (layers j (reduced j (table j s))) b ≤ 2 ^ rails_at j ws b
      → (i : ℕ) → row j (reduced j (table j s)) (layers j (reduced j (table j s))) ws a b i < 2 ^ cell_outputs j ws a b
  row_below w i =
      by_less (i / 2 ^ inputs) (width_in ls a)
      (λ h. rw (row_used i h) (row_bound (i / 2 ^ inputs) (i % 2 ^ inputs) h (mod-lt i (pow_pos inputs)) w))
      (λ h. rw (row_unused i h) (pow_pos (cell_outputs j ws a b)))

  -- where the widths are those of the layers
  pub lower_fit : get_or ws b 0 ≡ width_in (layers j (reduced j (table j s))) b → width_in (layers j (reduced j (table j s))) b ≤ 2 ^ rails_at j ws b
  unfolding rails_at
  lower_fit is =
      rw (cond_no (eqb b (t j)) 0 (rails (get_or ws b 0)) (ne_eqb b (t j) (λ z. absurd (omega arith)))) (rw (sym is) (rails-enough (get_or ws b 0)))

  pub row_small : get_or ws b 0 ≡ width_in (layers j (reduced j (table j s))) b → cell_outputs j ws a b ≤ 16
      → (i : ℕ) → row j (reduced j (table j s)) (layers j (reduced j (table j s))) ws a b i < 65536
  row_small is few i = let p : 2 ^ cell_outputs j ws a b ≤ 65536 = pow_mono few in omega (arith, row_below (lower_fit is) i)
