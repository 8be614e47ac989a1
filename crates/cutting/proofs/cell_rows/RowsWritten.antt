-- The rows of a cell of an accepted job, as they are written by walks over the stored node words: they are the cell's rows, of 16 bits, and fit
-- their places.
-- Assumes nothing.
use mathlib.Core.Path.{◌≡◌, refl, sym, ◌∙◌, ap, ap₂}
use mathlib.Core.Bool.{Bool, false, cond}
use mathlib.Core.List.{List}
use Prim.Native.Nat.{ℕ, zero, suc, ◌+◌, ◌-◌, ◌*◌, ◌/◌, ◌%◌, ◌^◌, ◌<◌, ◌≤◌}
use native.Mathlib.Nat.{mul-le-mul_right}
use native.Mathlib.Omega.{arith}
use borrow.Author.Tests.{eq-eqb, ne_eqb}
use lib.Dec.{eqb, ltb, leb}
use lib.ListN.{length, get_or, replicate, length-replicate, get_or-replicate, get_or-eq_default}
use lib.Pow.{pow_pos, pow-add}
use lib.Seq.{sets}
use Rattle.laws.specs.Lists.{puts, puts_at}
use Rattle.laws.specs.Bits.{has}
use Rattle.laws.proofs.Cases.{by_less, by_equal, cond_yes, cond_no}
use Rattle.laws.proofs.Lists.{tab_of}
use Rattle.laws.proofs.Filled.{laid}
use Rattle.laws.proofs.Puts.{puts-sets, puts_at-sets, puts_at_ext, get_or_unput}
use Rattle.sheet_spec.specs.Job.{Job, t, ins, is_input}
use Rattle.sheet_spec.specs.Refusals.{sheet_refusal}
use Rattle.sheet_spec.specs.Table.{table}
use Rattle.sheet_spec.proofs.Promises.{job-accepted}
use Rattle.reduction_spec.specs.Columns.{width, layers, width_in}
use Rattle.reduction_spec.specs.Merge.{reduced, refuse7}
use Rattle.reduction_spec.specs.Diagram.{nodes_above, nodes}
use Rattle.reduction_spec.specs.Walk.{low_of, high_of}
use Rattle.reduction_spec.specs.declared.Reached.{Reached}
use Rattle.reduction_spec.specs.Descent.{reached, descend, descent}
use Rattle.reduction_spec.specs.Reduction.{reduction_refusal, final_table, final_nodes, words_after}
use Rattle.reduction_spec.proofs.Promises.{length-node_words, width_top, nodes_fit, width-layer, not-refused, words_of, nodes-room}
use Rattle.stored_spec.specs.Rails.{rails, rails_at}
use Rattle.stored_spec.proofs.Promises.{rails-enough}
use Rattle.cutting_spec.specs.Cuts.{cell_inputs, cell_outputs}
use Rattle.cutting_spec.specs.Rows.{row, cell_rows}
use Rattle.cutting.specs.RowWalks.{first_at, row_from, node_row, walked_row}
use Rattle.cutting.proofs.cell_rows.RowWalks.{first_above, row_walked, row_small}

-- words that are read the same make the same walks
module _ (ws vs : List ℕ) (same : (i : ℕ) → get_or ws i 0 ≡ get_or vs i 0) (order : List ℕ) where
  low_same : (v : ℕ) → low_of ws v ≡ low_of vs v
  low_same v = ap (λ (k : ℕ). cond (ltb v 10242) k 0) (same ((v - 2) * 3 + 1))

  high_same : (v : ℕ) → high_of ws v ≡ high_of vs v
  high_same v = ap (λ (k : ℕ). cond (ltb v 10242) k 0) (same ((v - 2) * 3 + 2))

  descend-same : (bottom k v x count o : ℕ) → descend ws order bottom k v x count o ≡ descend vs order bottom k v x count o
  unfolding descend
  descend-same bottom zero v x count o = refl
  descend-same bottom (suc k) v x count o =
      let input : Bool = is_input (get_or order (length order - suc (bottom + k)) 0) in
      let down : ℕ → ℕ → ℕ → Reached = λ u c p. descend ws order bottom k u x c p in
      let on : ℕ → ℕ → ℕ → Reached = λ u c p. descend vs order bottom k u x c p in
      let step : (u c p : ℕ) → down u c p ≡ on u c p = λ u c p. descend-same bottom k u x c p in
      let taken : down (cond (has x (count - 1)) (high_of ws v) (low_of ws v)) (count - 1) o ≡ on (cond (has x (count - 1)) (high_of vs v) (low_of vs v)) (count - 1) o =
      step (cond (has x (count - 1)) (high_of ws v) (low_of ws v)) (count - 1) o
      ∙ ap₂ (λ (h l : ℕ). on (cond (has x (count - 1)) h l) (count - 1) o) (high_same v) (low_same v) in
      let forced : down (high_of ws v) count (o * 2 + 1) ≡ on (high_of vs v) count (o * 2 + 1) =
      step (high_of ws v) count (o * 2 + 1) ∙ ap (λ (u : ℕ). on u count (o * 2 + 1)) (high_same v) in
      let other : down (low_of ws v) count (o * 2) ≡ on (low_of vs v) count (o * 2) =
      step (low_of ws v) count (o * 2) ∙ ap (λ (u : ℕ). on u count (o * 2)) (low_same v) in
      let output : cond (eqb (low_of ws v) 0) (down (high_of ws v) count (o * 2 + 1)) (down (low_of ws v) count (o * 2))
      ≡ cond (eqb (low_of vs v) 0) (on (high_of vs v) count (o * 2 + 1)) (on (low_of vs v) count (o * 2)) =
      ap₂ (λ (a b : Reached). cond (eqb (low_of ws v) 0) a b) forced other
      ∙ ap (λ (l : ℕ). cond (eqb l 0) (on (high_of vs v) count (o * 2 + 1)) (on (low_of vs v) count (o * 2))) (low_same v) in
      ap (λ (r : Reached). cond (ltb v 2) (reached v o) r) (ap₂ (λ (a b : Reached). cond input a b) taken output)

  pub descent-same : (top bottom v x count : ℕ) → descent ws order top bottom v x count ≡ descent vs order top bottom v x count
  unfolding descent
  descent-same top bottom v x count =
      ap (λ (r : Reached). cond (leb top 20) r (reached v 0)) (descend-same bottom (top - bottom) v x count 0)

  pub walked_same : (top bottom upper width lower rails count i : ℕ)
      → walked_row ws order top bottom upper width lower rails count i ≡ walked_row vs order top bottom upper width lower rails count i
  unfolding walked_row node_row
  walked_same top bottom upper width lower rails count i =
      ap (λ (r : Reached). cond (ltb (i / 2 ^ count) width) (row_from lower rails r) 0)
      (descent-same top bottom (upper + i / 2 ^ count) (i % 2 ^ count) count)

-- reads of zeros, and of a list laid into zeros
zero-read : (size i : ℕ) → ◌≡◌ {A = ℕ} (get_or (replicate size 0) i 0) 0
zero-read size i =
    by_less i size (λ k. get_or-replicate size i 0 0 k)
    (λ k. get_or-eq_default (replicate size 0) 0 {n = i} (omega (arith, length-replicate {A = ℕ} size 0)))

laid_read : (size : ℕ) (l : List ℕ) → length l ≤ size → (i : ℕ) → get_or (sets (replicate size 0) 0 l) i 0 ≡ get_or l i 0
laid_read size l h i =
    let f : ℕ → ℕ = λ k. get_or l k 0 in
    let stores : sets (replicate size 0) 0 l ≡ puts (length l) f (replicate size 0) =
    ap (sets (replicate size 0) 0) (sym (tab_of 0 l)) ∙ sym (puts-sets f (length l) (replicate size 0)) in
    by_less i (length l) (λ k. laid size l i h k)
    (λ k.
    ap (λ (x : List ℕ). get_or x i 0) stores ∙ get_or_unput f (length l) (replicate size 0) 0 i k ∙ zero-read size i
    ∙ sym (get_or-eq_default l 0 {n = i} k))

-- an accepted job
module _ (j : Job) (s : List ℕ) (e : sheet_refusal j s ≡ 0) (narrow : refuse7 j (table j s) ≡ false) where
  abbrev f : List ℕ
  f = reduced j (table j s)

  abbrev ls : List (List ℕ)
  ls = layers j f

  -- the node words made into zeros are read as those of the diagram
  pub words-read : (i : ℕ) → get_or (words_after j s (replicate 30720 0)) i 0 ≡ get_or (words_of j (reduced j (table j s))) i 0
  unfolding words_after final_nodes final_table
  words-read i =
      let ws = words_of j f in
      let few : length ws ≤ 30720 = omega (arith, length-node_words (nodes j f ls), nodes_fit j s e narrow) in
      ap (λ (x : List ℕ). get_or x i 0)
      (cond_yes (eqb (reduction_refusal j s) 0) (sets (replicate 30720 0) 0 ws) (replicate 30720 0) (eq-eqb (reduction_refusal j s) 0 (not-refused j s e narrow)))
      ∙ laid_read 30720 ws few i

  module _ (ws : List ℕ) (a b : ℕ) (above : b < a) (within : a ≤ t j) where
    -- the columns' numbers stand in the upper rails; at the top there is one column
    pub upper_fit : (a < t j → get_or ws a 0 ≡ width_in (layers j (reduced j (table j s))) a)
        → width_in (layers j (reduced j (table j s))) a ≤ 2 ^ rails_at j ws a
    unfolding rails_at
    upper_fit is =
        let r = job-accepted j s e in
        by_equal a (t j)
        (λ top.
        let one : width_in ls a ≡ 1 = width-layer j f a within ∙ ap (width j f) top ∙ width_top j r.order-whole r.inputs r.outputs f in
        omega (arith, pow_pos (cond (eqb a (t j)) 0 (rails (get_or ws a 0)))))
        (λ below.
        rw (cond_no (eqb a (t j)) 0 (rails (get_or ws a 0)) (ne_eqb a (t j) below))
        (rw (sym (is (omega arith))) (rails-enough (get_or ws a 0))))

    -- the rows of the columns are among the cell's
    pub columns_fit : width_in (layers j (reduced j (table j s))) a ≤ 2 ^ rails_at j ws a
        → width_in (layers j (reduced j (table j s))) a * 2 ^ (ins j a - ins j b) ≤ 2 ^ cell_inputs j ws a b
    unfolding cell_inputs
    columns_fit w =
        let size = 2 ^ (ins j a - ins j b) in
        omega (arith, mul-le-mul_right size w, pow-add 2 (rails_at j ws a) (ins j a - ins j b))

    -- the nodes at a cut are among the diagram's
    pub nodes-within : first_at j (layers j (reduced j (table j s))) a + width_in (layers j (reduced j (table j s))) a ≤ 10242
    nodes-within =
        let h = a - 1 in
        let up : suc h ≡ a = omega arith in
        let room : nodes_above j ls a + width_in ls a ≤ length (nodes j f ls) = rw up at (nodes-room j f ls h (omega arith)) in
        omega (arith, first_above j ls a (omega arith), room, nodes_fit j s e narrow)

    -- words that are read as those of the diagram
    module _ (words : List ℕ) (same : (i : ℕ) → get_or words i 0 ≡ get_or (words_of j (reduced j (table j s))) i 0) where
      pub row-stored : (i : ℕ) → row j (reduced j (table j s)) (layers j (reduced j (table j s))) ws a b i
          ≡ walked_row words j.order a b (first_at j (layers j (reduced j (table j s))) a) (width_in (layers j (reduced j (table j s))) a)
          (first_at j (layers j (reduced j (table j s))) b) (rails_at j ws b) (ins j a - ins j b) i
      row-stored i =
          row_walked j s e narrow ws a b above within i
          ∙ sym (walked_same words (words_of j f) same j.order a b (first_at j ls a) (width_in ls a) (first_at j ls b) (rails_at j ws b) (ins j a - ins j b) i)

      pub stored-small : get_or ws b 0 ≡ width_in (layers j (reduced j (table j s))) b → cell_outputs j ws a b ≤ 16
          → (i : ℕ) → walked_row words j.order a b (first_at j (layers j (reduced j (table j s))) a) (width_in (layers j (reduced j (table j s))) a)
          (first_at j (layers j (reduced j (table j s))) b) (rails_at j ws b) (ins j a - ins j b) i < 65536
      stored-small is few i = omega (arith, row-stored i, row_small j s e narrow ws a b above within is few i)

      -- the rows written are the cell's
      pub rows_written_lem : (at : ℕ) (l : List ℕ)
          → puts_at at (2 ^ cell_inputs j ws a b)
          (walked_row words j.order a b (first_at j (layers j (reduced j (table j s))) a) (width_in (layers j (reduced j (table j s))) a)
          (first_at j (layers j (reduced j (table j s))) b) (rails_at j ws b) (ins j a - ins j b)) l
          ≡ sets l at (cell_rows j (reduced j (table j s)) (layers j (reduced j (table j s))) ws a b)
      unfolding cell_rows
      rows_written_lem at l =
          let g : ℕ → ℕ = walked_row words j.order a b (first_at j ls a) (width_in ls a) (first_at j ls b) (rails_at j ws b) (ins j a - ins j b) in
          puts_at_ext g (row j f ls ws a b) at (2 ^ cell_inputs j ws a b) l (λ i h. sym (row-stored i))
          ∙ puts_at-sets (row j f ls ws a b) at (2 ^ cell_inputs j ws a b) l
