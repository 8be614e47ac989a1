-- What is copied into the lent widths and words is what the definitions say they hold after.
-- Assumes nothing.
use mathlib.Core.Path.{◌≡◌, refl, sym, ◌∙◌, ap}
use mathlib.Core.Bool.{false}
use mathlib.Core.List.{List}
use Prim.Native.Nat.{ℕ, ◌*◌, ◌<◌, ◌≤◌}
use native.Mathlib.Omega.{arith}
use borrow.Author.Tests.{eq-eqb, ne_eqb}
use lib.Dec.{eqb}
use lib.ListN.{length, get_or, replicate}
use lib.Seq.{sets}
use Rattle.laws.specs.Lists.{tab, puts}
use Rattle.laws.proofs.Cases.{by_test, by_equal, cond_yes, cond_no}
use Rattle.laws.proofs.Filled.{laid}
use Rattle.laws.proofs.Lists.{tab_of}
use Rattle.laws.proofs.Puts.{puts_ext, puts-sets}
use Rattle.sheet_spec.specs.Job.{Job, t}
use Rattle.sheet_spec.specs.Refusals.{sheet_refusal}
use Rattle.sheet_spec.specs.Table.{table}
use Rattle.sheet_spec.proofs.Promises.{job-accepted}
use Rattle.reduction_spec.specs.Columns.{width}
use Rattle.reduction_spec.specs.Merge.{refuse7}
use Rattle.reduction_spec.specs.Diagram.{node_words}
use Rattle.reduction_spec.specs.Reduction.{Reduction, reduced_of, reduction_refusal, final_table, final_widths, final_nodes, reduction, widths_after, words_after}
use Rattle.reduction_spec.proofs.NodeWords.{length-node_words}
use Rattle.reduction_spec.proofs.AcceptedSheet.{nodes_fit}

-- the answer and what is lent after, put together
pub same-reduced : {a b : Reduction} {w v x y : List ℕ} → a ≡ b → w ≡ v → x ≡ y → reduced_of a w x ≡ reduced_of b v y
same-reduced p q r = rw (p, q, r) refl

module _ (j : Job) (s : List ℕ) where
  pub refusal_is : (r : Reduction) → r ≡ reduction j s → r.refusal ≡ reduction_refusal j s
  unfolding reduction
  refusal_is r is = ap (λ (x : Reduction). x.refusal) is

  -- on a refusal
  pub kept-widths : (reduction_refusal j s ≡ 0 → ⊥) → (old : List ℕ) → old ≡ widths_after j s old
  unfolding widths_after
  kept-widths h old = sym (cond_no (eqb (reduction_refusal j s) 0) (sets old 0 (final_widths j s)) old (ne_eqb (reduction_refusal j s) 0 h))

  pub kept-words : (reduction_refusal j s ≡ 0 → ⊥) → (old : List ℕ) → old ≡ words_after j s old
  unfolding words_after
  kept-words h old = sym (cond_no (eqb (reduction_refusal j s) 0) (sets old 0 (node_words (final_nodes j s))) old (ne_eqb (reduction_refusal j s) 0 h))

  module _ (e : reduction_refusal j s ≡ 0) where
    pub accepted : sheet_refusal j s ≡ 0
    unfolding reduction_refusal
    accepted =
        by_equal (sheet_refusal j s) 0 (λ z. z)
        (λ h. sym (cond_no (eqb (sheet_refusal j s) 0) _ (sheet_refusal j s) (ne_eqb (sheet_refusal j s) 0 h)) ∙ e)

    pub few-variables : t j ≤ 20
    few-variables = let r = job-accepted j s accepted in omega (arith, r.inputs, r.outputs)

    pub narrow : refuse7 j (table j s) ≡ false
    unfolding reduction_refusal
    narrow =
        by_test (refuse7 j (table j s))
        (λ t.
        let z : reduction_refusal j s ≡ 7 = cond_yes (eqb (sheet_refusal j s) 0) _ (sheet_refusal j s) (eq-eqb (sheet_refusal j s) 0 accepted) ∙ cond_yes (refuse7 j (table j s)) 7 0 t in
        absurd (omega arith))
        (λ t. t)

    pub nodes-few : length (final_nodes j s) ≤ 10240
    unfolding final_nodes final_table
    nodes-few = nodes_fit j s accepted narrow

    pub node-count : (r : Reduction) → r ≡ reduction j s → r.nodes ≡ length (final_nodes j s)
    unfolding reduction
    node-count r is =
        ap (λ (x : Reduction). x.nodes) is ∙ cond_yes (eqb (reduction_refusal j s) 0) (length (final_nodes j s)) 0 (eq-eqb (reduction_refusal j s) 0 e)

    pub words-few : (r : Reduction) → r ≡ reduction j s → r.nodes * 3 ≤ 30720
    words-few r is = omega (arith, node-count r is, nodes-few)

    pub copied_widths : (made old : List ℕ) → ((i : ℕ) → i < t j → get_or made i 0 ≡ width j (final_table j s) i) → puts (t j) (λ i. get_or made i 0) old ≡ widths_after j s old
    unfolding widths_after final_widths
    copied_widths made old is =
        puts_ext (λ i. get_or made i 0) (width j (final_table j s)) (t j) old is
        ∙ puts-sets (width j (final_table j s)) (t j) old
        ∙ sym (cond_yes (eqb (reduction_refusal j s) 0) (sets old 0 (tab (t j) (width j (final_table j s)))) old (eq-eqb (reduction_refusal j s) 0 e))

    pub copied_words : (made old : List ℕ) (n : ℕ) → made ≡ sets (replicate 30720 0) 0 (node_words (final_nodes j s)) → n ≡ length (final_nodes j s)
        → puts (n * 3) (λ i. get_or made i 0) old ≡ words_after j s old
    unfolding words_after
    copied_words made old n is en =
        let ws = node_words (final_nodes j s) in
        let len : length ws ≡ length (final_nodes j s) * 3 = length-node_words (final_nodes j s) in
        let all : n * 3 ≡ length ws = omega (arith, en, len) in
        ap (λ (k : ℕ). puts k (λ i. get_or made i 0) old) all
        ∙ puts_ext (λ i. get_or made i 0) (λ i. get_or ws i 0) (length ws) old
        (λ i h. ap (λ (l : List ℕ). get_or l i 0) is ∙ laid 30720 ws i (omega (arith, len, nodes-few)) h)
        ∙ puts-sets (λ i. get_or ws i 0) (length ws) old
        ∙ ap (λ (l : List ℕ). sets old 0 l) (tab_of 0 ws)
        ∙ sym (cond_yes (eqb (reduction_refusal j s) 0) (sets old 0 ws) old (eq-eqb (reduction_refusal j s) 0 e))
