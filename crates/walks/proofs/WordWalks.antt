-- Walks over a diagram's node words: the walk over a word passes the nodes of its prefixes, the values it meets are those of the table, and
-- it ends at 1 exactly when each output's bit is allowed. So the walk and the characteristic function agree.
-- Assumes nothing.
use mathlib.Core.Path.{◌≡◌, refl, sym, ◌∙◌, ap}
use mathlib.Core.Bool.{Bool, true, false, cond}
use mathlib.Core.List.{List}
use Prim.Native.Nat.{ℕ, suc, ◌+◌, ◌*◌, ◌/◌, ◌^◌, ◌<◌, ◌≤◌}
use native.Mathlib.Omega.{arith}
use borrow.Author.Tests.{ne_eqb}
use lib.Dec.{eqb}
use lib.ListN.{length, get_or}
use Rattle.laws.specs.Tests.{every}
use Rattle.laws.specs.Bits.{bit, flag}
use Rattle.laws.proofs.Tests.{every_of, every_at}
use Rattle.laws.proofs.Bits.{flag_is}
use Rattle.sheet_spec.specs.Job.{Job, t, ins, var_at, is_input, input_list, output_list, word_of}
use Rattle.sheet_spec.specs.Values.{allows}
use Rattle.sheet_spec.specs.Table.{table}
use Rattle.sheet_spec.specs.Characteristic.{chi}
use Rattle.sheet_spec.specs.Accepted.{Accepted}
use Rattle.sheet_spec.specs.Refusals.{not_each_once, sheet_refusal}
use Rattle.sheet_spec.proofs.Promises.{table_below, job-accepted, ins_below}
use Rattle.reduction_spec.specs.Columns.{layers}
use Rattle.reduction_spec.specs.Merge.{reduced, refuse7}
use Rattle.reduction_spec.specs.Diagram.{nodes}
use Rattle.reduction_spec.specs.Walk.{low_of, high_of, child, walk}
use Rattle.reduction_spec.proofs.MergeKeepsOrderRule.{Ruled}
use Rattle.reduction_spec.proofs.AcceptedSheet.{some-variable, reduced_below, sheet_ruled, reduced_ruled, nodes_fit}
use Rattle.reduction_spec.proofs.NodeChildren.{words_of, node_for, node_positive, low_word, high_word}
use Rattle.reduction_spec.proofs.VariableBits.{Carries, CarriesOutputs}
use Rattle.reduction_spec.proofs.ChiLines.{value_at, passes, passes_lines, table-chi, passes_refined}
use Rattle.reduction_spec.proofs.DiagramWalks as records

child-zero : (b : Bool) (v : ℕ) → 1 ≤ v → eqb (cond b 0 v) 0 ≡ b
child-zero true v h = refl
child-zero false v h = ne_eqb v 0 (λ e. absurd (omega arith))

module _ (j : Job) (once : not_each_once j.n j.m j.order ≡ false) (few : j.n ≤ 12) (out : j.m ≤ 8) (f : List ℕ)
    (r : Ruled j.n j.m (ins_below (t j) j.order) f) (small : (i : ℕ) → get_or f i 0 < 3)
    (fits : length (nodes j f (layers j f)) ≤ 10240) (x : ℕ) (hx : x < 2 ^ j.n) where
  module _ (h : ℕ) (l : h < t j) where
    -- the values met are those of the table
    module _ (i : is_input (var_at j (suc h)) ≡ false) where
      pub low_forbidden : eqb (low_of (words_of j f) (node_for j f (suc h) (x / 2 ^ ins j (suc h)))) 0 ≡ eqb (value_at j f x h) 1
      low_forbidden =
          ap (λ (v : ℕ). eqb v 0)
          (low_word (nodes j f (layers j f)) fits (node_for j f (suc h) (x / 2 ^ ins j (suc h))) ∙ records.low_is j once few out f r small x hx h l i)
          ∙ child-zero (eqb (value_at j f x h) 1) (node_for j f h (x / 2 ^ ins j h)) (node_positive j f h (x / 2 ^ ins j h))

      pub high_forbidden : eqb (high_of (words_of j f) (node_for j f (suc h) (x / 2 ^ ins j (suc h)))) 0 ≡ eqb (value_at j f x h) 0
      high_forbidden =
          ap (λ (v : ℕ). eqb v 0)
          (high_word (nodes j f (layers j f)) fits (node_for j f (suc h) (x / 2 ^ ins j (suc h))) ∙ records.high_is j once few out f r small x hx h l i)
          ∙ child-zero (eqb (value_at j f x h) 0) (node_for j f h (x / 2 ^ ins j h)) (node_positive j f h (x / 2 ^ ins j h))

    -- along allowed values
    pub step-allowed : (bits : ℕ) → Carries j x bits → passes j f x bits h ≡ true
        → child (words_of j f) bits h (node_for j f (suc h) (x / 2 ^ ins j (suc h))) ≡ node_for j f h (x / 2 ^ ins j h)
    step-allowed bits c e =
        records.words-child (nodes j f (layers j f)) fits bits h (node_for j f (suc h) (x / 2 ^ ins j (suc h)))
        ∙ records.step-allowed j once few out f r small x hx h l bits c e

  -- the walk ends at 1 exactly when what it meets is allowed
  pub walk_is : (bits h : ℕ) → Carries j x bits → h ≤ t j
      → walk (words_of j f) bits h (node_for j f h (x / 2 ^ ins j h)) ≡ flag (every h (passes j f x bits))
  walk_is bits h c l =
      records.words-walk (nodes j f (layers j f)) fits bits h (node_for j f h (x / 2 ^ ins j h))
      ∙ records.walk_is j once few out f r small x hx bits h c l

  -- the whole walk, from node 2
  pub walk_top : 1 ≤ t j → (bits : ℕ) → Carries j x bits → walk (words_of j f) bits (t j) 2 ≡ flag (every (t j) (passes j f x bits))
  walk_top some bits c =
      records.words-walk (nodes j f (layers j f)) fits bits (t j) 2 ∙ records.walk_top j once few out f r small x hx some bits c

  -- line by line
  pub walk-whole : 1 ≤ t j → (y bits : ℕ) → Carries j x bits → CarriesOutputs j y bits
      → walk (words_of j f) bits (t j) 2 ≡ flag (every j.m (λ k. allows (get_or f (k * 2 ^ j.n + x) 0) (bit y (get_or (output_list j) k 0))))
  walk-whole some y bits c d = walk_top some bits c ∙ ap flag (passes_lines j once few out f x y bits d)

-- a job and sheet that are accepted
module _ (j : Job) (s : List ℕ) (e : sheet_refusal j s ≡ 0) where
  accepted : Accepted j.n j.m j.order s
  accepted = job-accepted j s e

  module _ (x y bits : ℕ) (hx : x < 2 ^ j.n) (c : Carries j x bits) (d : CarriesOutputs j y bits) where
    -- over the final diagram: each output's bit is one that the final table allows
    pub final_walk : refuse7 j (table j s) ≡ false → walk (words_of j (reduced j (table j s))) bits (t j) 2
        ≡ flag (every j.m (λ k. allows (get_or (reduced j (table j s)) (k * 2 ^ j.n + x) 0) (bit y (get_or (output_list j) k 0))))
    final_walk narrow =
        walk-whole j accepted.order-whole accepted.inputs accepted.outputs (reduced j (table j s)) (reduced_ruled j s e) (reduced_below j s e)
        (nodes_fit j s e narrow) x hx (some-variable j s e) y bits c d

    -- over the diagram of the sheet's own table, where it is not too large: the walk and the characteristic function agree
    pub sheet-walk : length (nodes j (table j s) (layers j (table j s))) ≤ 10240
        → walk (words_of j (table j s)) bits (t j) 2 ≡ flag (chi j.m s (word_of (input_list j) x) y)
    sheet-walk fits =
        walk-whole j accepted.order-whole accepted.inputs accepted.outputs (table j s) (sheet_ruled j s e)
        (table_below j.n j.m j.order s) fits x hx (some-variable j s e) y bits c d
        ∙ ap flag (table-chi j accepted.order-whole accepted.inputs accepted.outputs s x y hx)

    -- what the final diagram lets through satisfies the characteristic function
    pub final_chi : refuse7 j (table j s) ≡ false → walk (words_of j (reduced j (table j s))) bits (t j) 2 ≡ 1
        → chi j.m s (word_of (input_list j) x) y ≡ true
    final_chi narrow ends =
        let f = reduced j (table j s) in
        let a = accepted.order-whole in
        let b = accepted.inputs in
        let o = accepted.outputs in
        let all : every (t j) (passes j f x bits) ≡ true =
        sym (flag_is (every (t j) (passes j f x bits)))
        ∙ ap (λ (v : ℕ). eqb v 1)
        (sym (walk_top j a b o f (reduced_ruled j s e) (reduced_below j s e) (nodes_fit j s e narrow) x hx (some-variable j s e) bits c) ∙ ends) in
        sym (table-chi j a b o s x y hx) ∙ sym (passes_lines j a b o (table j s) x y bits d)
        ∙ every_of (passes j (table j s) x bits) (t j) (λ g l. passes_refined j s e x bits g hx l (every_at (passes j f x bits) (t j) all g l))
