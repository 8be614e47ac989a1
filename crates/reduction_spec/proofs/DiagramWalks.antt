-- Walks over the node records of a diagram, of any number: the walk for the values of all variables passes the nodes of their prefixes, the
-- values it meets are those of the table, and it ends at 1 exactly where the characteristic function holds.
-- Assumes nothing.
use mathlib.Core.Path.{◌≡◌, refl, sym, ◌∙◌, ap, ap₂}
use mathlib.Core.Bool.{Bool, true, false, cond, ◌&&◌, ◌||◌, and-true, and-false}
use mathlib.Core.List.{List}
use Prim.Native.Nat.{ℕ, zero, suc, ◌+◌, ◌-◌, ◌*◌, ◌/◌, ◌^◌, ◌<◌, ◌≤◌}
use native.Mathlib.Omega.{arith}
use borrow.Author.Tests.{le-ltb}
use lib.Dec.{eqb, ltb}
use lib.ListN.{length, get_or}
use lib.Pow.{shr-shr, shr_lt}
use Rattle.laws.specs.Tests.{every}
use Rattle.laws.specs.Bits.{bit, has, flag}
use Rattle.laws.proofs.Cases.{by_test, or_split, cond_yes, cond_no}
use Rattle.laws.proofs.Bits.{bit-lt}
use Rattle.sheet_spec.specs.Job.{Job, t, ins, outs, var_at, is_input, input_list, word_of}
use Rattle.sheet_spec.specs.Values.{allows}
use Rattle.sheet_spec.specs.Table.{table}
use Rattle.sheet_spec.specs.Characteristic.{chi}
use Rattle.sheet_spec.specs.Accepted.{Accepted}
use Rattle.sheet_spec.specs.Refusals.{not_each_once, sheet_refusal}
use Rattle.sheet_spec.proofs.Promises.{table_below, job-accepted, ins_below, ins_input, ins_output, ins_below_lem}
use Rattle.reduction_spec.specs.Columns.{layers}
use Rattle.reduction_spec.specs.Merge.{reduced}
use Rattle.reduction_spec.specs.Diagram.{Node, top_value, nodes, node_words}
use Rattle.reduction_spec.specs.Walk.{low_in, high_in, node_child, node_walk, child, walk}
use Rattle.reduction_spec.specs.Cofactors.{inputs_in, outputs_in, chi_of}
use Rattle.reduction_spec.proofs.MergeKeepsOrderRule.{Ruled}
use Rattle.reduction_spec.proofs.AcceptedSheet.{some-variable, reduced_below, sheet_ruled, reduced_ruled}
use Rattle.reduction_spec.proofs.NodeChildren.{node_for, node-bottom, node-from, node_top, low_word, high_word, input_child_in, output_low_in, output_high_in, top_value_lem}
use Rattle.reduction_spec.proofs.VariableBits.{Carries, inputs_carried, inputs_below}
use Rattle.reduction_spec.proofs.ChiLines.{value_at, passes, chi_passes, chi-sheet}

-- the words of at most 10,240 nodes give the same walks
module _ (xs : List Node) (fits : length xs ≤ 10240) (bits : ℕ) where
  pub words-child : (h v : ℕ) → child (node_words xs) bits h v ≡ node_child xs bits h v
  unfolding child node_child
  words-child h v = ap₂ (λ (u w : ℕ). cond (has bits h) u w) (high_word xs fits v) (low_word xs fits v)

  pub words-walk : (h v : ℕ) → walk (node_words xs) bits h v ≡ node_walk xs bits h v
  unfolding walk node_walk
  words-walk zero v = refl
  words-walk (suc h) v =
      ap (cond (ltb v 2) v) (ap (walk (node_words xs) bits h) (words-child h v) ∙ words-walk h (node_child xs bits h v))

-- a forbidden value's child is 0
forbidden : (v b next : ℕ) → v < 3 → b < 2 → cond (eqb b 1) (cond (eqb v 0) 0 next) (cond (eqb v 1) 0 next) ≡ cond (allows v b) next 0
unfolding allows
forbidden zero zero next h k = refl
forbidden zero (suc zero) next h k = refl
forbidden zero (suc (suc b)) next h k = absurd (omega arith)
forbidden (suc zero) zero next h k = refl
forbidden (suc zero) (suc zero) next h k = refl
forbidden (suc zero) (suc (suc b)) next h k = absurd (omega arith)
forbidden (suc (suc zero)) zero next h k = refl
forbidden (suc (suc zero)) (suc zero) next h k = refl
forbidden (suc (suc zero)) (suc (suc b)) next h k = absurd (omega arith)
forbidden (suc (suc (suc v))) b next h k = absurd (omega arith)

-- a walk from constant 0
walk-zero : (xs : List Node) (bits h : ℕ) → node_walk xs bits h 0 ≡ 0
unfolding node_walk
walk-zero xs bits zero = refl
walk-zero xs bits (suc h) = refl

-- the node records of the diagram of f
abbrev pub records_of : Job → List ℕ → List Node
records_of j f = nodes j f (layers j f)

module _ (j : Job) (once : not_each_once j.n j.m j.order ≡ false) (few : j.n ≤ 12) (out : j.m ≤ 8) (f : List ℕ)
    (r : Ruled j.n j.m (ins_below (t j) j.order) f) (small : (i : ℕ) → get_or f i 0 < 3) where
  module _ (x : ℕ) (hx : x < 2 ^ j.n) where
    -- the prefix of x at height h
    abbrev prefix : ℕ → ℕ
    prefix h = x / 2 ^ ins j h

    prefix_below : (h : ℕ) → h ≤ t j → prefix h < 2 ^ (j.n - ins j h)
    prefix_below h l =
        let w : j.n - ins j h + ins j h ≡ j.n = omega (arith, ins_below_lem j once few out h l) in
        shr_lt (j.n - ins j h) (ins j h) (rw w hx)

    module _ (h : ℕ) (l : h < t j) where
      module _ (i : is_input (var_at j (suc h)) ≡ true) where
        prefix_input : prefix (suc h) * 2 + bit x (ins j h) ≡ prefix h
        prefix_input =
            let y = x / 2 ^ ins j h in
            let half : prefix (suc h) ≡ y / 2 = ap (λ (a : ℕ). x / 2 ^ a) (ins_input j h i) ∙ sym (shr-shr x (ins j h) 1) in
            rw half (omega arith)

        step_input : (bits : ℕ) → Carries j x bits
            → node_child (records_of j f) bits h (node_for j f (suc h) (x / 2 ^ ins j (suc h))) ≡ node_for j f h (x / 2 ^ ins j h)
        unfolding node_child
        step_input bits c =
            input_child_in j once few out f h l (prefix (suc h)) (prefix_below (suc h) l) i (bit bits h) (bit-lt bits h)
            ∙ ap (λ (b : ℕ). node_for j f h (prefix (suc h) * 2 + b)) (c h l i) ∙ ap (node_for j f h) prefix_input

      module _ (i : is_input (var_at j (suc h)) ≡ false) where
        prefix_output : prefix (suc h) ≡ prefix h
        prefix_output = ap (λ (a : ℕ). x / 2 ^ a) (ins_output j h i)

        top_is : top_value j f h (prefix (suc h)) ≡ value_at j f x h
        top_is = ap (top_value j f h) prefix_output ∙ top_value_lem j once few out f r h l i x hx

        -- the values met are those of the table
        pub low_is : low_in (records_of j f) (node_for j f (suc h) (x / 2 ^ ins j (suc h)))
            ≡ cond (eqb (value_at j f x h) 1) 0 (node_for j f h (x / 2 ^ ins j h))
        low_is =
            output_low_in j once few out f h l (prefix (suc h)) (prefix_below (suc h) l) i
            ∙ ap₂ (λ (v p : ℕ). cond (eqb v 1) 0 (node_for j f h p)) top_is prefix_output

        pub high_is : high_in (records_of j f) (node_for j f (suc h) (x / 2 ^ ins j (suc h)))
            ≡ cond (eqb (value_at j f x h) 0) 0 (node_for j f h (x / 2 ^ ins j h))
        high_is =
            output_high_in j once few out f h l (prefix (suc h)) (prefix_below (suc h) l) i
            ∙ ap₂ (λ (v p : ℕ). cond (eqb v 0) 0 (node_for j f h p)) top_is prefix_output

        step_output : (bits : ℕ) → node_child (records_of j f) bits h (node_for j f (suc h) (x / 2 ^ ins j (suc h)))
            ≡ cond (allows (value_at j f x h) (bit bits h)) (node_for j f h (x / 2 ^ ins j h)) 0
        unfolding node_child
        step_output bits =
            ap₂ (λ (u v : ℕ). cond (has bits h) u v) high_is low_is
            ∙ forbidden (value_at j f x h) (bit bits h) (node_for j f h (prefix h)) (small (outs j h * 2 ^ j.n + x)) (bit-lt bits h)

      -- along allowed values
      pub step-allowed : (bits : ℕ) → Carries j x bits → passes j f x bits h ≡ true
          → node_child (records_of j f) bits h (node_for j f (suc h) (x / 2 ^ ins j (suc h))) ≡ node_for j f h (x / 2 ^ ins j h)
      step-allowed bits c e =
          by_test (is_input (var_at j (suc h))) (λ i. step_input i bits c)
          (λ i.
          step_output i bits
          ∙ cond_yes _ _ 0 (ap (λ (b : Bool). b || allows (value_at j f x h) (bit bits h)) (sym i) ∙ e))

    -- the walk ends at 1 exactly when what it meets is allowed
    pub walk_is : (bits h : ℕ) → Carries j x bits → h ≤ t j
        → node_walk (records_of j f) bits h (node_for j f h (x / 2 ^ ins j h)) ≡ flag (every h (passes j f x bits))
    unfolding node_walk
    walk_is bits zero c l = node-bottom j f (x / 2 ^ ins j 0)
    walk_is bits (suc h) c l =
        let v = node_for j f (suc h) (prefix (suc h)) in
        let rest = every h (passes j f x bits) in
        let below = walk_is bits h c (omega arith) in
        cond_no (ltb v 2) v _ (le-ltb v 2 (node-from j f (suc h) (prefix (suc h)) (omega arith)))
        ∙ by_test (passes j f x bits h)
        (λ e.
        ap (node_walk (records_of j f) bits h) (step-allowed h l bits c e) ∙ below
        ∙ ap flag (sym (ap (λ (b : Bool). rest && b) e ∙ and-true rest)))
        (λ e.
        let no = or_split (is_input (var_at j (suc h))) (allows (value_at j f x h) (bit bits h)) e in
        ap (node_walk (records_of j f) bits h) (step_output h l no.0 bits ∙ cond_no _ (node_for j f h (prefix h)) 0 no.1)
        ∙ walk-zero (records_of j f) bits h ∙ ap flag (sym (ap (λ (b : Bool). rest && b) e ∙ and-false rest)))

    -- from node 2
    pub walk_top : 1 ≤ t j → (bits : ℕ) → Carries j x bits → node_walk (records_of j f) bits (t j) 2 ≡ flag (every (t j) (passes j f x bits))
    walk_top some bits c =
        ap (node_walk (records_of j f) bits (t j)) (sym (node_top j once few out f (x / 2 ^ ins j (t j)) some (prefix_below (t j) (omega arith))))
        ∙ walk_is bits (t j) c (omega arith)

  -- the diagram computes the characteristic function
  pub diagram_chi : 1 ≤ t j → (z : ℕ) → node_walk (nodes j f (layers j f)) z (t j) 2 ≡ flag (chi_of j f z)
  diagram_chi some z = walk_top (inputs_in j z) (inputs_below j once few out z) some z (inputs_carried j z) ∙ ap flag (sym (chi_passes j f z))

-- a job and sheet that are accepted
module _ (j : Job) (s : List ℕ) (e : sheet_refusal j s ≡ 0) (z : ℕ) where
  accepted : Accepted j.n j.m j.order s
  accepted = job-accepted j s e

  pub sheet_diagram : node_walk (nodes j (table j s) (layers j (table j s))) z (t j) 2
      ≡ flag (chi j.m s (word_of (input_list j) (inputs_in j z)) (outputs_in j z))
  sheet_diagram =
      diagram_chi j accepted.order-whole accepted.inputs accepted.outputs (table j s) (sheet_ruled j s e)
      (table_below j.n j.m j.order s) (some-variable j s e) z
      ∙ ap flag (chi-sheet j s e z)

  pub final_diagram : node_walk (nodes j (reduced j (table j s)) (layers j (reduced j (table j s)))) z (t j) 2
      ≡ flag (chi_of j (reduced j (table j s)) z)
  final_diagram =
      diagram_chi j accepted.order-whole accepted.inputs accepted.outputs (reduced j (table j s)) (reduced_ruled j s e)
      (reduced_below j s e) (some-variable j s e) z
