-- The pass over the heights as the code's loop goes: what it begins with, what it holds at a height, that it goes on, and what it answers.
-- Assumes nothing.
use mathlib.Core.Path.{◌≡◌, sym, ◌∙◌, ap}
use mathlib.Core.Bool.{Bool, true, false, cond}
use mathlib.Core.List.{List}
use Prim.Native.Nat.{ℕ, suc, ◌+◌, ◌-◌, ◌*◌, ◌<◌, ◌≤◌}
use native.Mathlib.Numerals.{add-one}
use native.Mathlib.Omega.{arith}
use mir.Syntax.{w64}
use mir.Val.{Fits}
use lib.ListN.{length, get_or, set, replicate, length-replicate}
use lib.Seq.{sets}
use Rattle.laws.specs.Lists.{puts}
use Rattle.laws.proofs.Cases.{by_test, cond_yes, cond_no}
use Rattle.sheet_spec.specs.Job.{Job, t, ins, outs, var_at, is_input}
use Rattle.sheet_spec.specs.Refusals.{sheet_refusal}
use Rattle.sheet_spec.specs.Table.{table, table_after}
use Rattle.sheet_spec.specs.Accepted.{Accepted}
use Rattle.sheet_spec.proofs.Promises.{job-accepted, order-length, ins-outs, ins_input, ins_output, ins_below_lem, outs_below}
use Rattle.reduction_spec.specs.Columns.{width}
use Rattle.reduction_spec.specs.Merge.{refuse7}
use Rattle.reduction_spec.specs.Diagram.{node_words}
use Rattle.reduction.specs.Packed.{size, packed_word, places_with}
use Rattle.std.specs.Prelude.{Result, Ok, Err}
use Rattle.refusals.specs.declared.Refusal.{Refusal}
use Rattle.refusals.specs.declared.Refusal.TheVariants.{TooWide}
use Rattle.reduction.proofs.Narrow.{few-before, answer-is, many-before, refused-wide}
use Rattle.reduction.proofs.heights.LoweringArrays.{cliques_fit}
use Rattle.reduction.specs.Lowering.{narrow_or, first_node, firsts_below, cliques_below, product_below, nodes_over}
use Rattle.reduction_spec.specs.Reduction.{final_table, final_nodes}
use Rattle.reduction_spec.proofs.AcceptedSheet.{nodes_fit}
use Rattle.reduction.proofs.pass.Invariant.{nodes-room, planes_room, line-room, too_wide_lem, next}
use Rattle.reduction.proofs.pass.Ends.{small, At, start, wide_refused, end_count, end_widths, end_words, end_narrow}

-- the planes that the pass begins with
abbrev pub Begun : Job → (s zs os : List ℕ) → Type 0
Begun j s zs os =
    (sheet_refusal j s ≡ 0)
    × (zs ≡ puts 512 (packed_word (places_with (table_after j s (replicate 32768 0)) j.n j.m 0)) (replicate 1024 0))
    × (os ≡ puts 512 (packed_word (places_with (table_after j s (replicate 32768 0)) j.n j.m 1)) (replicate 1024 0))

-- what it answers
abbrev pub Answered : Job → (s : List ℕ) (r : Result ℕ Refusal) (widths words : List ℕ) → Type 0
Answered j s r widths words =
    (r ≡ cond (refuse7 j (table j s)) (Err TooWide) (Ok (length (final_nodes j s))))
    × (refuse7 j (table j s) ≡ false
    → ((i : ℕ) → i < t j → get_or widths i 0 ≡ width j (final_table j s) i) × (words ≡ sets (replicate 30720 0) 0 (node_words (final_nodes j s))))

-- what it holds after k heights, with a inputs below
pub record AtHeight (j : Job) (s : List ℕ) (k a w at : ℕ) (zs os link widths words : List ℕ) : Type 0 where
  pub accepted : sheet_refusal j s ≡ 0
  pub stage : At j s accepted k a w at zs os widths words
  pub links : length link ≡ 262144
  pub within : k ≤ t j

pub begins : (j : Job) (s zs os widths words : List ℕ) → Begun j s zs os → widths ≡ replicate 20 0 → words ≡ replicate 30720 0
    → AtHeight j s 0 j.n 1 0 zs os (replicate 262144 0) widths words
begins j s zs os widths words b ed ew =
    record { accepted = b.0; stage = rw (ed, ew) (start j s b.0 zs os b.1 b.2); links = length-replicate {A = ℕ} 262144 0; within = omega arith }

pub sum_fits : (j : Job) (s : List ℕ) → sheet_refusal j s ≡ 0 → Fits w64 (t j)
sum_fits j s e = omega (arith, (job-accepted j s e).inputs, (job-accepted j s e).outputs)

module _ (j : Job) (s : List ℕ) (k a w at : ℕ) (zs os link widths words : List ℕ) (g : AtHeight j s k a w at zs os link widths words) where
  abbrev acc : sheet_refusal j s ≡ 0
  acc = g.accepted

  abbrev read : Accepted j.n j.m j.order s
  read = job-accepted j s g.accepted

  -- one height further down
  module _ (l : k < t j) where
    lower : k < t j
    lower = l

    nodes_above_lem : at + w ≤ 10240
    nodes_above_lem = nodes-room j read.order-whole read.inputs read.outputs (table j s) (small j s acc) k a w at zs os widths words g.stage lower

    pub count_fits : Fits w64 (at + w)
    count_fits = omega (arith, nodes_above_lem)

    pub read_fits : k < length j.order
    read_fits = omega (arith, order-length j.n j.m j.order read.order-whole)

    pub width_fits : t j - 1 - k < 20
    width_fits = omega (arith, read.inputs, read.outputs)

    pub place_fits : Fits w64 ((t j - 1 - k) * 2)
    place_fits = omega (arith, width_fits)

  module _ (l : k < t j) (input : Bool) (ei : input ≡ is_input (get_or j.order k 0)) (a' : ℕ) (ea : a' ≡ cond input (a - 1) a) where
    abbrev H : ℕ
    H = t j - suc k

    height : t j - 1 - k ≡ H
    height = omega arith

    kind : is_input (var_at j (suc H)) ≡ input
    kind = let z : t j - suc H ≡ k = omega arith in ap (λ (x : ℕ). is_input (get_or j.order x 0)) z ∙ sym ei

    a_above : a ≡ ins j (suc H)
    a_above = let z : t j - k ≡ suc H = omega arith in g.stage.inputs ∙ ap (ins j) z

    ins_is : a' ≡ ins j H
    ins_is =
        by_test input
        (λ e. let z : a' ≡ a - 1 = rw e at ea in omega (arith, a_above, ins_input j H (kind ∙ e)))
        (λ e. let z : a' ≡ a = rw e at ea in omega (arith, a_above, ins_output j H (kind ∙ e)))

    outs_is : t j - 1 - k - a' ≡ outs j H
    outs_is = omega (arith, ins_is, ins-outs j H, height)

    pub height_needs : (a' ≤ 12) × (a' ≤ t j - 1 - k) × (t j - 1 - k - a' ≤ 8) × (input ≡ false → t j - 1 - k - a' < 8) × (w ≤ 512) × (w * 2 * size a' ≤ 1024) × (length link ≡ 262144) × (at + w ≤ 10240)
    height_needs = (
      omega (arith, ins_is, ins_below_lem j read.order-whole read.inputs read.outputs H (omega arith), read.inputs),
      omega (arith, ins_is, ins-outs j H, height),
      omega (arith, outs_is, outs_below j read.order-whole read.inputs read.outputs H (omega arith), read.outputs),
      (λ e. rw outs_is
          (line-room j read.order-whole read.inputs read.outputs (table j s) (small j s acc) k a w at zs os widths words g.stage (lower l) (kind ∙ e))),
      g.stage.few-columns,
      rw ins_is (planes_room j read.order-whole read.inputs read.outputs (table j s) (small j s acc) k a w at zs os widths words g.stage (lower l)),
      g.links,
      nodes_above_lem l,
    )

    pub stops : (x : Refusal) → ◌≡◌ {A = Result ℕ Refusal} (Err x) (narrow_or (length (firsts_below input a' (t j - 1 - k - a') (size a') w zs os)) (length (cliques_below input a' (t j - 1 - k - a') (size a') w zs os)))
        → ◌≡◌ {A = Result ℕ Refusal} (Err x) (cond (refuse7 j (table j s)) (Err TooWide) (Ok (length (final_nodes j s)))) × (refuse7 j (table j s) ≡ true)
    stops x e =
        let many : 512 < length (firsts_below input a' (t j - 1 - k - a') (size a') w zs os) = many-before (length (firsts_below input a' (t j - 1 - k - a') (size a') w zs os)) (length (cliques_below input a' (t j - 1 - k - a') (size a') w zs os)) x e in
        let wide =
        wide_refused j s acc k (lower l)
        (too_wide_lem j read.order-whole read.inputs read.outputs (table j s) (small j s acc) k a w at zs os widths words g.stage (lower l) input kind (rw (outs_is, ins_is) at many)) in
        (ap Err (refused-wide (length (firsts_below input a' (t j - 1 - k - a') (size a') w zs os)) (length (cliques_below input a' (t j - 1 - k - a') (size a') w zs os)) x e) ∙ sym (cond_yes (refuse7 j (table j s)) (Err TooWide) (Ok (length (final_nodes j s))) wide), wide)

    module _ (r : ℕ) (er : ◌≡◌ {A = Result ℕ Refusal} (Ok r) (narrow_or (length (firsts_below input a' (t j - 1 - k - a') (size a') w zs os)) (length (cliques_below input a' (t j - 1 - k - a') (size a') w zs os)))) where
      fine : length (firsts_below input a' (t j - 1 - k - a') (size a') w zs os) ≤ 512
      fine = few-before (length (firsts_below input a' (t j - 1 - k - a') (size a') w zs os)) r (length (cliques_below input a' (t j - 1 - k - a') (size a') w zs os)) er

      answer : r ≡ length (cliques_below input a' (t j - 1 - k - a') (size a') w zs os)
      answer = answer-is (length (firsts_below input a' (t j - 1 - k - a') (size a') w zs os)) r (length (cliques_below input a' (t j - 1 - k - a') (size a') w zs os)) er

      pub answer-fits : r < 65536
      answer-fits = omega (arith, fine, answer, cliques_fit input a' (t j - 1 - k - a') (size a') w zs os height_needs.4 height_needs.5)

      module _ (r16 : ℕ) (e16 : r16 ≡ r) (zs' os' link' words' : List ℕ)
          (ez : zs' ≡ product_below input a' (t j - 1 - k - a') (size a') w zs os zs zs) (eo : os' ≡ product_below input a' (t j - 1 - k - a') (size a') w zs os os os)
          (ew : words' ≡ sets words (at * 3) (node_words (nodes_over input a' (t j - 1 - k - a') (size a') w zs os (a' + (t j - 1 - k - a') + 1) (first_node (a' + (t j - 1 - k - a')) (at + w)))))
          (el : length link' ≡ 262144) where
        pub goes_on_lem : AtHeight j s (k + 1) a' r (at + w) zs' os' link' (set widths (t j - 1 - k) r16) words'
        goes_on_lem =
            let here : a' + (t j - 1 - k - a') ≡ H = omega (arith, ins_is, ins-outs j H, height) in
            let top : H + 1 ≡ suc H = add-one H in
            let more : k + 1 ≡ suc k = add-one k in
            record {
              accepted = acc;
              stage =
                  rw (more, ins_is, height, e16)
                  (next j read.order-whole read.inputs read.outputs (table j s) (small j s acc) k a w at zs os widths words g.stage (lower l)
                  input kind (rw (outs_is, ins_is) at fine) r (rw (outs_is, ins_is) at answer) zs' os' words' (rw (outs_is, ins_is) at ez) (rw (outs_is, ins_is) at eo) (rw (here, top, outs_is, ins_is) at ew));
              links = el;
              within = omega arith;
            }

  -- the end of the pass
  module _ (z : t j ≤ k) where
    done : At j s acc (t j) a w at zs os widths words
    done = let e : k ≡ t j = omega arith in rw e at g.stage

    narrow-all : refuse7 j (table j s) ≡ false
    narrow-all = end_narrow j s acc a w at zs os widths words done

    pub end_answer : Answered j s (Ok at) widths words
    end_answer = (
      ap Ok (end_count j s acc a w at zs os widths words done) ∙ sym (cond_no (refuse7 j (table j s)) (Err TooWide) (Ok (length (final_nodes j s))) narrow-all),
      (λ e. (end_widths j s acc a w at zs os widths words done, end_words j s acc a w at zs os widths words done)),
    )

-- the number answered
module _ (j : Job) (s : List ℕ) where
  pub over : (x : Refusal) → ◌≡◌ {A = Result ℕ Refusal} (Err x) (cond (refuse7 j (table j s)) (Err TooWide) (Ok (length (final_nodes j s)))) → (x ≡ TooWide) × (refuse7 j (table j s) ≡ true)
  over x is =
      by_test (refuse7 j (table j s)) (λ e. (cc (is, cond_yes {A = Result ℕ Refusal} (refuse7 j (table j s)) (Err TooWide) (Ok (length (final_nodes j s))) e), e))
      (λ e. cc (is, cond_no {A = Result ℕ Refusal} (refuse7 j (table j s)) (Err TooWide) (Ok (length (final_nodes j s))) e))

  pub not_over : (r : ℕ) → ◌≡◌ {A = Result ℕ Refusal} (Ok r) (cond (refuse7 j (table j s)) (Err TooWide) (Ok (length (final_nodes j s)))) → (r ≡ length (final_nodes j s)) × (refuse7 j (table j s) ≡ false)
  not_over r is =
      by_test (refuse7 j (table j s)) (λ e. cc (is, cond_yes {A = Result ℕ Refusal} (refuse7 j (table j s)) (Err TooWide) (Ok (length (final_nodes j s))) e))
      (λ e. (cc (is, cond_no {A = Result ℕ Refusal} (refuse7 j (table j s)) (Err TooWide) (Ok (length (final_nodes j s))) e), e))

  pub nodes_16 : sheet_refusal j s ≡ 0 → refuse7 j (table j s) ≡ false → length (final_nodes j s) < 65536
  unfolding final_nodes final_table
  nodes_16 acc e = omega (arith, nodes_fit j s acc e)
