-- The pass down the heights: what the code holds after k merges, and that one step more keeps it.
-- Assumes nothing.
use mathlib.Core.Path.{◌≡◌, refl, sym, ◌∙◌, ap, ap₂}
use mathlib.Core.Bool.{Bool, true, false, cond}
use mathlib.Core.List.{List}
use Prim.Native.Nat.{ℕ, zero, suc, ◌+◌, ◌-◌, ◌*◌, ◌/◌, ◌%◌, ◌^◌, ◌<◌, ◌≤◌}
use native.Mathlib.Nat.{mul-le-mul, le_refl, add-mul}
use native.Mathlib.Omega.{arith}
use borrow.Author.Tests.{ltb-false, lt-ltb, le-ltb}
use lib.Dec.{eqb}
use lib.ListN.{length, get_or, set, replicate, length-set}
use lib.Pow.{pow-add, pow_mono}
use lib.Seq.{sets, get_or-set_same, get_or-set_other}
use Rattle.laws.specs.Tests.{sum}
use Rattle.laws.specs.Lists.{tab, puts}
use Rattle.laws.proofs.Cases.{by_less, last_or_below}
use Rattle.laws.proofs.Counts.{sum-le, sum_fixed}
use Rattle.laws.proofs.Lists.{tab_ext}
use Rattle.laws.proofs.Puts.{sets-append, length-puts}
use Rattle.sheet_spec.specs.Job.{Job, t, ins, outs, var_at, is_input}
use Rattle.sheet_spec.specs.Refusals.{not_each_once}
use Rattle.sheet_spec.proofs.Promises.{ins_rise, ins_input, ins_output, outs_input, outs_output, ins_below_lem, outs_below}
use Rattle.reduction_spec.specs.Columns.{entry, firsts, firsts_at, number_at, width, layers, width_in}
use Rattle.reduction_spec.specs.Merge.{merge_at, merged, reduced, too_wide}
use Rattle.reduction_spec.specs.declared.Node.{Node}
use Rattle.reduction_spec.specs.Diagram.{node, node_at, node_words}
use Rattle.reduction.specs.Packed.{size, value_in}
use Rattle.reduction.specs.Lowering.{firsts_below, cliques_below, number_below, product_below, nodes_over}
use Rattle.reduction_spec.proofs.ColumnNumbers.{width_few}
use Rattle.reduction_spec.proofs.AllMerges.{width_top, width-merge, merged_below}
use Rattle.reduction.proofs.packed.Planes.{Plane}
use Rattle.reduction_spec.proofs.AcceptedSheet.{width-layer}
use Rattle.reduction_spec.proofs.HeightsInOrder.{width_at, top_nodes, top_length, first_node, input_node_lem, output_node_lem}
use Rattle.reduction.proofs.heights.LoweringArrays.{cliques_fit}
use Rattle.reduction.proofs.packed.PlanesMade.{length-added}
use Rattle.reduction.proofs.heights.BelowInputOrOutput.{Step, input_step, output_step, output_value}
use Rattle.reduction_spec.proofs.NodeWords.{node_words-append, length-node_words}

-- words of w columns with 2^a places each
columns-room : (n a w : ℕ) → n ≤ 12 → a ≤ n → w ≤ 512 → w ≤ 2 ^ (n - a) → w * 2 * size a ≤ 1024
columns-room n a w hn ha hw hp =
    by_less a 3
    (λ l. let z : a - 3 ≡ 0 = omega arith in let s : size a ≡ 1 = ap (λ (i : ℕ). 2 ^ i) z in let y : w * 2 * size a ≡ w * 2 * 1 = ap (λ (i : ℕ). w * 2 * i) s in omega arith)
    (λ l.
    let e : n - a + (a - 3) ≡ n - 3 = omega arith in
    let top : 2 ^ (n - 3) ≤ 512 = pow_mono {i = n - 3} {j = 9} (omega arith) in
    let whole : 2 ^ (n - a) * size a ≡ 2 ^ (n - 3) = sym (pow-add 2 (n - a) (a - 3)) ∙ ap (λ (i : ℕ). 2 ^ i) e in
    let part : w * size a ≤ 2 ^ (n - a) * size a = mul-le-mul hp (le_refl (size a)) in
    let twice : w * 2 * size a ≡ w * size a + w * size a = let d : w * 2 ≡ w + w = omega arith in ap (λ (i : ℕ). i * size a) d ∙ add-mul w w (size a) in
    omega arith)

module _ (j : Job) (once : not_each_once j.n j.m j.order ≡ false) (few : j.n ≤ 12) (out : j.m ≤ 8) (f : List ℕ) (small : (i : ℕ) → get_or f i 0 < 3) where
  abbrev F : List ℕ
  F = reduced j f

  abbrev ls : List (List ℕ)
  ls = layers j F

  -- the columns at height t - k after k merges hold v where the plane zs is marked
  abbrev pub Holds : ℕ → ℕ → List ℕ → Type 0
  Holds k v zs =
      Plane (ins j (t j - k)) (outs j (t j - k)) (width j (merged j f k) (t j - k))
      (λ c q x. eqb (entry j.n (ins j (t j - k)) (merged j f k) (get_or (firsts_at j (merged j f k) (t j - k)) c 0) q x) v) zs

  pub record Stage (k a w at : ℕ) (zs os widths words : List ℕ) : Type 0 where
    pub inputs : a ≡ ins j (t j - k)
    pub columns : w ≡ width j (merged j f k) (t j - k)
    pub few-columns : w ≤ 512
    pub counted : at ≡ sum k (λ i. width_in (layers j (reduced j f)) (t j - i))
    pub zeros : Holds k 0 zs
    pub ones : Holds k 1 os
    pub zeros-length : length zs ≡ 1024
    pub ones-length : length os ≡ 1024
    pub narrow : (i : ℕ) → i < k → too_wide j f i ≡ false
    pub widths-length : length widths ≡ 20
    pub widths_are : (i : ℕ) → i < k → get_or widths (t j - suc i) 0 ≡ width j (reduced j f) (t j - suc i)
    pub words_are : words ≡ sets (replicate 30720 0) 0 (node_words (top_nodes j once few out f k))

  module _ (k a w at : ℕ) (zs os widths words : List ℕ) (s : Stage k a w at zs os widths words) (l : k < t j) where
    abbrev H : ℕ
    H = t j - suc k

    abbrev g : List ℕ
    g = merged j f k

    up : t j - k ≡ suc H
    up = omega arith

    -- no width so far is over 512
    width_fits : (i : ℕ) → i ≤ k → width_in ls (t j - i) ≤ 512
    unfolding too_wide
    width_fits zero h =
        let e : t j - 0 ≡ t j = omega arith in
        omega (arith, width-layer j F (t j - 0) (omega arith), ap (width j F) e, width_top j once few out F)
    width_fits (suc i) h =
        let before = ltb-false 512 (width j (merged j f i) (t j - suc i)) (s.narrow i h) in
        omega (arith, width-layer j F (t j - suc i) (omega arith), width_at j once few out f (suc i) (omega arith), width-merge j once few out f i)

    width_here : width_in ls (t j - k) ≡ w
    width_here = width-layer j F (t j - k) (omega arith) ∙ width_at j once few out f k (omega arith) ∙ sym s.columns

    next-count : at + w ≡ sum (suc k) (λ i. width_in ls (t j - i))
    next-count = omega (arith, s.counted, width_here)

    pub nodes-room : at + w ≤ 10240
    nodes-room =
        omega (arith, next-count, sum-le (λ i. width_in ls (t j - i)) (λ i. 512) (suc k) (λ i h. width_fits i (omega arith)), sum_fixed (suc k) 512)

    width_above : w ≡ width j g (suc H)
    width_above = s.columns ∙ ap (width j g) up

    few_prefixes : w ≤ 2 ^ (j.n - ins j (suc H))
    unfolding width firsts_at
    few_prefixes = omega (arith, width_above, width_few j.n (ins j (suc H)) (outs j (suc H)) g)

    prefixes_below : 2 ^ (j.n - ins j (suc H)) ≤ 2 ^ (j.n - ins j H)
    prefixes_below = pow_mono {i = j.n - ins j (suc H)} {j = j.n - ins j H} (omega (arith, ins_rise j H (suc H) (omega arith)))

    pub planes_room : w * 2 * size (ins j (t j - suc k)) ≤ 1024
    planes_room =
        columns-room j.n (ins j H) w few (ins_below_lem j once few out H (omega arith)) s.few-columns (omega (arith, few_prefixes, prefixes_below))

    -- the planes, at H + 1
    holds_above : (v : ℕ) (xs : List ℕ) → Holds k v xs
        → Plane (ins j (suc H)) (outs j (suc H)) w (λ c q x. eqb (entry j.n (ins j (suc H)) g (get_or (firsts j.n (ins j (suc H)) (outs j (suc H)) g) c 0) q x) v) xs
    unfolding firsts_at
    holds_above v xs p = rw width_above (rw up at p)

    small_now : (i : ℕ) → get_or g i 0 < 3
    small_now = merged_below j f small k

    -- where the nodes below begin, as the code counts
    first-node : first_node j once few out f k l ≡ cond (eqb H 0) 1 (2 + (at + w))
    unfolding first_node
    first-node = ap (λ (x : ℕ). cond (eqb H 0) 1 (2 + x)) (sym next-count)

    abbrev St : Bool → (ℕ → ℕ) → ℕ → Type 0
    St input name count = Step j.n j.m (ins j H) (outs j H) g input w name count zs os

    step_in : is_input (var_at j (suc H)) ≡ true → St true (λ q. get_or (firsts_at j g (suc H)) (q / 2) 0 * 2 + q % 2) (w * 2)
    unfolding width firsts_at
    step_in v =
        let ea : ins j (suc H) ≡ suc (ins j H) = omega (arith, ins_input j H v) in
        let eb : outs j (suc H) ≡ outs j H = outs_input j H v in
        let ha = ins_below_lem j once few out (suc H) (omega arith) in
        let hb = outs_below j once few out H (omega arith) in
        rw (ea, eb)
        (input_step j.n j.m (ins j H) (outs j H) g (omega arith) hb (omega arith) small_now w (rw (ea, eb) at width_above) s.few-columns planes_room zs os
        (rw (ea, eb) at (holds_above 0 zs s.zeros)) (rw (ea, eb) at (holds_above 1 os s.ones)))

    step_out : is_input (var_at j (suc H)) ≡ false → St false (λ q. get_or (firsts_at j g (suc H)) q 0) w
    unfolding width firsts_at
    step_out v =
        let ea : ins j (suc H) ≡ ins j H = ins_output j H v in
        let eb : outs j (suc H) ≡ suc (outs j H) = omega (arith, outs_output j H v) in
        let ha = ins_below_lem j once few out H (omega arith) in
        let hb = outs_below j once few out (suc H) (omega arith) in
        rw (ea, eb)
        (output_step j.n j.m (ins j H) (outs j H) g ha (omega arith) (omega arith) small_now w (rw (ea, eb) at width_above) s.few-columns planes_room zs os
        (rw (ea, eb) at (holds_above 0 zs s.zeros)) (rw (ea, eb) at (holds_above 1 os s.ones)))

    value_out : is_input (var_at j (suc H)) ≡ false → (c : ℕ) → c < w
        → value_in (get_or zs (c * size (ins j H)) 0) (get_or os (c * size (ins j H)) 0) (outs j H) ≡ entry j.n (ins j H) g (get_or (firsts_at j g (suc H)) c 0) (outs j H) 0
    unfolding width firsts_at
    value_out v =
        let ea : ins j (suc H) ≡ ins j H = ins_output j H v in
        let eb : outs j (suc H) ≡ suc (outs j H) = omega (arith, outs_output j H v) in
        let ha = ins_below_lem j once few out H (omega arith) in
        let hb = outs_below j once few out (suc H) (omega arith) in
        rw (ea, eb)
        (output_value j.n j.m (ins j H) (outs j H) g ha (omega arith) (omega arith) small_now w (rw (ea, eb) at width_above) s.few-columns planes_room zs os
        (rw (ea, eb) at (holds_above 0 zs s.zeros)) (rw (ea, eb) at (holds_above 1 os s.ones)))

    pub line-room : is_input (var_at j (suc (t j - suc k))) ≡ false → outs j (t j - suc k) < 8
    line-room v = omega (arith, outs_output j H v, outs_below j once few out (suc H) (omega arith), out)

    -- either kind of step
    pub stepped : (input : Bool) → is_input (var_at j (suc (t j - suc k))) ≡ input
        → (name : ℕ → ℕ) × (count : ℕ) × Step j.n j.m (ins j (t j - suc k)) (outs j (t j - suc k)) (merged j f k) input w name count zs os
    stepped true v = (λ q. get_or (firsts_at j g (suc H)) (q / 2) 0 * 2 + q % 2, w * 2, step_in v)
    stepped false v = (λ q. get_or (firsts_at j g (suc H)) q 0, w, step_out v)

    -- the nodes above are the diagram's
    nodes_in : is_input (var_at j (suc H)) ≡ true
        → nodes_over true (ins j H) (outs j H) (size (ins j H)) w zs os (suc H) (cond (eqb H 0) 1 (2 + (at + w))) ≡ tab (width_in ls (t j - k)) (node_at j F ls H)
    unfolding nodes_over number_at merged merge_at firsts_at
    nodes_in v =
        let below : ℕ → ℕ = number_below true (ins j H) (outs j H) (size (ins j H)) w zs os in
        ap (λ (b : ℕ). tab w (λ c. node (suc H) (b + below (c * 2)) (b + below (c * 2 + 1)))) (sym first-node)
        ∙ ap (λ (u : ℕ). tab u (λ c. node (suc H) (first_node j once few out f k l + below (c * 2)) (first_node j once few out f k l + below (c * 2 + 1)))) (sym width_here)
        ∙ tab_ext (λ c. node (suc H) (first_node j once few out f k l + below (c * 2)) (first_node j once few out f k l + below (c * 2 + 1))) (node_at j F ls H) (width_in ls (t j - k))
        (λ c h.
        input_node_lem j once few out f k l v below (λ q hq. (step_in v).child q (omega (arith, width_above))) c (omega (arith, width_here, width_above)))

    nodes_out : is_input (var_at j (suc H)) ≡ false
        → nodes_over false (ins j H) (outs j H) (size (ins j H)) w zs os (suc H) (cond (eqb H 0) 1 (2 + (at + w))) ≡ tab (width_in ls (t j - k)) (node_at j F ls H)
    unfolding nodes_over number_at merged merge_at firsts_at
    nodes_out v =
        let below : ℕ → ℕ = number_below false (ins j H) (outs j H) (size (ins j H)) w zs os in
        let value : ℕ → ℕ = λ c. value_in (get_or zs (c * size (ins j H)) 0) (get_or os (c * size (ins j H)) 0) (outs j H) in
        ap (λ (b : ℕ). tab w (λ c. node (suc H) (cond (eqb (value c) 1) 0 (b + below c)) (cond (eqb (value c) 0) 0 (b + below c)))) (sym first-node)
        ∙ ap (λ (u : ℕ). tab u (λ c. node (suc H) (cond (eqb (value c) 1) 0 (first_node j once few out f k l + below c)) (cond (eqb (value c) 0) 0 (first_node j once few out f k l + below c)))) (sym width_here)
        ∙ tab_ext (λ c. node (suc H) (cond (eqb (value c) 1) 0 (first_node j once few out f k l + below c)) (cond (eqb (value c) 0) 0 (first_node j once few out f k l + below c))) (node_at j F ls H) (width_in ls (t j - k))
        (λ c h.
        output_node_lem j once few out f k l v below value (λ q hq. (step_out v).child q (omega (arith, width_above)))
        (λ q hq. value_out v q (omega (arith, width_above))) c (omega (arith, width_here, width_above)))

    pub nodes-made : (input : Bool) → is_input (var_at j (suc (t j - suc k))) ≡ input
        → nodes_over input (ins j (t j - suc k)) (outs j (t j - suc k)) (size (ins j (t j - suc k))) w zs os (suc (t j - suc k)) (cond (eqb (t j - suc k) 0) 1 (2 + (at + w)))
        ≡ tab (width_in (layers j (reduced j f)) (t j - k)) (node_at j (reduced j f) (layers j (reduced j f)) (t j - suc k))
    nodes-made true v = nodes_in v
    nodes-made false v = nodes_out v

    -- the answer of the step below an input or an output
    module _ (input : Bool) (v : is_input (var_at j (suc (t j - suc k))) ≡ input) where
      abbrev before : ℕ
      before = length (firsts_below input (ins j H) (outs j H) (size (ins j H)) w zs os)

      abbrev left : ℕ
      left = length (cliques_below input (ins j H) (outs j H) (size (ins j H)) w zs os)

      width_before : width j g H ≡ before
      unfolding width firsts_at
      width_before = (stepped input v).2.width_before

      width-next : width j (merged j f (suc k)) H ≡ left
      unfolding width firsts_at merged merge_at
      width-next = (stepped input v).2.width-after

      pub too_wide_lem : 512 < length (firsts_below input (ins j (t j - suc k)) (outs j (t j - suc k)) (size (ins j (t j - suc k))) w zs os) → too_wide j f k ≡ true
      unfolding too_wide
      too_wide_lem h = lt-ltb 512 (width j g H) (omega (arith, width_before, h))

      module _ (fine : length (firsts_below input (ins j (t j - suc k)) (outs j (t j - suc k)) (size (ins j (t j - suc k))) w zs os) ≤ 512) (r : ℕ)
          (er : r ≡ length (cliques_below input (ins j (t j - suc k)) (outs j (t j - suc k)) (size (ins j (t j - suc k))) w zs os)) (zs' os' words' : List ℕ)
          (ez : zs' ≡ product_below input (ins j (t j - suc k)) (outs j (t j - suc k)) (size (ins j (t j - suc k))) w zs os zs zs)
          (eo : os' ≡ product_below input (ins j (t j - suc k)) (outs j (t j - suc k)) (size (ins j (t j - suc k))) w zs os os os)
          (ew : words'
          ≡ sets words (at * 3)
          (node_words
          (nodes_over input (ins j (t j - suc k)) (outs j (t j - suc k)) (size (ins j (t j - suc k))) w zs os (suc (t j - suc k)) (cond (eqb (t j - suc k) 0) 1 (2 + (at + w)))))) where
        answer : r ≡ width j (merged j f (suc k)) H
        answer = er ∙ sym width-next

        not_wide : too_wide j f k ≡ false
        unfolding too_wide
        not_wide = le-ltb 512 (width j g H) (omega (arith, width_before, fine))

        product-length : (from old : List ℕ) → length (product_below input (ins j H) (outs j H) (size (ins j H)) w zs os from old) ≡ length old
        unfolding product_below
        product-length from old = length-added (size (ins j H)) _ _ _ (puts 1024 (λ i. 0) old) _ ∙ length-puts (λ i. 0) 1024 old

        words-next : words' ≡ sets (replicate 30720 0) 0 (node_words (top_nodes j once few out f (suc k)))
        unfolding top_nodes
        words-next =
            let top = top_nodes j once few out f k in
            let new = tab (width_in ls (t j - k)) (node_at j F ls H) in
            let e : 0 + length (node_words top) ≡ at * 3 = omega (arith, length-node_words top, top_length j once few out f k, s.counted) in
            ew
            ∙ ap₂ (λ (l : List ℕ) (x : List Node). sets l (at * 3) (node_words x)) s.words_are (nodes-made input v)
            ∙ ap (λ (i : ℕ). sets (sets (replicate 30720 0) 0 (node_words top)) i (node_words new)) (sym e)
            ∙ sym (sets-append (node_words top) (node_words new) (replicate 30720 0) 0)
            ∙ ap (λ (x : List ℕ). sets (replicate 30720 0) 0 x) (sym (node_words-append top new))

        widths-next : (i : ℕ) → i < suc k → get_or (set widths H r) (t j - suc i) 0 ≡ width j F (t j - suc i)
        widths-next i hi =
            last_or_below i k hi
            (λ e.
            rw e
            (get_or-set_same widths H r 0 (omega (arith, s.widths-length, few, out)) ∙ answer ∙ sym (width_at j once few out f (suc k) l)))
            (λ b. get_or-set_other widths H (t j - suc i) r 0 (λ z. absurd (omega arith)) ∙ s.widths_are i b)

        pub next : Stage (suc k) (ins j (t j - suc k)) r (at + w) zs' os' (set widths (t j - suc k) r) words'
        unfolding width firsts_at merged merge_at
        next =
            record {
              inputs = refl;
              columns = answer;
              few-columns = omega (arith, fine, er, cliques_fit input (ins j H) (outs j H) (size (ins j H)) w zs os s.few-columns planes_room);
              counted = next-count;
              zeros = rw ez ((stepped input v).2.zeros-after fine zs s.zeros-length);
              ones = rw eo ((stepped input v).2.ones-after fine os s.ones-length);
              zeros-length = ap (λ (x : List ℕ). length x) ez ∙ product-length zs zs ∙ s.zeros-length;
              ones-length = ap (λ (x : List ℕ). length x) eo ∙ product-length os os ∙ s.ones-length;
              narrow = λ i hi. last_or_below i k hi (λ e. rw e not_wide) (s.narrow i);
              widths-length = length-set widths H r ∙ s.widths-length;
              widths_are = widths-next;
              words_are = words-next;
            }
