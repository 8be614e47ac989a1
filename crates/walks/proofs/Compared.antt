-- On the node words of a table the comparison of two nodes says what the definitions say of their columns.
-- Assumes nothing.
use mathlib.Core.Path.{◌≡◌, refl, sym, ◌∙◌, ap, ap₂}
use mathlib.Core.Bool.{Bool, true, false, cond, not, ◌&&◌, and-true, and-false, and_self}
use mathlib.Core.List.{List}
use Prim.Native.Nat.{ℕ, zero, suc, ◌+◌, ◌-◌, ◌*◌, ◌^◌, ◌<◌, ◌≤◌}
use native.Mathlib.Nat.{pow-suc}
use native.Mathlib.Numerals.{add-one}
use native.Mathlib.Omega.{arith}
use lib.Dec.{eqb}
use lib.ListN.{length, get_or}
use lib.Pow.{high}
use borrow.Author.Tests.{le-leb, ne_eqb}
use Rattle.laws.proofs.Cases.{by_test}
use Rattle.laws.proofs.Powers.{place_below}
use Rattle.sheet_spec.specs.Job.{Job, t, is_input, var_at, ins, outs}
use Rattle.sheet_spec.specs.Table.{table}
use Rattle.sheet_spec.specs.Accepted.{Accepted}
use Rattle.sheet_spec.specs.Refusals.{not_each_once, sheet_refusal}
use Rattle.sheet_spec.proofs.Promises.{job-accepted, ins_below, ins_input, ins_output, outs_input, outs_output, ins_below_lem}
use Rattle.reduction_spec.specs.Columns.{entry, same, layers}
use Rattle.reduction_spec.specs.Compatible.{opposite, compatible}
use Rattle.reduction_spec.specs.Diagram.{top_value, nodes, node_of}
use Rattle.reduction_spec.specs.Merge.{reduced, refuse7}
use Rattle.reduction_spec.specs.Walk.{low_of, high_of}
use Rattle.reduction_spec.specs.Compare.{neither_zero, same_nodes, compatible_nodes, same_columns, compatible_columns}
use Rattle.reduction_spec.proofs.MergeKeepsOrderRule.{Ruled}
use Rattle.reduction_spec.proofs.AcceptedSheet.{reduced_below, reduced_ruled, nodes_fit}
use Rattle.reduction_spec.proofs.NodeChildren.{words_of, node_for, node-from, node_positive, input_low, input_high, output_low, output_high, top_value_lem}
use Rattle.walks.proofs.Halves.{same_halves, compatible_halves, same_line_lem, compatible-line}
use Rattle.reduction_spec.proofs.WalkSteps.{joint, same_self, same_left, same_right, same_step, compatible-step}

-- the children of a node at an output whose value in the column is x, where v is the node below
abbrev low_at : ℕ → ℕ → ℕ
low_at x v = cond (eqb x 1) 0 v

abbrev high_at : ℕ → ℕ → ℕ
high_at x v = cond (eqb x 0) 0 v

-- two such nodes: their values and the nodes below decide
module _ (ws : List ℕ) (h v u : ℕ) (hv : 1 ≤ v) (hu : 1 ≤ u) where
  abbrev below : Bool
  below = same_nodes ws h v u

  none : same_nodes ws h 0 0 ≡ true
  none = same_self ws h 0

  left : same_nodes ws h 0 u ≡ false
  left = sym (same_left ws h 0 u (omega arith) (λ e. absurd (omega arith)))

  right : same_nodes ws h v 0 ≡ false
  right = sym (same_right ws h v 0 (omega arith) (λ e. absurd (omega arith)))

  same_output : (x y : ℕ) → x < 3 → y < 3
      → (same_nodes ws h (low_at x v) (low_at y u) && same_nodes ws h (high_at x v) (high_at y u)) ≡ (below && eqb x y)
  same_output zero zero p q = ap (λ (b : Bool). below && b) none
  same_output zero (suc zero) p q = ap (λ (b : Bool). b && same_nodes ws h 0 u) right ∙ sym (and-false below)
  same_output zero (suc (suc zero)) p q = ap (λ (b : Bool). below && b) left
  same_output zero (suc (suc (suc y))) p q = absurd (omega arith)
  same_output (suc zero) zero p q = ap (λ (b : Bool). b && same_nodes ws h v 0) left ∙ sym (and-false below)
  same_output (suc zero) (suc zero) p q = ap (λ (b : Bool). b && below) none ∙ sym (and-true below)
  same_output (suc zero) (suc (suc zero)) p q = ap (λ (b : Bool). b && below) left ∙ sym (and-false below)
  same_output (suc zero) (suc (suc (suc y))) p q = absurd (omega arith)
  same_output (suc (suc zero)) zero p q = ap (λ (b : Bool). below && b) right
  same_output (suc (suc zero)) (suc zero) p q = ap (λ (b : Bool). b && below) right ∙ sym (and-false below)
  same_output (suc (suc zero)) (suc (suc zero)) p q = and_self below ∙ sym (and-true below)
  same_output (suc (suc zero)) (suc (suc (suc y))) p q = absurd (omega arith)
  same_output (suc (suc (suc x))) y p q = absurd (omega arith)

  abbrev agreed : Bool
  agreed = compatible_nodes ws h v u

  v_not : eqb v 0 ≡ false
  v_not = ne_eqb v 0 (λ e. absurd (omega arith))

  u_not : eqb u 0 ≡ false
  u_not = ne_eqb u 0 (λ e. absurd (omega arith))

  is_open : neither_zero v u ≡ true
  is_open = rw (v_not, u_not) refl

  right_shut : neither_zero v 0 ≡ false
  right_shut = rw v_not refl

  compatible_output : (x y : ℕ) → x < 3 → y < 3
      → joint (neither_zero (low_at x v) (low_at y u)) (neither_zero (high_at x v) (high_at y u)) (compatible_nodes ws h (low_at x v) (low_at y u))
      (compatible_nodes ws h (high_at x v) (high_at y u))
      ≡ (agreed && not (opposite x y))
  compatible_output zero zero p q = ap (λ (b : Bool). joint b false agreed (compatible_nodes ws h 0 0)) is_open
  compatible_output zero (suc zero) p q =
      ap (λ (b : Bool). joint b false (compatible_nodes ws h v 0) (compatible_nodes ws h 0 u)) right_shut ∙ sym (and-false agreed)
  compatible_output zero (suc (suc zero)) p q = ap (λ (b : Bool). joint b false agreed (compatible_nodes ws h 0 u)) is_open
  compatible_output zero (suc (suc (suc y))) p q = absurd (omega arith)
  compatible_output (suc zero) zero p q =
      ap (λ (b : Bool). joint false b (compatible_nodes ws h 0 u) (compatible_nodes ws h v 0)) right_shut ∙ sym (and-false agreed)
  compatible_output (suc zero) (suc zero) p q = ap (λ (b : Bool). joint false b (compatible_nodes ws h 0 0) agreed) is_open ∙ sym (and-true agreed)
  compatible_output (suc zero) (suc (suc zero)) p q =
      ap (λ (b : Bool). joint false b (compatible_nodes ws h 0 u) agreed) is_open ∙ sym (and-true agreed)
  compatible_output (suc zero) (suc (suc (suc y))) p q = absurd (omega arith)
  compatible_output (suc (suc zero)) zero p q = ap₂ (λ (a b : Bool). joint a b agreed (compatible_nodes ws h v 0)) is_open right_shut
  compatible_output (suc (suc zero)) (suc zero) p q =
      ap₂ (λ (a b : Bool). joint a b (compatible_nodes ws h v 0) agreed) right_shut is_open ∙ sym (and-true agreed)
  compatible_output (suc (suc zero)) (suc (suc zero)) p q =
      ap₂ (λ (a b : Bool). joint a b agreed agreed) is_open is_open ∙ and_self agreed ∙ sym (and-true agreed)
  compatible_output (suc (suc zero)) (suc (suc (suc y))) p q = absurd (omega arith)
  compatible_output (suc (suc (suc x))) y p q = absurd (omega arith)

-- what the children lv and lu for 0 and hv and hu for 1 of two nodes at height h + 1 say
abbrev said : List ℕ → ℕ → ℕ → ℕ → ℕ → ℕ → Bool
said ws h lv lu hv hu = joint (neither_zero lv lu) (neither_zero hv hu) (compatible_nodes ws h lv lu) (compatible_nodes ws h hv hu)

said_equal : (ws : List ℕ) (h lv lu hv hu lv' lu' hv' hu' : ℕ) → lv ≡ lv' → lu ≡ lu' → hv ≡ hv' → hu ≡ hu'
    → said ws h lv lu hv hu ≡ said ws h lv' lu' hv' hu'
said_equal ws h lv lu hv hu lv' lu' hv' hu' a b c d = rw (a, b, c, d) refl

-- of nodes that are not constant 0
said_open : (ws : List ℕ) (h lv lu hv hu : ℕ) → 1 ≤ lv → 1 ≤ lu → 1 ≤ hv → 1 ≤ hu
    → said ws h lv lu hv hu ≡ (compatible_nodes ws h lv lu && compatible_nodes ws h hv hu)
said_open ws h lv lu hv hu a b c d =
    ap₂ (λ (x y : Bool). joint x y (compatible_nodes ws h lv lu) (compatible_nodes ws h hv hu)) (is_open ws h lv lu a b) (is_open ws h hv hu c d)

-- one more input, one more output
module _ (j : Job) (h : ℕ) where
  ins-next : is_input (var_at j (suc h)) ≡ true → ins j (suc h) ≡ suc (ins j h)
  ins-next e = ins_input j h e ∙ add-one (ins j h)

  outs-next : is_input (var_at j (suc h)) ≡ false → outs j (suc h) ≡ suc (outs j h)
  outs-next e = outs_output j h e ∙ add-one (outs j h)

-- a prefix below an input
pub prefix_low : (n a p : ℕ) → suc a ≤ n → p < 2 ^ (n - suc a) → p * 2 + 1 < 2 ^ (n - a)
prefix_low n a p l h =
    let e : n - a ≡ suc (n - suc a) = omega arith in
    omega (arith, ap (λ (i : ℕ). 2 ^ i) e, pow-suc 2 (n - suc a))

-- a table with the values 0, 1 and d, whose lines do not depend on the inputs below their outputs
module _ (j : Job) (f : List ℕ) (once : not_each_once j.n j.m j.order ≡ false) (few : j.n ≤ 12) (out : j.m ≤ 8)
    (small : (i : ℕ) → get_or f i 0 < 3) (ruled : Ruled j.n j.m (ins_below (t j) j.order) f)
    (fits : length (nodes j f (layers j f)) ≤ 10240) where
  -- the node words
  abbrev ws : List ℕ
  ws = words_of j f

  -- the line of the output at height h + 1 holds one value in a column
  flat : (h p x : ℕ) → h < t j → is_input (var_at j (suc h)) ≡ false → p < 2 ^ (j.n - ins j h) → x < 2 ^ ins j h
      → entry j.n (ins j h) f p (outs j h) x ≡ top_value j f h p
  flat h p x l e hp hx =
      let a = ins j h in
      let ha = ins_below_lem j once few out h (omega arith) in
      sym (top_value_lem j once few out f ruled h l e (p * 2 ^ a + x) (place_below j.n a p x ha hp hx)) ∙ ap (top_value j f h) (high p a hx)

  module _ (h p q : ℕ) (l : h < t j) (hp : p < 2 ^ (j.n - ins j (suc h))) (hq : q < 2 ^ (j.n - ins j (suc h))) where
    -- the nodes of the two columns, and the nodes below where the variable is an output
    abbrev v : ℕ
    v = node_for j f (suc h) p

    abbrev u : ℕ
    u = node_for j f (suc h) q

    abbrev v' : ℕ
    v' = node_for j f h p

    abbrev u' : ℕ
    u' = node_for j f h q

    abbrev value : ℕ
    value = top_value j f h p

    abbrev value' : ℕ
    value' = top_value j f h q

    -- the nodes of p and q at height h say the same as their columns, and so of the other prefixes below p and q
    abbrev SameAt : ℕ → ℕ → Type 0
    SameAt = λ p q. same_nodes ws h (node_for j f h p) (node_for j f h q) ≡ same j.n (ins j h) (outs j h) f p q

    abbrev CompatibleAt : ℕ → ℕ → Type 0
    CompatibleAt = λ p q. compatible_nodes ws h (node_for j f h p) (node_for j f h q) ≡ compatible j.n (ins j h) (outs j h) f p q

    same_at_input : is_input (var_at j (suc h)) ≡ true → SameAt (p * 2) (q * 2) → SameAt (p * 2 + 1) (q * 2 + 1)
        → same_nodes ws (suc h) v u ≡ same j.n (ins j (suc h)) (outs j (suc h)) f p q
    same_at_input e low high =
        same_step ws h v u (node-from j f (suc h) p (omega arith)) (node-from j f (suc h) q (omega arith))
        ∙ ap₂ ◌&&◌ (ap₂ (same_nodes ws h) (input_low j once few out f h l p hp fits e) (input_low j once few out f h l q hq fits e) ∙ low)
        (ap₂ (same_nodes ws h) (input_high j once few out f h l p hp fits e) (input_high j once few out f h l q hq fits e) ∙ high)
        ∙ sym (same_halves j.n (ins j h) (outs j h) f p q)
        ∙ ap₂ (λ (a b : ℕ). same j.n a b f p q) (sym (ins-next j h e)) (sym (outs_input j h e))

    compatible_at_input : is_input (var_at j (suc h)) ≡ true → CompatibleAt (p * 2) (q * 2) → CompatibleAt (p * 2 + 1) (q * 2 + 1)
        → compatible_nodes ws (suc h) v u ≡ compatible j.n (ins j (suc h)) (outs j (suc h)) f p q
    compatible_at_input e low high =
        compatible-step ws h v u (node-from j f (suc h) p (omega arith)) (node-from j f (suc h) q (omega arith))
        ∙ said_equal ws h (low_of ws v) (low_of ws u) (high_of ws v) (high_of ws u) (node_for j f h (p * 2)) (node_for j f h (q * 2))
        (node_for j f h (p * 2 + 1)) (node_for j f h (q * 2 + 1)) (input_low j once few out f h l p hp fits e)
        (input_low j once few out f h l q hq fits e) (input_high j once few out f h l p hp fits e) (input_high j once few out f h l q hq fits e)
        ∙ said_open ws h (node_for j f h (p * 2)) (node_for j f h (q * 2)) (node_for j f h (p * 2 + 1)) (node_for j f h (q * 2 + 1))
        (node_positive j f h (p * 2)) (node_positive j f h (q * 2)) (node_positive j f h (p * 2 + 1)) (node_positive j f h (q * 2 + 1))
        ∙ ap₂ ◌&&◌ low high ∙ sym (compatible_halves j.n (ins j h) (outs j h) f p q)
        ∙ ap₂ (λ (a b : ℕ). compatible j.n a b f p q) (sym (ins-next j h e)) (sym (outs_input j h e))

    both_flat : is_input (var_at j (suc h)) ≡ false
        → ((x : ℕ) → x < 2 ^ ins j h → entry j.n (ins j h) f p (outs j h) x ≡ entry j.n (ins j h) f p (outs j h) 0)
        × ((x : ℕ) → x < 2 ^ ins j h → entry j.n (ins j h) f q (outs j h) x ≡ entry j.n (ins j h) f q (outs j h) 0)
    unfolding top_value
    both_flat e =
        let a : 2 ^ (j.n - ins j (suc h)) ≡ 2 ^ (j.n - ins j h) = ap (λ (i : ℕ). 2 ^ (j.n - i)) (ins_output j h e) in
        (λ x. flat h p x l e (omega arith), λ x. flat h q x l e (omega arith))

    same_at_output : is_input (var_at j (suc h)) ≡ false → SameAt p q → same_nodes ws (suc h) v u ≡ same j.n (ins j (suc h)) (outs j (suc h)) f p q
    unfolding top_value
    same_at_output e below =
        same_step ws h v u (node-from j f (suc h) p (omega arith)) (node-from j f (suc h) q (omega arith))
        ∙ ap₂ ◌&&◌ (ap₂ (same_nodes ws h) (output_low j once few out f h l p hp fits e) (output_low j once few out f h l q hq fits e))
        (ap₂ (same_nodes ws h) (output_high j once few out f h l p hp fits e) (output_high j once few out f h l q hq fits e))
        ∙ same_output ws h v' u' (node_positive j f h p) (node_positive j f h q) value value' (small _) (small _)
        ∙ ap (λ (b : Bool). b && eqb value value') below
        ∙ sym (same_line_lem j.n (ins j h) (outs j h) f p q (both_flat e).0 (both_flat e).1)
        ∙ ap₂ (λ (a b : ℕ). same j.n a b f p q) (sym (ins_output j h e)) (sym (outs-next j h e))

    compatible_at_output : is_input (var_at j (suc h)) ≡ false → CompatibleAt p q
        → compatible_nodes ws (suc h) v u ≡ compatible j.n (ins j (suc h)) (outs j (suc h)) f p q
    unfolding top_value
    compatible_at_output e below =
        compatible-step ws h v u (node-from j f (suc h) p (omega arith)) (node-from j f (suc h) q (omega arith))
        ∙ said_equal ws h (low_of ws v) (low_of ws u) (high_of ws v) (high_of ws u) (low_at value v') (low_at value' u') (high_at value v')
        (high_at value' u') (output_low j once few out f h l p hp fits e) (output_low j once few out f h l q hq fits e)
        (output_high j once few out f h l p hp fits e) (output_high j once few out f h l q hq fits e)
        ∙ compatible_output ws h v' u' (node_positive j f h p) (node_positive j f h q) value value' (small _) (small _)
        ∙ ap (λ (b : Bool). b && not (opposite value value')) below
        ∙ sym (compatible-line j.n (ins j h) (outs j h) f p q (both_flat e).0 (both_flat e).1)
        ∙ ap₂ (λ (a b : ℕ). compatible j.n a b f p q) (sym (ins_output j h e)) (sym (outs-next j h e))

  same-bottom : (p q : ℕ) → same_nodes ws 0 (node_for j f 0 p) (node_for j f 0 q) ≡ same j.n (ins j 0) (outs j 0) f p q
  unfolding same_nodes node_of same outs
  same-bottom p q = refl

  compatible-bottom : (p q : ℕ) → compatible_nodes ws 0 (node_for j f 0 p) (node_for j f 0 q) ≡ compatible j.n (ins j 0) (outs j 0) f p q
  unfolding compatible_nodes node_of compatible outs
  compatible-bottom p q = refl

  -- the prefixes below p, at an input and at an output
  module _ (h p : ℕ) (l : h < t j) (hp : p < 2 ^ (j.n - ins j (suc h))) where
    prefix_high : is_input (var_at j (suc h)) ≡ true → p * 2 + 1 < 2 ^ (j.n - ins j h)
    prefix_high e =
        let s = ins-next j h e in
        let same_power : 2 ^ (j.n - ins j (suc h)) ≡ 2 ^ (j.n - suc (ins j h)) = ap (λ (i : ℕ). 2 ^ (j.n - i)) s in
        prefix_low j.n (ins j h) p (omega (arith, s, ins_below_lem j once few out (suc h) l)) (omega arith)

    prefix_same : is_input (var_at j (suc h)) ≡ false → p < 2 ^ (j.n - ins j h)
    prefix_same e =
        let same_power : 2 ^ (j.n - ins j (suc h)) ≡ 2 ^ (j.n - ins j h) = ap (λ (i : ℕ). 2 ^ (j.n - i)) (ins_output j h e) in
        omega arith

  pub nodes-same : (h p q : ℕ) → h ≤ t j → p < 2 ^ (j.n - ins j h) → q < 2 ^ (j.n - ins j h)
      → same_nodes (words_of j f) h (node_for j f h p) (node_for j f h q) ≡ same j.n (ins j h) (outs j h) f p q
  nodes-same zero p q l hp hq = same-bottom p q
  nodes-same (suc h) p q l hp hq =
      by_test (is_input (var_at j (suc h)))
      (λ e.
      let p< = prefix_high h p l hp e in
      let q< = prefix_high h q l hq e in
      same_at_input h p q l hp hq e (nodes-same h (p * 2) (q * 2) (omega arith) (omega arith) (omega arith))
      (nodes-same h (p * 2 + 1) (q * 2 + 1) (omega arith) p< q<))
      (λ e. same_at_output h p q l hp hq e (nodes-same h p q (omega arith) (prefix_same h p l hp e) (prefix_same h q l hq e)))

  pub nodes-compatible : (h p q : ℕ) → h ≤ t j → p < 2 ^ (j.n - ins j h) → q < 2 ^ (j.n - ins j h)
      → compatible_nodes (words_of j f) h (node_for j f h p) (node_for j f h q) ≡ compatible j.n (ins j h) (outs j h) f p q
  nodes-compatible zero p q l hp hq = compatible-bottom p q
  nodes-compatible (suc h) p q l hp hq =
      by_test (is_input (var_at j (suc h)))
      (λ e.
      let p< = prefix_high h p l hp e in
      let q< = prefix_high h q l hq e in
      compatible_at_input h p q l hp hq e (nodes-compatible h (p * 2) (q * 2) (omega arith) (omega arith) (omega arith))
      (nodes-compatible h (p * 2 + 1) (q * 2 + 1) (omega arith) p< q<))
      (λ e. compatible_at_output h p q l hp hq e (nodes-compatible h p q (omega arith) (prefix_same h p l hp e) (prefix_same h q l hq e)))

  -- a diagram has at most 20 heights
  pub columns-same : (h p q : ℕ) → h ≤ t j → p < 2 ^ (j.n - ins j h) → q < 2 ^ (j.n - ins j h)
      → same_columns (words_of j f) h (node_for j f h p) (node_for j f h q) ≡ same j.n (ins j h) (outs j h) f p q
  unfolding same_columns
  columns-same h p q l hp hq =
      ap (λ (b : Bool). b && same_nodes (words_of j f) h (node_for j f h p) (node_for j f h q)) (le-leb h 20 (omega arith)) ∙ nodes-same h p q l hp hq

  pub columns-compatible : (h p q : ℕ) → h ≤ t j → p < 2 ^ (j.n - ins j h) → q < 2 ^ (j.n - ins j h)
      → compatible_columns (words_of j f) h (node_for j f h p) (node_for j f h q) ≡ compatible j.n (ins j h) (outs j h) f p q
  unfolding compatible_columns
  columns-compatible h p q l hp hq =
      ap (λ (b : Bool). b && compatible_nodes (words_of j f) h (node_for j f h p) (node_for j f h q)) (le-leb h 20 (omega arith))
      ∙ nodes-compatible h p q l hp hq

-- the diagram of an accepted job that is not refused
module _ (j : Job) (s : List ℕ) (e : sheet_refusal j s ≡ 0) (narrow : refuse7 j (table j s) ≡ false) (h p q : ℕ) (l : h ≤ t j)
    (hp : p < 2 ^ (j.n - ins j h)) (hq : q < 2 ^ (j.n - ins j h)) where
  abbrev final : List ℕ
  final = reduced j (table j s)

  accepted : Accepted j.n j.m j.order s
  accepted = job-accepted j s e

  pub final_same : same_columns (words_of j (reduced j (table j s))) h (node_for j (reduced j (table j s)) h p) (node_for j (reduced j (table j s)) h q)
      ≡ same j.n (ins j h) (outs j h) (reduced j (table j s)) p q
  final_same =
      columns-same j final accepted.order-whole accepted.inputs accepted.outputs (reduced_below j s e) (reduced_ruled j s e)
      (nodes_fit j s e narrow) h p q l hp hq

  pub final_compatible : compatible_columns (words_of j (reduced j (table j s))) h (node_for j (reduced j (table j s)) h p)
      (node_for j (reduced j (table j s)) h q)
      ≡ compatible j.n (ins j h) (outs j h) (reduced j (table j s)) p q
  final_compatible =
      columns-compatible j final accepted.order-whole accepted.inputs accepted.outputs (reduced_below j s e) (reduced_ruled j s e)
      (nodes_fit j s e narrow) h p q l hp hq
