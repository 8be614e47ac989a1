-- The nodes of a diagram: the children of the node of a prefix, and that prefixes have the same node where they have the same column. The
-- words of a table of at most 10,240 nodes say the same.
-- Assumes nothing.
use mathlib.Core.Path.{◌≡◌, refl, sym, ◌∙◌, ap, ap₂}
use mathlib.Core.Bool.{Bool, true, false, cond, not}
use mathlib.Core.List.{List, [], ◌∷◌}
use Prim.Native.Nat.{ℕ, zero, suc, ◌+◌, ◌-◌, ◌*◌, ◌/◌, ◌^◌, ◌<◌, ◌≤◌}
use native.Mathlib.Nat.{add-zero, zero-add}
use native.Mathlib.Omega.{arith}
use borrow.Author.Tests.{lt-ltb, le-ltb, ne_eqb}
use lib.Dec.{eqb, ltb}
use lib.ListN.{length, get_or, length-append, get_or-eq_default}
use lib.Pow.{pow_pos}
use Rattle.laws.specs.Tests.{sum}
use Rattle.laws.specs.Lists.{tab}
use Rattle.laws.proofs.Cases.{by_less, cond_yes, cond_no, cond_both}
use Rattle.laws.proofs.Lists.{length-tab, get_or-tab}
use Rattle.sheet_spec.specs.Job.{Job, t, ins, outs, var_at, is_input}
use Rattle.sheet_spec.specs.Refusals.{not_each_once}
use Rattle.sheet_spec.proofs.Promises.{ins_below, ins_below_at, ins_input, ins_output, outs_input, outs_output, ins_below_lem, outs_below, output_number}
use Rattle.reduction_spec.specs.Columns.{entry, same, firsts, number_in, firsts_at, number_at, width, layers, layer, width_in}
use Rattle.reduction_spec.specs.Diagram.{Node, node, nodes_above, node_of, input_node, output_node, top_value, node_at, nodes_to, nodes, node_words}
use Rattle.reduction_spec.specs.Walk.{low_in, high_in, low_of, high_of}
use Rattle.reduction_spec.proofs.ColumnNumbers.{same-entry, entry-same, number_below_lem, number_same, number_in_equal, equal_number}
use Rattle.reduction_spec.proofs.MergeKeeps.{same_deeper}
use Rattle.reduction_spec.proofs.MergeKeepsOrderRule.{Ruled}
use Rattle.reduction_spec.proofs.AllMerges.{width_top}
use Rattle.reduction_spec.proofs.AcceptedSheet.{width-layer}
use Rattle.reduction_spec.proofs.NodePlaces.{nodes_at}

-- three words a node; past the end both are 0
abbrev none : Node
none = node 0 0 0

pub words_height : (xs : List Node) (i : ℕ) → get_or (node_words xs) (i * 3) 0 ≡ (get_or xs i (node 0 0 0)).height
words_height [] i = refl
words_height (x ∷ xs) zero = refl
words_height (x ∷ xs) (suc i) =
    let e : suc i * 3 ≡ suc (suc (suc (i * 3))) = omega arith in
    ap (λ (k : ℕ). get_or (node_words (x ∷ xs)) k 0) e ∙ words_height xs i

pub words-low : (xs : List Node) (i : ℕ) → get_or (node_words xs) (i * 3 + 1) 0 ≡ (get_or xs i (node 0 0 0)).low
words-low [] i = refl
words-low (x ∷ xs) zero = refl
words-low (x ∷ xs) (suc i) =
    let e : suc i * 3 + 1 ≡ suc (suc (suc (i * 3 + 1))) = omega arith in
    ap (λ (k : ℕ). get_or (node_words (x ∷ xs)) k 0) e ∙ words-low xs i

pub words-high : (xs : List Node) (i : ℕ) → get_or (node_words xs) (i * 3 + 2) 0 ≡ (get_or xs i (node 0 0 0)).high
words-high [] i = refl
words-high (x ∷ xs) zero = refl
words-high (x ∷ xs) (suc i) =
    let e : suc i * 3 + 2 ≡ suc (suc (suc (i * 3 + 2))) = omega arith in
    ap (λ (k : ℕ). get_or (node_words (x ∷ xs)) k 0) e ∙ words-high xs i

-- how many nodes there are
module _ (j : Job) (f : List ℕ) (ls : List (List ℕ)) where
  height_length : (h : ℕ) → length (nodes_to j f ls (suc h)) ≡ width_in ls (suc h) + length (nodes_to j f ls h)
  unfolding nodes_to
  height_length h =
      length-append (tab (width_in ls (suc h)) (node_at j f ls h)) (nodes_to j f ls h)
      ∙ ap (λ (k : ℕ). k + length (nodes_to j f ls h)) (length-tab (node_at j f ls h) (width_in ls (suc h)))

  heights_length : (i : ℕ) → i ≤ t j → sum i (λ k. width_in ls (t j - k)) + length (nodes_to j f ls (t j - i)) ≡ length (nodes_to j f ls (t j))
  heights_length zero l = let e : t j - 0 ≡ t j = omega arith in ap (λ (k : ℕ). 0 + length (nodes_to j f ls k)) e ∙ zero-add _
  heights_length (suc i) l =
      let up : t j - i ≡ suc (t j - suc i) = omega arith in
      let low : length (nodes_to j f ls (t j - i)) ≡ width_in ls (t j - i) + length (nodes_to j f ls (t j - suc i)) =
      ap (λ (k : ℕ). length (nodes_to j f ls k)) up ∙ height_length (t j - suc i)
      ∙ ap (λ (k : ℕ). width_in ls k + length (nodes_to j f ls (t j - suc i))) (sym up) in
      omega (arith, heights_length i (omega arith))

  pub nodes-length : length (nodes j f ls) ≡ nodes_above j ls 0
  unfolding nodes nodes_above nodes_to
  nodes-length =
      let top : t j - t j ≡ 0 = omega arith in
      let low : length (nodes_to j f ls (t j - t j)) ≡ 0 = ap (λ (k : ℕ). length (nodes_to j f ls k)) top in
      let all : t j - 0 ≡ t j = omega arith in
      let same : sum (t j - 0) (λ k. width_in ls (t j - k)) ≡ sum (t j) (λ k. width_in ls (t j - k)) =
      ap (λ (i : ℕ). sum i (λ k. width_in ls (t j - k))) all in
      omega (arith, heights_length (t j) (omega arith))

  -- those at height h + 1 end inside the table
  pub nodes-room : (h : ℕ) → h < t j → nodes_above j ls (suc h) + width_in ls (suc h) ≤ length (nodes j f ls)
  unfolding nodes nodes_above
  nodes-room h l =
      let up : t j - (t j - suc h) ≡ suc h = omega arith in
      let low : length (nodes_to j f ls (t j - (t j - suc h))) ≡ width_in ls (suc h) + length (nodes_to j f ls h) =
      ap (λ (k : ℕ). length (nodes_to j f ls k)) up ∙ height_length h in
      omega (arith, heights_length (t j - suc h) (omega arith))

-- the words of at most 10,240 nodes say the children that the records hold
module _ (xs : List Node) (fits : length xs ≤ 10240) (v : ℕ) where
  past : 10242 ≤ v → get_or xs (v - 2) none ≡ none
  past h = get_or-eq_default xs none (omega arith)

  pub low_word : low_of (node_words xs) v ≡ low_in xs v
  low_word =
      by_less v 10242 (λ h. cond_yes (ltb v 10242) _ 0 (lt-ltb v 10242 h) ∙ words-low xs (v - 2))
      (λ h. cond_no (ltb v 10242) _ 0 (le-ltb v 10242 h) ∙ ap (λ (x : Node). x.low) (sym (past h)))

  pub high_word : high_of (node_words xs) v ≡ high_in xs v
  high_word =
      by_less v 10242 (λ h. cond_yes (ltb v 10242) _ 0 (lt-ltb v 10242 h) ∙ words-high xs (v - 2))
      (λ h. cond_no (ltb v 10242) _ 0 (le-ltb v 10242 h) ∙ ap (λ (x : Node). x.high) (sym (past h)))

-- the record and the height of the node of column c at height h + 1
module _ (j : Job) (f : List ℕ) (ls : List (List ℕ)) (h c : ℕ) (l : h < t j) (k : c < width_in ls (suc h)) where
  abbrev place : ℕ
  place = 2 + nodes_above j ls (suc h) + c

  node_record : get_or (nodes j f ls) (place - 2) none ≡ node_at j f ls h c
  node_record =
      let e : place - 2 ≡ nodes_above j ls (suc h) + c = omega arith in
      ap (λ (i : ℕ). get_or (nodes j f ls) i none) e ∙ nodes_at j f ls none h c l k

  pub node_height : get_or (node_words (nodes j f ls)) ((2 + nodes_above j ls (suc h) + c - 2) * 3) 0 ≡ suc h
  unfolding node_at input_node output_node
  node_height =
      words_height (nodes j f ls) (place - 2) ∙ ap (λ (x : Node). x.height) node_record
      ∙ cond_both (λ (x : Node). x.height ≡ suc h) (is_input (var_at j (suc h))) refl refl

-- the words of the diagram of f; the node of the column of prefix p at height h; whether prefixes have the same column there
abbrev pub words_of : Job → List ℕ → List ℕ
words_of j f = node_words (nodes j f (layers j f))

abbrev pub node_for : Job → List ℕ → ℕ → ℕ → ℕ
node_for j f h p = node_of j f (layers j f) h p

abbrev pub same_at : Job → List ℕ → ℕ → ℕ → ℕ → Bool
same_at j f h p q = same j.n (ins j h) (outs j h) f p q

-- the number of the column of prefix p in its layer
abbrev pub number_for : Job → List ℕ → ℕ → ℕ → ℕ
number_for j f h p = number_at j f (layer (layers j f) h) h p

module _ (j : Job) (f : List ℕ) where
  -- the layers hold the smallest prefixes
  pub layer_at : (h : ℕ) → h ≤ t j → layer (layers j f) h ≡ firsts j.n (ins j h) (outs j h) f
  unfolding layers firsts_at
  layer_at h l = get_or-tab (firsts_at j f) [] (suc (t j)) h (omega arith)

  pub number_is : (h p : ℕ) → h ≤ t j
      → number_for j f h p ≡ number_in j.n (ins j h) (outs j h) f (firsts j.n (ins j h) (outs j h) f) p
  unfolding number_at
  number_is h p l = ap (λ (ps : List ℕ). number_in j.n (ins j h) (outs j h) f ps p) (layer_at h l)

  -- the node of a prefix
  pub node_of_lem : (h p : ℕ) → node_for j f (suc h) p ≡ 2 + nodes_above j (layers j f) (suc h) + number_for j f (suc h) p
  unfolding node_of
  node_of_lem h p = cond_no (eqb (suc h) 0) 1 _ (ne_eqb (suc h) 0 (λ e. absurd (omega arith)))

  pub node-bottom : (p : ℕ) → node_for j f 0 p ≡ 1
  unfolding node_of
  node-bottom p = refl

  pub node-from : (h p : ℕ) → 1 ≤ h → 2 ≤ node_for j f h p
  node-from zero p l = absurd (omega arith)
  node-from (suc h) p l = omega (arith, node_of_lem h p)

  pub node_positive : (h p : ℕ) → 1 ≤ node_for j f h p
  node_positive zero p = omega (arith, node-bottom p)
  node_positive (suc h) p = omega (arith, node_of_lem h p)

  -- the same column, the same node
  pub node_equal : (h p q : ℕ) → same_at j f h p q ≡ true → node_for j f h p ≡ node_for j f h q
  unfolding node_of number_at
  node_equal h p q e =
      ap (λ (i : ℕ). cond (eqb h 0) 1 (2 + nodes_above j (layers j f) h + i))
      (number_in_equal j.n (ins j h) (outs j h) f (layer (layers j f) h) p q e)

  pub equal_node : (h p q : ℕ) → 1 ≤ h → h ≤ t j → p < 2 ^ (j.n - ins j h) → q < 2 ^ (j.n - ins j h) → node_for j f h p ≡ node_for j f h q
      → same_at j f h p q ≡ true
  equal_node zero p q k l hp hq e = absurd (omega arith)
  equal_node (suc h) p q k l hp hq e =
      let number : number_for j f (suc h) p ≡ number_for j f (suc h) q = omega (arith, node_of_lem h p, node_of_lem h q) in
      equal_number j.n (ins j (suc h)) (outs j (suc h)) f p q hp hq (sym (number_is (suc h) p l) ∙ number ∙ number_is (suc h) q l)

-- the children of the node of a prefix, in an order in which each variable stands once
module _ (j : Job) (once : not_each_once j.n j.m j.order ≡ false) (few : j.n ≤ 12) (out : j.m ≤ 8) where
  -- the line of the output at height h + 1
  module _ (f : List ℕ) (h : ℕ) (l : h < t j) where
    -- the same column at height h + 1: the same columns at height h, and the same value of the topmost output
    same_input : (p q y : ℕ) → y < 2 → is_input (var_at j (suc h)) ≡ true → same_at j f (suc h) p q ≡ true → same_at j f h (p * 2 + y) (q * 2 + y) ≡ true
    same_input p q y hy i e =
        let a = ins j (suc h) in
        let one : 2 ^ (a - ins j h) ≡ 2 = let z : a - ins j h ≡ 1 = omega (arith, ins_input j h i) in ap (λ (k : ℕ). 2 ^ k) z in
        rw one at
        (same_deeper j.n j.m a (outs j (suc h)) (ins j h) (outs j h) f (omega (arith, ins_input j h i)) (ins_below_lem j once few out (suc h) l)
        (omega (arith, outs_input j h i)) (outs_below j once few out (suc h) l) p q y (omega (arith, one)) e)

    same_line_lem : (p q k x : ℕ) → is_input (var_at j (suc h)) ≡ false → same_at j f (suc h) p q ≡ true → k < outs j (suc h) → x < 2 ^ ins j h
        → entry j.n (ins j h) f p k x ≡ entry j.n (ins j h) f q k x
    same_line_lem p q k x i e hk hx =
        rw (ins_output j h i) at
        (same-entry j.n (ins j (suc h)) (outs j (suc h)) f p q e k x hk (rw (ins_output j h i) hx))

    same_output : (p q : ℕ) → is_input (var_at j (suc h)) ≡ false → same_at j f (suc h) p q ≡ true → same_at j f h p q ≡ true
    same_output p q i e =
        entry-same j.n (ins j h) (outs j h) f p q (λ k x hk hx. same_line_lem p q k x i e (omega (arith, outs_output j h i)) hx)

    same_top : (p q : ℕ) → is_input (var_at j (suc h)) ≡ false → same_at j f (suc h) p q ≡ true → top_value j f h p ≡ top_value j f h q
    unfolding top_value
    same_top p q i e = same_line_lem p q (outs j h) 0 i e (omega (arith, outs_output j h i)) (pow_pos (ins j h))

    -- the smallest prefix of prefix p's column
    abbrev least_of : ℕ → ℕ
    least_of p = get_or (layer (layers j f) (suc h)) (number_for j f (suc h) p) 0

    module _ (p : ℕ) (hp : p < 2 ^ (j.n - ins j (suc h))) where
      least-same : same_at j f (suc h) p (least_of p) ≡ true
      unfolding number_at
      least-same = rw (layer_at j f (suc h) l) (number_same j.n (ins j (suc h)) (outs j (suc h)) f p hp)

      pub number_fits : number_for j f (suc h) p < width_in (layers j f) (suc h)
      unfolding number_at
      number_fits = rw (layer_at j f (suc h) l) (number_below_lem j.n (ins j (suc h)) (outs j (suc h)) f p hp)

      -- the node is in the table, at its height
      pub node_below : node_for j f (suc h) p < 2 + length (nodes j f (layers j f))
      node_below = omega (arith, node_of_lem j f h p, number_fits, nodes-room j f (layers j f) h l)

      pub node_level : get_or (words_of j f) ((node_for j f (suc h) p - 2) * 3) 0 ≡ suc h
      node_level =
          ap (λ (v : ℕ). get_or (words_of j f) ((v - 2) * 3) 0) (node_of_lem j f h p)
          ∙ node_height j f (layers j f) h (number_for j f (suc h) p) l number_fits

      -- its record
      record_at_lem : get_or (nodes j f (layers j f)) (node_for j f (suc h) p - 2) none ≡ node_at j f (layers j f) h (number_for j f (suc h) p)
      record_at_lem =
          ap (λ (v : ℕ). get_or (nodes j f (layers j f)) (v - 2) none) (node_of_lem j f h p)
          ∙ node_record j f (layers j f) h (number_for j f (suc h) p) l number_fits

      -- at an input
      module _ (i : is_input (var_at j (suc h)) ≡ true) where
        input_at_lem : node_at j f (layers j f) h (number_for j f (suc h) p) ≡ input_node j f (layers j f) h (least_of p)
        unfolding node_at
        input_at_lem = cond_yes (is_input (var_at j (suc h))) _ _ i

        pub input_low_in : low_in (nodes j f (layers j f)) (node_for j f (suc h) p) ≡ node_for j f h (p * 2)
        unfolding input_node
        input_low_in =
            ap (λ (x : Node). x.low) (record_at_lem ∙ input_at_lem)
            ∙ sym (node_equal j f h (p * 2) (least_of p * 2) (simp add-zero at (same_input p (least_of p) 0 (omega arith) i least-same)))

        pub input_high_in : high_in (nodes j f (layers j f)) (node_for j f (suc h) p) ≡ node_for j f h (p * 2 + 1)
        unfolding input_node
        input_high_in =
            ap (λ (x : Node). x.high) (record_at_lem ∙ input_at_lem)
            ∙ sym (node_equal j f h (p * 2 + 1) (least_of p * 2 + 1) (same_input p (least_of p) 1 (omega arith) i least-same))

        -- the child for b
        pub input_child_in : (b : ℕ) → b < 2
            → cond (eqb b 1) (high_in (nodes j f (layers j f)) (node_for j f (suc h) p)) (low_in (nodes j f (layers j f)) (node_for j f (suc h) p))
            ≡ node_for j f h (p * 2 + b)
        input_child_in zero k = input_low_in ∙ ap (node_for j f h) (sym (add-zero (p * 2)))
        input_child_in (suc zero) k = input_high_in
        input_child_in (suc (suc b)) k = absurd (omega arith)

      -- at an output
      module _ (i : is_input (var_at j (suc h)) ≡ false) where
        output_at_lem : node_at j f (layers j f) h (number_for j f (suc h) p) ≡ output_node j f (layers j f) h (least_of p) (top_value j f h (least_of p))
        unfolding node_at
        output_at_lem = cond_no (is_input (var_at j (suc h))) _ _ i

        pub output_low_in : low_in (nodes j f (layers j f)) (node_for j f (suc h) p) ≡ cond (eqb (top_value j f h p) 1) 0 (node_for j f h p)
        unfolding output_node
        output_low_in =
            ap (λ (x : Node). x.low) (record_at_lem ∙ output_at_lem)
            ∙ ap₂ (λ (v u : ℕ). cond (eqb v 1) 0 u) (sym (same_top p (least_of p) i least-same))
            (sym (node_equal j f h p (least_of p) (same_output p (least_of p) i least-same)))

        pub output_high_in : high_in (nodes j f (layers j f)) (node_for j f (suc h) p) ≡ cond (eqb (top_value j f h p) 0) 0 (node_for j f h p)
        unfolding output_node
        output_high_in =
            ap (λ (x : Node). x.high) (record_at_lem ∙ output_at_lem)
            ∙ ap₂ (λ (v u : ℕ). cond (eqb v 0) 0 u) (sym (same_top p (least_of p) i least-same))
            (sym (node_equal j f h p (least_of p) (same_output p (least_of p) i least-same)))

      -- the table stands in the node words
      module _ (fits : length (nodes j f (layers j f)) ≤ 10240) where
        pub node-within : node_for j f (suc h) p < 10242
        node-within = omega (arith, node_below)

        module _ (i : is_input (var_at j (suc h)) ≡ true) where
          pub input_low : low_of (words_of j f) (node_for j f (suc h) p) ≡ node_for j f h (p * 2)
          input_low = low_word (nodes j f (layers j f)) fits (node_for j f (suc h) p) ∙ input_low_in i

          pub input_high : high_of (words_of j f) (node_for j f (suc h) p) ≡ node_for j f h (p * 2 + 1)
          input_high = high_word (nodes j f (layers j f)) fits (node_for j f (suc h) p) ∙ input_high_in i

          pub input_child : (b : ℕ) → b < 2
              → cond (eqb b 1) (high_of (words_of j f) (node_for j f (suc h) p)) (low_of (words_of j f) (node_for j f (suc h) p)) ≡ node_for j f h (p * 2 + b)
          input_child b k =
              let xs = nodes j f (layers j f) in
              ap₂ (λ (u v : ℕ). cond (eqb b 1) u v) (high_word xs fits (node_for j f (suc h) p)) (low_word xs fits (node_for j f (suc h) p))
              ∙ input_child_in i b k

        module _ (i : is_input (var_at j (suc h)) ≡ false) where
          pub output_low : low_of (words_of j f) (node_for j f (suc h) p) ≡ cond (eqb (top_value j f h p) 1) 0 (node_for j f h p)
          output_low = low_word (nodes j f (layers j f)) fits (node_for j f (suc h) p) ∙ output_low_in i

          pub output_high : high_of (words_of j f) (node_for j f (suc h) p) ≡ cond (eqb (top_value j f h p) 0) 0 (node_for j f h p)
          output_high = high_word (nodes j f (layers j f)) fits (node_for j f (suc h) p) ∙ output_high_in i

  -- the node at the top is node 2
  pub node_top : (f : List ℕ) (p : ℕ) → 1 ≤ t j → p < 2 ^ (j.n - ins j (t j)) → node_for j f (t j) p ≡ 2
  unfolding nodes_above
  node_top f p l hp =
      let h = t j - 1 in
      let e : suc h ≡ t j = omega arith in
      let none : nodes_above j (layers j f) (suc h) ≡ 0 =
      let z : t j - suc h ≡ 0 = omega arith in ap (λ (i : ℕ). sum i (λ k. width_in (layers j f) (t j - k))) z in
      let one : width_in (layers j f) (suc h) ≡ 1 =
      width-layer j f (suc h) (omega arith) ∙ ap (width j f) e ∙ width_top j once few out f in
      let hp' : p < 2 ^ (j.n - ins j (suc h)) = rw e hp in
      ap (λ (k : ℕ). node_for j f k p) (sym e) ∙ node_of_lem j f h p ∙ omega (arith, none, one, number_fits f h (omega arith) p hp')

  -- where no line depends on the inputs below its output, the table's value at x is that of the topmost output in the column of x's prefix
  module _ (f : List ℕ) (r : Ruled j.n j.m (ins_below (t j) j.order) f) (h : ℕ) (l : h < t j) (i : is_input (var_at j (suc h)) ≡ false) where
    below_is : ins_below (t j) j.order (outs j h) ≡ ins j h
    unfolding ins outs
    below_is = ins_below_at (t j) j.order h l (ap not i)

    pub top_value_lem : (x : ℕ) → x < 2 ^ j.n → top_value j f h (x / 2 ^ ins j h) ≡ get_or f (outs j h * 2 ^ j.n + x) 0
    unfolding top_value
    top_value_lem x hx =
        let at : ℕ → ℕ = λ y. get_or f (outs j h * 2 ^ j.n + y) 0 in
        ap at (add-zero (x / 2 ^ ins j h * 2 ^ ins j h)) ∙ ap (λ (b : ℕ). at (x / 2 ^ b * 2 ^ b)) (sym below_is)
        ∙ sym (r (outs j h) x (output_number j once few out h l i) hx)
