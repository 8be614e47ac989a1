-- The heights in the order in which they are merged: after k merges the columns at height t - k are final, and the node table's first part
-- holds the nodes above that height. The nodes of a height from the numbers that its columns' children have after the next merge.
-- Assumes nothing.
use mathlib.Core.Path.{◌≡◌, refl, sym, ◌∙◌, ap, ap₂}
use mathlib.Core.Bool.{true, false, cond}
use mathlib.Core.List.{List, [], ◌∷◌, ◌++◌, append_assoc, append-nil}
use Prim.Native.Nat.{ℕ, zero, suc, ◌+◌, ◌-◌, ◌*◌, ◌/◌, ◌%◌, ◌^◌, ◌<◌, ◌≤◌}
use native.Mathlib.Omega.{arith}
use borrow.Author.Tests.{eq-eqb, ne_eqb}
use lib.Dec.{eqb}
use lib.ListN.{length, get_or, length-append}
use lib.Pow.{pow_pos}
use Rattle.laws.specs.Tests.{sum}
use Rattle.laws.specs.Lists.{tab}
use Rattle.laws.proofs.Cases.{by_equal, by_less, cond_yes, cond_no}
use Rattle.laws.proofs.Lists.{length-tab, tab_of}
use Rattle.laws.proofs.Powers.{place_below}
use Rattle.sheet_spec.specs.Job.{Job, t, ins, outs, var_at, is_input}
use Rattle.sheet_spec.specs.Refusals.{not_each_once}
use Rattle.sheet_spec.proofs.Promises.{ins_input, ins_output, outs_output, ins_below_lem, outs_below}
use Rattle.reduction_spec.specs.Columns.{entry, number_in, firsts, firsts_at, number_at, width, layers, layer, width_in}
use Rattle.reduction_spec.specs.Merge.{merged, reduced}
use Rattle.reduction_spec.specs.Diagram.{Node, node, nodes_above, node_of, input_node, output_node, top_value, node_at, nodes_to, nodes}
use Rattle.reduction_spec.proofs.ColumnNumbers.{first_below, number_below_lem}
use Rattle.reduction_spec.proofs.AllMerges.{width_top, width-bottom, firsts_final, numbers_final, lines_final}
use Rattle.reduction_spec.proofs.ColumnsBelow.{first-least}
use Rattle.reduction_spec.proofs.NodeChildren.{layer_at}

-- one column has the smallest prefix 0
pub one_first : (n a b : ℕ) (g : List ℕ) → length (firsts n a b g) ≡ 1 → firsts n a b g ≡ 0 ∷ []
one_first n a b g e =
    let ps = firsts n a b g in
    let pos = pow_pos (n - a) in
    let k = number_below_lem n a b g 0 pos in
    let z : number_in n a b g ps 0 ≡ 0 = omega arith in
    let least = first-least n a b g 0 pos in
    let zero-first : get_or ps 0 0 ≡ 0 = let y : get_or ps (number_in n a b g ps 0) 0 ≡ get_or ps 0 0 = ap (λ (i : ℕ). get_or ps i 0) z in omega arith in
    sym (tab_of 0 ps) ∙ ap (λ (w : ℕ). tab w (λ c. get_or ps c 0)) e ∙ ap (λ (x : ℕ). x ∷ []) zero-first

module _ (j : Job) (once : not_each_once j.n j.m j.order ≡ false) (few : j.n ≤ 12) (out : j.m ≤ 8) (f : List ℕ) where
  abbrev F : List ℕ
  F = reduced j f

  abbrev ls : List (List ℕ)
  ls = layers j F

  top_first : (g : List ℕ) → firsts_at j g (t j) ≡ 0 ∷ []
  unfolding firsts_at width
  top_first g = one_first j.n (ins j (t j)) (outs j (t j)) g (width_top j once few out g)

  bottom-first : (g : List ℕ) → firsts_at j g 0 ≡ 0 ∷ []
  unfolding firsts_at width
  bottom-first g = one_first j.n (ins j 0) (outs j 0) g (width-bottom j g)

  pub firsts_at_lem : (k : ℕ) → k ≤ t j → firsts_at j (reduced j f) (t j - k) ≡ firsts_at j (merged j f k) (t j - k)
  firsts_at_lem zero l =
      let e : t j - 0 ≡ t j = omega arith in
      ap (firsts_at j F) e ∙ top_first F ∙ sym (top_first (merged j f 0)) ∙ ap (firsts_at j (merged j f 0)) (sym e)
  firsts_at_lem (suc k) l =
      by_less k (t j - 1) (λ h. firsts_final j once few out f k h)
      (λ h.
      let e : t j - suc k ≡ 0 = omega arith in
      ap (firsts_at j F) e ∙ bottom-first F ∙ sym (bottom-first (merged j f (suc k))) ∙ ap (firsts_at j (merged j f (suc k))) (sym e))

  pub width_at : (k : ℕ) → k ≤ t j → width j (reduced j f) (t j - k) ≡ width j (merged j f k) (t j - k)
  unfolding width
  width_at k l = ap (λ (ps : List ℕ). length ps) (firsts_at_lem k l)

  -- the nodes at the k topmost heights
  unfoldable pub top_nodes : ℕ → List Node
  top_nodes zero = []
  top_nodes (suc k) = top_nodes k ++ tab (width_in ls (t j - k)) (node_at j F ls (t j - suc k))

  top_rest : (k : ℕ) → k ≤ t j → top_nodes k ++ nodes_to j F ls (t j - k) ≡ nodes_to j F ls (t j)
  unfolding nodes_to top_nodes
  top_rest zero l = let e : t j - 0 ≡ t j = omega arith in ap (nodes_to j F ls) e
  top_rest (suc k) l =
      let h = t j - suc k in
      let up : t j - k ≡ suc h = omega arith in
      append_assoc (top_nodes k) (tab (width_in ls (t j - k)) (node_at j F ls h)) (nodes_to j F ls h)
      ∙ ap (λ (i : ℕ). top_nodes k ++ (tab (width_in ls i) (node_at j F ls h) ++ nodes_to j F ls h)) up
      ∙ ap (λ (i : ℕ). top_nodes k ++ nodes_to j F ls i) (sym up)
      ∙ top_rest k (omega arith)

  pub top_all : top_nodes (t j) ≡ nodes j (reduced j f) (layers j (reduced j f))
  unfolding nodes nodes_to
  top_all =
      let e : t j - t j ≡ 0 = omega arith in
      sym (append-nil (top_nodes (t j))) ∙ ap (λ (i : ℕ). top_nodes (t j) ++ nodes_to j F ls i) (sym e) ∙ top_rest (t j) (omega arith)

  pub top_length : (k : ℕ) → length (top_nodes k) ≡ sum k (λ i. width_in ls (t j - i))
  unfolding top_nodes
  top_length zero = refl
  top_length (suc k) =
      length-append (top_nodes k) (tab (width_in ls (t j - k)) (node_at j F ls (t j - suc k)))
      ∙ ap₂ (λ (x y : ℕ). x + y) (top_length k) (length-tab (node_at j F ls (t j - suc k)) (width_in ls (t j - k)))

  layer-first : (h : ℕ) → h ≤ t j → layer ls h ≡ firsts_at j F h
  unfolding firsts_at
  layer-first h l = layer_at j F h l

  -- the only column has number 0
  number-zero : (g : List ℕ) (h p : ℕ) → p < 2 ^ (j.n - ins j h) → width j g h ≡ 1 → number_at j g (firsts_at j g h) h p ≡ 0
  unfolding width firsts_at number_at
  number-zero g h p hp e = let k = number_below_lem j.n (ins j h) (outs j h) g p hp in omega arith

  -- a smallest prefix is a prefix
  prefix_below : (g : List ℕ) (h c : ℕ) → c < width j g h → get_or (firsts_at j g h) c 0 < 2 ^ (j.n - ins j h)
  unfolding width firsts_at
  prefix_below g h c hc = first_below j.n (ins j h) (outs j h) g c hc

  -- the step from height t - k = H + 1 down to H: c is a column above, p its smallest prefix
  module _ (k : ℕ) (l : k < t j) where
    abbrev H : ℕ
    H = t j - suc k

    abbrev g : List ℕ
    g = merged j f k

    abbrev after : List ℕ
    after = merged j f (suc k)

    up : t j - k ≡ suc H
    up = omega arith

    above_below : (c : ℕ) → c < width j g (suc H) → get_or (firsts_at j g (suc H)) c 0 < 2 ^ (j.n - ins j (suc H))
    above_below c hc = prefix_below g (suc H) c hc

    -- the smallest prefixes above
    pub above_firsts : layer (layers j (reduced j f)) (suc (t j - suc k)) ≡ firsts_at j (merged j f k) (suc (t j - suc k))
    unfolding firsts_at
    above_firsts =
        layer_at j F (suc H) (omega arith) ∙ ap (λ (h : ℕ). firsts j.n (ins j h) (outs j h) F) (sym up) ∙ firsts_at_lem k (omega arith)
        ∙ ap (firsts_at j g) up

    pub above_width : width_in (layers j (reduced j f)) (t j - k) ≡ width j (merged j f k) (suc (t j - suc k))
    unfolding width
    above_width = ap (λ (h : ℕ). width_in ls h) up ∙ ap (λ (ps : List ℕ). length ps) above_firsts

    -- where the nodes of height H begin: those of height 0 are the constant 1
    unfoldable pub first_node : ℕ
    first_node = cond (eqb H 0) 1 (2 + sum (suc k) (λ i. width_in ls (t j - i)))

    -- the node of a prefix at height H, from its number after the merge there
    pub node-number : (p : ℕ) → p < 2 ^ (j.n - ins j (t j - suc k))
        → node_of j (reduced j f) (layers j (reduced j f)) (t j - suc k) p
        ≡ first_node + number_at j (merged j f (suc k)) (firsts_at j (merged j f (suc k)) (t j - suc k)) (t j - suc k) p
    unfolding node_of nodes_above first_node
    node-number p hp =
        by_equal H 0
        (λ e.
        let n0 : number_at j after (firsts_at j after H) H p ≡ 0 = only e in
        cond_yes (eqb H 0) 1 _ (eq-eqb H 0 e)
        ∙ (let z : 1 ≡ 1 + number_at j after (firsts_at j after H) H p = omega arith in z)
        ∙ ap (λ (b : ℕ). b + number_at j after (firsts_at j after H) H p)
        (sym (cond_yes (eqb H 0) 1 (2 + sum (suc k) (λ i. width_in ls (t j - i))) (eq-eqb H 0 e))))
        (λ e.
        let back : t j - H ≡ suc k = omega arith in
        let n1 : number_at j F (layer ls H) H p ≡ number_at j after (firsts_at j after H) H p = final e in
        cond_no (eqb H 0) 1 _ (ne_eqb H 0 e)
        ∙ ap₂ (λ (x y : ℕ). 2 + sum x (λ i. width_in ls (t j - i)) + y) back n1
        ∙ ap (λ (b : ℕ). b + number_at j after (firsts_at j after H) H p)
        (sym (cond_no (eqb H 0) 1 (2 + sum (suc k) (λ i. width_in ls (t j - i))) (ne_eqb H 0 e))))
      where
        only : H ≡ 0 → number_at j after (firsts_at j after H) H p ≡ 0
        only e = number-zero after H p hp (ap (width j after) e ∙ width-bottom j after)

        final : (H ≡ 0 → ⊥) → number_at j F (layer ls H) H p ≡ number_at j after (firsts_at j after H) H p
        final e =
            ap (λ (ps : List ℕ). number_at j F ps H p) (layer-first H (omega arith)) ∙ numbers_final j once few out f k p (omega arith) hp

    pub input_node_lem : is_input (var_at j (suc (t j - suc k))) ≡ true → (below : ℕ → ℕ)
        → ((q : ℕ) → q < width j (merged j f k) (suc (t j - suc k)) * 2
        → below q ≡ number_at j (merged j f (suc k)) (firsts_at j (merged j f (suc k)) (t j - suc k)) (t j - suc k)
        (get_or (firsts_at j (merged j f k) (suc (t j - suc k))) (q / 2) 0 * 2 + q % 2))
        → (c : ℕ) → c < width j (merged j f k) (suc (t j - suc k))
        → node (suc (t j - suc k)) (first_node + below (c * 2)) (first_node + below (c * 2 + 1)) ≡ node_at j (reduced j f) (layers j (reduced j f)) (t j - suc k) c
    unfolding node_at input_node
    input_node_lem v below is c hc =
        let ps = firsts_at j g (suc H) in
        let p = get_or ps c 0 in
        let a : ins j (suc H) ≡ ins j H + 1 = ins_input j H v in
        let at : get_or (layer ls (suc H)) c 0 ≡ p = ap (λ (l : List ℕ). get_or l c 0) above_firsts in
        let hp = above_below c hc in
        let room = ins_below_lem j once few out (suc H) (omega arith) in
        let twice : 2 ^ (j.n - ins j H) ≡ 2 ^ (j.n - ins j (suc H)) * 2 =
        let e : j.n - ins j H ≡ suc (j.n - ins j (suc H)) = omega arith in
        let s : 2 ^ suc (j.n - ins j (suc H)) ≡ 2 ^ (j.n - ins j (suc H)) * 2 = omega arith in
        ap (λ (i : ℕ). 2 ^ i) e ∙ s in
        let half : (r : ℕ) → r < 2 → first_node + below (c * 2 + r) ≡ node_of j F ls H (p * 2 + r) =
        λ r hr.
        let d : (c * 2 + r) / 2 ≡ c = omega arith in
        let m : (c * 2 + r) % 2 ≡ r = omega arith in
        ap (λ (x : ℕ). first_node + x)
        (is (c * 2 + r) (omega arith)
        ∙ ap₂ (λ (x y : ℕ). number_at j after (firsts_at j after H) H (get_or ps x 0 * 2 + y)) d m)
        ∙ sym (node-number (p * 2 + r) (omega arith)) in
        let z : c * 2 ≡ c * 2 + 0 = omega arith in
        let y : p * 2 + 0 ≡ p * 2 = omega arith in
        ap₂ (λ (x y : ℕ). node (suc H) x y) (ap (λ (i : ℕ). first_node + below i) z ∙ half 0 (omega arith) ∙ ap (node_of j F ls H) y) (half 1 (omega arith))
        ∙ ap (λ (p : ℕ). node (suc H) (node_of j F ls H (p * 2)) (node_of j F ls H (p * 2 + 1))) (sym at)
        ∙ sym (cond_yes (is_input (var_at j (suc H))) _ _ v)

    pub output_node_lem : is_input (var_at j (suc (t j - suc k))) ≡ false → (below values : ℕ → ℕ)
        → ((q : ℕ) → q < width j (merged j f k) (suc (t j - suc k))
        → below q ≡ number_at j (merged j f (suc k)) (firsts_at j (merged j f (suc k)) (t j - suc k)) (t j - suc k)
        (get_or (firsts_at j (merged j f k) (suc (t j - suc k))) q 0))
        → ((q : ℕ) → q < width j (merged j f k) (suc (t j - suc k))
        → values q ≡ entry j.n (ins j (t j - suc k)) (merged j f k) (get_or (firsts_at j (merged j f k) (suc (t j - suc k))) q 0) (outs j (t j - suc k)) 0)
        → (c : ℕ) → c < width j (merged j f k) (suc (t j - suc k))
        → node (suc (t j - suc k)) (cond (eqb (values c) 1) 0 (first_node + below c)) (cond (eqb (values c) 0) 0 (first_node + below c))
        ≡ node_at j (reduced j f) (layers j (reduced j f)) (t j - suc k) c
    unfolding node_at output_node top_value
    output_node_lem v below values is val c hc =
        let ps = firsts_at j g (suc H) in
        let p = get_or ps c 0 in
        let a : ins j (suc H) ≡ ins j H = ins_output j H v in
        let b : outs j (suc H) ≡ outs j H + 1 = outs_output j H v in
        let at : get_or (layer ls (suc H)) c 0 ≡ p = ap (λ (l : List ℕ). get_or l c 0) above_firsts in
        let hp : p < 2 ^ (j.n - ins j H) = ap_lt c hc a in
        let low = outs_below j once few out (suc H) (omega arith) in
        let next : first_node + below c ≡ node_of j F ls H p = ap (λ (x : ℕ). first_node + x) (is c hc) ∙ sym (node-number p hp) in
        let line : values c ≡ entry j.n (ins j H) F p (outs j H) 0 =
        val c hc
        ∙ sym (lines_final j once few out f k (outs j H) (p * 2 ^ ins j H + 0) (omega arith) (omega arith) (omega arith)
        (place_below j.n (ins j H) p 0 (omega (arith, ins_below_lem j once few out H (omega arith))) hp (pow_pos (ins j H)))) in
        ap₂ (λ (x y : ℕ). node (suc H) (cond (eqb x 1) 0 y) (cond (eqb x 0) 0 y)) line next
        ∙ ap (λ (p : ℕ). node (suc H) (cond (eqb (entry j.n (ins j H) F p (outs j H) 0) 1) 0 (node_of j F ls H p)) (cond (eqb (entry j.n (ins j H) F p (outs j H) 0) 0) 0 (node_of j F ls H p))) (sym at)
        ∙ sym (cond_no (is_input (var_at j (suc H))) _ _ v)
      where
        ap_lt : (c : ℕ) → c < width j g (suc H) → ins j (suc H) ≡ ins j H → get_or (firsts_at j g (suc H)) c 0 < 2 ^ (j.n - ins j H)
        ap_lt c hc e = let z = above_below c hc in rw e at z
