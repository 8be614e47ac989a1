-- The node table: where the node of a column stands in it.
-- Assumes nothing.
use mathlib.Core.Path.{◌≡◌, sym, ◌∙◌, ap}
use mathlib.Core.List.{List, ◌++◌}
use Prim.Native.Nat.{ℕ, zero, suc, ◌+◌, ◌-◌, ◌<◌, ◌≤◌}
use native.Mathlib.Omega.{arith}
use lib.ListN.{get_or, get_or-append}
use lib.Seq.{get_or-append-add}
use Rattle.laws.specs.Tests.{sum}
use Rattle.laws.specs.Lists.{tab}
use Rattle.laws.proofs.Lists.{length-tab, get_or-tab}
use Rattle.sheet_spec.specs.Job.{Job, t}
use Rattle.reduction_spec.specs.Columns.{width_in}
use Rattle.reduction_spec.specs.Diagram.{Node, nodes_above, node_at, nodes_to, nodes}

module _ (j : Job) (f : List ℕ) (ls : List (List ℕ)) (d : Node) where
  -- past the nodes of one height
  past_height : (g y : ℕ) → get_or (nodes_to j f ls (suc g)) (width_in ls (suc g) + y) d ≡ get_or (nodes_to j f ls g) y d
  unfolding nodes_to
  past_height g y =
      ap (λ (i : ℕ). get_or (tab (width_in ls (suc g)) (node_at j f ls g) ++ nodes_to j f ls g) (i + y) d) (sym (length-tab (node_at j f ls g) (width_in ls (suc g))))
      ∙ get_or-append-add (tab (width_in ls (suc g)) (node_at j f ls g)) (nodes_to j f ls g) y d

  -- past the nodes of the i topmost heights
  past_heights : (i y : ℕ) → i ≤ t j → get_or (nodes_to j f ls (t j)) (sum i (λ k. width_in ls (t j - k)) + y) d ≡ get_or (nodes_to j f ls (t j - i)) y d
  past_heights zero y h =
      let e : 0 + y ≡ y = omega arith in
      let top : t j ≡ t j - 0 = omega arith in
      ap (λ (k : ℕ). get_or (nodes_to j f ls (t j)) k d) e ∙ ap (λ (g : ℕ). get_or (nodes_to j f ls g) y d) top
  past_heights (suc i) y h =
      let s = sum i (λ k. width_in ls (t j - k)) in
      let g = t j - suc i in
      let up : t j - i ≡ suc g = omega arith in
      let w = width_in ls (t j - i) in
      let e : s + w + y ≡ s + (w + y) = omega arith in
      ap (λ (k : ℕ). get_or (nodes_to j f ls (t j)) k d) e ∙ past_heights i (w + y) (omega arith)
      ∙ ap (λ (k : ℕ). get_or (nodes_to j f ls k) (width_in ls k + y) d) up ∙ past_height g y

  -- column c at height h + 1
  pub nodes_at : (h c : ℕ) → h < t j → c < width_in ls (suc h) → get_or (nodes j f ls) (nodes_above j ls (suc h) + c) d ≡ node_at j f ls h c
  unfolding nodes nodes_above nodes_to
  nodes_at h c l k =
      let up : t j - (t j - suc h) ≡ suc h = omega arith in
      let w = width_in ls (suc h) in
      past_heights (t j - suc h) c (omega arith) ∙ ap (λ (i : ℕ). get_or (nodes_to j f ls i) c d) up
      ∙ get_or-append (tab w (node_at j f ls h)) (nodes_to j f ls h) d c (omega (arith, length-tab (node_at j f ls h) w, k))
      ∙ get_or-tab (node_at j f ls h) d w c k
