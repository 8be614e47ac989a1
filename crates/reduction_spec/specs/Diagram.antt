-- The node table of a function (document 01, "The diagram"). f is the function after all merges, ls its layers.
-- Assumes nothing.
use Rattle.std.specs.Prelude.{ℕ, zero, suc, ◌+◌, ◌-◌, ◌*◌, cond, List, [], ◌∷◌, ◌++◌, eqb, get_or}
use Rattle.laws.specs.Tests.{sum}
use Rattle.laws.specs.Lists.{tab}
use Rattle.sheet_spec.specs.Job.{Job, t, ins, outs, var_at, is_input}
use Rattle.reduction_spec.specs.Columns.{entry, number_at, layer, width_in}
pub use Rattle.reduction_spec.specs.declared.Node.{Node}

abbrev pub node : ℕ → ℕ → ℕ → Node
node h l r = record { height = h; low = l; high = r }

-- how many nodes stand at heights over h
unfoldable pub nodes_above : Job → List (List ℕ) → ℕ → ℕ
nodes_above j ls h = sum (t j - h) (λ i. width_in ls (t j - i))

-- the node of the column of prefix p at height h: nodes start at 2, heights fall, columns in number order. Below height 1 it is constant 1
unfoldable pub node_of : Job → List ℕ → List (List ℕ) → ℕ → ℕ → ℕ
node_of j f ls h p = cond (eqb h 0) 1 (2 + nodes_above j ls h + number_at j f (layer ls h) h p)

-- at an input, low is the child for 0, high for 1: the column of prefix p at height h + 1
unfoldable pub input_node : Job → List ℕ → List (List ℕ) → ℕ → ℕ → Node
input_node j f ls h p = node (suc h) (node_of j f ls h (p * 2)) (node_of j f ls h (p * 2 + 1))

-- at an output, a forbidden value's child is 0; for d both children agree. v is the output's value in the column
unfoldable pub output_node : Job → List ℕ → List (List ℕ) → ℕ → ℕ → ℕ → Node
output_node j f ls h p v =
    let next = node_of j f ls h p in
    node (suc h) (cond (eqb v 1) 0 next) (cond (eqb v 0) 0 next)

-- the value of the output at height h + 1 in the column of prefix p: it is the topmost output there, and depends on no input below it
unfoldable pub top_value : Job → List ℕ → ℕ → ℕ → ℕ
top_value j f h p = entry j.n (ins j h) f p (outs j h) 0

-- the node of column c at height h + 1
unfoldable pub node_at : Job → List ℕ → List (List ℕ) → ℕ → ℕ → Node
node_at j f ls h c =
    let p = get_or (layer ls (suc h)) c 0 in
    cond (is_input (var_at j (suc h))) (input_node j f ls h p) (output_node j f ls h p (top_value j f h p))

-- the nodes at heights h to 1: heights falling, columns in number order
unfoldable pub nodes_to : Job → List ℕ → List (List ℕ) → ℕ → List Node
nodes_to j f ls zero = []
nodes_to j f ls (suc h) = tab (width_in ls (suc h)) (node_at j f ls h) ++ nodes_to j f ls h

unfoldable pub nodes : Job → List ℕ → List (List ℕ) → List Node
nodes j f ls = nodes_to j f ls (t j)

-- a node table as words: height, low, high
abbrev pub node_words : List Node → List ℕ
node_words [] = []
node_words (x ∷ xs) = x.height ∷ x.low ∷ x.high ∷ node_words xs
