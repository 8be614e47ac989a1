-- A walk over a node table (document 01, "The diagram"): from a node to its child, the height falling by one, or to its end at constant 0.
-- Bit h of bits is the value of the variable at height h + 1, input or output. The table is a list of node records, or their words.
-- Assumes nothing.
use Rattle.std.specs.Prelude.{ℕ, zero, suc, ◌+◌, ◌-◌, ◌*◌, cond, List, ltb, get_or}
use Rattle.laws.specs.Bits.{has}
use Rattle.sheet_spec.specs.Limits.{most_nodes}
use Rattle.reduction_spec.specs.Diagram.{Node, node}

-- over node records, of any number: the low and the high child of node v, which is at least 2
abbrev pub low_in : List Node → ℕ → ℕ
low_in xs v = (get_or xs (v - 2) (node 0 0 0)).low

abbrev pub high_in : List Node → ℕ → ℕ
high_in xs v = (get_or xs (v - 2) (node 0 0 0)).high

unfoldable pub node_child : List Node → ℕ → ℕ → ℕ → ℕ
node_child xs bits h v = cond (has bits h) (high_in xs v) (low_in xs v)

-- where a walk from the node v at height h ends; a constant has no child
unfoldable pub node_walk : List Node → ℕ → ℕ → ℕ → ℕ
node_walk xs bits zero v = v
node_walk xs bits (suc h) v = let r = node_walk xs bits h (node_child xs bits h v) in cond (ltb v 2) v r

-- over node words: a node outside the table of 10,240 nodes has the children 0
abbrev pub low_of : List ℕ → ℕ → ℕ
low_of ws v = cond (ltb v (2 + most_nodes)) (get_or ws ((v - 2) * 3 + 1) 0) 0

abbrev pub high_of : List ℕ → ℕ → ℕ
high_of ws v = cond (ltb v (2 + most_nodes)) (get_or ws ((v - 2) * 3 + 2) 0) 0

unfoldable pub child : List ℕ → ℕ → ℕ → ℕ → ℕ
child ws bits h v = cond (has bits h) (high_of ws v) (low_of ws v)

unfoldable pub walk : List ℕ → ℕ → ℕ → ℕ → ℕ
walk ws bits zero v = v
walk ws bits (suc h) v = let r = walk ws bits h (child ws bits h v) in cond (ltb v 2) v r
