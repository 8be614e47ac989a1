-- Nodes as they stand in words, three a node, and what the compiler over a node table gives back.
-- Assumes nothing.
use Rattle.std.specs.Prelude.{ℕ, ◌+◌, ◌*◌, cond, List, ltb, get_or, replicate}
use Rattle.sheet_spec.specs.Limits.{most_nodes}
use Rattle.sheet_spec.specs.Job.{Job}
use Rattle.reduction_spec.specs.Diagram.{node}
use Rattle.reduction_spec.specs.declared.Node.{Node}
use Rattle.cutting_spec.specs.Compile.{compile}
use Rattle.cutting.specs.Outcome.{Answered, answered}

-- where there is none
abbrev pub no_node : Node
no_node = node 0 0 0

-- node i of the words
abbrev pub node_in : List ℕ → ℕ → Node
node_in ws i = node (get_or ws (i * 3) 0) (get_or ws (i * 3 + 1) 0) (get_or ws (i * 3 + 2) 0)

-- how many words serve a table of so many nodes: a diagram has at most 10,240
unfoldable pub words_for : ℕ → ℕ
words_for lent = cond (ltb lent 10240) (lent * 3) 30720

-- the answer as one structure, and the node table and the two other memories after
pub record NodeOutcome : Type 0 where
  pub answer : Answered
  pub nodes : List Node
  pub records : List ℕ
  pub rows : List ℕ

-- an answer and three memories together
abbrev pub node_outcome_of : Answered → List Node → List ℕ → List ℕ → NodeOutcome
node_outcome_of a nodes records rows = record { answer = a; nodes = nodes; records = records; rows = rows }

-- what the compiler gives over a node table of node records
abbrev pub node_outcome : List Node → List ℕ → List ℕ → Job → List ℕ → NodeOutcome
node_outcome nodes records rows j s =
    let c = compile nodes records rows j s in
    node_outcome_of (answered c.answer) c.nodes c.records c.rows

-- a node table that has room for every diagram
unfoldable pub empty_table : List Node
empty_table = replicate most_nodes no_node

-- what the compiler gives over it, the table itself left out
pub record WholeOutcome : Type 0 where
  pub answer : Answered
  pub records : List ℕ
  pub rows : List ℕ

abbrev pub whole_outcome_of : Answered → List ℕ → List ℕ → WholeOutcome
whole_outcome_of a records rows = record { answer = a; records = records; rows = rows }

abbrev pub without_nodes : NodeOutcome → WholeOutcome
without_nodes o = whole_outcome_of o.answer o.records o.rows

unfoldable pub whole_outcome : List ℕ → List ℕ → Job → List ℕ → WholeOutcome
whole_outcome records rows j s = without_nodes (node_outcome empty_table records rows j s)
