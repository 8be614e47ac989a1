-- The memory lent in the case table (document 01): it holds something, so that what is kept can be seen.
-- Assumes nothing.
use Rattle.std.specs.Prelude.{ℕ, List, replicate}
use Rattle.sheet_spec.specs.Job.{Job}
use Rattle.reduction_spec.specs.declared.Node.{Node}
use Rattle.cutting_spec.specs.Compile.{Compiled, compile}

abbrev pub node : ℕ → ℕ → ℕ → Node
node h l r = record { height = h; low = l; high = r }

-- of the lengths given: nodes; record bytes or row bytes
abbrev pub old_nodes : ℕ → List Node
old_nodes k = replicate k (node 7 8 9)

abbrev pub old_bytes : ℕ → List ℕ
old_bytes k = replicate k 77

-- the job and sheet compiled with such memory lent
abbrev pub lending : ℕ → ℕ → ℕ → Job → List ℕ → Compiled
lending x r w j s = compile (old_nodes x) (old_bytes r) (old_bytes w) j s
