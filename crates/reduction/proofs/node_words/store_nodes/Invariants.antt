-- `reduction::node_words::store_nodes` meets its contract.
-- Assumes nothing.
use mathlib.Core.Path.{◌≡◌}
use Prim.Native.Nat.{◌*◌}
use lib.Seq.{sets}
use Rattle.laws.specs.Lists.{tab}
use Rattle.reduction_spec.specs.Diagram.{node_words}
use Rattle.reduction.specs.Lowering.{node_over}
use Rattle.reduction.proofs.node_words.store_nodes.Given as goal

abbrev pub invariant-loop-c : goal.invariant-loop-c
invariant-loop-c l = l.words ≡ sets l.initial.words (l.here.at * 3) (node_words (tab l.c (node_over l.here.input l.height l.base l.values l.below)))
