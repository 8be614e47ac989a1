-- `reduction::heights::step` meets its contract.
-- Assumes nothing.
use mathlib.Core.Path.{◌∙◌, ap}
use mathlib.Core.List.{List}
use Prim.Native.Nat.{◌+◌, ◌*◌}
use lib.Seq.{sets}
use Rattle.reduction_spec.specs.declared.Node.{Node}
use Rattle.reduction_spec.specs.Diagram.{node_words}
use Rattle.reduction.specs.Lowering.{candidate_count, first_node}
use Rattle.reduction.proofs.Narrow.{few-before}
use Rattle.reduction.proofs.heights.NodesStored.{below_few, nodes_stored}
use Rattle.reduction.proofs.heights.step.Goals as goal

pub store_nodes-requires : goal.store_nodes-requires
unfolding candidate_count
store_nodes-requires c =
    let a = c.args in
    let h = a.here.now in
    let p = c.requires in
    let l = c.in_ok-cliques in
    (p.5, p.0, p.1, p.6, below_few h.input h.a h.b h.size h.w a.planes.now.zero a.planes.now.one p.1 p.3 _ l.ensures.below_after (few-before _ _ _ l.ensures.value))

pub returns : goal.returns
returns c =
    let a = c.args in
    let h = a.here.now in
    let p = c.requires in
    let l = c.in_ok-cliques in record {
      value = l.ensures.value;
      zero_after = l.ensures.zero_after;
      one_after = l.ensures.one_after;
      words_after = c.store_nodes.ensures
          ∙ ap (λ (x : List Node). sets a.words.now (h.at * 3) (node_words x))
          (nodes_stored h.input h.a h.b h.size h.w a.planes.now.zero a.planes.now.one p.1 p.3 _ (h.a + h.b + 1) (first_node (h.a + h.b) (h.at + h.w)) l.ensures.below_after _ c.top_values.ensures);
      link_len = l.ensures.link_len;
    }
