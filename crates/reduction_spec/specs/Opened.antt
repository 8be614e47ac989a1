-- Names every definition of the layer that computes: a proof that says `unfolding reduction_opened` computes with them all.
-- Assumes nothing.
use Rattle.reduction_spec.specs.Numbering.{index_in, firsts_of}
use Rattle.reduction_spec.specs.Columns.{same_line, same, number_in, firsts, firsts_at, number_at, width, layers}
use Rattle.reduction_spec.specs.Cofactors.{inputs_in, outputs_in, chi_of, same_cofactor, zero_cofactor, cofactor_width, column_chi}
use Rattle.reduction_spec.specs.Compatible.{compatible_line, compatible}
use Rattle.reduction_spec.specs.Cover.{linked, edges, fewer, fewest, staying, candidates, grown, clique, leave, owned, rounds, cover}
use Rattle.reduction_spec.specs.Merge.{holds, product, graph, merge, merge_at, merged, reduced, too_wide, refuse7}
use Rattle.reduction_spec.specs.Diagram.{nodes_above, node_of, input_node, output_node, top_value, node_at, nodes_to, nodes}
use Rattle.reduction_spec.specs.Walk.{node_child, node_walk, child, walk}

unfoldable pub reduction_opened : Unit {0}
unfolding index_in firsts_of same_line same number_in firsts firsts_at number_at width layers inputs_in outputs_in chi_of same_cofactor zero_cofactor cofactor_width column_chi compatible_line compatible linked edges fewer fewest staying candidates grown clique leave owned rounds cover holds product graph merge merge_at merged reduced too_wide refuse7 nodes_above node_of input_node output_node top_value node_at nodes_to nodes node_child node_walk child walk
reduction_opened = tt
