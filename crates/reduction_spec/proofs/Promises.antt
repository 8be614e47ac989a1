-- What the layers above may cite of the reduction layer: the laws that say what its contracts' definitions mean. Each is proved in the file named.
-- Assumes nothing.

-- columns are the same where their entries are, and have the numbers of their smallest prefixes
pub use Rattle.reduction_spec.proofs.ColumnNumbers.{same-entry, entry-same, first_below, number_below_lem, number-first, number_same, number_in_equal, width_few}
-- the same columns are the same further down
pub use Rattle.reduction_spec.proofs.MergeKeeps.{same_deeper}
-- the order rule of a table
pub use Rattle.reduction_spec.proofs.MergeKeepsOrderRule.{Ruled}
-- widths: 1 at the top and at the bottom, at most 512 where 7 is not given
pub use Rattle.reduction_spec.proofs.AllMerges.{width_top, width-bottom}
-- the function after all merges keeps every 0 and 1 and the order rule; its nodes fit
pub use Rattle.reduction_spec.proofs.AcceptedSheet.{reduced_refines, reduced_ruled, width_most, width-layer, nodes_fit}
-- across an input the width at most doubles, across an output it does not grow
pub use Rattle.reduction_spec.proofs.WidthsBelow.{width-step}
-- the characteristic function of the sheet's table is the sheet's; the final function implies it
pub use Rattle.reduction_spec.proofs.ChiLines.{chi-sheet, final_implies}
-- columns are the same where their characteristic functions are
pub use Rattle.reduction_spec.proofs.ColumnChi.{column_same}
-- the width is that of definition 3.5, by cofactors of the characteristic function
pub use Rattle.reduction_spec.proofs.CofactorColumns.{width_cofactors, sheet-width, final_width}
-- the diagram computes the characteristic function
pub use Rattle.reduction_spec.proofs.DiagramWalks.{diagram_chi, sheet_diagram, final_diagram}
-- a merge is the AND of its clique's characteristic functions
pub use Rattle.reduction_spec.proofs.MergeAnd.{merge_and}
-- nodes by height and number, and as words
pub use Rattle.reduction_spec.proofs.NodeChildren.{words_of, node_for, number_for, layer_at, number_is, node_of_lem, node-bottom, nodes-room, words_height, words-low, words-high}
-- three words a node
pub use Rattle.reduction_spec.proofs.NodeWords.{length-node_words}
-- a walk from one cut to the next meets the outputs between and reaches the node of the prefix
pub use Rattle.reduction_spec.proofs.DescentReaches.{met, descent_is}
-- the same, height by height
pub use Rattle.reduction_spec.proofs.DescentSteps.{descend-bottom, descend-stop, descend_input, descend_forced, descend-other, met_few, met_more, met_still, met_twice}
-- what `reduce` answers, and what it leaves lent
pub use Rattle.reduction_spec.proofs.ReductionCases.{not-refused}
pub use Rattle.reduction_spec.proofs.LentAfter.{refusal_is, accepted, few-variables, narrow, node-count, nodes-few}
-- and that the records' order does not matter to it
pub use Rattle.reduction_spec.proofs.LineOrder.{reduce-same}
