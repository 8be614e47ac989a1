-- The reduction of a job and its sheet: the answer and what is lent after (document 01, "Columns and merging", "The diagram").
-- Assumes nothing.
use Rattle.std.specs.Prelude.{ℕ, cond, List, eqb, length}
use Rattle.std.proofs.lemmas.List.Edits.{sets}
use Rattle.laws.specs.Lists.{tab}
use Rattle.sheet_spec.specs.Job.{Job, t}
use Rattle.sheet_spec.specs.Refusals.{sheet_refusal}
use Rattle.sheet_spec.specs.Table.{table}
use Rattle.reduction_spec.specs.Columns.{width, layers}
use Rattle.reduction_spec.specs.Merge.{reduced, refuse7}
use Rattle.reduction_spec.specs.Diagram.{Node, nodes, node_words}
pub use Rattle.reduction_spec.specs.declared.Reduction.{Reduction}

-- the least of refusals 1 to 7; 0 where none is given
unfoldable pub reduction_refusal : Job → List ℕ → ℕ
reduction_refusal j s =
    let r = sheet_refusal j s in
    let narrow : ℕ = cond (refuse7 j (table j s)) 7 0 in
    cond (eqb r 0) narrow r

-- the function after all merges, its widths at the heights 0 to t - 1, and its nodes
unfoldable pub final_table : Job → List ℕ → List ℕ
final_table j s = reduced j (table j s)

unfoldable pub final_widths : Job → List ℕ → List ℕ
final_widths j s = tab (t j) (width j (final_table j s))

unfoldable pub final_nodes : Job → List ℕ → List Node
final_nodes j s = let f = final_table j s in nodes j f (layers j f)

-- the answer is the refusal, or the number of nodes
unfoldable pub reduction : Job → List ℕ → Reduction
reduction j s =
    let made = length (final_nodes j s) in
    record { refusal = reduction_refusal j s; nodes = cond (eqb (reduction_refusal j s) 0) made 0 }

-- lent widths and node words after: unchanged on a refusal; what lies past the written part is kept
unfoldable pub widths_after : Job → List ℕ → List ℕ → List ℕ
widths_after j s old = let made = sets old 0 (final_widths j s) in cond (eqb (reduction_refusal j s) 0) made old

unfoldable pub words_after : Job → List ℕ → List ℕ → List ℕ
words_after j s old = let made = sets old 0 (node_words (final_nodes j s)) in cond (eqb (reduction_refusal j s) 0) made old

-- the answer, and each lent memory after
pub record Reduced : Type 0 where
  pub answer : Reduction
  pub widths : List ℕ
  pub words : List ℕ

abbrev pub reduced_of : Reduction → List ℕ → List ℕ → Reduced
reduced_of a widths words = record { answer = a; widths = widths; words = words }

abbrev pub reduce_as : Job → List ℕ → List ℕ → List ℕ → Reduced
reduce_as j s widths words = reduced_of (reduction j s) (widths_after j s widths) (words_after j s words)
