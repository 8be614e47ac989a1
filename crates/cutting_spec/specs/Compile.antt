-- The compiler: the answer and the lent memories after, for every job, sheet and memory (document 01, "Who can cause a refusal").
-- Assumes nothing.
use Rattle.std.specs.Prelude.{ℕ, ◌*◌, cond, List, map, eqb, ltb, length, take}
use Rattle.laws.specs.Lists.{written}
use Rattle.sheet_spec.specs.Job.{Job, t}
use Rattle.sheet_spec.specs.Refusals.{sheet_refusal}
use Rattle.sheet_spec.specs.Table.{table}
use Rattle.reduction_spec.specs.Columns.{layers}
use Rattle.reduction_spec.specs.Merge.{reduced, refuse7}
use Rattle.reduction_spec.specs.Diagram.{nodes, node_words}
use Rattle.reduction_spec.specs.declared.Node.{Node}
use Rattle.stored_spec.specs.Cells.{bit_total}
use Rattle.stored_spec.specs.RowBytes.{two_bytes, row_bytes}
use Rattle.cutting_spec.specs.Cuts.{cells_of}
use Rattle.cutting_spec.specs.Choice.{chosen, refuse8}
use Rattle.cutting_spec.specs.Rows.{cascade_rows}
use Rattle.stored_spec.specs.StoredForm.{stored}

-- what is made of a sheet's function
pub record Made : Type 0 where
  pub widths : List ℕ
  pub cuts : List ℕ
  pub nodes : List Node
  pub records : List ℕ
  pub rows : List ℕ
  pub row_bytes : List ℕ
  pub cells : ℕ
  pub bits : ℕ

-- widths are those of the function after all merges, at the heights 0 to t
unfoldable pub widths_of : List (List ℕ) → List ℕ
widths_of ls = map length ls

unfoldable pub made : Job → List ℕ → Made
made j f₀ =
    let f = reduced j f₀ in
    let ls = layers j f in
    let ws = widths_of ls in
    let cuts = chosen j ws in
    let rows = cascade_rows j f ls ws cuts in
    record {
      widths = ws;
      cuts = cuts;
      nodes = nodes j f ls;
      records = stored j ws cuts;
      rows = rows;
      row_bytes = row_bytes two_bytes rows;
      cells = length (cells_of j ws cuts);
      bits = bit_total (cells_of j ws cuts);
    }

-- on acceptance the answer holds nodes, cells, rows, bits and every width, at the heights 0 to t - 1
pub record Totals : Type 0 where
  pub nodes : ℕ
  pub cells : ℕ
  pub rows : ℕ
  pub bits : ℕ
  pub widths : List ℕ

pub data Answer : Type 0 where
  refused : ℕ → Answer
  accepted : Totals → Answer

unfoldable pub totals : Job → Made → Totals
totals j c =
    record { nodes = length c.nodes; cells = c.cells; rows = length c.rows; bits = c.bits; widths = take (t j) c.widths }

-- the answer, and what is lent after. The node memory holds elements of A: node records, or their words
pub record CompiledAs (A : Type 0) : Type 0 where
  pub answer : Answer
  pub nodes : List A
  pub records : List ℕ
  pub rows : List ℕ

-- held gives the nodes in the elements of the node memory
module _ {A : Type 0} (held : List Node → List A) (nodes : List A) (records rows : List ℕ) where
  -- nothing lent changes on a refusal
  unfoldable pub refusal : ℕ → CompiledAs A
  refusal n = record { answer = refused n; nodes = nodes; records = records; rows = rows }

  -- memory past the written part is kept
  unfoldable pub acceptance : Job → Made → CompiledAs A
  acceptance j c =
      record {
        answer = accepted (totals j c);
        nodes = written nodes 0 (held c.nodes);
        records = written records 0 c.records;
        rows = written rows 0 c.row_bytes;
      }

  -- 9: node table shorter than the nodes. 10: record buffer under 4 x t. 11: row memory short
  unfoldable pub lend : Job → Made → CompiledAs A
  lend j c =
      cond (ltb (length nodes) (length (held c.nodes))) (refusal 9)
      (cond (ltb (length records) (4 * t j)) (refusal 10)
      (cond (ltb (length rows) (length c.row_bytes)) (refusal 11) (acceptance j c)))

  -- f is the sheet's function: 7, 8, then what is lent
  unfoldable pub reduce : Job → List ℕ → CompiledAs A
  reduce j f =
      let c = made j f in
      let r = cond (refuse8 j c.widths) (refusal 8) (lend j c) in
      cond (refuse7 j f) (refusal 7) r

  unfoldable pub compile_as : Job → List ℕ → CompiledAs A
  compile_as j s =
      let n = sheet_refusal j s in
      let r = reduce j (table j s) in
      cond (eqb n 0) r (refusal n)

-- a node table of node records
abbrev pub Compiled : Type 0
Compiled = CompiledAs Node

unfoldable pub compile : List Node → List ℕ → List ℕ → Job → List ℕ → Compiled
compile = compile_as (λ xs. xs)

-- a node table of words, three a node
unfoldable pub compile_words : List ℕ → List ℕ → List ℕ → Job → List ℕ → CompiledAs ℕ
compile_words = compile_as node_words
