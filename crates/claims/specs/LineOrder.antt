-- Line order does not matter (document 02, §4), of the functions that ship: what each function that takes a sheet gives for the sheets s and z.
-- Each field equates the right-hand sides of a contract, so answers and lent memories are equal, for every job and every memory lent.
-- Assumes nothing.
use Rattle.std.specs.Prelude.{◌≡◌, List, ℕ}
use Rattle.sheet_spec.specs.Job.{Job}
use Rattle.sheet_spec.specs.Refusals.{sheet_refusal}
use Rattle.sheet_spec.specs.Table.{fill_table}
use Rattle.reduction_spec.specs.declared.Node.{Node}
use Rattle.reduction_spec.specs.Reduction.{reduce_as}
use Rattle.bank_spec.specs.Book.{Block}
use Rattle.bank_spec.specs.Demand3.{CompiledBy, SetAllowed}
use Rattle.cutting.specs.Outcome.{outcome}
use Rattle.node_table.specs.Nodes.{node_outcome, whole_outcome}
use Rattle.panel_calls.specs.Exported.{compile_bytes}

pub record SameForAll (j : Job) (s z : List ℕ) : Type 0 where
  -- `cutting::compile`: the refusal's number, or nodes, cells, rows, bits and every width; node words, records and rows
  pub compiled : (nodes records rows : List ℕ) → outcome nodes records rows j s ≡ outcome nodes records rows j z
  -- `node_table::compile`; `compile_whole`, over a table of its own, from whose answer the listing is printed
  pub node_table : (nodes : List Node) (records rows : List ℕ) → node_outcome nodes records rows j s ≡ node_outcome nodes records rows j z
  pub own_table : (records rows : List ℕ) → whole_outcome records rows j s ≡ whole_outcome records rows j z
  -- `cascade_compile`
  pub bytes : (nodes records rows widths : List ℕ) → compile_bytes nodes records rows widths j s ≡ compile_bytes nodes records rows widths j z
  -- `reduction::reduce`, `cascade_reduce`
  pub reduced : (widths words : List ℕ) → reduce_as j s widths words ≡ reduce_as j z widths words
  -- `sheet::refusal`, `cascade_sheet_refusal`; `sheet::fill_table`, `cascade_sheet_table`
  pub refusal : sheet_refusal j s ≡ sheet_refusal j z
  pub table : (old : List ℕ) → fill_table j s old ≡ fill_table j z old
  -- demand 3: a block compiled for the one is compiled for the other, and what is allowed is the same
  pub block : (B : Block) → CompiledBy j s B → CompiledBy j z B
  pub allowed : (w o v : ℕ) → SetAllowed s w o v → SetAllowed z w o v
