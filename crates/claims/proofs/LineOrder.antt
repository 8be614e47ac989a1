-- Document 02, §4: any two sheets with the same records, each as often, in any arrangement, give the same answer for one job and equal lent memory,
-- in every function that takes a sheet.
-- Sheets that are not whole records are not among these: 3 goes by the length alone (`refuse3`), so two of one length that is no multiple of 8 are both
-- refused with 3, or with the 1 or 2 of their job, and nothing lent changes (`unread_same` of cutting_spec).
-- Assumes nothing.
use mathlib.Core.Path.{◌≡◌, refl, ap}
use mathlib.Core.List.{List}
use Prim.Native.Nat.{ℕ}
use Rattle.sheet_spec.specs.Job.{Job}
use Rattle.sheet_spec.specs.SameRecords.{SameRecords}
use Rattle.sheet_spec.proofs.Promises.{refusal-same, fill_table-same}
use Rattle.reduction_spec.specs.declared.Node.{Node}
use Rattle.reduction_spec.specs.Diagram.{node_words}
use Rattle.reduction_spec.proofs.Promises.{reduce-same}
use Rattle.cutting_spec.specs.Compile.{compile, compile_words}
use Rattle.cutting_spec.proofs.Promises.{compile-same}
use Rattle.bank_spec.proofs.Promises.{compiled-same, allowed_same}
use Rattle.cutting.specs.Outcome.{outcome}
use Rattle.node_table.specs.Nodes.{empty_table, node_outcome, without_nodes, whole_outcome}
use Rattle.panel_calls.specs.Exported.{compile_bytes}
use Rattle.claims.specs.LineOrder.{SameForAll}

module _ (j : Job) (s z : List ℕ) (h : SameRecords s z) where
  words_same : (nodes records rows : List ℕ) → outcome nodes records rows j s ≡ outcome nodes records rows j z
  unfolding outcome compile_words
  words_same nodes records rows = rw (compile-same s z h j node_words nodes records rows) refl

  nodes-same : (nodes : List Node) (records rows : List ℕ) → node_outcome nodes records rows j s ≡ node_outcome nodes records rows j z
  unfolding compile
  nodes-same nodes records rows = rw (compile-same s z h j (λ xs. xs) nodes records rows) refl

  own_same : (records rows : List ℕ) → whole_outcome records rows j s ≡ whole_outcome records rows j z
  unfolding whole_outcome
  own_same records rows = ap without_nodes (nodes-same empty_table records rows)

  bytes_same : (nodes records rows widths : List ℕ) → compile_bytes nodes records rows widths j s ≡ compile_bytes nodes records rows widths j z
  unfolding compile_bytes
  bytes_same nodes records rows widths = rw (words_same nodes records rows) refl

  pub line-order : SameForAll j s z
  line-order =
      record {
        compiled = words_same;
        node_table = nodes-same;
        own_table = own_same;
        bytes = bytes_same;
        reduced = reduce-same s z h j;
        refusal = refusal-same s z h j;
        table = fill_table-same s z h j;
        block = compiled-same s z h j;
        allowed = allowed_same s z h;
      }
