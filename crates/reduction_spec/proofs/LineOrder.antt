-- Sheets with the same records, each as often, have the same reduction (document 02, §4).
-- Assumes nothing.
use mathlib.Core.Path.{◌≡◌, refl}
use mathlib.Core.List.{List}
use Prim.Native.Nat.{ℕ}
use Rattle.sheet_spec.specs.Job.{Job}
use Rattle.sheet_spec.specs.SameRecords.{SameRecords}
use Rattle.sheet_spec.proofs.Promises.{refusal-same, table_same}
use Rattle.reduction_spec.specs.Reduction.{reduction_refusal, final_table, final_widths, final_nodes, reduction, widths_after, words_after, reduce_as}

-- the answer, and the lent widths and node words after
pub reduce-same : (s z : List ℕ) → SameRecords s z → (j : Job) (widths words : List ℕ) → reduce_as j s widths words ≡ reduce_as j z widths words
unfolding reduction widths_after words_after reduction_refusal final_widths final_nodes final_table
reduce-same s z h j widths words = rw (refusal-same s z h j, table_same s z h j) refl
