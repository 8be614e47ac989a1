-- A walk over stored records: what has been read before a record, and the cell that a record's cut ends.
-- Assumes nothing.
use Rattle.std.specs.Prelude.{ℕ, cond, List, length, eqb, Option, Some, None}
use Rattle.stored_spec.specs.declared.Cell.{Cell}
use Rattle.stored_spec.specs.StoredForm.{variable, cut_byte, rail_byte, with_variable, reading, size_of}
pub use Rattle.stored.specs.declared.walk.Walk.{Walk}

unfoldable pub begun : List ℕ → ℕ → Walk
begun R i =
    let s = reading R i in
    record { cell = length s.ended; ins = length s.ins; outs = length s.outs; upper = s.upper }

unfoldable pub ended : List ℕ → ℕ → Option Cell
ended R i =
    let s = with_variable (reading R i) (variable R i) in
    cond (eqb (cut_byte R i) 1) (Some (size_of (record { ins = s.ins; outs = s.outs; upper = s.upper; lower = rail_byte R i }))) None
