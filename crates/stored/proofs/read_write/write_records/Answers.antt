-- `stored::read_write::write_records` meets its contract.
-- Assumes nothing.
use mathlib.Core.Path.{sym, ◌∙◌, ap}
use mathlib.Core.List.{List}
use Prim.Native.Nat.{ℕ, ◌<◌}
use native.Mathlib.Omega.{arith}
use lib.ListN.{length}
use lib.Seq.{length-take-le}
use Rattle.stored.specs.RecordArrays.{records_of}
use Rattle.stored_spec.specs.ReadWrite.{record_bytes, write_bytes, write}
use Rattle.stored.proofs.read_write.RecordArrays.{too_many_lem, length-records, stored_bytes}
use Rattle.stored_spec.proofs.ReadWriteCases.{write-other}
use Rattle.stored.proofs.read_write.write_records.Goals as goal

pub returns-then-from-gt-MOST_VARIABLES : goal.returns-then-from-gt-MOST_VARIABLES
unfolding write
returns-then-from-gt-MOST_VARIABLES c =
    let a = c.args in
    let rs = records_of a.from in
    let many : 20 < length rs = omega (arith, length-records a.from, c.if-from-gt-MOST_VARIABLES.true) in
    sym (write-other (record_bytes rs) a.bytes.now a.records.now a.rows.now (too_many_lem rs a.bytes.now many))

pub slice_bounds-stored-end : goal.slice_bounds-stored-end
slice_bounds-stored-end c =
    let a = c.args in
    (stored_bytes (records_of a.from) _ c.bytes_of.new.bytes (length-records a.from) (omega arith) c.bytes_of.ensures).0

pub slice_bounds-write_bytes-end : goal.slice_bounds-write_bytes-end
slice_bounds-write_bytes-end c =
    let a = c.args in
    let s = c.bytes_of.new.bytes in
    sym (length-take-le _ s (stored_bytes (records_of a.from) _ s (length-records a.from) (omega arith) c.bytes_of.ensures).0)

pub returns : goal.returns
unfolding write
returns c =
    let a = c.args in
    let s = c.bytes_of.new.bytes in
    c.write_bytes.ensures
    ∙ ap (λ (x : List ℕ). write_bytes x a.bytes.now a.records.now a.rows.now)
    (stored_bytes (records_of a.from) _ s (length-records a.from) (omega arith) c.bytes_of.ensures).1
