-- `stored::read_write::read_records` meets its contract.
-- Assumes nothing.
use mathlib.Core.Path.{sym, ◌∙◌, ap}
use Rattle.stored.specs.RecordArrays.{StoredRecords, read_as}
use Rattle.stored_spec.specs.RowBytes.{two_bytes}
use Rattle.stored_spec.specs.ReadWrite.{cascade_of}
use Rattle.stored_spec.proofs.StoredParts.{records_have}
use Rattle.stored_spec.proofs.ReadWriteCases.{formed-records, read-formed, read-other}
use Rattle.stored.proofs.read_write.read_records.Goals as goal

pub take_apart-requires : goal.take_apart-requires
take_apart-requires c =
    let a = c.args in
    (records_have two_bytes a.records.now (formed-records a.records.now a.rows.now (sym c.formed.ensures ∙ c.if-formed.true))).few

pub returns-then-formed : goal.returns-then-formed
unfolding cascade_of
returns-then-formed c =
    let a = c.args in
    let e = read-formed a.records.now a.rows.now (sym c.formed.ensures ∙ c.if-formed.true) in
    ap (λ (x : StoredRecords). record { refusal = 0; records = x }) c.take_apart.ensures ∙ ap read_as (sym e)

pub returns : goal.returns
returns c =
    let a = c.args in
    ap read_as (sym (read-other a.records.now a.rows.now (sym c.formed.ensures ∙ c.if-formed.false)))
