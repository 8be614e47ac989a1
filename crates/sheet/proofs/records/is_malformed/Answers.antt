-- `is_malformed` tests one record.
-- Assumes nothing.
use native.Mathlib.Omega.{arith}
use Rattle.sheet.proofs.Shifts.{shifted}
use Rattle.sheet.proofs.records.RecordTests.{malformed-of}
use Rattle.sheet.proofs.records.is_malformed.Goals as goal

pub returns : goal.returns
returns c =
    let a = c.args in
    let p = c.requires in
    malformed-of a.n a.m a.sheet.now a.r c.pair-mask.ensures c.pair-values.ensures c.from-zeros.ensures c.from-ones.ensures (shifted a.n 65536 p.1 (omega arith)) (shifted a.m 65536 (omega (arith, p.2)) (omega arith))
