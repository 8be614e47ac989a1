-- `cutting::records::write_words` meets its contract.
-- Assumes nothing.
use native.Mathlib.Omega.{arith}
use Rattle.cutting.proofs.Stores.{copied-part}
use Rattle.cutting.proofs.records.write_words.Goals as goal

pub returns : goal.returns
returns c =
    let a = c.args in
    copied-part a.count a.from.now a.to.now _ c.copy_from_slice.ensures.after (omega arith) c.requires.1
