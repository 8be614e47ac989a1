-- `reduction::packed::pack_words` meets its contract.
-- Assumes nothing.
use mathlib.Core.Path.{sym}
use Rattle.laws.proofs.Puts.{puts_none, puts-next}
use Rattle.reduction.specs.Packed.{packed_word}
use Rattle.reduction.proofs.packed.pack_words.Goals as goal

pub loop-i-init : goal.loop-i-init
loop-i-init c = sym (puts_none (packed_word c.args.places.now) c.args.words.now)

pub loop-i-preserved : goal.loop-i-preserved
loop-i-preserved c =
    let l = c.loop-i in
    let a = c.args in
    puts-next (packed_word a.places.now) l.i a.words.now l.words _ l.invariant c.packed_word.ensures
