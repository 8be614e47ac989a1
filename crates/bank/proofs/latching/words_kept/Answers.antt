-- `bank::latching::words_kept` meets its contract.
-- Assumes nothing.
use mathlib.Core.Path.{◌≡◌, refl, sym, ◌∙◌}
use native.Mathlib.Omega.{arith}
use Rattle.laws.proofs.Puts.{puts_none, puts-next, puts_whole}
use Rattle.bank.proofs.latching.LatchCases.{word_in, words-all}
use Rattle.bank.proofs.latching.words_kept.Goals as goal

pub loop-b-init : goal.loop-b-init
loop-b-init c = let a = c.args in sym (puts_none (word_in a.blocks.bank.now a.number a.old.now a.words.now) _)

pub loop-b-preserved : goal.loop-b-preserved
loop-b-preserved c =
    let l = c.loop-b in
    let a = c.args in
    puts-next (word_in a.blocks.bank.now a.number a.old.now a.words.now) l.b _ _ _ l.invariant c.word_kept.ensures

pub returns : goal.returns
returns c =
    let l = c.loop-b in
    let e : l.b ≡ 8 = omega arith in
    let a = c.args in
    rw e at l.invariant ∙ puts_whole (word_in a.blocks.bank.now a.number a.old.now a.words.now) 8 _ refl ∙ words-all a.blocks.bank.now a.number a.old.now a.words.now
