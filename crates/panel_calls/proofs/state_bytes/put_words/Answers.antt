-- `panel_calls::state_bytes::put_words` meets its contract.
-- Assumes nothing.
use mathlib.Core.Path.{◌≡◌, sym}
use native.Mathlib.Omega.{arith}
use mir.Syntax.{w16}
use mir.Val.{Fits}
use borrow.Author.Rules.{rules}
use lib.ListN.{get_or}
use Rattle.laws.proofs.Puts.{puts_at-none}
use Rattle.panel_calls.specs.StateBytes.{word_byte}
use Rattle.panel_calls.proofs.state_bytes.StateLaws.{two-lower, two-upper, two-put}
use Rattle.panel_calls.proofs.state_bytes.put_words.Goals as goal

pub loop-i-init : goal.loop-i-init
loop-i-init c = sym (puts_at-none (word_byte c.args.words.now) 5 c.args.bytes.now)

pub loop-i-preserved : goal.loop-i-preserved
loop-i-preserved c =
    let l = c.loop-i in
    let a = c.args in
    let x = get_or a.words.now l.i 0 in
    let fits : Fits w16 x = search rules in
    two-put a.words.now l.i a.bytes.now l.bytes (two-lower x c.to_le_bytes.ensures) (two-upper x fits.fits c.to_le_bytes.ensures) l.invariant

pub returns : goal.returns
returns c =
    let l = c.loop-i in
    let e : l.i ≡ 8 = omega arith in
    rw e at l.invariant
