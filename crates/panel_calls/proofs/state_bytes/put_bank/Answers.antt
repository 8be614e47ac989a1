-- `panel_calls::state_bytes::put_bank` meets its contract.
-- Assumes nothing.
use mathlib.Core.Path.{◌∙◌, ap, ap₂}
use Prim.Native.Nat.{ℕ}
use mir.Syntax.{w16}
use mir.Val.{Fits}
use borrow.Author.Rules.{rules}
use lib.ListN.{get_or, set}
use Rattle.laws.specs.Lists.{puts_at}
use Rattle.panel_calls.proofs.state_bytes.StateLaws.{two-lower, two-upper, bank-stored}
use Rattle.panel_calls.proofs.state_bytes.put_bank.Goals as goal

pub returns : goal.returns
returns c =
    let a = c.args in
    let k = a.bank.now in
    let fits : Fits w16 k.limit = search rules in
    let e = c.to_le_bytes.ensures in
    let first = ap₂ (λ (x y : ℕ). set (set (set a.bytes.now 0 x) 1 y) 2 k.count) (two-lower k.limit e) (two-upper k.limit fits.fits e) in
    let lengths = c.put.ensures ∙ ap (puts_at 3 8 (λ i. get_or k.lengths i 0)) first in
    let records = c.put-2.ensures ∙ ap (puts_at 11 640 (λ i. get_or k.records i 0)) lengths in
    let periods = c.put-3.ensures ∙ ap (puts_at 651 8 (λ i. get_or k.periods i 0)) records in
    c.put-4.ensures ∙ ap (puts_at 659 8 (λ i. get_or k.phases i 0)) periods ∙ bank-stored k a.bytes.now
