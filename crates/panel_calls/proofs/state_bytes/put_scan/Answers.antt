-- `panel_calls::state_bytes::put_scan` meets its contract.
-- Assumes nothing.
use mathlib.Core.Path.{◌≡◌, refl, ◌∙◌, ap, ap₂}
use mathlib.Core.Bool.{Bool, true, false}
use mathlib.Core.List.{List}
use Prim.Native.Nat.{ℕ}
use mir.Syntax.{w16}
use mir.Val.{Fits, bool_byte}
use borrow.Author.Rules.{rules}
use lib.ListN.{get_or, set}
use Rattle.laws.specs.Lists.{puts_at}
use Rattle.laws.specs.Bits.{flag}
use Rattle.panel_calls.specs.StateBytes.{word_byte}
use Rattle.panel_calls.proofs.state_bytes.StateLaws.{two-lower, two-upper, scan-stored}
use Rattle.panel_calls.proofs.state_bytes.put_scan.Goals as goal

byte_flag : (b : Bool) → bool_byte b ≡ flag b
byte_flag true = refl
byte_flag false = refl

pub returns : goal.returns
returns c =
    let a = c.args in
    let s = a.scan.now in
    let fits : Fits w16 s.rail = search rules in
    let e = c.to_le_bytes.ensures in
    let running = c.from.ensures ∙ byte_flag s.running in
    let front = ap (λ (x : ℕ). set (set (set (set (set a.bytes.now 0 x) 1 s.block) 2 s.cell) 3 (get_or c.to_le_bytes.result 0 0)) 4 (get_or c.to_le_bytes.result 1 0)) running
    ∙ ap₂ (λ (x y : ℕ). set (set (set (set (set a.bytes.now 0 (flag s.running)) 1 s.block) 2 s.cell) 3 x) 4 y)
    (two-lower s.rail e) (two-upper s.rail fits.fits e) in
    let words = c.put_words.ensures ∙ ap (puts_at 5 16 (word_byte s.words)) front in
    ap (λ (l : List ℕ). set l 85 s.number) (c.put.ensures ∙ ap (puts_at 21 64 (λ i. get_or s.outputs i 0)) words)
    ∙ scan-stored s a.bytes.now
