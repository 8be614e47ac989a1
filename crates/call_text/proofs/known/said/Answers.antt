-- `known::said` meets its contract.
-- Assumes nothing.
use mathlib.Core.Path.{sym, ◌∙◌, ap}
use mathlib.Core.Bool.{Bool, cond, ◌&&◌}
use mathlib.Core.List.{List}
use Prim.Native.Nat.{ℕ}
use lib.ListN.{length, drop}
use Rattle.std.specs.Prelude.{Some, None}
use Rattle.laws.proofs.Cases.{cond_no, and_left_no}
use Rattle.call_text.specs.Words.{begins, hex_word, is_hex_word}
use Rattle.call_text.specs.Known.{says, said}
use Rattle.call_text.proofs.known.said.Goals as goal

pub returns-in_err-after : goal.returns-in_err-after
unfolding says
returns-in_err-after c =
    let name = c.args.name.now in
    let text = c.args.text.now in
    c.from_residual.ensures ∙ sym (cond_no (says name text) _ None (and_left_no (begins name text) (is_hex_word (drop (length name) text)) c.in_err-after.ensures))

pub returns : goal.returns
unfolding says said
returns c =
    let rest = drop (length c.args.name.now) c.args.text.now in
    let (begun, is, long) = c.in_ok-after.ensures in
    c.hex_word.ensures ∙ ap (λ (l : List ℕ). cond (is_hex_word l) (Some (hex_word l)) None) is
    ∙ ap (λ (b : Bool). cond (b && is_hex_word rest) (Some (hex_word rest)) None) (sym begun)
