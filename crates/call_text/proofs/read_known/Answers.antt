-- `call_text::read_known` meets its contract.
-- Assumes nothing.
use mathlib.Core.Path.{sym, ◌∙◌, ap}
use Prim.Native.Nat.{ℕ}
use native.Mathlib.Omega.{arith}
use lib.ListN.{take}
use lib.Seq.{length-take-le}
use Rattle.call_text.specs.Known.{known_line, read_known}
use Rattle.call_text.proofs.LineLaws.{line_end-le}
use Rattle.call_text.proofs.read_known.Goals as goal

pub slice_bounds-known_line-end : goal.slice_bounds-known_line-end
slice_bounds-known_line-end c =
    let l = c.args.text.now in
    sym (length-take-le c.line_end.result l (omega (arith, c.line_end.ensures, line_end-le l)))

pub returns : goal.returns
unfolding read_known
returns c =
    let l = c.args.text.now in
    c.known_line.ensures ∙ ap (λ (k : ℕ). known_line (take k l)) c.line_end.ensures
