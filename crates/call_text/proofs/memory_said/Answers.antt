-- `call_text::memory_said` meets its contract.
-- Assumes nothing.
use mathlib.Core.Path.{sym}
use native.Mathlib.Omega.{arith}
use lib.Seq.{length-take-le}
use Rattle.call_text.proofs.LineLaws.{line_end-le, memory_read}
use Rattle.call_text.proofs.memory_said.Goals as goal

pub slice_bounds-memory_line-end : goal.slice_bounds-memory_line-end
slice_bounds-memory_line-end c =
    let l = c.args.text.now in
    sym (length-take-le c.line_end.result l (omega (arith, c.line_end.ensures, line_end-le l)))

pub returns : goal.returns
returns c =
    record {
      value = memory_read c.args.text.now c.line_end.result _ c.line_end.ensures c.memory_line.ensures.value;
      within = c.memory_line.ensures.within;
    }
