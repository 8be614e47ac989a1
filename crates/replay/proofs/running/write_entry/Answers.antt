-- `replay::running::write_entry` meets its contract.
-- Assumes nothing.
use mathlib.Core.Path.{◌∙◌, ap}
use mathlib.Core.Bool.{cond}
use Prim.Native.Nat.{◌*◌}
use native.Mathlib.Omega.{arith}
use lib.Dec.{ltb}
use lib.ListN.{length, get_or, length-set}
use Rattle.laws.proofs.Puts.{length-puts_at}
use Rattle.replay.specs.Entries.{kind_of, first_of, second_of}
use Rattle.replay.specs.Replay.{call_answer}
use Rattle.replay.proofs.Traces.{entry-stored}
use Rattle.replay.proofs.running.write_entry.Goals as goal

pub bounds-trace-at-2 : goal.bounds-trace-at-2
bounds-trace-at-2 c = simp length-set (omega arith)

pub bounds-trace-at-3 : goal.bounds-trace-at-3
bounds-trace-at-3 c = simp length-set (omega arith)

pub bounds-trace-at-4 : goal.bounds-trace-at-4
bounds-trace-at-4 c = simp length-set (omega arith)

pub write_outputs-requires : goal.write_outputs-requires
write_outputs-requires c = simp length-set (omega arith)

pub shape_of-trace : goal.shape_of-trace
shape_of-trace c = ap length c.write_outputs.ensures ∙ simp (length-puts_at, length-set)

pub returns-clause-entry : goal.returns-clause-entry
returns-clause-entry c =
    let a = call_answer c.args.answer in
    (rw c.bytes.ensures at c.write_outputs.ensures)
    ∙ entry-stored c.args.trace.now c.args.at (kind_of a) (first_of a) (second_of a) c.args.count
    (λ i. cond (ltb i (8 * c.args.count)) (get_or c.args.outputs.now i 0) 2) c.requires
