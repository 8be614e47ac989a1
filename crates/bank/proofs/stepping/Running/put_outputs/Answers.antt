-- `bank::stepping::Running::put_outputs` meets its contract.
-- Assumes nothing.
use mathlib.Core.Path.{◌≡◌}
use Prim.Native.Nat.{◌+◌, ◌-◌, ◌*◌, ◌≤◌}
use borrow.Rule.Slice.PartMut.{mid_of}
use lib.ListN.{length}
use native.Mathlib.Omega.{arith}
use Rattle.bank.proofs.stepping.NextRead.{block_below, block_held, outputs_are, outputs_back}
use borrow.Author.Rules.{rules}
use mathlib.Core.Path.{◌∙◌, ap}
use Rattle.bank_spec.specs.State.{records_of}
use Rattle.bank.proofs.stepping.Running.put_outputs.Goals as goal

pub records-requires : goal.records-requires
records-requires c =
    let s = c.args.self.now in
    let k = s.blocks.bank.now in
    let t = s.scan.now in
    omega (arith, c.from-b.ensures, block_held k t s.formed s.runs)

pub slice_bounds-set_outputs-end : goal.slice_bounds-set_outputs-end
slice_bounds-set_outputs-end c =
    let s = c.args.self.now in
    let below = block_below s.blocks.bank.now s.scan.now s.formed s.runs in
    let inside : c.from-b.result * 8 + 8 ≤ 64 = omega (arith, c.from-b.ensures) in
    inside

pub returns : goal.returns
returns c =
    let s = c.args.self.now in
    let k = s.blocks.bank.now in
    let t = s.scan.now in
    let b = c.from-b in
    let outs = c.args.outputs.now in
    let size : length c.set_outputs.new.outputs ≡ b.result * 8 + 8 - b.result * 8 = search rules in
    let l = mid_of (b.result * 8) (b.result * 8 + 8 - b.result * 8) outs in
    let R = c.records.ensures ∙ ap (records_of k) b.ensures in
    let after = outputs_are k t s.formed s.runs R c.from.ensures c.args.x l c.set_outputs.ensures in
    outputs_back k t s.formed s.runs c.args.x outs b.ensures size after
