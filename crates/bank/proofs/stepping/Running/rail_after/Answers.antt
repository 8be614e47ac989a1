-- `bank::stepping::Running::rail_after` meets its contract.
-- Assumes nothing.
use mathlib.Core.Path.{◌∙◌, ap}
use Prim.Native.Nat.{ℕ, ◌%◌, ◌^◌}
use native.Mathlib.Omega.{arith}
use Rattle.stored_spec.specs.Run.{rail_after}
use Rattle.bank_spec.specs.State.{records_of}
use Rattle.bank.proofs.stepping.NextRead.{block_held, few-lower, lower_is}
use Rattle.bank.proofs.stepping.Running.rail_after.Goals as goal

pub records-records-requires : goal.records-records-requires
records-records-requires c =
    let s = c.args.self.now in
    let k = s.blocks.bank.now in
    let t = s.scan.now in
    omega (arith, c.from.ensures, block_held k t s.formed s.runs)

pub lowest-requires : goal.lowest-requires
lowest-requires c =
    let s = c.args.self.now in
    let k = s.blocks.bank.now in
    let t = s.scan.now in
    let R = c.records-records.ensures ∙ ap (records_of k) c.from.ensures in
    let lower = lower_is k t s.formed s.runs R c.from-2.ensures c.cell_rails-rails.ensures in
    omega (arith, lower, few-lower k t s.formed s.runs)

pub returns : goal.returns
unfolding rail_after
returns c =
    let s = c.args.self.now in
    let k = s.blocks.bank.now in
    let t = s.scan.now in
    let R = c.records-records.ensures ∙ ap (records_of k) c.from.ensures in
    let lower = lower_is k t s.formed s.runs R c.from-2.ensures c.cell_rails-rails.ensures in
    c.lowest.ensures ∙ ap (λ (n : ℕ). c.args.x % 2 ^ n) lower
