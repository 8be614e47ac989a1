-- `sheet::lines::write_line` meets its contract.
-- Assumes nothing.
use mathlib.Core.Path.{◌≡◌, sym}
use native.Mathlib.Omega.{arith}
use lib.ListN.{get_or}
use Rattle.laws.proofs.Puts.{puts_at-none, puts_at-next}
use Rattle.sheet.specs.Planes.{line_value}
use Rattle.sheet.proofs.lines.write_line.Goals as goal

pub loop-x-init : goal.loop-x-init
loop-x-init c =
    let a = c.args in
    sym (puts_at-none (λ x. line_value (get_or a.planes.now.zeros x 0) (get_or a.planes.now.ones x 0) a.o) a.base a.table.now)

pub loop-x-preserved : goal.loop-x-preserved
loop-x-preserved c =
    let l = c.loop-x in
    let a = c.args in puts_at-next (λ x. line_value (get_or a.planes.now.zeros x 0) (get_or a.planes.now.ones x 0) a.o) a.base l.x a.table.now l.table _ l.invariant c.value_of.ensures

pub returns : goal.returns
returns c =
    let l = c.loop-x in
    let a = c.args in
    let e : l.x ≡ a.count = omega arith in
    rw e at l.invariant
