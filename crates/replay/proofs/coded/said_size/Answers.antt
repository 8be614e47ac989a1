-- `replay::coded::said_size` meets its contract.
-- Assumes nothing.
use mathlib.Core.Path.{◌≡◌}
use native.Mathlib.Omega.{arith}
use borrow.Author.Tests.{ne_eqb}
use lib.ListN.{get_or}
use Rattle.replay.specs.Coded.{said_size}
use Rattle.replay.proofs.coded.said_size.Goals as goal

pub returns-in-0 : goal.returns-in-0
unfolding said_size
returns-in-0 c =
    let e : get_or c.args.list.now 0 0 ≡ 0 = omega arith in
    rw e

pub returns-in-1 : goal.returns-in-1
unfolding said_size
returns-in-1 c =
    let e : get_or c.args.list.now 0 0 ≡ 1 = omega arith in
    rw e (omega arith)

pub returns-in-2 : goal.returns-in-2
unfolding said_size
returns-in-2 c =
    let e : get_or c.args.list.now 0 0 ≡ 2 = omega arith in
    rw e

pub returns-in-3 : goal.returns-in-3
unfolding said_size
returns-in-3 c =
    let e : get_or c.args.list.now 0 0 ≡ 3 = omega arith in
    rw e

pub returns-in-4 : goal.returns-in-4
unfolding said_size
returns-in-4 c =
    let e : get_or c.args.list.now 0 0 ≡ 4 = omega arith in
    rw e (omega arith)

pub returns-in_default : goal.returns-in_default
unfolding said_size
returns-in_default c =
    let h = c.in_default in
    let x = get_or c.args.list.now 0 0 in
    rw (
      ne_eqb x 0 (λ e. absurd (omega arith)),
      ne_eqb x 1 (λ e. absurd (omega arith)),
      ne_eqb x 2 (λ e. absurd (omega arith)),
      ne_eqb x 3 (λ e. absurd (omega arith)),
      ne_eqb x 4 (λ e. absurd (omega arith)),
    )
