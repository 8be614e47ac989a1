-- `reduction::merging::renumber` meets its contract.
-- Assumes nothing.
use mathlib.Core.Path.{◌≡◌, sym, ◌∙◌, ap}
use Prim.Native.Nat.{ℕ, ◌<◌, ◌+◌}
use Rattle.laws.proofs.Puts.{puts_none, puts-next}
use Rattle.reduction_spec.specs.Numbering.{index_in, firsts_of}
use Rattle.reduction.specs.Distinct.{same_owner}
use Rattle.reduction.proofs.merging.CliqueNumbers.{first_marks, first_count, found, found_count, found_next, few}
use native.Mathlib.Omega.{arith}
use Rattle.reduction.proofs.merging.renumber.Goals as goal

pub loop-c-init : goal.loop-c-init
loop-c-init c =
    let a = c.args in
    let o = a.owner.now in
    (first_count o, first_marks o, sym (puts_none (λ c. index_in (same_owner o) (firsts_of (same_owner o) c) c) a.nums.now))

pub number_of-i-requires : goal.number_of-i-requires
number_of-i-requires c =
    let l = c.loop-c in
    omega (arith, few c.args.owner.now l.c, l.invariant.0)

pub overflow_add-seen : goal.overflow_add-seen
overflow_add-seen c =
    let l = c.loop-c in
    let o = c.args.owner.now in
    let x = c.from-g in
    let k : x.result < 512 =
    omega (arith, c.requires.1 l.c (omega arith), x.ensures) in
    let f = found o l.c l.seen l.invariant.1 x.result x.ensures k l.count c.number_of-i.result l.invariant.0
    c.number_of-i.ensures in
    omega (arith, f.1)

pub overflow_cast-seen : goal.overflow_cast-seen
overflow_cast-seen c =
    let l = c.loop-c in
    let o = c.args.owner.now in
    let x = c.from-g in
    let k : x.result < 512 =
    omega (arith, c.requires.1 l.c (omega arith), x.ensures) in
    let f = found o l.c l.seen l.invariant.1 x.result x.ensures k l.count c.number_of-i.result l.invariant.0
    c.number_of-i.ensures in
    omega (arith, f.1)

pub overflow_cast-nums : goal.overflow_cast-nums
overflow_cast-nums c =
    let l = c.loop-c in
    let o = c.args.owner.now in
    let x = c.from-g in
    let k : x.result < 512 =
    omega (arith, c.requires.1 l.c (omega arith), x.ensures) in
    let f = found o l.c l.seen l.invariant.1 x.result x.ensures k l.count c.number_of-i.result l.invariant.0
    c.number_of-i.ensures in
    omega (arith, f.1)

pub counted-count-requires : goal.counted-count-requires
counted-count-requires c =
    let l = c.loop-c in
    omega (arith, few c.args.owner.now l.c, l.invariant.0)

pub loop-c-preserved : goal.loop-c-preserved
loop-c-preserved c =
    let l = c.loop-c in
    let o = c.args.owner.now in
    let x = c.from-g in
    let k : x.result < 512 =
    omega (arith, c.requires.1 l.c (omega arith), x.ensures) in
    let f = found o l.c l.seen l.invariant.1 x.result x.ensures k l.count c.number_of-i.result l.invariant.0
    c.number_of-i.ensures in
    let m = l.invariant.1 in (
      c.counted-count.ensures ∙ found_count o l.c l.seen m x.result x.ensures k l.count l.invariant.0,
      found_next o l.c l.seen m x.result x.ensures k _
          (ap (λ (y : ℕ). y + 1) f.0),
      puts-next (λ c. index_in (same_owner o) (firsts_of (same_owner o) c) c) l.c
          c.args.nums.now l.nums _ l.invariant.2 f.0,
    )

pub returns : goal.returns
returns c =
    let l = c.loop-c in
    let e : l.c ≡ c.args.w = omega arith in
    record {
      value = rw e at l.invariant.0;
      nums_after = rw e at l.invariant.2;
    }
