-- `reduction::links::fill_row` meets its contract.
-- Assumes nothing.
use mathlib.Core.Bool.{Bool}
use Prim.Native.Nat.{ℕ}
use Rattle.reduction.specs.Distinct.{linked_words}
use Rattle.reduction.specs.FirstBytes.{agree_to}
use Rattle.reduction.proofs.links.FirstBytes.{flags_ext, flags_put}
use Rattle.reduction.proofs.links.LinkRows.{linked_one, linked-none, linked-confirmed}
use Rattle.reduction.proofs.links.fill_row.Goals as goal

pub returns-then-size-eq1 : goal.returns-then-size-eq1
returns-then-size-eq1 c =
    let a = c.args in
    let p = c.requires in
    let h = c.narrow_all-left.ensures.flags in
    let g : ℕ → Bool = agree_to a.bytes.now.zero a.bytes.now.one a.c 8 in
    flags_ext a.w g _ h (linked_words a.planes.now.zero a.planes.now.one a.size a.firsts.now a.c) (linked_one a.planes.now.zero a.planes.now.one a.size a.firsts.now a.w a.bytes.now.zero a.bytes.now.one p.spread.0 p.spread.1 a.c p.in_range.0 c.if-size-eq1.true)

pub returns-then-left : goal.returns-then-left
returns-then-left c =
    let a = c.args in
    let p = c.requires in
    let h = c.narrow_all-left.ensures.flags in
    let g : ℕ → Bool = agree_to a.bytes.now.zero a.bytes.now.one a.c 8 in
    rw c.confirm_row.ensures (flags_put a.w g _ h (linked_words a.planes.now.zero a.planes.now.one a.size a.firsts.now a.c) _ p.in_range.1 (λ d k. linked-confirmed a.planes.now.zero a.planes.now.one a.size a.firsts.now a.w a.bytes.now.zero a.bytes.now.one p.spread.0 p.spread.1 a.c p.in_range.0 p.in_range.2 _ d k (h.flags d k)))

pub returns : goal.returns
returns c =
    let a = c.args in
    let p = c.requires in
    let h = c.narrow_all-left.ensures.flags in
    let g : ℕ → Bool = agree_to a.bytes.now.zero a.bytes.now.one a.c 8 in
    flags_ext a.w g _ h (linked_words a.planes.now.zero a.planes.now.one a.size a.firsts.now a.c) (linked-none a.planes.now.zero a.planes.now.one a.size a.firsts.now a.w a.bytes.now.zero a.bytes.now.one p.spread.0 p.spread.1 a.c p.in_range.0 p.in_range.2 (c.narrow_all-left.ensures.none_left c.if-left.false))
