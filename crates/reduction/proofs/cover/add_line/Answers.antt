-- `reduction::cover::add_line` meets its contract.
-- Assumes nothing.
use mathlib.Core.Path.{◌≡◌, sym, ◌∙◌, ap, ap₂}
use mathlib.Core.List.{List}
use Prim.Native.Nat.{ℕ, ◌+◌}
use native.Mathlib.Omega.{arith}
use lib.ListN.{get_or}
use Rattle.laws.specs.Bits.{flag}
use Rattle.laws.proofs.Puts.{puts_none, puts-next, get_or_unput}
use Rattle.reduction_spec.specs.Cover.{is_in}
use Rattle.reduction.proofs.cover.add_line.Goals as goal

-- what is stored at place i
abbrev more : List ℕ → ℕ → List ℕ → ℕ → ℕ
more link base tally i = get_or tally i 0 + flag (is_in link (base + i))

pub loop-d-init : goal.loop-d-init
loop-d-init c =
    let a = c.args in
    sym (puts_none (more a.link.now a.base a.tally.now) a.tally.now)

pub overflow_add-tally : goal.overflow_add-tally
overflow_add-tally c =
    let l = c.loop-d in
    let a = c.args in
    let old : get_or l.tally l.d 0 ≡ get_or a.tally.now l.d 0 =
    ap (λ (s : List ℕ). get_or s l.d 0) l.invariant ∙ get_or_unput (more a.link.now a.base a.tally.now) l.d a.tally.now 0 l.d (omega arith) in
    omega (arith, old, c.requires.2 l.d (omega arith), c.one.ensures.1)

pub loop-d-preserved : goal.loop-d-preserved
loop-d-preserved c =
    let l = c.loop-d in
    let a = c.args in
    let g = more a.link.now a.base a.tally.now in
    let old : get_or l.tally l.d 0 ≡ get_or a.tally.now l.d 0 =
    ap (λ (s : List ℕ). get_or s l.d 0) l.invariant ∙ get_or_unput g l.d a.tally.now 0 l.d (omega arith) in
    puts-next g l.d a.tally.now l.tally _ l.invariant (ap₂ (λ (x y : ℕ). x + y) old c.one.ensures.0)
