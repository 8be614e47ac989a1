-- `sheet::planes::move_bit` meets its contract.
-- Assumes nothing.
use mathlib.Core.Path.{sym, ◌≡◌, ap₂}
use Prim.Native.Nat.{ℕ, ◌*◌, ◌^◌}
use native.Mathlib.Omega.{arith}
use lib.Bits.{bit_or}
use lib.ListN.{get_or}
use lib.Pow.{shl_exact}
use Rattle.laws.proofs.Puts.{puts_none, puts-next, get_or-next}
use Rattle.laws.specs.Bits.{bit}
use Rattle.laws.proofs.Bits.{bit-lt}
use Rattle.sheet.proofs.planes.move_bit.Goals as goal

pub loop-r-init : goal.loop-r-init
loop-r-init c = sym (puts_none (λ r. bit_or (get_or c.args.numbers.now r 0) (bit (get_or c.args.words.now r 0) c.args.from * 2 ^ c.args.k)) c.args.numbers.now)

pub loop-r-preserved : goal.loop-r-preserved
loop-r-preserved c =
    let l = c.loop-r in
    let a = c.args in
    let g : ℕ → ℕ = λ r. bit_or (get_or a.numbers.now r 0) (bit (get_or a.words.now r 0) a.from * 2 ^ a.k) in
    let old : get_or l.numbers l.r 0 ≡ get_or a.numbers.now l.r 0 =
    get_or-next g l.r a.numbers.now l.numbers 0 l.invariant in puts-next g l.r a.numbers.now l.numbers _ l.invariant
    (ap₂ bit_or old (shl_exact 1 a.k 16 (bit-lt (get_or a.words.now l.r 0) a.from) (omega arith)))

pub returns : goal.returns
returns c =
    let l = c.loop-r in
    let e : l.r ≡ 256 = omega arith in
    rw e at l.invariant
