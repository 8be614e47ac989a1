-- `words::put_bytes` meets its contract.
-- Assumes nothing.
use mathlib.Core.Path.{◌≡◌, sym, ap}
use Prim.Native.Nat.{◌+◌, ◌*◌, ◌/◌}
use native.Mathlib.Omega.{arith}
use lib.ListN.{length}
use Rattle.laws.proofs.Puts.{puts_at-none, puts_at-next, length-puts_at}
use Rattle.call_text.specs.Words.{hex_byte}
use Rattle.call_text.proofs.WordLaws.{bytes_hex}
use Rattle.call_text.proofs.words.put_bytes.Goals as goal

pub loop-i-init : goal.loop-i-init
loop-i-init c =
    let a = c.args in
    sym (puts_at-none (λ k. hex_byte a.text.now (2 * k)) a.at a.code.now)

pub hex_byte-requires : goal.hex_byte-requires
hex_byte-requires c =
    let l = c.loop-i in
    let text = c.args.text.now in
    (omega arith, bytes_hex text c.requires.0 (2 * l.i) (omega arith), bytes_hex text c.requires.0 (2 * l.i + 1) (omega arith))

pub bounds-code-at : goal.bounds-code-at
bounds-code-at c =
    let l = c.loop-i in
    let long : length l.code ≡ length c.args.code.now = rw length-puts_at at (ap length l.invariant) in
    omega arith

pub loop-i-preserved : goal.loop-i-preserved
loop-i-preserved c =
    let l = c.loop-i in
    let a = c.args in
    puts_at-next (λ k. hex_byte a.text.now (2 * k)) a.at l.i a.code.now l.code _ l.invariant c.hex_byte.ensures

pub shape_of-code : goal.shape_of-code
shape_of-code c = rw length-puts_at at (ap length c.loop-i.invariant)

pub returns : goal.returns
returns c =
    let l = c.loop-i in
    let e : l.i ≡ length c.args.text.now / 2 = omega arith in
    rw e at l.invariant
