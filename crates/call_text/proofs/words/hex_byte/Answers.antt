-- `words::hex_byte` meets its contract.
-- Assumes nothing.
use mathlib.Core.Path.{◌≡◌, ◌∙◌, ap, ap₂}
use Prim.Native.Nat.{ℕ, ◌+◌, ◌*◌}
use native.Mathlib.Omega.{arith}
use lib.ListN.{get_or}
use Rattle.call_text.specs.Words.{hex_digit, hex_byte}
use Rattle.call_text.proofs.WordLaws.{hex_below}
use Rattle.call_text.proofs.words.hex_byte.Goals as goal

pub overflow_mul-result : goal.overflow_mul-result
overflow_mul-result c =
    let a = c.args in
    let e : c.hex_digit.result ≡ hex_digit (get_or a.text.now a.i 0) = c.hex_digit.ensures.0 ∙ ap hex_digit c.byte_at.ensures in
    omega (arith, hex_below a.text.now a.i c.requires.1)

pub overflow_add-result : goal.overflow_add-result
overflow_add-result c =
    let a = c.args in
    let h = c.requires in
    let e : c.hex_digit.result ≡ hex_digit (get_or a.text.now a.i 0) = c.hex_digit.ensures.0 ∙ ap hex_digit c.byte_at.ensures in
    let f : c.hex_digit-2.result ≡ hex_digit (get_or a.text.now (a.i + 1) 0) = c.hex_digit-2.ensures.0 ∙ ap hex_digit c.byte_at-2.ensures in
    omega (arith, hex_below a.text.now a.i h.1, hex_below a.text.now (a.i + 1) h.2)

pub returns : goal.returns
unfolding hex_byte
returns c =
    ap₂ (λ (x y : ℕ). 16 * x + y) (c.hex_digit.ensures.0 ∙ ap hex_digit c.byte_at.ensures)
    (c.hex_digit-2.ensures.0 ∙ ap hex_digit c.byte_at-2.ensures)
