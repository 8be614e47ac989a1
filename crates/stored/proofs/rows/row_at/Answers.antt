-- `row_at` reads a row.
-- Assumes nothing.
use mathlib.Core.Path.{◌≡◌, sym, ◌∙◌, ap}
use Prim.Native.Nat.{ℕ}
use native.Mathlib.Omega.{arith}
use Rattle.stored_spec.specs.RowBytes.{row_value}
use Rattle.stored_spec.proofs.RowForms.{row_one, row_two}
use Rattle.stored.proofs.rows.row_at.Goals as goal

pub returns-then-this-eq1 : goal.returns-then-this-eq1
returns-then-this-eq1 g c =
    c.from.ensures ∙ sym (row_one c.args.rows.now c.args.i) ∙ ap (λ (z : ℕ). row_value z c.args.rows.now c.args.i) (sym c.if-this-eq1.true)

pub returns : goal.returns
returns g c =
    let e : 2 ≡ g.row.SIZE = omega (arith, c.requires.0, c.requires.1, c.if-this-eq1.false) in
    c.from_le_bytes.ensures ∙ omega (arith, row_two c.args.rows.now c.args.i) ∙ ap (λ (z : ℕ). row_value z c.args.rows.now c.args.i) e
