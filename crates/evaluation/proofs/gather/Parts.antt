-- Numbers made of the bits of a mask, one after another.
-- Assumes nothing.
use mathlib.Core.Path.{◌≡◌, sym, ◌∙◌, ap}
use Prim.Native.Nat.{ℕ, zero, suc, ◌+◌, ◌^◌, ◌≤◌, ◌<◌}
use native.Mathlib.Numerals.{add-one}
use native.Mathlib.Omega.{arith}
use mathlib.Core.List.{List}
use lib.Bits.{bit_and, and_le_r}
use lib.Pow.{pow_mono}
use Rattle.laws.specs.Turns.{in_turn}
use Rattle.stored_spec.specs.RowBytes.{two_bytes, row_value}
use Rattle.evaluation_spec.specs.RailSets.{Gathered, with_row}
use Rattle.evaluation.specs.Agreeing.{part_of, rail_row, Whole}

pub part_le : (mask free j : ℕ) → part_of mask free j ≤ free
unfolding part_of
part_le mask free zero = omega arith
part_le mask free (suc j) = and_le_r (part_of mask free j + mask + 1) free

pub part_next : (mask free j : ℕ) {x : ℕ} → x ≡ part_of mask free j → bit_and (x + mask + 1) free ≡ part_of mask free (j + 1)
unfolding part_of
part_next mask free j e = ap (λ (y : ℕ). bit_and (y + mask + 1) free) e ∙ ap (part_of mask free) (sym (add-one j))

-- one row more
pub row_next : (bytes : List ℕ) (first mask free low j : ℕ) (s : Gathered) {p x : ℕ} {g h : Gathered} → p ≡ part_of mask free j
    → x ≡ row_value two_bytes bytes (first + p) → g ≡ in_turn j (rail_row bytes first mask free low) s → h ≡ with_row x (bit_and x low) g
    → h ≡ in_turn (j + 1) (rail_row bytes first mask free low) s
unfolding rail_row
row_next bytes first mask free low j s {g = g} p is q e =
    e ∙ ap (λ (y : ℕ). with_row y (bit_and y low) g) (is ∙ ap (λ (y : ℕ). row_value two_bytes bytes (first + y)) p)
    ∙ ap (rail_row bytes first mask free low j) q ∙ ap (λ (n : ℕ). in_turn n (rail_row bytes first mask free low) s) (sym (add-one j))

pub whole-small : {mask free : ℕ} → Whole mask free → mask + free < 4096
whole-small w = let h : 2 ^ w.inputs ≤ 4096 = pow_mono {j = 12} w.few in omega (arith, w.all, h)
