-- Cells that are not larger than the largest: at most 4,096 rows and 32,768 bits, and what the code answers of them.
-- Assumes nothing.
use mathlib.Core.Path.{◌≡◌, sym, ◌∙◌, ap}
use mathlib.Core.Bool.{true, false}
use Prim.Native.Nat.{ℕ, ◌*◌, ◌%◌, ◌^◌, ◌≤◌}
use native.Mathlib.Nat.{mul-le-mul, le_trans}
use native.Mathlib.Omega.{arith}
use borrow.Author.Tests.{leb-true, le-leb}
use lib.Dec.{leb}
use lib.Pow.{pow_mono}
use Rattle.laws.proofs.Cases.{by_test, and_split, and_join, cond_yes, cond_no}
use Rattle.sheet_spec.specs.Limits.{largest_inputs, largest_outputs}
use Rattle.stored_spec.specs.Cells.{Cell, cell, fits, rows, bits, usable_rows, usable_bits}

-- a cell that fits, by its numbers
module _ (k l : ℕ) (c : Cell) where
  pub fits-split : fits k l c ≡ true → (c.inputs ≤ k) × (c.outputs ≤ l)
  unfolding fits
  fits-split e =
      let (i, o) = and_split (leb c.inputs k) (leb c.outputs l) e in
      (leb-true c.inputs k i, leb-true c.outputs l o)

  pub fits_join : c.inputs ≤ k → c.outputs ≤ l → fits k l c ≡ true
  unfolding fits
  fits_join i o = and_join (le-leb c.inputs k i) (le-leb c.outputs l o)

-- within limits of which none is over the largest cell's
pub fits_largest : (k l : ℕ) (c : Cell) → k ≤ largest_inputs → l ≤ largest_outputs → fits k l c ≡ true → fits largest_inputs largest_outputs c ≡ true
fits_largest k l c p q e =
    let (i, o) = fits-split k l c e in
    fits_join largest_inputs largest_outputs c (le_trans i p) (le_trans o q)

module _ (c : Cell) (e : fits largest_inputs largest_outputs c ≡ true) where
  pub few-inputs : c.inputs ≤ largest_inputs
  few-inputs = (fits-split largest_inputs largest_outputs c e).0

  pub few-outputs : c.outputs ≤ largest_outputs
  few-outputs = (fits-split largest_inputs largest_outputs c e).1

  pub few-rows : 2 ^ c.inputs ≤ 4096
  few-rows = pow_mono few-inputs

  pub usable_rows_lem : usable_rows c ≡ rows c
  unfolding usable_rows
  usable_rows_lem = cond_yes (fits largest_inputs largest_outputs c) (rows c) 0 e

  pub usable_bits_lem : usable_bits c ≡ bits c
  unfolding usable_bits
  usable_bits_lem = cond_yes (fits largest_inputs largest_outputs c) (bits c) 0 e

  -- as the code makes them
  power : 1 * 2 ^ c.inputs % 2 ^ 64 ≡ 2 ^ c.inputs
  power = omega (arith, few-rows)

  pub few_bits : 1 * 2 ^ c.inputs % 2 ^ 64 * c.outputs ≤ 4096 * 16
  few_bits = let r : 1 * 2 ^ c.inputs % 2 ^ 64 ≤ 4096 = omega (arith, power, few-rows) in mul-le-mul r few-outputs

  pub rows_are : 1 * 2 ^ c.inputs % 2 ^ 64 ≡ usable_rows c
  unfolding rows
  rows_are = power ∙ sym usable_rows_lem

  pub bits_are : 1 * 2 ^ c.inputs % 2 ^ 64 * c.outputs ≡ usable_bits c
  unfolding bits rows
  bits_are = ap (λ (x : ℕ). x * c.outputs) power ∙ sym usable_bits_lem

-- of so many inputs and outputs
pub size-rows : (i o : ℕ) → i ≤ largest_inputs → o ≤ largest_outputs → usable_rows (cell i o) ≡ 2 ^ i
unfolding rows
size-rows i o p q = usable_rows_lem (cell i o) (fits_join largest_inputs largest_outputs (cell i o) p q)

module _ (c : Cell) (e : fits largest_inputs largest_outputs c ≡ false) where
  pub rows_none : 0 ≡ usable_rows c
  unfolding usable_rows
  rows_none = sym (cond_no (fits largest_inputs largest_outputs c) (rows c) 0 e)

  pub bits_none : 0 ≡ usable_bits c
  unfolding usable_bits
  bits_none = sym (cond_no (fits largest_inputs largest_outputs c) (bits c) 0 e)

-- of any cell
module _ (c : Cell) where
  pub rows-small : usable_rows c ≤ 4096
  rows-small =
      by_test (fits largest_inputs largest_outputs c) (λ e. omega (arith, rows_are c e, few-rows c e)) (λ e. omega (arith, rows_none c e))

  pub bits_small : usable_bits c ≤ 65536
  bits_small =
      by_test (fits largest_inputs largest_outputs c) (λ e. omega (arith, bits_are c e, few_bits c e)) (λ e. omega (arith, bits_none c e))
