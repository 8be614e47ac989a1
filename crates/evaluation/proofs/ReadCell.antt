-- What the code gathers of a cell by numbers is what the rows that may be read give.
-- Assumes nothing.
use mathlib.Core.Path.{◌≡◌, sym, ◌∙◌, ap, ap₂}
use mathlib.Core.Bool.{Bool, true, cond, ◌&&◌}
use mathlib.Core.List.{List}
use Prim.Native.Nat.{ℕ, ◌+◌, ◌-◌, ◌*◌, ◌/◌, ◌%◌, ◌^◌, ◌≤◌, ◌<◌}
use native.Mathlib.Omega.{arith}
use lib.Bits.{bit_and, and_mask}
use lib.ListN.{length, get_or}
use lib.Pow.{pow-add, high, low}
use Rattle.laws.specs.Turns.{in_turn}
use Rattle.laws.proofs.Cases.{by_test, cond_yes, cond_no, no_test}
use Rattle.laws.proofs.Turns.{turns_ext, turns-rect, turns-idle}
use Rattle.stored_spec.specs.Cells.{rows}
use Rattle.stored_spec.specs.RowBytes.{two_bytes, row_value}
use Rattle.stored_spec.specs.StoredForm.{cell_at, size_of, rows_before}
use Rattle.stored_spec.specs.Run.{rail_after}
use Rattle.evaluation_spec.specs.RailSets.{Gathered, none_read, is_in, with_row, agrees, may_read, row_at, read_at, gathered}
use Rattle.evaluation.specs.Agreeing.{Addresses, part_of, rail_row, of_rail, of_bit, of_word, of_place, of_set}
use Rattle.evaluation.proofs.Enumeration.{mask_of, value_of, free_of, count_of, agreeing, by_filling, enumerated}
use Rattle.evaluation.proofs.gather.SetWords.{in_at, rail_place}

module _ (known w : ℕ) (R bytes : List ℕ) (k : ℕ) (s : List ℕ) where
  abbrev is : List ℕ
  is = (cell_at R k).ins

  abbrev n : ℕ
  n = length is

  -- the numbers are those of cell k
  pub record OfCell (p : Addresses) : Type 0 where
    pub at : p.at ≡ rows_before R k
    pub block : p.block ≡ 2 ^ length (cell_at R k).ins
    pub mask : p.mask ≡ mask_of known w (cell_at R k).ins
    pub value : p.value ≡ value_of known w (cell_at R k).ins
    pub free : p.free ≡ free_of known w (cell_at R k).ins
    pub count : p.count ≡ count_of known w (cell_at R k).ins
    pub low : p.low ≡ 2 ^ (cell_at R k).lower - 1
    pub words : p.words ≡ (2 ^ (cell_at R k).upper + 63) / 64

  module _ (p : Addresses) (e : OfCell p) (few : (r : ℕ) → is_in s r ≡ true → r < 2 ^ (cell_at R k).upper) where
    -- the rows of rail word r
    abbrev of_word_at : ℕ → Gathered → Gathered
    of_word_at r g = cond (is_in s r) (of_rail bytes p (p.at + r * p.block) g) g

    -- the row at address a, for rail word r
    abbrev row_of : ℕ → ℕ → Gathered → Gathered
    row_of r a = let x = row_at known w R bytes k (r * 2 ^ n + a) in with_row x (rail_after (cell_at R k) x)

    row_same : (r j : ℕ) (g : Gathered) → by_filling known w Gathered is (row_of r) j g
        ≡ rail_row bytes (p.at + r * p.block + p.value) p.mask p.free p.low j g
    unfolding rail_row row_at rail_after
    row_same r j g =
        let place : rows_before R k + (r * 2 ^ n + (value_of known w is + part_of (mask_of known w is) (free_of known w is) j))
        ≡ p.at + r * p.block + p.value + part_of p.mask p.free j =
        omega
        (arith, e.at, e.value, ap (λ (y : ℕ). r * y) e.block, ap₂ (λ (m f : ℕ). part_of m f j) e.mask e.free) in
        let z = row_value two_bytes bytes (p.at + r * p.block + p.value + part_of p.mask p.free j) in
        ap (λ (y : ℕ). let x = row_value two_bytes bytes y in with_row x (x % 2 ^ (cell_at R k).lower) g) place
        ∙ ap (λ (y : ℕ). with_row z y g) (sym (ap (bit_and z) e.low ∙ and_mask z (cell_at R k).lower))

    may_read_lem : (r a : ℕ) → a < 2 ^ n → may_read known w (cell_at R k) s (r * 2 ^ n + a) ≡ (is_in s r && agrees known w is a)
    unfolding may_read
    may_read_lem r a l = ap₂ (λ (x y : ℕ). is_in s x && agrees known w is y) (high r n l) (low r n l)

    rail-same : (r : ℕ) (g : Gathered) → in_turn (2 ^ n) (λ a. read_at known w R bytes k s (r * 2 ^ n + a)) g ≡ of_word_at r g
    unfolding read_at of_rail
    rail-same r g =
        by_test (is_in s r)
        (λ i.
        turns_ext (λ a. read_at known w R bytes k s (r * 2 ^ n + a)) (agreeing known w Gathered is (row_of r)) (2 ^ n) (λ a l t. ap (λ (b : Bool). cond b (row_of r a t) t) (may_read_lem r a l ∙ ap (λ (b : Bool). b && agrees known w is a) i)) g
        ∙ (enumerated known w Gathered is).same (row_of r) g
        ∙ ap (λ (c : ℕ). in_turn c (by_filling known w Gathered is (row_of r)) g) (sym e.count)
        ∙ turns_ext (by_filling known w Gathered is (row_of r)) (rail_row bytes (p.at + r * p.block + p.value) p.mask p.free p.low) p.count (λ j l t. row_same r j t) g
        ∙ sym (cond_yes (is_in s r) (of_rail bytes p (p.at + r * p.block) g) g i))
        (λ i.
        turns-idle (λ a. read_at known w R bytes k s (r * 2 ^ n + a)) 0 (2 ^ n) (omega arith) (λ a h l t. cond_no _ _ t (may_read_lem r a l ∙ ap (λ (b : Bool). b && agrees known w is a) i)) g
        ∙ sym (cond_no (is_in s r) (of_rail bytes p (p.at + r * p.block) g) g i))

    place_same : (q : ℕ) (g : Gathered) → in_turn 64 (λ b. of_word_at (q * 64 + b)) g ≡ of_place bytes p s q g
    unfolding of_place of_word of_bit
    place_same q g =
        turns_ext (λ b. of_word_at (q * 64 + b)) (of_bit bytes p (get_or s q 0) (p.at + q * 64 * p.block)) 64
        (λ b l t. ap₂ (λ (c : Bool) (x : ℕ). cond c (of_rail bytes p x t) t) (in_at s q b l) (rail_place p.at q b p.block)) g

    pub cell-gathered : of_set bytes p s p.words none_read ≡ gathered known w R bytes k s
    unfolding of_set gathered rows size_of
    cell-gathered =
        let u = (cell_at R k).upper in
        let enough : 2 ^ u ≤ p.words * 64 = omega (arith, e.words) in
        sym (turns_ext (λ q. in_turn 64 (λ b. of_word_at (q * 64 + b))) (of_place bytes p s) p.words (λ q l t. place_same q t) none_read)
        ∙ sym (turns-rect of_word_at p.words 64 none_read)
        ∙ turns-idle of_word_at (2 ^ u) (p.words * 64) enough
        (λ r l h t. cond_no (is_in s r) (of_rail bytes p (p.at + r * p.block) t) t (no_test (is_in s r) (λ i. omega (arith, few r i, l)))) none_read
        ∙ sym (turns_ext (λ r. in_turn (2 ^ n) (λ a. read_at known w R bytes k s (r * 2 ^ n + a))) of_word_at (2 ^ u) (λ r l t. rail-same r t) none_read)
        ∙ sym (turns-rect (read_at known w R bytes k s) (2 ^ u) (2 ^ n) none_read)
        ∙ ap (λ (c : ℕ). in_turn c (read_at known w R bytes k s) none_read) (sym (pow-add 2 u n))
