-- Rows tested by the bits that some of them has.
-- Assumes nothing.
use mathlib.Core.Path.{◌≡◌, sym, ◌∙◌, ap}
use mathlib.Core.Bool.{Bool, true, ◌&&◌}
use mathlib.Core.List.{List}
use Prim.Native.Nat.{ℕ, zero, suc, ◌+◌, ◌-◌, ◌*◌, ◌/◌, ◌^◌, ◌≤◌, ◌<◌}
use native.Mathlib.Nat.{add-mul, mul-le-mul_left}
use native.Mathlib.Omega.{arith}
use lib.Bits.{bit_or, or_lt, or_add_and, and_le_l, and_le_r}
use mir.Syntax.{w8}
use mir.Val.{Fits}
use lib.Dec.{ltb}
use lib.ListN.{length, get_or, take, drop, length-drop}
use lib.Seq.{length-take-le}
use lib.Pow.{pow_pos}
use borrow.Author.Tests.{ltb-true, lt-ltb}
use Rattle.laws.specs.Bits.{marks}
use Rattle.laws.specs.Tests.{every}
use Rattle.laws.proofs.Cases.{and_split, and_join, same_test}
use Rattle.laws.proofs.Marks.{marks_ext}
use Rattle.laws.proofs.Tests.{every_of}
use Rattle.stored_spec.specs.RowBytes.{row_value, room}
use Rattle.stored_spec.proofs.RowForms.{row_lt, row_part, rows-room}
use Rattle.stored.specs.Formed.{bits_of}

-- an or is below a power of 2 where both numbers are
or_below : (n a b : ℕ) → ltb (bit_or a b) (2 ^ n) ≡ (ltb a (2 ^ n) && ltb b (2 ^ n))
or_below n a b =
    let whole = or_add_and a b in
    let left = and_le_l a b in
    let right = and_le_r a b in
    same_test (ltb (bit_or a b) (2 ^ n)) (ltb a (2 ^ n) && ltb b (2 ^ n))
    (λ e.
    let l = ltb-true (bit_or a b) (2 ^ n) e in
    and_join (lt-ltb a (2 ^ n) (omega (arith, l, whole, right))) (lt-ltb b (2 ^ n) (omega (arith, l, whole, left))))
    (λ e.
    let (p, q) = and_split (ltb a (2 ^ n)) (ltb b (2 ^ n)) e in
    lt-ltb (bit_or a b) (2 ^ n) (or_lt n a b (ltb-true a (2 ^ n) p) (ltb-true b (2 ^ n) q)))

-- numbers put over one another are below a power of 2 where each is
marks_below : (n : ℕ) (g : ℕ → ℕ) (k : ℕ) → ltb (marks 0 g k) (2 ^ n) ≡ every k (λ i. ltb (g i) (2 ^ n))
unfolding marks
marks_below n g zero = lt-ltb 0 (2 ^ n) (pow_pos n)
marks_below n g (suc k) = or_below n (marks 0 g k) (g k) ∙ ap (λ (b : Bool). b && ltb (g k) (2 ^ n)) (marks_below n g k)

-- rows of z bytes
module _ (z : ℕ) (some : 0 < z) (rows : List ℕ) (at n : ℕ) where
  -- the bits of a part are those of its rows
  part_bits : (count : ℕ) → room z (at + count) ≤ length rows
      → bits_of z (take (room z count) (drop (room z at) rows)) ≡ marks 0 (λ i. row_value z rows (at + i)) count
  unfolding room
  part_bits count l =
      let part = take (count * z) (drop (at * z) rows) in
      let size : length part ≡ count * z = length-take-le (count * z) (drop (at * z) rows) (omega (arith, length-drop (at * z) rows, l, add-mul at count z)) in
      let whole : length part / z ≡ count = ap (λ (k : ℕ). k / z) size ∙ rows-room z some count in
      ap (marks 0 (row_value z part)) whole
      ∙ marks_ext 0 (row_value z part) (λ i. row_value z rows (at + i)) count (λ i h. row_part z rows at count i h)

  pub bits_below : (count : ℕ) → room z (at + count) ≤ length rows
      → ltb (bits_of z (take (room z count) (drop (room z at) rows))) (2 ^ n) ≡ every count (λ i. ltb (row_value z rows (at + i)) (2 ^ n))
  bits_below count l = ap (λ (b : ℕ). ltb b (2 ^ n)) (part_bits count l) ∙ marks_below n (λ i. row_value z rows (at + i)) count

-- any row of z bytes is below 2^(8 z)
pub any_below : (z : ℕ) (rows : List ℕ) (at n : ℕ) → n ≡ 8 * z → ((i : ℕ) → Fits w8 (get_or rows i 0)) → (count : ℕ)
    → true ≡ every count (λ i. ltb (row_value z rows (at + i)) (2 ^ n))
any_below z rows at n e h count =
    let p : 2 ^ (8 * z) ≡ 2 ^ n = ap (λ (k : ℕ). 2 ^ k) (sym e) in
    sym (every_of (λ i. ltb (row_value z rows (at + i)) (2 ^ n)) count
    (λ i l. lt-ltb (row_value z rows (at + i)) (2 ^ n) (omega (arith, p, row_lt z rows (λ k. omega (arith, h k)) (at + i)))))

-- rows take their size each
pub room_some : (z n : ℕ) → 1 ≤ z → n ≤ room z n
unfolding room
room_some z n h = let m = mul-le-mul_left n h in omega (arith, m)

-- rows that are within the bytes, as the code cuts them out
pub cut_out : (z : ℕ) (rows : List ℕ) (at count : ℕ) → room z (at + count) ≤ length rows
    → (at * z ≤ length rows) × ((at + count) * z ≤ length rows) × ((at + count) * z - at * z ≡ room z count)
unfolding room
cut_out z rows at count l = let m = add-mul at count z in (omega (arith, l, m), l, omega (arith, m))
