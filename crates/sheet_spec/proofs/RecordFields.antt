-- What a record that is not malformed, and an order with each variable once, give.
-- Assumes nothing.
use mathlib.Core.Path.{◌≡◌, sym, ◌∙◌, ap}
use mathlib.Core.Bool.{true, false, ◌&&◌}
use mathlib.Core.List.{List}
use Prim.Native.Nat.{ℕ, ◌+◌, ◌^◌, ◌<◌}
use native.Mathlib.Nat.{zero-add}
use native.Mathlib.Omega.{arith}
use lib.Dec.{eqb, ltb}
use lib.ListN.{length, get_or}
use lib.Bits.{bit_and}
use borrow.Author.Tests.{ltb-true, eqb-true, not-false}
use Rattle.laws.proofs.Cases.{and_split}
use Rattle.laws.proofs.Tests.{every_at, any_out}
use Rattle.laws.proofs.Find.{least-hit}
use Rattle.laws.proofs.Masks.{least_counted}
use Rattle.sheet_spec.specs.Records.{record_count, byte, kind, mask, values, zeros, ones}
use Rattle.sheet_spec.specs.Refusals.{malformed, any_malformed, times, each_once, not_each_once, place_of}

-- no bit outside n or m, no value bit outside the mask, no output in bytes 4 and 5, byte 6 at most 1
pub record Good (n m : ℕ) (s : List ℕ) (r : ℕ) : Type 0 where
  pub mask_low : mask s r < 2 ^ n
  pub values_low : values s r < 2 ^ n
  pub zeros-low : zeros s r < 2 ^ m
  pub ones_low : ones s r < 2 ^ m
  pub values_in : bit_and (values s r) (mask s r) ≡ values s r
  pub parted : bit_and (zeros s r) (ones s r) ≡ 0
  pub kind-low : kind s r < 2

pub good_of : (n m : ℕ) (s : List ℕ) (r : ℕ) → malformed n m s r ≡ false → Good n m s r
unfolding malformed
good_of n m s r e =
    let a1 = ltb (mask s r) (2 ^ n) in
    let a2 = a1 && ltb (values s r) (2 ^ n) in
    let a3 = a2 && ltb (zeros s r) (2 ^ m) in
    let a4 = a3 && ltb (ones s r) (2 ^ m) in
    let a5 = a4 && eqb (bit_and (values s r) (mask s r)) (values s r) in
    let a6 = a5 && eqb (bit_and (zeros s r) (ones s r)) 0 in
    let a7 = a6 && ltb (kind s r) 2 in
    let p7 = (and_split a7 (eqb (byte s r 7) 0) (not-false (a7 && eqb (byte s r 7) 0) e)).0 in
    let p6 = and_split a6 (ltb (kind s r) 2) p7 in
    let p5 = and_split a5 (eqb (bit_and (zeros s r) (ones s r)) 0) p6.0 in
    let p4 = and_split a4 (eqb (bit_and (values s r) (mask s r)) (values s r)) p5.0 in
    let p3 = and_split a3 (ltb (ones s r) (2 ^ m)) p4.0 in
    let p2 = and_split a2 (ltb (zeros s r) (2 ^ m)) p3.0 in
    let p1 = and_split a1 (ltb (values s r) (2 ^ n)) p2.0 in
    record {
      mask_low = ltb-true (mask s r) (2 ^ n) p1.0;
      values_low = ltb-true (values s r) (2 ^ n) p1.1;
      zeros-low = ltb-true (zeros s r) (2 ^ m) p2.1;
      ones_low = ltb-true (ones s r) (2 ^ m) p3.1;
      values_in = eqb-true (bit_and (values s r) (mask s r)) (values s r) p4.1;
      parted = eqb-true (bit_and (zeros s r) (ones s r)) 0 p5.1;
      kind-low = ltb-true (kind s r) 2 p6.1;
    }

pub good_at : (n m : ℕ) (s : List ℕ) → any_malformed n m s ≡ false → (r : ℕ) → r < record_count s → Good n m s r
unfolding any_malformed
good_at n m s e r h = good_of n m s r (any_out (malformed n m s) (record_count s) e r h)

-- the order has n + m places; a variable in it stands at its place
module _ (n m : ℕ) (order : List ℕ) (e : not_each_once n m order ≡ false) where
  pub order_tests : (length order ≡ n + m) × (each_once order 0 n ≡ true) × (each_once order 128 m ≡ true)
  unfolding not_each_once
  order_tests =
      let all = not-false (eqb (length order) (n + m) && each_once order 0 n && each_once order 128 m) e in
      let both = and_split (eqb (length order) (n + m) && each_once order 0 n) (each_once order 128 m) all in
      let first = and_split (eqb (length order) (n + m)) (each_once order 0 n) both.0 in
      (eqb-true (length order) (n + m) first.0, first.1, both.1)

  pub order-length : length order ≡ n + m
  order-length = order_tests.0

  pub input_once : (i : ℕ) → i < n → times order i ≡ 1
  unfolding each_once
  input_once i h =
      ap (times order) (sym (zero-add i))
      ∙ eqb-true (times order (0 + i)) 1 (every_at (λ k. eqb (times order (0 + k)) 1) n order_tests.1 i h)

  pub output_once : (o : ℕ) → o < m → times order (128 + o) ≡ 1
  unfolding each_once
  output_once o h = eqb-true (times order (128 + o)) 1 (every_at (λ k. eqb (times order (128 + k)) 1) m order_tests.2 o h)

pub place_lt : (order : List ℕ) (v : ℕ) → times order v ≡ 1 → place_of order v < length order
unfolding times place_of
place_lt order v e = least_counted (λ i. eqb (get_or order i 0) v) (length order) (omega arith)

pub at_place : (order : List ℕ) (v : ℕ) → times order v ≡ 1 → get_or order (place_of order v) 0 ≡ v
unfolding place_of
at_place order v e =
    eqb-true (get_or order (place_of order v) 0) v (least-hit (λ i. eqb (get_or order i 0) v) (length order) (place_lt order v e))
