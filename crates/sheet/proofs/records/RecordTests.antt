-- The test of a record, by its fields.
-- Assumes nothing.
use mathlib.Core.Path.{◌≡◌}
use mathlib.Core.Bool.{not, ◌&&◌, and_assoc}
use mathlib.Core.List.{List}
use Prim.Native.Nat.{ℕ, ◌^◌}
use lib.Dec.{eqb, ltb}
use lib.Bits.{bit_and}
use Rattle.sheet_spec.specs.Records.{byte, kind, mask, values, zeros, ones}
use Rattle.sheet_spec.specs.Refusals.{malformed}

-- a record is malformed, by its fields and two powers
module _ (n m : ℕ) (s : List ℕ) (r : ℕ) {k v z y w x : ℕ} where
  pub malformed-of :
      k ≡ mask s r →
      v ≡ values s r →
      z ≡ zeros s r →
      y ≡ ones s r →
      w ≡ 2 ^ n →
      x ≡ 2 ^ m →
      not (ltb k w && ltb v w && ltb z x && ltb y x && (eqb (bit_and v k) v && eqb (bit_and z y) 0) && (ltb (kind s r) 2 && eqb (byte s r 7) 0))
      ≡ malformed n m s r
  unfolding malformed
  malformed-of p q a b e f = rw (p, q, a, b, e, f) (simp and_assoc)
