-- Refusals 1 to 5 in one, and refusal 6 as the code finds it, from two planes: zs and ys hold for each place the outputs forced to 0 and to 1, as bits. That
-- it is refusal 6 is proved.
-- Assumes nothing.
use Rattle.std.specs.Prelude.{ℕ, ◌+◌, ◌*◌, ◌^◌, Bool, not, cond, List, eqb, ltb, get_or}
use Rattle.std.specs.Int.Bits.{bit_and, bit_or, bit_xor}
use Rattle.laws.specs.Tests.{any, sum}
use Rattle.laws.specs.Bits.{has, flag, marks}
use Rattle.sheet_spec.specs.Job.{Job, output_byte}
use Rattle.sheet_spec.specs.Refusals.{place_of, refuse1, refuse2, refuse3, refuse4, refuse5}

-- the least of refusals 1 to 5; 0 where none of the five is given
unfoldable pub first_five : Job → List ℕ → ℕ
first_five j s = cond (refuse1 j) 1 (cond (refuse2 j) 2 (cond (refuse3 s) 3 (cond (refuse4 j s) 4 (cond (refuse5 j s) 5 0))))

-- the outputs that are forced differently at the places x and y
unfoldable pub apart_at : List ℕ → List ℕ → ℕ → ℕ → ℕ
apart_at zs ys x y = bit_or (bit_xor (get_or zs x 0) (get_or zs y 0)) (bit_xor (get_or ys x 0) (get_or ys y 0))

-- between place x, if it is without bit q, and the same place with it
unfoldable pub turned_at : List ℕ → List ℕ → ℕ → ℕ → ℕ
turned_at zs ys q x = cond (has x q) 0 (apart_at zs ys x (x + 2 ^ q))

-- between any two of 2^n places that differ in bit q alone
unfoldable pub apart_across : List ℕ → List ℕ → ℕ → ℕ → ℕ
apart_across zs ys n q = marks 0 (turned_at zs ys q) (2 ^ n)

-- the outputs that stand above the variable v in the order, as a mask
unfoldable pub above_mask : List ℕ → ℕ → ℕ → ℕ
above_mask order m v = sum m (λ o. flag (ltb (place_of order (output_byte o)) (place_of order v)) * 2 ^ o)

-- some output is forced differently across an input below it; is are the inputs, lowest first
unfoldable pub any_depends : ℕ → ℕ → List ℕ → List ℕ → List ℕ → List ℕ → Bool
any_depends n m order is zs ys = any n (λ q. not (eqb (bit_and (apart_across zs ys n q) (above_mask order m (get_or is q 0))) 0))
