-- Refusals 1 to 6, each as its own test, and the least one (document 01, "Who can cause a refusal"; 6 as document 02, §1, has it, 4 and 5 as §3).
-- Assumes nothing.
use Rattle.std.specs.Prelude.{ℕ, ◌+◌, ◌%◌, ◌-◌, ◌^◌, Bool, not, cond, ◌&&◌, ◌||◌, List, eqb, ltb, length, get_or}
use Rattle.std.specs.Int.Bits.{bit_and}
use Rattle.laws.specs.Tests.{any, every, count, least, within}
use Rattle.sheet_spec.specs.Limits.{most_inputs, most_outputs, largest_inputs, largest_outputs, sheet_bytes}
use Rattle.sheet_spec.specs.Records.{record_count, byte, kind, mask, values, zeros, ones, matches, forces0, forces1}
use Rattle.sheet_spec.specs.Job.{Job, t, output_byte}
use Rattle.sheet_spec.specs.Values.{depends}

-- 1: n, m, K or L out of range
unfoldable pub out_of_range : ℕ → ℕ → ℕ → ℕ → Bool
out_of_range n m k l = not (within 1 most_inputs n && within 1 most_outputs m && within 2 largest_inputs k && within 1 largest_outputs l)

unfoldable pub refuse1 : Job → Bool
refuse1 j = out_of_range j.n j.m j.K j.L

-- how often the byte v stands in the order
unfoldable pub times : List ℕ → ℕ → ℕ
times order v = count (length order) (λ i. eqb (get_or order i 0) v)

-- each of the k variables from v on stands in it once
unfoldable pub each_once : List ℕ → ℕ → ℕ → Bool
each_once order v k = every k (λ i. eqb (times order (v + i)) 1)

-- 2: the order is not each variable once
unfoldable pub not_each_once : ℕ → ℕ → List ℕ → Bool
not_each_once n m order = not (eqb (length order) (n + m) && each_once order 0 n && each_once order 128 m)

unfoldable pub refuse2 : Job → Bool
refuse2 j = not_each_once j.n j.m j.order

-- 3: length not a multiple of 8, or over 2,048
unfoldable pub refuse3 : List ℕ → Bool
refuse3 s = not (eqb (length s % 8) 0) || ltb sheet_bytes (length s)

-- of record r: a bit outside n or m, a value bit outside the mask, one output in bytes 4 and 5, byte 6 above 1, or byte 7 not zero
unfoldable pub malformed : ℕ → ℕ → List ℕ → ℕ → Bool
malformed n m s r =
    not
    (ltb (mask s r) (2 ^ n) && ltb (values s r) (2 ^ n) && ltb (zeros s r) (2 ^ m) && ltb (ones s r) (2 ^ m)
    && eqb (bit_and (values s r) (mask s r)) (values s r)
    && eqb (bit_and (zeros s r) (ones s r)) 0
    && ltb (kind s r) 2
    && eqb (byte s r 7) 0)

-- 4: such a record
unfoldable pub any_malformed : ℕ → ℕ → List ℕ → Bool
any_malformed n m s = any (record_count s) (malformed n m s)

unfoldable pub refuse4 : Job → List ℕ → Bool
refuse4 j s = any_malformed j.n j.m s

-- records r and q are of one kind; they match a common word; r forces an output to 0 that q forces to 1
unfoldable pub alike : List ℕ → ℕ → ℕ → Bool
alike s r q = eqb (kind s r) (kind s q)

unfoldable pub common : ℕ → List ℕ → ℕ → ℕ → Bool
common n s r q = any (2 ^ n) (λ w. matches s r w && matches s q w)

unfoldable pub opposed : ℕ → List ℕ → ℕ → ℕ → Bool
opposed m s r q = any m (λ o. forces0 s r o && forces1 s q o)

unfoldable pub clash : ℕ → ℕ → List ℕ → ℕ → ℕ → Bool
clash n m s r q = alike s r q && (opposed m s r q && common n s r q)

-- 5: two records of one kind match a common word and force one output both ways, whatever else matches it
unfoldable pub refuse5 : Job → List ℕ → Bool
refuse5 j s = any (record_count s) (λ r. any (record_count s) (clash j.n j.m s r))

-- the place of the variable v in the order from the top, and its height
unfoldable pub place_of : List ℕ → ℕ → ℕ
place_of order v = least (length order) (λ i. eqb (get_or order i 0) v)

unfoldable pub height_of : Job → ℕ → ℕ
height_of j v = t j - place_of j.order v

-- output o stands above input i, on which it depends
unfoldable pub above_input : Job → List ℕ → ℕ → ℕ → Bool
above_input j s o i = ltb (height_of j i) (height_of j (output_byte o)) && depends j.n s i o

-- 6: some output does
unfoldable pub refuse6 : Job → List ℕ → Bool
refuse6 j s = any j.m (λ o. any j.n (above_input j s o))

-- the lowest wins; 0 where none of the six is given
unfoldable pub sheet_refusal : Job → List ℕ → ℕ
sheet_refusal j s =
    cond (refuse1 j) 1
    (cond (refuse2 j) 2
    (cond (refuse3 s) 3
    (cond (refuse4 j s) 4
    (cond (refuse5 j s) 5
    (cond (refuse6 j s) 6 0)))))
