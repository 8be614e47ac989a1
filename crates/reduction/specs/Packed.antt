-- Columns packed into words. A word holds eight places of eight lines: bit j * 8 + k is line k at place j of the word. One plane of words
-- marks where a column holds 0, another where it holds 1.
-- Assumes nothing.
use Rattle.std.specs.Prelude.{ℕ, zero, suc, ◌+◌, ◌-◌, ◌*◌, ◌/◌, ◌%◌, ◌^◌, Bool, cond, List, eqb, ltb, get_or, replicate}
use Rattle.std.specs.Int.Bits.{bit_and, bit_or}
use Rattle.laws.specs.Lists.{puts, puts_at}
use Rattle.laws.specs.Bits.{has, marks}
use Rattle.sheet_spec.specs.Values.{free}

-- the words of a column of 2^a places
abbrev pub size : ℕ → ℕ
size a = 2 ^ (a - 3)

-- the lines, as bits, that hold v at place x of a table of m lines of c values
unfoldable pub lines_with : List ℕ → ℕ → ℕ → ℕ → ℕ → ℕ
lines_with table c m v x = marks 0 (λ k. cond (eqb (get_or table (k * c + x) 0) v) (2 ^ k) 0) m

-- the same for each of 4,096 places
unfoldable pub places_with : List ℕ → ℕ → ℕ → ℕ → List ℕ
places_with table n m v = puts (2 ^ n) (lines_with table (2 ^ n) m v) (replicate 4096 0)

-- word i of a plane of places
unfoldable pub packed_word : List ℕ → ℕ → ℕ
packed_word places i = marks 0 (λ j. get_or places (i * 8 + j) 0 * 2 ^ (j * 8)) 8

-- the half b, 0 or 1, of a word of 2 * s bits
unfoldable pub half : ℕ → ℕ → ℕ → ℕ
half s x b = cond (eqb b 0) (x % 2 ^ s) (x / 2 ^ s)

-- the b lowest lines of each of a word's eight places
unfoldable pub lines_mask : ℕ → ℕ
lines_mask b = (2 ^ b - 1) * 72340172838076673

-- the plane below w columns, written over the list to: the columns' halves below an input, the columns without line b below an output.
-- a inputs and b outputs stand below, and a column below has size words. Halves of more than one word lie where they are
unfoldable pub candidates_of : Bool → ℕ → ℕ → ℕ → ℕ → List ℕ → List ℕ → List ℕ
candidates_of input a b size w from to =
    let kept : ℕ → ℕ → List ℕ = λ count mask. puts count (λ i. bit_and (get_or from i 0) mask) to in
    let split = puts (w * 2) (λ q. half (8 * 2 ^ a) (get_or from (q / 2) 0) (q % 2)) to in
    cond input (cond (ltb a 3) split (kept (w * 2 * size) (lines_mask 8))) (kept (w * size) (lines_mask b))

-- the plane to after the columns firsts 0, .., firsts (w - 1) of the plane from are added to its columns nums 0, .., nums (w - 1)
unfoldable pub added_columns : ℕ → List ℕ → List ℕ → List ℕ → ℕ → List ℕ → List ℕ
added_columns size firsts nums from zero to = to
added_columns size firsts nums from (suc c) to =
    let old = added_columns size firsts nums from c to in
    let g = get_or nums c 0 * size in
    puts_at g size (λ i. bit_or (get_or old (g + i) 0) (get_or from (get_or firsts c 0 * size + i) 0)) old

-- the value of line b at the first place of a column whose first words are z and o
unfoldable pub value_in : ℕ → ℕ → ℕ → ℕ
value_in z o b = cond (has z b) 0 (cond (has o b) 1 free)
