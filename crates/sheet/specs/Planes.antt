-- The table as the code makes it: a plane holds for each place x the outputs that the records matching it force, as bits, the stop records over the ordinary ones. That the
-- table made of two planes is the sheet's is proved.
-- Assumes nothing.
use Rattle.std.specs.Prelude.{◌≡◌, ℕ, zero, suc, ◌-◌, ◌*◌, ◌%◌, ◌^◌, ◌<◌, Bool, cond, ◌&&◌, List, eqb, ltb, leb, length, get_or, replicate}
use Rattle.std.specs.Bool.{beq}
use Rattle.std.proofs.lemmas.List.Edits.{sets}
use Rattle.laws.specs.Tests.{any}
use Rattle.laws.specs.Lists.{puts, rect}
use Rattle.sheet_spec.specs.Records.{record_count, byte, kind, ordinary, stop}
use Rattle.sheet_spec.specs.Job.{inputs_to, outputs_to}
use Rattle.sheet.specs.Pairs.{pair_of}
use Rattle.std.specs.Int.Bits.{bit_and, bit_or, bit_xor}
use Rattle.laws.specs.Bits.{bit, marks}

-- the place x has the values v on the mask k
unfoldable pub agrees : ℕ → ℕ → ℕ → Bool
agrees k v x = eqb (bit_and x k) v

-- what a record adds at place x
unfoldable pub added : ℕ → ℕ → ℕ → ℕ → ℕ
added k v f x = cond (agrees k v x) f 0

-- A record whose mask k is below 256 tests none of the upper four bits of a place: it is the same in each block of 256 places, and is marked
-- once, in a row of 256. The outputs f of the others, and of those. (Where k is below 256 and v is not, the record has no place.)
unfoldable pub high_force : ℕ → ℕ → ℕ
high_force k f = cond (ltb k 256) 0 f

unfoldable pub low_force : ℕ → ℕ → ℕ → ℕ
low_force k v f = cond (ltb k 256 && ltb v 256) f 0

-- what record r adds at place x of the plane, and at place i of the row: ks are the records' masks and vs their values as numbers read down
-- the order, fs the outputs forced
unfoldable pub high_added : List ℕ → List ℕ → List ℕ → ℕ → ℕ → ℕ
high_added ks vs fs x r = added (get_or ks r 0) (get_or vs r 0) (high_force (get_or ks r 0) (get_or fs r 0)) x

unfoldable pub low_added : List ℕ → List ℕ → List ℕ → ℕ → ℕ → ℕ
low_added ks vs fs i r = added (get_or ks r 0 % 256) (get_or vs r 0 % 256) (low_force (get_or ks r 0) (get_or vs r 0) (get_or fs r 0)) i

-- what record r adds at place x if it tests upper bits, or if it tests none
unfoldable pub some_added : Bool → List ℕ → List ℕ → List ℕ → ℕ → ℕ → ℕ
some_added upper ks vs fs x r = cond (beq (leb 256 (get_or ks r 0)) upper) (added (get_or ks r 0) (get_or vs r 0) (get_or fs r 0) x) 0

-- the number of the word w, of which the lowest k inputs of the list are read, over what was there. (A word has 16 bits.)
unfoldable pub number_to : ℕ → List ℕ → ℕ → ℕ → ℕ
number_to old is zero w = old
number_to old is (suc k) w = bit_or (number_to old is k w) (bit w (get_or is k 0 % 16) * 2 ^ k)

-- the value of output o where the outputs z are forced to 0 and the outputs y to 1
unfoldable pub line_value : ℕ → ℕ → ℕ → ℕ
line_value z y o = (1 - bit z o) * (2 - bit y o)

-- the outputs at heights h to 1 of an order of t variables, or the inputs, lowest first
abbrev pub listed : Bool → ℕ → List ℕ → ℕ → List ℕ
listed outputs t order h = cond outputs (outputs_to t order h) (inputs_to t order h)

-- The steps of the code, from arrays of zeros on: the inputs and the outputs of the order, lowest first; bytes lo and hi of each record
-- as numbers read down the order; the planes, from the ordinary records and then the stop records; the table
unfoldable pub input_array : List ℕ → List ℕ
input_array order = sets (replicate 20 0) 0 (inputs_to (length order) order (length order))

unfoldable pub output_array : List ℕ → List ℕ
output_array order = sets (replicate 20 0) 0 (outputs_to (length order) order (length order))

unfoldable pub field_array : List ℕ → ℕ → ℕ → List ℕ
field_array s lo hi = puts (record_count s) (pair_of s lo hi) (replicate 256 0)

-- byte at of the records of kind k, 0 of the others
unfoldable pub kind_byte : List ℕ → ℕ → ℕ → ℕ → ℕ
kind_byte s k at r = cond (eqb (kind s r) k) (byte s r at) 0

unfoldable pub kind_array : List ℕ → ℕ → ℕ → List ℕ
kind_array s k at = puts (record_count s) (kind_byte s k at) (replicate 256 0)

unfoldable pub number_array : List ℕ → ℕ → List ℕ → List ℕ
number_array is n ws = puts 256 (λ r. number_to (get_or (replicate 256 0) r 0) is n (get_or ws r 0)) (replicate 256 0)

unfoldable pub numbered_field : ℕ → List ℕ → List ℕ → ℕ → ℕ → List ℕ
numbered_field n order s lo hi = number_array (input_array order) n (field_array s lo hi)

-- the plane old after c records are marked in it: those that test upper bits, then the row of the others
unfoldable pub high_plane : List ℕ → List ℕ → List ℕ → ℕ → List ℕ → List ℕ
high_plane ks vs fs c old = puts 4096 (λ x. marks (get_or old x 0) (high_added ks vs fs x) c) old

unfoldable pub low_row : List ℕ → List ℕ → List ℕ → ℕ → List ℕ
low_row ks vs fs c = puts 256 (λ i. marks (get_or (replicate 256 0) i 0) (low_added ks vs fs i) c) (replicate 256 0)

unfoldable pub marked_plane : List ℕ → List ℕ → List ℕ → ℕ → List ℕ → List ℕ
marked_plane ks vs fs c old =
    puts 4096 (λ x. bit_or (get_or (high_plane ks vs fs c old) x 0) (get_or (low_row ks vs fs c) (x % 256) 0)) (high_plane ks vs fs c old)

-- at each place the outputs that the plane does not hold
unfoldable pub complemented : List ℕ → List ℕ
complemented p = puts 4096 (λ x. bit_xor (get_or p x 0) 255) p

-- what the ordinary records force by byte at; the plane p after the stop records are laid over it: the outputs of the opposite byte, forced the other
-- way, are taken out and those of byte at put in
unfoldable pub ordinary_plane : List ℕ → List ℕ → List ℕ → ℕ → List ℕ
ordinary_plane ks vs s at = marked_plane ks vs (kind_array s ordinary at) (record_count s) (replicate 4096 0)

unfoldable pub stops_over : List ℕ → List ℕ → List ℕ → ℕ → ℕ → List ℕ → List ℕ
stops_over ks vs s at opposite p =
    marked_plane ks vs (kind_array s stop at) (record_count s) (complemented (marked_plane ks vs (kind_array s stop opposite) (record_count s) (complemented p)))

-- some record is a stop record
unfoldable pub any_stop : List ℕ → Bool
any_stop s = any (record_count s) (λ r. eqb (kind s r) stop)

-- the outputs forced by byte at, the stop records over the ordinary ones, at each place
unfoldable pub plane_of : List ℕ → List ℕ → List ℕ → ℕ → ℕ → List ℕ
plane_of ks vs s at opposite = cond (any_stop s) (stops_over ks vs s at opposite (ordinary_plane ks vs s at)) (ordinary_plane ks vs s at)

unfoldable pub line_at : List ℕ → List ℕ → List ℕ → ℕ → ℕ → ℕ
line_at zs ys os k x = line_value (get_or zs x 0) (get_or ys x 0) (get_or os k 0 % 8)

-- the outputs that are 0, and those that are 1, at each place
unfoldable pub zeros_plane : ℕ → List ℕ → List ℕ → List ℕ
zeros_plane n order s = plane_of (numbered_field n order s 0 1) (numbered_field n order s 2 3) s 4 5

unfoldable pub ones_plane : ℕ → List ℕ → List ℕ → List ℕ
ones_plane n order s = plane_of (numbered_field n order s 0 1) (numbered_field n order s 2 3) s 5 4

unfoldable pub made_table : ℕ → ℕ → List ℕ → List ℕ → List ℕ
made_table n m order s = rect m (2 ^ n) (line_at (zeros_plane n order s) (ones_plane n order s) (output_array order))

-- the list holds 0, 1, .., 255
abbrev pub CountsUp : List ℕ → Type 0
CountsUp l = (i : ℕ) → i < 256 → get_or l i 0 ≡ i
