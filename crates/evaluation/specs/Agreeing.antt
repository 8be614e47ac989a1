-- The rows that the code reads of a cell, by numbers: one for each rail word of the set and each filling of the cell's unknown inputs.
-- Assumes nothing.
use Rattle.std.specs.Prelude.{◌≡◌, ℕ, zero, suc, ◌+◌, ◌*◌, ◌^◌, ◌≤◌, ◌<◌, cond, List, length, get_or, set}
use Rattle.std.specs.Int.Bits.{bit_and, bit_or}
use Rattle.laws.specs.Bits.{has}
use Rattle.laws.specs.Turns.{in_turn}
use Rattle.stored_spec.specs.RowBytes.{two_bytes, row_value}
use Rattle.evaluation_spec.specs.RailSets.{rail_words, Gathered, with_row}
pub use Rattle.evaluation.specs.declared.gather.Addresses.{Addresses}
pub use Rattle.evaluation.specs.declared.gather.Seen.{Seen}
pub use Rattle.evaluation.specs.declared.gather.Few.{Few}

-- the words of a set of rail words, and those of the set without any
unfoldable pub word_at : List ℕ → ℕ → ℕ
word_at s q = get_or s q 0

unfoldable pub no_word : ℕ → ℕ
no_word q = 0

-- a set that has its rail words in its first n words
pub record Within (n : ℕ) (s : List ℕ) : Type 0 where
  pub long : length s ≡ rail_words
  pub rest : (q : ℕ) → n ≤ q → word_at s q ≡ 0

abbrev pub seen_with : ℕ → Seen → Seen
seen_with x s = record { some = bit_or s.some x; each = bit_and s.each x }

abbrev pub gathered_of : Seen → List ℕ → Gathered
gathered_of s next = record { some = s.some; each = s.each; next = next }

-- rail words below 64 kept apart from the set next, as bits of one word
abbrev pub few_of : Few → List ℕ → Gathered
few_of f next = record { some = f.seen.some; each = f.seen.each; next = set next 0 (bit_or (get_or next 0 0) f.rails) }

-- the numbers made of bits of free, from 0 on: the carry goes over the bits of mask, which are the others
unfoldable pub part_of : ℕ → ℕ → ℕ → ℕ
part_of mask free zero = 0
part_of mask free (suc j) = bit_and (part_of mask free j + mask + 1) free

-- of row bytes, the row of filling j, which stands so far from first on; low are its lower rails
unfoldable pub rail_row : List ℕ → ℕ → ℕ → ℕ → ℕ → ℕ → Gathered → Gathered
rail_row bytes first mask free low j = let x = row_value two_bytes bytes (first + part_of mask free j) in with_row x (bit_and x low)

-- the row at place j from first on
unfoldable pub plain_row : List ℕ → ℕ → ℕ → ℕ → Gathered → Gathered
plain_row bytes first low j = let x = row_value two_bytes bytes (first + j) in with_row x (bit_and x low)

-- mask and free are together all bits of some number of inputs
pub record Whole (mask free : ℕ) : Type 0 where
  pub inputs : ℕ
  pub few : inputs ≤ 12
  pub all : mask + free + 1 ≡ 2 ^ inputs

-- the numbers of a cell's rows are small
pub record Small (p : Addresses) : Type 0 where
  pub whole : Whole p.mask p.free
  pub at : p.at ≤ 32768
  pub block : p.block ≤ 4096
  pub words : p.words ≤ 64
  pub low : p.low < 4096

module _ (bytes : List ℕ) (p : Addresses) where
  -- the rows of the fillings, of which the first begins at first
  abbrev pub of_first : ℕ → Gathered → Gathered
  of_first first = in_turn p.count (rail_row bytes first p.mask p.free p.low)

  -- the rows of the rail word whose rows begin at base
  unfoldable pub of_rail : ℕ → Gathered → Gathered
  of_rail base = of_first (base + p.value)

  -- of the rail words in the word x of a set, the first of which has its rows from base on
  unfoldable pub of_bit : ℕ → ℕ → ℕ → Gathered → Gathered
  of_bit x base b g = cond (has x b) (of_rail (base + b * p.block) g) g

  unfoldable pub of_word : ℕ → ℕ → Gathered → Gathered
  of_word x base = in_turn 64 (of_bit x base)

  -- of those in word q of the set s; in the first n words
  unfoldable pub of_place : List ℕ → ℕ → Gathered → Gathered
  of_place s q = of_word (get_or s q 0) (p.at + q * 64 * p.block)

  unfoldable pub of_set : List ℕ → ℕ → Gathered → Gathered
  of_set s n = in_turn n (of_place s)
