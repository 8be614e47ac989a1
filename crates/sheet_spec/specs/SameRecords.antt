-- Sheets with the same records, each as often, in any arrangement (document 02, §4).
-- Assumes nothing.
use Rattle.std.specs.Prelude.{◌≡◌, ℕ, ◌%◌, Bool, List, eqb, length, get_or}
use Rattle.laws.specs.Tests.{every, count}
use Rattle.laws.specs.Lists.{tab}
use Rattle.sheet_spec.specs.Records.{record_count, byte}

-- record r of the sheet s is the eight bytes b
unfoldable pub is_record : List ℕ → List ℕ → ℕ → Bool
is_record s b r = every 8 (λ k. eqb (byte s r k) (get_or b k 0))

-- how often the eight bytes b stand in the sheet as a record
unfoldable pub times_in : List ℕ → List ℕ → ℕ
times_in s b = count (record_count s) (is_record s b)

-- both are sheets of whole records, and each record stands in the one as often as in the other
pub record SameRecords (s z : List ℕ) : Type 0 where
  pub whole : (length s % 8 ≡ 0) × (length z % 8 ≡ 0)
  pub as_often : (b : List ℕ) → times_in s b ≡ times_in z b

-- the eight bytes of record r; the list of the records. The lists of two such sheets are permutations of each other
unfoldable pub record_at : List ℕ → ℕ → List ℕ
record_at s r = tab 8 (byte s r)

unfoldable pub records_of : List ℕ → List (List ℕ)
records_of s = tab (record_count s) (record_at s)
