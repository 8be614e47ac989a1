-- Reading and writing stored cascades (document 01, "Who can cause a refusal").
-- Assumes nothing.
use Rattle.std.specs.Prelude.{ℕ, false, cond, not, List, [], ◌∷◌, eqb, ltb, length}
use Rattle.laws.specs.Lists.{tab, written}
use Rattle.laws.specs.Bits.{flag}
pub use Rattle.stored_spec.specs.declared.Record.{Record}
use Rattle.stored_spec.specs.StoredForm.{record_count, variable, cut_byte, rail_byte, well_formed}

-- a cascade as a structure: its records, top first, and its rows
pub record Cascade : Type 0 where
  pub records : List Record
  pub rows : List ℕ

-- the record bytes of a cascade
abbrev pub record_bytes : List Record → List ℕ
record_bytes [] = []
record_bytes (r ∷ rs) = r.variable ∷ flag r.cut ∷ r.rails ∷ 0 ∷ record_bytes rs

-- what well_formed_lem bytes hold
unfoldable pub record_at : List ℕ → ℕ → Record
record_at R i = record { variable = variable R i; cut = eqb (cut_byte R i) 1; rails = rail_byte R i }

unfoldable pub cascade_of : List ℕ → List ℕ → Cascade
cascade_of R bytes = record { records = tab (record_count R) (record_at R); rows = bytes }

pub data ReadAnswer : Type 0 where
  not_read : ℕ → ReadAnswer
  was_read : Cascade → ReadAnswer

-- 12 where not well formed
unfoldable pub read : List ℕ → List ℕ → ReadAnswer
read R bytes = cond (well_formed R bytes) (was_read (cascade_of R bytes)) (not_read 12)

-- what writing answers, and the lent memories after: unchanged on a refusal, kept past the written part
pub record Written : Type 0 where
  pub answer : ℕ
  pub records : List ℕ
  pub rows : List ℕ

abbrev pub written_as : ℕ → List ℕ → List ℕ → Written
written_as n records rows = record { answer = n; records = records; rows = rows }

-- record bytes R and row bytes: 12 not well formed, 10 record buffer short, 11 row memory short, else 0
unfoldable pub write_bytes : List ℕ → List ℕ → List ℕ → List ℕ → Written
write_bytes R bytes records rows =
    cond (not (well_formed R bytes)) (written_as 12 records rows)
    (cond (ltb (length records) (length R)) (written_as 10 records rows)
    (cond (ltb (length rows) (length bytes)) (written_as 11 records rows) (written_as 0 (written records 0 R) (written rows 0 bytes))))

unfoldable pub write : Cascade → List ℕ → List ℕ → Written
write c records rows = write_bytes (record_bytes c.records) c.rows records rows

-- past the records nothing has a meaning
abbrev pub no_record : Record
no_record = record { variable = 0; cut = false; rails = 0 }
