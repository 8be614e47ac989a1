-- Reading and writing are each other's inverse: read, then written, the bytes are the same; written, then read, the cascade is.
-- Assumes nothing.
use mathlib.Core.Path.{◌≡◌, sym, ◌∙◌, ap, ap₂}
use mathlib.Core.Bool.{Bool, true, false, false≢true}
use mathlib.Core.List.{List}
use Prim.Native.Nat.{ℕ, ◌≤◌}
use lib.ListN.{length, take}
use Rattle.laws.specs.Lists.{written}
use Rattle.laws.proofs.Cases.{by_test}
use Rattle.laws.proofs.Filled.{written_front}
use Rattle.stored_spec.specs.StoredForm.{well_formed}
use Rattle.stored_spec.specs.ReadWrite.{Record, Cascade, ReadAnswer, was_read, not_read, Written, record_bytes, cascade_of, read, written_as, write_bytes, write}
use Rattle.stored_spec.proofs.RecordBytes.{records-kept, bytes-kept}
use Rattle.stored_spec.proofs.ReadWriteCases.{formed-records, read-formed, read-other, write-formed, write_answers}

is_read : ReadAnswer → Bool
is_read (not_read n) = false
is_read (was_read c) = true

cascade_in : Cascade → ReadAnswer → Cascade
cascade_in d (not_read n) = d
cascade_in d (was_read c) = c

-- what was read is well formed, and is the cascade of the bytes
read_has : (R bytes : List ℕ) (c : Cascade) → read R bytes ≡ was_read c → (well_formed R bytes ≡ true) × (cascade_of R bytes ≡ c)
unfolding cascade_in is_read
read_has R bytes c e =
    by_test (well_formed R bytes) (λ f. (f, ap (cascade_in c) (sym (read-formed R bytes f) ∙ e)))
    (λ f. absurd (false≢true (ap is_read (sym (read-other R bytes f) ∙ e))))

-- read, then write: the same bytes
pub read-bytes : (R bytes : List ℕ) (c : Cascade) → read R bytes ≡ was_read c → (record_bytes c.records ≡ R) × (c.rows ≡ bytes)
unfolding cascade_of
read-bytes R bytes c e =
    let h = read_has R bytes c e in (
      ap (λ (x : Cascade). record_bytes x.records) (sym h.1) ∙ bytes-kept R (formed-records R bytes h.0),
      ap (λ (x : Cascade). x.rows) (sym h.1),
    )

pub read-write : (R bytes : List ℕ) (c : Cascade) → read R bytes ≡ was_read c → (records rows : List ℕ) → length R ≤ length records → length bytes ≤ length rows
    → write c records rows ≡ written_as 0 (written records 0 R) (written rows 0 bytes)
unfolding write
read-write R bytes c e records rows h k =
    let same = read-bytes R bytes c e in
    ap₂ (λ (x y : List ℕ). write_bytes x y records rows) same.0 same.1
    ∙ write-formed R bytes records rows (read_has R bytes c e).0 h k

-- a cascade from its own bytes
cascade_kept : (c : Cascade) → cascade_of (record_bytes c.records) c.rows ≡ c
unfolding cascade_of
cascade_kept c = ap (λ (x : List Record). record { records = x; rows = c.rows }) (records-kept c.records)

-- write, then read: the same cascade
pub write_read : (c : Cascade) (records rows : List ℕ) → (write c records rows).answer ≡ 0
    → read (take (length (record_bytes c.records)) (write c records rows).records) (take (length c.rows) (write c records rows).rows) ≡ was_read c
unfolding write
write_read c records rows e =
    let R : List ℕ = record_bytes c.records in
    let a = write_answers R c.rows records rows e in
    let w = write-formed R c.rows records rows a.0 a.1 a.2 in
    ap₂ read
    (ap (λ (x : Written). take (length R) x.records) w ∙ written_front R records)
    (ap (λ (x : Written). take (length c.rows) x.rows) w ∙ written_front c.rows rows)
    ∙ read-formed R c.rows a.0 ∙ ap was_read (cascade_kept c)
