-- Records in the code's arrays: taken apart, stored as bytes, and kept.
-- Assumes nothing.
use mathlib.Core.Path.{◌≡◌, sym, ◌∙◌, ap, refl, ap₂}
use mathlib.Core.List.{List, [], ◌∷◌}
use Prim.Native.Nat.{ℕ, suc, ◌+◌, ◌*◌, ◌<◌, ◌≤◌}
use native.Mathlib.Omega.{arith}
use lib.ListN.{length, set, get_or, take, replicate, length-replicate}
use lib.Seq.{sets, length-sets}
use Rattle.laws.specs.Lists.{tab, puts}
use Rattle.laws.specs.Bits.{flag}
use Rattle.laws.proofs.Lists.{length-tab, tab-next, get_or-tab, tab_ext, tab_of}
use Rattle.laws.proofs.Puts.{sets-append, puts_ext, get_or-puts}
use Rattle.stored_spec.specs.RowBytes.{two_bytes}
use Rattle.stored_spec.specs.StoredForm.{record_count, well_formed}
use Rattle.stored_spec.specs.declared.Record.{Record}
use Rattle.stored_spec.specs.ReadWrite.{record_bytes, no_record, record_at, cascade_of, ReadAnswer, read}
use Rattle.stored_spec.proofs.RecordBytes.{length-bytes, bytes-append, count-bytes}
use mathlib.Core.Bool.{false, true}
use Rattle.laws.proofs.Cases.{no_test}
use Rattle.laws.proofs.Filled.{written-sets, written_front}
use Rattle.stored.specs.RecordArrays.{StoredRecords, records_of, structure_of, read_as}
use Rattle.stored_spec.proofs.StoredParts.{records_have}
use Rattle.stored_spec.proofs.ReadWriteCases.{formed-records, read-formed}

-- one record more is stored
pub bytes_next : (f : ℕ → Record) (i : ℕ) (l s : List ℕ) (c : ℕ) → s ≡ sets l 0 (record_bytes (tab i f)) → c ≡ flag (f i).cut
    → set (set (set (set s (i * 4) (f i).variable) (i * 4 + 1) c) (i * 4 + 2) (f i).rails) (i * 4 + 3) 0
    ≡ sets l 0 (record_bytes (tab (i + 1) f))
bytes_next f i l s c e g =
    let at : i * 4 ≡ 0 + length (record_bytes (tab i f)) = omega (arith, length-bytes (tab i f), length-tab f i) in
    let one : (k : ℕ) → k + 1 ≡ suc k = λ k. omega arith in
    let two : (k : ℕ) → k + 2 ≡ suc (suc k) = λ k. omega arith in
    let three : (k : ℕ) → k + 3 ≡ suc (suc (suc k)) = λ k. omega arith in
    rw (one, two, three, g, e, at) (sym (sets-append (record_bytes (tab i f)) (record_bytes (f i ∷ [])) l 0))
    ∙ ap (sets l 0) (sym (bytes-append (tab i f) (f i ∷ [])) ∙ ap record_bytes (sym (tab-next f i)))

pub taken_apart : (R : List ℕ) (n : ℕ) (rs : List Record) → n ≡ record_count R → rs ≡ puts n (record_at R) (replicate 20 no_record)
    → ◌≡◌ {A = StoredRecords} (record { count = n; records = rs }) (structure_of (cascade_of R []).records)
unfolding cascade_of structure_of
taken_apart R n rs m e =
    let at = puts_ext (record_at R) (λ i. get_or (tab n (record_at R)) i no_record) n (replicate 20 no_record)
    (λ i h. sym (get_or-tab (record_at R) no_record n i h)) in
    rw (sym m, e ∙ at, length-tab (record_at R) n) refl

pub too_many_lem : (rs : List Record) (bytes : List ℕ) → 20 < length rs → well_formed (record_bytes rs) bytes ≡ false
too_many_lem rs bytes h =
    no_test (well_formed (record_bytes rs) bytes)
    (λ e. omega (arith, (records_have two_bytes (record_bytes rs) (formed-records (record_bytes rs) bytes e)).few, count-bytes rs))

-- a list stored at the front of another, and taken from there
module _ (vs l : List ℕ) (fits : length vs ≤ length l) where
  pub stored_front : take (length vs) (sets l 0 vs) ≡ vs
  stored_front =
      let h : 0 + length vs ≤ length l = omega arith in
      ap (take (length vs)) (sym (written-sets l 0 vs h)) ∙ written_front vs l

pub length-records : (from : StoredRecords) → length (records_of from) ≡ from.count
unfolding records_of
length-records from = length-tab _ from.count

-- the bytes of up to 20 records, stored at the front of 80
pub stored_bytes : (rs : List Record) (n : ℕ) (s : List ℕ) → length rs ≡ n → n ≤ 20 → s ≡ sets (replicate 80 0) 0 (record_bytes rs)
    → (n * 4 ≤ length s) × (take (n * 4) s ≡ record_bytes rs)
stored_bytes rs n s e h g =
    let long : length s ≡ 80 = ap length g ∙ length-sets (replicate 80 0) 0 (record_bytes rs) ∙ length-replicate {A = ℕ} 80 0 in
    let count : n * 4 ≡ length (record_bytes rs) = omega (arith, length-bytes rs) in
    (omega arith, ap₂ take count g ∙ stored_front (record_bytes rs) (replicate 80 0) (omega (arith, length-replicate {A = ℕ} 80 0)))

-- the code's structure keeps up to 20 records
pub structure_keeps : (rs : List Record) → length rs ≤ 20 → records_of (structure_of rs) ≡ rs
unfolding records_of structure_of
structure_keeps rs h =
    tab_ext _ (λ i. get_or rs i no_record) (length rs)
    (λ i p. get_or-puts (λ i. get_or rs i no_record) (length rs) (replicate 20 no_record) no_record i p (omega (arith, length-replicate {A = Record} 20 no_record)))
    ∙ tab_of no_record rs

-- and, from a structure that read gave, writing is of the cascade read
pub read_structure : (R bytes : List ℕ) → well_formed R bytes ≡ true → records_of (read_as (read R bytes)).records ≡ (cascade_of R bytes).records
unfolding cascade_of
read_structure R bytes e =
    let rs : List Record = tab (record_count R) (record_at R) in
    let few : length rs ≤ 20 = omega (arith, length-tab (record_at R) (record_count R), (records_have two_bytes R (formed-records R bytes e)).few) in
    ap (λ (x : ReadAnswer). records_of (read_as x).records) (read-formed R bytes e) ∙ structure_keeps rs few
