-- The bytes of records: how many, and each of them; and records taken from bytes.
-- Assumes nothing.
use mathlib.Core.Path.{◌≡◌, refl, sym, ◌∙◌, ap}
use mathlib.Core.Bool.{true, ◌||◌, not}
use mathlib.Core.List.{List, [], ◌∷◌, ◌++◌}
use Prim.Native.Nat.{ℕ, zero, suc, ◌+◌, ◌*◌, ◌/◌, ◌%◌, ◌<◌, ◌≤◌}
use native.Mathlib.Nat.{not-suc-le-zero}
use native.Mathlib.Omega.{arith}
use lib.Dec.{eqb, leb}
use lib.ListN.{length, get_or}
use lib.Seq.{ext_get_or}
use borrow.Author.Tests.{eqb-true, leb-true}
use Rattle.laws.specs.Lists.{tab}
use Rattle.laws.specs.Tests.{every, within}
use Rattle.laws.specs.Bits.{flag}
use Rattle.laws.proofs.Cases.{by_equal, and_split}
use Rattle.laws.proofs.Bits.{flag_is}
use Rattle.laws.proofs.Lists.{length-tab, get_or-tab, tab_ext, tab_of}
use Rattle.stored_spec.specs.RowBytes.{two_bytes}
use Rattle.stored_spec.specs.StoredForm.{record_count, variable, cut_byte, rail_byte, last_byte, record_formed, records_formed}
use Rattle.stored_spec.specs.ReadWrite.{Record, no_record, record_bytes, record_at}
use Rattle.stored_spec.proofs.StoredParts.{records_have}

pub length-bytes : (rs : List Record) → length (record_bytes rs) ≡ length rs * 4
length-bytes [] = refl
length-bytes (r ∷ rs) = omega (arith, length-bytes rs)

pub count-bytes : (rs : List Record) → record_count (record_bytes rs) ≡ length rs
count-bytes rs = omega (arith, length-bytes rs)

pub bytes-append : (a b : List Record) → record_bytes (a ++ b) ≡ record_bytes a ++ record_bytes b
bytes-append [] b = refl
bytes-append (r ∷ a) b = ap (λ (l : List ℕ). r.variable ∷ flag r.cut ∷ r.rails ∷ 0 ∷ l) (bytes-append a b)

-- the four bytes of record i
pub bytes_at : (rs : List Record) (i : ℕ) → i < length rs
    → (variable (record_bytes rs) i ≡ (get_or rs i no_record).variable) × (cut_byte (record_bytes rs) i ≡ flag (get_or rs i no_record).cut)
    × (rail_byte (record_bytes rs) i ≡ (get_or rs i no_record).rails) × (last_byte (record_bytes rs) i ≡ 0)
bytes_at [] i h = absurd (not-suc-le-zero h)
bytes_at (r ∷ rs) zero h = (refl, refl, refl, refl)
bytes_at (r ∷ rs) (suc i) h =
    let more : (k : ℕ) → suc i * 4 + k ≡ suc (suc (suc (suc (i * 4 + k)))) = λ k. omega arith in
    let none : suc i * 4 ≡ suc (suc (suc (suc (i * 4)))) = omega arith in
    let b = bytes_at rs i (omega arith) in
    let at : (k m : ℕ) → k ≡ suc (suc (suc (suc m))) → get_or (record_bytes (r ∷ rs)) k 0 ≡ get_or (record_bytes rs) m 0 =
    λ k m e. ap (λ (n : ℕ). get_or (record_bytes (r ∷ rs)) n 0) e in (
      at _ _ none ∙ b.0,
      at _ _ (more 1) ∙ b.1,
      at _ _ (more 2) ∙ b.2,
      at _ _ (more 3) ∙ b.3,
    )

one_flag : (x : ℕ) → x ≤ 1 → flag (eqb x 1) ≡ x
one_flag zero h = refl
one_flag (suc zero) h = refl
one_flag (suc (suc x)) h = absurd (omega arith)

pub record_at_lem : (rs : List Record) (i : ℕ) → i < length rs → record_at (record_bytes rs) i ≡ get_or rs i no_record
unfolding record_at
record_at_lem rs i h =
    let b = bytes_at rs i h in
    rw (b.0, b.1, b.2, flag_is (get_or rs i no_record).cut) refl

-- records from their own bytes
pub records-kept : (rs : List Record) → tab (record_count (record_bytes rs)) (record_at (record_bytes rs)) ≡ rs
records-kept rs =
    ap (λ (n : ℕ). tab n (record_at (record_bytes rs))) (count-bytes rs)
    ∙ tab_ext (record_at (record_bytes rs)) (λ i. get_or rs i no_record) (length rs) (record_at_lem rs) ∙ tab_of no_record rs

-- the cut byte of a record well formed is 0 or 1, the last byte 0
record_has : (R : List ℕ) (i : ℕ) → record_formed R i ≡ true → (cut_byte R i ≤ 1) × (last_byte R i ≡ 0)
unfolding record_formed
record_has R i e =
    let d = and_split _ (every i (λ k. not (eqb (variable R k) (variable R i)))) e in
    let c = and_split _ (eqb (last_byte R i) 0) d.0 in
    let b = and_split _ (eqb (cut_byte R i) 1 || eqb (rail_byte R i) 0) c.0 in
    let a = and_split (leb (variable R i) 11 || within 128 135 (variable R i)) (leb (cut_byte R i) 1) b.0 in
    (leb-true (cut_byte R i) 1 a.1, eqb-true (last_byte R i) 0 c.1)

-- the bytes of the records of well formed bytes
pub bytes-kept : (R : List ℕ) → records_formed R ≡ true → record_bytes (tab (record_count R) (record_at R)) ≡ R
unfolding record_at
bytes-kept R e =
    let p = records_have two_bytes R e in
    let rs : List Record = tab (record_count R) (record_at R) in
    let n : length rs ≡ record_count R = length-tab (record_at R) (record_count R) in
    let long : length (record_bytes rs) ≡ length R = omega (arith, length-bytes rs, p.whole) in
    ext_get_or 0 (record_bytes rs) R long
    (λ i h.
    let q : i / 4 < record_count R = omega (arith, p.whole) in
    let b = bytes_at rs (i / 4) (omega (arith, n)) in
    let f = record_has R (i / 4) (p.each (i / 4) q) in
    let g : get_or rs (i / 4) no_record ≡ record_at R (i / 4) = get_or-tab (record_at R) no_record (record_count R) (i / 4) q in
    let at : (k : ℕ) → i ≡ k → get_or (record_bytes rs) k 0 ≡ get_or R k 0 → get_or (record_bytes rs) i 0 ≡ get_or R i 0 =
    λ k z y. rw z y in
    by_equal (i % 4) 0 (λ z. at (i / 4 * 4) (omega arith) (b.0 ∙ ap (λ (r : Record). r.variable) g))
    (λ z0. by_equal (i % 4) 1
    (λ z. at (i / 4 * 4 + 1) (omega arith) (b.1 ∙ ap (λ (r : Record). flag r.cut) g ∙ one_flag (cut_byte R (i / 4)) f.0))
    (λ z1. by_equal (i % 4) 2 (λ z. at (i / 4 * 4 + 2) (omega arith) (b.2 ∙ ap (λ (r : Record). r.rails) g))
    (λ z2. at (i / 4 * 4 + 3) (omega arith) (b.3 ∙ sym f.1)))))
