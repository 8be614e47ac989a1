-- Rows and their bytes: z bytes a row, and back.
-- Assumes nothing.
use mathlib.Core.Path.{◌≡◌, refl, sym, ◌∙◌, ap, ap₂}
use mathlib.Core.Bool.{◌&&◌}
use mathlib.Core.List.{List}
use Prim.Native.Nat.{ℕ, zero, suc, ◌+◌, ◌-◌, ◌*◌, ◌/◌, ◌%◌, ◌^◌, ◌<◌, ◌≤◌}
use native.Mathlib.Nat.{mod-lt, mod-eq_of_lt, mul-le-mul_right, add-mul, not-suc-le-zero, div-lt_iff_lt-mul, div-add-mod', mul-div_cancel}
use native.Mathlib.Omega.{arith}
use lib.Dec.{eqb, ltb}
use lib.ListN.{length, get_or, take, drop}
use lib.Seq.{get_or-take, get_or-drop, ext_get_or}
use lib.Pow.{pow_pos, pow-add, mod-pow-add, mod-mod-pow, field, high, low}
use lib.Arith.{digits_lt}
use Rattle.laws.specs.Tests.{every, sum}
use Rattle.laws.specs.Lists.{tab, rect, written}
use Rattle.laws.proofs.Cases.{last_or_below}
use Rattle.laws.proofs.Counts.{sum_ext}
use Rattle.laws.proofs.Filled.{get_or_before, get_or-written}
use Rattle.laws.proofs.Lists.{row_end, length-tab, get_or-tab, tab_ext, tab_of, length-rect, get_or-rect, rect-each}
use Rattle.laws.proofs.Tests.{every_ext}
use Rattle.stored_spec.specs.Cells.{Cell, rows}
use Rattle.stored_spec.specs.RowBytes.{one_byte, row_value, rows_of, room, row_bytes}
use Rattle.stored_spec.specs.StoredForm.{cell_count, cell_at, size_of, rows_before, row_count, records_formed_as, rows_formed_as, well_formed_as}

-- bytes put together, lowest first
abbrev joined_bytes : ℕ → (ℕ → ℕ) → ℕ
joined_bytes z d = sum z (λ b. d b * 2 ^ (8 * b))

more_bits : (z : ℕ) → 8 * suc z ≡ 8 + 8 * z
more_bits z = omega arith

joined-lt : (z : ℕ) (d : ℕ → ℕ) → ((b : ℕ) → b < z → d b < 256) → joined_bytes z d < 2 ^ (8 * z)
joined-lt zero d h = omega arith
joined-lt (suc z) d h =
    let before = joined-lt z d (λ b l. h b (omega arith)) in
    let whole : d z * 2 ^ (8 * z) + joined_bytes z d < 2 ^ 8 * 2 ^ (8 * z) = digits_lt (h z (omega arith)) before in
    rw (ap (λ (k : ℕ). 2 ^ k) (more_bits z) ∙ pow-add 2 8 (8 * z)) (omega arith)

-- a number put above k bits does not show in the 8 bits from e on
lower : (q r k e : ℕ) → e + 8 ≤ k → r < 2 ^ k → (q * 2 ^ k + r) / 2 ^ e % 256 ≡ r / 2 ^ e % 256
lower q r k e l h =
    let n = q * 2 ^ k + r in
    let j = k - (8 + e) in
    let whole : j + (8 + e) ≡ k = omega arith in
    let cut : n % 2 ^ (8 + e) ≡ r % 2 ^ (8 + e) =
    sym (mod-mod-pow n j (8 + e)) ∙ ap (λ (x : ℕ). n % 2 ^ x % 2 ^ (8 + e)) whole ∙ ap (λ (x : ℕ). x % 2 ^ (8 + e)) (low q k h) in
    sym (field n 8 e) ∙ ap (λ (x : ℕ). x / 2 ^ e) cut ∙ field r 8 e

-- byte b of the number put together
joined-byte : (z : ℕ) (d : ℕ → ℕ) → ((b : ℕ) → b < z → d b < 256) → (b : ℕ) → b < z → joined_bytes z d / 2 ^ (8 * b) % 256 ≡ d b
joined-byte zero d h b l = absurd (not-suc-le-zero l)
joined-byte (suc z) d h b l =
    let small : (b : ℕ) → b < z → d b < 256 = λ b m. h b (omega arith) in
    let before = joined-lt z d small in
    let turn : joined_bytes (suc z) d ≡ d z * 2 ^ (8 * z) + joined_bytes z d = omega arith in
    last_or_below b z l
    (λ e.
    ap₂ (λ (x k : ℕ). x / 2 ^ (8 * k) % 256) turn e ∙ ap (λ (x : ℕ). x % 256) (high (d z) (8 * z) before) ∙ mod-eq_of_lt (h z (omega arith)) ∙ ap d (sym e))
    (λ m.
    let k = 8 * z in
    let c : 8 * b + 8 ≤ k = omega arith in
    ap (λ (x : ℕ). x / 2 ^ (8 * b) % 256) turn ∙ lower (d z) (joined_bytes z d) k (8 * b) c before ∙ joined-byte z d small b m)

-- a number's bytes put together again: its lowest bits
bytes-joined : (z x : ℕ) → joined_bytes z (λ b. x / 2 ^ (8 * b) % 256) ≡ x % 2 ^ (8 * z)
bytes-joined zero x = let h = mod-lt x (pow_pos 0) in omega arith
bytes-joined (suc z) x =
    let e = ap (λ (k : ℕ). x % 2 ^ k) (more_bits z) ∙ mod-pow-add x 8 (8 * z) in
    omega (arith, bytes-joined z x, e)

module _ (z : ℕ) where
  pub length-row_bytes : (rows : List ℕ) → length (row_bytes z rows) ≡ room z (length rows)
  unfolding row_bytes room
  length-row_bytes rows = length-rect z (λ i b. get_or rows i 0 / 2 ^ (8 * b) % 256) (length rows)

  -- a row is below 256^z
  pub row_lt : (bytes : List ℕ) → ((i : ℕ) → get_or bytes i 0 < 256) → (i : ℕ) → row_value z bytes i < 2 ^ (8 * z)
  unfolding row_value
  row_lt bytes h i = joined-lt z (λ b. get_or bytes (i * z + b) 0) (λ b l. h (i * z + b))

  -- byte b of row i in the bytes of rows
  pub byte_at : (rows : List ℕ) (i b : ℕ) → i < length rows → b < z → get_or (row_bytes z rows) (i * z + b) 0 ≡ get_or rows i 0 / 2 ^ (8 * b) % 256
  unfolding row_bytes
  byte_at rows i b l m = get_or-rect z (λ i b. get_or rows i 0 / 2 ^ (8 * b) % 256) 0 (length rows) i b l m

  -- a row of the bytes of rows
  pub row_kept : (rows : List ℕ) (i : ℕ) → i < length rows → get_or rows i 0 < 2 ^ (8 * z) → row_value z (row_bytes z rows) i ≡ get_or rows i 0
  unfolding row_value
  row_kept rows i l h =
      sum_ext (λ b. get_or (row_bytes z rows) (i * z + b) 0 * 2 ^ (8 * b)) (λ b. get_or rows i 0 / 2 ^ (8 * b) % 256 * 2 ^ (8 * b)) z
      (λ b m. ap (λ (x : ℕ). x * 2 ^ (8 * b)) (byte_at rows i b l m))
      ∙ bytes-joined z (get_or rows i 0) ∙ mod-eq_of_lt h

  -- the bytes of rows are bytes
  pub bytes_small : (rows : List ℕ) (i : ℕ) → get_or (row_bytes z rows) i 0 < 256
  unfolding row_bytes
  bytes_small rows i =
      rect-each (λ (x : ℕ). x < 256) 0 (omega arith) (λ i b. get_or rows i 0 / 2 ^ (8 * b) % 256) (λ i b. mod-lt (get_or rows i 0 / 2 ^ (8 * b)) (omega arith)) (length rows) z i

  pub length-rows_of : (bytes : List ℕ) → length (rows_of z bytes) ≡ length bytes / z
  unfolding rows_of
  length-rows_of bytes = length-tab (row_value z bytes) (length bytes / z)

  pub row_at : (bytes : List ℕ) (i : ℕ) → i < length bytes / z → get_or (rows_of z bytes) i 0 ≡ row_value z bytes i
  unfolding rows_of
  row_at bytes i l = get_or-tab (row_value z bytes) 0 (length bytes / z) i l

  module _ (some : 0 < z) where
    -- so many rows are in the bytes that n rows take
    pub rows-room : (n : ℕ) → room z n / z ≡ n
    unfolding room
    rows-room n = mul-div_cancel n some

    -- rows, their bytes, and the rows of these
    pub rows-kept : (rows : List ℕ) → ((i : ℕ) → i < length rows → get_or rows i 0 < 2 ^ (8 * z)) → rows_of z (row_bytes z rows) ≡ rows
    unfolding rows_of
    rows-kept rows h =
        let n : length (row_bytes z rows) / z ≡ length rows = ap (λ (x : ℕ). x / z) (length-row_bytes rows) ∙ rows-room (length rows) in
        ap (λ (k : ℕ). tab k (row_value z (row_bytes z rows))) n
        ∙ tab_ext (row_value z (row_bytes z rows)) (λ i. get_or rows i 0) (length rows) (λ i l. row_kept rows i l (h i l)) ∙ tab_of 0 rows

    -- bytes, their rows, and the bytes of these
    pub bytes-kept : (bytes : List ℕ) (n : ℕ) → length bytes ≡ room z n → ((i : ℕ) → get_or bytes i 0 < 256) → row_bytes z (rows_of z bytes) ≡ bytes
    unfolding row_bytes room row_value
    bytes-kept bytes n e h =
        let count : length (rows_of z bytes) ≡ n = length-rows_of bytes ∙ ap (λ (x : ℕ). x / z) e ∙ mul-div_cancel n some in
        let whole : length bytes / z ≡ n = ap (λ (x : ℕ). x / z) e ∙ mul-div_cancel n some in
        let F : ℕ → ℕ → ℕ = λ i b. get_or (rows_of z bytes) i 0 / 2 ^ (8 * b) % 256 in
        ext_get_or 0 (rect (length (rows_of z bytes)) z F) bytes (length-rect z F (length (rows_of z bytes)) ∙ ap (λ (k : ℕ). k * z) count ∙ sym e)
        (λ j l.
        let i = j / z in
        let b = j % z in
        let b< : b < z = mod-lt j some in
        let at : i * z + b ≡ j = div-add-mod' j z in
        let total : j < n * z = omega (arith, length-rect z F (length (rows_of z bytes)), ap (λ (k : ℕ). k * z) count) in
        let i< : i < n = (div-lt_iff_lt-mul some).1 total in
        ap (λ (k : ℕ). get_or (rect (length (rows_of z bytes)) z F) k 0) (sym at)
        ∙ get_or-rect z F 0 (length (rows_of z bytes)) i b (omega arith) b<
        ∙ ap (λ (x : ℕ). x / 2 ^ (8 * b) % 256) (row_at bytes i (omega arith))
        ∙ joined-byte z (λ b. get_or bytes (i * z + b) 0) (λ b m. h (i * z + b)) b b< ∙ ap (λ (k : ℕ). get_or bytes k 0) at)

-- more rows take no less room
pub room_rise : (z m n : ℕ) → m ≤ n → room z m ≤ room z n
unfolding room
room_rise z m n h = mul-le-mul_right z h

-- with two bytes a row
pub room_two : (n : ℕ) → room 2 n ≡ n * 2
unfolding room
room_two n = refl

pub row_two : (bytes : List ℕ) (i : ℕ) → row_value 2 bytes i ≡ get_or bytes (i * 2) 0 + get_or bytes (i * 2 + 1) 0 * 256
unfolding row_value
row_two bytes i = let e : i * 2 + 0 ≡ i * 2 = omega arith in omega (arith, ap (λ (k : ℕ). get_or bytes k 0) e)

-- with one byte a row: document 01's stored form
pub room_one : (n : ℕ) → room one_byte n ≡ n
unfolding room
room_one n = omega arith

pub row_one : (bytes : List ℕ) (i : ℕ) → row_value one_byte bytes i ≡ get_or bytes i 0
unfolding row_value
row_one bytes i = let e : i * 1 + 0 ≡ i = omega arith in omega (arith, ap (λ (k : ℕ). get_or bytes k 0) e)

pub formed_one : (R bytes : List ℕ) → well_formed_as one_byte R bytes
    ≡ (records_formed_as one_byte R && eqb (length bytes) (row_count R)
    && every (cell_count R) (λ k. every (rows (size_of (cell_at R k))) (λ i. ltb (get_or bytes (rows_before R k + i) 0) (2 ^ (size_of (cell_at R k)).outputs))))
unfolding well_formed_as rows_formed_as
formed_one R bytes =
    let size : ℕ → Cell = λ k. size_of (cell_at R k) in
    ap₂ ◌&&◌ (ap (λ (n : ℕ). records_formed_as one_byte R && eqb (length bytes) n) (room_one (row_count R)))
    (every_ext (λ k. every (rows (size k)) (λ i. ltb (row_value one_byte bytes (rows_before R k + i)) (2 ^ (size k).outputs)))
    (λ k. every (rows (size k)) (λ i. ltb (get_or bytes (rows_before R k + i) 0) (2 ^ (size k).outputs))) (cell_count R)
    (λ k l.
    every_ext (λ i. ltb (row_value one_byte bytes (rows_before R k + i)) (2 ^ (size k).outputs))
    (λ i. ltb (get_or bytes (rows_before R k + i) 0) (2 ^ (size k).outputs)) (rows (size k))
    (λ i h. ap (λ (x : ℕ). ltb x (2 ^ (size k).outputs)) (row_one bytes (rows_before R k + i)))))

-- row bytes of which a part is written over, from row a on
module _ (z : ℕ) (l : List ℕ) (a : ℕ) (vs : List ℕ) (fits : room z a + length vs ≤ length l) where
  pub row_before : (p : ℕ) → p < a → row_value z (written l (room z a) vs) p ≡ row_value z l p
  unfolding row_value room
  row_before p h =
      sum_ext (λ b. get_or (written l (a * z) vs) (p * z + b) 0 * 2 ^ (8 * b)) (λ b. get_or l (p * z + b) 0 * 2 ^ (8 * b)) z
      (λ b m. ap (λ (x : ℕ). x * 2 ^ (8 * b)) (get_or_before l (a * z) vs fits 0 (p * z + b) (omega (arith, row_end p a z h))))

  pub row_written : (i : ℕ) → room z (i + 1) ≤ length vs → row_value z (written l (room z a) vs) (a + i) ≡ row_value z vs i
  unfolding row_value room
  row_written i h =
      sum_ext (λ b. get_or (written l (a * z) vs) ((a + i) * z + b) 0 * 2 ^ (8 * b)) (λ b. get_or vs (i * z + b) 0 * 2 ^ (8 * b)) z
      (λ b m.
      let e : (a + i) * z + b ≡ a * z + (i * z + b) = omega (arith, add-mul a i z) in
      ap (λ (x : ℕ). x * 2 ^ (8 * b))
      (ap (λ (k : ℕ). get_or (written l (a * z) vs) k 0) e ∙ get_or-written l (a * z) vs fits 0 (i * z + b) (omega (arith, add-mul i 1 z))))

-- the rows of a part of row bytes, from row a on
pub row_part : (z : ℕ) (l : List ℕ) (a n i : ℕ) → i < n → row_value z (take (room z n) (drop (room z a) l)) i ≡ row_value z l (a + i)
unfolding row_value room
row_part z l a n i h =
    sum_ext (λ b. get_or (take (n * z) (drop (a * z) l)) (i * z + b) 0 * 2 ^ (8 * b)) (λ b. get_or l ((a + i) * z + b) 0 * 2 ^ (8 * b)) z
    (λ b m.
    let e : a * z + (i * z + b) ≡ (a + i) * z + b = omega (arith, add-mul a i z) in
    ap (λ (x : ℕ). x * 2 ^ (8 * b))
    (get_or-take (n * z) (drop (a * z) l) (i * z + b) 0 (omega (arith, row_end i n z h)) ∙ get_or-drop (a * z) l (i * z + b) 0 ∙ ap (λ (k : ℕ). get_or l k 0) e))
