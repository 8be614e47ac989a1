-- Laws of the blocks that a bank holds: their records, cells and rows, and the tests of a bank and a scan state put together from their parts.
-- Assumes nothing.
use mathlib.Core.Path.{◌≡◌, refl, sym, ◌∙◌, ap, ap₂}
use mathlib.Core.Bool.{Bool, true, false, ◌&&◌, and-true, and-false}
use Prim.Native.Nat.{ℕ, ◌+◌, ◌-◌, ◌*◌, ◌^◌, ◌≤◌, ◌<◌}
use native.Mathlib.Omega.{arith}
use lib.Dec.{leb, ltb}
use lib.ListN.{get_or, take, drop}
use lib.Pow.{pow_mono}
use borrow.Author.Tests.{leb-true, le-leb, lt-leb, lt-ltb, le-ltb}
use Rattle.laws.specs.Tests.{every, within}
use Rattle.laws.proofs.Cases.{and_split}
use Rattle.laws.proofs.Tests.{every_at, within_yes, within_low, within-high, within_has}
use Rattle.laws.proofs.Counts.{sum-next}
use Rattle.stored_spec.specs.RowBytes.{two_bytes}
use Rattle.stored_spec.specs.StoredForm.{records_formed, record_count, cell_count, cell_at, row_count}
use Rattle.stored.specs.Reads.{rows_counted, cell_rails}
use Rattle.stored.specs.declared.CellRails.{CellRails}
use Rattle.stored_spec.proofs.Promises.{records_have}
use Rattle.stored.proofs.Promises.{cells-all, cells-few, formed_fit, rows_counted_lem, rows_told, rails-told, few-rails, some-rails}
use Rattle.bank_spec.specs.Due.{timed}
use Rattle.bank_spec.specs.declared.Bank.{Bank}
use Rattle.bank_spec.specs.declared.Scan.{Scan}
use Rattle.bank_spec.specs.State.{records_of, period_of, phase_of, due_at, block_formed, rows_before, cells_held, rows_held, bank_formed, scan_formed, formed}

module _ (k : Bank) (b : ℕ) where
  -- the part of the records that is lent
  pub part_is : {n : ℕ} → n ≡ get_or k.lengths b 0 → take (b * 80 + n * 4 - b * 80) (drop (b * 80) k.records) ≡ records_of k b
  unfolding records_of
  part_is {n} e =
      let z : b * 80 + n * 4 - b * 80 ≡ get_or k.lengths b 0 * 4 = omega arith in
      ap (λ (i : ℕ). take i (drop (b * 80) k.records)) z

  -- the test of a block from its parts
  pub too_few : {n : ℕ} → n ≡ get_or k.lengths b 0 → n < 1 → false ≡ block_formed k b
  unfolding block_formed
  too_few e l = rw (within_low 1 20 (get_or k.lengths b 0) (omega (arith, e, l))) refl

  pub too_many_lem : {n : ℕ} → n ≡ get_or k.lengths b 0 → 20 < n → false ≡ block_formed k b
  unfolding block_formed
  too_many_lem e l = rw (within-high 1 20 (get_or k.lengths b 0) (omega (arith, e, l))) refl

  -- p and f are the period and the phase that are held
  pub not-timed : {p f : ℕ} → p ≡ period_of k b → f ≡ phase_of k b → timed p f ≡ false → false ≡ block_formed k b
  unfolding block_formed
  not-timed u v e =
      let test = within 1 20 (get_or k.lengths b 0) && records_formed (records_of k b) in
      sym (ap (λ (t : Bool). test && t) (sym (ap₂ timed u v) ∙ e) ∙ and-false test)

  pub in_number : {n p f : ℕ} → n ≡ get_or k.lengths b 0 → 1 ≤ n → n ≤ 20 → p ≡ period_of k b → f ≡ phase_of k b → timed p f ≡ true
      → records_formed (records_of k b) ≡ block_formed k b
  unfolding block_formed
  in_number e l m u v t =
      sym (and-true (records_formed (records_of k b)))
      ∙ rw (within_yes 1 20 (get_or k.lengths b 0) (omega (arith, e, l)) (omega (arith, e, m)), sym (ap₂ timed u v) ∙ t) refl

  -- what a well formed block has
  module _ (e : block_formed k b ≡ true) where
    block_parts : (within 1 20 (get_or k.lengths b 0) ≡ true) × (records_formed (records_of k b) ≡ true)
    unfolding block_formed
    block_parts =
        and_split (within 1 20 (get_or k.lengths b 0)) (records_formed (records_of k b))
        (and_split (within 1 20 (get_or k.lengths b 0) && records_formed (records_of k b)) (timed (period_of k b) (phase_of k b)) e).0

    pub few-records : get_or k.lengths b 0 ≤ 20
    few-records = (within_has 1 20 (get_or k.lengths b 0) block_parts.0).1

    pub records_well : records_formed (records_of k b) ≡ true
    records_well = block_parts.1

    pub cells_at_most : cell_count (records_of k b) ≤ 20
    cells_at_most =
        let R = records_of k b in
        omega (arith, cells-all R, cells-few R (record_count R), (records_have two_bytes R records_well).few)

    pub rows_at_most : row_count (records_of k b) ≤ 32768
    rows_at_most = (records_have two_bytes (records_of k b) records_well).rows

    pub rows_are : rows_counted (records_of k b) ≡ row_count (records_of k b)
    rows_are = sym (rows_counted_lem (records_of k b) (formed_fit (records_of k b) records_well))

    module _ (cell : ℕ) (l : cell < cell_count (records_of k b)) where
      told : rows_told (records_of k b) cell ≡ true
      told = ap₂ ◌&&◌ (formed_fit (records_of k b) records_well) (lt-ltb cell (cell_count (records_of k b)) l)

      pub rails_at_most : (cell_at (records_of k b) cell).upper ≤ 12
      rails_at_most = few-rails (records_of k b) cell told

      -- the upper rails u that a call gives
      module _ {u : ℕ} {r : CellRails} (h : r ≡ cell_rails (records_of k b) cell) (g : u ≡ r.upper) where
        pub upper_is : u ≡ (cell_at (records_of k b) cell).upper
        upper_is = g ∙ ap (λ (c : CellRails). c.upper) (h ∙ sym (some-rails (records_of k b) cell (rails-told (records_of k b) cell told)))

        pub words_at_most : 2 ^ u ≤ 4096
        words_at_most = pow_mono {j = 12} (omega (arith, upper_is, rails_at_most))

-- each of the blocks held
pub block_at : (k : Bank) → every k.count (block_formed k) ≡ true → (b : ℕ) → b < k.count → block_formed k b ≡ true
block_at k e = every_at (block_formed k) k.count e

-- one block more
pub rows_next : (k : Bank) (b : ℕ) {n m : ℕ} → n ≡ rows_before k b → m ≡ row_count (records_of k b) → n + m ≡ rows_before k (b + 1)
unfolding rows_before
rows_next k b p q = ap₂ (λ (x y : ℕ). x + y) p q ∙ sym (sum-next (λ i. row_count (records_of k i)) b)

-- none
pub no_rows : (k : Bank) → 0 ≡ rows_before k 0
unfolding rows_before
no_rows k = refl

module _ (k : Bank) where
  -- the test of a bank from its parts
  pub limit-low : k.limit < 1 → false ≡ bank_formed k
  unfolding bank_formed
  limit-low l = rw (within_low 1 255 k.limit l) refl

  pub limit-high : 255 < k.limit → false ≡ bank_formed k
  unfolding bank_formed
  limit-high l = rw (within-high 1 255 k.limit l) refl

  module _ (low : 1 ≤ k.limit) (high : k.limit ≤ 255) where
    pub blocks_many : 8 < k.count → false ≡ bank_formed k
    unfolding bank_formed
    blocks_many l = rw (within_yes 1 255 k.limit low high, lt-leb k.count 8 l) refl

    pub blocks_bad : k.count ≤ 8 → every k.count (block_formed k) ≡ false → false ≡ bank_formed k
    unfolding bank_formed
    blocks_bad l e = rw (within_yes 1 255 k.limit low high, le-leb k.count 8 l, e) refl

    pub blocks-good : k.count ≤ 8 → every k.count (block_formed k) ≡ true → (every 8 (λ n. leb (cells_held k n) k.limit) && leb (rows_held k) 32768) ≡ bank_formed k
    unfolding bank_formed
    blocks-good l e = rw (within_yes 1 255 k.limit low high, le-leb k.count 8 l, e) refl

-- the parts of the test of a bank
pub record BankHas (k : Bank) : Type 0 where
  pub low : 1 ≤ k.limit
  pub high : k.limit ≤ 255
  pub few : k.count ≤ 8
  pub all : every k.count (block_formed k) ≡ true
  pub blocks : (b : ℕ) → b < k.count → block_formed k b ≡ true
  pub cells : (n : ℕ) → n < 8 → cells_held k n ≤ k.limit
  pub rows : rows_held k ≤ 32768

pub bank-has : (k : Bank) → bank_formed k ≡ true → BankHas k
unfolding bank_formed
bank-has k e =
    let d = and_split _ (leb (rows_held k) 32768) e in
    let c = and_split _ (every 8 (λ n. leb (cells_held k n) k.limit)) d.0 in
    let b = and_split _ (every k.count (block_formed k)) c.0 in
    let a = and_split (within 1 255 k.limit) (leb k.count 8) b.0 in
    let w = within_has 1 255 k.limit a.0 in
    record {
      low = w.0;
      high = w.1;
      few = leb-true k.count 8 a.1;
      all = b.1;
      blocks = block_at k b.1;
      cells = λ n l. leb-true (cells_held k n) k.limit (every_at (λ n. leb (cells_held k n) k.limit) 8 c.1 n l);
      rows = leb-true (rows_held k) 32768 d.1;
    }

pub state-bank : (k : Bank) (s : Scan) → formed k s ≡ true → bank_formed k ≡ true
unfolding formed
state-bank k s e = (and_split (bank_formed k) (scan_formed k s) e).0

-- what holds of a bank whose state is well formed
pub bank_there : (k : Bank) (s : Scan) → formed k s ≡ true → BankHas k
bank_there k s e = bank-has k (state-bank k s e)

-- the test of a scan state from its parts
module _ (k : Bank) (s : Scan) where
  pub number-high : 7 < s.number → false ≡ scan_formed k s
  unfolding scan_formed
  number-high l = rw (lt-leb s.number 7 l) refl

  module _ (low : s.number ≤ 7) where
    pub not_running : s.running ≡ false → true ≡ scan_formed k s
    unfolding scan_formed
    not_running e = rw (le-leb s.number 7 low, e) refl

    module _ (e : s.running ≡ true) where
      pub no_block : k.count ≤ s.block → false ≡ scan_formed k s
      unfolding scan_formed
      no_block l = rw (le-leb s.number 7 low, e, le-ltb s.block k.count l) refl

      module _ (l : s.block < k.count) {b : ℕ} (p : b ≡ s.block) where
        pub not-due : due_at k s.number b ≡ false → false ≡ scan_formed k s
        unfolding scan_formed
        not-due d = rw (le-leb s.number 7 low, e, lt-ltb s.block k.count l, sym p, d) refl

        pub in_block : {c : ℕ} {t : Bool} → c ≡ s.cell → due_at k s.number b ≡ true
            → t ≡ (ltb c (cell_count (records_of k b)) && ltb s.rail (2 ^ (cell_at (records_of k b) c).upper)) → t ≡ scan_formed k s
        unfolding scan_formed
        in_block q d h = rw (le-leb s.number 7 low, e, lt-ltb s.block k.count l, sym p, sym q, d) h
