-- The stored form of an admissible cut list of a function is well formed.
-- Assumes nothing.
use mathlib.Core.Path.{◌≡◌, refl, sym, ◌∙◌, ap, ap₂}
use mathlib.Core.Bool.{Bool, true, false, cond, not, ◌&&◌, ◌||◌, or-true}
use mathlib.Core.List.{List, [], ◌∷◌}
use Prim.Native.Nat.{ℕ, zero, suc, ◌+◌, ◌-◌, ◌*◌, ◌/◌, ◌%◌, ◌^◌, ◌<◌, ◌≤◌}
use native.Mathlib.Nat.{not-suc-le-zero, mod-lt}
use native.Mathlib.Omega.{arith}
use lib.Dec.{eqb, leb, ltb}
use lib.ListN.{length, get_or}
use lib.Pow.{pow_pos, pow_mono, shl_lt, shl-shr}
use borrow.Author.Tests.{eq-eqb, ne_eqb, leb-true, le-leb, ltb-true, lt-ltb, not-false}
use Rattle.laws.specs.Tests.{within}
use Rattle.laws.specs.Bits.{flag}
use Rattle.laws.proofs.Cases.{by_test, cond-each, and_split, and_join}
use Rattle.laws.proofs.Tests.{every_of}
use Rattle.laws.proofs.Counts.{sum_at, in_part}
use Rattle.laws.proofs.Powers.{place_below}
use Rattle.sheet_spec.specs.Job.{Job, t, ins, outs, var_at, is_input}
use Rattle.sheet_spec.specs.Refusals.{out_of_range, not_each_once, sheet_refusal}
use Rattle.sheet_spec.specs.Table.{table}
use Rattle.sheet_spec.specs.Accepted.{Accepted}
use Rattle.sheet_spec.proofs.Promises.{ins_rise, ins-all, given1, job-accepted, input_low, output_low, output_byte_lem, variable_one}
use Rattle.reduction_spec.specs.Columns.{firsts_at, layers, layer, width_in}
use Rattle.reduction_spec.specs.Merge.{reduced}
use Rattle.reduction_spec.proofs.Promises.{first_below, width-bottom, width-layer}
use Rattle.stored_spec.specs.declared.Cell.{Cell}
use Rattle.stored_spec.specs.Cells.{fits, rows, all_fit, row_total}
use Rattle.cutting_spec.specs.Cuts.{CutList, cell_outputs, cell_between, cells_of}
use Rattle.stored_spec.specs.Rails.{rails, rails_at}
use Rattle.cutting_spec.specs.Choice.{admissible}
use Rattle.cutting_spec.specs.Compile.{widths_of}
use Rattle.cutting_spec.specs.Rows.{row, cascade_rows}
use Rattle.stored_spec.specs.StoredForm.{record_count, variable, cut_byte, rail_byte, last_byte, cell_count, cell_at, size_of, rows_before, row_count, record_formed, cell_formed, cell_formed_as, records_formed, records_formed_as, rows_formed_as, well_formed, well_formed_as, member, stored}
use Rattle.stored_spec.specs.RowBytes.{two_bytes, row_value, room, row_bytes}
use Rattle.stored_spec.proofs.Promises.{few-outputs, rails-least, rails_at_lem, length-row_bytes, row_kept}
use Rattle.cutting_spec.proofs.StoredCuts.{stored-length, stored-variable, stored_cut, stored-rails, stored_last, record_count_lem, member-bottom, cuts_fall, cuts_most, cell-count, cell-size, rows_at, rows-length, rows_total}
use Rattle.cutting_spec.proofs.RailCounts.{width_at, layer_at}
use Rattle.cutting_spec.proofs.RowRead.{row_small}

flag_one : (b : Bool) → leb (flag b) 1 ≡ true
flag_one true = refl
flag_one false = refl

-- rails are 0 where there is no cut
cut_or_none : (b : Bool) (r : ℕ) → (eqb (flag b) 1 || eqb (cond b r 0) 0) ≡ true
cut_or_none true r = refl
cut_or_none false r = refl

-- each of the cells of a list fits, and so it does within wider limits
pub fit_at : (j : Job) (ws : List ℕ) (a b : ℕ) (l : List ℕ) (k : ℕ) → all_fit a b (cells_of j ws l) ≡ true → suc k < length l
    → fits a b (cell_between j ws (get_or l k 0) (get_or l (suc k) 0)) ≡ true
unfolding all_fit cells_of
fit_at j ws a b [] k e h = absurd (not-suc-le-zero h)
fit_at j ws a b (x ∷ []) k e h = absurd (omega arith)
fit_at j ws a b (x ∷ y ∷ l) zero e h = (and_split (fits a b (cell_between j ws x y)) (all_fit a b (cells_of j ws (y ∷ l))) e).0
fit_at j ws a b (x ∷ y ∷ l) (suc k) e h =
    fit_at j ws a b (y ∷ l) k (and_split (fits a b (cell_between j ws x y)) (all_fit a b (cells_of j ws (y ∷ l))) e).1 (omega arith)

pub fits_more : (a b a' b' : ℕ) (c : Cell) → a ≤ a' → b ≤ b' → fits a b c ≡ true → fits a' b' c ≡ true
unfolding fits
fits_more a b a' b' c p q e =
    let both = and_split (leb c.inputs a) (leb c.outputs b) e in
    let i = leb-true c.inputs a both.0 in
    let o = leb-true c.outputs b both.1 in
    and_join (le-leb c.inputs a' (omega arith)) (le-leb c.outputs b' (omega arith))

pub all_more : (a b a' b' : ℕ) → a ≤ a' → b ≤ b' → (cs : List Cell) → all_fit a b cs ≡ true → all_fit a' b' cs ≡ true
unfolding all_fit
all_more a b a' b' p q [] e = refl
all_more a b a' b' p q (c ∷ cs) e =
    let (one, rest) = and_split (fits a b c) (all_fit a b cs) e in
    and_join (fits_more a b a' b' c p q one) (all_more a b a' b' p q cs rest)

module _ (j : Job) (once : not_each_once j.n j.m j.order ≡ false) (few : j.n ≤ 12) (out : j.m ≤ 8) (f l : List ℕ) (cuts : CutList (t j) l) where
  abbrev ls : List (List ℕ)
  ls = layers j f

  abbrev ws : List ℕ
  ws = widths_of (layers j f)

  abbrev R : List ℕ
  R = stored j ws l

  abbrev values : List ℕ
  values = cascade_rows j f ls ws l

  abbrev bytes : List ℕ
  bytes = row_bytes two_bytes values

  -- each record
  variable_at : (i : ℕ) → i < t j → variable R i ≡ var_at j (suc (t j - suc i))
  unfolding stored
  variable_at i h = let e : t j - i ≡ suc (t j - suc i) = omega arith in stored-variable j ws l (t j) i h ∙ ap (var_at j) e

  variable-good : (h : ℕ) → h < t j → (leb (var_at j (suc h)) 11 || within 128 135 (var_at j (suc h))) ≡ true
  variable-good h p =
      let v = var_at j (suc h) in
      by_test (is_input v)
      (λ e. ap (λ (b : Bool). b || within 128 135 v) (le-leb v 11 (omega (arith, input_low j once few out h p e))))
      (λ e.
      let low = output_low j once few out h p e in
      let byte = output_byte_lem j once few out h p e in
      ap (λ (b : Bool). leb v 11 || b) (and_join (le-leb 128 v byte) (le-leb v 135 (omega arith))) ∙ or-true (leb v 11))

  record_good : (i : ℕ) → i < t j → record_formed R i ≡ true
  unfolding record_formed stored
  record_good i h =
      let g = t j - suc i in
      let cut = member g l in
      and_join
      (and_join
      (and_join
      (and_join (ap (λ (v : ℕ). leb v 11 || within 128 135 v) (variable_at i h) ∙ variable-good g (omega arith))
      (ap (λ (c : ℕ). leb c 1) (stored_cut j ws l (t j) i h) ∙ flag_one cut))
      (ap₂ (λ (c r : ℕ). eqb c 1 || eqb r 0) (stored_cut j ws l (t j) i h) (stored-rails j ws l (t j) i h) ∙ cut_or_none cut (rails_at j ws g)))
      (eq-eqb (last_byte R i) 0 (stored_last j ws l (t j) i h)))
      (every_of (λ k. not (eqb (variable R k) (variable R i))) i
      (λ k p.
      ap not
      (ne_eqb (variable R k) (variable R i)
      (λ e.
      let same =
      variable_one j once few out (t j - suc k) g (omega arith) (omega arith) (sym (variable_at k (omega arith)) ∙ e ∙ variable_at i h) in
      omega arith))))

  -- the last record: a cut with 0 rails
  module _ (some : 1 ≤ t j) where
    last_cut : cut_byte R (t j - 1) ≡ 1
    unfolding stored
    last_cut =
        let e : t j - suc (t j - 1) ≡ 0 = omega arith in
        stored_cut j ws l (t j) (t j - 1) (omega arith) ∙ ap (λ (h : ℕ). flag (member h l)) e ∙ ap flag (member-bottom cuts)

    no_rails_lem : rails_at j ws 0 ≡ 0
    no_rails_lem =
        let one : get_or ws 0 0 ≡ 1 = width_at ls 0 ∙ width-layer j f 0 (omega arith) ∙ width-bottom j f in
        rails_at_lem j ws 0 (omega arith) ∙ ap rails one ∙ omega (arith, rails-least 1 0 (omega arith))

    last_rails : rail_byte R (t j - 1) ≡ 0
    unfolding stored
    last_rails =
        let e : t j - suc (t j - 1) ≡ 0 = omega arith in
        stored-rails j ws l (t j) (t j - 1) (omega arith) ∙ ap (λ (h : ℕ). cond (member h l) (rails_at j ws h) 0) e
        ∙ ap (λ (b : Bool). cond b (rails_at j ws 0) 0) (member-bottom cuts) ∙ no_rails_lem

    module _ (k≤ : j.K ≤ 12) (l≤ : j.L ≤ 16) (fit : admissible j ws l ≡ true) where
      all_fit_lem : all_fit j.K j.L (cells_of j ws l) ≡ true
      unfolding admissible
      all_fit_lem = (and_split _ (leb (row_total (cells_of j ws l)) 32768) fit).0

      rows_few : row_count R ≤ 32768
      unfolding admissible
      rows_few =
          omega (
            arith,
            leb-true (row_total (cells_of j ws l)) 32768 (and_split (all_fit j.K j.L (cells_of j ws l)) _ fit).1,
            rows_total j f ls ws l,
            rows-length j f ls ws l cuts,
          )

      within_list : (k : ℕ) → k < cell_count R → suc k < length l
      within_list k h = omega (arith, cell-count j ws l cuts)

      fits_largest : (k : ℕ) → suc k < length l → fits 12 16 (cell_between j ws (get_or l k 0) (get_or l (suc k) 0)) ≡ true
      fits_largest k p =
          fits_more j.K j.L 12 16 (cell_between j ws (get_or l k 0) (get_or l (suc k) 0)) k≤ l≤ (fit_at j ws j.K j.L l k all_fit_lem p)

      few-values : (k : ℕ) → suc k < length l → 2 ^ (cell_between j ws (get_or l k 0) (get_or l (suc k) 0)).outputs ≤ 2 ^ 16
      few-values k p = pow_mono (few-outputs (cell_between j ws (get_or l k 0) (get_or l (suc k) 0)) (fits_largest k p))

      cell-good : (k : ℕ) → k < cell_count R → cell_formed R k ≡ true
      unfolding cell_formed_as
      cell-good k h =
          let p = within_list k h in
          ap (fits 12 16) (cell-size j ws l cuts k p) ∙ fits_largest k p

      whole : length R ≡ t j * 4
      unfolding stored
      whole = stored-length j ws l (t j)

      records-good : records_formed R ≡ true
      unfolding records_formed_as
      records-good =
          let n = record_count_lem j ws l in
          let last : record_count R - 1 ≡ t j - 1 = ap (λ (k : ℕ). k - 1) n in
          and_join
          (and_join
          (and_join
          (and_join
          (and_join
          (and_join (eq-eqb (length R) (record_count R * 4) (whole ∙ sym (ap (λ (k : ℕ). k * 4) n)))
          (and_join (le-leb 1 (record_count R) (omega arith)) (le-leb (record_count R) 20 (omega arith))))
          (every_of (record_formed R) (record_count R) (λ i p. record_good i (omega arith))))
          (eq-eqb (cut_byte R (record_count R - 1)) 1 (ap (cut_byte R) last ∙ last_cut)))
          (eq-eqb (rail_byte R (record_count R - 1)) 0 (ap (rail_byte R) last ∙ last_rails)))
          (every_of (cell_formed R) (cell_count R) cell-good))
          (le-leb (row_count R) 32768 rows_few)

      -- each row
      row-good : (a b i : ℕ) → b ≤ a → a ≤ t j → row j f ls ws a b i < 2 ^ (cell_between j ws a b).outputs
      unfolding row cell_between cell_outputs firsts_at
      row-good a b i le top =
          let d = ins j a - ins j b in
          let c = i / 2 ^ d in
          let p = get_or (layer ls a) c 0 in
          let u = p * 2 ^ d + i % 2 ^ d in
          let size = outs j a - outs j b + rails_at j ws b in
          let rise = ins_rise j b a le in
          let most : ins j a ≤ j.n = omega (arith, ins_rise j a (t j) top, ins-all j once few out) in
          cond-each (λ (r : ℕ). r < 2 ^ size) (ltb c (width_in ls a))
          (λ e.
          let c< = ltb-true c (width_in ls a) e in
          let same = layer_at j f a top in
          let p< : p < 2 ^ (j.n - ins j a) = rw same (first_below j.n (ins j a) (outs j a) f c (rw same at c<)) in
          let left : j.n - ins j b - d ≡ j.n - ins j a = omega arith in
          let u< : u < 2 ^ (j.n - ins j b) =
          place_below (j.n - ins j b) d p (i % 2 ^ d) (omega arith) (rw left p<) (mod-lt i (pow_pos d)) in
          let all : j.n - ins j b + ins j b ≡ j.n = omega arith in
          let x< : u * 2 ^ ins j b < 2 ^ j.n = rw all at (shl_lt (j.n - ins j b) (ins j b) u<) in
          rw (shl-shr u (ins j b)) at (row_small j once few out f a b (u * 2 ^ ins j b) top le x<))
          (λ e. pow_pos size)

      row_inside : (k i : ℕ) → suc k < length l → i < rows (size_of (cell_at R k)) → rows_before R k + i < length values
      unfolding row_count rows_before
      row_inside k i p q =
          let n = rows-length j f ls ws l cuts in
          let h = sum_at (λ m. rows (size_of (cell_at R m))) (cell_count R) k (omega (arith, cell-count j ws l cuts)) in
          omega (arith, n, h)

      cell-rows-good : (k : ℕ) → k < cell_count R → rows_formed_as two_bytes R bytes k ≡ true
      unfolding rows_formed_as
      cell-rows-good k h =
          let p = within_list k h in
          let size = cell-size j ws l cuts k p in
          let a = get_or l k 0 in
          let b = get_or l (suc k) 0 in
          let fall = cuts_fall cuts k p in
          every_of (λ i. ltb (row_value two_bytes bytes (rows_before R k + i)) (2 ^ (size_of (cell_at R k)).outputs)) (rows (size_of (cell_at R k)))
          (λ i q.
          let q' : i < rows (cell_between j ws a b) = rw size at q in
          lt-ltb (row_value two_bytes bytes (rows_before R k + i)) (2 ^ (size_of (cell_at R k)).outputs)
          (let small = row-good a b i (omega arith) (cuts_most cuts k) in
          let most = few-values k p in
          let at = rows_at j f ls ws l cuts k i p q' in
          rw (row_kept two_bytes values (rows_before R k + i) (row_inside k i p q) (omega (arith, at)) ∙ at, size) small))

      -- a row's value fits in two bytes
      pub values-small : (p : ℕ) → p < length (cascade_rows j f (layers j f) (widths_of (layers j f)) l)
          → get_or (cascade_rows j f (layers j f) (widths_of (layers j f)) l) p 0 < 2 ^ 16
      unfolding row_count rows_before
      values-small p h =
          let n = rows-length j f ls ws l cuts in
          let r = in_part (λ m. rows (size_of (cell_at R m))) (cell_count R) p (omega (arith, n)) in
          let k = r.part in
          let q = within_list k r.within in
          let a = get_or l k 0 in
          let b = get_or l (suc k) 0 in
          let fall = cuts_fall cuts k q in
          let i< : r.place < rows (cell_between j ws a b) = rw (cell-size j ws l cuts k q) at r.below in
          let small = row-good a b r.place (omega arith) (cuts_most cuts k) in
          let most = few-values k q in
          let at = ap (λ (x : ℕ). get_or values x 0) r.at ∙ rows_at j f ls ws l cuts k r.place q i< in
          omega (arith, at)

      pub well_formed_lem : well_formed (stored j (widths_of (layers j f)) l) (row_bytes two_bytes (cascade_rows j f (layers j f) (widths_of (layers j f)) l)) ≡ true
      unfolding well_formed_as
      well_formed_lem =
          and_join (and_join records-good (eq-eqb (length bytes) (room two_bytes (row_count R)) (length-row_bytes two_bytes values ∙ ap (room two_bytes) (rows-length j f ls ws l cuts))))
          (every_of (rows_formed_as two_bytes R bytes) (cell_count R) cell-rows-good)

-- what a job with numbers in range keeps to, and an accepted one
in_limits : (n m k l : ℕ) → out_of_range n m k l ≡ false → (1 ≤ n) × (k ≤ 12) × (l ≤ 16)
unfolding out_of_range
in_limits n m k l e =
    let all = not-false (within 1 12 n && within 1 8 m && within 2 12 k && within 1 16 l) e in
    let three = and_split (within 1 12 n && within 1 8 m && within 2 12 k) (within 1 16 l) all in
    let two = and_split (within 1 12 n && within 1 8 m) (within 2 12 k) three.0 in
    let one = and_split (within 1 12 n) (within 1 8 m) two.0 in (
      leb-true 1 n (and_split (leb 1 n) (leb n 12) one.0).0,
      leb-true k 12 (and_split (leb 2 k) (leb k 12) two.1).1,
      leb-true l 16 (and_split (leb 1 l) (leb l 16) three.1).1,
    )

pub job_limits : (j : Job) (s : List ℕ) → sheet_refusal j s ≡ 0 → (1 ≤ j.n) × (j.K ≤ 12) × (j.L ≤ 16)
job_limits j s e =
    by_test (out_of_range j.n j.m j.K j.L)
    (λ p. let z : ◌≡◌ {A = ℕ} 0 1 = sym e ∙ given1 j.n j.m j.K j.L j.order s p in absurd (omega arith))
    (λ p. in_limits j.n j.m j.K j.L p)

-- the stored form of an accepted sheet's reduced function
pub compiled-formed : (j : Job) (s : List ℕ) → sheet_refusal j s ≡ 0 → (l : List ℕ) → CutList (t j) l
    → admissible j (widths_of (layers j (reduced j (table j s)))) l ≡ true
    → well_formed (stored j (widths_of (layers j (reduced j (table j s)))) l)
    (row_bytes two_bytes (cascade_rows j (reduced j (table j s)) (layers j (reduced j (table j s))) (widths_of (layers j (reduced j (table j s)))) l))
    ≡ true
compiled-formed j s e l cuts fit =
    let c : Accepted j.n j.m j.order s = job-accepted j s e in
    let (some, k≤, l≤) = job_limits j s e in
    well_formed_lem j c.order-whole c.inputs c.outputs (reduced j (table j s)) l cuts (omega arith) k≤ l≤ fit

-- and its rows have 16 bits
pub compiled-small : (j : Job) (s : List ℕ) → sheet_refusal j s ≡ 0 → (l : List ℕ) → CutList (t j) l
    → admissible j (widths_of (layers j (reduced j (table j s)))) l ≡ true
    → (p : ℕ) → p < length (cascade_rows j (reduced j (table j s)) (layers j (reduced j (table j s))) (widths_of (layers j (reduced j (table j s)))) l)
    → get_or (cascade_rows j (reduced j (table j s)) (layers j (reduced j (table j s))) (widths_of (layers j (reduced j (table j s)))) l) p 0 < 2 ^ 16
compiled-small j s e l cuts fit =
    let c : Accepted j.n j.m j.order s = job-accepted j s e in
    let (some, k≤, l≤) = job_limits j s e in
    values-small j c.order-whole c.inputs c.outputs (reduced j (table j s)) l cuts (omega arith) k≤ l≤ fit
