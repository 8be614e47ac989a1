-- What admission answers and leaves, case by case: each refusal, and acceptance.
-- Assumes nothing.
use mathlib.Core.Path.{◌≡◌, refl, sym, ◌∙◌, ap, ap₂}
use mathlib.Core.Bool.{Bool, true, false, cond, not, ◌||◌}
use mathlib.Core.List.{List, ◌++◌, append_assoc}
use Prim.Native.Nat.{ℕ, ◌+◌, ◌-◌, ◌*◌, ◌/◌, ◌<◌, ◌≤◌}
use native.Mathlib.Omega.{arith}
use borrow.Rule.Slice.PartMut.{put_mid}
use Rattle.std.specs.Prelude.{Option, Some, None, Result, Ok, Err}
use Rattle.std.specs.Option.{ok_or}
use Rattle.refusals.specs.declared.Refusal.{Refusal}
use lib.Seq.{drop-drop}
use borrow.Author.Tests.{ltb-false, leb-true, leb-false, lt-ltb, le-ltb, le-leb, lt-leb}
use lib.Dec.{eqb, leb, ltb}
use lib.ListN.{length, set, take, drop}
use Rattle.laws.specs.Lists.{written}
use Rattle.laws.specs.Tests.{any, every}
use Rattle.laws.proofs.Tests.{any_none, any_of, every_at, every_out}
use Rattle.laws.proofs.Cases.{by_test, cond_yes, cond_no, or_split}
use Rattle.stored_spec.specs.RowBytes.{two_bytes}
use Rattle.stored_spec.specs.StoredForm.{well_formed, record_count, cell_count, row_count}
use Rattle.stored.specs.Reads.{rows_counted}
use Rattle.stored_spec.proofs.Promises.{records_have, formed_parts, room_two}
use Rattle.stored.proofs.Promises.{cells-all, cells-few, formed_fit, rows_counted_lem}
use Rattle.bank_spec.specs.State.{State, rows_before, cells_held, rows_held, formed, at_rest, state_of}
use Rattle.bank_spec.specs.Due.{timed, due_cells}
use Rattle.bank_spec.specs.declared.Bank.{Bank}
use Rattle.bank_spec.specs.declared.Scan.{Scan}
use Rattle.bank_spec.specs.Calls.{After, numbered, Handed, handed, admit_refusal, with_block, admitted, admit}
use Rattle.bank.specs.Given.{given_number}
use Rattle.bank.proofs.timing.DueTests.{fits_at}

-- a list put back whole in another, as the part from place a on
pub put_whole : (a : ℕ) (l vs : List ℕ) {m : ℕ} → m ≡ a + length vs → put_mid a (m - a) l vs ≡ written l a vs
put_whole a l vs {m} e =
    let n : a + (m - a) ≡ a + length vs = omega arith in
    ap (λ (r : List ℕ). take a l ++ (vs ++ r)) (drop-drop (m - a) a l ∙ ap (λ (i : ℕ). drop i l) n)
    ∙ sym (append_assoc (take a l) vs (drop (a + length vs) l))

-- the bank with the block, from its parts
pub block-added : (k : Bank) (R bytes : List ℕ) (period phase : ℕ) {n : ℕ} {held : List ℕ} → n ≡ k.count → held ≡ written k.records (n * 80) R
    → record {
      limit = k.limit;
      count = k.count + 1;
      lengths = set k.lengths n (length R / 4);
      records = held;
      periods = set k.periods n period;
      phases = set k.phases n phase;
    }
    ≡ with_block k (handed R bytes period phase)
unfolding with_block
block-added k R bytes period phase {n} {held} e p =
    ap₂
    (λ (i : ℕ) (l : List ℕ).
    record {
      limit = k.limit;
      count = k.count + 1;
      lengths = set k.lengths i (length R / 4);
      records = l;
      periods = set k.periods i period;
      phases = set k.phases i phase;
    })
    e (p ∙ ap (λ (i : ℕ). written k.records (i * 80) R) e)

-- what was there where a refusal stands for what is missing, and what was missing
pub there_by : {A : Type 0} (o : Option A) (e : Refusal) {x : Result A Refusal} → x ≡ ok_or o e → {t : A} → x ≡ Ok t → o ≡ Some t
there_by (Some y) e {x} f g = let h : x ≡ Ok y = f in cc
there_by None e {x} f g = let h : x ≡ Err e = f in absurd (cc)

pub missing_by : {A : Type 0} (o : Option A) (e : Refusal) {x : Result A Refusal} → x ≡ ok_or o e → (r : Refusal) → x ≡ Err r → (o ≡ None) × (r ≡ e)
missing_by (Some y) e {x} f r g = let h : x ≡ Ok y = f in absurd (cc)
missing_by None e {x} f r g = let h : x ≡ Err e = f in (refl, cc)

-- some scan would read over limit cells exactly where not every scan fits
over_is : (f : ℕ → ℕ) (limit n : ℕ) → any n (λ i. ltb limit (f i)) ≡ not (every n (λ i. leb (f i) limit))
over_is f limit n =
    by_test (every n (λ i. leb (f i) limit))
    (λ e.
    any_none (λ i. ltb limit (f i)) n (λ i l. le-ltb limit (f i) (leb-true (f i) limit (every_at (λ i. leb (f i) limit) n e i l)))
    ∙ sym (ap not e))
    (λ e.
    let (i, l, h) = every_out (λ i. leb (f i) limit) n e in
    any_of (λ i. ltb limit (f i)) n i l (lt-ltb limit (f i) (leb-false (f i) limit h)) ∙ sym (ap not e))

-- what holds of a well formed block
pub record BlockHas (R bytes : List ℕ) : Type 0 where
  pub size : length R ≤ 80
  pub cells : cell_count R ≤ 20
  pub counted : rows_counted R ≡ row_count R
  pub few : rows_counted R ≤ 32768
  pub rows : length bytes ≡ rows_counted R * 2

pub block-has : (R bytes : List ℕ) → well_formed R bytes ≡ true → BlockHas R bytes
block-has R bytes e =
    let (b, many, each) = formed_parts two_bytes R bytes e in
    let h = records_have two_bytes R b in
    let c = rows_counted_lem R (formed_fit R b) in
    record {
      size = omega (arith, h.whole, h.few);
      cells = omega (arith, cells-all R, cells-few R (record_count R), h.few);
      counted = sym c;
      few = omega (arith, c, h.rows);
      rows = many ∙ room_two (row_count R) ∙ ap (λ (n : ℕ). n * 2) c;
    }

module _ (k : Bank) (s : Scan) (rows R bytes : List ℕ) (period phase : ℕ) where
  abbrev held : State
  held = state_of k s rows

  abbrev block : Handed
  block = handed R bytes period phase

  abbrev answer : ℕ → After State
  answer n = record { answer = numbered n; state = cond (eqb n 0) (admitted held block) held }

  answered : (n : ℕ) → admit_refusal held block ≡ n → answer n ≡ admit held block
  unfolding admit
  answered n e = ap answer (sym e)

  -- 12
  pub admit_12_state : formed k s ≡ false → given_number 12 k s rows ≡ admit held block
  unfolding admit_refusal numbered
  admit_12_state e = answered 12 (rw e refl)

  pub admit_12_block : formed k s ≡ true → well_formed R bytes ≡ false → given_number 12 k s rows ≡ admit held block
  unfolding admit_refusal numbered
  admit_12_block e f = answered 12 (rw (e, f) refl)

  -- 16
  pub admit_16 : formed k s ≡ true → well_formed R bytes ≡ true → timed period phase ≡ false → given_number 16 k s rows ≡ admit held block
  unfolding admit_refusal numbered
  admit_16 e f g = answered 16 (rw (e, f, g) refl)

  module _ (f : formed k s ≡ true) (w : well_formed R bytes ≡ true) (z : timed period phase ≡ true) {n : ℕ} (p : n ≡ k.count) where
    -- 13
    pub admit_13 : 8 ≤ n → given_number 13 k s rows ≡ admit held block
    unfolding admit_refusal numbered
    admit_13 h = answered 13 (rw (f, w, z, le-leb 8 k.count (omega (arith, p, h))) refl)

    module _ (h : n < 8) {d : ℕ} (g : d ≡ cell_count R) {t : Bool} (q : t ≡ every 8 (fits_at k n period phase d)) where
      over : any 8 (λ i. ltb k.limit (cells_held k i + due_cells period phase i R)) ≡ not t
      unfolding due_cells
      over =
          over_is (λ i. cells_held k i + due_cells period phase i R) k.limit 8
          ∙ ap not
          (ap₂ (λ (m c : ℕ). every 8 (fits_at k m period phase c)) (sym p) (sym g) ∙ sym q)

      -- 14
      pub admit_14 : t ≡ false → given_number 14 k s rows ≡ admit held block
      unfolding admit_refusal numbered
      admit_14 l = answered 14 (rw (f, w, z, lt-leb 8 k.count (omega (arith, p, h)), over, l) refl)

      module _ (l : t ≡ true) {a r : ℕ} (u : a ≡ rows_before k n) (v : r ≡ rows_counted R) where
        rows_are : a + r ≡ rows_held k + row_count R
        rows_are = ap₂ (λ (x y : ℕ). x + y) (u ∙ ap (rows_before k) p) (v ∙ (block-has R bytes w).counted)

        abbrev short : ℕ → Bool
        short m = ltb (length rows) (m * 2) || ltb 32768 m

        past_14 : admit_refusal held block ≡ cond (short (a + r)) 11 0
        unfolding admit_refusal
        past_14 =
            rw (f, w, z, lt-leb 8 k.count (omega (arith, p, h)), over, l)
            (ap (λ (x : ℕ). cond (ltb (length rows) x || ltb 32768 (rows_held k + row_count R)) 11 0) (room_two (rows_held k + row_count R))
            ∙ ap (λ (m : ℕ). cond (short m) 11 0) (sym rows_are))

        -- 11
        pub admit_11 : short (a + r) ≡ true → given_number 11 k s rows ≡ admit held block
        unfolding numbered
        admit_11 e = answered 11 (past_14 ∙ cond_yes (short (a + r)) 11 0 e)

        module _ (e : short (a + r) ≡ false) where
          pub rows_fit : a * 2 + length bytes ≤ length rows
          rows_fit =
              let o = or_split (ltb (length rows) ((a + r) * 2)) (ltb 32768 (a + r)) e in
              omega (arith, ltb-false (length rows) ((a + r) * 2) o.0, v, (block-has R bytes w).rows)

          -- none
          pub admit_accepts : {k' : Bank} {s' : Scan} {rows' : List ℕ} → k' ≡ with_block k block → s' ≡ at_rest
              → rows' ≡ written rows (a * 2) bytes → given_number 0 k' s' rows' ≡ admit held block
          unfolding numbered admitted
          admit_accepts x y z =
              let rest : _ = z ∙ ap (λ (i : ℕ). written rows i bytes) (ap (λ (n : ℕ). n * 2) (u ∙ ap (rows_before k) p) ∙ sym (room_two (rows_held k))) in
              (λ i. given_number 0 (x i) (y i) (rest i)) ∙ answered 0 (past_14 ∙ cond_no (short (a + r)) 11 0 e)
