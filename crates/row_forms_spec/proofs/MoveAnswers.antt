-- When a move answers what, and what it leaves: each number in its written case and no other. 15 is given on the way back alone, exactly when some cell
-- has more than 8 outputs, after 12, 10 and 11.
-- Assumes nothing.
use mathlib.Core.Path.{◌≡◌, refl, sym, ◌∙◌, ap, subst}
use mathlib.Core.Bool.{Bool, true, false, true≢false}
use mathlib.Core.List.{List}
use Prim.Native.Nat.{ℕ, ◌<◌, ◌≤◌}
use native.Mathlib.Omega.{arith}
use lib.Dec.{leb, ltb}
use lib.ListN.{length}
use borrow.Author.Tests.{leb-true, le-leb, ltb-true, lt-ltb, le-ltb}
use Rattle.laws.specs.Tests.{every}
use Rattle.laws.specs.Lists.{written}
use Rattle.laws.proofs.Cases.{by_test, by_less, and_split, and_join}
use Rattle.laws.proofs.Tests.{every_of, every_at, any_of, any_at, any_out, any_none}
use Rattle.stored_spec.specs.Cells.{fits}
use Rattle.stored_spec.specs.RowBytes.{one_byte, two_bytes, room}
use Rattle.stored_spec.specs.StoredForm.{cell_count, cell_at, size_of, row_count, cell_formed, cell_formed_as, well_formed, well_formed_as}
use Rattle.stored_spec.specs.ReadWrite.{Written, written_as}
use Rattle.row_forms_spec.specs.Moves.{over_eight, moved_rows, move, widen, narrow}

module _ (a b : ℕ) (over : Bool) (R bytes records rows : List ℕ) where
  -- what is left, case by case
  pub gives_12 : well_formed_as a R bytes ≡ false → move a b over R bytes records rows ≡ written_as 12 records rows
  unfolding move
  gives_12 e = rw e refl

  pub gives_10 : well_formed_as a R bytes ≡ true → length records < length R → move a b over R bytes records rows ≡ written_as 10 records rows
  unfolding move
  gives_10 e h = rw (e, lt-ltb (length records) (length R) h) refl

  pub gives_11 : well_formed_as a R bytes ≡ true → length R ≤ length records → length rows < room b (row_count R)
      → move a b over R bytes records rows ≡ written_as 11 records rows
  unfolding move
  gives_11 e h k = rw (e, le-ltb (length records) (length R) h, lt-ltb (length rows) (room b (row_count R)) k) refl

  pub gives_15 : well_formed_as a R bytes ≡ true → length R ≤ length records → room b (row_count R) ≤ length rows → over ≡ true
      → move a b over R bytes records rows ≡ written_as 15 records rows
  unfolding move
  gives_15 e h k o = rw (e, le-ltb (length records) (length R) h, le-ltb (length rows) (room b (row_count R)) k, o) refl

  pub gives_0 : well_formed_as a R bytes ≡ true → length R ≤ length records → room b (row_count R) ≤ length rows → over ≡ false
      → move a b over R bytes records rows ≡ written_as 0 (written records 0 R) (written rows 0 (moved_rows a b bytes))
  unfolding move
  gives_0 e h k o = rw (e, le-ltb (length records) (length R) h, le-ltb (length rows) (room b (row_count R)) k, o) refl

  -- what an answer n says
  pub record Answered (n : ℕ) : Type 0 where
    pub at_12 : n ≡ 12 → well_formed_as a R bytes ≡ false
    pub at_10 : n ≡ 10 → (well_formed_as a R bytes ≡ true) × (length records < length R)
    pub at_11 : n ≡ 11 → (well_formed_as a R bytes ≡ true) × (length R ≤ length records) × (length rows < room b (row_count R))
    pub at_15 : n ≡ 15
        → (well_formed_as a R bytes ≡ true) × (length R ≤ length records) × (room b (row_count R) ≤ length rows) × (over ≡ true)
    pub at_0 : n ≡ 0
        → (well_formed_as a R bytes ≡ true) × (length R ≤ length records) × (room b (row_count R) ≤ length rows) × (over ≡ false)

  said : (m : Written) → move a b over R bytes records rows ≡ m → Answered m.answer → Answered (move a b over R bytes records rows).answer
  said m e h = subst Answered (sym (ap (λ (x : Written). x.answer) e)) h

  pub answered : Answered (move a b over R bytes records rows).answer
  answered =
      by_test (well_formed_as a R bytes)
      (λ f.
      by_less (length records) (length R)
      (λ h.
      said (written_as 10 records rows) (gives_10 f h)
      (record {
        at_12 = λ e. absurd (omega arith);
        at_10 = λ e. (f, h);
        at_11 = λ e. absurd (omega arith);
        at_15 = λ e. absurd (omega arith);
        at_0 = λ e. absurd (omega arith);
      }))
      (λ h.
      by_less (length rows) (room b (row_count R))
      (λ k.
      said (written_as 11 records rows) (gives_11 f h k)
      (record {
        at_12 = λ e. absurd (omega arith);
        at_10 = λ e. absurd (omega arith);
        at_11 = λ e. (f, h, k);
        at_15 = λ e. absurd (omega arith);
        at_0 = λ e. absurd (omega arith);
      }))
      (λ k.
      by_test over
      (λ o.
      said (written_as 15 records rows) (gives_15 f h k o)
      (record {
        at_12 = λ e. absurd (omega arith);
        at_10 = λ e. absurd (omega arith);
        at_11 = λ e. absurd (omega arith);
        at_15 = λ e. (f, h, k, o);
        at_0 = λ e. absurd (omega arith);
      }))
      (λ o.
      said (written_as 0 (written records 0 R) (written rows 0 (moved_rows a b bytes))) (gives_0 f h k o)
      (record {
        at_12 = λ e. absurd (omega arith);
        at_10 = λ e. absurd (omega arith);
        at_11 = λ e. absurd (omega arith);
        at_15 = λ e. absurd (omega arith);
        at_0 = λ e. (f, h, k, o);
      })))))
      (λ f.
      said (written_as 12 records rows) (gives_12 f)
      (record {
        at_12 = λ e. f;
        at_10 = λ e. absurd (omega arith);
        at_11 = λ e. absurd (omega arith);
        at_15 = λ e. absurd (omega arith);
        at_0 = λ e. absurd (omega arith);
      }))

-- some cell has more than 8 outputs
module _ (R : List ℕ) where
  abbrev pub SomeOver : Type 0
  SomeOver = (k : ℕ) × (k < cell_count R) × (8 < (size_of (cell_at R k)).outputs)

  pub over_is : over_eight R ≡ true → SomeOver
  unfolding over_eight
  over_is e =
      let (k, l, h) = any_at (λ k. ltb 8 (size_of (cell_at R k)).outputs) (cell_count R) e in
      (k, l, ltb-true 8 (size_of (cell_at R k)).outputs h)

  pub over_so : SomeOver → over_eight R ≡ true
  unfolding over_eight
  over_so s =
      any_of (λ k. ltb 8 (size_of (cell_at R k)).outputs) (cell_count R) s.0 s.1 (lt-ltb 8 (size_of (cell_at R s.0)).outputs s.2)

  pub none_over : ((k : ℕ) → k < cell_count R → (size_of (cell_at R k)).outputs ≤ 8) → over_eight R ≡ false
  unfolding over_eight
  none_over h = any_none (λ k. ltb 8 (size_of (cell_at R k)).outputs) (cell_count R) (λ k l. le-ltb 8 (size_of (cell_at R k)).outputs (h k l))

  -- of cells that fit rows of one byte none is over
  pub fit_not_over : every (cell_count R) (cell_formed_as one_byte R) ≡ true → over_eight R ≡ false
  unfolding cell_formed_as fits
  fit_not_over e =
      none_over
      (λ k l.
      let c = size_of (cell_at R k) in
      leb-true c.outputs 8 (and_split (leb c.inputs 12) (leb c.outputs 8) (every_at (cell_formed_as one_byte R) (cell_count R) e k l)).1)

  -- cells that fit rows of two bytes, of which none is over, fit rows of one
  pub not_over_fit : every (cell_count R) (cell_formed R) ≡ true → over_eight R ≡ false → every (cell_count R) (cell_formed_as one_byte R) ≡ true
  unfolding over_eight cell_formed_as fits
  not_over_fit e o =
      every_of (cell_formed_as one_byte R) (cell_count R)
      (λ k l.
      let c = size_of (cell_at R k) in
      let (i, p) = and_split (leb c.inputs 12) (leb c.outputs 16) (every_at (cell_formed R) (cell_count R) e k l) in
      by_less 8 c.outputs
      (λ h. absurd (true≢false (sym (lt-ltb 8 c.outputs h) ∙ any_out (λ k. ltb 8 (size_of (cell_at R k)).outputs) (cell_count R) o k l)))
      (λ h. and_join i (le-leb c.outputs 8 h)))

-- 15 exactly
module _ (R bytes records rows : List ℕ) where
  pub fifteen_is : (narrow R bytes records rows).answer ≡ 15
      → (well_formed R bytes ≡ true) × (length R ≤ length records) × (room one_byte (row_count R) ≤ length rows) × SomeOver R
  unfolding narrow
  fifteen_is e =
      let (f, h, k, o) = (answered two_bytes one_byte (over_eight R) R bytes records rows).at_15 e in
      (f, h, k, over_is R o)

  pub fifteen_so : well_formed R bytes ≡ true → length R ≤ length records → room one_byte (row_count R) ≤ length rows → SomeOver R
      → narrow R bytes records rows ≡ written_as 15 records rows
  unfolding narrow
  fifteen_so f h k s = gives_15 two_bytes one_byte (over_eight R) R bytes records rows f h k (over_so R s)

  pub never_fifteen : (widen R bytes records rows).answer ≡ 15 → ⊥
  unfolding widen
  never_fifteen e = true≢false (sym ((answered one_byte two_bytes false R bytes records rows).at_15 e).3)
