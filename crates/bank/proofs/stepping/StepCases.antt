-- The cases of a step: where the scan stands after a read, and what is answered.
-- Assumes nothing.
use mathlib.Core.Path.{◌≡◌, refl, sym, ◌∙◌, ap, ap₂}
use mathlib.Core.Bool.{Bool, true, false, not}
use mathlib.Core.List.{List}
use Prim.Native.Nat.{ℕ, ◌+◌, ◌*◌, ◌≤◌, ◌<◌}
use borrow.Author.Tests.{lt-ltb, le-ltb}
use lib.Dec.{ltb}
use lib.ListN.{length}
use Rattle.laws.specs.Lists.{written}
use Rattle.laws.proofs.Cases.{cond_no}
use Rattle.stored_spec.specs.RowBytes.{two_bytes, room}
use Rattle.stored_spec.specs.StoredForm.{cell_count, cell_at}
use Rattle.stored_spec.specs.Run.{outputs_after, rail_after}
use Rattle.bank_spec.specs.declared.Bank.{Bank}
use Rattle.bank_spec.specs.declared.Scan.{Scan}
use Rattle.bank_spec.specs.State.{records_of, rows_held, formed, state_of}
use Rattle.bank_spec.specs.Calls.{answer_of, scan_at, scan_from, next_row, outputs_of, moved, step}
use Rattle.bank.specs.Given.{given_answer}
use Rattle.refusals.specs.declared.Refusal.TheVariants.{NotFormed, RowsShort}
use Rattle.bank_spec.specs.declared.StepAnswer.TheVariants.{Went, Idle, Refused}

module _ (k : Bank) (s : Scan) (x : ℕ) {l : List ℕ}
    (p : l ≡ written s.outputs (s.block * 8) (outputs_after (cell_at (records_of k s.block) s.cell) (outputs_of s s.block) x)) where
  abbrev more : Bool
  more = ltb (s.cell + 1) (cell_count (records_of k s.block))

  pub next-cell : more ≡ true → {r : ℕ} → r ≡ rail_after (cell_at (records_of k s.block) s.cell) x
      → scan_at true s.block (s.cell + 1) r s.number s.words l ≡ moved k s x
  unfolding moved
  next-cell e q = rw e (ap₂ (λ (r : ℕ) (o : List ℕ). scan_at true s.block (s.cell + 1) r s.number s.words o) q p)

  pub next-block : more ≡ false → {b : ℕ} → b ≡ s.block + 1 → {t : Scan} → t ≡ scan_from k s.number b s.words l → t ≡ moved k s x
  unfolding moved
  next-block e q h = h ∙ rw e (ap₂ (λ (b : ℕ) (o : List ℕ). scan_from k s.number b s.words o) q p)

module _ (k : Bank) (s : Scan) (rows : List ℕ) where
  pub not-formed : formed k s ≡ false → given_answer (Refused NotFormed) k s rows ≡ step (state_of k s rows)
  unfolding step answer_of
  not-formed e = rw e refl

  module _ (e : formed k s ≡ true) where
    pub no_scan : s.running ≡ false → given_answer Idle k s rows ≡ step (state_of k s rows)
    unfolding step answer_of
    no_scan h = rw (e, h) refl

    module _ (on : s.running ≡ true) where
      pub few-rows : length rows < room two_bytes (rows_held k) → given_answer (Refused RowsShort) k s rows ≡ step (state_of k s rows)
      unfolding step answer_of
      few-rows h = rw (e, on, lt-ltb (length rows) (room two_bytes (rows_held k)) h) refl

      module _ (h : room two_bytes (rows_held k) ≤ length rows) where
        read_made : step (state_of k s rows) ≡ given_answer (Went s.block s.cell) k (moved k s (next_row k s rows)) rows
        unfolding step answer_of
        read_made =
            cond_no (not (formed k s)) _ _ (ap not e) ∙ cond_no (not s.running) _ _ (ap not on)
            ∙ cond_no (ltb (length rows) (room two_bytes (rows_held k))) _ _ (le-ltb (length rows) (room two_bytes (rows_held k)) h)

        pub one_read_lem : {x : ℕ} {t : Scan} → x ≡ next_row k s rows → t ≡ moved k s x
            → given_answer (Went s.block s.cell) k t rows ≡ step (state_of k s rows)
        one_read_lem p q = ap (λ (t : Scan). given_answer (Went s.block s.cell) k t rows) (q ∙ ap (moved k s) p) ∙ sym read_made
