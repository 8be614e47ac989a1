-- A word made of two: it has the inputs that the cells before cell k use from the one, all others from the other. Up to cell k it runs as the one,
-- cell k reads it as the other, and where both fill the unknown inputs it does.
-- Assumes nothing.
use mathlib.Core.Path.{◌≡◌, sym, ◌∙◌, ap}
use mathlib.Core.Bool.{Bool, true, false, cond, not, ◌||◌}
use mathlib.Core.List.{List}
use Prim.Native.Nat.{ℕ, ◌<◌}
use lib.Dec.{eqb}
use borrow.Author.Tests.{eqb-true, eq-eqb}
use Rattle.laws.specs.Tests.{any}
use Rattle.laws.specs.Bits.{bit, has}
use Rattle.laws.proofs.Cases.{by_test, cond_yes, cond_no, cond_both, no_test}
use Rattle.laws.proofs.Tests.{every_of, every_at, any_of, any_none, any_at, any_out}
use Rattle.laws.proofs.Bits.{bit-lt}
use Rattle.laws.proofs.Masks.{not-both}
use Rattle.stored_spec.specs.RowBytes.{two_bytes, row_value}
use Rattle.stored_spec.specs.StoredForm.{member, cell_count, cell_at, records_formed}
use Rattle.stored_spec.specs.Run.{address, run}
use Rattle.stored_spec.proofs.FormedCells.{inputs-small}
use Rattle.stored_spec.proofs.SameRuns.{same_address, same-run}
use Rattle.stored_spec.proofs.OneCell.{agree_of, one_cell}
use Rattle.evaluation_spec.specs.Known.{fills}
use Rattle.evaluation_spec.proofs.Words.{word_from, word-bit, word_small, below_at, Fills}

-- what the test of a filling says
pub fills_is : (known w v : ℕ) → fills known w v ≡ true → Fills known w v
unfolding fills
fills_is known w v e i l k =
    let h = every_at (λ i. not (has known i) || eqb (bit v i) (bit w i)) 12 e i l in
    eqb-true (bit v i) (bit w i) (sym (ap (λ (b : Bool). not b || eqb (bit v i) (bit w i)) (eq-eqb (bit known i) 1 k)) ∙ h)

pub fills_so : (known w v : ℕ) → Fills known w v → fills known w v ≡ true
unfolding fills
fills_so known w v f =
    every_of (λ i. not (has known i) || eqb (bit v i) (bit w i)) 12
    (λ i l.
    by_test (has known i)
    (λ k. ap (λ (b : Bool). not b || eqb (bit v i) (bit w i)) k ∙ eq-eqb (bit v i) (bit w i) (f i l (eqb-true (bit known i) 1 k)))
    (λ k. ap (λ (b : Bool). not b || eqb (bit v i) (bit w i)) k))

module _ (R bytes : List ℕ) (formed : records_formed R ≡ true) (k v u : ℕ) where
  -- a cell before cell k uses the input
  used_before : ℕ → Bool
  used_before i = any k (λ j. member i (cell_at R j).ins)

  bits : ℕ → ℕ
  bits i = cond (used_before i) (bit v i) (bit u i)

  small : (i : ℕ) → bits i < 2
  unfolding bits
  small i = cond_both (λ (x : ℕ). x < 2) (used_before i) (bit-lt v i) (bit-lt u i)

  -- v at the inputs that the cells before cell k use, u at the others
  pub mixed : ℕ
  mixed = word_from bits

  pub mixed_small : mixed < 4096
  unfolding mixed
  mixed_small = word_small bits small

  mixed_used : (i : ℕ) → i < 12 → (j : ℕ) → j < k → member i (cell_at R j).ins ≡ true → bit mixed i ≡ bit v i
  unfolding mixed bits used_before
  mixed_used i l j m e = word-bit bits small i l ∙ cond_yes (used_before i) (bit v i) (bit u i) (any_of (λ j. member i (cell_at R j).ins) k j m e)

  mixed_other : (i : ℕ) → i < 12 → ((j : ℕ) → j < k → member i (cell_at R j).ins ≡ false) → bit mixed i ≡ bit u i
  unfolding mixed bits used_before
  mixed_other i l n = word-bit bits small i l ∙ cond_no (used_before i) (bit v i) (bit u i) (any_none (λ j. member i (cell_at R j).ins) k n)

  -- an input of the word is that of v, and then a cell uses it, or that of u
  pub mixed_either : {C : Type 0} (i : ℕ) → i < 12
      → ((j : ℕ) → j < k → member i (cell_at R j).ins ≡ true → bit mixed i ≡ bit v i → C) → (bit mixed i ≡ bit u i → C) → C
  unfolding used_before
  mixed_either i l f g =
      by_test (used_before i)
      (λ b. let (j, m, e) = any_at (λ j. member i (cell_at R j).ins) k b in f j m e (mixed_used i l j m e))
      (λ b. g (mixed_other i l (any_out (λ j. member i (cell_at R j).ins) k b)))

  pub mixed_fills : (known w : ℕ) → Fills known w v → Fills known w u → Fills known w mixed
  mixed_fills known w f g i l h = mixed_either i l (λ j m e q. q ∙ f i l h) (λ q. q ∙ g i l h)

  -- the run up to cell k is that of v
  pub mixed_run : run R bytes mixed k ≡ run R bytes v k
  mixed_run =
      same-run (row_value two_bytes bytes) R mixed v k
      (λ j l.
      agree_of (cell_at R j).ins mixed v
      (λ i e. mixed_used i (below_at 12 (cell_at R j).ins i (inputs-small R formed j) e) j l e))

  -- and cell k reads the row that it reads for u
  pub mixed_address : k < cell_count R → (r : ℕ) → address r (cell_at R k).ins mixed ≡ address r (cell_at R k).ins u
  mixed_address within r =
      same_address (cell_at R k).ins r mixed u
      (agree_of (cell_at R k).ins mixed u
      (λ i e.
      mixed_other i (below_at 12 (cell_at R k).ins i (inputs-small R formed k) e)
      (λ j l. no_test (member i (cell_at R j).ins) (λ p. not-both e (one_cell R formed j k i l within p)))))
