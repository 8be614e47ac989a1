-- The next due block: where it stands, and that no due cell lies between.
-- Assumes nothing.
use mathlib.Core.Path.{◌≡◌, sym, ◌∙◌, ap}
use mathlib.Core.Bool.{true, false}
use Prim.Native.Nat.{ℕ, zero, suc, ◌-◌, ◌<◌, ◌≤◌}
use native.Mathlib.Omega.{arith}
use lib.ListN.{length}
use Rattle.laws.specs.Tests.{sum}
use Rattle.laws.proofs.Cases.{by_less}
use Rattle.laws.proofs.Find.{find-le, find-from, find-hit, find_before}
use Rattle.bank_spec.specs.State.{State, due_at, next_due}
use Rattle.bank_spec.specs.declared.Bank.{Bank}
use Rattle.bank_spec.specs.Book.{Book, block_at, is_due, due_cells_of}
use Rattle.bank_spec.proofs.Scans.{cells_above, no_due_cells}
use Rattle.bank_spec.proofs.Related.{Related, due-same}

module _ (k : Bank) (n b : ℕ) (l : b ≤ k.count) where
  pub next-from : b ≤ next_due k n b
  unfolding next_due
  next-from = find-from (due_at k n) (k.count - b) b

  pub next_to : next_due k n b ≤ k.count
  unfolding next_due
  next_to = omega (arith, find-le (due_at k n) (k.count - b) b)

  pub next_is : next_due k n b < k.count → due_at k n (next_due k n b) ≡ true
  unfolding next_due
  next_is h = find-hit (due_at k n) (k.count - b) b (omega arith)

  pub next-none : (i : ℕ) → b ≤ i → i < next_due k n b → due_at k n i ≡ false
  unfolding next_due
  next-none i p q = find_before (due_at k n) (k.count - b) b i p q

-- numbers that are 0 add nothing
sum_skip : (f : ℕ → ℕ) (b d : ℕ) → b ≤ d → ((i : ℕ) → b ≤ i → i < d → f i ≡ 0) → sum d f ≡ sum b f
sum_skip f b zero l h = let e : zero ≡ b = omega arith in ap (λ (i : ℕ). sum i f) e
sum_skip f b (suc d) l h =
    by_less d b (λ p. let e : suc d ≡ b = omega arith in ap (λ (i : ℕ). sum i f) e)
    (λ p. omega (arith, sum_skip f b d p (λ i u v. h i u (omega arith)), h d p (omega arith)))

-- no due cell lies between
module _ (S m : ℕ) (s : State) (k : Book) (h : Related S m s k) (n b : ℕ) (l : b ≤ length k.blocks) where
  abbrev d : ℕ
  d = next_due s.bank n b

  in_bank : b ≤ s.bank.count
  in_bank = omega (arith, h.count)

  pub skipped_to : d ≤ length k.blocks
  skipped_to = omega (arith, h.count, next_to s.bank n b in_bank)

  pub skipped_due : d < length k.blocks → is_due n (block_at k.blocks d) ≡ true
  skipped_due p = sym (due-same S m s k h n d p) ∙ next_is s.bank n b in_bank (omega (arith, h.count))

  pub skipped_cells : cells_above n k.blocks d ≡ cells_above n k.blocks b
  skipped_cells =
      sum_skip (λ i. due_cells_of n (block_at k.blocks i)) b d (next-from s.bank n b in_bank)
      (λ i u v.
      no_due_cells n (block_at k.blocks i) (sym (due-same S m s k h n i (omega (arith, skipped_to))) ∙ next-none s.bank n b in_bank i u v))
