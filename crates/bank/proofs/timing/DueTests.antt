-- Due blocks: the tests of a period and a phase, the search for the next due block, and due cells counted.
-- Assumes nothing.
use mathlib.Core.Path.{◌≡◌, refl, sym, ◌∙◌, ap, ap₂}
use mathlib.Core.Bool.{Bool, true, false, cond, ◌&&◌, ◌||◌}
use Prim.Native.Nat.{ℕ, ◌%◌, ◌-◌, ◌+◌, ◌<◌, ◌≤◌}
use lib.Dec.{eqb, leb, ltb}
use lib.ListN.{get_or}
use borrow.Author.Tests.{eqb-true, ne_eqb}
use Rattle.laws.specs.Tests.{every, find, within}
use Rattle.laws.proofs.Cases.{and_split}
use Rattle.laws.proofs.Counts.{sum-next}
use Rattle.laws.proofs.Tests.{every-next}
use Rattle.laws.proofs.Find.{find-stop, find_skip, find_none}
use Rattle.stored_spec.specs.StoredForm.{records_formed, cell_count}
use Rattle.bank_spec.specs.Due.{timed, due, due_cells}
use Rattle.bank_spec.specs.declared.Bank.{Bank}
use Rattle.bank_spec.specs.State.{records_of, period_of, phase_of, due_at, cells_due, cells_before, next_due, block_formed}

pub due_by : (p f n : ℕ) {q : ℕ} → p ≡ q → eqb (n % q) f ≡ due p f n
unfolding due
due_by p f n e = ap (λ (x : ℕ). eqb (n % x) f) (sym e)

-- a period that is none of the others is 8
pub period_8 : (p f : ℕ) → timed p f ≡ true → (p ≡ 1 → ⊥) → (p ≡ 2 → ⊥) → (p ≡ 4 → ⊥) → p ≡ 8
unfolding timed
period_8 p f t a b c =
    let e = (and_split (eqb p 1 || eqb p 2 || eqb p 4 || eqb p 8) (ltb f p) t).0 in
    eqb-true p 8 (rw (ne_eqb p 1 a, ne_eqb p 2 b, ne_eqb p 4 c) at e)

pub block-timed : (k : Bank) (b : ℕ) → block_formed k b ≡ true → timed (period_of k b) (phase_of k b) ≡ true
unfolding block_formed
block-timed k b e = (and_split (within 1 20 (get_or k.lengths b 0) && records_formed (records_of k b)) (timed (period_of k b) (phase_of k b)) e).1

pub due_here : (k : Bank) (n b : ℕ) {p f : ℕ} → p ≡ period_of k b → f ≡ phase_of k b → due p f n ≡ due_at k n b
unfolding due_at
due_here k n b p f = ap₂ (λ (i j : ℕ). due i j n) p f

-- the search from place i on, of m blocks
abbrev pub found : Bank → ℕ → ℕ → ℕ → ℕ
found k n m i = find (due_at k n) (m - i) i

pub found_here : (k : Bank) (n m i : ℕ) → i < m → due_at k n i ≡ true → found k n m i ≡ i
found_here k n m i l e = find-stop (due_at k n) m i l e

pub found_later : (k : Bank) (n m i : ℕ) → i < m → due_at k n i ≡ false → found k n m i ≡ found k n m (i + 1)
found_later k n m i l e = find_skip (due_at k n) m i l e

pub found_none : (k : Bank) (n m i : ℕ) → m ≤ i → found k n m i ≡ i
found_none k n m i l = find_none (due_at k n) m i l

pub found_is : (k : Bank) (n b : ℕ) {m : ℕ} → m ≡ k.count → found k n m b ≡ next_due k n b
unfolding next_due
found_is k n b e = ap (λ (x : ℕ). found k n x b) e

-- the due cells of a block with the period p, the phase f and c cells
pub due_cells_are : (k : Bank) (n b : ℕ) {p f c x : ℕ} → p ≡ period_of k b → f ≡ phase_of k b → c ≡ cell_count (records_of k b)
    → x ≡ cond (due p f n) c 0 → x ≡ cells_due k n b
unfolding cells_due due_cells
due_cells_are k n b p f c e =
    e ∙ ap₂ (λ (t : Bool) (m : ℕ). cond t m 0) (ap₂ (λ (i j : ℕ). due i j n) p f) c

-- of no block, and of one block more
pub no_cells : (k : Bank) (n : ℕ) → 0 ≡ cells_before k n 0
unfolding cells_before
no_cells k n = refl

pub cells-next : (k : Bank) (n b : ℕ) {x y : ℕ} → x ≡ cells_before k n b → y ≡ cells_due k n b → x + y ≡ cells_before k n (b + 1)
unfolding cells_before
cells-next k n b p q = ap₂ (λ (x y : ℕ). x + y) p q ∙ sym (sum-next (cells_due k n) b)

-- one scan more
abbrev pub fits_at : Bank → ℕ → ℕ → ℕ → ℕ → ℕ → Bool
fits_at k n p f c i = leb (cells_before k i n + cond (due p f i) c 0) k.limit

pub fit_next : (k : Bank) (n p f c i : ℕ) {g : Bool} {x y : ℕ} → g ≡ every i (fits_at k n p f c) → x ≡ cells_before k i n → y ≡ cond (due p f i) c 0
    → (g && leb (x + y) k.limit) ≡ every (i + 1) (fits_at k n p f c)
fit_next k n p f c i a b d =
    ap₂ (λ (g : Bool) (x : ℕ). g && leb x k.limit) a (ap₂ (λ (x y : ℕ). x + y) b d) ∙ sym (every-next (fits_at k n p f c) i)
