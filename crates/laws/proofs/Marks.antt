-- Laws of `marks`: the bits of several numbers put over one another, in one number and place by place in a list.
-- Assumes nothing.
use mathlib.Core.Path.{◌≡◌, ◌∙◌, ap, refl, sym, ap₂}
use mathlib.Core.Bool.{Bool, ◌||◌, or-false, or_assoc}
use Prim.Native.Nat.{ℕ, zero, suc, ◌^◌, ◌<◌, ◌+◌}
use Rattle.laws.specs.Tests.{any}
use Rattle.laws.specs.Bits.{has, marks, flag}
use Rattle.laws.proofs.Bits.{has_or, or_flag}
use Rattle.laws.proofs.Masks.{has-zero}
use native.Mathlib.Omega.{arith}
use lib.Bits.{or_lt, or_zero_r, bit_or}
use lib.Pow.{pow_pos}
use mathlib.Core.List.{List}
use native.Mathlib.Numerals.{add-one}
use lib.ListN.{get_or}
use Rattle.laws.specs.Lists.{puts}
use Rattle.laws.proofs.Puts.{puts-same, puts_over, get_or-puts}

-- over a number that was there, and over none
pub marks_over : (a : ℕ) (g : ℕ → ℕ) (r o : ℕ) → has (marks a g r) o ≡ (has a o || any r (λ q. has (g q) o))
unfolding marks
marks_over a g zero o = sym (or-false (has a o))
marks_over a g (suc r) o =
    has_or (marks a g r) (g r) o ∙ ap (λ (b : Bool). b || has (g r) o) (marks_over a g r o) ∙ or_assoc (has a o) (any r (λ q. has (g q) o)) (has (g r) o)

pub marks-has : (g : ℕ → ℕ) (r o : ℕ) → has (marks 0 g r) o ≡ any r (λ q. has (g q) o)
marks-has g r o = marks_over 0 g r o ∙ ap (λ (b : Bool). b || any r (λ q. has (g q) o)) (has-zero o)

-- marks one over another are few
pub marks-lt : (n : ℕ) (g : ℕ → ℕ) (r : ℕ) → ((q : ℕ) → q < r → g q < 2 ^ n) → marks 0 g r < 2 ^ n
unfolding marks
marks-lt n g zero h = pow_pos n
marks-lt n g (suc r) h = or_lt n (marks 0 g r) (g r) (marks-lt n g r (λ q l. h q (omega arith))) (h r (omega arith))

-- one record more, of which h x r is what record r adds at place x; one input more of the numbers
pub marks-next : (h : ℕ → ℕ → ℕ) (old plane : List ℕ) (n r : ℕ) → plane ≡ puts n (λ x. marks (get_or old x 0) (h x) r) old
    → puts n (λ x. bit_or (get_or plane x 0) (h x r)) plane ≡ puts n (λ x. marks (get_or old x 0) (h x) (r + 1)) old
unfolding marks
marks-next h old plane n r e =
    let f : ℕ → ℕ = λ x. marks (get_or old x 0) (h x) r in
    let g : ℕ → ℕ = λ x. bit_or (get_or plane x 0) (h x r) in
    ap (λ (s : List ℕ). puts n g s) e
    ∙ puts_over f g (λ x. marks (get_or old x 0) (h x) (suc r)) n old 0
    (λ i p q. ap (λ (x : ℕ). bit_or x (h i r)) (ap (λ (s : List ℕ). get_or s i 0) e ∙ get_or-puts f n old 0 i p q))
    ∙ ap (λ (m : ℕ). puts n (λ x. marks (get_or old x 0) (h x) m) old) (sym (add-one r))

pub marks_start : (h : ℕ → ℕ → ℕ) (old : List ℕ) (n : ℕ) → old ≡ puts n (λ x. marks (get_or old x 0) (h x) 0) old
unfolding marks
marks_start h old n = puts-same (λ x. marks (get_or old x 0) (h x) 0) n old 0 (λ i l. refl)

pub marks-step : (f : ℕ → ℕ) (d a v : ℕ) → a ≡ marks 0 f d → v ≡ f d → bit_or a v ≡ marks 0 f (d + 1)
unfolding marks
marks-step f d a v p q = rw (p, q, add-one d)

pub marks-any : (f : ℕ → ℕ) (p : ℕ → Bool) (w : ℕ) → ((d : ℕ) → d < w → f d ≡ flag (p d)) → marks 0 f w ≡ flag (any w p)
unfolding marks
marks-any f p zero h = refl
marks-any f p (suc w) h = ap₂ bit_or (marks-any f p w (λ d l. h d (omega arith))) (h w (omega arith)) ∙ or_flag (any w p) (p w)

-- one mark more; one run of marks after another; equal marks; marks of nothing
pub marks_grow : (d : ℕ) (g : ℕ → ℕ) (i : ℕ) → marks d g (i + 1) ≡ bit_or (marks d g i) (g i)
unfolding marks
marks_grow d g i = rw add-one refl

pub marks-run : (d : ℕ) (g : ℕ → ℕ) (a c : ℕ) → marks (marks d g a) (λ i. g (a + i)) c ≡ marks d g (a + c)
unfolding marks
marks-run d g a zero = let e : a ≡ a + 0 = omega arith in ap (marks d g) e
marks-run d g a (suc c) =
    let e : suc (a + c) ≡ a + suc c = omega arith in
    ap (λ (x : ℕ). bit_or x (g (a + c))) (marks-run d g a c) ∙ ap (marks d g) e

pub marks_ext : (d : ℕ) (f g : ℕ → ℕ) (n : ℕ) → ((i : ℕ) → i < n → f i ≡ g i) → marks d f n ≡ marks d g n
unfolding marks
marks_ext d f g zero h = refl
marks_ext d f g (suc n) h = ap₂ bit_or (marks_ext d f g n (λ i l. h i (omega arith))) (h n (omega arith))

pub marks-none : (d : ℕ) (g : ℕ → ℕ) (n : ℕ) → ((i : ℕ) → i < n → g i ≡ 0) → marks d g n ≡ d
unfolding marks
marks-none d g zero h = refl
marks-none d g (suc n) h = ap₂ bit_or (marks-none d g n (λ i l. h i (omega arith))) (h n (omega arith)) ∙ or_zero_r d
