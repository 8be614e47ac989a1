-- The words that serve a table of nodes, lent from the front of more.
-- Assumes nothing.
use mathlib.Core.Path.{◌≡◌, sym, ◌∙◌, ap}
use mathlib.Core.List.{List, ◌++◌}
use Prim.Native.Nat.{ℕ, ◌*◌, ◌≤◌}
use native.Mathlib.Omega.{arith}
use borrow.Author.Tests.{lt-ltb, le-ltb}
use lib.Dec.{ltb}
use lib.ListN.{length, take, drop}
use lib.Seq.{take_at}
use Rattle.laws.proofs.Cases.{by_less, cond_yes, cond_no}
use Rattle.cutting.specs.Outcome.{Outcome, Answered, outcome_of}
use Rattle.node_table.specs.Nodes.{words_for}

-- what is made in the front of the words
pub front_outcome : (F : List ℕ → Outcome) (r : Answered) (w n : ℕ) (ys words records rows : List ℕ) → n ≡ w → length ys ≡ n
    → outcome_of r ys records rows ≡ F (take n words) → outcome_of r (take w (ys ++ drop n words)) records rows ≡ F (take w words)
front_outcome F r w n ys words records rows e long known =
    ap (λ (l : List ℕ). outcome_of r l records rows) (take_at ys (drop n words) w (long ∙ e)) ∙ known ∙ ap (λ (k : ℕ). F (take k words)) e

pub words_for_most : (n : ℕ) → words_for n ≤ 30720
unfolding words_for
words_for_most n =
    by_less n 10240
    (λ h. omega (arith, cond_yes (ltb n 10240) (n * 3) 30720 (lt-ltb n 10240 h)))
    (λ h. omega (arith, cond_no (ltb n 10240) (n * 3) 30720 (le-ltb n 10240 h)))

-- a diagram of c nodes is in the words where it is in the table
pub short-same : (n c : ℕ) → c ≤ 10240 → ltb (words_for n) (c * 3) ≡ ltb n c
unfolding words_for
short-same n c few =
    by_less n 10240
    (λ h.
    let w : words_for n ≡ n * 3 = cond_yes (ltb n 10240) (n * 3) 30720 (lt-ltb n 10240 h) in
    by_less n c (λ k. lt-ltb (words_for n) (c * 3) (omega arith) ∙ sym (lt-ltb n c k)) (λ k. le-ltb (words_for n) (c * 3) (omega arith) ∙ sym (le-ltb n c k)))
    (λ h.
    let w : words_for n ≡ 30720 = cond_no (ltb n 10240) (n * 3) 30720 (le-ltb n 10240 h) in
    le-ltb (words_for n) (c * 3) (omega arith) ∙ sym (le-ltb n c (omega arith)))

pub room-same : (n c : ℕ) → c ≤ 10240 → c ≤ n → c * 3 ≤ words_for n
unfolding words_for
room-same n c few room =
    by_less n 10240
    (λ h. omega (arith, cond_yes (ltb n 10240) (n * 3) 30720 (lt-ltb n 10240 h)))
    (λ h. omega (arith, cond_no (ltb n 10240) (n * 3) 30720 (le-ltb n 10240 h)))
