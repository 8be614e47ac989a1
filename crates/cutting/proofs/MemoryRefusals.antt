-- The refusals of short memories, 9 to 11, case by case.
-- Assumes nothing.
use mathlib.Core.Path.{◌≡◌, ◌∙◌}
use mathlib.Core.Bool.{cond}
use Prim.Native.Nat.{ℕ, ◌*◌, ◌/◌, ◌<◌, ◌≤◌}
use native.Mathlib.Omega.{arith}
use borrow.Author.Tests.{lt-ltb, le-ltb}
use lib.Dec.{ltb}
use Rattle.laws.proofs.Cases.{by_less, cond_yes, cond_no}
use Rattle.cutting.specs.Outcome.{memory_refusal}

module _ (made t total nodes records rows : ℕ) where
  abbrev number : ℕ
  number = memory_refusal made t total nodes records rows

  abbrev after10 : ℕ
  after10 = cond (ltb (rows / 2) total) 11 0

  abbrev after9 : ℕ
  after9 = cond (ltb records (t * 4)) 10 after10

  pub is_9 : nodes < made * 3 → memory_refusal made t total nodes records rows ≡ 9
  unfolding memory_refusal
  is_9 h = cond_yes (ltb nodes (made * 3)) 9 after9 (lt-ltb nodes (made * 3) h)

  module _ (room : made * 3 ≤ nodes) where
    past_9 : number ≡ after9
    unfolding memory_refusal
    past_9 = cond_no (ltb nodes (made * 3)) 9 after9 (le-ltb nodes (made * 3) room)

    pub is_10 : records < t * 4 → memory_refusal made t total nodes records rows ≡ 10
    is_10 h = past_9 ∙ cond_yes (ltb records (t * 4)) 10 after10 (lt-ltb records (t * 4) h)

    module _ (space : t * 4 ≤ records) where
      past_10 : number ≡ after10
      past_10 = past_9 ∙ cond_no (ltb records (t * 4)) 10 after10 (le-ltb records (t * 4) space)

      pub is_11 : rows / 2 < total → memory_refusal made t total nodes records rows ≡ 11
      is_11 h = past_10 ∙ cond_yes (ltb (rows / 2) total) 11 0 (lt-ltb (rows / 2) total h)

      pub is_0 : total ≤ rows / 2 → memory_refusal made t total nodes records rows ≡ 0
      is_0 h = past_10 ∙ cond_no (ltb (rows / 2) total) 11 0 (le-ltb (rows / 2) total h)

  -- what holds where there is none
  module _ (none : memory_refusal made t total nodes records rows ≡ 0) where
    pub holds-nodes : made * 3 ≤ nodes
    holds-nodes = by_less nodes (made * 3) (λ h. absurd (let e = is_9 h in omega arith)) (λ h. h)

    pub holds-records : t * 4 ≤ records
    holds-records = by_less records (t * 4) (λ h. absurd (let e = is_10 holds-nodes h in omega arith)) (λ h. h)

    pub holds_rows : total ≤ rows / 2
    holds_rows = by_less (rows / 2) total (λ h. absurd (let e = is_11 holds-nodes holds-records h in omega arith)) (λ h. h)
