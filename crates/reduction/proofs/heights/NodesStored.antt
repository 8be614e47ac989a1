-- The nodes above the columns of a height, from the arrays that hold the columns' numbers and values.
-- Assumes nothing.
use mathlib.Core.Path.{◌≡◌, refl, ◌∙◌, ap, ap₂}
use mathlib.Core.Bool.{Bool, true, false, cond}
use mathlib.Core.List.{List}
use Prim.Native.Nat.{ℕ, ◌+◌, ◌*◌, ◌<◌, ◌≤◌}
use native.Mathlib.Omega.{arith}
use lib.Dec.{eqb}
use lib.ListN.{length, get_or, replicate}
use Rattle.laws.specs.Lists.{tab, puts}
use Rattle.laws.proofs.Lists.{tab_ext}
use Rattle.laws.proofs.Puts.{stored}
use Rattle.reduction.specs.Packed.{value_in}
use Rattle.reduction_spec.specs.Diagram.{node}
use Rattle.reduction.specs.Lowering.{node_over, candidate_count, firsts_below, number_below, nodes_over}
use Rattle.reduction.proofs.heights.LoweringArrays.{cands_few, child-few}

module _ (input : Bool) (a b size w : ℕ) (zs os : List ℕ) (few : w ≤ 512) (room : w * 2 * size ≤ 1024) where
  module _ (below : List ℕ) (is : below ≡ puts (candidate_count input a b size w zs os) (number_below input a b size w zs os) (replicate 1024 0)) where
    below_at : (q : ℕ) → q < candidate_count input a b size w zs os → get_or below q 0 ≡ number_below input a b size w zs os q
    below_at q h =
        ap (λ (l : List ℕ). get_or l q 0) is
        ∙ stored 1024 (candidate_count input a b size w zs os) (number_below input a b size w zs os) q (cands_few input a b size w zs os few room) h

    pub below_few : length (firsts_below input a b size w zs os) ≤ 512 → (q : ℕ) → q < candidate_count input a b size w zs os → get_or below q 0 < 512
    below_few n q h = rw (below_at q h) (child-few input a b size w zs os few room n q h)

module _ (a b size w : ℕ) (zs os : List ℕ) (few : w ≤ 512) (room : w * 2 * size ≤ 1024) (below : List ℕ) (height base : ℕ) where
  pub inputs_over : below ≡ puts (candidate_count true a b size w zs os) (number_below true a b size w zs os) (replicate 1024 0)
      → tab w (λ c. node height (base + get_or below (c * 2) 0) (base + get_or below (c * 2 + 1) 0)) ≡ nodes_over true a b size w zs os height base
  unfolding nodes_over candidate_count
  inputs_over is =
      tab_ext (λ c. node height (base + get_or below (c * 2) 0) (base + get_or below (c * 2 + 1) 0))
      (λ c. node height (base + number_below true a b size w zs os (c * 2)) (base + number_below true a b size w zs os (c * 2 + 1))) w
      (λ c h.
      ap₂ (λ (x y : ℕ). node height (base + x) (base + y)) (below_at true a b size w zs os few room below is (c * 2) (omega arith))
      (below_at true a b size w zs os few room below is (c * 2 + 1) (omega arith)))

  pub outputs_over : below ≡ puts (candidate_count false a b size w zs os) (number_below false a b size w zs os) (replicate 1024 0) → (values : List ℕ)
      → values ≡ puts w (λ c. value_in (get_or zs (c * size) 0) (get_or os (c * size) 0) b) (replicate 512 0)
      → tab w (λ c. node height (cond (eqb (get_or values c 0) 1) 0 (base + get_or below c 0)) (cond (eqb (get_or values c 0) 0) 0 (base + get_or below c 0)))
      ≡ nodes_over false a b size w zs os height base
  unfolding nodes_over candidate_count
  outputs_over is values val =
      let value : ℕ → ℕ = λ c. value_in (get_or zs (c * size) 0) (get_or os (c * size) 0) b in
      tab_ext (λ c. node height (cond (eqb (get_or values c 0) 1) 0 (base + get_or below c 0)) (cond (eqb (get_or values c 0) 0) 0 (base + get_or below c 0)))
      (λ c.
      node height (cond (eqb (value c) 1) 0 (base + number_below false a b size w zs os c)) (cond (eqb (value c) 0) 0 (base + number_below false a b size w zs os c))) w
      (λ c h.
      ap₂ (λ (x y : ℕ). node height (cond (eqb x 1) 0 (base + y)) (cond (eqb x 0) 0 (base + y)))
      (ap (λ (l : List ℕ). get_or l c 0) val ∙ stored 512 w value c few h)
      (below_at false a b size w zs os few room below is c h))

pub nodes_stored : (input : Bool) (a b size w : ℕ) (zs os : List ℕ) → w ≤ 512 → w * 2 * size ≤ 1024 → (below : List ℕ) (height base : ℕ)
    → below ≡ puts (candidate_count input a b size w zs os) (number_below input a b size w zs os) (replicate 1024 0) → (values : List ℕ)
    → values ≡ puts w (λ c. value_in (get_or zs (c * size) 0) (get_or os (c * size) 0) b) (replicate 512 0)
    → tab w (node_over input height base values below) ≡ nodes_over input a b size w zs os height base
unfolding node_over
nodes_stored true a b size w zs os few room below height base is values val =
    tab_ext (node_over true height base values below) (λ c. node height (base + get_or below (c * 2) 0) (base + get_or below (c * 2 + 1) 0)) w (λ c h. refl)
    ∙ inputs_over a b size w zs os few room below height base is
nodes_stored false a b size w zs os few room below height base is values val =
    tab_ext (node_over false height base values below)
    (λ c. node height (cond (eqb (get_or values c 0) 1) 0 (base + get_or below c 0)) (cond (eqb (get_or values c 0) 0) 0 (base + get_or below c 0))) w (λ c h. refl)
    ∙ outputs_over a b size w zs os few room below height base is values val
