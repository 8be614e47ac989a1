-- One height further down as the code goes: from the planes zs and os of w packed columns the columns below, their cliques and products.
-- a inputs and b outputs stand below, and a column below has size words.
-- Assumes nothing.
use Rattle.std.specs.Prelude.{ℕ, ◌+◌, ◌*◌, Bool, cond, List, eqb, leb, length, get_or, replicate, Result, Ok, Err}
use Rattle.std.proofs.lemmas.List.Edits.{sets}
use Rattle.laws.specs.Lists.{tab, rect, puts}
use Rattle.laws.specs.Bits.{flag}
use Rattle.refusals.specs.declared.Refusal.{Refusal}
use Rattle.refusals.specs.declared.Refusal.TheVariants.{TooWide}
use Rattle.reduction_spec.specs.Numbering.{index_in, firsts_of}
use Rattle.reduction_spec.specs.Cover.{cover}
use Rattle.reduction.specs.Packed.{candidates_of, added_columns, value_in}
use Rattle.reduction.specs.Distinct.{same_words, linked_words, same_owner}
use Rattle.reduction_spec.specs.declared.Node.{Node}
use Rattle.reduction_spec.specs.Diagram.{node}

-- the answer n, refused where more than 512 columns stand at a height before its merge
abbrev pub narrow_or : (before n : ℕ) → Result ℕ Refusal
narrow_or before n = cond (leb before 512) (Ok n) (Err TooWide)

-- the number of the first node at a height, where count nodes stand above it
abbrev pub first_node : (height count : ℕ) → ℕ
first_node height count = cond (eqb height 0) 1 (2 + count)

-- the node of column c right above a height: values has the columns' values of the output there, below the numbers of the candidates, and the
-- nodes below begin with the number base
unfoldable pub node_over : Bool → (height base : ℕ) → (values below : List ℕ) → ℕ → Node
node_over input height base values below c =
    let next = base + get_or below c 0 in
    let split = node height (base + get_or below (c * 2) 0) (base + get_or below (c * 2 + 1) 0) in
    cond input split (node height (cond (eqb (get_or values c 0) 1) 0 next) (cond (eqb (get_or values c 0) 0) 0 next))

-- the cliques of the w columns ps of the planes
module _ (size : ℕ) (zs os : List ℕ) (w : ℕ) (ps : List ℕ) where
  unfoldable pub link_flags : List ℕ
  link_flags = rect w w (λ c d. flag (linked_words zs os size ps c d))

  unfoldable pub owners : List ℕ
  owners = cover w link_flags

  -- the cliques' first columns, and the number of each column's clique
  unfoldable pub clique_firsts : List ℕ
  clique_firsts = firsts_of (same_owner owners) w

  unfoldable pub clique_of : ℕ → ℕ
  clique_of c = index_in (same_owner owners) clique_firsts c

module _ (input : Bool) (a b size w : ℕ) (zs os : List ℕ) where
  -- how many columns below are looked at, and their planes
  unfoldable pub candidate_count : ℕ
  candidate_count = cond input (w * 2) w

  unfoldable pub plane_below : List ℕ → List ℕ
  plane_below from = candidates_of input a b size w from (replicate 1024 0)

  -- the different ones
  unfoldable pub firsts_below : List ℕ
  firsts_below = firsts_of (same_words (plane_below zs) (plane_below os) size) candidate_count

  unfoldable pub cliques_below : List ℕ
  cliques_below = clique_firsts size (plane_below zs) (plane_below os) (length firsts_below) firsts_below

  -- the number below of candidate q
  unfoldable pub number_below : ℕ → ℕ
  number_below q =
      clique_of size (plane_below zs) (plane_below os) (length firsts_below) firsts_below
      (index_in (same_words (plane_below zs) (plane_below os) size) firsts_below q)

  -- the plane of the products, made of the plane from and written over the list old
  unfoldable pub product_below : List ℕ → List ℕ → List ℕ
  product_below from old =
      added_columns size (sets (replicate 512 0) 0 firsts_below)
      (puts (length firsts_below) (clique_of size (plane_below zs) (plane_below os) (length firsts_below) firsts_below) (replicate 512 0))
      (plane_below from) (length firsts_below) (puts 1024 (λ i. 0) old)

  -- the nodes of the w columns above: at a height, where the nodes below begin with the number base
  unfoldable pub nodes_over : ℕ → ℕ → List Node
  nodes_over height base =
      let value : ℕ → ℕ = λ c. value_in (get_or zs (c * size) 0) (get_or os (c * size) 0) b in
      let inputs = tab w (λ c. node height (base + number_below (c * 2)) (base + number_below (c * 2 + 1))) in
      let outputs = tab w (λ c. node height (cond (eqb (value c) 1) 0 (base + number_below c)) (cond (eqb (value c) 0) 0 (base + number_below c))) in
      cond input inputs outputs
