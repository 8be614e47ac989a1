-- The cover of w columns by cliques (document 001, algorithm 2, as document 01 tells it under "Columns and merging").
-- A set of columns is a list of w flags, 1 at its members; the graph is w lines of w flags, 1 where two columns are compatible.
-- Assumes nothing.
use Rattle.std.specs.Prelude.{ℕ, zero, suc, ◌+◌, ◌*◌, Bool, cond, not, ◌&&◌, ◌||◌, List, eqb, ltb, get_or, set, replicate}
use Rattle.laws.specs.Tests.{any, count}
use Rattle.laws.specs.Lists.{tab}
use Rattle.laws.specs.Bits.{flag}

abbrev pub is_in : List ℕ → ℕ → Bool
is_in s c = eqb (get_or s c 0) 1

module _ (w : ℕ) (graph : List ℕ) where
  -- column d is another member of the set than c, and compatible with c
  unfoldable pub linked : List ℕ → ℕ → ℕ → Bool
  linked s c d = is_in s d && not (eqb c d) && is_in graph (c * w + d)

  -- edges are counted among the columns left when a round begins
  unfoldable pub edges : List ℕ → ℕ → ℕ
  edges left c = count w (linked left c)

  -- column c has fewer edges than column b, or b is none
  unfoldable pub fewer : List ℕ → ℕ → ℕ → Bool
  fewer es c b = eqb b w || ltb (get_or es c 0) (get_or es b 0)

  -- of the members below c the one with fewest edges, ties to the lowest number; w where there is none
  unfoldable pub fewest : List ℕ → List ℕ → ℕ → ℕ
  fewest es s zero = w
  fewest es s (suc c) = let b = fewest es s c in cond (is_in s c && fewer es c b) c b

  -- the members that stay candidates when column u joins: it and those incompatible with it do not
  unfoldable pub staying : List ℕ → ℕ → ℕ → ℕ
  staying s u d = flag (linked s u d)

  unfoldable pub candidates : List ℕ → ℕ → List ℕ
  candidates s u = tab w (staying s u)

  -- repeatedly the candidate with fewest edges joins the clique q, until none remains (at most k times)
  unfoldable pub grown : ℕ → List ℕ → List ℕ → List ℕ → List ℕ
  grown zero es s q = q
  grown (suc k) es s q =
      let u = fewest es s w in
      let r = grown k es (candidates s u) (set q u 1) in
      cond (eqb u w) q r

  -- the clique of a round that begins with the columns left: the column with fewest edges opens it, its compatible columns are candidates
  unfoldable pub clique : List ℕ → List ℕ
  clique left =
      let es = tab w (edges left) in
      let u = fewest es left w in
      grown w es (candidates left u) (set (replicate w 0) u 1)

  -- the columns left when the clique q leaves; each column's clique number when clique g leaves
  unfoldable pub leave : List ℕ → List ℕ → List ℕ
  leave left q = tab w (λ c. flag (is_in left c && not (is_in q c)))

  unfoldable pub owned : List ℕ → List ℕ → ℕ → List ℕ
  owned owner q g = tab w (λ c. cond (is_in q c) g (get_or owner c 0))

  -- rounds while columns are left (at most k), of which the next clique has number g
  unfoldable pub rounds : ℕ → ℕ → List ℕ → List ℕ → List ℕ
  rounds zero g left owner = owner
  rounds (suc k) g left owner =
      let q = clique left in
      let r = rounds k (g + 1) (leave left q) (owned owner q g) in
      cond (any w (is_in left)) r owner

  -- the number of each column's clique
  unfoldable pub cover : List ℕ
  cover = rounds w 0 (replicate w 1) (replicate w 0)
