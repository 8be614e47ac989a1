-- The merge at a height, all merges, and refusal 7 (document 01, "Columns and merging").
-- Assumes nothing.
use Rattle.std.specs.Prelude.{ℕ, zero, suc, ◌+◌, ◌-◌, ◌*◌, ◌/◌, ◌%◌, ◌^◌, Bool, cond, ◌&&◌, List, eqb, ltb, length, get_or}
use Rattle.laws.specs.Tests.{any}
use Rattle.laws.specs.Lists.{tab, rect}
use Rattle.laws.specs.Bits.{flag}
use Rattle.sheet_spec.specs.Limits.{most_columns}
use Rattle.sheet_spec.specs.Job.{Job, t, ins, outs}
use Rattle.sheet_spec.specs.Values.{free}
use Rattle.reduction_spec.specs.Columns.{entry, firsts, number_in, width}
use Rattle.reduction_spec.specs.Compatible.{compatible}
use Rattle.reduction_spec.specs.Cover.{cover}

-- ps are the smallest prefixes of the columns, owner the numbers of their cliques
module _ (n a b : ℕ) (f : List ℕ) (ps owner : List ℕ) where
  -- some column of clique g holds v at a place
  unfoldable pub holds : ℕ → ℕ → ℕ → ℕ → Bool
  holds v g k x = any (length ps) (λ c. eqb (get_or owner c 0) g && eqb (entry n a f (get_or ps c 0) k x) v)

  -- the product of clique g at a place: 0 or 1 where any member has it, else d
  unfoldable pub product : ℕ → ℕ → ℕ → ℕ
  product g k x = cond (holds 0 g k x) 0 (cond (holds 1 g k x) 1 free)

-- the compatibility graph of the columns
unfoldable pub graph : ℕ → ℕ → ℕ → List ℕ → List ℕ → List ℕ
graph n a b f ps = rect (length ps) (length ps) (λ c d. flag (compatible n a b f (get_or ps c 0) (get_or ps d 0)))

-- the table of m lines after the merge: on the b lowest lines every prefix of a clique takes its product
unfoldable pub merge : ℕ → ℕ → ℕ → ℕ → List ℕ → List ℕ
merge n m a b f =
    let ps = firsts n a b f in
    let owner = cover (length ps) (graph n a b f ps) in
    let cliques = tab (2 ^ (n - a)) (λ p. get_or owner (number_in n a b f ps p) 0) in
    rect m (2 ^ n) (λ k x.
    let old = get_or f (k * 2 ^ n + x) 0 in
    let new = product n a b f ps owner (get_or cliques (x / 2 ^ a) 0) k (x % 2 ^ a) in
    cond (ltb k b) new old)

unfoldable pub merge_at : Job → List ℕ → ℕ → List ℕ
merge_at j f h = merge j.n j.m (ins j h) (outs j h) f

-- the function after k merges, for h from t - 1 down, each on the function as it then stands
unfoldable pub merged : Job → List ℕ → ℕ → List ℕ
merged j f zero = f
merged j f (suc k) = merge_at j (merged j f k) (t j - suc k)

-- the range to 1: the function after all merges
unfoldable pub reduced : Job → List ℕ → List ℕ
reduced j f = merged j f (t j - 1)

-- over 512 columns at height t - 1 - k before its merge
unfoldable pub too_wide : Job → List ℕ → ℕ → Bool
too_wide j f k = ltb most_columns (width j (merged j f k) (t j - suc k))

-- 7: at some height
unfoldable pub refuse7 : Job → List ℕ → Bool
refuse7 j f = any (t j - 1) (too_wide j f)
