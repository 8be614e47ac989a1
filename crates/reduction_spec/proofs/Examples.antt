-- Computed examples: the columns and cliques of T height by height, its widths and its table after all merges; small covers; two jobs on
-- which common mistakes show.
-- Assumes nothing.
use mathlib.Core.Path.{◌≡◌, refl}
use mathlib.Core.Bool.{false}
use mathlib.Core.List.{List, [], ◌∷◌, ◌++◌}
use Prim.Native.Nat.{ℕ, suc, ◌-◌}
use lib.ListN.{length}
use Rattle.laws.specs.Lists.{tab}
use Rattle.sheet_spec.specs.Job.{Job, t, ins, outs}
use Rattle.sheet_spec.specs.Table.{table}
use Rattle.sheet_spec.specs.Opened.{sheet_opened}
use Rattle.sheet_spec.specs.Example.{T, job_t, job_f, line}
use Rattle.reduction_spec.specs.Opened.{reduction_opened}
use Rattle.reduction_spec.specs.Columns.{firsts_at, width}
use Rattle.reduction_spec.specs.Cover.{cover}
use Rattle.reduction_spec.specs.Merge.{graph, merged, reduced, refuse7}

abbrev job : Job
job = job_t 3 2

-- at the height of merge k, before it: the columns' smallest prefixes, and the clique of each
abbrev firsts_before : ℕ → List ℕ
firsts_before k = firsts_at job (merged job (table job T) k) (t job - suc k)

abbrev cliques : Job → List ℕ → ℕ → List ℕ
cliques j s k =
    let h = t j - suc k in
    let f = merged j (table j s) k in
    let ps = firsts_at j f h in
    cover (length ps) (graph j.n (ins j h) (outs j h) f ps)

-- heights 5 to 1
pub T-columns : tab 5 firsts_before ≡ (0 ∷ 1 ∷ []) ∷ (0 ∷ 1 ∷ 2 ∷ 3 ∷ []) ∷ (0 ∷ 1 ∷ 2 ∷ 3 ∷ 4 ∷ 5 ∷ []) ∷ (0 ∷ 1 ∷ 2 ∷ []) ∷ (0 ∷ 2 ∷ []) ∷ []
unfolding sheet_opened reduction_opened
T-columns = refl

pub T-cliques : tab 5 (cliques job T) ≡ (0 ∷ 1 ∷ []) ∷ (0 ∷ 2 ∷ 1 ∷ 2 ∷ []) ∷ (3 ∷ 0 ∷ 1 ∷ 1 ∷ 3 ∷ 2 ∷ []) ∷ (0 ∷ 1 ∷ 2 ∷ []) ∷ (0 ∷ 1 ∷ []) ∷ []
unfolding sheet_opened reduction_opened
T-cliques = refl

-- y2, then y1, down the rows of the truth table
pub T-reduced : reduced job (table job T)
    ≡ (1 ∷ 1 ∷ 0 ∷ 0 ∷ 0 ∷ 1 ∷ 0 ∷ 1 ∷ 1 ∷ 1 ∷ 0 ∷ 0 ∷ 0 ∷ 1 ∷ 0 ∷ 1 ∷ [])
    ++ (0 ∷ 0 ∷ 0 ∷ 0 ∷ 1 ∷ 1 ∷ 1 ∷ 1 ∷ 0 ∷ 0 ∷ 1 ∷ 1 ∷ 1 ∷ 1 ∷ 1 ∷ 1 ∷ [])
unfolding sheet_opened reduction_opened
T-reduced = refl

-- the widths at the heights 0 to 6 before all merges, of which document 001 prints the greatest, 8, and after them: 4
pub T-widths-before : tab 7 (width job (table job T)) ≡ 1 ∷ 3 ∷ 4 ∷ 8 ∷ 4 ∷ 2 ∷ 1 ∷ []
unfolding sheet_opened reduction_opened
T-widths-before = refl

pub T-widths : tab 7 (width job (reduced job (table job T))) ≡ 1 ∷ 2 ∷ 3 ∷ 4 ∷ 3 ∷ 2 ∷ 1 ∷ []
unfolding sheet_opened reduction_opened
T-widths = refl

pub T-not-7 : refuse7 job (table job T) ≡ false
unfolding sheet_opened reduction_opened
T-not-7 = refl

-- a chain of four columns: an end opens, its neighbour joins
pub chain : cover 4 (0 ∷ 1 ∷ 0 ∷ 0 ∷ 1 ∷ 0 ∷ 1 ∷ 0 ∷ 0 ∷ 1 ∷ 0 ∷ 1 ∷ 0 ∷ 0 ∷ 1 ∷ 0 ∷ []) ≡ 0 ∷ 0 ∷ 1 ∷ 1 ∷ []
unfolding reduction_opened
chain = refl

-- y1 is free and y2 the opposite of x1: on the next output alone the two columns would be compatible
abbrev opposite_job : Job
opposite_job = record { n = 1; m = 2; K = 2; L = 4; order = 0 ∷ 128 ∷ 129 ∷ [] }

pub opposite_cliques : cliques opposite_job (line 1 1 2 0 ++ line 1 0 0 2) 0 ≡ 0 ∷ 1 ∷ []
unfolding sheet_opened reduction_opened
opposite_cliques = refl

-- y1 is 1 where x1 is 1, else free: the merge at height 1 leaves one column
pub lowest_merge : width job_f (reduced job_f (table job_f (line 1 1 0 1))) 1 ≡ 1
unfolding sheet_opened reduction_opened
lowest_merge = refl
