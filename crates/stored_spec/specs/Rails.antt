-- Rails at a cut (document 01, "Cuts, cells, rows"). ws are the widths at the heights 0 to t.
-- Assumes nothing.
use Rattle.std.specs.Prelude.{ℕ, ◌^◌, cond, List, eqb, leb, get_or}
use Rattle.laws.specs.Tests.{least}
use Rattle.sheet_spec.specs.Job.{Job, t}

-- the least r with 2^r at least w
unfoldable pub rails : ℕ → ℕ
rails w = least w (λ r. leb w (2 ^ r))

-- rails at a cut; at t, none
unfoldable pub rails_at : Job → List ℕ → ℕ → ℕ
rails_at j ws h = cond (eqb h (t j)) 0 (rails (get_or ws h 0))
