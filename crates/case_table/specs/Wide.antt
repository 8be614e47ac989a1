-- A job with a cell of nine outputs, for the case table.
-- Assumes nothing.
use Rattle.std.specs.Prelude.{ℕ, List, [], ◌∷◌, ◌++◌}
use Rattle.sheet_spec.specs.Job.{Job}
use Rattle.sheet_spec.specs.Example.{line}

-- order x1 x2 x3 y1 .. y7 x4 y8, K 3: the first cell has y1 to y7 and, where y8 takes four courses, two rails
abbrev pub job_w : ℕ → Job
job_w l =
    record { n = 4; m = 8; K = 3; L = l; order = 0 ∷ 1 ∷ 2 ∷ 128 ∷ 129 ∷ 130 ∷ 131 ∷ 132 ∷ 133 ∷ 134 ∷ 3 ∷ 135 ∷ [] }

-- y1 is x1; y8 is 0, 1, x4 or the other of x4 as x1 x2 is 00, 01, 10 or 11; y2 to y7 are free
abbrev pub courses : List ℕ
courses =
    line 1 1 0 1 ++ line 1 0 1 0 ++ line 3 0 128 0 ++ line 3 2 0 128 ++ line 11 1 128 0 ++ line 11 9 0 128 ++ line 11 3 0 128 ++ line 11 11 128 0
