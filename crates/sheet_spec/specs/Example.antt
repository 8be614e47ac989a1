-- The sheets and jobs of the worked examples (document 01, "The case table"; document 02, §1 and §3).
-- Assumes nothing.
use Rattle.std.specs.Prelude.{ℕ, List, [], ◌∷◌, ◌++◌}
use Rattle.sheet_spec.specs.Job.{Job}

-- a record that tests inputs 0 to 7: mask, values, outputs forced to 0, outputs forced to 1
abbrev pub line : ℕ → ℕ → ℕ → ℕ → List ℕ
line k v z o = k ∷ 0 ∷ v ∷ 0 ∷ z ∷ o ∷ 0 ∷ 0 ∷ []

-- the same as a stop record
abbrev pub stop_line : ℕ → ℕ → ℕ → ℕ → List ℕ
stop_line k v z o = k ∷ 0 ∷ v ∷ 0 ∷ z ∷ o ∷ 1 ∷ 0 ∷ []

-- T is table 1 of document 000 as nine records; input 0 is x1, output 0 is y1.
-- For y1, x1x2x3 = 001, 100 give 0 and 011, 101, 110 give 1
abbrev pub T : List ℕ
T =
    line 7 4 1 0 ++ line 7 1 1 0 ++ line 7 6 0 1 ++ line 7 5 0 1 ++ line 7 3 0 1
    -- for y2, x2x3 = 00 gives 1, 01 gives 0, x2x3x4 = 110 gives 0, 111 gives 1
    ++ line 6 0 0 2
    ++ line 6 4 2 0
    ++ line 14 6 2 0
    ++ line 14 14 0 2

-- T as sixteen full-mask records, a row of the truth table each
abbrev pub full_t : List ℕ
full_t =
    line 15 0 0 2 ++ line 15 8 0 2 ++ line 15 4 3 0 ++ line 15 12 3 0
    ++ line 15 2 0 0
    ++ line 15 10 0 0
    ++ line 15 6 2 1
    ++ line 15 14 0 3
    ++ line 15 1 1 2
    ++ line 15 9 1 2
    ++ line 15 5 2 1
    ++ line 15 13 2 1
    ++ line 15 3 0 1
    ++ line 15 11 0 1
    ++ line 15 7 2 0
    ++ line 15 15 0 2

-- order x1 x2 x3 y1 x4 y2
abbrev pub job_t : ℕ → ℕ → Job
job_t k l = record { n = 4; m = 2; K = k; L = l; order = 0 ∷ 1 ∷ 2 ∷ 128 ∷ 3 ∷ 129 ∷ [] }

-- order x1 x2 y1 x3 x4 y2: y1 stands above x3, on which it depends
abbrev pub job_above : Job
job_above = record { n = 4; m = 2; K = 3; L = 2; order = 0 ∷ 1 ∷ 128 ∷ 2 ∷ 3 ∷ 129 ∷ [] }

-- n 1, m 1, K 2, L 1, order x1 y1
abbrev pub job_f : Job
job_f = record { n = 1; m = 1; K = 2; L = 1; order = 0 ∷ 128 ∷ [] }

-- two mask-0 records, output 0 as 0 and as 1
abbrev pub clashing : List ℕ
clashing = line 0 0 1 0 ++ line 0 0 0 1

-- x1 says that the lid is open, x2 that it is time to wash; y1 opens the wash valve. Order x1 x2 y1
abbrev pub job_s : Job
job_s = record { n = 2; m = 1; K = 3; L = 2; order = 0 ∷ 1 ∷ 128 ∷ [] }

-- a wash line opens the valve, and a stop line closes it while the lid is open; the same with an ordinary line for the lid
abbrev pub washing : List ℕ
washing = line 2 2 0 1 ++ stop_line 1 1 1 0

abbrev pub unstopped : List ℕ
unstopped = line 2 2 0 1 ++ line 1 1 1 0
