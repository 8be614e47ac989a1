-- How the bytes of standard input are a job and its sheet (document 01, program `cascade_list`).
-- Assumes nothing.
use Rattle.std.specs.Prelude.{ℕ, ◌+◌, List, get_or, take, drop}
use Rattle.sheet_spec.specs.Job.{Job, job}

-- n, m, K, L: a byte each, 0 where input has ended
abbrev pub number : List ℕ → ℕ → ℕ
number input i = get_or input i 0

-- t, the length of the order
abbrev pub variables : List ℕ → ℕ
variables input = number input 0 + number input 1

-- then the order, as much of it as there is, and the sheet: all that is left
unfoldable pub order_of : List ℕ → List ℕ
order_of input = take (variables input) (drop 4 input)

unfoldable pub sheet_of : List ℕ → List ℕ
sheet_of input = drop (4 + variables input) input

abbrev pub job_of : List ℕ → Job
job_of input = job (number input 0) (number input 1) (number input 2) (number input 3) (order_of input)
