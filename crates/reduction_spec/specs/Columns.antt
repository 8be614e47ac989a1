-- Prefixes, columns, their numbers and the widths (document 01, "Columns and merging"; document 000, definition 3.5).
-- f is a table of lines of 2^n values, as in the sheet layer's Table; a inputs and b outputs stand at heights h to 1.
-- A prefix is a value of the n - a inputs above, read as a number, topmost input most significant.
-- Assumes nothing.
use Rattle.std.specs.Prelude.{ℕ, suc, ◌+◌, ◌-◌, ◌*◌, ◌^◌, Bool, List, [], eqb, length, get_or}
use Rattle.laws.specs.Tests.{every}
use Rattle.laws.specs.Lists.{tab}
use Rattle.sheet_spec.specs.Job.{Job, t, ins, outs}
use Rattle.reduction_spec.specs.Numbering.{index_in, firsts_of}

-- the column of prefix p: the value that the output with k outputs below it takes where the inputs at heights h to 1 are x
abbrev pub entry : ℕ → ℕ → List ℕ → ℕ → ℕ → ℕ → ℕ
entry n a f p k x = get_or f (k * 2 ^ n + (p * 2 ^ a + x)) 0

-- the prefixes p and q have the same column: on one line; on each of the b lines
unfoldable pub same_line : ℕ → ℕ → List ℕ → ℕ → ℕ → ℕ → Bool
same_line n a f p q k = every (2 ^ a) (λ x. eqb (entry n a f p k x) (entry n a f q k x))

unfoldable pub same : ℕ → ℕ → ℕ → List ℕ → ℕ → ℕ → Bool
same n a b f p q = every b (same_line n a f p q)

-- the number of prefix p's column, where ps are the smallest prefixes of the columns in rising order; length ps, if it is none of these
unfoldable pub number_in : ℕ → ℕ → ℕ → List ℕ → List ℕ → ℕ → ℕ
number_in n a b f = index_in (same n a b f)

-- columns are numbered by their smallest prefix, from 0: column c is that of prefix c of this list
unfoldable pub firsts : ℕ → ℕ → ℕ → List ℕ → List ℕ
firsts n a b f = firsts_of (same n a b f) (2 ^ (n - a))

-- the same at the height h of a job
unfoldable pub firsts_at : Job → List ℕ → ℕ → List ℕ
firsts_at j f h = firsts j.n (ins j h) (outs j h) f

unfoldable pub number_at : Job → List ℕ → List ℕ → ℕ → ℕ → ℕ
number_at j f ps h p = number_in j.n (ins j h) (outs j h) f ps p

-- the width at h is the number of different columns; at 0 there is none but the empty one
unfoldable pub width : Job → List ℕ → ℕ → ℕ
width j f h = length (firsts_at j f h)

-- the smallest prefixes at each height, 0 to t
unfoldable pub layers : Job → List ℕ → List (List ℕ)
layers j f = tab (suc (t j)) (firsts_at j f)

abbrev pub layer : List (List ℕ) → ℕ → List ℕ
layer ls h = get_or ls h []

abbrev pub width_in : List (List ℕ) → ℕ → ℕ
width_in ls h = length (layer ls h)
