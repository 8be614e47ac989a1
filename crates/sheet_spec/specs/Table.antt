-- The function of a sheet as a table: m lines of 2^n values. Line k is that of the output with k outputs below it in the order; at place x
-- stands its value for the word whose inputs, read down the order with the topmost most significant, are the number x.
-- So the column of a prefix is the same range of the lowest lines.
-- Assumes nothing.
use Rattle.std.specs.Prelude.{ℕ, ◌+◌, ◌^◌, cond, List, eqb, get_or}
use Rattle.std.proofs.lemmas.List.Edits.{sets}
use Rattle.laws.specs.Lists.{rect}
use Rattle.sheet_spec.specs.Job.{Job, inputs_to, outputs_to, word_of}
use Rattle.sheet_spec.specs.Values.{value}
use Rattle.sheet_spec.specs.Refusals.{sheet_refusal}

-- the value on line k at place x, for n inputs, m outputs and their order
unfoldable pub table_at : ℕ → ℕ → List ℕ → List ℕ → ℕ → ℕ → ℕ
table_at n m order s k x = value s (word_of (inputs_to (n + m) order (n + m)) x) (get_or (outputs_to (n + m) order (n + m)) k 0)

unfoldable pub table_of : ℕ → ℕ → List ℕ → List ℕ → List ℕ
table_of n m order s = rect m (2 ^ n) (table_at n m order s)

abbrev pub table : Job → List ℕ → List ℕ
table j s = table_of j.n j.m j.order s

-- a lent table after: the function's table is stored from its front on where no refusal is given, else it is as it was
unfoldable pub table_after : Job → List ℕ → List ℕ → List ℕ
table_after j s old = cond (eqb (sheet_refusal j s) 0) (sets old 0 (table j s)) old

-- the answer, and the lent table after
pub record Tabled : Type 0 where
  pub refusal : ℕ
  pub table : List ℕ

abbrev pub tabled : ℕ → List ℕ → Tabled
tabled n f = record { refusal = n; table = f }

abbrev pub fill_table : Job → List ℕ → List ℕ → Tabled
fill_table j s old = tabled (sheet_refusal j s) (table_after j s old)
