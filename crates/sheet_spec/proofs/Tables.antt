-- The table of a sheet: its length, and its values.
-- Assumes nothing.
use mathlib.Core.List.{List}
use Prim.Native.Nat.{ℕ, ◌<◌, ◌+◌, ◌*◌, ◌^◌}
use native.Mathlib.Omega.{arith}
use Rattle.laws.proofs.Cases.{cond_both}
use Rattle.sheet_spec.specs.Records.{ordinary, stop}
use Rattle.sheet_spec.specs.Values.{forced_to0, forced_to1, free, value_by, value}
use mathlib.Core.Path.{◌≡◌}
use lib.ListN.{length, get_or}
use Rattle.laws.proofs.Lists.{length-rect, get_or-rect, rect-each}
use Rattle.sheet_spec.specs.Job.{Job, inputs_to, outputs_to, word_of}
use Rattle.sheet_spec.specs.Table.{table_at, table_of, table}

by_below : (s : List ℕ) (k w o d : ℕ) → d < 3 → value_by s k w o d < 3
unfolding value_by
by_below s k w o d h =
    cond_both (λ (x : ℕ). x < 3) (forced_to0 s k w o) (omega arith) (cond_both (λ (x : ℕ). x < 3) (forced_to1 s k w o) (omega arith) h)

pub value_below : (s : List ℕ) (w o : ℕ) → value s w o < 3
unfolding value
value_below s w o = by_below s stop w o (value_by s ordinary w o free) (by_below s ordinary w o free (omega arith))

-- a table has m lines of 2^n values, each 0, 1 or 2
pub table-length : (n m : ℕ) (order s : List ℕ) → length (table_of n m order s) ≡ m * 2 ^ n
unfolding table_of
table-length n m order s = length-rect (2 ^ n) (table_at n m order s) m

pub table_below : (n m : ℕ) (order s : List ℕ) (i : ℕ) → get_or (table_of n m order s) i 0 < 3
unfolding table_of table_at
table_below n m order s i =
    rect-each (λ (v : ℕ). v < 3) 0 (omega arith) (table_at n m order s)
    (λ k x. value_below s (word_of (inputs_to (n + m) order (n + m)) x) (get_or (outputs_to (n + m) order (n + m)) k 0)) m (2 ^ n) i

pub table-entry : (j : Job) (s : List ℕ) (k x : ℕ) → k < j.m → x < 2 ^ j.n
    → get_or (table j s) (k * 2 ^ j.n + x) 0 ≡ table_at j.n j.m j.order s k x
unfolding table_of
table-entry j s k x hk hx = get_or-rect (2 ^ j.n) (table_at j.n j.m j.order s) 0 j.m k x hk hx
