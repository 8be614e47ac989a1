-- Line order and the listing (document 02, §4): the sheet that follows a job's numbers and order may be rearranged, and what is printed stays.
-- Every number that `list` prints comes from the answer, the records and the rows of `compile_input`, and from n + m.
-- Assumes nothing.
use mathlib.Core.Path.{◌≡◌, sym, ◌∙◌, ap, ap₂}
use mathlib.Core.List.{List, ◌++◌}
use Prim.Native.Nat.{ℕ, ◌+◌, ◌<◌}
use native.Mathlib.Omega.{arith}
use lib.ListN.{length, get_or, take, drop, replicate, length-drop, get_or-append}
use lib.Seq.{take-append-le, drop-append-le, drop_at}
use Rattle.sheet_spec.specs.SameRecords.{SameRecords}
use Rattle.cutting_spec.specs.Compile.{compile}
use Rattle.cutting_spec.proofs.Promises.{compile-same}
use Rattle.node_table.specs.Nodes.{empty_table, WholeOutcome, whole_outcome}
use Rattle.listing.specs.Split.{number, variables, order_of, sheet_of, job_of}
use Rattle.listing.specs.Known.{evaluate_written, evaluate_input}
use Rattle.listing.proofs.LongInput.{long_input}

-- input whose sheet is s, where the head holds the four numbers and an order of n + m bytes
module _ (head : List ℕ) (exact : length head ≡ 4 + variables head) (s : List ℕ) where
  number_of : (i : ℕ) → i < 4 → number (head ++ s) i ≡ number head i
  number_of i l = get_or-append head s 0 i (omega arith)

  variables_of_lem : variables (head ++ s) ≡ variables head
  variables_of_lem = ap₂ ◌+◌ (number_of 0 (omega arith)) (number_of 1 (omega arith))

  order_of_lem : order_of (head ++ s) ≡ order_of head
  unfolding order_of
  order_of_lem =
      ap₂ take variables_of_lem (drop-append-le 4 head s (omega arith))
      ∙ take-append-le (variables head) (drop 4 head) s (omega (arith, length-drop 4 head))

  pub job_of_lem : job_of (head ++ s) ≡ job_of head
  job_of_lem = rw (number_of 0 (omega arith), number_of 1 (omega arith), number_of 2 (omega arith), number_of 3 (omega arith), order_of_lem)

  pub sheet_of_lem : sheet_of (head ++ s) ≡ s
  unfolding sheet_of
  sheet_of_lem = drop_at head s (4 + variables (head ++ s)) (exact ∙ ap (λ (k : ℕ). 4 + k) (sym variables_of_lem))

module _ (head : List ℕ) (exact : length head ≡ 4 + variables head) (s z : List ℕ) (h : SameRecords s z) (records rows : List ℕ) where
  -- what `compile_input` answers and leaves lent
  pub input_same : whole_outcome records rows (job_of (head ++ s)) (sheet_of (head ++ s)) ≡ whole_outcome records rows (job_of (head ++ z)) (sheet_of (head ++ z))
  unfolding whole_outcome compile
  input_same =
      rw (
        job_of_lem head exact s,
        job_of_lem head exact z,
        sheet_of_lem head exact s,
        sheet_of_lem head exact z,
        compile-same s z h (job_of head) (λ xs. xs) empty_table records rows,
      )

  -- and of the 4,096 bytes that `cascade_list` reads
  pub read_same : ((i : ℕ) → get_or (head ++ s) i 0 < 256) → ((i : ℕ) → get_or (head ++ z) i 0 < 256)
      → whole_outcome records rows (job_of (take 4096 (head ++ s))) (sheet_of (take 4096 (head ++ s)))
      ≡ whole_outcome records rows (job_of (take 4096 (head ++ z))) (sheet_of (take 4096 (head ++ z)))
  read_same b c = long_input records rows (head ++ s) b ∙ input_same ∙ sym (long_input records rows (head ++ z) c)

-- so are the outputs that are certain
pub known_same : (head : List ℕ) → length head ≡ 4 + variables head → (s z : List ℕ) → SameRecords s z
    → (known w : ℕ) → evaluate_input (head ++ s) known w ≡ evaluate_input (head ++ z) known w
unfolding evaluate_input
known_same head exact s z h known w =
    ap₂ (λ (o : WholeOutcome) (t : ℕ). evaluate_written o t known w) (input_same head exact s z h (replicate 80 0) (replicate 65536 0))
    (variables_of_lem head exact s ∙ sym (variables_of_lem head exact z))
