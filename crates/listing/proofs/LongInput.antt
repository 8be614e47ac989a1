-- Input of more than 4,096 bytes: the first 4,096 decide what the compiler gives, and which outputs are certain.
-- Assumes nothing.
use mathlib.Core.Path.{◌≡◌, refl, sym, ◌∙◌, ap, ap₂}
use mathlib.Core.Bool.{true, not, ◌||◌, or-true}
use mathlib.Core.List.{List}
use Prim.Native.Nat.{ℕ, ◌+◌, ◌%◌, ◌<◌, ◌≤◌}
use native.Mathlib.Omega.{arith}
use borrow.Author.Tests.{lt-ltb}
use lib.Dec.{eqb}
use lib.ListN.{length, get_or, take, drop, replicate, take-append-drop, length-drop}
use lib.Seq.{length-take-le, take_all, take-append-le, drop-append-le, get_or-take}
use Rattle.laws.proofs.Cases.{by_less}
use Rattle.sheet_spec.specs.Job.{Job}
use Rattle.sheet_spec.specs.Refusals.{refuse3}
use Rattle.cutting_spec.specs.Compile.{compile}
use Rattle.cutting_spec.proofs.Promises.{unread_same}
use Rattle.node_table.specs.Nodes.{empty_table, WholeOutcome, whole_outcome}
use Rattle.listing.specs.Split.{number, variables, order_of, sheet_of, job_of}
use Rattle.listing.specs.Known.{evaluate_written, evaluate_input}

-- a sheet of more than 2,048 bytes is refused with 3, or with 1 or 2, whatever it holds
too_long : (s : List ℕ) → 2048 < length s → refuse3 s ≡ true
unfolding refuse3
too_long s h = ap (λ b. not (eqb (length s % 8) 0) || b) (lt-ltb 2048 (length s) h) ∙ or-true (not (eqb (length s % 8) 0))

long_sheets : (records rows : List ℕ) (j : Job) (s z : List ℕ) → 2048 < length s → 2048 < length z → whole_outcome records rows j s ≡ whole_outcome records rows j z
unfolding whole_outcome compile
long_sheets records rows j s z h k = rw (unread_same s z (too_long s h) (too_long z k) j (λ xs. xs) empty_table records rows) refl

-- a part that ends in the first n elements is a part of them
part_within : (a k n : ℕ) (l : List ℕ) → a + k ≤ n → n ≤ length l → take k (drop a (take n l)) ≡ take k (drop a l)
part_within a k n l h long =
    let all = length-take-le n l long in
    sym
    (ap (λ (x : List ℕ). take k (drop a x)) (sym (take-append-drop n l))
    ∙ ap (take k) (drop-append-le a (take n l) (drop n l) (omega arith))
    ∙ take-append-le k (drop a (take n l)) (drop n l) (omega (arith, length-drop a (take n l))))

module _ (input : List ℕ) (bytes : (i : ℕ) → get_or input i 0 < 256) (long : 4096 < length input) where
  abbrev first : List ℕ
  first = take 4096 input

  number-kept : (i : ℕ) → i < 4 → number first i ≡ number input i
  number-kept i h = get_or-take 4096 input i 0 (omega arith)

  few : variables input ≤ 510
  few = omega (arith, bytes 0, bytes 1)

  variables-kept : variables first ≡ variables input
  variables-kept = ap₂ ◌+◌ (number-kept 0 (omega arith)) (number-kept 1 (omega arith))

  order-kept : order_of first ≡ order_of input
  unfolding order_of
  order-kept =
      ap (λ (k : ℕ). take k (drop 4 first)) variables-kept ∙ part_within 4 (variables input) 4096 input (omega (arith, few)) (omega arith)

  job-kept : job_of first ≡ job_of input
  job-kept =
      rw (
        number-kept 0 (omega arith),
        number-kept 1 (omega arith),
        number-kept 2 (omega arith),
        number-kept 3 (omega arith),
        order-kept,
      )

  sheet-long : 2048 < length (sheet_of input)
  unfolding sheet_of
  sheet-long = omega (arith, few, length-drop (4 + variables input) input)

  first-long : 2048 < length (sheet_of first)
  unfolding sheet_of
  first-long =
      omega (arith, few, variables-kept, length-take-le 4096 input (omega arith), length-drop (4 + variables first) first)

pub long_input : (records rows input : List ℕ) → ((i : ℕ) → get_or input i 0 < 256)
    → whole_outcome records rows (job_of (take 4096 input)) (sheet_of (take 4096 input)) ≡ whole_outcome records rows (job_of input) (sheet_of input)
long_input records rows input bytes =
    by_less 4096 (length input)
    (λ long.
    ap (λ (j : Job). whole_outcome records rows j (sheet_of (take 4096 input))) (job-kept input bytes long)
    ∙ long_sheets records rows (job_of input) (sheet_of (take 4096 input)) (sheet_of input) (first-long input bytes long) (sheet-long input bytes long))
    (λ h. ap (λ (x : List ℕ). whole_outcome records rows (job_of x) (sheet_of x)) (take_all 4096 input h))

pub long_known : (input : List ℕ) → ((i : ℕ) → get_or input i 0 < 256) → (known w : ℕ) → evaluate_input (take 4096 input) known w ≡ evaluate_input input known w
unfolding evaluate_input
long_known input bytes known w =
    ap₂ (λ (o : WholeOutcome) (t : ℕ). evaluate_written o t known w) (long_input (replicate 80 0) (replicate 65536 0) input bytes)
    (by_less 4096 (length input) (variables-kept input bytes) (λ h. ap variables (take_all 4096 input h)))
