-- The clauses of demand 3 on case A's block: it is what the compiler writes for table 1, and in a scan of it, after the first cell, the reads left
-- set both outputs to allowed values however the unread input x4 stands.
-- Assumes nothing.
use mathlib.Core.Path.{◌≡◌, refl, sym}
use mathlib.Core.List.{List, [], ◌∷◌, ◌++◌}
use Prim.Native.Nat.{ℕ, ◌<◌}
use native.Mathlib.Omega.{arith}
use lib.ListN.{replicate}
use Rattle.laws.specs.Bits.{bit}
use Rattle.sheet_spec.specs.Opened.{sheet_opened}
use Rattle.sheet_spec.specs.Example.{T, job_t}
use Rattle.reduction_spec.specs.Opened.{reduction_opened}
use Rattle.cutting_spec.specs.Opened.{cutting_opened}
use Rattle.cutting_spec.specs.Example.{records_a, row_bytes_a}
use Rattle.cutting.specs.Outcome.{outcome}
use Rattle.bank_spec.specs.Opened.{bank_opened}
use Rattle.bank_spec.specs.State.{fresh}
use Rattle.bank_spec.specs.Calls.{every_scan}
use Rattle.bank_spec.specs.Book.{Block}
use Rattle.bank_spec.specs.CallLists.{Call, admission, latching, stepping, state_after, trace}
use Rattle.bank_spec.specs.Demand3.{CompiledBy, FewestBits, merged_columns, SetAllowed, output_in, OnlyUnread, blocks, reads, ScanClaim}
use Rattle.bank_spec.proofs.Promises.{demand3}
use Rattle.claims.proofs.WrittenBlocks.{outcome-compiled}

-- the compiler over words writes it, and so it is a compiled block, with whatever period, phase, word, rails and outputs it stands in a book
module _ (p f w r : ℕ) (outputs : List ℕ) where
  abbrev pub block_a : Block
  block_a = record { records = records_a; rows = row_bytes_a; period = p; phase = f; word = w; rail = r; outputs = outputs }

  pub A-compiled : CompiledBy (job_t 3 2) T block_a
  unfolding sheet_opened reduction_opened cutting_opened outcome
  A-compiled = outcome-compiled (replicate 45 0) (replicate 24 0) (replicate 32 0) (job_t 3 2) T refl block_a refl refl

-- the bank has it, and x1x2x3x4 = 0110 is latched
abbrev admit_a : List Call
admit_a = admission (every_scan records_a row_bytes_a) ∷ []

abbrev memory : List ℕ
memory = replicate 32 9

-- the cut below x3 has 2 rails, the fewest bits that tell apart the four merged columns there
pub A-rails : FewestBits 2 (merged_columns (job_t 3 2) T 3)
unfolding sheet_opened cutting_opened bank_opened
A-rails = (demand3 4 refl memory admit_a).rails 0 (job_t 3 2) T (omega arith) (A-compiled _ _ _ _ _) 2 (omega arith) refl

-- after the first cell is read the scan still runs, and all of the claim holds
A-scan : ScanClaim 4 memory admit_a (6 ∷ []) (stepping ∷ [])
unfolding sheet_opened cutting_opened bank_opened
A-scan = (demand3 4 refl memory (admit_a ++ (latching (6 ∷ []) ∷ stepping ∷ []))).scan admit_a (6 ∷ []) (stepping ∷ []) refl refl

-- the first cell reads x1, x2 and x3. So for every word v with the same three the answers and outputs so far are the same, one read is left, and
-- it sets y1 and y2 to values that table 1 allows for v
module _ (v : ℕ) (x1 : bit v 0 ≡ 0) (x2 : bit v 1 ≡ 1) (x3 : bit v 2 ≡ 1) where
  only_x4 : OnlyUnread (blocks 4 memory admit_a (6 ∷ []) (stepping ∷ [])) (6 ∷ []) (v ∷ []) (reads 4 memory admit_a (6 ∷ []) (stepping ∷ []))
  unfolding sheet_opened cutting_opened bank_opened
  only_x4 = ((sym x1, (sym x2, (sym x3, tt))), tt)

  pub A-same : trace (fresh 4 memory) (admit_a ++ (latching (v ∷ []) ∷ stepping ∷ []))
      ≡ trace (fresh 4 memory) (admit_a ++ (latching (6 ∷ []) ∷ stepping ∷ []))
  A-same = A-scan.same_so_far (v ∷ []) only_x4

  pub A-left : (o : ℕ) → o < 2
      → SetAllowed T v o (output_in (state_after (state_after (fresh 4 memory) (admit_a ++ (latching (v ∷ []) ∷ stepping ∷ []))) (stepping ∷ [])) 0 o)
  unfolding sheet_opened cutting_opened bank_opened
  A-left o l = (A-scan.left_in_latch (v ∷ []) only_x4).allowed 0 (omega arith) refl (job_t 3 2) T (A-compiled _ _ _ _ _) o l

-- and it is not the same value for all: y2 is x4
pub A-outputs : (output_in (state_after (fresh 4 memory) (admit_a ++ (latching (6 ∷ []) ∷ stepping ∷ stepping ∷ []))) 0 1 ≡ 0)
    × (output_in (state_after (fresh 4 memory) (admit_a ++ (latching (14 ∷ []) ∷ stepping ∷ stepping ∷ []))) 0 1 ≡ 1)
unfolding sheet_opened cutting_opened bank_opened
A-outputs = (refl, refl)
