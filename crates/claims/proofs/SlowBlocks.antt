-- The clauses of demand 3 on blocks with a period (document 02, §8), on case A's compiled block admitted twice, with period 2 and phases 0 and 1: in a
-- scan of the one the other gets no output, the reads left set allowed values however the unread input and the other block's word stand, and outputs
-- that are kept are judged by the word of their own scan.
-- Assumes nothing.
use mathlib.Core.Path.{◌≡◌, refl, sym}
use mathlib.Core.Logic.{◌⊎◌}
use mathlib.Core.List.{List, [], ◌∷◌, ◌++◌}
use Prim.Native.Nat.{ℕ, ◌<◌}
use native.Mathlib.Omega.{arith}
use lib.ListN.{replicate}
use Rattle.laws.specs.Bits.{bit}
use Rattle.sheet_spec.specs.Opened.{sheet_opened}
use Rattle.sheet_spec.specs.Example.{T, job_t}
use Rattle.cutting_spec.specs.Opened.{cutting_opened}
use Rattle.cutting_spec.specs.Example.{records_a, row_bytes_a}
use Rattle.bank_spec.specs.Opened.{bank_opened}
use Rattle.bank_spec.specs.State.{fresh}
use Rattle.bank_spec.specs.Calls.{handed, outputs_of}
use Rattle.bank_spec.specs.CallLists.{Call, admission, latching, stepping, state_after}
use Rattle.bank_spec.specs.Demand3.{SetAllowed, output_in, OnlyUnread, blocks, reads, ScanClaim}
use Rattle.bank_spec.proofs.Promises.{demand3}
use Rattle.claims.proofs.CaseA.{A-compiled}

abbrev in_turn : List Call
in_turn = admission (handed records_a row_bytes_a 2 0) ∷ admission (handed records_a row_bytes_a 2 1) ∷ []

abbrev memory : List ℕ
memory = replicate 64 9

-- the scan of the first block, with one of its two cells read: x1x2x3x4 = 0110 is latched for it
pub A-turn : ScanClaim 2 memory in_turn (6 ∷ 6 ∷ []) (stepping ∷ [])
unfolding sheet_opened cutting_opened bank_opened
A-turn = (demand3 2 refl memory (in_turn ++ (latching (6 ∷ 6 ∷ []) ∷ stepping ∷ []))).scan in_turn (6 ∷ 6 ∷ []) (stepping ∷ []) refl refl

-- the second block isn't due
pub A-other-kept : outputs_of (state_after (fresh 2 memory) (in_turn ++ (latching (6 ∷ 6 ∷ []) ∷ stepping ∷ []))).scan 1
    ≡ outputs_of (state_after (fresh 2 memory) in_turn).scan 1
unfolding sheet_opened cutting_opened bank_opened
A-other-kept = A-turn.not_due 1 (omega arith) refl

-- any word v with x1, x2 and x3 as they were read, and any word u for the second block
module _ (v u : ℕ) (x1 : bit v 0 ≡ 0) (x2 : bit v 1 ≡ 1) (x3 : bit v 2 ≡ 1) where
  only_x4 : OnlyUnread (blocks 2 memory in_turn (6 ∷ 6 ∷ []) (stepping ∷ [])) (6 ∷ 6 ∷ []) (v ∷ u ∷ []) (reads 2 memory in_turn (6 ∷ 6 ∷ []) (stepping ∷ []))
  unfolding sheet_opened cutting_opened bank_opened
  only_x4 = ((sym x1, (sym x2, (sym x3, tt))), tt)

  pub A-turn-left : (o : ℕ) → o < 2
      → SetAllowed T v o (output_in (state_after (state_after (fresh 2 memory) (in_turn ++ (latching (v ∷ u ∷ []) ∷ stepping ∷ []))) (stepping ∷ [])) 0 o)
  unfolding sheet_opened cutting_opened bank_opened
  A-turn-left o l = (A-turn.left_in_latch (v ∷ u ∷ []) only_x4).allowed 0 (omega arith) refl (job_t 3 2) T (A-compiled _ _ _ _ _) o l

-- in the scan after it, of the second block, the first still has its outputs, and they are allowed for 0110, not for the words latched now
abbrev later : List Call
later = in_turn ++ (latching (6 ∷ 6 ∷ []) ∷ stepping ∷ stepping ∷ latching (0 ∷ 0 ∷ []) ∷ stepping ∷ [])

pub A-kept-allowed : (o : ℕ) → o < 2
    → (output_in (state_after (fresh 2 memory) later) 0 o ≡ 2) ⊎ SetAllowed T 6 o (output_in (state_after (fresh 2 memory) later) 0 o)
unfolding sheet_opened cutting_opened bank_opened
A-kept-allowed o l = (demand3 2 refl memory later).allowed 0 (job_t 3 2) T (omega arith) (A-compiled _ _ _ _ _) o l

pub A-kept-set : (output_in (state_after (fresh 2 memory) later) 0 0 ≡ 1) × (output_in (state_after (fresh 2 memory) later) 0 1 ≡ 0)
unfolding sheet_opened cutting_opened bank_opened
A-kept-set = (refl, refl)
