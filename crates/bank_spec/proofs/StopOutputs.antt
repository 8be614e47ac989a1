-- What a stop record is for (document 02, §3): for every list of calls, an output of a compiled block is unset, or it is as a stop record forces it that matches the latched word,
-- whatever the other records of the sheet say.
-- Assumes nothing.
use mathlib.Core.Path.{◌≡◌}
use mathlib.Core.Logic.{◌⊎◌, inl, inr}
use mathlib.Core.Bool.{true}
use mathlib.Core.List.{List}
use Prim.Native.Nat.{ℕ, ◌<◌}
use native.Mathlib.Omega.{arith}
use lib.ListN.{length}
use Rattle.laws.specs.Tests.{within}
use Rattle.laws.proofs.Cases.{either}
use Rattle.sheet_spec.specs.Job.{Job}
use Rattle.sheet_spec.specs.Records.{record_count, kind, stop, matches, forces0, forces1}
use Rattle.sheet_spec.specs.Values.{value}
use Rattle.sheet_spec.proofs.Promises.{stop_decides, forced_only}
use Rattle.bank_spec.specs.State.{fresh}
use Rattle.bank_spec.specs.Book.{Block, new_book, block_at}
use Rattle.bank_spec.specs.CallLists.{Call, state_after, book_after}
use Rattle.bank_spec.specs.Demand3.{CompiledBy, output_in}
use Rattle.bank_spec.proofs.CompiledBlocks.{compiled-sheet}
use Rattle.bank_spec.proofs.Demand3.{demand3}

module _ (S : ℕ) (range : within 1 255 S ≡ true) (mem : List ℕ) (calls : List Call) (b : ℕ) (j : Job) (sheet : List ℕ) where
  abbrev block : Block
  block = block_at (book_after S (length mem) new_book calls).blocks b

  abbrev output : ℕ → ℕ
  output o = output_in (state_after (fresh S mem) calls) b o

  module _ (held : b < length (book_after S (length mem) new_book calls).blocks) (compiled : CompiledBy j sheet block) (o : ℕ) (o< : o < j.m) (r : ℕ)
      (r< : r < record_count sheet) (stops : kind sheet r ≡ stop) (hit : matches sheet r block.word ≡ true) where
    forced : (c : ℕ) → c < 2 → value sheet block.word o ≡ c → (output o ≡ 2) ⊎ (output o ≡ c)
    forced c low e =
        either ((demand3 S range mem calls).allowed b j sheet held compiled o o<) (λ unset. inl unset)
        (λ set. inr (forced_only (value sheet block.word o) (output o) c low e set.allowed))

    pub stopped_0 : forces0 sheet r o ≡ true → (output o ≡ 2) ⊎ (output o ≡ 0)
    stopped_0 f = forced 0 (omega arith) ((stop_decides j sheet (compiled-sheet j sheet block compiled) block.word o o< r r< hit stops).0 f)

    pub stopped_1 : forces1 sheet r o ≡ true → (output o ≡ 2) ⊎ (output o ≡ 1)
    stopped_1 f = forced 1 (omega arith) ((stop_decides j sheet (compiled-sheet j sheet block compiled) block.word o o< r r< hit stops).1 f)
