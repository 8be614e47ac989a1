-- Demand 3 of document 01, whole: a bank just made with a scan limit from 1 to 255, lent any row memory, takes any list of calls, and
-- wherever the list breaks off, `Demand3` (specs/Demand3.antt) holds of it:
-- - `as_book`: every answer and the outputs set so far are those of the book, which is fed S, the length of the row memory and the calls;
-- - `allowed`, `rails`: an output set in a compiled block has a value that its sheet allows for the latched inputs, and each cut has the
--   fewest rails that tell its merged columns apart;
-- - `idle_keeps`: a step answered Idle changes nothing;
-- - `set_outputs`: the set outputs of every block are exactly those of the cells read in its last due scan since the last admission;
-- - `scan`: while a scan runs it has made the lesser of its steps and the cells of the due blocks, at most S, reads; and with inputs that no
--   cell read so far uses replaced, in the latch or in the scan state, the answers and outputs so far are the same, and the reads left
--   reach Idle with every output of a compiled block that is due set to a value allowed for the replaced inputs. A block that isn't due has the
--   outputs that it had before;
-- - `eight`: where scans are stepped to their end and nothing is admitted, every block is read whole exactly 8 divided by its period times in any
--   eight latches in a row.
-- The proof goes by the relation of Related.antt between a bank's state and a book: each call keeps it (AdmitSame, LatchSame, StepSame), so
-- what holds of the book (BookHolds, BookScans, BookUnread) holds of the bank.
-- Assumes nothing.
use mathlib.Core.Path.{◌≡◌, sym, ◌∙◌, ap, subst}
use mathlib.Core.Logic.{◌⊎◌}
use mathlib.Core.Bool.{true}
use mathlib.Core.List.{List, []}
use Prim.Native.Nat.{ℕ}
use lib.Dec.{ltb}
use lib.ListN.{length, get_or}
use Rattle.laws.specs.Tests.{within}
use Rattle.bank_spec.specs.State.{fresh}
use Rattle.bank_spec.specs.Book.{Book, new_book, block_at}
use Rattle.bank_spec.specs.CallLists.{Call, state_after, book_after}
use Rattle.bank_spec.specs.Scanned.{last_cells}
use Rattle.bank_spec.specs.Demand3.{Demand3, SetAllowed}
use Rattle.bank_spec.proofs.Related.{Related}
use Rattle.bank_spec.proofs.AsBook.{as_book_lem, after_related, fresh_related, idle-keeps}
use Rattle.bank_spec.proofs.BookHolds.{book_sound, book-allowed}
use Rattle.bank_spec.proofs.LastCells.{last_cells_lem, told-sets}
use Rattle.bank_spec.proofs.EightLatches.{due_times, eight-due, whole-reads}
use Rattle.bank_spec.proofs.FewestRails.{compiled-rails}
use Rattle.bank_spec.proofs.ScanClaims.{scan_claim}

pub demand3 : (S : ℕ) → within 1 255 S ≡ true → (mem : List ℕ) (calls : List Call) → Demand3 S mem calls
demand3 S range mem calls =
    let k : Book = book_after S (length mem) new_book calls in
    let h : Related S (length mem) (state_after (fresh S mem) calls) k =
    after_related S (length mem) calls (fresh S mem) new_book (fresh_related S range mem) in
    record {
      as_book = as_book_lem S range mem calls;
      allowed =
          λ b j sheet l c o p.
          subst (λ (os : List ℕ). (get_or os o 2 ≡ 2) ⊎ SetAllowed sheet (block_at k.blocks b).word o (get_or os o 2)) (sym (h.blocks b l).outputs)
          (book-allowed S (length mem) calls b j sheet l c o p);
      rails = λ b j sheet l c i p cut. compiled-rails j sheet (block_at k.blocks b) c i p cut;
      idle_keeps = idle-keeps (state_after (fresh S mem) calls);
      set_outputs =
          λ b l o p.
          ap (λ (os : List ℕ). ltb (get_or os o 2) 2) (h.blocks b l).outputs
          ∙ told-sets k b (last_cells S (length mem) new_book b [] calls) (last_cells_lem S (length mem) b calls) l o p;
      scan = λ before ws since e goes. scan_claim S range mem before ws since goes;
      eight =
          λ before rounds e eight t b l.
          let k : Book = book_after S (length mem) new_book before in
          let held = book_sound S (length mem) before in
          whole-reads S (length mem) (state_after (fresh S mem) before) k
          (after_related S (length mem) before (fresh S mem) new_book (fresh_related S range mem)) rounds t b l
          ∙ ap (due_times (block_at k.blocks b).period (block_at k.blocks b).phase k.next) eight
          ∙ eight-due (block_at k.blocks b).period (block_at k.blocks b).phase (held.timing b l) k.next held.next;
    }
