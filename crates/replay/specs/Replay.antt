-- A replayed list of calls: the refusal, and what is lent after.
-- Assumes nothing.
use Rattle.std.specs.Prelude.{ℕ, ◌*◌, cond, not, List, ltb, length}
use Rattle.laws.specs.Lists.{written}
use Rattle.refusals.specs.Numbers.{number}
use Rattle.bank_spec.specs.State.{fresh}
use Rattle.bank_spec.specs.Calls.{Answer, accepted, refused, idle, went}
use Rattle.replay.specs.Coded.{calls_in, readable}
use Rattle.replay.specs.Entries.{no_bank, book_entries, bank_after, trace_bytes}
use Rattle.replay.specs.declared.calling.CallAnswer.{CallAnswer}
use Rattle.replay.specs.declared.calling.CallAnswer.TheVariants.{Accepted, Refused, Idle, Went}

pub record Replayed : Type 0 where
  pub refusal : ℕ
  pub rows : List ℕ
  pub trace : List ℕ

-- list are the bytes of the calls, rows the row memory and trace the memory for the trace.
-- 12: the list can't be read. 11: the trace needs 68 bytes a call. Then nothing changes. Else the trace is the book's, the memory past it is
-- kept, and the row memory is what the calls leave
unfoldable pub replay : List ℕ → List ℕ → List ℕ → Replayed
replay list rows trace =
    cond (not (readable list)) (record { refusal = 12; rows = rows; trace = trace })
    (cond (ltb (length trace) (68 * length (calls_in list))) (record { refusal = 11; rows = rows; trace = trace })
    (record {
      refusal = 0;
      rows = (bank_after (fresh 0 rows) (calls_in list)).rows;
      trace = written trace 0 (trace_bytes (book_entries (length rows) no_bank (calls_in list)));
    }))

-- the answer that a call's enum is
abbrev pub call_answer : CallAnswer → Answer
call_answer Accepted = accepted
call_answer (Refused r) = refused (number r)
call_answer Idle = idle
call_answer (Went b c) = went b c
