-- The bank answers every list of calls, and sets outputs, exactly as the book does; a step answered Idle changes nothing.
-- Assumes nothing.
use mathlib.Core.Path.{◌≡◌, refl, ap, ap₂}
use mathlib.Core.Bool.{Bool, true, false, cond, not, false≢true}
use mathlib.Core.List.{List, [], ◌∷◌}
use Prim.Native.Nat.{ℕ}
use native.Mathlib.Nat.{not-suc-le-zero}
use native.Mathlib.Omega.{arith}
use lib.Dec.{ltb}
use lib.ListN.{length}
use Rattle.laws.specs.Tests.{within}
use Rattle.stored_spec.specs.RowBytes.{two_bytes, room}
use Rattle.bank_spec.specs.Due.{number_after}
use Rattle.stored_spec.proofs.Promises.{room_two}
use Rattle.bank_spec.specs.State.{State, formed, rows_held, fresh}
use Rattle.bank_spec.specs.Calls.{Answer, accepted, refused, idle, went, After, moved, next_row, step}
use Rattle.bank_spec.specs.Book.{Book, new_book}
use Rattle.bank_spec.specs.CallLists.{Call, admission, latching, stepping, call, book_call, state_after, book_after, Entry, trace, book_trace}
use Rattle.bank_spec.proofs.Related.{Related, Match, same-outputs}
use Rattle.bank_spec.proofs.AdmitAsBook.{admit-same}
use Rattle.bank_spec.proofs.LatchAsBook.{latch-same}
use Rattle.bank_spec.proofs.StepAsBook.{step_same}

module _ (S m : ℕ) where
  pub call_same : (s : State) (k : Book) → Related S m s k → (c : Call) → Match S m (call s c) (book_call S m k c)
  unfolding call book_call
  call_same s k h (admission c) = admit-same S m s k h c
  call_same s k h (latching ws) = latch-same S m s k h ws
  call_same s k h stepping = step_same S m s k h

  pub trace-same : (cs : List Call) (s : State) (k : Book) → Related S m s k → trace s cs ≡ book_trace S m k cs
  unfolding trace book_trace
  trace-same [] s k h = refl
  trace-same (c ∷ cs) s k h =
      let r = call_same s k h c in
      ap₂ (λ (e : Entry) (es : List Entry). e ∷ es)
      (ap₂ (λ (a : Answer) (o : List (List ℕ)). record { answer = a; outputs = o }) r.answers
      (same-outputs S m (call s c).state (book_call S m k c).state r.related))
      (trace-same cs (call s c).state (book_call S m k c).state r.related)

  -- what a list of calls leaves is related
  pub after_related : (cs : List Call) (s : State) (k : Book) → Related S m s k → Related S m (state_after s cs) (book_after S m k cs)
  unfolding state_after book_after
  after_related [] s k h = h
  after_related (c ∷ cs) s k h = after_related cs (call s c).state (book_call S m k c).state (call_same s k h c).related

pub fresh_related : (S : ℕ) → within 1 255 S ≡ true → (mem : List ℕ) → Related S (length mem) (fresh S mem) new_book
unfolding number_after
fresh_related S e mem =
    record {
      limit = refl;
      range = e;
      few = omega arith;
      count = refl;
      lengths = refl;
      records = refl;
      periods = refl;
      phases = refl;
      outputs = refl;
      rows = refl;
      number = omega arith;
      next = refl;
      cells = λ n l. omega arith;
      most = omega arith;
      fits = omega (arith, room_two 0);
      blocks = λ b l. absurd (not-suc-le-zero l);
      rests = λ p. refl;
      runs = λ p. absurd (false≢true p);
    }

pub as_book_lem : (S : ℕ) → within 1 255 S ≡ true → (mem : List ℕ) (calls : List Call)
    → trace (fresh S mem) calls ≡ book_trace S (length mem) new_book calls
as_book_lem S e mem calls = trace-same S (length mem) calls (fresh S mem) new_book (fresh_related S e mem)

is_idle : Answer → Bool
is_idle accepted = false
is_idle (refused n) = false
is_idle idle = true
is_idle (went b c) = false

pub idle-keeps : (s : State) → (step s).answer ≡ idle → (step s).state ≡ s
unfolding step is_idle
idle-keeps s = by (not (formed s.bank s.scan)) (not s.scan.running) (ltb (length s.rows) (room two_bytes (rows_held s.bank)))
  where
    stay : Answer → After State
    stay a = record { answer = a; state = s }

    on : After State
    on =
        record {
          answer = went s.scan.block s.scan.cell;
          state = record { bank = s.bank; scan = moved s.bank s.scan (next_row s.bank s.scan s.rows); rows = s.rows };
        }

    by : (a b c : Bool) → (cond a (stay (refused 12)) (cond b (stay idle) (cond c (stay (refused 11)) on))).answer ≡ idle
        → (cond a (stay (refused 12)) (cond b (stay idle) (cond c (stay (refused 11)) on))).state ≡ s
    by true b c e = refl
    by false true c e = refl
    by false false true e = refl
    by false false false e = absurd (false≢true (ap is_idle e))
