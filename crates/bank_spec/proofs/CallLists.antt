-- Lists of calls one after the other, and steps alone.
-- Assumes nothing.
use mathlib.Core.Path.{◌≡◌, refl, ◌∙◌, ap}
use mathlib.Core.List.{List, [], ◌∷◌, ◌++◌}
use Prim.Native.Nat.{ℕ, zero, suc}
use lib.ListN.{replicate}
use Rattle.bank_spec.specs.State.{State}
use Rattle.bank_spec.specs.Book.{Book, book_step}
use Rattle.bank_spec.specs.CallLists.{Call, stepping, call, book_call, state_after, book_after, Entry, outputs_held, trace}
use Rattle.bank_spec.proofs.Scans.{stepped, stepped_front}

pub after-append : (cs ds : List Call) (s : State) → state_after s (cs ++ ds) ≡ state_after (state_after s cs) ds
unfolding state_after
after-append [] ds s = refl
after-append (c ∷ cs) ds s = after-append cs ds (call s c).state

pub trace-append : (cs ds : List Call) (s : State) → trace s (cs ++ ds) ≡ trace s cs ++ trace (state_after s cs) ds
unfolding trace state_after
trace-append [] ds s = refl
trace-append (c ∷ cs) ds s =
    ap (λ (es : List Entry). record { answer = (call s c).answer; outputs = outputs_held (call s c).state } ∷ es)
    (trace-append cs ds (call s c).state)

pub steps_after : (S m n : ℕ) (k : Book) → book_after S m k (replicate n stepping) ≡ stepped n k
unfolding book_after book_call stepped
steps_after S m zero k = refl
steps_after S m (suc n) k = steps_after S m n (book_step k).state ∙ stepped_front n k
