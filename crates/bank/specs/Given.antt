-- What the bank's functions give back, as an answer and a state: structures by value, the row memory as a lent slice.
-- Assumes nothing.
use Rattle.std.specs.Prelude.{ℕ, Result, Ok, Err, cond, List}
use Rattle.refusals.specs.declared.Refusal.{Refusal}
use Rattle.refusals.specs.Numbers.{number}
use Rattle.bank_spec.specs.State.{State, empty_bank, at_rest, limit_refused, state_of}
use Rattle.bank_spec.specs.declared.Bank.{Bank}
use Rattle.bank_spec.specs.declared.Scan.{Scan}
use Rattle.bank_spec.specs.Calls.{After, numbered, answer_of}
use Rattle.bank_spec.specs.declared.StepAnswer.{StepAnswer}

-- admission and latch answer a number, 0 where they accept
abbrev pub given_number : ℕ → Bank → Scan → List ℕ → After State
given_number n k s rows = record { answer = numbered n; state = state_of k s rows }

-- what admission gives, handed the bank k and the scan state s: refused, both are as they were
abbrev pub admission_given : Result (Bank × Scan) Refusal → Bank → Scan → List ℕ → After State
admission_given (Ok after) k s rows = given_number 0 after.0 after.1 rows
admission_given (Err r) k s rows = given_number (number r) k s rows

-- likewise a latch, which leaves the bank as it was
abbrev pub latch_given : Result Scan Refusal → Bank → Scan → List ℕ → After State
latch_given (Ok after) k s rows = given_number 0 k after rows
latch_given (Err r) k s rows = given_number (number r) k s rows

abbrev pub given_answer : StepAnswer → Bank → Scan → List ℕ → After State
given_answer a k s rows = record { answer = answer_of a; state = state_of k s rows }

-- a new bank and its fresh scan state, and the refusal, 0 where there is none
pub record Started : Type 0 where
  pub refusal : ℕ
  pub bank : Bank
  pub scan : Scan

-- a bank made with S, and its fresh scan state; 1 where S is out of range, and then a bank whose S is 0
unfoldable pub started : ℕ → Started
started S =
    cond (limit_refused S) (record { refusal = 1; bank = empty_bank 0; scan = at_rest }) (record { refusal = 0; bank = empty_bank S; scan = at_rest })

abbrev pub started_given : Result (Bank × Scan) Refusal → Started
started_given (Ok made) = record { refusal = 0; bank = made.0; scan = made.1 }
started_given (Err r) = record { refusal = number r; bank = empty_bank 0; scan = at_rest }
