-- Laws of a call's answer: its number, and the bytes lent after it.
-- Assumes nothing.
use mathlib.Core.Path.{◌≡◌, refl, sym, ◌∙◌, ap, ap₂}
use mathlib.Core.Bool.{Bool, true, false, not, ◌&&◌, and-false}
use mathlib.Core.List.{List, []}
use Prim.Native.Nat.{ℕ, ◌<◌}
use borrow.Author.Tests.{eq-eqb, ne_eqb, lt-leb}
use lib.Dec.{eqb, leb}
use lib.ListN.{get_or}
use Rattle.laws.specs.Lists.{puts}
use Rattle.laws.proofs.Cases.{by_test, by_equal, cond_yes, cond_no}
use Rattle.bank_spec.specs.declared.Bank.{Bank}
use Rattle.bank_spec.specs.declared.Scan.{Scan}
use Rattle.bank_spec.specs.declared.StepAnswer.{StepAnswer}
use Rattle.bank_spec.specs.declared.StepAnswer.TheVariants.{Went, Idle, Refused}
use Rattle.bank_spec.specs.State.{State, empty_bank, at_rest, limit_refused, state_of}
use Rattle.bank_spec.specs.Calls.{accepted, refused, answer_of, numbered, After}
use Rattle.bank.specs.Given.{Started, given_number, given_answer, started}
use Rattle.panel_calls.specs.StateBytes.{called, bank_in, scan_in, state_in, bank_bytes, scan_bytes, changes, number_of, step_numbers, bank_lent, scan_lent, made}

abbrev put_bank : Bank → List ℕ → List ℕ
put_bank k old = puts 667 (λ i. get_or (bank_bytes k) i 0) old

abbrev put_scan : Scan → List ℕ → List ℕ
put_scan s old = puts 86 (λ i. get_or (scan_bytes s) i 0) old

-- what is called, by its parts
pub same-call : {A : Type 0} {a a' : A} {k k' s s' r r' : List ℕ} → a ≡ a' → k ≡ k' → s ≡ s' → r ≡ r' → called a k s r ≡ called a' k' s' r'
same-call p q u v = rw (p, q, u, v) refl

-- an answer that is a number
number_is : (n : ℕ) → n ≡ number_of (numbered n)
unfolding numbered number_of
number_is n =
    by_equal n 0 (λ e. e ∙ sym (ap number_of (cond_yes (eqb n 0) accepted (refused n) (eq-eqb n 0 e))))
    (λ e. sym (ap number_of (cond_no (eqb n 0) accepted (refused n) (ne_eqb n 0 e))))

zero-changes : (n : ℕ) → n ≡ 0 → changes (numbered n) ≡ true
unfolding numbered changes
zero-changes n e = ap changes (cond_yes (eqb n 0) accepted (refused n) (eq-eqb n 0 e))

other-changes : (n : ℕ) → (n ≡ 0 → ⊥) → changes (numbered n) ≡ false
unfolding numbered changes
other-changes n e = ap changes (cond_no (eqb n 0) accepted (refused n) (ne_eqb n 0 e))

-- what changes is stored over the bytes lent, else they are as they were
module _ (x r : After State) (e : x ≡ r) (old : List ℕ) where
  bank_changed : changes x.answer ≡ true → put_bank x.state.bank old ≡ bank_lent r old
  unfolding bank_lent
  bank_changed c = sym (cond_yes (changes x.answer) (put_bank x.state.bank old) old c) ∙ ap (λ (y : After State). bank_lent y old) e

  bank-kept : changes x.answer ≡ false → old ≡ bank_lent r old
  unfolding bank_lent
  bank-kept c = sym (cond_no (changes x.answer) (put_bank x.state.bank old) old c) ∙ ap (λ (y : After State). bank_lent y old) e

  scan_changed : changes x.answer ≡ true → put_scan x.state.scan old ≡ scan_lent r old
  unfolding scan_lent
  scan_changed c = sym (cond_yes (changes x.answer) (put_scan x.state.scan old) old c) ∙ ap (λ (y : After State). scan_lent y old) e

  scan-kept : changes x.answer ≡ false → old ≡ scan_lent r old
  unfolding scan_lent
  scan-kept c = sym (cond_no (changes x.answer) (put_scan x.state.scan old) old c) ∙ ap (λ (y : After State). scan_lent y old) e

-- of a call that answers a number
module _ (n : ℕ) (k : Bank) (s : Scan) (rows : List ℕ) (r : After State) (e : given_number n k s rows ≡ r) where
  pub number_given : n ≡ number_of r.answer
  number_given = number_is n ∙ ap (λ (y : After State). number_of y.answer) e

  pub bank-accepted : (old : List ℕ) → n ≡ 0 → put_bank k old ≡ bank_lent r old
  bank-accepted old z = bank_changed (given_number n k s rows) r e old (zero-changes n z)

  pub bank-refused : (old : List ℕ) → (n ≡ 0 → ⊥) → old ≡ bank_lent r old
  bank-refused old z = bank-kept (given_number n k s rows) r e old (other-changes n z)

  pub scan-accepted : (old : List ℕ) → n ≡ 0 → put_scan s old ≡ scan_lent r old
  scan-accepted old z = scan_changed (given_number n k s rows) r e old (zero-changes n z)

  pub scan-refused : (old : List ℕ) → (n ≡ 0 → ⊥) → old ≡ scan_lent r old
  scan-refused old z = scan-kept (given_number n k s rows) r e old (other-changes n z)

-- of a step
unread : (a : StepAnswer) → ((b c : ℕ) → a ≡ Went b c → ⊥) → changes (answer_of a) ≡ false
unfolding answer_of changes
unread (Went b c) n = absurd (n b c refl)
unread Idle n = refl
unread (Refused r) n = refl

module _ (a : StepAnswer) (k : Bank) (s : Scan) (rows : List ℕ) (r : After State) (e : given_answer a k s rows ≡ r) where
  pub numbers_given : step_numbers (answer_of a) ≡ step_numbers r.answer
  numbers_given = ap (λ (y : After State). step_numbers y.answer) e

  pub scan-went : {b c : ℕ} (old : List ℕ) → a ≡ Went b c → put_scan s old ≡ scan_lent r old
  unfolding answer_of changes
  scan-went old p = scan_changed (given_answer a k s rows) r e old (ap (λ (y : StepAnswer). changes (answer_of y)) p)

  pub scan-unread : (old : List ℕ) → ((b c : ℕ) → a ≡ Went b c → ⊥) → old ≡ scan_lent r old
  scan-unread old n = scan-kept (given_answer a k s rows) r e old (unread a n)

-- a call on the state that bytes are
pub called_in : (F : State → After State) (bank scan rows : List ℕ) (k : Bank) (s : Scan) {x : After State} → x ≡ F (state_of k s rows)
    → k ≡ bank_in bank → s ≡ scan_in scan → x ≡ F (state_in bank scan rows)
called_in F bank scan rows k s e p q = e ∙ ap₂ (λ (a : Bank) (b : Scan). F (state_of a b rows)) p q

-- a bank that is made
made-refused : (S : ℕ) → limit_refused S ≡ true → given_number 1 (empty_bank 0) at_rest [] ≡ made S
unfolding made numbered
made-refused S e = sym (cond_yes (limit_refused S) _ _ e)

made-accepted : (S : ℕ) → limit_refused S ≡ false → given_number 0 (empty_bank S) at_rest [] ≡ made S
unfolding made numbered
made-accepted S e = sym (cond_no (limit_refused S) _ _ e)

abbrev given_started : Started → After State
given_started x = given_number x.refusal x.bank x.scan []

pub made-started : (S : ℕ) {x : Started} → x ≡ started S → given_started x ≡ made S
unfolding started
made-started S p =
    by_test (limit_refused S) (λ e. ap given_started (p ∙ cond_yes (limit_refused S) _ _ e) ∙ made-refused S e)
    (λ e. ap given_started (p ∙ cond_no (limit_refused S) _ _ e) ∙ made-accepted S e)

pub made_over : (S : ℕ) → 255 < S → given_number 1 (empty_bank 0) at_rest [] ≡ made S
unfolding limit_refused
made_over S h = made-refused S (ap not (ap (λ (b : Bool). leb 1 S && b) (lt-leb S 255 h) ∙ and-false (leb 1 S)))
