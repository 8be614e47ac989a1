-- One call of a list, made on a bank: what its answer shows, and which call the bytes at the front are.
-- Assumes nothing.
use mathlib.Core.Path.{◌≡◌, refl, sym, ◌∙◌, ap}
use mathlib.Core.List.{List}
use Rattle.std.specs.Prelude.{Result, Ok, Err}
use Prim.Native.Nat.{ℕ, ◌+◌, ◌*◌, ◌-◌, ◌<◌, ◌≤◌}
use native.Mathlib.Omega.{arith}
use borrow.Author.Tests.{leb-true, ne_eqb}
use lib.Dec.{leb}
use lib.ListN.{length, get_or, take, drop}
use Rattle.laws.specs.Lists.{tab}
use Rattle.laws.proofs.Cases.{by_test, cond_yes, cond_no}
use Rattle.bank_spec.specs.declared.Bank.{Bank}
use Rattle.bank_spec.specs.declared.Scan.{Scan}
use Rattle.refusals.specs.declared.Refusal.{Refusal}
use Rattle.refusals.specs.Numbers.{number, answered}
use Rattle.refusals.proofs.Promises.{never-zero}
use Rattle.bank_spec.specs.State.{State, limit_refused, state_of}
use Rattle.bank_spec.specs.Calls.{Answer, accepted, refused, After, numbered, handed, admit, latch, step}
use Rattle.bank.specs.Given.{Started, given_number, admission_given, started, started_given}
use Rattle.bank_spec.specs.CallLists.{call, admission, latching, stepping}
use Rattle.replay.specs.Coded.{making, calling, pair, triple, said_size, size, block_from, first}
use Rattle.replay.specs.Entries.{on_bank}

-- a refusal's number is never that of an acceptance
pub refused_number : (r : Refusal) → refused (number r) ≡ numbered (number r)
unfolding numbered
refused_number r = rw (ne_eqb (number r) 0 (never-zero r)) refl

-- an outcome's answer
pub answer_accepted : {A : Type 0} {d : Result A Refusal} {x : A} → d ≡ Ok x → accepted ≡ numbered (answered d)
unfolding numbered
answer_accepted {A} e = ap (λ (y : Result A Refusal). numbered (answered y)) (sym e)

pub answer-refused : {A : Type 0} {d : Result A Refusal} (r : Refusal) → d ≡ Err r → refused (number r) ≡ numbered (answered d)
answer-refused {A} r e = refused_number r ∙ ap (λ (y : Result A Refusal). numbered (answered y)) (sym e)

pub same_answer : (k : Bank) (s : Scan) (rows : List ℕ) {a b : Answer} → a ≡ b
    → ◌≡◌ {A = After State} (record { answer = a; state = state_of k s rows }) (record { answer = b; state = state_of k s rows })
same_answer k s rows e = ap (λ (a : Answer). record { answer = a; state = state_of k s rows }) e

-- a bank made, or refused
module _ (k : Bank) (s : Scan) (S : ℕ) (rows : List ℕ) where
  pub made_given : (x : Result (Bank × Scan) Refusal) → started_given x ≡ started S → admission_given x k s rows ≡ on_bank (state_of k s rows) (making S)
  unfolding started on_bank numbered
  made_given (Ok made) e =
      by_test (limit_refused S)
      (λ t. absurd (omega (arith, ap (λ (m : Started). m.refusal) (e ∙ cond_yes (limit_refused S) _ _ t))))
      (λ t.
      ap (λ (m : Started). given_number 0 m.bank m.scan rows) (e ∙ cond_no (limit_refused S) _ _ t)
      ∙ sym (cond_no (limit_refused S) _ _ t))
  made_given (Err r) e =
      by_test (limit_refused S)
      (λ t.
      ap (λ (n : ℕ). given_number n k s rows) (ap (λ (m : Started). m.refusal) (e ∙ cond_yes (limit_refused S) _ _ t))
      ∙ sym (cond_yes (limit_refused S) _ _ t))
      (λ t. absurd (never-zero r (ap (λ (m : Started). m.refusal) (e ∙ cond_no (limit_refused S) _ _ t))))

-- the block of an admission, as cut out of its bytes from place i on
pub cut_out : (k : Bank) (s : Scan) (rows l : List ℕ) (i period phase a b : ℕ) {x : After State} → a ≡ pair l 1 → b ≡ triple l 3
    → x ≡ admit (state_of k s rows) (handed (take (i + a - i) (drop i l)) (take (i + a + b - (i + a)) (drop (i + a) l)) period phase)
    → x ≡ admit (state_of k s rows) (block_from i l period phase)
cut_out k s rows l i period phase a b p q d =
    let u : i + a - i ≡ pair l 1 = omega (arith, p) in
    let v : i + a + b - (i + a) ≡ triple l 3 = omega (arith, q) in
    rw (u, v, p) at d

-- the call at the front, by its first byte
module _ (l : List ℕ) where
  first_make : get_or l 0 0 ≡ 0 → first l ≡ making (pair l 1)
  unfolding first
  first_make e = rw e

  first_older : get_or l 0 0 ≡ 1 → first l ≡ calling (admission (block_from 6 l 1 0))
  unfolding first
  first_older e = rw e

  first-admit : get_or l 0 0 ≡ 4 → first l ≡ calling (admission (block_from 8 l (get_or l 6 0) (get_or l 7 0)))
  unfolding first
  first-admit e = rw e

  first-latch : get_or l 0 0 ≡ 2 → first l ≡ calling (latching (tab 8 (λ b. pair l (1 + 2 * b))))
  unfolding first
  first-latch e = rw e

  first_step : (get_or l 0 0 ≡ 0 → ⊥) → (get_or l 0 0 ≡ 1 → ⊥) → (get_or l 0 0 ≡ 2 → ⊥) → (get_or l 0 0 ≡ 4 → ⊥) → first l ≡ calling stepping
  unfolding first
  first_step p q r s = rw (ne_eqb (get_or l 0 0) 0 p, ne_eqb (get_or l 0 0) 1 q, ne_eqb (get_or l 0 0) 2 r, ne_eqb (get_or l 0 0) 4 s)

  said_older : get_or l 0 0 ≡ 1 → said_size l ≡ 6 + pair l 1 + triple l 3
  unfolding said_size
  said_older e = rw e

  said-admit : get_or l 0 0 ≡ 4 → said_size l ≡ 8 + pair l 1 + triple l 3
  unfolding said_size
  said-admit e = rw e

  -- an admission's bytes are there
  there : 0 < size l → said_size l ≤ length l
  unfolding size
  there h =
      by_test (leb (said_size l) (length l)) (leb-true (said_size l) (length l))
      (λ t. absurd (omega (arith, h, cond_no (leb (said_size l) (length l)) (said_size l) 0 t)))

  pub older_there : 0 < size l → get_or l 0 0 ≡ 1 → 6 + pair l 1 + triple l 3 ≤ length l
  older_there h e = omega (arith, said_older e, there h)

  pub admission_there : 0 < size l → get_or l 0 0 ≡ 4 → 8 + pair l 1 + triple l 3 ≤ length l
  admission_there h e = omega (arith, said-admit e, there h)

-- what it gives on a bank
module _ (k : Bank) (s : Scan) (rows l : List ℕ) {x : After State} where
  pub made-first : {S : ℕ} → get_or l 0 0 ≡ 0 → S ≡ pair l 1 → x ≡ on_bank (state_of k s rows) (making S)
      → x ≡ on_bank (state_of k s rows) (first l)
  made-first e p d = rw (first_make l e, sym p) d

  pub older_first : get_or l 0 0 ≡ 1 → x ≡ admit (state_of k s rows) (block_from 6 l 1 0) → x ≡ on_bank (state_of k s rows) (first l)
  unfolding on_bank call
  older_first e d = rw (first_older l e) d

  pub admitted-first : {p f : ℕ} → get_or l 0 0 ≡ 4 → p ≡ get_or l 6 0 → f ≡ get_or l 7 0 → x ≡ admit (state_of k s rows) (block_from 8 l p f)
      → x ≡ on_bank (state_of k s rows) (first l)
  unfolding on_bank call
  admitted-first e p f d = rw (first-admit l e, sym p, sym f) d

  pub latched-first : get_or l 0 0 ≡ 2 → x ≡ latch (state_of k s rows) (tab 8 (λ b. pair l (1 + 2 * b)))
      → x ≡ on_bank (state_of k s rows) (first l)
  unfolding on_bank call
  latched-first e d = rw (first-latch l e) d

  pub stepped_first : (get_or l 0 0 ≡ 0 → ⊥) → (get_or l 0 0 ≡ 1 → ⊥) → (get_or l 0 0 ≡ 2 → ⊥) → (get_or l 0 0 ≡ 4 → ⊥)
      → x ≡ step (state_of k s rows) → x ≡ on_bank (state_of k s rows) (first l)
  unfolding on_bank call
  stepped_first p q r t d = rw (first_step l p q r t) d
