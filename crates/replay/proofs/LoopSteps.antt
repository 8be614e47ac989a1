-- One turn of a loop over a list of calls: the call at the front is passed, or made and its bytes written, and the rest comes after it.
-- Assumes nothing.
use mathlib.Core.Path.{◌≡◌, sym, ◌∙◌, ap}
use mathlib.Core.Bool.{cond}
use mathlib.Core.List.{List, ◌∷◌}
use Prim.Native.Nat.{ℕ, ◌+◌, ◌-◌, ◌*◌, ◌<◌, ◌≤◌}
use native.Mathlib.Omega.{arith}
use lib.ListN.{length, take, drop, length-drop}
use lib.Seq.{take_all}
use borrow.Author.Tests.{eq-eqb, ne_eqb}
use lib.Dec.{eqb}
use Rattle.std.specs.Prelude.{Option, Some, None}
use Rattle.laws.specs.Lists.{written}
use Rattle.laws.proofs.Cases.{by_less, cond_yes, cond_no}
use Rattle.bank_spec.specs.declared.Bank.{Bank}
use Rattle.bank_spec.specs.declared.Scan.{Scan}
use Rattle.bank_spec.specs.State.{State, state_of}
use Rattle.bank_spec.specs.Calls.{Answer}
use Rattle.replay.specs.Coded.{Coded, size, first, calls_in, readable}
use Rattle.replay.specs.Entries.{on_bank}
use Rattle.replay.proofs.Reading.{size_fits_lem, calls_more, calls_none, readable_more}
use Rattle.replay.proofs.Traces.{ran, call_bytes, ran_more}

-- the bytes from a place on, as a part of the slice
abbrev pub rest : List ℕ → ℕ → List ℕ
rest l at = take (length l - at) (drop at l)

pub all_left : (l : List ℕ) (at : ℕ) → rest l at ≡ drop at l
all_left l at = take_all (length l - at) (drop at l) (omega (arith, length-drop at l))

-- the size of the call at the front, where one stands there
module _ (l : List ℕ) {o : Option ℕ} (e : o ≡ cond (eqb (size l) 0) None (Some (size l))) where
  no_call_is : size l ≡ 0 → o ≡ None
  no_call_is z = e ∙ cond_yes (eqb (size l) 0) _ _ (eq-eqb (size l) 0 z)

  some_call_is : 0 < size l → o ≡ Some (size l)
  some_call_is h = e ∙ cond_no (eqb (size l) 0) _ _ (ne_eqb (size l) 0 (λ z. omega arith))

  pub size_there : {n : ℕ} → o ≡ Some n → (n ≡ size l) × (0 < n)
  size_there {n} g =
      by_less 0 (size l)
      (λ h. let f = some_call_is h in let same : n ≡ size l = cc in (same, omega arith))
      (λ h. let f = no_call_is (omega arith) in absurd (cc))

  pub size_none : o ≡ None → size l ≡ 0
  size_none g =
      by_less 0 (size l)
      (λ h. let f = some_call_is h in absurd (cc))
      (λ h. omega arith)

-- a turn passes one call
module _ (l : List ℕ) (n : ℕ) (e : n ≡ size l) (more : 0 < n) where
  passed : drop (size l) l ≡ rest l n
  passed = ap (λ (k : ℕ). drop k l) (sym e) ∙ sym (all_left l n)

  pub within : n ≤ length l
  within = omega (arith, e, size_fits_lem l)

  pub smaller : length (rest l n) < length l
  smaller = omega (arith, within, ap length (all_left l n), length-drop n l)

  pub calls_turn : calls_in l ≡ first l ∷ calls_in (rest l n)
  calls_turn = calls_more l (omega (arith, e)) ∙ ap (λ (s : List ℕ). first l ∷ calls_in s) passed

  pub readable-turn : readable l ≡ readable (rest l n)
  readable-turn = readable_more l (omega (arith, e)) ∙ ap readable passed

  -- it has room for its bytes, and the rest has room for theirs
  pub entry-room : (place m : ℕ) → place + 68 * length (calls_in l) ≤ m → place + 68 ≤ m
  entry-room place m h = omega (arith, ap length calls_turn)

  pub rest-room : (place m : ℕ) → place + 68 * length (calls_in l) ≤ m → place + 68 + 68 * length (calls_in (rest l n)) ≤ m
  rest-room place m h = omega (arith, ap length calls_turn)

  -- by its answer and what it writes
  pub run-turn : (k : Bank) (s : Scan) (rows : List ℕ) (a : Answer) (k' : Bank) (s' : Scan) (rows' : List ℕ)
      → record { answer = a; state = state_of k' s' rows' } ≡ on_bank (state_of k s rows) (first l) → length s'.outputs ≡ 64
      → (place : ℕ) (tr tr' : List ℕ) → tr' ≡ written tr place (call_bytes a k' s')
      → ran (state_of k s rows) (calls_in l) place tr ≡ ran (state_of k' s' rows') (calls_in (rest l n)) (place + 68) tr'
  run-turn k s rows a k' s' rows' g all place tr tr' wrote =
      let cs = calls_in (rest l n) in
      ap (λ (c : List Coded). ran (state_of k s rows) c place tr) calls_turn
      ∙ ran_more (state_of k s rows) (first l) a k' s' rows' g all cs place tr
      ∙ ap (λ (t : List ℕ). ran (state_of k' s' rows') cs (place + 68) t) (sym wrote)

-- where none stands at the front, no call is left
pub run_over : (l : List ℕ) → size l ≡ 0 → (s : State) (place : ℕ) (tr : List ℕ) → ran s (calls_in l) place tr ≡ record { rows = s.rows; trace = tr }
unfolding ran
run_over l z s place tr = ap (λ (c : List Coded). ran s c place tr) (calls_none l z)
