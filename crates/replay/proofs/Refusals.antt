-- A replayed list of calls by its cases: a list that can't be read, a trace too short, and the calls run.
-- Assumes nothing.
use mathlib.Core.Path.{◌≡◌, ◌∙◌, ap, ap₂}
use Rattle.std.specs.Prelude.{Option, Some, None, Result, Ok, Err}
use Rattle.std.specs.Option.{ok_or}
use mathlib.Core.Bool.{true, false, cond}
use mathlib.Core.List.{List}
use Prim.Native.Nat.{ℕ, ◌*◌, ◌/◌, ◌<◌, ◌≤◌}
use native.Mathlib.Omega.{arith}
use lib.ListN.{length}
use borrow.Author.Tests.{lt-ltb, le-ltb}
use Rattle.laws.specs.Lists.{written}
use Rattle.laws.proofs.Cases.{by_test, cond_yes, cond_no}
use Rattle.refusals.specs.declared.Refusal.{Refusal}
use Rattle.refusals.specs.declared.Refusal.TheVariants.{NotFormed}
use Rattle.refusals.specs.Numbers.{number}
use Rattle.bank_spec.specs.State.{fresh}
use Rattle.replay.specs.Coded.{calls_in, readable}
use Rattle.replay.specs.Entries.{no_bank, book_entries, bank_after, trace_bytes}
use Rattle.replay.specs.Replay.{replay}

-- what counting the calls tells
module _ (list : List ℕ) {o : Option ℕ} (e : o ≡ cond (readable list) (Some (length (calls_in list))) None) {x : Result ℕ Refusal}
    (f : x ≡ ok_or o NotFormed) where
  all_there : readable list ≡ true → x ≡ Ok (length (calls_in list))
  all_there t = f ∙ ap (λ (y : Option ℕ). ok_or y NotFormed) (e ∙ cond_yes (readable list) _ _ t)

  broken_there : readable list ≡ false → x ≡ Err NotFormed
  broken_there t = f ∙ ap (λ (y : Option ℕ). ok_or y NotFormed) (e ∙ cond_no (readable list) _ _ t)

  pub counted : {n : ℕ} → x ≡ Ok n → (readable list ≡ true) × (n ≡ length (calls_in list))
  counted {n} g =
      by_test (readable list) (λ t. let h = all_there t in (t, cc))
      (λ t. let h = broken_there t in absurd (cc))

  pub not-counted : (r : Refusal) → x ≡ Err r → (readable list ≡ false) × (number r ≡ 12)
  not-counted r g =
      by_test (readable list) (λ t. let h = all_there t in absurd (cc))
      (λ t. let h = broken_there t in let same : r ≡ NotFormed = cc in (t, ap number same))

pub replay_12 : (list rows trace : List ℕ) → readable list ≡ false → {n : ℕ} → n ≡ 12
    → record { refusal = n; rows = rows; trace = trace } ≡ replay list rows trace
unfolding replay
replay_12 list rows trace e h = rw (e, h)

-- with the calls counted
module _ (list rows trace : List ℕ) (e : readable list ≡ true) (calls : ℕ) (n : calls ≡ length (calls_in list)) where
  pub replay_11 : length trace / 68 < calls → record { refusal = 11; rows = rows; trace = trace } ≡ replay list rows trace
  unfolding replay
  replay_11 h = rw (e, lt-ltb (length trace) (68 * length (calls_in list)) (omega arith))

  pub trace-fits : calls ≤ length trace / 68 → 68 * length (calls_in list) ≤ length trace
  trace-fits h = omega arith

  pub replay_0 : calls ≤ length trace / 68 → (rows' trace' : List ℕ) → rows' ≡ (bank_after (fresh 0 rows) (calls_in list)).rows
      → trace' ≡ written trace 0 (trace_bytes (book_entries (length rows) no_bank (calls_in list)))
      → record { refusal = 0; rows = rows'; trace = trace' } ≡ replay list rows trace
  unfolding replay
  replay_0 h rows' trace' p q =
      rw (e, le-ltb (length trace) (68 * length (calls_in list)) (trace-fits h))
      (ap₂ (λ (a b : List ℕ). record { refusal = 0; rows = a; trace = b }) p q)
