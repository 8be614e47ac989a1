-- No refusal has the number 0, and two with one number are the same.
-- Assumes nothing.
use mathlib.Core.Path.{◌≡◌, refl, sym, ◌∙◌, ap}
use mathlib.Core.Bool.{cond}
use Prim.Native.Nat.{ℕ}
use native.Mathlib.Omega.{arith}
use lib.Dec.{eqb}
use Rattle.refusals.specs.declared.Refusal.{Refusal}
use Rattle.refusals.specs.declared.Refusal.TheVariants.{OutOfRange, NotEachOnce, SheetLength, Malformed, Clash, Depends, TooWide, NoCutList}
use Rattle.refusals.specs.declared.Refusal.TheVariants.{NodesShort, RecordsShort, RowsShort, NotFormed, BankFull, OverLimit, OverEight, NotTimed}
use Rattle.refusals.specs.Numbers.{number}

pub never-zero : (r : Refusal) → number r ≡ 0 → ⊥
never-zero OutOfRange e = omega (arith, e)
never-zero NotEachOnce e = omega (arith, e)
never-zero SheetLength e = omega (arith, e)
never-zero Malformed e = omega (arith, e)
never-zero Clash e = omega (arith, e)
never-zero Depends e = omega (arith, e)
never-zero TooWide e = omega (arith, e)
never-zero NoCutList e = omega (arith, e)
never-zero NodesShort e = omega (arith, e)
never-zero RecordsShort e = omega (arith, e)
never-zero RowsShort e = omega (arith, e)
never-zero NotFormed e = omega (arith, e)
never-zero BankFull e = omega (arith, e)
never-zero OverLimit e = omega (arith, e)
never-zero OverEight e = omega (arith, e)
never-zero NotTimed e = omega (arith, e)

-- the refusal that a number stands for, NotTimed where none has it
abbrev refusal_of : ℕ → Refusal
refusal_of n =
    cond (eqb n 1) OutOfRange (cond (eqb n 2) NotEachOnce (cond (eqb n 3) SheetLength (cond (eqb n 4) Malformed
    (cond (eqb n 5) Clash (cond (eqb n 6) Depends (cond (eqb n 7) TooWide (cond (eqb n 8) NoCutList
    (cond (eqb n 9) NodesShort (cond (eqb n 10) RecordsShort (cond (eqb n 11) RowsShort (cond (eqb n 12) NotFormed
    (cond (eqb n 13) BankFull (cond (eqb n 14) OverLimit (cond (eqb n 15) OverEight NotTimed))))))))))))))

back : (r : Refusal) → refusal_of (number r) ≡ r
back OutOfRange = refl
back NotEachOnce = refl
back SheetLength = refl
back Malformed = refl
back Clash = refl
back Depends = refl
back TooWide = refl
back NoCutList = refl
back NodesShort = refl
back RecordsShort = refl
back RowsShort = refl
back NotFormed = refl
back BankFull = refl
back OverLimit = refl
back OverEight = refl
back NotTimed = refl

pub same-number : (r s : Refusal) → number r ≡ number s → r ≡ s
same-number r s e = sym (back r) ∙ ap refusal_of e ∙ back s
