-- An answer that is a number where a test passes, else the refusal of too many columns: what either tells.
-- Assumes nothing.
use mathlib.Core.Path.{◌≡◌, refl}
use mathlib.Core.Bool.{Bool, true, false, cond}
use Prim.Native.Nat.{ℕ, ◌<◌, ◌≤◌}
use native.Mathlib.Omega.{arith}
use borrow.Author.Tests.{leb-true, leb-false, le-leb, lt-leb}
use lib.Dec.{leb}
use Rattle.std.specs.Prelude.{Result, Ok, Err}
use Rattle.refusals.specs.declared.Refusal.{Refusal}
use Rattle.refusals.specs.declared.Refusal.TheVariants.{TooWide}
use Rattle.reduction.specs.Lowering.{narrow_or}

went_on : (b : Bool) (r n : ℕ) → ◌≡◌ {A = Result ℕ Refusal} (Ok r) (cond b (Ok n) (Err TooWide)) → (b ≡ true) × (r ≡ n)
went_on true r n e = (refl, cc)
went_on false r n e = cc

gave_up : (b : Bool) (x : Refusal) (n : ℕ) → ◌≡◌ {A = Result ℕ Refusal} (Err x) (cond b (Ok n) (Err TooWide)) → (b ≡ false) × (x ≡ TooWide)
gave_up true x n e = cc
gave_up false x n e = (refl, cc)

pub few-before : (before r n : ℕ) → ◌≡◌ {A = Result ℕ Refusal} (Ok r) (narrow_or before n) → before ≤ 512
few-before before r n e = leb-true before 512 (went_on (leb before 512) r n e).0

pub answer-is : (before r n : ℕ) → ◌≡◌ {A = Result ℕ Refusal} (Ok r) (narrow_or before n) → r ≡ n
answer-is before r n e = (went_on (leb before 512) r n e).1

pub many-before : (before n : ℕ) (x : Refusal) → ◌≡◌ {A = Result ℕ Refusal} (Err x) (narrow_or before n) → 512 < before
many-before before n x e = omega (arith, leb-false before 512 (gave_up (leb before 512) x n e).0)

pub refused-wide : (before n : ℕ) (x : Refusal) → ◌≡◌ {A = Result ℕ Refusal} (Err x) (narrow_or before n) → x ≡ TooWide
refused-wide before n x e = (gave_up (leb before 512) x n e).1

pub narrow_yes : (before n : ℕ) → before ≤ 512 → ◌≡◌ {A = Result ℕ Refusal} (Ok n) (narrow_or before n)
narrow_yes before n h = rw (le-leb before 512 h) refl

pub narrow_no : (before n : ℕ) → 512 < before → ◌≡◌ {A = Result ℕ Refusal} (Err TooWide) (narrow_or before n)
narrow_no before n h = rw (lt-leb before 512 h) refl
