-- What std's copy of a slice and its number of a test say, in the words of the definitions.
-- Assumes nothing.
use mathlib.Core.Path.{◌≡◌, refl, sym, ◌∙◌, ap}
use mathlib.Core.Bool.{Bool, true, false}
use mathlib.Core.List.{List, ◌++◌}
use Prim.Native.Nat.{ℕ, ◌≤◌}
use native.Mathlib.Nat.{zero-add}
use native.Mathlib.Omega.{arith}
use mir.Val.{bool_byte}
use lib.ListN.{length, get_or, take, drop}
use lib.Seq.{length-take-le, get_or-take}
use Rattle.laws.specs.Lists.{puts}
use Rattle.laws.specs.Bits.{flag}
use Rattle.laws.proofs.Puts.{copied, puts_ext}

-- the first w elements are copied
pub copied_front : (w : ℕ) (from to s : List ℕ) → s ≡ take w from → w ≤ length from → w ≤ length to → s ++ drop w to ≡ puts w (λ i. get_or from i 0) to
copied_front w from to s is long room =
    let vs = take w from in
    let n : length vs ≡ w = length-take-le w from long in
    ap (λ (l : List ℕ). l ++ drop w to) is
    ∙ ap (λ (k : ℕ). vs ++ drop k to) (sym n ∙ sym (zero-add (length vs)))
    ∙ sym (copied vs to (omega arith))
    ∙ ap (λ (k : ℕ). puts k (λ i. get_or vs i 0) to) n
    ∙ puts_ext (λ i. get_or vs i 0) (λ i. get_or from i 0) w to (λ i h. get_or-take w from i 0 h)

pub byte-flag : (b : Bool) → bool_byte b ≡ flag b
byte-flag true = refl
byte-flag false = refl
