-- A run over a stored cascade keeps the number of outputs.
-- Assumes nothing.
use mathlib.Core.Path.{◌≡◌, refl, ◌∙◌}
use mathlib.Core.List.{List, [], ◌∷◌}
use Prim.Native.Nat.{ℕ}
use lib.ListN.{length, set, length-set}
use Rattle.laws.specs.Bits.{bit}
use Rattle.stored_spec.specs.Run.{set_outputs}

pub set-length : (s os : List ℕ) (y : ℕ) → length (set_outputs s os y) ≡ length s
unfolding set_outputs
set-length s [] y = refl
set-length s (o ∷ os) y = set-length (set s o (bit y (length os))) os y ∙ length-set s o (bit y (length os))
