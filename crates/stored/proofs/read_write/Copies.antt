-- Bytes copied to the front of others.
-- Assumes nothing.
use mathlib.Core.Path.{◌≡◌, ap₂}
use mathlib.Core.List.{List, ◌++◌}
use Prim.Native.Nat.{ℕ, ◌+◌}
use native.Mathlib.Omega.{arith}
use lib.ListN.{length, drop}
use Rattle.laws.specs.Lists.{written}

-- all of them, where there is room
pub copied_whole : (vs l : List ℕ) {s : List ℕ} → s ≡ vs → s ++ drop (length vs) l ≡ written l 0 vs
copied_whole vs l e =
    let n : length vs ≡ 0 + length vs = omega arith in
    ap₂ (λ (s : List ℕ) (k : ℕ). s ++ drop k l) e n
