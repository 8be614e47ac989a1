-- `call_text::lines::put_pair` meets its contract.
-- Assumes nothing.
use mathlib.Core.Path.{◌≡◌, ◌∙◌, ap}
use mathlib.Core.List.{List, [], ◌∷◌}
use Prim.Native.Nat.{ℕ, ◌+◌, ◌-◌, ◌/◌, ◌%◌}
use native.Mathlib.Omega.{arith}
use lib.ListN.{length}
use Rattle.laws.specs.Lists.{written}
use Rattle.call_text.proofs.CallLaws.{mid_written}
use Rattle.call_text.proofs.lines.put_pair.Goals as goal

pub returns : goal.returns
returns c =
    let a = c.args in
    let high : a.x / 256 % 256 ≡ a.x / 256 = omega (arith, c.ranges.x) in
    let made = c.copy_from_slice.ensures.after in
    let both : c.copy_from_slice.new.self ≡ a.x % 256 ∷ a.x / 256 ∷ [] = made ∙ c.to_le_bytes.ensures ∙ ap (λ (k : ℕ). a.x % 256 ∷ k ∷ []) high in
    mid_written a.at (a.at + 2 - a.at) a.code.now c.copy_from_slice.new.self (omega (arith, ap length both)) ∙ ap (λ (s : List ℕ). written a.code.now a.at s) both
