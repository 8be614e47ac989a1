-- `evaluation::gather::gather_word` reads the rows of the rail words of a set that is one word, where the rail words below are one word too.
-- Assumes nothing.
use mathlib.Core.Path.{◌≡◌}
use mathlib.Core.List.{List}
use Prim.Native.Nat.{ℕ, ◌-◌, ◌/◌, ◌^◌, ◌≤◌}
use Rattle.laws.specs.Turns.{in_turn}
use Rattle.evaluation.specs.Agreeing.{of_bit}
use Rattle.evaluation.proofs.gather.FewRails.{few_as}
use Rattle.evaluation.proofs.gather.gather_word.Given as goal

abbrev pub invariant-loop-left : goal.invariant-loop-left
invariant-loop-left l =
    (l.b ≤ 64) × (l.left ≡ l.word / 2 ^ l.b)
    × ((s : List ℕ) → few_as l.g.some l.g.each l.rails s ≡ in_turn l.b (of_bit l.rows l.p l.word l.p.at) (record { some = 0; each = 65535; next = s }))

abbrev pub decreases-loop-left : goal.decreases-loop-left
decreases-loop-left l = 64 - l.b
