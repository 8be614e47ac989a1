-- `panel_calls::state_bytes::part` meets its contract.
-- Assumes nothing.
use mathlib.Core.Path.{◌≡◌, ◌∙◌, ap}
use Prim.Native.Nat.{ℕ, ◌+◌, ◌-◌}
use native.Mathlib.Omega.{arith}
use lib.ListN.{take, drop}
use Rattle.panel_calls.proofs.state_bytes.StateLaws.{part-read}
use Rattle.panel_calls.proofs.state_bytes.part.Goals as goal

pub returns : goal.returns
returns g c =
    let a = c.args in
    let same : a.at + g.row.N - a.at ≡ g.row.N = omega arith in
    c.copy_from_slice.ensures.after ∙ ap (λ (n : ℕ). take n (drop a.at a.bytes.now)) same ∙ part-read a.bytes.now a.at g.row.N c.requires
