-- `panel_calls::state_bytes::bank_in` meets its contract.
-- Assumes nothing.
use mathlib.Core.Path.{◌≡◌}
use native.Mathlib.Omega.{arith}
use Rattle.panel_calls.specs.StateBytes.{pair_at}
use Rattle.panel_calls.proofs.state_bytes.StateLaws.{bank-read}
use Rattle.panel_calls.proofs.state_bytes.bank_in.Goals as goal

pub returns : goal.returns
returns c =
    let l = c.args.bytes.now in
    let limit : c.from_le_bytes.result ≡ pair_at l 0 = omega (arith, c.from_le_bytes.ensures) in
    bank-read l limit c.part.ensures c.part-2.ensures c.part-3.ensures c.part-4.ensures
