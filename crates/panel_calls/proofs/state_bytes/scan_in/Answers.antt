-- `panel_calls::state_bytes::scan_in` meets its contract.
-- Assumes nothing.
use mathlib.Core.Path.{◌≡◌}
use native.Mathlib.Omega.{arith}
use Rattle.panel_calls.specs.StateBytes.{pair_at}
use Rattle.panel_calls.proofs.state_bytes.StateLaws.{scan-read}
use Rattle.panel_calls.proofs.state_bytes.scan_in.Goals as goal

pub returns : goal.returns
returns c =
    let l = c.args.bytes.now in
    let rail : c.from_le_bytes.result ≡ pair_at l 3 = omega (arith, c.from_le_bytes.ensures) in
    scan-read l rail c.words_in.ensures c.part.ensures
