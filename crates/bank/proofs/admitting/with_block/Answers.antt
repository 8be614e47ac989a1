-- `bank::admitting::with_block` meets its contract.
-- Assumes nothing.
use mathlib.Core.Path.{refl, ◌∙◌, ap}
use mathlib.Core.List.{List}
use Prim.Native.Nat.{ℕ, ◌+◌, ◌*◌, ◌-◌}
use lib.ListN.{length}
use borrow.Rule.Slice.PartMut.{put_mid}
use Rattle.bank.proofs.admitting.AdmissionCases.{block-added, put_whole}
use Rattle.bank.proofs.admitting.with_block.Goals as goal

pub returns : goal.returns
returns c =
    let k = c.args.bank.now in
    let R = c.args.records.now in
    let start = c.from-b.result * 80 in
    λ (bytes : List ℕ). block-added k R bytes c.args.timing.period c.args.timing.phase c.from-b.ensures
    (ap (put_mid start (start + length R - start) k.records) c.copy_from_slice.ensures.after ∙ put_whole start k.records R refl)
