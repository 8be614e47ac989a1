-- `cutting::records::store_record` meets its contract.
-- Assumes nothing.
use mathlib.Core.Path.{◌≡◌, sym, ◌∙◌, ap}
use mathlib.Core.Bool.{Bool, cond}
use Prim.Native.Nat.{suc, ◌+◌, ◌*◌}
use native.Mathlib.Omega.{arith}
use Rattle.cutting.proofs.Stores.{byte-flag}
use Rattle.cutting.proofs.records.store_record.Goals as goal
use Rattle.cutting.proofs.records.store_record.Goals.{then-cut, else-cut}

pub returns : goal.returns
returns c =
    let a = c.args in
    let p : a.i * 4 + 1 ≡ suc (a.i * 4) = omega arith in
    let q : a.i * 4 + 2 ≡ suc (suc (a.i * 4)) = omega arith in
    let r : a.i * 4 + 3 ≡ suc (suc (suc (a.i * 4))) = omega arith in
    let below : c.if-cut.below ≡ cond a.cut a.rails 0 =
    elim c.if-cut.branch [
      | then-cut w ↦ w.below-is ∙ sym (ap (λ (b : Bool). cond b a.rails 0) w.if-cut.true)
      | else-cut w ↦ w.below-is ∙ sym (ap (λ (b : Bool). cond b a.rails 0) w.if-cut.false)
    ] in
    rw (p, q, r, c.from.ensures ∙ byte-flag a.cut, below)
