-- `stored::read_write::write_bytes` meets its contract.
-- Assumes nothing.
use mathlib.Core.Path.{sym, ◌∙◌, ap₂}
use mathlib.Core.List.{List}
use Prim.Native.Nat.{ℕ, ◌≤◌}
use native.Mathlib.Omega.{arith}
use lib.ListN.{length}
use Rattle.stored.proofs.read_write.Copies.{copied_whole}
use Rattle.stored_spec.specs.ReadWrite.{written_as}
use Rattle.stored_spec.proofs.ReadWriteCases.{write-other, write-short, write-few, write-formed}
use Rattle.stored.proofs.read_write.write_bytes.Goals as goal

pub returns-then-records-stored : goal.returns-then-records-stored
returns-then-records-stored c =
    let a = c.args in
    sym (write-short a.stored.now a.bytes.now a.records.now a.rows.now (sym c.formed.ensures ∙ c.if-not-formed.false) (omega arith))

pub returns-then-rows-bytes : goal.returns-then-rows-bytes
returns-then-rows-bytes c =
    let a = c.args in
    sym (write-few a.stored.now a.bytes.now a.records.now a.rows.now (sym c.formed.ensures ∙ c.if-not-formed.false) (omega arith) (omega arith))

pub returns-then-not-formed : goal.returns-then-not-formed
returns-then-not-formed c =
    let a = c.args in
    sym (write-other a.stored.now a.bytes.now a.records.now a.rows.now (sym c.formed.ensures ∙ c.if-not-formed.true))

pub returns : goal.returns
returns c =
    let a = c.args in
    let S = a.stored.now in
    let R = a.bytes.now in
    let h : length S ≤ length a.records.now = omega (arith, c.if-records-stored.false) in
    let k : length R ≤ length a.rows.now = omega (arith, c.if-rows-bytes.false) in
    ap₂ (λ (x y : List ℕ). written_as 0 x y) (copied_whole S a.records.now c.copy_from_slice.ensures.after) (copied_whole R a.rows.now c.copy_from_slice-2.ensures.after)
    ∙ sym (write-formed S R a.records.now a.rows.now (sym c.formed.ensures ∙ c.if-not-formed.false) h k)
