-- `evaluation::cells::Progress::read` takes one record more.
-- Assumes nothing.
use mathlib.Core.Path.{sym, ◌∙◌, ap, ap₂, subst}
use Prim.Native.Nat.{ℕ}
use native.Mathlib.Omega.{arith}
use borrow.Author.Tests.{ne_eqb}
use Rattle.stored_spec.specs.RowBytes.{two_bytes}
use Rattle.stored_spec.specs.StoredForm.{cut_byte}
use Rattle.stored_spec.proofs.ReadWriteCases.{formed-records}
use Rattle.stored_spec.proofs.FormedCells.{small_input}
use Rattle.stored_spec.proofs.StoredParts.{records_have}
use Rattle.evaluation_spec.specs.RailSets.{rail_set, some_outs, each_outs}
use Rattle.evaluation.specs.Answer.{told_by}
use Rattle.evaluation.specs.BegunCell.{Begun, Few, with_var}
use Rattle.evaluation.proofs.cells.BegunCells.{begun-keeps, begun_with_lem, begun_uncut}
use Rattle.evaluation.proofs.cells.CellRecords.{ended_same}
use Rattle.evaluation.proofs.cells.Progress.read.Goals as goal

pub overflow_mul-i : goal.overflow_mul-i
overflow_mul-i c =
    let q = c.args.asked.now in
    let pre = c.requires in
    omega (arith, pre.1, (records_have two_bytes q.records.now (formed-records q.records.now q.rows.now pre.0)).few)

pub bounds-asked-i : goal.bounds-asked-i
bounds-asked-i c =
    let q = c.args.asked.now in
    let pre = c.requires in
    omega (arith, pre.1, (records_have two_bytes q.records.now (formed-records q.records.now q.rows.now pre.0)).whole)

pub with_variable-self-requires : goal.with_variable-self-requires
with_variable-self-requires c =
    let a = c.args in
    let q = a.asked.now in
    let pre = c.requires in
    let R = q.records.now in
    let have = records_have two_bytes R (formed-records R q.rows.now pre.0) in
    let v = c.from.ensures in (
      λ h. omega (arith, v, small_input R a.i (have.each a.i pre.1) (omega (arith, v, h))),
      subst (λ (x : Begun). Few x) (sym pre.2.begun) (begun-keeps R q.known q.word a.i (omega (arith, pre.1, have.few))),
    )

pub overflow_mul-i-2 : goal.overflow_mul-i-2
overflow_mul-i-2 c =
    let q = c.args.asked.now in
    let pre = c.requires in
    omega (arith, pre.1, (records_have two_bytes q.records.now (formed-records q.records.now q.rows.now pre.0)).few)

pub overflow_add-i : goal.overflow_add-i
overflow_add-i c =
    let q = c.args.asked.now in
    let pre = c.requires in
    omega (arith, pre.1, (records_have two_bytes q.records.now (formed-records q.records.now q.rows.now pre.0)).few)

pub bounds-asked-i-2 : goal.bounds-asked-i-2
bounds-asked-i-2 c =
    let q = c.args.asked.now in
    let pre = c.requires in
    omega (arith, pre.1, (records_have two_bytes q.records.now (formed-records q.records.now q.rows.now pre.0)).whole)

pub end_cell-requires : goal.end_cell-requires
end_cell-requires c =
    let a = c.args in
    let q = a.asked.now in
    let pre = c.requires in
    let R = q.records.now in (
      pre.0,
      pre.1,
      c.if-asked-i-eq1.true,
      record {
        begun = c.with_variable-self.ensures ∙ ap₂ (with_var q.known q.word) pre.2.begun c.from.ensures ∙ begun_with_lem R q.known q.word a.i;
        carried = record { set = pre.2.carried.set; spare = pre.2.carried.spare; outputs = pre.2.carried.outputs };
      },
    )

pub returns-else-asked-i-eq1 : goal.returns-else-asked-i-eq1
returns-else-asked-i-eq1 c =
    let a = c.args in
    let q = a.asked.now in
    let pre = c.requires in
    let R = q.records.now in
    let no = ne_eqb (cut_byte R a.i) 1 c.if-asked-i-eq1.false in
    let n = sym (ended_same R a.i no) in
    let kept = pre.2.carried in
    record {
      begun = c.with_variable-self.ensures ∙ ap₂ (with_var q.known q.word) pre.2.begun c.from.ensures ∙ begun_with_lem R q.known q.word a.i
          ∙ begun_uncut R q.known q.word a.i no;
      carried = record {
        set = kept.set ∙ ap (rail_set q.known q.word R q.rows.now) n;
        spare = kept.spare;
        outputs = kept.outputs ∙ ap (λ (m : ℕ). told_by (some_outs q.known q.word R q.rows.now m) (each_outs q.known q.word R q.rows.now m)) n;
      };
    }
