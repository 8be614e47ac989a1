-- `evaluation::cells::Progress::end_cell` reads the rows of a cell that may be read and sets its outputs.
-- Assumes nothing.
use mathlib.Core.Path.{sym, ◌∙◌, ap, ap₂}
use Prim.Native.Nat.{ℕ, ◌+◌}
use native.Mathlib.Omega.{arith}
use Rattle.stored_spec.specs.RowBytes.{two_bytes}
use Rattle.stored_spec.specs.StoredForm.{cell_at}
use Rattle.stored_spec.specs.Run.{outputs_after}
use Rattle.stored_spec.proofs.ReadWriteCases.{formed-records}
use Rattle.stored_spec.proofs.StoredParts.{records_have}
use Rattle.evaluation_spec.specs.RailSets.{Gathered, rail_set, some_outs, each_outs}
use Rattle.evaluation_spec.proofs.Exact.{some-length, each-length}
use Rattle.evaluation.specs.Answer.{told_by}
use Rattle.evaluation.specs.BegunCell.{Begun, ended_by, next_cell}
use Rattle.evaluation.proofs.cells.BegunCells.{begun-cut}
use Rattle.evaluation.proofs.cells.CellRecords.{ended-next}
use Rattle.evaluation.proofs.cells.EndedCells.{ended, mask_lt, ended-readable, ended-gathered}
use Rattle.evaluation.proofs.cells.Progress.end_cell.Goals as goal

pub overflow_mul-i : goal.overflow_mul-i
overflow_mul-i c =
    let q = c.args.asked.now in
    let pre = c.requires in
    omega (arith, pre.1, (records_have two_bytes q.records.now (formed-records q.records.now q.rows.now pre.0)).few)

pub overflow_add-i : goal.overflow_add-i
overflow_add-i c =
    let q = c.args.asked.now in
    let pre = c.requires in
    omega (arith, pre.1, (records_have two_bytes q.records.now (formed-records q.records.now q.rows.now pre.0)).few)

pub bounds-asked-i : goal.bounds-asked-i
bounds-asked-i c =
    let q = c.args.asked.now in
    let pre = c.requires in
    omega (arith, pre.1, (records_have two_bytes q.records.now (formed-records q.records.now q.rows.now pre.0)).whole)

pub addresses-p-requires : goal.addresses-p-requires
addresses-p-requires c =
    let a = c.args in
    let q = a.asked.now in
    let pre = c.requires in
    let R = q.records.now in
    let h = ended R q.rows.now q.known q.word a.i pre.0 pre.1 pre.2 a.self.now.begun pre.3.begun in
    (omega (arith, h.few_in), omega (arith, c.from-rail.ensures, h.few-low), mask_lt R q.rows.now q.known q.word a.i pre.0 pre.1 pre.2 a.self.now.begun h)

pub read_cell-seen-requires : goal.read_cell-seen-requires
read_cell-seen-requires c =
    let a = c.args in
    let q = a.asked.now in
    let pre = c.requires in
    let R = q.records.now in
    let h = ended R q.rows.now q.known q.word a.i pre.0 pre.1 pre.2 a.self.now.begun pre.3.begun in
    let r = ended-readable R q.rows.now q.known q.word a.i pre.0 pre.1 pre.2 a.self.now.begun h pre.3.carried.set c.from-rail.ensures c.addresses-p.ensures in
    (r.0, r.1, r.2, pre.3.carried.spare)

pub set_outputs-requires : goal.set_outputs-requires
set_outputs-requires c =
    let a = c.args in
    let q = a.asked.now in
    let pre = c.requires in
    let R = q.records.now in
    let h = ended R q.rows.now q.known q.word a.i pre.0 pre.1 pre.2 a.self.now.begun pre.3.begun in
    let w = c.from-rail.ensures in
    (formed-records R q.rows.now pre.0, pre.1, pre.2, h.from, h.outs, w ∙ h.lower, omega (arith, w, h.few_out))

pub overflow_add-i-2 : goal.overflow_add-i-2
overflow_add-i-2 c =
    let q = c.args.asked.now in
    let pre = c.requires in
    omega (arith, pre.1, (records_have two_bytes q.records.now (formed-records q.records.now q.rows.now pre.0)).few)

pub next-self-requires : goal.next-self-requires
next-self-requires c =
    let a = c.args in
    let q = a.asked.now in
    let pre = c.requires in
    let R = q.records.now in
    let h = ended R q.rows.now q.known q.word a.i pre.0 pre.1 pre.2 a.self.now.begun pre.3.begun in
    (omega (arith, h.few_in), omega (arith, h.rows_in, h.rows_few))

pub returns : goal.returns
unfolding rail_set some_outs each_outs
returns c =
    let a = c.args in
    let q = a.asked.now in
    let pre = c.requires in
    let R = q.records.now in
    let h = ended R q.rows.now q.known q.word a.i pre.0 pre.1 pre.2 a.self.now.begun pre.3.begun in
    let k = ended_by R a.i in
    let rail = c.from-rail.ensures in
    let g = ended-gathered R q.rows.now q.known q.word a.i pre.0 pre.1 pre.2 a.self.now.begun h pre.3.carried.set rail c.addresses-p.ensures c.read_cell-seen.ensures.0 in
    let n = sym (ended-next R a.i pre.1 pre.2) in
    let formed = formed-records R q.rows.now pre.0 in
    let some = some_outs q.known q.word R q.rows.now in
    let each = each_outs q.known q.word R q.rows.now in
    record {
      begun = c.next-self.ensures ∙ ap₂ (λ (x : Begun) (r : ℕ). next_cell x (a.i + 1) r) pre.3.begun rail ∙ begun-cut R q.known q.word a.i pre.1 pre.2;
      carried = record {
        set = ap (λ (x : Gathered). x.next) g ∙ ap (rail_set q.known q.word R q.rows.now) n;
        spare = c.read_cell-seen.ensures.1;
        outputs = c.set_outputs.ensures (some k) (each k) (some-length q.known q.word R q.rows.now formed k) (each-length q.known q.word R q.rows.now formed k) pre.3.carried.outputs
            ∙ ap₂ (λ (x y : ℕ). told_by (outputs_after (cell_at R k) (some k) x) (outputs_after (cell_at R k) (each k) y)) (ap (λ (x : Gathered). x.some) g) (ap (λ (x : Gathered). x.each) g)
            ∙ ap (λ (m : ℕ). told_by (some m) (each m)) n;
      };
    }
