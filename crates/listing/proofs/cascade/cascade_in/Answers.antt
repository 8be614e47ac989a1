-- `cascade::cascade_in` gives what the compiler wrote.
-- Assumes nothing.
use Rattle.std.proofs.Common.{rules, ◌≡◌, ◌∙◌, ap, ℕ, ◌+◌, ◌*◌}
use Rattle.refusals.specs.Numbers.{number, answered}
use Rattle.sheet_spec.specs.Job.{Job}
use Rattle.node_table.specs.Nodes.{WholeOutcome}
use Rattle.listing.proofs.InputCascade.{whole, records-lent, rows-lent}
use Rattle.listing.proofs.cascade.cascade_in.Goals as goal

pub returns-in_err-totals-clause-refused : goal.returns-in_err-totals-clause-refused
returns-in_err-totals-clause-refused c =
    let same : answered c.from_residual.result ≡ number c.in_err-totals.field-0.0 = search rules in
    same
    ∙ ap (λ (o : WholeOutcome). o.answer.refusal)
    (whole c.args.input.now c.args.records.now c.args.rows.now _ c.compile_input.new.records c.compile_input.new.rows c.requires.0 c.requires.1
    c.in_err-totals.ensures)

pub returns-clause-refused : goal.returns-clause-refused
returns-clause-refused c =
    ap (λ (o : WholeOutcome). o.answer.refusal)
    (whole c.args.input.now c.args.records.now c.args.rows.now _ c.compile_input.new.records c.compile_input.new.rows c.requires.0 c.requires.1
    c.in_ok-totals.ensures)

pub returns-clause-totals : goal.returns-clause-totals
returns-clause-totals c =
    ap (λ (o : WholeOutcome). o.answer)
    (whole c.args.input.now c.args.records.now c.args.rows.now _ c.compile_input.new.records c.compile_input.new.rows c.requires.0 c.requires.1
    c.in_ok-totals.ensures)

pub returns-clause-written : goal.returns-clause-written
returns-clause-written c = (
  c.front-records.ensures
      ∙ records-lent c.args.input.now c.args.records.now c.args.rows.now _ c.compile_input.new.records c.compile_input.new.rows c.requires.0 c.requires.1
      c.in_ok-totals.ensures _ (ap (λ (j : Job). 4 * (j.n + j.m)) c.job_in.ensures.job),
  c.front-rows.ensures
      ∙ rows-lent c.args.input.now c.args.records.now c.args.rows.now _ c.compile_input.new.records c.compile_input.new.rows c.requires.0 c.requires.1
      c.in_ok-totals.ensures _ (ap (λ (n : ℕ). n * 2) c.from.ensures),
)
