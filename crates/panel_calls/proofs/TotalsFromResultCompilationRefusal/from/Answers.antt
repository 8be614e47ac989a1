-- `Totals::from` gives the totals of a compile, or its refusal.
-- Assumes nothing.
use mathlib.Core.Path.{sym, ap}
use Rattle.std.specs.Prelude.{Result}
use Rattle.cutting.specs.declared.Compilation.{Compilation}
use Rattle.cutting.specs.Outcome.{compilation_given}
use Rattle.refusals.specs.declared.Refusal.{Refusal}
use Rattle.panel_calls.specs.Exported.{totals_of}
use Rattle.panel_calls.proofs.TotalsFromResultCompilationRefusal.from.Goals as goal

pub returns-in-Ok : goal.returns-in-Ok
unfolding totals_of
returns-in-Ok c = sym (ap (λ (o : Result Compilation Refusal). totals_of (compilation_given o)) c.in-Ok.is)

pub returns-in-Err : goal.returns-in-Err
unfolding totals_of
returns-in-Err c = rw c.from.ensures (sym (ap (λ (o : Result Compilation Refusal). totals_of (compilation_given o)) c.in-Err.is))
