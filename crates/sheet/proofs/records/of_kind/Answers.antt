-- `sheet::records::of_kind` meets its contract.
-- Assumes nothing.
use mathlib.Core.Path.{refl}
use borrow.Author.Tests.{eq-eqb, ne_eqb}
use Rattle.sheet.proofs.records.of_kind.Goals as goal

pub returns-then-kind-asked : goal.returns-then-kind-asked
returns-then-kind-asked c = rw (eq-eqb c.args.kind c.args.asked c.if-kind-asked.true) refl

pub returns : goal.returns
returns c = rw (ne_eqb c.args.kind c.args.asked c.if-kind-asked.false) refl
