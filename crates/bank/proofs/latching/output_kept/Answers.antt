-- `bank::latching::output_kept` meets its contract.
-- Assumes nothing.
use mathlib.Core.Path.{sym, ◌∙◌}
use Prim.Native.Nat.{◌/◌}
use Rattle.laws.proofs.Cases.{cond_yes, cond_no}
use Rattle.bank_spec.specs.Calls.{keeps}
use Rattle.bank.proofs.latching.output_kept.Goals as goal

pub returns-then-keeps : goal.returns-then-keeps
returns-then-keeps c =
    let a = c.args in
    sym (cond_yes (keeps a.blocks.bank.now a.number (a.i / 8)) _ _ (sym c.keeps.ensures ∙ c.if-keeps.true))

pub returns : goal.returns
returns c =
    let a = c.args in
    sym (cond_no (keeps a.blocks.bank.now a.number (a.i / 8)) _ _ (sym c.keeps.ensures ∙ c.if-keeps.false))
