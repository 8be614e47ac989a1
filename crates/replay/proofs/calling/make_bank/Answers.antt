-- `replay::calling::make_bank` meets its contract.
-- Assumes nothing.
use mathlib.Core.Path.{◌≡◌, sym, ◌∙◌, ap}
use mathlib.Core.List.{List}
use Prim.Native.Nat.{ℕ}
use borrow.Author.Rules.{rules}
use Rattle.std.specs.Prelude.{Result}
use Rattle.refusals.specs.declared.Refusal.{Refusal}
use Rattle.refusals.specs.Numbers.{number, answered}
use Rattle.bank_spec.specs.declared.Bank.{Bank}
use Rattle.bank_spec.specs.declared.Scan.{Scan}
use Rattle.bank.specs.Given.{given_number, admission_given}
use Rattle.replay.proofs.OneCall.{made_given}
use Rattle.replay.proofs.calling.make_bank.Goals as goal

pub returns-in_err-made : goal.returns-in_err-made
returns-in_err-made c =
    let k = c.args.bank.now in
    let s = c.args.scan.now in
    let same : answered c.from_residual.result ≡ number c.in_err-made.field-0.0 = search rules in
    λ (rows : List ℕ). ap (λ (n : ℕ). given_number n k s rows) same
    ∙ ap (λ (x : Result (Bank × Scan) Refusal). admission_given x k s rows) (sym c.in_err-made.was)
    ∙ made_given k s c.args.limit rows c.start.result c.start.ensures

pub returns : goal.returns
returns c =
    let k = c.args.bank.now in
    let s = c.args.scan.now in
    λ (rows : List ℕ). ap (λ (x : Result (Bank × Scan) Refusal). admission_given x k s rows) (sym c.in_ok-made.was)
    ∙ made_given k s c.args.limit rows c.start.result c.start.ensures
