-- `panel_calls::compile` meets its contract.
-- Assumes nothing.
use mathlib.Core.Path.{◌≡◌, refl, sym, ◌∙◌, ap}
use mathlib.Core.List.{List}
use Prim.Native.Nat.{ℕ}
use lib.ListN.{length}
use Rattle.std.specs.Prelude.{Result, Ok, Err}
use Rattle.refusals.specs.declared.Refusal.{Refusal}
use Rattle.refusals.proofs.Promises.{never-zero}
use Rattle.cutting.specs.declared.Compilation.{Compilation}
use Rattle.cutting.specs.Outcome.{Outcome, compilation_given}
use Rattle.panel_calls.specs.Exported.{totals_of, widths_lent, compile_bytes}
use Rattle.panel_calls.proofs.LentWidths.{widths-made, widths-kept}
use Rattle.panel_calls.proofs.compile.Goals as goal
use Rattle.panel_calls.proofs.compile.Goals.{in-Ok, in_default}

pub returns : goal.returns
unfolding compile_bytes
returns c =
    let e = c.compile-outcome.ensures in
    let old = c.args.widths.now in
    let of_outcome : Result Compilation Refusal → List ℕ = λ o. widths_lent (compilation_given o) old in
    let widths : c.match-outcome.widths ≡ of_outcome c.compile-outcome.result =
    elim c.match-outcome.branch [
      | in-Ok w ↦ w.widths-is ∙ w.copy_from_slice.ensures.after ∙ widths-made (compilation_given (Ok w.in-Ok.made)) old refl
          (sym (ap (λ (l : List ℕ). length l) w.copy_from_slice.ensures.after) ∙ w.copy_from_slice.ensures.len ∙ c.told-widths) c.told-widths ∙ sym (ap of_outcome w.in-Ok.is)
      | in_default w ↦ w.widths-is ∙ widths-kept (compilation_given (Err w.in_default.field-0)) old (never-zero w.in_default.field-0) ∙ sym (ap of_outcome w.in_default.is)
    ] in
    rw (
      c.from.ensures ∙ ap (λ (x : Outcome). totals_of x.answer) e,
      ap (λ (x : Outcome). x.nodes) e,
      ap (λ (x : Outcome). x.records) e,
      ap (λ (x : Outcome). x.rows) e,
      widths ∙ ap (λ (x : Outcome). widths_lent x.answer old) e,
    ) refl
