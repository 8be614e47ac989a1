-- `evaluation::evaluate` meets its contract: what is told of each output by the rows that may be read is what every filling makes the cascade emit.
-- Assumes nothing.
use mathlib.Core.Path.{◌≡◌, sym, ◌∙◌, ap}
use mathlib.Core.List.{List}
use Prim.Native.Nat.{ℕ}
use Rattle.laws.specs.Lists.{tab}
use Rattle.laws.proofs.Cases.{cond_yes, cond_no}
use Rattle.laws.proofs.Lists.{tab_ext}
use Rattle.stored_spec.specs.StoredForm.{well_formed}
use Rattle.evaluation_spec.specs.Known.{evaluated, refused, certain, evaluate}
use Rattle.evaluation_spec.specs.RailSets.{told}
use Rattle.evaluation_spec.proofs.Exact.{told-certain}
use Rattle.evaluation.specs.Answer.{evaluation_of}
use Rattle.evaluation.proofs.evaluate.Goals as goal

pub returns-then-not-well_formed : goal.returns-then-not-well_formed
unfolding evaluate
returns-then-not-well_formed c =
    let a = c.args in
    let R = a.records.now in
    let bytes = a.rows.now in
    ap evaluation_of
    (sym
    (cond_no (well_formed R bytes) (evaluated (tab 8 (certain R bytes a.known a.word))) (refused 12)
    (sym c.well_formed-2.ensures ∙ c.if-not-well_formed.true)))

pub certain_outputs-requires : goal.certain_outputs-requires
certain_outputs-requires c = sym c.well_formed-2.ensures ∙ c.if-not-well_formed.false

pub returns : goal.returns
unfolding evaluate
returns c =
    let a = c.args in
    let R = a.records.now in
    let bytes = a.rows.now in
    let yes = sym c.well_formed-2.ensures ∙ c.if-not-well_formed.false in
    let same : tab 8 (told a.known a.word R bytes) ≡ tab 8 (certain R bytes a.known a.word) =
    sym (tab_ext (certain R bytes a.known a.word) (told a.known a.word R bytes) 8 (told-certain R bytes yes a.known a.word)) in
    ap (λ (l : List ℕ). record { refusal = 0; outputs = l }) (c.certain_outputs.ensures ∙ same)
    ∙ ap evaluation_of (sym (cond_yes (well_formed R bytes) (evaluated (tab 8 (certain R bytes a.known a.word))) (refused 12) yes))
