-- How many variables and rows a job has that is accepted over a node table that has room for every diagram.
-- Assumes nothing.
use mathlib.Core.Path.{◌≡◌, sym, ◌∙◌, ap}
use mathlib.Core.Bool.{false, false≢true}
use mathlib.Core.List.{List}
use Prim.Native.Nat.{ℕ, zero, suc, ◌≤◌}
use native.Mathlib.Omega.{arith}
use lib.Dec.{eqb}
use lib.ListN.{length}
use borrow.Author.Tests.{eq-eqb}
use Rattle.laws.proofs.Cases.{either, cond_yes, cond_no}
use Rattle.sheet_spec.specs.Job.{Job, t}
use Rattle.sheet_spec.specs.Refusals.{refuse1, refuse2, refuse3, refuse4, refuse5, refuse6, sheet_refusal}
use Rattle.sheet_spec.specs.Table.{table}
use Rattle.reduction_spec.specs.declared.Node.{Node}
use Rattle.reduction_spec.specs.Merge.{refuse7}
use Rattle.reduction_spec.specs.Reduction.{reduction_refusal}
use Rattle.reduction_spec.proofs.Promises.{few-variables}
use Rattle.cutting_spec.specs.Compile.{CompiledAs, made, totals, refusal, acceptance, compile}
use Rattle.cutting_spec.proofs.Promises.{case, Lowest, refuses, accepts, decided}
use Rattle.cutting.specs.Outcome.{answered}
use Rattle.cutting.proofs.Enough.{rows_few}
use Rattle.node_table.specs.Nodes.{empty_table, whole_outcome}

module _ (records rows : List ℕ) (j : Job) (s : List ℕ) where
  abbrev held : List Node → List Node
  held xs = xs

  -- 0 is no refusal's number
  numbered : (n : ℕ) → Lowest held empty_table records rows j s n → n ≡ 0 → ⊥
  numbered zero l e = false≢true l.holds
  numbered (suc n) l e = omega arith

  module _ (e : (whole_outcome records rows j s).answer.refusal ≡ 0) where
    no_case : (n : ℕ) → n ≤ 11 → case held empty_table records rows j s n ≡ false
    unfolding whole_outcome compile refusal
    no_case =
        either (decided held empty_table records rows j s)
        (λ l.
        let is = refuses held empty_table records rows j s l.0 l.1 l.2 in
        absurd (numbered l.0 l.2 (sym (ap (λ (r : CompiledAs Node). (answered r.answer).refusal) is) ∙ e)))
        (λ none. none)

    sheet_taken : sheet_refusal j s ≡ 0
    unfolding sheet_refusal
    sheet_taken =
        cond_no (refuse1 j) _ _ (no_case 1 (omega arith)) ∙ cond_no (refuse2 j) _ _ (no_case 2 (omega arith))
        ∙ cond_no (refuse3 s) _ _ (no_case 3 (omega arith)) ∙ cond_no (refuse4 j s) _ _ (no_case 4 (omega arith))
        ∙ cond_no (refuse5 j s) _ _ (no_case 5 (omega arith)) ∙ cond_no (refuse6 j s) _ _ (no_case 6 (omega arith))

    slim : refuse7 j (table j s) ≡ false
    slim = no_case 7 (omega arith)

    rows_made : (whole_outcome records rows j s).answer.rows ≡ length (made j (table j s)).rows
    unfolding whole_outcome compile acceptance totals
    rows_made = ap (λ (r : CompiledAs Node). (answered r.answer).rows) (accepts held empty_table records rows j s no_case)

    pub whole-variables : t j ≤ 20
    unfolding reduction_refusal
    whole-variables =
        few-variables j s (cond_yes (eqb (sheet_refusal j s) 0) _ _ (eq-eqb (sheet_refusal j s) 0 sheet_taken) ∙ cond_no (refuse7 j (table j s)) _ _ slim)

    pub whole-rows : (whole_outcome records rows j s).answer.rows ≤ 12288
    whole-rows = omega (arith, rows_made, rows_few j s sheet_taken slim (no_case 8 (omega arith)))
