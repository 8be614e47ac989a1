-- An evaluation of a compiled block is never refused, and what it shows as 0 or 1 is allowed by the sheet for every filling of the unknown inputs.
-- Assumes nothing.
use mathlib.Core.Path.{◌≡◌, sym, ◌∙◌, subst}
use mathlib.Core.List.{List}
use Prim.Native.Nat.{ℕ, zero, suc, ◌<◌}
use native.Mathlib.Omega.{arith}
use lib.ListN.{get_or-eq_default}
use Rattle.laws.specs.Lists.{tab}
use Rattle.laws.proofs.Cases.{by_less, cond_yes}
use Rattle.laws.proofs.Lists.{length-tab, get_or-tab}
use Rattle.sheet_spec.specs.Job.{Job}
use Rattle.stored_spec.specs.StoredForm.{well_formed}
use Rattle.bank_spec.specs.Book.{Block}
use Rattle.bank_spec.specs.Demand3.{CompiledBy, SetAllowed}
use Rattle.bank_spec.proofs.Promises.{compiled-formed, compiled-whole}
use Rattle.evaluation_spec.specs.Emits.{emits}
use Rattle.evaluation_spec.specs.Known.{certain, evaluate}
use Rattle.evaluation_spec.proofs.Promises.{fills_is, Always, zero_is, one_is}
use Rattle.claims.specs.KnownInputs.{ShownAllowed}

module _ (j : Job) (s : List ℕ) (B : Block) (c : CompiledBy j s B) (known w : ℕ) where
  always : (o b : ℕ) → b < 2 → certain B.records B.rows known w o ≡ b → Always B.records B.rows known w o b
  always o zero l e = zero_is B.records B.rows known w o e
  always o (suc zero) l e = one_is B.records B.rows known w o e
  always o (suc (suc b)) l e = absurd (omega arith)

  emitted : (v o : ℕ) → o < j.m → SetAllowed s v o (emits B.records B.rows v o)
  unfolding emits
  emitted v o l = compiled-whole j s B c v o l

  pub shown-allowed : ShownAllowed j s B known w
  unfolding evaluate
  shown-allowed =
      let R = B.records in
      let bytes = B.rows in
      let f = certain R bytes known w in
      record {
        outputs = tab 8 f;
        shown = cond_yes (well_formed R bytes) _ _ (compiled-formed j s B c);
        allowed = λ o b l m e v small fill.
            let is : f o ≡ b =
            by_less o 8 (λ h. sym (get_or-tab f 2 8 o h) ∙ e)
            (λ h. let z = sym (get_or-eq_default (tab 8 f) 2 {n = o} (omega (arith, length-tab f 8))) ∙ e in absurd (omega (arith, z))) in
            subst (SetAllowed s v o) (always o b m is v small (fills_is known w v fill)) (emitted v o l);
      }
