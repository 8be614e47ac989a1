-- `job_in` gives the job and the sheet of the input.
-- Assumes nothing.
use mathlib.Core.Path.{◌≡◌, refl, ◌∙◌}
use mathlib.Core.List.{List}
use Prim.Native.Nat.{ℕ, ◌+◌}
use lib.ListN.{get_or, take, drop}
use Rattle.sheet_spec.specs.Job.{job}
use Rattle.listing.specs.Split.{order_of, sheet_of, job_of}
use Rattle.listing.proofs.job_in.Goals as goal

job_same : (input after order : List ℕ) (n m k l : ℕ)
    → n ≡ get_or input 0 0 → m ≡ get_or input 1 0 → k ≡ get_or input 2 0 → l ≡ get_or input 3 0
    → after ≡ drop 4 input → order ≡ take (n + m) after → job n m k l order ≡ job_of input
unfolding order_of
job_same input after order n m k l en em ek el ea eo = rw (eo, ea, en, em, ek, el) refl

sheet_same : (input rest : List ℕ) (n m : ℕ) → n ≡ get_or input 0 0 → m ≡ get_or input 1 0 → rest ≡ drop (4 + (n + m)) input → rest ≡ sheet_of input
unfolding sheet_of
sheet_same input rest n m en em e = e ∙ rw (en, em) refl

pub returns-clause-job : goal.returns-clause-job
returns-clause-job c =
    job_same c.args.input.now _ _ _ _ _ _ (c.from-n.ensures ∙ c.byte_at.ensures) (c.from-m.ensures ∙ c.byte_at-2.ensures)
    (c.from-k.ensures ∙ c.byte_at-3.ensures) (c.from-l.ensures ∙ c.byte_at-4.ensures) c.behind.ensures c.front-order.ensures

pub returns-clause-sheet : goal.returns-clause-sheet
returns-clause-sheet c =
    sheet_same c.args.input.now _ _ _ (c.from-n.ensures ∙ c.byte_at.ensures) (c.from-m.ensures ∙ c.byte_at-2.ensures) c.behind-2.ensures
