-- What holds of a job and a sheet that pass refusals 1 to 4: the order and the records can be read (document 01, "Who can cause a refusal").
-- Assumes nothing.
use Rattle.std.specs.Prelude.{◌≡◌, ℕ, ◌≤◌, false, List}
use Rattle.sheet_spec.specs.Refusals.{not_each_once, refuse3, any_malformed}
use Rattle.sheet_spec.specs.Limits.{most_inputs, most_outputs}

-- what the code that writes the table relies on
pub record Accepted (n m : ℕ) (order s : List ℕ) : Type 0 where
  pub inputs : n ≤ most_inputs
  pub outputs : m ≤ most_outputs
  pub order-whole : not_each_once n m order ≡ false
  pub length-good : refuse3 s ≡ false
  pub records-good : any_malformed n m s ≡ false
