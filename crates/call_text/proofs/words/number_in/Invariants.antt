-- `words::number_in` meets its contract.
-- Assumes nothing.
use mathlib.Core.Path.{◌≡◌}
use mathlib.Core.Bool.{true}
use Rattle.laws.specs.Tests.{every}
use Rattle.call_text.specs.Based.{based_to, is_based}
use Rattle.call_text.proofs.words.number_in.Given as goal

abbrev pub invariant-loop-c : goal.invariant-loop-c
invariant-loop-c l = record { counted : l.value ≡ based_to l.base l.text l.c-index; digits : every l.c-index (is_based l.base l.text) ≡ true }
