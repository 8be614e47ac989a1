-- `sheet::planes::number_words` meets its contract.
-- Assumes nothing.
use mathlib.Core.Path.{◌≡◌}
use lib.ListN.{get_or}
use Rattle.laws.specs.Lists.{puts}
use Rattle.sheet.specs.Planes.{number_to}
use Rattle.sheet.proofs.planes.number_words.Given as goal

abbrev pub invariant-loop-k : goal.invariant-loop-k
invariant-loop-k l = l.numbers ≡ puts 256 (λ r. number_to (get_or l.initial.numbers r 0) l.inputs l.k (get_or l.words r 0)) l.initial.numbers
