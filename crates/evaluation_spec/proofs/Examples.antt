-- Computed examples: evaluations of case A's cascade (document 01) and of one whose rows have nine bits, by the definition and by the sets of
-- rail words.
-- Assumes nothing.
use mathlib.Core.Path.{◌≡◌, refl}
use mathlib.Core.Bool.{true, false}
use mathlib.Core.List.{List, [], ◌∷◌}
use Prim.Native.Nat.{ℕ}
use lib.ListN.{take}
use Rattle.laws.specs.Lists.{tab}
use Rattle.stored_spec.specs.Cells.{rows, fits}
use Rattle.stored_spec.specs.RowBytes.{row_value, room}
use Rattle.stored_spec.specs.StoredForm.{with_variable, with_cut, reading, stored_cells, cell_count, cell_at, size_of, rows_before, row_count, record_formed, cell_formed_as, records_formed_as, rows_formed_as, well_formed_as}
use Rattle.stored_spec.specs.Run.{address, row_place, set_outputs, outputs_after, rail_after, ran_one_by, run_by}
use Rattle.evaluation_spec.specs.Emits.{emits}
use Rattle.evaluation_spec.specs.Known.{fills, always, certain, unknown, refused, evaluated, evaluate}
use Rattle.evaluation_spec.specs.RailSets.{is_in, with_rail, with_row, told_of, agrees, may_read, row_at, read_at, gathered, rail_set, some_outs, each_outs, told}

-- computes with every definition named
unfoldable opened : Unit {0}
unfolding rows fits with_variable with_cut reading stored_cells cell_count cell_at size_of rows_before row_count record_formed cell_formed_as records_formed_as rows_formed_as well_formed_as row_value room address row_place set_outputs outputs_after rail_after ran_one_by run_by emits fills always certain evaluate is_in with_rail with_row told_of agrees may_read row_at read_at gathered rail_set some_outs each_outs told
opened = tt

-- x1, x2, x3, a cut with 2 rails, y1, x4, y2
abbrev records_a : List ℕ
records_a = 0 ∷ 0 ∷ 0 ∷ 0 ∷ 1 ∷ 0 ∷ 0 ∷ 0 ∷ 2 ∷ 1 ∷ 2 ∷ 0 ∷ 128 ∷ 0 ∷ 0 ∷ 0 ∷ 3 ∷ 0 ∷ 0 ∷ 0 ∷ 129 ∷ 1 ∷ 0 ∷ 0 ∷ []

abbrev rows_a : List ℕ
rows_a =
    0 ∷ 0 ∷ 1 ∷ 0 ∷ 2 ∷ 0 ∷ 2 ∷ 0 ∷ 0 ∷ 0 ∷ 3 ∷ 0 ∷ 2 ∷ 0 ∷ 2 ∷ 0 ∷ 1 ∷ 0 ∷ 1 ∷ 0 ∷ 0 ∷ 0 ∷ 0 ∷ 0 ∷ 2 ∷ 0 ∷ 3 ∷ 0 ∷ 2 ∷ 0 ∷ 2 ∷ 0 ∷ []

-- x1x2x3 = 101, x4 unknown: y1 and y2 are 1 and 0 for either x4. The cascade lacks y3 to y8
pub either_x4 : evaluate records_a rows_a 7 5 ≡ evaluated (1 ∷ 0 ∷ 2 ∷ 2 ∷ 2 ∷ 2 ∷ 2 ∷ 2 ∷ [])
unfolding opened
either_x4 = refl

-- x1x2x3 = 010, x4 unknown: y2 is x4
pub needs_x4 : certain records_a rows_a 7 2 1 ≡ unknown
unfolding opened
needs_x4 = refl

-- x1x2 = 00, x3 and x4 unknown: y1 is 0
pub needs_neither : certain records_a rows_a 3 0 0 ≡ 0
unfolding opened
needs_neither = refl

-- a row too few
pub row_missing : evaluate records_a (take 30 rows_a) 7 5 ≡ refused 12
unfolding opened
row_missing = refl

-- the same by the sets of rail words
pub told_either : tab 8 (told 7 5 records_a rows_a) ≡ 1 ∷ 0 ∷ 2 ∷ 2 ∷ 2 ∷ 2 ∷ 2 ∷ 2 ∷ []
unfolding opened
told_either = refl

pub told_needs : tab 8 (told 7 2 records_a rows_a) ≡ 1 ∷ 2 ∷ 2 ∷ 2 ∷ 2 ∷ 2 ∷ 2 ∷ 2 ∷ []
unfolding opened
told_needs = refl

-- of the rail words 0 to 3 the first two may occur before the second cell, and none of their rows has y1
pub two_rail_words : tab 4 (is_in (rail_set 3 0 records_a rows_a 1)) ≡ true ∷ true ∷ false ∷ false ∷ []
unfolding opened
two_rail_words = refl

pub told_neither : tab 8 (told 3 0 records_a rows_a) ≡ 0 ∷ 2 ∷ 2 ∷ 2 ∷ 2 ∷ 2 ∷ 2 ∷ 2 ∷ []
unfolding opened
told_neither = refl

-- x2x3x4 = 101, x1 unknown, and bits without effect: that of x1 and those above 11
pub told_others : tab 8 (told 61454 61451 records_a rows_a) ≡ 1 ∷ 1 ∷ 2 ∷ 2 ∷ 2 ∷ 2 ∷ 2 ∷ 2 ∷ []
unfolding opened
told_others = refl

-- x1, y1 to y8, a cut with 1 rail, x2: a row of the first cell has nine bits, and y1 is the highest
abbrev records_b : List ℕ
records_b =
    0 ∷ 0 ∷ 0 ∷ 0 ∷ 128 ∷ 0 ∷ 0 ∷ 0 ∷ 129 ∷ 0 ∷ 0 ∷ 0 ∷ 130 ∷ 0 ∷ 0 ∷ 0 ∷ 131 ∷ 0 ∷ 0 ∷ 0 ∷ 132 ∷ 0 ∷ 0 ∷ 0 ∷ 133 ∷ 0 ∷ 0 ∷ 0
    ∷ 134 ∷ 0 ∷ 0 ∷ 0 ∷ 135 ∷ 1 ∷ 1 ∷ 0 ∷ 1 ∷ 1 ∷ 0 ∷ 0 ∷ []

-- 256 and 259, then four rows without outputs
abbrev rows_b : List ℕ
rows_b = 0 ∷ 1 ∷ 3 ∷ 1 ∷ 0 ∷ 0 ∷ 0 ∷ 0 ∷ 0 ∷ 0 ∷ 0 ∷ 0 ∷ []

-- x1 unknown: y1 is 1 for either, y8 is x1
pub nine_bits : evaluate records_b rows_b 4094 0 ≡ evaluated (1 ∷ 0 ∷ 0 ∷ 0 ∷ 0 ∷ 0 ∷ 0 ∷ 2 ∷ [])
unfolding opened
nine_bits = refl

pub told_nine : tab 8 (told 4094 0 records_b rows_b) ≡ 1 ∷ 0 ∷ 0 ∷ 0 ∷ 0 ∷ 0 ∷ 0 ∷ 2 ∷ []
unfolding opened
told_nine = refl

-- a row of the second cell, which has no outputs, is not 0
pub row_too_large : evaluate records_b (0 ∷ 1 ∷ 3 ∷ 1 ∷ 0 ∷ 1 ∷ 0 ∷ 0 ∷ 0 ∷ 0 ∷ 0 ∷ 0 ∷ []) 4094 0 ≡ refused 12
unfolding opened
row_too_large = refl
