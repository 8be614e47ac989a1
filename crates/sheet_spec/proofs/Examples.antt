-- Computed examples: the table of T, which is table 1 of document 000, and its words; stop records; the records of a sheet in another order.
-- Assumes nothing.
use mathlib.Core.Path.{◌≡◌, refl}
use mathlib.Core.Bool.{true, false}
use mathlib.Core.List.Perm
use mathlib.Core.List.{List, [], ◌∷◌, ◌++◌}
use Prim.Native.Nat.{ℕ}
use Rattle.sheet_spec.specs.Opened.{sheet_opened}
use Rattle.sheet_spec.specs.Job.{input_list, word_of, number_of}
use Rattle.sheet_spec.specs.Values.{value, depends}
use Rattle.sheet_spec.specs.Refusals.{sheet_refusal}
use Rattle.sheet_spec.specs.Table.{table}
use Rattle.sheet_spec.specs.Characteristic.{chi}
use Rattle.sheet_spec.specs.SameRecords.{times_in, SameRecords}
use Rattle.sheet_spec.specs.Example.{line, stop_line, T, full_t, job_t, job_above, job_f, clashing, job_s, washing, unstopped}
use Rattle.sheet_spec.proofs.Permuted.{permuted_same}

-- the lines of y2 and of y1, as the truth table prints them down its rows
abbrev y2 : List ℕ
y2 = 1 ∷ 1 ∷ 0 ∷ 0 ∷ 2 ∷ 2 ∷ 0 ∷ 1 ∷ 1 ∷ 1 ∷ 0 ∷ 0 ∷ 2 ∷ 2 ∷ 0 ∷ 1 ∷ []

abbrev y1 : List ℕ
y1 = 2 ∷ 2 ∷ 0 ∷ 0 ∷ 2 ∷ 2 ∷ 1 ∷ 1 ∷ 0 ∷ 0 ∷ 1 ∷ 1 ∷ 1 ∷ 1 ∷ 2 ∷ 2 ∷ []

pub T-accepted : sheet_refusal (job_t 3 2) T ≡ 0
unfolding sheet_opened
T-accepted = refl

pub T-table : table (job_t 3 2) T ≡ y2 ++ y1
unfolding sheet_opened
T-table = refl

-- as sixteen full-mask records it is the same function; y1 stands above x4 and does not depend on it
pub full-table : table (job_t 3 2) full_t ≡ y2 ++ y1
unfolding sheet_opened
full-table = refl

pub full-accepted : sheet_refusal (job_t 3 2) full_t ≡ 0
unfolding sheet_opened
full-accepted = refl

-- with y1 above x3, on which it depends, both are refused
pub above_refused : (sheet_refusal job_above T ≡ 6) × (sheet_refusal job_above full_t ≡ 6)
unfolding sheet_opened
above_refused = (refl, refl)

-- forced on one side and free on the other is dependence
pub forced_free : (depends 1 (line 1 0 1 0) 0 0 ≡ true) × (depends 1 (line 1 1 0 1) 0 0 ≡ true) × (depends 1 (line 1 0 1 0 ++ line 1 1 1 0) 0 0 ≡ false)
unfolding sheet_opened
forced_free = (refl, refl, refl)

pub clashing-refused : sheet_refusal job_f clashing ≡ 5
unfolding sheet_opened
clashing-refused = refl

-- places 00, 01, 10 and 11: the lid is open in the last two, and there the valve is shut. Without the stop line's mark it is a clash
pub washing-table : (sheet_refusal job_s washing ≡ 0) × (table job_s washing ≡ 2 ∷ 1 ∷ 0 ∷ 0 ∷ []) × (sheet_refusal job_s unstopped ≡ 5)
unfolding sheet_opened
washing-table = (refl, refl, refl)

-- a stop record's place in the sheet does not matter, nor which way it forces
pub stop-first : (table job_s (stop_line 1 1 1 0 ++ line 2 2 0 1) ≡ 2 ∷ 1 ∷ 0 ∷ 0 ∷ []) × (table job_s (stop_line 1 1 0 1 ++ line 2 2 1 0) ≡ 2 ∷ 0 ∷ 1 ∷ 1 ∷ [])
unfolding sheet_opened
stop-first = (refl, refl)

-- nor does that of any record: each that matches counts, and two clash also with a third between them
pub each_counts : (value (line 0 0 1 0 ++ line 0 0 0 2) 0 0 ≡ 0) × (value (line 0 0 0 2 ++ line 0 0 1 0) 0 0 ≡ 0)
unfolding sheet_opened
each_counts = (refl, refl)

pub clash-apart : sheet_refusal job_f (line 0 0 1 0 ++ line 1 1 0 0 ++ line 0 0 0 1) ≡ 5
unfolding sheet_opened
clash-apart = refl

-- two ordinary records clash where a stop record decides; two stop records clash
pub still_clashing : (sheet_refusal job_f (clashing ++ stop_line 0 0 1 0) ≡ 5) × (sheet_refusal job_f (stop_line 0 0 1 0 ++ stop_line 1 1 0 1) ≡ 5)
unfolding sheet_opened
still_clashing = (refl, refl)

-- a stop record decides only of the outputs that it names
pub stop-other : (value (line 0 0 0 1 ++ stop_line 0 0 2 0) 0 0 ≡ 1) × (value (line 0 0 0 1 ++ stop_line 0 0 2 0) 0 1 ≡ 0)
unfolding sheet_opened
stop-other = (refl, refl)

-- byte 6 of 2, byte 7 of 1 in a stop record, a stop record that forces an output both ways
pub kinds_refused : (sheet_refusal job_f (0 ∷ 0 ∷ 0 ∷ 0 ∷ 1 ∷ 0 ∷ 2 ∷ 0 ∷ []) ≡ 4) × (sheet_refusal job_f (0 ∷ 0 ∷ 0 ∷ 0 ∷ 1 ∷ 0 ∷ 1 ∷ 1 ∷ []) ≡ 4)
    × (sheet_refusal job_f (stop_line 0 0 1 1) ≡ 4)
unfolding sheet_opened
kinds_refused = (refl, refl, refl)

-- a stop record takes a dependence away, and makes one
pub stopped_dependence : (depends 1 (line 1 1 0 1 ++ stop_line 0 0 1 0) 0 0 ≡ false) × (depends 1 (line 0 0 0 1 ++ stop_line 1 1 1 0) 0 0 ≡ true)
unfolding sheet_opened
stopped_dependence = (refl, refl)

-- row 0011 of the truth table is the word with inputs 2 and 3
pub word_0011 : word_of (input_list (job_t 3 2)) 3 ≡ 12
unfolding sheet_opened
word_0011 = refl

pub number_0011 : number_of (input_list (job_t 3 2)) 12 ≡ 3
unfolding sheet_opened
number_0011 = refl

-- there both outputs are 0: the outputs 00 satisfy the characteristic function, 01 do not
pub chi_0011 : (chi 2 T 12 0 ≡ true) × (chi 2 T 12 1 ≡ false)
unfolding sheet_opened
chi_0011 = (refl, refl)

-- how often a record stands in a sheet; one that differs in its last byte alone is another
pub times_in_lem : (times_in (line 1 1 1 0 ++ line 2 2 0 1 ++ line 1 1 1 0) (line 1 1 1 0) ≡ 2)
    × (times_in (line 1 1 1 0) (1 ∷ 0 ∷ 1 ∷ 0 ∷ 1 ∷ 0 ∷ 0 ∷ 1 ∷ []) ≡ 0)
unfolding sheet_opened
times_in_lem = (refl, refl)

-- the wash line and the stop line in either order are the same records
pub washing_turned : SameRecords washing (stop_line 1 1 1 0 ++ line 2 2 0 1)
unfolding sheet_opened
washing_turned = permuted_same washing (stop_line 1 1 1 0 ++ line 2 2 0 1) (refl, refl) (Perm.swap (stop_line 1 1 1 0) (line 2 2 0 1) [])
