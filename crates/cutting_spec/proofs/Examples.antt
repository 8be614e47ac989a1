-- Computed examples: the chosen lists of T, a job whose longest first cell costs bits, T's widths, cuts and rows, and A's stored form.
-- Assumes nothing.
use mathlib.Core.Path.{◌≡◌, refl}
use mathlib.Core.Bool.{true}
use mathlib.Core.List.{List, [], ◌∷◌, ◌++◌}
use Prim.Native.Nat.{ℕ}
use lib.ListN.{length, replicate}
use Rattle.sheet_spec.specs.Opened.{sheet_opened}
use Rattle.sheet_spec.specs.Job.{Job}
use Rattle.sheet_spec.specs.Refusals.{sheet_refusal}
use Rattle.sheet_spec.specs.Table.{table}
use Rattle.sheet_spec.specs.Example.{T, job_t}
use Rattle.reduction_spec.specs.Opened.{reduction_opened}
use Rattle.cutting_spec.specs.Opened.{cutting_opened}
use Rattle.stored_spec.specs.Cells.{bit_total}
use Rattle.cutting_spec.specs.Cuts.{cut_lists, cells_of}
use Rattle.stored_spec.specs.Rails.{rails}
use Rattle.cutting_spec.specs.Choice.{chosen}
use Rattle.cutting_spec.specs.Greedy.{greedy}
use Rattle.stored_spec.specs.StoredForm.{well_formed}
use Rattle.stored_spec.specs.Run.{run}
use Rattle.stored_spec.specs.ReadWrite.{read, not_read, cascade_of, write}
use Rattle.cutting_spec.specs.Compile.{made}
use Rattle.cutting_spec.specs.Example.{records_a, rows_a, row_bytes_a}

-- T's widths at the heights 0 to 6
abbrev widths_t : List ℕ
widths_t = 1 ∷ 2 ∷ 3 ∷ 4 ∷ 3 ∷ 2 ∷ 1 ∷ []

pub lists_to_3 : cut_lists 3 ≡ (3 ∷ 0 ∷ []) ∷ (3 ∷ 1 ∷ 0 ∷ []) ∷ (3 ∷ 2 ∷ 0 ∷ []) ∷ (3 ∷ 2 ∷ 1 ∷ 0 ∷ []) ∷ []
unfolding cutting_opened
lists_to_3 = refl

pub rails_are : (rails 1 ≡ 0) × (rails 2 ≡ 1) × (rails 3 ≡ 2) × (rails 4 ≡ 2) × (rails 512 ≡ 9)
unfolding cutting_opened
rails_are = (refl, refl, refl, refl, refl)

pub chosen_a : chosen (job_t 3 2) widths_t ≡ 6 ∷ 3 ∷ 0 ∷ []
unfolding sheet_opened cutting_opened
chosen_a = refl

-- equal bits, longer first cell
pub chosen_b : chosen (job_t 3 3) widths_t ≡ 6 ∷ 2 ∷ 0 ∷ []
unfolding sheet_opened cutting_opened
chosen_b = refl

pub chosen_c : chosen (job_t 4 2) widths_t ≡ 6 ∷ 0 ∷ []
unfolding sheet_opened cutting_opened
chosen_c = refl

pub chosen_d : chosen (job_t 2 2) widths_t ≡ []
unfolding sheet_opened cutting_opened
chosen_d = refl

-- order y2 x1 x2 y1, nothing forced: the longest first cell takes both inputs, 4 rows and then 1; one input in each cell makes 2 rows and 2
abbrev even_job : Job
even_job = record { n = 2; m = 2; K = 4; L = 1; order = 129 ∷ 0 ∷ 1 ∷ 128 ∷ [] }

abbrev even_widths : List ℕ
even_widths = 1 ∷ 1 ∷ 1 ∷ 1 ∷ 1 ∷ []

pub chosen_even : chosen even_job even_widths ≡ 4 ∷ 2 ∷ 0 ∷ []
unfolding sheet_opened cutting_opened
chosen_even = refl

-- these are the widths of the empty sheet; greedy cutting has as many cells there and more bits
pub greedy_even : (sheet_refusal even_job [] ≡ 0) × ((made even_job (table even_job [])).widths ≡ even_widths) × (greedy even_job even_widths ≡ 4 ∷ 1 ∷ 0 ∷ [])
    × (length (cells_of even_job even_widths (greedy even_job even_widths)) ≡ 2) × (length (cells_of even_job even_widths (chosen even_job even_widths)) ≡ 2)
    × (bit_total (cells_of even_job even_widths (greedy even_job even_widths)) ≡ 5) × (bit_total (cells_of even_job even_widths (chosen even_job even_widths)) ≡ 4)
unfolding sheet_opened reduction_opened cutting_opened
greedy_even = (refl, refl, refl, refl, refl, refl, refl)

pub T-made : ((made (job_t 3 2) (table (job_t 3 2) T)).widths ≡ widths_t) × ((made (job_t 3 2) (table (job_t 3 2) T)).records ≡ records_a) × ((made (job_t 3 2) (table (job_t 3 2) T)).rows ≡ rows_a)
unfolding sheet_opened reduction_opened cutting_opened
T-made = (refl, refl, refl)

-- A's stored form: well formed, not so with a row of 4; read, and written over other bytes
pub A-formed : well_formed records_a row_bytes_a ≡ true
unfolding sheet_opened cutting_opened
A-formed = refl

pub A-spoilt : read records_a (4 ∷ 0 ∷ 1 ∷ 0 ∷ 2 ∷ 0 ∷ 2 ∷ 0 ∷ 0 ∷ 0 ∷ 3 ∷ 0 ∷ 2 ∷ 0 ∷ 2 ∷ 0 ∷ 1 ∷ 0 ∷ 1 ∷ 0 ∷ 0 ∷ 0 ∷ 0 ∷ 0 ∷ 2 ∷ 0 ∷ 3 ∷ 0 ∷ 2 ∷ 0 ∷ 2 ∷ 0 ∷ []) ≡ not_read 12
unfolding sheet_opened cutting_opened
A-spoilt = refl

pub A-written : write (cascade_of records_a row_bytes_a) (replicate 25 9) (replicate 33 9)
    ≡ record { answer = 0; records = records_a ++ (9 ∷ []); rows = row_bytes_a ++ (9 ∷ []) }
unfolding sheet_opened cutting_opened
A-written = refl

-- run over x1x2x3x4 = 1010, the word 5: rail word 3 below the first cell; then y1 is 1 and y2 is 0
pub A-run : ((run records_a row_bytes_a 5 1).rail ≡ 3) × ((run records_a row_bytes_a 5 2).outputs ≡ 1 ∷ 0 ∷ 2 ∷ 2 ∷ 2 ∷ 2 ∷ 2 ∷ 2 ∷ [])
unfolding sheet_opened cutting_opened
A-run = (refl, refl)
