-- A cell of which some records are read, as the code holds it.
-- Assumes nothing.
use Rattle.std.specs.Prelude.{ℕ, zero, suc, ◌≤◌, ◌<◌, ◌+◌, ◌-◌, ◌*◌, ◌/◌, ◌^◌, cond, List, [], ◌∷◌, eqb, length}
use Rattle.std.specs.Int.Bits.{bit_and}
use Rattle.laws.specs.Bits.{bit}
use Rattle.sheet_spec.specs.Job.{is_input}
use Rattle.stored_spec.specs.StoredForm.{Reading, variable, cut_byte, with_variable, reading, rows_before}
use Rattle.stored_spec.specs.Run.{address}
pub use Rattle.evaluation.specs.declared.cells.Begun.{Begun}
pub use Rattle.evaluation.specs.declared.gather.Addresses.{Addresses}

-- what a cell begun keeps to
pub record Few (c : Begun) : Type 0 where
  pub ins : c.ins ≤ 20
  pub outs : c.outs ≤ 20
  pub mask : c.mask < 2 ^ c.ins
  pub value : c.value < 2 ^ c.ins
  pub count : c.count ≤ 2 ^ c.ins

-- the cells that i records end, and the first record of the cell begun after them
abbrev pub ended_by : List ℕ → ℕ → ℕ
ended_by R i = length (reading R i).ended

unfoldable pub start_of : List ℕ → ℕ → ℕ
start_of R zero = 0
start_of R (suc i) = cond (eqb (cut_byte R i) 1) (suc i) (start_of R i)

-- with one input more the fillings are the same where it is known, else twice as many
unfoldable pub more_fillings : ℕ → ℕ → ℕ
more_fillings known count = cond (eqb known 1) count (count * 2)

unfoldable pub fillings : ℕ → ℕ → List ℕ → ℕ
fillings known count [] = count
fillings known count (i ∷ is) = fillings known (more_fillings (bit known i) count) is

-- the cell with the variable v
unfoldable pub with_var : ℕ → ℕ → Begun → ℕ → Begun
with_var known w c v =
    cond (is_input v)
    (record {
      from = c.from;
      at = c.at;
      upper = c.upper;
      ins = c.ins + 1;
      outs = c.outs;
      mask = c.mask * 2 + bit known v;
      value = c.value * 2 + bit (bit_and w known) v;
      count = more_fillings (bit known v) c.count;
    })
    (record { from = c.from; at = c.at; upper = c.upper; ins = c.ins; outs = c.outs + 1; mask = c.mask; value = c.value; count = c.count })

-- its rows that agree with the known inputs, where it ends with so many rails
unfoldable pub addresses_of : Begun → ℕ → Addresses
addresses_of c rail =
    record {
      at = c.at;
      block = 2 ^ c.ins;
      mask = c.mask;
      value = c.value;
      free = 2 ^ c.ins - 1 - c.mask;
      count = c.count;
      low = 2 ^ rail - 1;
      words = (2 ^ c.upper + 63) / 64;
    }

-- the cell below it, which begins at record from
unfoldable pub next_cell : Begun → ℕ → ℕ → Begun
next_cell c from rail =
    record { from = from; at = c.at + 2 ^ (c.upper + c.ins); upper = rail; ins = 0; outs = 0; mask = 0; value = 0; count = 1 }

-- the cell begun by a reading of records
unfoldable pub begun_by : ℕ → ℕ → ℕ → ℕ → Reading → Begun
begun_by known w from at s =
    record {
      from = from;
      at = at;
      upper = s.upper;
      ins = length s.ins;
      outs = length s.outs;
      mask = address 0 s.ins known;
      value = address 0 s.ins (bit_and w known);
      count = fillings known 1 s.ins;
    }

-- by the first i records; with the variable of record i besides
unfoldable pub begun_at : List ℕ → ℕ → ℕ → ℕ → Begun
begun_at R known w i = begun_by known w (start_of R i) (rows_before R (ended_by R i)) (reading R i)

unfoldable pub begun_with : List ℕ → ℕ → ℕ → ℕ → Begun
begun_with R known w i = begun_by known w (start_of R i) (rows_before R (ended_by R i)) (with_variable (reading R i) (variable R i))
