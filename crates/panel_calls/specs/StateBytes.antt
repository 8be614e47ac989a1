-- The bank and the scan state as C lends them: bytes.
--   bank, 667 bytes: S (two bytes, the low byte first), how many blocks are held, and of each of 8 places the number of records, the records, 80 bytes,
--     the period and the phase
--   scan state, 86 bytes: not 0 while reads are left, block, cell, rail word (two bytes), eight words (two bytes each), 64 outputs, 8 a place, the number
--     of the scan
-- Assumes nothing.
use Rattle.std.specs.Prelude.{ℕ, ◌+◌, ◌*◌, ◌/◌, ◌%◌, Bool, true, false, cond, not, List, [], ◌∷◌, ◌++◌, eqb, get_or}
use Rattle.laws.specs.Bits.{flag}
use Rattle.laws.specs.Lists.{tab, puts}
use Rattle.bank_spec.specs.declared.Bank.{Bank}
use Rattle.bank_spec.specs.declared.Scan.{Scan}
use Rattle.bank_spec.specs.State.{State, empty_bank, at_rest, limit_refused, state_of}
use Rattle.bank_spec.specs.Calls.{Answer, accepted, refused, idle, went, After, Handed, admit, latch, step}
pub use Rattle.panel_calls.specs.declared.StepNumbers.{StepNumbers}

-- the number in the two bytes at place i
abbrev pub pair_at : List ℕ → ℕ → ℕ
pair_at l i = get_or l i 0 + 256 * get_or l (i + 1) 0

unfoldable pub bank_in : List ℕ → Bank
bank_in l =
    record {
      limit = pair_at l 0;
      count = get_or l 2 0;
      lengths = tab 8 (λ i. get_or l (3 + i) 0);
      records = tab 640 (λ i. get_or l (11 + i) 0);
      periods = tab 8 (λ i. get_or l (651 + i) 0);
      phases = tab 8 (λ i. get_or l (659 + i) 0);
    }

unfoldable pub scan_in : List ℕ → Scan
scan_in l =
    record {
      running = not (eqb (get_or l 0 0) 0);
      block = get_or l 1 0;
      cell = get_or l 2 0;
      rail = pair_at l 3;
      number = get_or l 85 0;
      words = tab 8 (λ i. pair_at l (5 + 2 * i));
      outputs = tab 64 (λ i. get_or l (21 + i) 0);
    }

unfoldable pub bank_bytes : Bank → List ℕ
bank_bytes k =
    k.limit % 256 ∷ k.limit / 256 ∷ k.count
    ∷ (tab 8 (λ i. get_or k.lengths i 0) ++ tab 640 (λ i. get_or k.records i 0)
    ++ tab 8 (λ i. get_or k.periods i 0) ++ tab 8 (λ i. get_or k.phases i 0))

-- byte i of the eight words
unfoldable pub word_byte : List ℕ → ℕ → ℕ
word_byte ws i = let w = get_or ws (i / 2) 0 in cond (eqb (i % 2) 0) (w % 256) (w / 256)

unfoldable pub scan_bytes : Scan → List ℕ
scan_bytes s =
    flag s.running ∷ s.block ∷ s.cell ∷ s.rail % 256 ∷ s.rail / 256
    ∷ (tab 16 (word_byte s.words) ++ tab 64 (λ i. get_or s.outputs i 0) ++ (s.number ∷ []))

-- what a call changes is stored over the bytes lent
unfoldable pub changes : Answer → Bool
changes accepted = true
changes (refused n) = false
changes idle = false
changes (went b c) = true

unfoldable pub bank_lent : After State → List ℕ → List ℕ
bank_lent r old = cond (changes r.answer) (puts 667 (λ i. get_or (bank_bytes r.state.bank) i 0) old) old

unfoldable pub scan_lent : After State → List ℕ → List ℕ
scan_lent r old = cond (changes r.answer) (puts 86 (λ i. get_or (scan_bytes r.state.scan) i 0) old) old

-- the state that bytes and the row memory are
abbrev pub state_in : List ℕ → List ℕ → List ℕ → State
state_in bank scan rows = state_of (bank_in bank) (scan_in scan) rows

-- a bank made with S: 1 where S is out of range
unfoldable pub made : ℕ → After State
made S =
    cond (limit_refused S) (record { answer = refused 1; state = state_of (empty_bank 0) at_rest [] })
    (record { answer = accepted; state = state_of (empty_bank S) at_rest [] })

-- the number of an answer, 0 where nothing is refused
unfoldable pub number_of : Answer → ℕ
number_of accepted = 0
number_of (refused n) = n
number_of idle = 0
number_of (went b c) = 0

-- a step's answer: kind 1 with block and cell that were read, 0 for Idle, 2 with the number of the refusal
unfoldable pub step_numbers : Answer → StepNumbers
step_numbers accepted = record { kind = 0; block = 0; cell = 0; refusal = 0 }
step_numbers (refused n) = record { kind = 2; block = 0; cell = 0; refusal = n }
step_numbers idle = record { kind = 0; block = 0; cell = 0; refusal = 0 }
step_numbers (went b c) = record { kind = 1; block = b; cell = c; refusal = 0 }

-- what a call answers, and each memory that it is lent, after
pub record CallBytes (A : Type 0) : Type 0 where
  pub answer : A
  pub bank : List ℕ
  pub scan : List ℕ
  pub rows : List ℕ

abbrev pub called : {A : Type 0} → A → List ℕ → List ℕ → List ℕ → CallBytes A
called a bank scan rows = record { answer = a; bank = bank; scan = scan; rows = rows }

unfoldable pub new_bytes : ℕ → List ℕ → List ℕ → CallBytes ℕ
new_bytes S bank scan = let r = made S in called (number_of r.answer) (bank_lent r bank) (scan_lent r scan) []

unfoldable pub admit_bytes : List ℕ → List ℕ → List ℕ → Handed → CallBytes ℕ
admit_bytes bank scan rows block =
    let r = admit (state_in bank scan rows) block in
    called (number_of r.answer) (bank_lent r bank) (scan_lent r scan) r.state.rows

-- a latch and a step leave the bank, and a step the rows, as they were
unfoldable pub latch_bytes : List ℕ → List ℕ → List ℕ → CallBytes ℕ
latch_bytes bank scan words =
    let r = latch (state_in bank scan []) words in
    called (number_of r.answer) bank (scan_lent r scan) []

unfoldable pub step_bytes : List ℕ → List ℕ → List ℕ → CallBytes StepNumbers
step_bytes bank scan rows =
    let r = step (state_in bank scan rows) in
    called (step_numbers r.answer) bank (scan_lent r scan) rows
