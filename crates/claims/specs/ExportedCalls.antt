-- Lists of the calls that C makes, on the bytes that it lends: what each answers, and the bytes after it, as the contracts of `cascade_bank_new`,
-- `cascade_admit_every`, `cascade_latch` and `cascade_step` (panel/src/lib.rt) equate them. `cascade_admit` is an admission with period 1 and
-- phase 0.
-- Assumes nothing.
use Rattle.std.specs.Prelude.{ℕ, List, [], ◌∷◌}
use Rattle.laws.specs.Lists.{puts_at}
use Rattle.bank_spec.specs.State.{State}
use Rattle.bank_spec.specs.Calls.{Answer}
use Rattle.bank_spec.specs.CallLists.{Call, admission, latching, stepping, Entry, outputs_held}
use Rattle.panel_calls.specs.declared.StepNumbers.{StepNumbers}
use Rattle.panel_calls.specs.StateBytes.{state_in, word_byte, number_of, step_numbers, new_bytes, admit_bytes, latch_bytes, step_bytes}

-- what C keeps between calls: the bytes of the bank and of the scan state, and the row memory
pub record Lent : Type 0 where
  pub bank : List ℕ
  pub scan : List ℕ
  pub rows : List ℕ

abbrev pub lent : List ℕ → List ℕ → List ℕ → Lent
lent bank scan rows = record { bank = bank; scan = scan; rows = rows }

-- the state that the bytes hold
abbrev pub held : Lent → State
held b = state_in b.bank b.scan b.rows

-- an exported function answers a number, or for a step its numbers
pub data Said : Type 0 where
  number : ℕ → Said
  numbers : StepNumbers → Said

-- what a call answers, and what is lent after it
pub record Exported : Type 0 where
  pub said : Said
  pub after : Lent

unfoldable pub exported : Lent → Call → Exported
exported b (admission h) =
    let r = admit_bytes b.bank b.scan b.rows h in
    record { said = number r.answer; after = lent r.bank r.scan r.rows }
exported b (latching ws) =
    let r = latch_bytes b.bank b.scan ws in
    record { said = number r.answer; after = lent r.bank r.scan b.rows }
exported b stepping =
    let r = step_bytes b.bank b.scan b.rows in
    record { said = numbers r.answer; after = lent r.bank r.scan r.rows }

-- a bank made with S in the bytes lent
unfoldable pub exported_new : ℕ → Lent → Exported
exported_new S b =
    let r = new_bytes S b.bank b.scan in
    record { said = number r.answer; after = lent r.bank r.scan b.rows }

-- each call is given the bytes as the last one left them
unfoldable pub lent_after : Lent → List Call → Lent
lent_after b [] = b
lent_after b (c ∷ cs) = let r = exported b c in lent_after r.after cs

-- compared after each call: what it answers, and each block's outputs as they stand in the bytes
pub record SaidEntry : Type 0 where
  pub said : Said
  pub outputs : List (List ℕ)

unfoldable pub exported_trace : Lent → List Call → List SaidEntry
exported_trace b [] = []
exported_trace b (c ∷ cs) =
    let r = exported b c in
    record { said = r.said; outputs = outputs_held (held r.after) } ∷ exported_trace r.after cs

-- the numbers that C gets for an answer to a call; for the answers to a list of calls
unfoldable pub said_of : Call → Answer → Said
said_of (admission h) a = number (number_of a)
said_of (latching ws) a = number (number_of a)
said_of stepping a = numbers (step_numbers a)

unfoldable pub in_numbers : List Call → List Entry → List SaidEntry
in_numbers [] es = []
in_numbers (c ∷ cs) [] = []
in_numbers (c ∷ cs) (e ∷ es) = record { said = said_of c e.answer; outputs = e.outputs } ∷ in_numbers cs es

-- the bytes with other words in the scan state, all else kept
abbrev pub with_words : Lent → List ℕ → Lent
with_words b ws = lent b.bank (puts_at 5 16 (word_byte ws) b.scan) b.rows
