-- Document 02's §8 on A's block: admitted twice with period 2, and three scans.
-- Assumes nothing.
use Rattle.std.specs.Prelude.{List, [], ◌∷◌, ℕ, replicate}
use Rattle.bank_spec.specs.Calls.{Answer, accepted, idle, went, handed}
use Rattle.bank_spec.specs.CallLists.{Call, admission, latching, stepping, Entry}
use Rattle.cutting_spec.specs.Example.{records_a, row_bytes_a}

abbrev pub admitted : ℕ → ℕ → Call
admitted period phase = admission (handed records_a row_bytes_a period phase)

abbrev pub in_turn : List Call
in_turn = admitted 2 0 ∷ admitted 2 1 ∷ []

-- in each scan a word for each block, of which only that of the due one is taken: 5 is x1x2x3x4 = 1010
abbrev pub three_scans : List Call
three_scans =
    latching (5 ∷ 5 ∷ [])
    ∷ stepping ∷ stepping ∷ stepping
    ∷ latching (0 ∷ 0 ∷ [])
    ∷ stepping ∷ stepping
    ∷ latching (0 ∷ 5 ∷ [])
    ∷ stepping
    ∷ []

-- y1 and y2 are 1 and 0 for the word 5, and 0 and 1 for the word 0
abbrev pub for5 : List ℕ
for5 = 1 ∷ 0 ∷ 2 ∷ 2 ∷ 2 ∷ 2 ∷ 2 ∷ 2 ∷ []

abbrev pub for0 : List ℕ
for0 = 0 ∷ 1 ∷ 2 ∷ 2 ∷ 2 ∷ 2 ∷ 2 ∷ 2 ∷ []

abbrev pub unset : List ℕ
unset = replicate 8 2

abbrev pub told : Answer → List ℕ → List ℕ → Entry
told a x y = record { answer = a; outputs = x ∷ y ∷ [] }

abbrev pub traced_scans : List Entry
traced_scans =
    told accepted unset unset
    ∷ told (went 0 0) unset unset
    ∷ told (went 0 1) for5 unset
    ∷ told idle for5 unset
    ∷ told accepted for5 unset
    ∷ told (went 1 0) for5 unset
    ∷ told (went 1 1) for5 for0
    ∷ told accepted unset for0
    ∷ told (went 0 0) unset for0
    ∷ []
