-- The case table of document 01, A to L, as one statement; E as document 02, §1, has it, and examples of §3, §6 and §8: S, W and P.
-- Assumes nothing.
use Rattle.std.specs.Prelude.{◌≡◌, false, List, [], ◌∷◌, ◌++◌, ℕ, replicate}
use Rattle.sheet_spec.specs.Refusals.{refuse1}
use Rattle.sheet_spec.specs.Table.{table}
use Rattle.cutting_spec.specs.Compile.{made}
use Rattle.cutting_spec.specs.Listing.{listing}
use Rattle.bank_spec.specs.State.{fresh}
use Rattle.bank_spec.specs.Calls.{Answer, accepted, refused, every_scan}
use Rattle.bank_spec.specs.Book.{new_book}
use Rattle.bank_spec.specs.CallLists.{Call, admission, Entry, trace, book_trace, state_after, book_after}
use Rattle.sheet_spec.specs.Example.{T, full_t, job_t, job_above, job_f, clashing, job_s, washing, unstopped}
use Rattle.cutting_spec.specs.Example.{records_a, row_bytes_a}
use Rattle.case_table.specs.Lent.{old_bytes, lending}
use Rattle.case_table.specs.Wide.{job_w, courses}
use Rattle.case_table.specs.Slow.{admitted, in_turn, three_scans, traced_scans}
use Rattle.case_table.specs.Results.{result_a, listing_a, result_b, result_c, result_f, result_s, answer_and_rows, answer_w, row_bytes_w, refused_with}

-- A's block admitted twice, on row memory for both
abbrev pub twice : List Call
twice = admission (every_scan records_a row_bytes_a) ∷ admission (every_scan records_a row_bytes_a) ∷ []

-- an answer with so many blocks held, nothing set
abbrev pub entry : Answer → ℕ → Entry
entry a k = record { answer = a; outputs = replicate k (replicate 8 2) }

pub record CaseTable : Type 0 where
  -- T, K 3, L 2: 15 nodes, the listing and the stored bytes
  pub A : lending 15 24 32 (job_t 3 2) T ≡ result_a
  pub A-listing : listing (job_t 3 2) (made (job_t 3 2) (table (job_t 3 2) T)) ≡ listing_a
  -- T, K 3, L 3: cut at 2
  pub B : lending 15 24 32 (job_t 3 3) T ≡ result_b
  -- T, K 4, L 2: one cell, 16 rows
  pub C : lending 15 24 32 (job_t 4 2) T ≡ result_c
  -- T, K 2, L 2: 8
  pub D : lending 15 24 32 (job_t 2 2) T ≡ refused_with 8 15 24 32
  -- T as sixteen full-mask records: all that A gives (document 02, §1)
  pub E : lending 15 24 32 (job_t 3 2) full_t ≡ result_a
  -- the same with y1 above x3, on which it depends: 6
  pub E-above : lending 15 24 32 job_above full_t ≡ refused_with 6 15 24 32
  -- empty sheet: widths 1 and 1, rows 0 0
  pub F : lending 3 9 5 job_f [] ≡ result_f
  -- F's job, one output forced both ways by records that match every word: 5
  pub G : lending 3 9 5 job_f clashing ≡ refused_with 5 3 9 5
  -- 2,056 bytes: 3; 7 bytes: 3
  pub H-long : lending 3 9 5 job_f (replicate 2056 0) ≡ refused_with 3 3 9 5
  pub H-odd : lending 3 9 5 job_f (replicate 7 0) ≡ refused_with 3 3 9 5
  -- A with 14 nodes lent: 9
  pub I : lending 14 24 32 (job_t 3 2) T ≡ refused_with 9 14 24 32
  -- A with 15 row bytes: 11, and so with 31, for a row has two (document 02, §6); with 23 record bytes: 10
  pub J-rows : lending 15 24 15 (job_t 3 2) T ≡ refused_with 11 15 24 15
  pub J-rows-wide : lending 15 24 31 (job_t 3 2) T ≡ refused_with 11 15 24 31
  pub J-records : lending 15 23 32 (job_t 3 2) T ≡ refused_with 10 15 23 32
  -- S 3, A's block twice: admitted, then 14, and what is lent and held is then as it was
  pub K : trace (fresh 3 (old_bytes 64)) twice ≡ entry accepted 1 ∷ entry (refused 14) 1 ∷ []
  pub K-kept : state_after (fresh 3 (old_bytes 64)) twice ≡ state_after (fresh 3 (old_bytes 64)) (admission (every_scan records_a row_bytes_a) ∷ [])
  pub K-book : book_trace 3 64 new_book twice ≡ entry accepted 1 ∷ entry (refused 14) 1 ∷ []
  -- S 4, the same: both
  pub L : trace (fresh 4 (old_bytes 64)) twice ≡ entry accepted 1 ∷ entry accepted 2 ∷ []
  pub L-rows : (state_after (fresh 4 (old_bytes 64)) twice).rows ≡ row_bytes_a ++ row_bytes_a
  pub L-book : book_trace 4 64 new_book twice ≡ entry accepted 1 ∷ entry accepted 2 ∷ []
  -- S 2, A's block in every second scan, with phases 0 and 1 (document 02, §8): both, for no scan reads four cells; with phase 0 twice: 14
  pub P : trace (fresh 2 (old_bytes 64)) in_turn ≡ entry accepted 1 ∷ entry accepted 2 ∷ []
  pub P-book : book_trace 2 64 new_book in_turn ≡ entry accepted 1 ∷ entry accepted 2 ∷ []
  pub P-one-phase : trace (fresh 2 (old_bytes 64)) (admitted 2 0 ∷ admitted 2 0 ∷ []) ≡ entry accepted 1 ∷ entry (refused 14) 1 ∷ []
  -- a period of 3, and a phase that is not below its period: 16, before 13 and 14 are asked
  pub P-period : trace (fresh 1 (old_bytes 64)) (admitted 3 0 ∷ []) ≡ entry (refused 16) 0 ∷ []
  pub P-phase : trace (fresh 1 (old_bytes 64)) (admitted 8 8 ∷ []) ≡ entry (refused 16) 0 ∷ []
  -- three scans: the blocks are read in turn, and each keeps its outputs and its word while the other is read
  pub P-scans : trace (state_after (fresh 2 (old_bytes 64)) in_turn) three_scans ≡ traced_scans
  pub P-scans-book : book_trace 2 64 (book_after 2 64 new_book in_turn) three_scans ≡ traced_scans
  -- a wash line opens the valve, a stop line closes it while the lid is open; with an ordinary line for the lid: 5
  pub S : lending 5 12 8 job_s washing ≡ result_s
  pub S-ordinary : lending 5 12 8 job_s unstopped ≡ refused_with 5 5 12 8
  -- a cell of nine outputs (document 02, §6): rows are pairs of bytes, low byte first
  pub W : answer_and_rows (lending 41 48 32 (job_w 9) courses) ≡ (answer_w, row_bytes_w)
  -- L may be 16 and not 17
  pub W-16 : refuse1 (job_w 16) ≡ false
  pub W-17 : lending 41 48 32 (job_w 17) courses ≡ refused_with 1 41 48 32
