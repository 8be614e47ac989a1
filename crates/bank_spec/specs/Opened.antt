-- Names every definition of the layer that computes: a proof that says `unfolding bank_opened` computes with them all.
-- Assumes nothing.
use Rattle.bank_spec.specs.Due.{number_after, timed, due, due_cells}
use Rattle.bank_spec.specs.State.{records_of, due_at, cells_due, cells_before, rows_before, next_due, block_formed, bank_formed, scan_formed, formed, limit_refused}
use Rattle.bank_spec.specs.Calls.{answer_of, numbered, admit_refusal, with_block, admitted, admit, scan_from, keeps, words_kept, outputs_kept, latched, latch, next_row, outputs_of, moved, step}
use Rattle.bank_spec.specs.Book.{is_due, due_cells_of, cells_in, rows_in, book_refusal, wiped, entered, book_admit, places, latched_to, book_latch, read_cell, read_first, book_step}
use Rattle.bank_spec.specs.CallLists.{call, book_call, state_after, book_after, outputs_held, outputs_in_book, trace, book_trace, read_of, reads_of, steps_of, ends, goes_on}
use Rattle.bank_spec.specs.Scanned.{cells_of, begins_anew, last_cells, set_by, calls_of, stepped_out, is_whole, whole_reads}

unfoldable pub bank_opened : Unit {0}
unfolding number_after timed due due_cells records_of due_at cells_due cells_before rows_before next_due block_formed bank_formed scan_formed formed limit_refused answer_of numbered admit_refusal with_block admitted admit scan_from keeps words_kept outputs_kept latched latch next_row outputs_of moved step is_due due_cells_of cells_in rows_in book_refusal wiped entered book_admit places latched_to book_latch read_cell read_first book_step call book_call state_after book_after outputs_held outputs_in_book trace book_trace read_of reads_of steps_of ends goes_on cells_of begins_anew last_cells set_by calls_of stepped_out is_whole whole_reads
bank_opened = tt
