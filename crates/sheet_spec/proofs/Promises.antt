-- What the layers above may cite of the sheet layer: the laws that say what its contracts' definitions mean. Each is proved in the file named.
-- Assumes nothing.

-- a job and sheet that are refused by none of 1 to 6 are accepted; 1 is not given
pub use Rattle.sheet_spec.proofs.LeastRefusal.{job-accepted, sheet-accepted, given1}
-- of an accepted order its length
pub use Rattle.sheet_spec.proofs.RecordFields.{order-length}
-- how many inputs and outputs stand at heights h to 1, and which numbers are listed
pub use Rattle.sheet_spec.proofs.Orders.{ins-all, outs-all, ins_rise, outs_rise, ins-outs, input_below, output_below}
-- the same from one height to the next; each variable stands at one height
pub use Rattle.sheet_spec.proofs.OrderHeights.{ins_input, ins_output, outs_input, outs_output, ins_below_lem, outs_below, input_low, input_bit, output_number, output_listed, output_low, output_byte_lem, output_one, output_height, variable_one}
-- a word and its number read down the order
pub use Rattle.sheet_spec.proofs.Words.{number_bit, number_small, word_number}
-- the table's entries are the sheet's values, each 0, 1 or d
pub use Rattle.sheet_spec.proofs.Tables.{table-entry, table-length, table_below, value_below}
-- the order rule: the line of an output does not depend on the inputs below it
pub use Rattle.sheet_spec.proofs.LinesSettled.{ins_below, ins_below_at, ins_below_ins, table_ruled}
-- what a sheet says does not go by bits of a word outside the inputs; which record decides
pub use Rattle.sheet_spec.proofs.StopRecords.{value_low, stop_decides, ordinary_decides, free_unnamed}
-- the least refusal and the table before stop records; the least refusal of document 01; and when they are those of today
pub use Rattle.sheet_spec.proofs.OrdinarySheets.{AllOrdinary, refusal_before, table_before, refusal-kept, table_kept, Kept, kept_or_4}
pub use Rattle.sheet_spec.proofs.NamedInputs.{named_refusal, kept_or_4_6}
-- sheets with the same records, each as often, in any arrangement
pub use Rattle.sheet_spec.proofs.Arrangements.{value_same, refusal-same, table_same, fill_table-same}
-- the characteristic function allows what the sheet allows; a forced value allows itself alone
pub use Rattle.sheet_spec.proofs.Chi.{meets-allows, chi-allows, forced_only}
