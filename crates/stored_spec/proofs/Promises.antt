-- What the layers above may cite of the stored form: the laws that say what its contracts' definitions mean. Each is proved in the file named.
-- Assumes nothing.

-- the sizes of a cell that fits, and what the methods of `Cell` answer of it
pub use Rattle.stored_spec.proofs.CellSizes.{fits_largest, few-inputs, few-outputs, usable_rows_lem, rows-small, usable_bits_lem, bits_small}
-- rails are enough for the width, and no fewer are
pub use Rattle.stored_spec.proofs.Rails.{rails-enough, rails-least, rails_at_lem, rails_top}
-- what well formed records and rows have
pub use Rattle.stored_spec.proofs.StoredParts.{records_have}
pub use Rattle.stored_spec.proofs.ReadWriteCases.{formed_parts, formed-records, row-bytes}
-- what their cells have, and a row at each address
pub use Rattle.stored_spec.proofs.FormedCells.{some-cell, rails_follow, row_within}
-- stored cascades survive reading and writing
pub use Rattle.stored_spec.proofs.RoundTrips.{read-write}
-- words that agree on the inputs of the cells read make the same run, and so do rows with the same values; words with the same bits 0 to 11 read the same rows
pub use Rattle.stored_spec.proofs.SameRuns.{same-run, SameInputs, same_place, kept-inputs, rail-within, same_rows}
-- rows and their bytes
pub use Rattle.stored_spec.proofs.RowForms.{length-row_bytes, bytes_small, row_kept, row_lt, row_two, room_two, room_rise, row_before, row_written, row_part}
-- a run keeps the number of outputs
pub use Rattle.stored_spec.proofs.Runs.{set-length}
