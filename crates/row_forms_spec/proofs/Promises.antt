-- What the layers above may cite of the move between the two forms of rows. Each is proved in the file named.
-- Assumes nothing.

-- each answer in its written case and no other; 15 exactly when some cell has more than 8 outputs
pub use Rattle.row_forms_spec.proofs.MoveAnswers.{answered, gives_0, SomeOver, none_over, fifteen_is, fifteen_so, never_fifteen}
-- what is moved is the same cascade
pub use Rattle.row_forms_spec.proofs.SameCascade.{SameCascade, records_left, rows_left, widened_same, narrowed-same}
-- up and back, back and up
pub use Rattle.row_forms_spec.proofs.MovedRows.{AreBytes}
pub use Rattle.row_forms_spec.proofs.RoundTrips.{back_same, up_and_back, back_and_up}
