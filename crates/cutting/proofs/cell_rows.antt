-- Laws of `src/cell_rows.rt`.
pub mod BlockRows
pub mod RowSteps
pub mod RowWalks
pub mod RowsWritten
