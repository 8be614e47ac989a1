-- Laws of `src/cells.rt`.
pub mod RowsStored
