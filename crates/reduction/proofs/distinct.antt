-- Laws of `src/distinct.rt`.
pub mod ColumnHashes
pub mod NumberedSoFar
