-- Laws of `src/records.rt`.
pub mod RecordsWritten
