-- Laws of `src/records.rt`.
pub mod RecordTests
