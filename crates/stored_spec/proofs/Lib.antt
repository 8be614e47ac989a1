-- Laws of the definitions. The crates of the layer may cite those that are `pub`, the layers above those of Promises alone.
pub mod CellSizes
pub mod FormedCells
pub mod LowerRails
pub mod OneCell
pub mod OutputRecords
pub mod Promises
pub mod Rails
pub mod ReadWriteCases
pub mod RecordBytes
pub mod RoundTrips
pub mod RowForms
pub mod Runs
pub mod SameRuns
pub mod StoredCells
pub mod StoredParts
