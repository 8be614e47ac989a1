-- Laws of the definitions. The crates of the layer may cite those that are `pub`, the layers above those of Promises alone.
pub mod Examples
pub mod MoveAnswers
pub mod MovedBytes
pub mod MovedRows
pub mod Promises
pub mod RoundTrips
pub mod SameCascade
