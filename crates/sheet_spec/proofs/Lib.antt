-- Laws of the definitions. The crates of the layer may cite those that are `pub`, the layers above those of Promises alone.
pub mod Arrangements
pub mod Chi
pub mod Clashes
pub mod Dependence
mod Examples
pub mod LeastRefusal
pub mod LinesSettled
pub mod NamedInputs
pub mod OrderHeights
pub mod OrderRule
pub mod Orders
pub mod OrdinarySheets
pub mod Permuted
pub mod Promises
pub mod RecordFields
pub mod StopRecords
pub mod Tables
pub mod Words
