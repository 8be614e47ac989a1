-- Laws that more than one source file needs; other layers cite those of Promises alone. Laws of one source file stand in its folder.
pub mod CellPlaces
pub mod CellReads
pub mod Promises
pub mod RowBits
mod CellFound
pub mod CellSteps
mod Given
mod Walks
