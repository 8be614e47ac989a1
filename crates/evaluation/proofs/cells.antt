-- Laws of `src/cells.rt`.
pub mod BegunCells
pub mod CellBits
pub mod CellRecords
pub mod EndedCells
pub mod ToldOutputs
