-- Laws of the definitions. The crates of the layer may cite those that are `pub`, the layers above those of Promises alone.
pub mod Better
pub mod CellRead
pub mod ChosenCuts
pub mod CutLists
pub mod Demand2
pub mod Emits
mod Examples
pub mod GreedyCells
mod KeptBytes
pub mod LineOrder
pub mod MadeCascade
pub mod Promises
pub mod RailCounts
pub mod RowLimit
mod RowRead
pub mod StoredCuts
pub mod StoredWell
