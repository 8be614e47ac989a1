-- Laws of the definitions. The crates of the layer may cite those that are `pub`, the layers above those of Promises alone.
mod AdmitAsBook
pub mod AsBook
mod BookHolds
mod BookScans
mod BookUnread
mod CallLists
pub mod CompiledAs
mod CompiledBlocks
pub mod Demand3
mod Examples
mod EightLatches
mod Entered
pub mod FewestRails
mod LastCells
mod LatchAsBook
mod LatchKeeps
pub mod LineOrder
mod NextDue
pub mod Promises
pub mod Related
mod Reworded
mod ScanClaims
mod Scans
mod SlowExamples
pub mod StateSizes
mod StepAsBook
pub mod StopOutputs
pub mod Timed
mod UnreadInputs
pub mod UpperBits
