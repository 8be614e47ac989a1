-- Laws of `src/pairs.rt`.
pub mod ClashPairs
pub mod LoopSteps
