-- Laws of `src/cover.rt`.
pub mod CliqueLeaves
pub mod KeySteps
pub mod KeysGiveCover
pub mod LeastKey
pub mod RunningCounts
