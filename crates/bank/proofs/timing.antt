-- Laws of `src/timing.rt`.
pub mod DueTests
