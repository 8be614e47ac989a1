-- Laws of `src/latching.rt`.
pub mod LatchCases
