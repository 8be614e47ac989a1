-- Laws of `src/stepping.rt`.
pub mod NextRead
pub mod StepCases
