-- Laws of `src/pass.rt`.
pub mod Ends
pub mod Invariant
pub mod Loop
