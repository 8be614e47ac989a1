-- Laws of `src/formed.rt`.
pub mod HeldBlocks
