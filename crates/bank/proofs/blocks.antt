-- Laws of `src/blocks.rt`.
pub mod CountedCells
