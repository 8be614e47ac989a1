-- Laws of `src/merging.rt`.
pub mod CliqueNumbers
