-- Laws of `src/words.rt`.
pub mod LentWords
