-- Laws of `src/gather.rt`.
pub mod FewRails
pub mod MovedSets
pub mod Parts
pub mod SetWords
