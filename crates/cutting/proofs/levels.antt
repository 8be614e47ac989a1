-- Laws of `src/levels.rt`.
pub mod LevelLists
