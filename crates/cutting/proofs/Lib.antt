-- Laws that more than one source file needs. Laws of one source file stand in its folder.
pub mod Assembled
pub mod Enough
pub mod ListedCells
pub mod MemoryRefusals
pub mod Outcomes
pub mod Stores
