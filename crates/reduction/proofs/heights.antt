-- Laws of `src/heights.rt`.
pub mod BelowInputOrOutput
pub mod CliqueProducts
pub mod CliquesFound
pub mod ColumnsByName
pub mod LoweringArrays
pub mod NodesStored
pub mod OneHeight
