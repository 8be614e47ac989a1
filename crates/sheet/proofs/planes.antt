-- Laws of `src/planes.rt`.
pub mod MarkedPlanes
pub mod PlaceBlocks
