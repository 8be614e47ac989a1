-- Laws of `src/packed.rt`.
pub mod Planes
pub mod PlanesHalved
pub mod PlanesMade
