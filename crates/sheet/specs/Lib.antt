-- What the functions of `sheet` cite.
pub mod Depends
pub mod Pairs
pub mod Planes
