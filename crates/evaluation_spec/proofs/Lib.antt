-- Laws of the definitions. The crates of the layer may cite those that are `pub`.
pub mod Effects
pub mod Examples
pub mod Exact
pub mod Gathering
pub mod Learning
pub mod Mixed
pub mod Occurring
pub mod Outputs
pub mod Promises
pub mod Words
