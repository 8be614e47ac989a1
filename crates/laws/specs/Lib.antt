-- The shared definitions.
pub mod Tests
pub mod Lists
pub mod Bits
pub mod Turns
