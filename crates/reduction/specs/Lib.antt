-- What the functions of `reduction` cite.
pub mod ColumnHashes
pub mod Distinct
pub mod FirstBytes
pub mod Lowering
pub mod Packed
pub mod RunningKeys
