-- What the functions of `cutting` cite.
pub mod Levels
pub mod Outcome
pub mod Plan
pub mod RowWalks
pub mod Spans
pub mod Ways
