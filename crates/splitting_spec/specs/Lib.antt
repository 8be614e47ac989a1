-- Splitting a job in two (document 02, §9).
pub mod Split
pub mod Opened
