-- Document 01's cuts, rows and compiler, in the order to read them.
pub mod Cuts
pub mod Choice
pub mod Greedy
pub mod Rows
pub mod Compile
pub mod Listing
pub mod Example
pub mod Opened
