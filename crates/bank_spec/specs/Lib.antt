-- The bank, its book and demand 3, in the order to read them.
pub mod Due
pub mod State
pub mod Calls
pub mod Book
pub mod CallLists
pub mod Scanned
pub mod Demand3
pub mod Opened
