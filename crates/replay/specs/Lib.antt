-- What the functions of `replay` cite.
pub mod Coded
pub mod Entries
pub mod Opened
pub mod Replay
