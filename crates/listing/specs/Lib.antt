-- What the functions of `listing` cite.
pub mod Block
pub mod Known
pub mod Split
