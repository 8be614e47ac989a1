-- What the functions of `block_text` cite.
pub mod BlockLine
pub mod Given
