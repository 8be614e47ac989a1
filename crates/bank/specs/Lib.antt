-- What the functions of `bank` cite.
pub mod Given
