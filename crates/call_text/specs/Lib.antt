-- What the functions of `call_text` cite.
pub mod Based
pub mod Given
pub mod Known
pub mod Lines
pub mod Opened
pub mod Tidy
pub mod Timed
pub mod Wanted
pub mod Words
