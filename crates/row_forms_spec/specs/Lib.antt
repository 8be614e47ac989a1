-- The move of a stored cascade between one byte a row and two (document 02, §7).
pub mod Moves
