-- Laws of `src/lines.rt`.
pub mod OrderLists
pub mod PlaceNumbers
pub mod TableMade
