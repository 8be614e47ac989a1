-- Laws that more than one source file needs.
pub mod Enumeration
pub mod ReadCell
pub mod SetRoom
