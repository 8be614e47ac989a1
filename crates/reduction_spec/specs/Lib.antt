-- Document 01's columns, merging and diagram, in the order to read them; then walks over the diagram.
pub mod Numbering
pub mod Columns
pub mod Cofactors
pub mod Compatible
pub mod Cover
pub mod Merge
pub mod Diagram
pub mod Given
pub mod Reduction
pub mod Walk
pub mod Compare
pub mod Descent
pub mod Opened
