-- Document 01's cells and stored form, in the order to read them.
pub mod Cells
pub mod Rails
pub mod RowBytes
pub mod StoredForm
pub mod Run
pub mod ReadWrite
