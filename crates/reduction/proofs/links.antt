-- Laws of `src/links.rt`.
pub mod FirstBytes
pub mod LinkRows
