-- Laws of `src/row_bytes.rt`.
pub mod BytesPut
