-- Laws of `src/rows.rt`.
mod RowBytes
