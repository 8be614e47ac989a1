-- Laws of `src/formed.rt`.
mod RecordBits
