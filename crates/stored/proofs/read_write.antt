-- Laws of `src/read_write.rt`.
mod Copies
pub mod RecordArrays
