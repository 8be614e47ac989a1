-- Laws of `src/state_bytes.rt`.
pub mod StateLaws
