-- Lemmas that proofs of several modules use.
pub mod Narrow
pub mod StdSteps
