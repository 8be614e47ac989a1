-- What the functions of `evaluation` cite.
pub mod Agreeing
pub mod BegunCell
pub mod Answer
pub mod ReadTo
