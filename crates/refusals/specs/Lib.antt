-- What the refusals' contracts cite.
pub mod Numbers
