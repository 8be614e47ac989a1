-- What the functions of `stored` cite.
pub mod Formed
pub mod Places
pub mod Reads
pub mod RecordArrays
pub mod Walks
