-- The case table: what it lends and expects, and the statement.
pub mod Lent
pub mod Results
pub mod Slow
pub mod Wide
pub mod Table
