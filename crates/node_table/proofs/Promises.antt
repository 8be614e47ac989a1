-- What the crates above may cite of the compiler over a node table. Each law is proved in the file named.
-- Assumes nothing.

-- an accepted job has at most 20 variables and 12,288 rows
pub use Rattle.node_table.proofs.WholeSizes.{whole-variables, whole-rows}
