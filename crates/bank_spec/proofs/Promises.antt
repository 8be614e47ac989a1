-- What the layers above may cite of the bank layer: the laws that say what its contracts' definitions mean. Each is proved in the file named.
-- Assumes nothing.

-- a bank and a book that agree
pub use Rattle.bank_spec.proofs.Related.{Related, same-outputs}
-- and do so after every call
pub use Rattle.bank_spec.proofs.AsBook.{fresh_related, call_same}
-- the lists of a state keep their lengths
pub use Rattle.bank_spec.proofs.StateSizes.{Sized, call_sized}
-- what the compiler writes is a compiled block
pub use Rattle.bank_spec.proofs.CompiledAs.{as_compiled}
-- which is well formed, has no cell with more outputs than its job allows, and its outputs are set to allowed values
pub use Rattle.bank_spec.proofs.CompiledBlocks.{compiled-bytes, compiled-formed, compiled-outputs, compiled-whole}
-- and it is one for every arrangement of its sheet's records
pub use Rattle.bank_spec.proofs.LineOrder.{compiled-same, allowed_same}
-- each block in a book has read some of its cells for its word; in a scan in which it is due, those among the first s
pub use Rattle.bank_spec.proofs.BookHolds.{book_runs, scan-outputs}
-- of a block that is due a scan reads every cell
pub use Rattle.bank_spec.proofs.Scans.{due-cells}
-- a right period and phase are small
pub use Rattle.bank_spec.proofs.Timed.{timed-small}
-- demand 3
pub use Rattle.bank_spec.proofs.Demand3.{demand3}
