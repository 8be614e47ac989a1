-- What the layers above may cite of this crate: what the definitions that its contracts name besides document 01's mean.
-- Assumes nothing.

-- the rows of a cell
pub use Rattle.stored.proofs.CellPlaces.{between, between_same}
-- what is told of any records is that of the stored form where they are well formed
pub use Rattle.stored.proofs.CellReads.{formed_fit, cells-all, cells-few, rows_counted_lem, rows_told, rows_told_lem, rails-told, few-rails, few-outs, some-rails, some-row, some-outputs}
