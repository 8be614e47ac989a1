-- What the layers above may cite of the cutting layer: the laws that say what its contracts' definitions mean. Each is proved in the file named.
-- Assumes nothing.

-- demand 2: each refusal in its written case and no other
pub use Rattle.cutting_spec.proofs.Demand2.{case, Lowest, refuses, accepts, decided}
-- the widths that the answer holds
pub use Rattle.cutting_spec.proofs.RailCounts.{width_at}
-- the records written: their number, cuts and rails
pub use Rattle.cutting_spec.proofs.StoredCuts.{length-stored, stored_cut, stored-rails, cuts-some}
-- the cascade made: its cells, and what a run over it gives
pub use Rattle.cutting_spec.proofs.MadeCascade.{cells_count, made-formed, made-outputs, made-count, made-cuts, made-run, made-emits, made_all}
pub use Rattle.cutting_spec.proofs.Emits.{Emitted, emitted-allowed, compiled-unset}
-- the answer and the three memories of sheets with the same records, each as often, in any arrangement; of sheets that 3 refuses
pub use Rattle.cutting_spec.proofs.LineOrder.{compile-same, unread_same}
