-- What the layers above may cite of evaluations: the laws that say what their definitions mean. Each is proved in the file named.
-- Assumes nothing.

-- a filling, as a test and as a fact
pub use Rattle.evaluation_spec.proofs.Words.{Fills}
pub use Rattle.evaluation_spec.proofs.Mixed.{fills_is, fills_so}
-- what is certain, by every filling; more inputs known
pub use Rattle.evaluation_spec.proofs.Learning.{Always, zero_is, zero_so, one_is, one_so, unknown_is, unknown_so, learning}
-- all inputs known; outputs that the cascade lacks; what has no effect
pub use Rattle.evaluation_spec.proofs.Effects.{all_known, lacking, SameKnown, same_known}
