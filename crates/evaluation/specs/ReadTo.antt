-- What the code holds when it has read some records of a cascade.
-- Assumes nothing.
use Rattle.std.specs.Prelude.{◌≡◌, ℕ}
use Rattle.evaluation_spec.specs.RailSets.{no_rails, rail_set, some_outs, each_outs}
use Rattle.evaluation.specs.Answer.{told_by}
use Rattle.evaluation.specs.BegunCell.{ended_by, begun_at, begun_with}
pub use Rattle.evaluation.specs.declared.cells.Asked.{Asked}
pub use Rattle.evaluation.specs.declared.cells.Progress.{Progress}

-- the rail words and the outputs before the cell begun after i records
pub record Carried (q : Asked) (i : ℕ) (p : Progress) : Type 0 where
  pub set : p.set ≡ rail_set q.known q.word q.records.now q.rows.now (ended_by q.records.now i)
  pub spare : p.spare ≡ no_rails
  pub outputs : p.outputs ≡ told_by (some_outs q.known q.word q.records.now q.rows.now (ended_by q.records.now i)) (each_outs q.known q.word q.records.now q.rows.now (ended_by q.records.now i))

-- the first i records are read; besides the variable of record i
pub record ReadTo (q : Asked) (i : ℕ) (p : Progress) : Type 0 where
  pub begun : p.begun ≡ begun_at q.records.now q.known q.word i
  pub carried : Carried q i p

pub record ReadWith (q : Asked) (i : ℕ) (p : Progress) : Type 0 where
  pub begun : p.begun ≡ begun_with q.records.now q.known q.word i
  pub carried : Carried q i p
