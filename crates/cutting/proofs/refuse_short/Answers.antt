-- `cutting::refuse_short` meets its contract.
-- Assumes nothing.
use mathlib.Core.Path.{sym}
use native.Mathlib.Omega.{arith}
use Rattle.cutting.proofs.MemoryRefusals.{is_9, is_10, is_11, is_0}
use Rattle.cutting.proofs.refuse_short.Goals as goal

pub returns-then-nodes-from : goal.returns-then-nodes-from
returns-then-nodes-from c = sym (is_9 _ _ _ _ _ _ (omega arith))

pub returns-then-records-t : goal.returns-then-records-t
returns-then-records-t c = sym (is_10 _ _ _ _ _ _ (omega arith) (omega arith))

pub returns-then-rows-total : goal.returns-then-rows-total
returns-then-rows-total c = sym (is_11 _ _ _ _ _ _ (omega arith) (omega arith) (omega arith))

pub returns : goal.returns
returns c = sym (is_0 _ _ _ _ _ _ (omega arith) (omega arith) (omega arith))
