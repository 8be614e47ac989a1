-- `replay::calling::CallAnswer::from` meets its contract.
-- Assumes nothing.
use Rattle.replay.proofs.OneCall.{answer_accepted, answer-refused}
use Rattle.replay.proofs.calling.CallAnswerFromResultUnitRefusal.from.Goals as goal

pub returns-in-Ok : goal.returns-in-Ok
returns-in-Ok c = answer_accepted c.in-Ok.is

pub returns-in-Err : goal.returns-in-Err
returns-in-Err c = answer-refused c.in-Err.refusal c.in-Err.is
