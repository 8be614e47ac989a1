-- `admissions::put_parts` meets its contract.
-- Assumes nothing.
use Rattle.call_text.proofs.CallLaws.{put_parts}
use Rattle.call_text.proofs.admissions.put_parts.Goals as goal

pub returns : goal.returns
returns c =
    put_parts c.args.records.now c.args.rows.now c.args.code.now _ _ c.args.at c.requires.2 c.put_bytes.ensures c.put_bytes-2.ensures
