-- `evaluation::gather::read_one` reads the rows of one rail word.
-- Assumes nothing.
use Rattle.evaluation.proofs.gather.read_one.Goals as goal

pub returns-then-p-lt64 : goal.returns-then-p-lt64
returns-then-p-lt64 c = c.read_either-few.ensures c.args.next.now
