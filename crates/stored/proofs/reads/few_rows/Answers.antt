-- `few_rows` counts the rows of at most 80 bytes.
-- Assumes nothing.
use mathlib.Core.Path.{refl}
use lib.ListN.{length}
use borrow.Author.Tests.{le-leb, lt-leb}
use Rattle.stored.specs.Reads.{cells_fit_as}
use Rattle.stored.proofs.reads.few_rows.Goals as goal

pub returns-then-records-le-MOST_RECORD_BYTES : goal.returns-then-records-le-MOST_RECORD_BYTES
unfolding cells_fit_as
returns-then-records-le-MOST_RECORD_BYTES c = rw (le-leb (length c.args.records.now) 80 c.if-records-le-MOST_RECORD_BYTES.true) c.rows_of.ensures

pub returns : goal.returns
unfolding cells_fit_as
returns c = rw (lt-leb (length c.args.records.now) 80 c.if-records-le-MOST_RECORD_BYTES.false) refl
