-- `rails_of` finds the rails of a cell, if there is one.
-- Assumes nothing.
use mathlib.Core.Path.{refl}
use lib.ListN.{length}
use borrow.Author.Tests.{le-leb, lt-leb}
use Rattle.stored.specs.Reads.{rails_in, cell_rails}
use Rattle.stored.proofs.reads.rails_of.Goals as goal

pub returns-then-records-gt-MOST_RECORD_BYTES : goal.returns-then-records-gt-MOST_RECORD_BYTES
unfolding cell_rails
returns-then-records-gt-MOST_RECORD_BYTES c = rw (lt-leb (length c.args.records.now) 80 c.if-records-gt-MOST_RECORD_BYTES.true) refl

pub returns : goal.returns
unfolding rails_in cell_rails
returns c = rw (le-leb (length c.args.records.now) 80 c.if-records-gt-MOST_RECORD_BYTES.false) c.find_rails.ensures
