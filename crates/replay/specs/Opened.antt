-- Definitions that proofs open together.
-- Assumes nothing.
use Rattle.replay.specs.Coded.{pair, triple, said_size, size, first, calls_to, left_after, calls_in, readable, code_of, fits, codes_of, all_fit}
use Rattle.replay.specs.Entries.{in_book, book_entries, on_bank, bank_after, kind_of, first_of, second_of, entry_bytes, trace_bytes}
use Rattle.replay.specs.Replay.{replay}

pub opened : Unit {0}
unfolding pair triple said_size size first calls_to left_after calls_in readable code_of fits codes_of all_fit in_book book_entries on_bank bank_after kind_of first_of second_of entry_bytes trace_bytes replay
opened = tt
