-- Which release the archive is of, and which layout lent memory has. include/cascade.h has the same two numbers.
-- Assumes nothing.
use Rattle.std.specs.Prelude.{ℕ, ◌+◌, ◌*◌}

-- major, minor and patch in one number
abbrev pub release : ℕ → ℕ → ℕ → ℕ
release major minor patch = 65536 * major + 256 * minor + patch

abbrev pub version : ℕ
version = release 2 0 0

-- changes when nodes, records, rows, table, bank or scan state are laid out otherwise; 1 had one byte a row, 2 no period, phase and scan number
abbrev pub layout : ℕ
layout = 3
