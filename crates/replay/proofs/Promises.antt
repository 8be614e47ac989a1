-- What other crates may cite of lists of calls in bytes. Each law is proved in the file named.
-- Assumes nothing.

-- a list of calls that fit is read back, and so is an older admission
pub use Rattle.replay.proofs.Written.{calls_coded, coded_readable, older_calls, older_readable}
