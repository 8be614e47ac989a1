-- What the crates above may cite of the line that admits a block. Each law is proved in the file named.
-- Assumes nothing.

-- the text of bytes, read back
pub use Rattle.block_text.proofs.BytesBack.{AreBytes, text-long, text_most, bytes_back, bytes-said}
-- the line, read back
pub use Rattle.block_text.proofs.LineBack.{length-line, line_back, text_back, read_back}
-- the line is tidy
pub use Rattle.block_text.proofs.LineTidied.{block-tidied}
-- what the function answers where the line fits
pub use Rattle.block_text.proofs.WriteLaws.{write-whole}
