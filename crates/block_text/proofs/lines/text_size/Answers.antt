-- `lines::text_size` meets its contract.
-- Assumes nothing.
use mathlib.Core.Path.{sym}
use native.Mathlib.Omega.{arith}
use Rattle.block_text.proofs.BytesBack.{length_none, length_some}
use Rattle.block_text.proofs.Coded.{no_bytes, some_bytes}
use Rattle.block_text.proofs.lines.text_size.Goals as goal

pub returns-then-is_empty : goal.returns-then-is_empty
returns-then-is_empty c = (sym (length_none c.args.bytes.now (no_bytes c.args.bytes.now _ c.is_empty.ensures c.if-is_empty.true)), omega arith)

pub returns : goal.returns
returns c = (sym (length_some c.args.bytes.now (some_bytes c.args.bytes.now _ c.is_empty.ensures c.if-is_empty.false)), omega arith)
