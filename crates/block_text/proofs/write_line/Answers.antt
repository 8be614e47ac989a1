-- `write_line` meets its contract.
-- Assumes nothing.
use mathlib.Core.Path.{◌≡◌}
use Prim.Native.Nat.{◌+◌, ◌≤◌}
use native.Mathlib.Omega.{arith}
use lib.ListN.{length}
use Rattle.block_text.specs.BlockLine.{block_line}
use Rattle.block_text.proofs.BytesBack.{AreBytes}
use Rattle.block_text.proofs.LineBack.{length-line}
use Rattle.block_text.proofs.WriteLaws.{few_bytes, write_many, write-short, write-whole, reads_back}
use Rattle.block_text.proofs.write_line.Goals as goal

pub returns-then-records-rows : goal.returns-then-records-rows
returns-then-records-rows c =
    let a = c.args in
    record {
      text_after = write_many a.records.now a.rows.now a.text.now c.if-records-rows.true;
      reads_back = tt;
    }

pub text_size-requires : goal.text_size-requires
text_size-requires c =
    let a = c.args in
    (few_bytes a.records.now a.rows.now c.if-records-rows.false).0

pub text_size-requires-2 : goal.text_size-requires-2
text_size-requires-2 c =
    let a = c.args in
    (few_bytes a.records.now a.rows.now c.if-records-rows.false).1

pub returns-then-text-size : goal.returns-then-text-size
returns-then-text-size c =
    let a = c.args in
    let few = few_bytes a.records.now a.rows.now c.if-records-rows.false in
    let size = length-line a.records.now a.rows.now in
    record {
      text_after = write-short a.records.now a.rows.now a.text.now few.0 few.1 (omega arith);
      reads_back = tt;
    }

pub returns : goal.returns
returns c =
    let R = c.args.records.now in
    let Q = c.args.rows.now in
    let few = few_bytes R Q c.if-records-rows.false in
    let are-R : AreBytes R = λ i. omega (arith, c.type_inv.records i) in
    let are-Q : AreBytes Q = λ i. omega (arith, c.type_inv.rows i) in
    let size : 8 + c.text_size.result + c.text_size-2.result ≡ length (block_line R Q) = omega (arith, length-line R Q) in
    let room : length (block_line R Q) ≤ length c.args.text.now = omega (arith, c.if-text-size.false) in
    let wrote = c.put_line.ensures in
    record {
      text_after = write-whole R Q c.args.text.now _ _ few.0 few.1 size room wrote;
      reads_back = reads_back R Q c.args.text.now _ _ are-R are-Q few.0 few.1 size wrote;
    }
