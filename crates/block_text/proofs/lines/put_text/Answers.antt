-- `lines::put_text` meets its contract.
-- Assumes nothing.
use mathlib.Core.Path.{◌≡◌, sym, ◌∙◌, ap}
use mathlib.Core.List.{List}
use Prim.Native.Nat.{ℕ, ◌+◌, ◌-◌, ◌*◌}
use native.Mathlib.Omega.{arith}
use lib.ListN.{length, drop, length-take, length-drop}
use Rattle.laws.specs.Lists.{written}
use Rattle.hex.specs.Hex.{encode_lower}
use Rattle.block_text.proofs.BytesBack.{length_none, length_some, text-some}
use Rattle.block_text.proofs.WriteLaws.{put_none}
use Rattle.call_text.proofs.CallLaws.{mid_written}
use Rattle.block_text.proofs.Coded.{coded, no_bytes, some_bytes}
use Rattle.block_text.proofs.lines.put_text.Goals as goal

pub bounds-text-at : goal.bounds-text-at
bounds-text-at c =
    let R = c.args.bytes.now in
    omega (arith, c.requires, length_none R (no_bytes R _ c.is_empty.ensures c.if-is_empty.true))

pub returns-then-is_empty : goal.returns-then-is_empty
returns-then-is_empty c =
    let R = c.args.bytes.now in
    let none = no_bytes R _ c.is_empty.ensures c.if-is_empty.true in
    let n = length_none R none in
    record { value = sym n; text_after = put_none R c.args.text.now c.args.at none (omega (arith, c.requires)) }

pub overflow_add-at : goal.overflow_add-at
overflow_add-at c =
    let R = c.args.bytes.now in
    omega (arith, c.requires, length_some R (some_bytes R _ c.is_empty.ensures c.if-is_empty.false))

pub slice_bounds-encode_to_slice-end : goal.slice_bounds-encode_to_slice-end
slice_bounds-encode_to_slice-end c =
    let R = c.args.bytes.now in
    omega (arith, c.requires, length_some R (some_bytes R _ c.is_empty.ensures c.if-is_empty.false))

pub unwrap-requires : goal.unwrap-requires
unwrap-requires c =
    let R = c.args.bytes.now in
    let n = length_some R (some_bytes R _ c.is_empty.ensures c.if-is_empty.false) in
    let k = c.args.at + 2 * length R - c.args.at in
    c.encode_to_slice.ensures.fits.1 (omega (arith, length-take k (drop c.args.at c.args.text.now), length-drop c.args.at c.args.text.now, c.requires, n))

pub returns : goal.returns
returns c =
    let R = c.args.bytes.now in
    let some = some_bytes R _ c.is_empty.ensures c.if-is_empty.false in
    let n = length_some R some in
    let made : c.encode_to_slice.new.output ≡ encode_lower R = rw c.unwrap.ensures at c.encode_to_slice.ensures.written in
    let text = made ∙ sym (coded R (λ i. omega (arith, c.type_inv.bytes i))) ∙ sym (text-some R some) in
    record {
      value = sym n;
      text_after =
          mid_written c.args.at (c.args.at + 2 * length R - c.args.at) c.args.text.now c.encode_to_slice.new.output (omega (arith, ap length text, n))
          ∙ ap (λ (s : List ℕ). written c.args.text.now c.args.at s) text;
    }
