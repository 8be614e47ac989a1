-- `reduction::links::spread_byte` meets its contract.
-- Assumes nothing.
use mathlib.Core.Path.{◌≡◌, sym, ◌∙◌, ap}
use Prim.Native.Nat.{ℕ, ◌*◌}
use native.Mathlib.Nat.{not-suc-le-zero}
use lib.ListN.{get_or}
use Rattle.laws.proofs.Cases.{last_or_below}
use Rattle.laws.proofs.Puts.{puts_at-none, puts_at-next}
use Rattle.reduction.specs.FirstBytes.{byte_of, first_word, byte_at}
use native.Mathlib.Omega.{arith}
use Rattle.reduction.proofs.links.spread_byte.Goals as goal

pub loop-c-init : goal.loop-c-init
loop-c-init c =
    let a = c.args in
    (sym (puts_at-none (byte_at a.words.now a.size a.firsts.now a.x) (a.x * 512) a.bytes.now), λ i k. absurd (not-suc-le-zero k))

pub loop-c-preserved : goal.loop-c-preserved
unfolding byte_at first_word
loop-c-preserved c =
    let l = c.loop-c in
    let a = c.args in
    let e = c.from.ensures in
    let new : c.byte_of.result ≡ byte_at a.words.now a.size a.firsts.now a.x l.c =
    c.byte_of.ensures.0 ∙ ap (λ (p : ℕ). byte_of (get_or a.words.now (p * a.size) 0) a.x) e in (
      puts_at-next (byte_at a.words.now a.size a.firsts.now a.x) (a.x * 512) l.c a.bytes.now l.bytes _ l.invariant.0 new,
      (λ i k. last_or_below i l.c (omega arith) (λ s. rw s (rw e at c.byte_of.ensures.1)) (λ j. l.invariant.1 i j)),
    )

pub returns : goal.returns
returns c =
    let l = c.loop-c in
    let e : l.c ≡ c.args.w = omega arith in
    record {
      bytes_after = rw e at l.invariant.0;
      short = rw e at l.invariant.1;
    }
