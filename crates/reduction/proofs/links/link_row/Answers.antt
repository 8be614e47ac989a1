-- `reduction::links::link_row` meets its contract.
-- Assumes nothing.
use mathlib.Core.Path.{◌∙◌, ap}
use mathlib.Core.Bool.{Bool}
use Prim.Native.Nat.{ℕ}
use lib.Dec.{eqb}
use Rattle.laws.specs.Tests.{any}
use Rattle.laws.specs.Bits.{flag}
use Rattle.laws.proofs.Bits.{flag_is}
use Rattle.reduction.specs.Distinct.{linked_words}
use Rattle.laws.proofs.Puts.{puts_at_ext}
use Rattle.laws.proofs.Marks.{marks-any}
use Rattle.reduction.proofs.links.link_row.Goals as goal

pub returns : goal.returns
returns c =
    let a = c.args in
    let f : ℕ → Bool = linked_words a.planes.now.zero a.planes.now.one a.size a.firsts.now a.c in
    let h = c.fill_row.ensures in record {
      value = ap (λ (k : ℕ). eqb k 1) (c.store_row.ensures.value ∙ marks-any _ f a.w h.flags) ∙ flag_is (any a.w f);
      link_after = c.store_row.ensures.link_after ∙ puts_at_ext _ (λ d. flag (f d)) _ a.w a.link.now h.flags;
    }
