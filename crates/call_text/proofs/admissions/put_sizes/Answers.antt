-- `admissions::put_sizes` meets its contract.
-- Assumes nothing.
use mathlib.Core.Path.{◌≡◌, ◌∙◌}
use native.Mathlib.Omega.{arith}
use lib.ListN.{length, length-set}
use Rattle.call_text.proofs.CallLaws.{put_sizes}
use Rattle.call_text.proofs.admissions.put_sizes.Goals as goal

pub put_pair-requires : goal.put_pair-requires
put_pair-requires c = simp length-set (omega arith)

pub put_pair-requires-2 : goal.put_pair-requires-2
put_pair-requires-2 c =
    let long : length c.put_pair.new.code ≡ length c.args.code.now = c.put_pair.auto.code ∙ length-set c.args.code.now c.args.at c.args.call in
    omega (arith, long)

pub bounds-code-at-2 : goal.bounds-code-at-2
bounds-code-at-2 c =
    let long : length c.put_pair-2.new.code ≡ length c.args.code.now = c.put_pair-2.auto.code ∙ c.put_pair.auto.code ∙ length-set c.args.code.now c.args.at c.args.call in
    omega (arith, long)

pub shape_of-code : goal.shape_of-code
shape_of-code c =
    simp length-set (c.put_pair-2.auto.code ∙ c.put_pair.auto.code ∙ length-set c.args.code.now c.args.at c.args.call)

pub returns : goal.returns
returns c =
    put_sizes c.args.code.now _ _ c.args.at c.args.call c.args.records c.args.rows c.requires c.put_pair.ensures c.put_pair-2.ensures
