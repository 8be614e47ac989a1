-- `reduction::heights::lower` meets its contract.
-- Assumes nothing.
use mathlib.Core.Path.{◌≡◌, ◌∙◌}
use Prim.Native.Nat.{ℕ}
use borrow.Author.Rules.{rules}
use Rattle.std.specs.Prelude.{Result, Err}
use Rattle.refusals.specs.declared.Refusal.{Refusal}
use Rattle.reduction.specs.Lowering.{candidate_count, plane_below}
use Rattle.reduction.proofs.heights.LoweringArrays.{cands_few, too_many_lem, count-fits, first-room, cliques_answer, columns-room, product_is, number-few, below_is}
use native.Mathlib.Omega.{arith}
use Rattle.reduction.proofs.heights.lower.Goals as goal

pub returns-in_err-count-clause-value : goal.returns-in_err-count-clause-value
unfolding plane_below candidate_count
returns-in_err-count-clause-value c =
    let a = c.args in
    let p = c.requires in
    let ez = c.candidates.ensures in
    let eo = c.candidates-2.ensures in
    let ec = c.candidate_count-cands.ensures in
    let n = c.in_err-count in
    let same : ◌≡◌ {A = Result ℕ Refusal} c.from_residual.result (Err n.field-0.0) = search rules in
    same ∙ too_many_lem a.here.now.input a.here.now.a a.here.now.b a.here.now.size a.here.now.w a.planes.now.zero a.planes.now.one p.1 p.3 _ _ ez eo _ ec n.field-0.0 n.ensures.value

pub group-cliques-requires : goal.group-cliques-requires
unfolding plane_below candidate_count
group-cliques-requires c =
    let a = c.args in
    let p = c.requires in
    let ez = c.candidates.ensures in
    let eo = c.candidates-2.ensures in
    let ec = c.candidate_count-cands.ensures in
    let n = c.in_ok-count in
    (count-fits a.here.now.input a.here.now.a a.here.now.b a.here.now.size a.here.now.w a.planes.now.zero a.planes.now.one p.1 p.3 _ _ ez eo _ ec n.count n.ensures.value, p.2, p.4, first-room a.here.now.input a.here.now.a a.here.now.b a.here.now.size a.here.now.w a.planes.now.zero a.planes.now.one p.1 p.3 _ _ ez eo _ ec n.count n.ensures.value _ n.ensures.firsts_after)

pub add_columns-requires : goal.add_columns-requires
unfolding plane_below candidate_count
add_columns-requires c =
    let a = c.args in
    let p = c.requires in
    let ez = c.candidates.ensures in
    let eo = c.candidates-2.ensures in
    let ec = c.candidate_count-cands.ensures in
    let n = c.in_ok-count in
    let g = c.group-cliques in
    (count-fits a.here.now.input a.here.now.a a.here.now.b a.here.now.size a.here.now.w a.planes.now.zero a.planes.now.one p.1 p.3 _ _ ez eo _ ec n.count n.ensures.value, columns-room a.here.now.input a.here.now.a a.here.now.b a.here.now.size a.here.now.w a.planes.now.zero a.planes.now.one p.1 p.3 _ _ ez eo _ ec n.count n.ensures.value _ n.ensures.firsts_after _ g.ensures.nums_after)

pub add_columns-requires-2 : goal.add_columns-requires-2
unfolding plane_below candidate_count
add_columns-requires-2 c =
    let a = c.args in
    let p = c.requires in
    let ez = c.candidates.ensures in
    let eo = c.candidates-2.ensures in
    let ec = c.candidate_count-cands.ensures in
    let n = c.in_ok-count in
    let g = c.group-cliques in
    (count-fits a.here.now.input a.here.now.a a.here.now.b a.here.now.size a.here.now.w a.planes.now.zero a.planes.now.one p.1 p.3 _ _ ez eo _ ec n.count n.ensures.value, columns-room a.here.now.input a.here.now.a a.here.now.b a.here.now.size a.here.now.w a.planes.now.zero a.planes.now.one p.1 p.3 _ _ ez eo _ ec n.count n.ensures.value _ n.ensures.firsts_after _ g.ensures.nums_after)

pub children-requires : goal.children-requires
unfolding plane_below candidate_count
children-requires c =
    let a = c.args in
    let p = c.requires in
    let ez = c.candidates.ensures in
    let eo = c.candidates-2.ensures in
    let ec = c.candidate_count-cands.ensures in
    let n = c.in_ok-count in
    let g = c.group-cliques in
    (omega (arith, ec, cands_few a.here.now.input a.here.now.a a.here.now.b a.here.now.size a.here.now.w a.planes.now.zero a.planes.now.one p.1 p.3), number-few a.here.now.input a.here.now.a a.here.now.b a.here.now.size a.here.now.w a.planes.now.zero a.planes.now.one p.1 p.3 _ _ ez eo _ ec n.count n.ensures.value _ n.ensures.firsts_after _ g.ensures.nums_after _ n.ensures.numbers_after)

pub returns : goal.returns
unfolding plane_below candidate_count
returns c =
    let a = c.args in
    let p = c.requires in
    let ez = c.candidates.ensures in
    let eo = c.candidates-2.ensures in
    let ec = c.candidate_count-cands.ensures in
    let n = c.in_ok-count in
    let g = c.group-cliques in record {
      value = cliques_answer a.here.now.input a.here.now.a a.here.now.b a.here.now.size a.here.now.w a.planes.now.zero a.planes.now.one p.1 p.3 _ _ ez eo _ ec n.count n.ensures.value _ n.ensures.firsts_after g.result g.ensures.value;
      zero_after = (c.add_columns.ensures ∙ product_is a.here.now.input a.here.now.a a.here.now.b a.here.now.size a.here.now.w a.planes.now.zero a.planes.now.one p.1 p.3 _ _ ez eo _ ec n.count n.ensures.value _ n.ensures.firsts_after _ g.ensures.nums_after _ a.planes.now.zero a.planes.now.zero ez);
      one_after = (c.add_columns-2.ensures ∙ product_is a.here.now.input a.here.now.a a.here.now.b a.here.now.size a.here.now.w a.planes.now.zero a.planes.now.one p.1 p.3 _ _ ez eo _ ec n.count n.ensures.value _ n.ensures.firsts_after _ g.ensures.nums_after _ a.planes.now.one a.planes.now.one eo);
      below_after = (c.children.ensures ∙ below_is a.here.now.input a.here.now.a a.here.now.b a.here.now.size a.here.now.w a.planes.now.zero a.planes.now.one p.1 p.3 _ _ ez eo _ ec n.count n.ensures.value _ n.ensures.firsts_after _ g.ensures.nums_after _ n.ensures.numbers_after a.below.now);
      link_len = (g.ensures.link_len);
    }
