-- `reduction::heights::group` meets its contract.
-- Assumes nothing.
use mathlib.Core.Path.{◌∙◌}
use Rattle.reduction.proofs.heights.CliquesFound.{link_length, link_mutual, owned_below, owned-alike, cliques_count, cliques_numbered}
use Rattle.reduction.proofs.heights.group.Goals as goal

pub own-requires : goal.own-requires
own-requires c =
    let a = c.args in
    let p = c.requires in
    let l = c.link_columns-linked in
    (p.0, link_mutual a.size a.planes.now.zero a.planes.now.one a.w a.firsts.now p.0 a.link.now _ p.2 l.ensures.link_after)

pub renumber-requires : goal.renumber-requires
renumber-requires c =
    let a = c.args in
    let p = c.requires in
    let l = c.link_columns-linked in
    (p.0, owned_below a.size a.planes.now.zero a.planes.now.one a.w a.firsts.now p.0 l.result l.ensures.value a.link.now _ p.2 l.ensures.link_after _ c.own.ensures)

pub returns : goal.returns
returns c =
    let a = c.args in
    let p = c.requires in
    let l = c.link_columns-linked in
    let alike = owned-alike a.size a.planes.now.zero a.planes.now.one a.w a.firsts.now p.0 l.result l.ensures.value a.link.now _ p.2 l.ensures.link_after _ c.own.ensures in record {
      value = c.renumber.ensures.value ∙ cliques_count a.size a.planes.now.zero a.planes.now.one a.w a.firsts.now p.0 _ alike;
      nums_after = c.renumber.ensures.nums_after ∙ cliques_numbered a.size a.planes.now.zero a.planes.now.one a.w a.firsts.now p.0 _ alike a.nums.now;
      link_len = link_length a.size a.planes.now.zero a.planes.now.one a.w a.firsts.now p.0 a.link.now _ p.2 l.ensures.link_after;
    }
