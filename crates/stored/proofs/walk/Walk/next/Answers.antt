-- `Walk::next` reads a record.
-- Assumes nothing.
use mathlib.Core.Path.{refl}
use native.Mathlib.Omega.{arith}
use Rattle.stored.proofs.Walks.{few_with, walked_on, walked_cut}
use Rattle.stored.proofs.walk.Walk.next.Goals as goal

pub overflow_add-self : goal.overflow_add-self
overflow_add-self c = let few = few_with _ _ c.requires.1 c.from.ensures refl in omega arith

pub overflow_add-self-2 : goal.overflow_add-self-2
overflow_add-self-2 c = let few = few_with _ _ c.requires.1 c.from.ensures c.from-2.ensures in omega arith

pub returns-then-cut-ne1 : goal.returns-then-cut-ne1
returns-then-cut-ne1 c = walked_on _ _ c.requires.1 c.from.ensures c.from-2.ensures c.if-cut-ne1.true

pub overflow_add-cell : goal.overflow_add-cell
overflow_add-cell c = let few = few_with _ _ c.requires.1 c.from.ensures c.from-2.ensures in omega arith

pub overflow_add-cell-2 : goal.overflow_add-cell-2
overflow_add-cell-2 c = let few = few_with _ _ c.requires.1 c.from.ensures c.from-2.ensures in omega arith

pub overflow_add-self-3 : goal.overflow_add-self-3
overflow_add-self-3 c = let few = few_with _ _ c.requires.1 c.from.ensures c.from-2.ensures in omega arith

pub returns : goal.returns
returns c = walked_cut _ _ c.requires.1 c.from.ensures c.from-2.ensures c.if-cut-ne1.false c.from-3.ensures c.from-4.ensures
