-- `evaluation::gather::read_cell` reads the rows of a cell that may be read.
-- Assumes nothing.
use mathlib.Core.Path.{◌≡◌, sym, ◌∙◌, ap, subst}
use mathlib.Core.Bool.{true, ◌&&◌}
use mathlib.Core.List.{List}
use Prim.Native.Nat.{ℕ, ◌+◌, ◌*◌, ◌/◌, ◌<◌}
use native.Mathlib.Omega.{arith}
use lib.Dec.{eqb, ltb}
use borrow.Author.Tests.{eqb-true, ltb-true}
use Rattle.laws.specs.Lists.{puts}
use Rattle.laws.proofs.Cases.{and_split}
use Rattle.evaluation_spec.specs.RailSets.{no_rails, Gathered, none_read}
use Rattle.evaluation.specs.Agreeing.{word_at, Within, gathered_of, of_set}
use Rattle.evaluation.proofs.gather.MovedSets.{none_within, set-kept, moved, left, one_word, one_place}
use Rattle.evaluation.proofs.gather.SetWords.{in_at, rail_place}
use Rattle.evaluation.proofs.gather.read_cell.Goals as goal

-- what the test says: one word above the cell, and one below it
tested : (words low : ℕ) → (eqb words 1 && ltb low 64) ≡ true → (words ≡ 1) × (low < 64)
tested words low e = let (m, n) = and_split (eqb words 1) (ltb low 64) e in (eqb-true words 1 m, ltb-true low 64 n)

pub gather_word-few-requires : goal.gather_word-few-requires
gather_word-few-requires c =
    let a = c.args in
    let pre = c.requires in (
      λ b k e.
          omega (arith, pre.0 (0 * 64 + b) (omega (arith, k)) (in_at a.set.now 0 b k ∙ e), rail_place a.p.now.at 0 b a.p.now.block),
      pre.1,
      (tested a.p.now.words a.p.now.low c.if-p.true).1,
    )

pub returns-then-p : goal.returns-then-p
returns-then-p c =
    let a = c.args in
    let pre = c.requires in
    let one = (tested a.p.now.words a.p.now.low c.if-p.true).0 in
    let is = subst (λ (n : ℕ). Within n a.set.now) one pre.2 in
    (ap (gathered_of _) (one_word a.set.now _ is) ∙ c.gather_word-few.ensures no_rails ∙ sym (one_place a.rows.now a.p.now a.set.now none_read one), pre.3)

pub overflow_add-p : goal.overflow_add-p
overflow_add-p c = omega (arith, c.requires.1.low)

pub move_words-requires : goal.move_words-requires
move_words-requires c = omega (arith, c.requires.1.low)

pub returns : goal.returns
returns c =
    let a = c.args in
    let pre = c.requires in
    let p = a.p.now in
    let n = p.low / 64 + 1 in
    let read = c.read_set-seen.ensures in
    let move = c.move_words.ensures in
    let g = read.0 ∙ ap (λ (l : List ℕ). of_set a.rows.now p a.set.now p.words (record { some = 0; each = 65535; next = l })) pre.3 in
    let next = ap (λ (x : Gathered). x.next) g in
    let few : Within n (of_set a.rows.now p a.set.now p.words none_read).next = set-kept a.rows.now p a.set.now p.words none_read (none_within n) in
    let is = subst (λ (l : List ℕ). Within n l) (sym next) few in
    let same = move.0 ∙ ap (puts n (word_at _)) read.1 ∙ moved n _ is p.words a.set.now pre.2 in
    (ap (gathered_of _) same ∙ g, move.1 ∙ left n _ is)
