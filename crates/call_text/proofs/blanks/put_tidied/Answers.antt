-- `blanks::put_tidied` meets its contract.
-- Assumes nothing.
use mathlib.Core.Path.{refl, sym, ◌∙◌, ap}
use mathlib.Core.List.{[], ◌∷◌}
use native.Mathlib.Omega.{arith}
use lib.ListN.{length, length-set}
use Rattle.laws.proofs.Filled.{written_none}
use Rattle.call_text.proofs.CallLaws.{set-written, put_two}
use Rattle.call_text.proofs.TidyLaws.{byte_left, byte_spaced, byte-kept, tidied_as}
use Rattle.call_text.proofs.blanks.put_tidied.Goals as goal

pub returns-then-is_blank : goal.returns-then-is_blank
returns-then-is_blank c =
    let a = c.args in
    let done = tidied_as a.s a.c [] a.lent.now a.lent.now a.at 0 (byte_left a.s a.c (sym c.is_blank.ensures ∙ c.if-is_blank.true)) refl (sym (written_none a.lent.now a.at)) in
    record { value = done.0; lent_after = done.1 }

pub bounds-lent-at : goal.bounds-lent-at
bounds-lent-at c =
    let a = c.args in
    omega (arith, c.requires, ap length (byte_spaced a.s a.c (sym c.is_blank.ensures ∙ c.if-is_blank.false) c.if-s-c.true))

pub bounds-lent-at-then-s-c : goal.bounds-lent-at-then-s-c
bounds-lent-at-then-s-c c =
    let a = c.args in
    omega (arith, c.requires, length-set a.lent.now a.at 32, ap length (byte_spaced a.s a.c (sym c.is_blank.ensures ∙ c.if-is_blank.false) c.if-s-c.true))

pub returns-then-s-c : goal.returns-then-s-c
returns-then-s-c c =
    let a = c.args in
    let is = byte_spaced a.s a.c (sym c.is_blank.ensures ∙ c.if-is_blank.false) c.if-s-c.true in
    let done = tidied_as a.s a.c (32 ∷ a.c ∷ []) a.lent.now _ a.at 2 is refl (put_two a.lent.now a.at 32 a.c (omega (arith, c.requires, ap length is))) in
    record { value = done.0; lent_after = done.1 }

pub bounds-lent-at-2 : goal.bounds-lent-at-2
bounds-lent-at-2 c =
    let a = c.args in
    omega (arith, c.requires, ap length (byte-kept a.s a.c (sym c.is_blank.ensures ∙ c.if-is_blank.false) c.if-s-c.false))

pub returns : goal.returns
returns c =
    let a = c.args in
    let is = byte-kept a.s a.c (sym c.is_blank.ensures ∙ c.if-is_blank.false) c.if-s-c.false in
    let done = tidied_as a.s a.c (a.c ∷ []) a.lent.now _ a.at 1 is refl (set-written a.lent.now a.at a.c (omega (arith, c.requires, ap length is))) in
    record { value = done.0; lent_after = done.1 }
