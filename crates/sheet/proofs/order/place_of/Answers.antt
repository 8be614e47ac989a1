-- `place_of` finds a variable's place.
-- Assumes nothing.
use mathlib.Core.Bool.{Bool, cond}
use mathlib.Core.List.{List}
use mathlib.Core.Path.{◌≡◌, refl, ◌∙◌}
use Prim.Native.Nat.{ℕ}
use native.Mathlib.Omega.{arith}
use borrow.Author.Rules.{rules}
use borrow.Author.Tests.{tests, ltb-false}
use lib.Dec.{eqb, ltb}
use lib.ListN.{length, get_or}
use Rattle.std.specs.List.{position_or_len}
use Rattle.std.specs.Option.{unwrap_or}
use Rattle.std.proofs.Common.{Some, None}
use Rattle.std.proofs.lemmas.Iterator.{YieldsList-from_slice}
use Rattle.std.proofs.lemmas.Iterator.Search.{position_from_yields_List}
use Rattle.std.proofs.lemmas.List.Sums.{position_or_len_is}
use Rattle.laws.specs.Tests.{least}
use Rattle.laws.proofs.Cases.{by_test}
use Rattle.laws.proofs.Find.{least-le, least-hit, least_before}
use Rattle.sheet_spec.specs.Refusals.{place_of}
use Rattle.sheet.proofs.order.place_of.Goals as goal

first-place : (order : List ℕ) (v : ℕ) → position_or_len (λ x. eqb x v) order ≡ place_of order v
unfolding place_of
first-place order v =
    let p : ℕ → Bool = λ k. eqb (get_or order k 0) v in
    let n = length order in
    position_or_len_is (λ x. eqb x v) order (least n p) 0 (least-le p n) (least_before p n) (least-hit p n)

-- the place that a search found, or the length
or-length : (order : List ℕ) (v : ℕ) → unwrap_or (cond (ltb (place_of order v) (length order)) (Some (place_of order v)) None) (length order) ≡ place_of order v
unfolding place_of
or-length order v =
    let p : ℕ → Bool = λ k. eqb (get_or order k 0) v in
    let n = length order in
    by_test (ltb (least n p) n) (λ e. rw e refl) (λ e. rw e (let h = ltb-false (least n p) n e in let k = least-le p n in omega arith))

pub returns : goal.returns
returns c =
    let a = c.args in
    let found = position_from_yields_List (λ x. eqb x a.v) _ _ _ c.position.ensures.ran (YieldsList-from_slice a.order.now cc) (λ x b q k. search (rules, tests)) in
    let at : c.position.result ≡ cond (ltb (place_of a.order.now a.v) (length a.order.now)) (Some (place_of a.order.now a.v)) None = rw (← first-place a.order.now a.v) found in
    c.unwrap_or.ensures ∙ rw at (or-length a.order.now a.v)
