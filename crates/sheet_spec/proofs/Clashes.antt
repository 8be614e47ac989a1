-- What refusal 5 rules out: no output is forced both ways for one word by records of one kind.
-- Assumes nothing.
use mathlib.Core.Path.{◌≡◌, sym, ◌∙◌}
use mathlib.Core.Bool.{true, false, ◌&&◌}
use mathlib.Core.List.{List}
use Prim.Native.Nat.{ℕ, ◌^◌, ◌<◌}
use lib.Dec.{eqb}
use borrow.Author.Tests.{eqb-true, eq-eqb}
use Rattle.laws.specs.Tests.{any}
use Rattle.laws.proofs.Cases.{and_split, and_join, no_test}
use Rattle.laws.proofs.Tests.{any_of, any_at, any_out}
use Rattle.laws.proofs.Masks.{not-both}
use Rattle.sheet_spec.specs.Records.{record_count, kind, matches, forces0, forces1}
use Rattle.sheet_spec.specs.Values.{forced_to0, forced_to1}
use Rattle.sheet_spec.specs.Refusals.{alike, common, opposed, clash}

-- a record that forces output o to 0 and one of its kind that forces it to 1, both matching w, clash
pub never_both : (n m : ℕ) (s : List ℕ) → any (record_count s) (λ r. any (record_count s) (clash n m s r)) ≡ false → (k w o : ℕ) → w < 2 ^ n → o < m
    → (forced_to0 s k w o && forced_to1 s k w o) ≡ false
unfolding forced_to0 forced_to1 clash common opposed alike
never_both n m s none k w o w< o< =
    no_test (forced_to0 s k w o && forced_to1 s k w o)
    (λ e.
    let both = and_split (forced_to0 s k w o) (forced_to1 s k w o) e in
    let at0 = any_at (λ r. eqb (kind s r) k && (matches s r w && forces0 s r o)) (record_count s) both.0 in
    let at1 = any_at (λ r. eqb (kind s r) k && (matches s r w && forces1 s r o)) (record_count s) both.1 in
    let r = at0.0 in
    let q = at1.0 in
    let kind0 = and_split (eqb (kind s r) k) (matches s r w && forces0 s r o) at0.2 in
    let kind1 = and_split (eqb (kind s q) k) (matches s q w && forces1 s q o) at1.2 in
    let of0 = and_split (matches s r w) (forces0 s r o) kind0.1 in
    let of1 = and_split (matches s q w) (forces1 s q o) kind1.1 in
    let one : eqb (kind s r) (kind s q) ≡ true =
    eq-eqb (kind s r) (kind s q) (eqb-true (kind s r) k kind0.0 ∙ sym (eqb-true (kind s q) k kind1.0)) in
    let clashing : clash n m s r q ≡ true =
    and_join one
    (and_join (any_of (λ k. forces0 s r k && forces1 s q k) m o o< (and_join of0.1 of1.1))
    (any_of (λ x. matches s r x && matches s q x) (2 ^ n) w w< (and_join of0.0 of1.0))) in
    not-both clashing
    (any_out (clash n m s r) (record_count s) (any_out (λ k. any (record_count s) (clash n m s k)) (record_count s) none r at0.1) q at1.1))
