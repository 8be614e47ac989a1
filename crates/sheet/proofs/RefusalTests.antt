-- Refusals 1 to 5 in one as the code tests them, and refusal 6 after them.
-- Assumes nothing.
use mathlib.Core.Path.{◌≡◌, refl}
use mathlib.Core.Bool.{true, false, cond}
use mathlib.Core.List.{List}
use Prim.Native.Nat.{ℕ}
use Rattle.laws.proofs.Cases.{by_test, cond-zero}
use Rattle.sheet_spec.specs.Job.{Job, job}
use Rattle.sheet_spec.specs.Refusals.{out_of_range, not_each_once, refuse1, refuse2, refuse3, any_malformed, refuse4, refuse5, sheet_refusal}
use Rattle.sheet_spec.specs.Accepted.{Accepted}
use Rattle.sheet_spec.proofs.LeastRefusal.{in_range}
use Rattle.sheet.specs.Pairs.{any_hit}
use Rattle.sheet.specs.Planes.{input_array, zeros_plane, ones_plane}
use Rattle.sheet.specs.Depends.{first_five, any_depends}
use Rattle.sheet.proofs.pairs.ClashPairs.{pairs_are}
use Rattle.sheet.proofs.depends.PlaneDependence.{depends_are}

module _ (n m k l : ℕ) (order s : List ℕ) where
  abbrev j : Job
  j = job n m k l order

  pub five1 : out_of_range n m k l ≡ true → first_five j s ≡ 1
  unfolding first_five refuse1
  five1 e = rw e refl

  module _ (e1 : out_of_range n m k l ≡ false) where
    pub five2 : not_each_once n m order ≡ true → first_five j s ≡ 2
    unfolding first_five refuse1 refuse2
    five2 e = rw (e1, e) refl

    module _ (e2 : not_each_once n m order ≡ false) where
      pub five3 : refuse3 s ≡ true → first_five j s ≡ 3
      unfolding first_five refuse1 refuse2
      five3 e = rw (e1, e2, e) refl

      module _ (e3 : refuse3 s ≡ false) where
        pub five4 : any_malformed n m s ≡ true → first_five j s ≡ 4
        unfolding first_five refuse1 refuse2 refuse4
        five4 e = rw (e1, e2, e3, e) refl

        module _ (e4 : any_malformed n m s ≡ false) where
          fifth : refuse5 j s ≡ any_hit s
          unfolding refuse5
          fifth = let r = in_range n m k l e1 in pairs_are n m s r.0 r.1 e4

          pub five5 : any_hit s ≡ true → first_five j s ≡ 5
          unfolding first_five refuse1 refuse2 refuse4
          five5 e = rw (e1, e2, e3, e4, fifth, e) refl

          pub five0 : any_hit s ≡ false → first_five j s ≡ 0
          unfolding first_five refuse1 refuse2 refuse4
          five0 e = rw (e1, e2, e3, e4, fifth, e) refl

  -- one of the five is the least of the six
  pub first-least : (first_five j s ≡ 0 → ⊥) → first_five j s ≡ sheet_refusal j s
  unfolding first_five sheet_refusal
  first-least some =
      by_test (refuse1 j) (λ e. rw e refl)
      (λ e1.
      by_test (refuse2 j) (λ e. rw (e1, e) refl)
      (λ e2.
      by_test (refuse3 s) (λ e. rw (e1, e2, e) refl)
      (λ e3.
      by_test (refuse4 j s) (λ e. rw (e1, e2, e3, e) refl)
      (λ e4. by_test (refuse5 j s) (λ e. rw (e1, e2, e3, e4, e) refl) (λ e5. absurd (some (rw (e1, e2, e3, e4, e5) refl)))))))

  -- where none of the five is given
  module _ (none : first_five j s ≡ 0) where
    pub passed : Accepted n m order s × (refuse5 j s ≡ false)
    unfolding first_five refuse1 refuse2 refuse4
    passed =
        let p1 = cond-zero (refuse1 j) 0 _ none in
        let p2 = cond-zero (refuse2 j) 1 _ p1.1 in
        let p3 = cond-zero (refuse3 s) 2 _ p2.1 in
        let p4 = cond-zero (refuse4 j s) 3 _ p3.1 in
        let p5 = cond-zero (refuse5 j s) 4 _ p4.1 in
        let r = in_range n m k l p1.0 in
        (record { inputs = r.0; outputs = r.1; order-whole = p2.0; length-good = p3.0; records-good = p4.0 }, p5.0)

    -- is are the inputs, zs and ys the planes
    pub sixth : (is zs ys : List ℕ) → is ≡ input_array order → zs ≡ zeros_plane n order s → ys ≡ ones_plane n order s
        → sheet_refusal j s ≡ cond (any_depends n m order is zs ys) 6 0
    unfolding first_five sheet_refusal refuse5
    sixth is zs ys is-are zs-are ys-are =
        let p1 = cond-zero (refuse1 j) 0 _ none in
        let p2 = cond-zero (refuse2 j) 1 _ p1.1 in
        let p3 = cond-zero (refuse3 s) 2 _ p2.1 in
        let p4 = cond-zero (refuse4 j s) 3 _ p3.1 in
        let p5 = cond-zero (refuse5 j s) 4 _ p4.1 in
        rw (p1.0, p2.0, p3.0, p4.0, p5.0, depends_are j s passed.0 passed.1, is-are, zs-are, ys-are) refl
