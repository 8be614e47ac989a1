-- The width one height down: across an input it at most doubles, across an output it does not grow.
-- Assumes nothing.
use mathlib.Core.Path.{◌≡◌, ◌∙◌, ap}
use mathlib.Core.Bool.{true, false}
use mathlib.Core.List.{List}
use Prim.Native.Nat.{ℕ, zero, suc, ◌-◌, ◌*◌, ◌^◌, ◌<◌, ◌≤◌}
use native.Mathlib.Omega.{arith}
use lib.ListN.{length, get_or}
use Rattle.laws.proofs.Cases.{by_test, by_less}
use Rattle.laws.proofs.Masks.{not-both}
use Rattle.sheet_spec.specs.Job.{Job, t, ins, outs, var_at, is_input}
use Rattle.sheet_spec.specs.Refusals.{not_each_once}
use Rattle.sheet_spec.proofs.Promises.{ins_input, ins_output, outs_input, outs_output, ins_below_lem}
use Rattle.reduction_spec.specs.Columns.{same, firsts, firsts_at, width}
use Rattle.reduction_spec.proofs.ColumnNumbers.{same_sym, first_below, firsts_rise, first_smallest}
use Rattle.reduction_spec.proofs.ColumnsBelow.{Names, output_names, input_names}

-- columns are at most as many as their names
module _ (n a b : ℕ) (g : List ℕ) (Q : ℕ) (name : ℕ → ℕ) (names : Names n a b g Q name) where
  abbrev ps : List ℕ
  ps = firsts n a b g

  -- what names a smallest prefix is that prefix
  name_first : (c q : ℕ) → c < length ps → name q ≤ get_or ps c 0 → same n a b g (get_or ps c 0) (name q) ≡ true → name q ≡ get_or ps c 0
  name_first c q h m e =
      by_less (name q) (get_or ps c 0)
      (λ l. not-both (same_sym n a b g (name q) (get_or ps c 0) ∙ e) (first_smallest n a b g c (name q) h l)) (λ l. omega arith)

  -- the smallest prefix of column c is the name of c, or of a later number
  named_at : (c : ℕ) → c < length ps → (q : ℕ) × (q < Q) × (name q ≡ get_or ps c 0) × (c ≤ q)
  named_at zero h =
      let (q, l, m, e) = names.onto (get_or ps 0 0) (first_below n a b g 0 h) in
      (q, l, name_first 0 q h m e, omega arith)
  named_at (suc c) h =
      let (q, l, m, e) = names.onto (get_or ps (suc c) 0) (first_below n a b g (suc c) h) in
      let (p, k, i, d) = named_at c (omega arith) in
      let is = name_first (suc c) q h m e in
      let up = firsts_rise n a b g c (suc c) (omega arith) h in
      let later : p < q =
      by_less p q (λ u. u)
      (λ u.
      by_less q p (λ v. let z = names.rise q p v k in omega arith)
      (λ v. let z : name p ≡ name q = let w : p ≡ q = omega arith in ap name w in omega arith)) in
      (q, l, is, omega arith)

  names_few : length (firsts n a b g) ≤ Q
  names_few =
      by_less Q (length ps)
      (λ l. let (q, k, i, d) = named_at (length ps - 1) (omega arith) in omega arith) (λ l. l)

module _ (j : Job) (once : not_each_once j.n j.m j.order ≡ false) (few : j.n ≤ 12) (out : j.m ≤ 8) (f : List ℕ) where
  pub width-step : (h : ℕ) → h < t j → width j f h ≤ width j f (suc h) * 2 ^ (ins j (suc h) - ins j h)
  unfolding width firsts_at
  width-step h l =
      by_test (is_input (var_at j (suc h)))
      (λ i.
      let a : ins j (suc h) ≡ suc (ins j h) = omega (arith, ins_input j h i) in
      let b = outs_input j h i in
      let d : 2 ^ (ins j (suc h) - ins j h) ≡ 2 = let z : ins j (suc h) - ins j h ≡ 1 = omega arith in ap (λ (k : ℕ). 2 ^ k) z in
      let most : suc (ins j h) ≤ j.n = omega (arith, ins_below_lem j once few out (suc h) l) in
      rw (d, a, b) (names_few j.n (ins j h) (outs j h) f _ _ (input_names j.n (ins j h) (outs j h) f most)))
      (λ i.
      let a = ins_output j h i in
      let b : outs j (suc h) ≡ suc (outs j h) = omega (arith, outs_output j h i) in
      let d : 2 ^ (ins j (suc h) - ins j h) ≡ 1 = let z : ins j (suc h) - ins j h ≡ 0 = omega arith in ap (λ (k : ℕ). 2 ^ k) z in
      rw (d, a, b) (omega (arith, names_few j.n (ins j h) (outs j h) f _ _ (output_names j.n (ins j h) (outs j h) f))))
