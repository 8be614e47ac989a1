-- The inputs and the outputs of an order in which each variable stands once: how many there are, that each is listed, and that none is
-- listed twice; how many stand at heights h to 1.
-- Assumes nothing.
use mathlib.Core.Path.{◌≡◌, refl, sym, ◌∙◌, ap}
use mathlib.Core.Bool.{Bool, true, false, not, cond}
use mathlib.Core.List.{List, [], ◌∷◌, ◌++◌}
use Prim.Native.Nat.{ℕ, suc, ◌+◌, ◌-◌, ◌<◌, ◌≤◌}
use native.Mathlib.Omega.{arith}
use lib.Dec.{eqb}
use lib.ListN.{length, get_or}
use borrow.Author.Tests.{eqb-true, eq-eqb, ltb-true, lt-ltb, le-ltb, not-true}
use Rattle.laws.specs.Tests.{count}
use Rattle.laws.proofs.Cases.{by_test, no_test, same_test, cond-not}
use Rattle.laws.proofs.Tests.{every_at}
use Rattle.laws.proofs.Counts.{count_ext, count_more, count_rise}
use Rattle.laws.proofs.Picked.{count-not, count_back, count-cover, count_once, count_before, count_place, picked_length, picked_at, picked_from, picked_distinct, among, among_at, count_among}
use Rattle.sheet_spec.specs.Job.{Job, t, is_input, var_at, ins, outs, inputs_to, outputs_to}
use Rattle.sheet_spec.specs.Refusals.{times, each_once, not_each_once}
use Rattle.sheet_spec.proofs.RecordFields.{order_tests, order-length}

-- of an order of t variables: the one at height k + 1, whether it is an input or an output, and which output
abbrev pub up : ℕ → List ℕ → ℕ → ℕ
up t order k = get_or order (t - suc k) 0

abbrev pub input_at : ℕ → List ℕ → ℕ → Bool
input_at t order k = is_input (up t order k)

abbrev pub output_at : ℕ → List ℕ → ℕ → Bool
output_at t order k = not (input_at t order k)

abbrev pub lowered : ℕ → List ℕ → ℕ → ℕ
lowered t order k = up t order k - 128

module _ (n m : ℕ) (order : List ℕ) (once : not_each_once n m order ≡ false) (few : n ≤ 12) (out : m ≤ 8) where
  up_once : (a k : ℕ) → each_once order a k ≡ true → (v : ℕ) → v < k → count (n + m) (λ i. eqb (up (n + m) order i) (a + v)) ≡ 1
  unfolding each_once times
  up_once a k e v h =
      count_back (λ i. eqb (get_or order i 0) (a + v)) (n + m)
      ∙ ap (λ (t : ℕ). count t (λ i. eqb (get_or order i 0) (a + v))) (sym (order-length n m order once))
      ∙ eqb-true (times order (a + v)) 1 (every_at (λ i. eqb (times order (a + i)) 1) k e v h)

  apart : (i : ℕ) → among (up (n + m) order) 0 n i ≡ true → among (up (n + m) order) 128 m i ≡ false
  apart i e =
      let r = among_at (up (n + m) order) 0 n i e in
      no_test _ (λ p. let s = among_at (up (n + m) order) 128 m i p in absurd (omega arith))

  -- every variable is an input or an output
  input_count : count (n + m) (among (up (n + m) order) 0 n) ≡ n
  input_count = count_among (up (n + m) order) 0 (n + m) n (up_once 0 n (order_tests n m order once).1)

  output_count : count (n + m) (among (up (n + m) order) 128 m) ≡ m
  output_count = count_among (up (n + m) order) 128 (n + m) m (up_once 128 m (order_tests n m order once).2)

  covered : (i : ℕ) → i < n + m → among (up (n + m) order) 0 n i ≡ false → among (up (n + m) order) 128 m i ≡ true
  covered =
      count-cover (among (up (n + m) order) 0 n) (among (up (n + m) order) 128 m) (n + m) (λ i l. apart i)
      (omega (arith, input_count, output_count))

  input_is : (i : ℕ) → i < n + m → input_at (n + m) order i ≡ among (up (n + m) order) 0 n i
  input_is i h =
      same_test (input_at (n + m) order i) (among (up (n + m) order) 0 n i)
      (λ e.
      by_test (among (up (n + m) order) 0 n i) (λ p. p)
      (λ p.
      let r = among_at (up (n + m) order) 128 m i (covered i h p) in
      let l = ltb-true (up (n + m) order i) 128 e in
      absurd (omega arith)))
      (λ e. let r = among_at (up (n + m) order) 0 n i e in lt-ltb (up (n + m) order i) 128 (omega arith))

  output_is : (i : ℕ) → i < n + m → output_at (n + m) order i ≡ among (up (n + m) order) 128 m i
  output_is i h =
      same_test (output_at (n + m) order i) (among (up (n + m) order) 128 m i)
      (λ e. covered i h (sym (input_is i h) ∙ not-true _ e))
      (λ e. let r = among_at (up (n + m) order) 128 m i e in ap not (le-ltb (up (n + m) order i) 128 (omega arith)))

  -- the two lists as picked ones
  pub inputs_start : inputs_to (n + m) order 0 ≡ []
  unfolding inputs_to
  inputs_start = refl

  pub inputs_more : (h : ℕ) → inputs_to (n + m) order (suc h)
      ≡ cond (input_at (n + m) order h) (inputs_to (n + m) order h ++ (up (n + m) order h ∷ [])) (inputs_to (n + m) order h)
  unfolding inputs_to
  inputs_more h = refl

  pub outputs_start : outputs_to (n + m) order 0 ≡ []
  unfolding outputs_to
  outputs_start = refl

  pub outputs_more : (h : ℕ) → outputs_to (n + m) order (suc h)
      ≡ cond (output_at (n + m) order h) (outputs_to (n + m) order h ++ (lowered (n + m) order h ∷ [])) (outputs_to (n + m) order h)
  unfolding outputs_to
  outputs_more h = cond-not (input_at (n + m) order h) _ _

  pub picked_inputs : count (n + m) (input_at (n + m) order) ≡ n
  picked_inputs = count_ext (input_at (n + m) order) (among (up (n + m) order) 0 n) (n + m) input_is ∙ input_count

  pub picked_outputs : count (n + m) (output_at (n + m) order) ≡ m
  picked_outputs = count_ext (output_at (n + m) order) (among (up (n + m) order) 128 m) (n + m) output_is ∙ output_count

  pub inputs-length : length (inputs_to (n + m) order (n + m)) ≡ n
  inputs-length =
      picked_length (input_at (n + m) order) (up (n + m) order) (inputs_to (n + m) order) inputs_start inputs_more (n + m)
      ∙ picked_inputs

  pub outputs-length : length (outputs_to (n + m) order (n + m)) ≡ m
  outputs-length =
      picked_length (output_at (n + m) order) (lowered (n + m) order) (outputs_to (n + m) order) outputs_start outputs_more (n + m)
      ∙ picked_outputs

  pub input_below : (k : ℕ) → k < n → get_or (inputs_to (n + m) order (n + m)) k 0 < n
  input_below k h =
      let r =
      picked_from (input_at (n + m) order) (up (n + m) order) (inputs_to (n + m) order) inputs_start inputs_more (n + m) k
      (omega (arith, picked_inputs)) in
      let v = among_at (up (n + m) order) 0 n r.0 (sym (input_is r.0 r.1) ∙ r.2) in
      omega arith

  pub output_below : (k : ℕ) → k < m → get_or (outputs_to (n + m) order (n + m)) k 0 < m
  output_below k h =
      let r =
      picked_from (output_at (n + m) order) (lowered (n + m) order) (outputs_to (n + m) order) outputs_start outputs_more (n + m) k
      (omega (arith, picked_outputs)) in
      let v = among_at (up (n + m) order) 128 m r.0 (sym (output_is r.0 r.1) ∙ r.2) in
      omega arith

  -- an input stands at one height
  input_once : (k q : ℕ) → k < n + m → q < n + m → input_at (n + m) order k ≡ true → up (n + m) order k ≡ up (n + m) order q → k ≡ q
  input_once k q h l a e =
      let v = among_at (up (n + m) order) 0 n k (sym (input_is k h) ∙ a) in
      count_once (λ i. eqb (up (n + m) order i) (0 + v.0)) (n + m) k q (omega (arith, up_once 0 n (order_tests n m order once).1 v.0 v.1)) h l
      (eq-eqb (up (n + m) order k) (0 + v.0) v.2) (eq-eqb (up (n + m) order q) (0 + v.0) (sym e ∙ v.2))

  pub inputs_distinct : (k q : ℕ) → k < n → q < n
      → get_or (inputs_to (n + m) order (n + m)) k 0 ≡ get_or (inputs_to (n + m) order (n + m)) q 0 → k ≡ q
  inputs_distinct k q h l =
      picked_distinct (input_at (n + m) order) (up (n + m) order) (inputs_to (n + m) order) inputs_start inputs_more (n + m)
      (λ i j a b c d. input_once i j a b c) k q (omega (arith, picked_inputs)) (omega (arith, picked_inputs))

  pub inputs-all : (i : ℕ) → i < n → (k : ℕ) × (k < n) × (get_or (inputs_to (n + m) order (n + m)) k 0 ≡ i)
  inputs-all i h =
      let r = count_place (λ k. eqb (up (n + m) order k) (0 + i)) (n + m) 0 (omega (arith, up_once 0 n (order_tests n m order once).1 i h)) in
      let e : up (n + m) order r.0 ≡ 0 + i = eqb-true (up (n + m) order r.0) (0 + i) r.2 in
      let c : input_at (n + m) order r.0 ≡ true = lt-ltb (up (n + m) order r.0) 128 (omega arith) in
      let l = count_before (input_at (n + m) order) (n + m) r.0 r.1 c in
      let at = picked_at (input_at (n + m) order) (up (n + m) order) (inputs_to (n + m) order) inputs_start inputs_more (n + m) r.0 r.1 c in
      (count r.0 (input_at (n + m) order), omega (arith, picked_inputs), at ∙ e ∙ omega arith)

-- how many inputs and outputs stand at heights h to 1
module _ (j : Job) where
  pub ins_rise : (h g : ℕ) → h ≤ g → ins j h ≤ ins j g
  unfolding ins
  ins_rise = count_rise (λ k. is_input (var_at j (suc k)))

  pub outs_rise : (h g : ℕ) → h ≤ g → outs j h ≤ outs j g
  unfolding outs
  outs_rise = count_rise (λ k. not (is_input (var_at j (suc k))))

  pub ins-step : (h : ℕ) → (ins j h ≤ ins j (suc h)) × (ins j (suc h) ≤ ins j h + 1)
  unfolding ins
  ins-step = count_more (λ k. is_input (var_at j (suc k)))

  module _ (once : not_each_once j.n j.m j.order ≡ false) (few : j.n ≤ 12) (out : j.m ≤ 8) where
    pub ins-all : ins j (t j) ≡ j.n
    unfolding ins
    ins-all = picked_inputs j.n j.m j.order once few out

    pub outs-all : outs j (t j) ≡ j.m
    unfolding outs
    outs-all = picked_outputs j.n j.m j.order once few out

-- each variable at the heights h to 1 is an input or an output
pub ins-outs : (j : Job) (h : ℕ) → ins j h + outs j h ≡ h
unfolding ins outs
ins-outs j h = let e = count-not (λ k. is_input (var_at j (suc k))) h in omega arith
