-- How many inputs stand below an output in the order, and that its line of the table does not depend on them.
-- Assumes nothing.
use mathlib.Core.Path.{◌≡◌, refl, sym, ◌∙◌, ap}
use mathlib.Core.Bool.{Bool, true, false, cond}
use mathlib.Core.List.{List, [], ◌∷◌, ◌++◌}
use Prim.Native.Nat.{ℕ, zero, suc, ◌+◌, ◌-◌, ◌*◌, ◌/◌, ◌^◌, ◌<◌, ◌≤◌}
use native.Mathlib.Omega.{arith}
use lib.Dec.{eqb}
use lib.ListN.{length, get_or}
use borrow.Author.Tests.{eq-eqb, ltb-false, not-true}
use Rattle.laws.specs.Tests.{count}
use Rattle.laws.specs.Bits.{bit}
use Rattle.laws.proofs.Cases.{cond-not}
use Rattle.laws.proofs.Counts.{count_rise}
use Rattle.laws.proofs.Picked.{count_once, count_place, picked_at, picked_from}
use Rattle.laws.proofs.Bits.{cleared-bit}
use Rattle.sheet_spec.specs.Job.{Job, t, is_input, output_byte, ins, outs, inputs_to, outputs_to, word_of}
use Rattle.sheet_spec.specs.Refusals.{times, not_each_once, place_of, height_of, refuse1, refuse2, refuse3, refuse4, refuse5, refuse6, sheet_refusal}
use Rattle.sheet_spec.specs.Table.{table_at}
use Rattle.sheet_spec.specs.Accepted.{Accepted}
use Rattle.sheet_spec.proofs.RecordFields.{order-length, input_once, output_once, place_lt, at_place}
use Rattle.sheet_spec.proofs.Orders.{up, input_at, output_at, lowered, inputs_start, inputs_more, outputs_start, outputs_more, picked_inputs, picked_outputs, output_below, inputs-all}
use Rattle.sheet_spec.proofs.Words.{word-bit, word_small}
use Rattle.sheet_spec.proofs.OrderRule.{value_settled}
use Rattle.sheet_spec.proofs.LeastRefusal.{job-accepted}

-- how many inputs stand below each output at heights h to 1 of an order of t variables, lowest output first
unfoldable pub ins_to : ℕ → List ℕ → ℕ → List ℕ
ins_to t order zero = []
ins_to t order (suc h) =
    let l = ins_to t order h in
    cond (is_input (get_or order (t - suc h) 0)) l (l ++ (count h (input_at t order) ∷ []))

-- below the output with k outputs below it
unfoldable pub ins_below : ℕ → List ℕ → ℕ → ℕ
ins_below t order k = get_or (ins_to t order t) k 0

module _ (t : ℕ) (order : List ℕ) where
  ins_start : ins_to t order 0 ≡ []
  unfolding ins_to
  ins_start = refl

  ins_more : (h : ℕ) → ins_to t order (suc h) ≡ cond (output_at t order h) (ins_to t order h ++ (count h (input_at t order) ∷ [])) (ins_to t order h)
  unfolding ins_to
  ins_more h = cond-not (input_at t order h) _ _

  -- of the output at height h + 1
  pub ins_below_at : (h : ℕ) → h < t → output_at t order h ≡ true → ins_below t order (count h (output_at t order)) ≡ count h (input_at t order)
  unfolding ins_below
  ins_below_at h l e = picked_at (output_at t order) (λ h. count h (input_at t order)) (ins_to t order) ins_start ins_more t h l e

  -- an output at heights h to 1 has no more inputs below it than stand there
  ins_below_few : (h k : ℕ) → h ≤ t → k < count h (output_at t order) → ins_below t order k ≤ count h (input_at t order)
  ins_below_few h k l e =
      let (q, q<, out, same) = count_place (output_at t order) h k e in
      let fewer = count_rise (input_at t order) q h (omega arith) in
      let is : ins_below t order k ≡ count q (input_at t order) = ap (ins_below t order) (sym same) ∙ ins_below_at q (omega arith) out in
      omega arith

pub ins_below_ins : (j : Job) (h k : ℕ) → h ≤ t j → k < outs j h → ins_below (t j) j.order k ≤ ins j h
unfolding ins outs
ins_below_ins j h k = ins_below_few (t j) j.order h k

module _ (n m : ℕ) (order : List ℕ) (once : not_each_once n m order ≡ false) (few : n ≤ 12) (out : m ≤ 8) where
  pub ins_below_rise : (k q : ℕ) → k < q → q < m → ins_below (n + m) order k ≤ ins_below (n + m) order q
  ins_below_rise k q h l =
      let (p, p<, is, same) = count_place (output_at (n + m) order) (n + m) q (omega (arith, picked_outputs n m order once few out)) in
      let less = ins_below_few (n + m) order p k (omega arith) (omega arith) in
      let at : ins_below (n + m) order q ≡ count p (input_at (n + m) order) = ap (ins_below (n + m) order) (sym same) ∙ ins_below_at (n + m) order p p< is in
      omega arith

-- the height of the variable that stands at height k + 1
height_at : (j : Job) (v k : ℕ) → length j.order ≡ t j → times j.order v ≡ 1 → k < t j → up (t j) j.order k ≡ v → height_of j v ≡ suc k
unfolding height_of times
height_at j v k whole one h e =
    let p = place_lt j.order v one in
    let same : place_of j.order v ≡ t j - suc k =
    count_once (λ i. eqb (get_or j.order i 0) v) (length j.order) (place_of j.order v) (t j - suc k) (omega arith) p (omega arith)
    (eq-eqb (get_or j.order (place_of j.order v) 0) v (at_place j.order v one)) (eq-eqb (get_or j.order (t j - suc k) 0) v e) in
    omega arith

-- a refusal that is not given
past : (b : Bool) (i x : ℕ) → cond b (suc i) x ≡ 0 → (b ≡ false) × (x ≡ 0)
past true i x e = absurd (omega arith)
past false i x e = (refl, e)

kept : (j : Job) (s : List ℕ) → sheet_refusal j s ≡ 0 → refuse6 j s ≡ false
unfolding sheet_refusal
kept j s e =
    let a = past (refuse1 j) 0 _ e in
    let b = past (refuse2 j) 1 _ a.1 in
    let c = past (refuse3 s) 2 _ b.1 in
    let d = past (refuse4 j s) 3 _ c.1 in
    let f = past (refuse5 j s) 4 _ d.1 in
    (past (refuse6 j s) 5 0 f.1).0

module _ (j : Job) (s : List ℕ) (e : sheet_refusal j s ≡ 0) where
  read : Accepted j.n j.m j.order s
  read = job-accepted j s e

  abbrev inputs : List ℕ
  inputs = inputs_to (t j) j.order (t j)

  abbrev outputs : List ℕ
  outputs = outputs_to (t j) j.order (t j)

  -- the output on line k, by its height
  output_height : (k : ℕ) → k < j.m
      → (h : ℕ) × (height_of j (output_byte (get_or outputs k 0)) ≡ suc h) × (ins_below (t j) j.order k ≡ count h (input_at (t j) j.order))
  output_height k k< =
      let c = read in
      let (h, h<, is, same, at) =
      picked_from (output_at (t j) j.order) (lowered (t j) j.order) (outputs_to (t j) j.order)
      (outputs_start j.n j.m j.order c.order-whole c.inputs c.outputs)
      (outputs_more j.n j.m j.order c.order-whole c.inputs c.outputs) (t j) k
      (omega (arith, picked_outputs j.n j.m j.order c.order-whole c.inputs c.outputs)) in
      let high = ltb-false (up (t j) j.order h) 128 (not-true _ is) in
      let o< = output_below j.n j.m j.order c.order-whole c.inputs c.outputs k k< in (
        h,
        height_at j (output_byte (get_or outputs k 0)) h (order-length j.n j.m j.order c.order-whole)
            (output_once j.n j.m j.order c.order-whole (get_or outputs k 0) o<) h< (omega arith),
        ap (ins_below (t j) j.order) (sym same) ∙ ins_below_at (t j) j.order h h< is,
      )

  -- an input above that output is not among the lowest
  input_above : (i k : ℕ) → i < j.n → k < j.m → height_of j (output_byte (get_or outputs k 0)) < height_of j i
      → (q : ℕ) × (q < j.n) × (get_or inputs q 0 ≡ i) × (ins_below (t j) j.order k ≤ q)
  input_above i k i< k< above =
      let c = read in
      let (q, q<, is) = inputs-all j.n j.m j.order c.order-whole c.inputs c.outputs i i< in
      let (h, h<, input, same, at) =
      picked_from (input_at (t j) j.order) (up (t j) j.order) (inputs_to (t j) j.order)
      (inputs_start j.n j.m j.order c.order-whole c.inputs c.outputs)
      (inputs_more j.n j.m j.order c.order-whole c.inputs c.outputs) (t j) q
      (omega (arith, picked_inputs j.n j.m j.order c.order-whole c.inputs c.outputs)) in
      let high : height_of j i ≡ suc h =
      height_at j i h (order-length j.n j.m j.order c.order-whole) (input_once j.n j.m j.order c.order-whole i i<) h<
      (sym at ∙ is) in
      let (g, low, below) = output_height k k< in
      let fewer = count_rise (input_at (t j) j.order) g h (omega arith) in
      (q, q<, is, omega arith)

  -- the value on line k does not depend on the inputs below its output
  pub table_ruled : (k x : ℕ) → k < j.m → x < 2 ^ j.n
      → table_at j.n j.m j.order s k x
      ≡ table_at j.n j.m j.order s k (x / 2 ^ ins_below (t j) j.order k * 2 ^ ins_below (t j) j.order k)
  unfolding table_at
  table_ruled k x k< x< =
      let c = read in
      let b = ins_below (t j) j.order k in
      let y = x / 2 ^ b * 2 ^ b in
      let small = word_small j.n j.m j.order c.order-whole c.inputs c.outputs in
      let reads = word-bit j.n j.m j.order c.order-whole c.inputs c.outputs in
      value_settled j s c.inputs c.order-whole (kept j s e) (get_or outputs k 0) (word_of inputs x) (word_of inputs y)
      (output_below j.n j.m j.order c.order-whole c.inputs c.outputs k k<)
      (λ i i< above.
      let (q, q<, is, from) = input_above i k i< k< above in
      ap (bit (word_of inputs x)) (sym is) ∙ reads x q q< ∙ sym (reads y q q< ∙ cleared-bit x b q from) ∙ ap (bit (word_of inputs y)) is)
      (small x) (small y)
