-- The variables of an order, height by height: how many inputs and outputs stand below; and where each stands once, an input's bit in a word
-- is a bit of the word's number, and an output is listed once.
-- Assumes nothing.
use mathlib.Core.Path.{◌≡◌, refl, sym, ◌∙◌, ap}
use mathlib.Core.Bool.{true, false, not}
use Prim.Native.Nat.{ℕ, suc, ◌+◌, ◌-◌, ◌<◌, ◌≤◌}
use native.Mathlib.Omega.{arith}
use lib.Dec.{eqb}
use lib.ListN.{length, get_or}
use borrow.Author.Tests.{eqb-true, eq-eqb, ltb-false, le-ltb}
use Rattle.laws.specs.Bits.{bit}
use Rattle.laws.proofs.Cases.{by_test, cond_yes, cond_no}
use Rattle.laws.proofs.Picked.{count_once, count_before, count_place, picked_at}
use Rattle.sheet_spec.specs.Job.{Job, t, ins, outs, var_at, is_input, input_list, output_list, inputs_to, outputs_to, number_of}
use Rattle.sheet_spec.specs.Refusals.{times, not_each_once}
use Rattle.sheet_spec.proofs.RecordFields.{order-length, input_once, output_once}
use Rattle.sheet_spec.proofs.Orders.{up, input_at, output_at, lowered, inputs_start, inputs_more, outputs_start, outputs_more, picked_inputs, picked_outputs, input_below, output_below, ins_rise, ins-all, outs_rise, outs-all}
use Rattle.sheet_spec.proofs.Words.{number_bit}

-- across an input, and across an output
module _ (j : Job) (h : ℕ) where
  pub ins_input : is_input (var_at j (suc h)) ≡ true → ins j (suc h) ≡ ins j h + 1
  unfolding ins
  ins_input e = cond_yes (is_input (var_at j (suc h))) _ _ e

  pub ins_output : is_input (var_at j (suc h)) ≡ false → ins j (suc h) ≡ ins j h
  unfolding ins
  ins_output e = cond_no (is_input (var_at j (suc h))) _ _ e

  pub outs_input : is_input (var_at j (suc h)) ≡ true → outs j (suc h) ≡ outs j h
  unfolding outs
  outs_input e = cond_no (not (is_input (var_at j (suc h)))) _ _ (ap not e)

  pub outs_output : is_input (var_at j (suc h)) ≡ false → outs j (suc h) ≡ outs j h + 1
  unfolding outs
  outs_output e = cond_yes (not (is_input (var_at j (suc h)))) _ _ (ap not e)

module _ (j : Job) (once : not_each_once j.n j.m j.order ≡ false) (few : j.n ≤ 12) (out : j.m ≤ 8) where
  pub ins_below_lem : (h : ℕ) → h ≤ t j → ins j h ≤ j.n
  ins_below_lem h l = omega (arith, ins_rise j h (t j) l, ins-all j once few out)

  pub outs_below : (h : ℕ) → h ≤ t j → outs j h ≤ j.m
  outs_below h l = omega (arith, outs_rise j h (t j) l, outs-all j once few out)

  -- a variable that stands once stands at one height
  one_height : (v h g : ℕ) → times j.order v ≡ 1 → h < t j → g < t j → var_at j (suc h) ≡ v → var_at j (suc g) ≡ v → h ≡ g
  unfolding times
  one_height v h g one high below e d =
      let whole = order-length j.n j.m j.order once in
      let same : t j - suc h ≡ t j - suc g =
      count_once (λ i. eqb (get_or j.order i 0) v) (length j.order) (t j - suc h) (t j - suc g) (omega arith) (omega arith) (omega arith)
      (eq-eqb (var_at j (suc h)) v e) (eq-eqb (var_at j (suc g)) v d) in
      omega arith

  -- an input at height h + 1
  module _ (h : ℕ) (high : h < t j) (input : is_input (var_at j (suc h)) ≡ true) where
    pub input_number : ins j h < j.n
    unfolding ins
    input_number =
        omega (arith, count_before (input_at (t j) j.order) (t j) h high input, picked_inputs j.n j.m j.order once few out)

    pub input_listed : get_or (input_list j) (ins j h) 0 ≡ var_at j (suc h)
    unfolding ins
    input_listed =
        picked_at (input_at (t j) j.order) (up (t j) j.order) (inputs_to (t j) j.order) (inputs_start j.n j.m j.order once few out)
        (inputs_more j.n j.m j.order once few out) (t j) h high input

    pub input_low : var_at j (suc h) < j.n
    input_low = omega (arith, input_listed, input_below j.n j.m j.order once few out (ins j h) input_number)

    pub input_bit : (w : ℕ) → bit w (var_at j (suc h)) ≡ bit (number_of (input_list j) w) (ins j h)
    input_bit w = sym (number_bit j.n j.m j.order once few out w (ins j h) input_number ∙ ap (bit w) input_listed)

  -- an output at height h + 1
  module _ (h : ℕ) (high : h < t j) (output : is_input (var_at j (suc h)) ≡ false) where
    pub output_number : outs j h < j.m
    unfolding outs
    output_number =
        omega (arith, count_before (output_at (t j) j.order) (t j) h high (ap not output), picked_outputs j.n j.m j.order once few out)

    pub output_listed : get_or (output_list j) (outs j h) 0 ≡ var_at j (suc h) - 128
    unfolding outs
    output_listed =
        picked_at (output_at (t j) j.order) (lowered (t j) j.order) (outputs_to (t j) j.order)
        (outputs_start j.n j.m j.order once few out) (outputs_more j.n j.m j.order once few out) (t j) h high (ap not output)

    pub output_low : var_at j (suc h) - 128 < j.m
    output_low = omega (arith, output_listed, output_below j.n j.m j.order once few out (outs j h) output_number)

    pub output_byte_lem : 128 ≤ var_at j (suc h)
    output_byte_lem = ltb-false (var_at j (suc h)) 128 output

    -- at no other height stands the same output
    pub output_one : (g : ℕ) → g < t j → is_input (var_at j (suc g)) ≡ false → var_at j (suc h) - 128 ≡ var_at j (suc g) - 128 → h ≡ g
    output_one g below other e =
        let o = var_at j (suc h) - 128 in
        let v : var_at j (suc h) ≡ 128 + o = omega (arith, output_byte_lem) in
        let u : var_at j (suc g) ≡ 128 + o = let b = ltb-false (var_at j (suc g)) 128 other in omega arith in
        one_height (128 + o) h g (output_once j.n j.m j.order once o output_low) high below v u

  -- no variable stands at two heights
  pub variable_one : (h g : ℕ) → h < t j → g < t j → var_at j (suc h) ≡ var_at j (suc g) → h ≡ g
  variable_one h g high below e =
      by_test (is_input (var_at j (suc h)))
      (λ p. one_height (var_at j (suc h)) h g (input_once j.n j.m j.order once (var_at j (suc h)) (input_low h high p)) high below refl (sym e))
      (λ p.
      output_one h high p g below (ap is_input (sym e) ∙ p) (ap (λ (v : ℕ). v - 128) e))

  -- each output stands at some height
  pub output_height : (o : ℕ) → o < j.m → (h : ℕ) × (h < t j) × (is_input (var_at j (suc h)) ≡ false) × (var_at j (suc h) - 128 ≡ o)
  unfolding times
  output_height o l =
      let whole = order-length j.n j.m j.order once in
      let (p, p<, is, before) =
      count_place (λ i. eqb (get_or j.order i 0) (128 + o)) (length j.order) 0 (omega (arith, output_once j.n j.m j.order once o l)) in
      let h = t j - suc p in
      let at : t j - suc h ≡ p = omega arith in
      let v : var_at j (suc h) ≡ 128 + o = ap (λ (i : ℕ). get_or j.order i 0) at ∙ eqb-true (get_or j.order p 0) (128 + o) is in
      (h, omega arith, le-ltb (var_at j (suc h)) 128 (omega arith), omega arith)
