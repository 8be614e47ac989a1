-- The values of all variables in one number z, bit g that of the variable at height g + 1: z carries the inputs and the outputs that are
-- read from it.
-- Assumes nothing.
use mathlib.Core.Path.{◌≡◌, refl, sym, ◌∙◌, ap}
use mathlib.Core.Bool.{Bool, true, false, cond}
use Prim.Native.Nat.{ℕ, suc, ◌+◌, ◌-◌, ◌*◌, ◌^◌, ◌<◌, ◌≤◌}
use native.Mathlib.Nat.{zero-mul}
use native.Mathlib.Omega.{arith}
use borrow.Author.Tests.{le-ltb}
use Rattle.laws.specs.Tests.{sum}
use Rattle.laws.specs.Bits.{bit}
use Rattle.laws.proofs.Cases.{by_test, cond_yes, cond_no, cond_both}
use Rattle.laws.proofs.Counts.{sum_ext}
use Rattle.laws.proofs.Bits.{bit-lt}
use Rattle.laws.proofs.Powers.{sum-bit}
use Rattle.laws.proofs.PickedBits.{picked_bits, picked_bits_lt, picked_bits_at}
use Rattle.sheet_spec.specs.Job.{Job, t, ins, var_at, is_input, output_byte}
use Rattle.sheet_spec.specs.Refusals.{not_each_once}
use Rattle.sheet_spec.proofs.Promises.{ins-all, output_low, output_one}
use Rattle.reduction_spec.specs.Cofactors.{inputs_in, outputs_in}

-- bits holds, at the heights of the inputs, the inputs that are the number x read down the order
abbrev pub Carries : Job → ℕ → ℕ → Type 0
Carries j x bits = (h : ℕ) → h < t j → is_input (var_at j (suc h)) ≡ true → bit bits h ≡ bit x (ins j h)

-- bits holds, at the heights of the outputs, the outputs' bits y
abbrev pub CarriesOutputs : Job → ℕ → ℕ → Type 0
CarriesOutputs j y bits = (h o : ℕ) → h < t j → var_at j (suc h) ≡ output_byte o → bit bits h ≡ bit y o

-- whether an input stands at height g + 1
abbrev pub input_up : Job → ℕ → Bool
input_up j g = is_input (var_at j (suc g))

-- a bit of an output at its place; the others add nothing, wherever they stand
output_term : (c : Bool) (b x y : ℕ) → cond c 0 (b * 2 ^ x) ≡ cond c 0 b * 2 ^ cond c y x
output_term true b x y = sym (zero-mul (2 ^ y))
output_term false b x y = refl

module _ (j : Job) where
  pub inputs_picked : (z : ℕ) → inputs_in j z ≡ picked_bits (input_up j) z (t j)
  unfolding inputs_in ins picked_bits
  inputs_picked z = refl

  pub inputs_carried : (z : ℕ) → Carries j (inputs_in j z) z
  unfolding ins
  inputs_carried z h l i = sym (ap (λ (x : ℕ). bit x (ins j h)) (inputs_picked z) ∙ picked_bits_at (input_up j) z (t j) h l i)

  module _ (once : not_each_once j.n j.m j.order ≡ false) (few : j.n ≤ 12) (out : j.m ≤ 8) where
    pub inputs_below : (z : ℕ) → inputs_in j z < 2 ^ j.n
    unfolding ins
    inputs_below z =
        rw (inputs_picked z, sym (ap (λ (i : ℕ). 2 ^ i) (ins-all j once few out))) (picked_bits_lt (input_up j) z (t j))

    -- where an output's bit goes; past all of these for an input
    abbrev place : ℕ → ℕ
    place g = cond (input_up j g) (j.m + g) (var_at j (suc g) - 128)

    place_once : (k q : ℕ) → k < t j → q < t j → place k ≡ place q → k ≡ q
    place_once k q hk hq e =
        by_test (input_up j k)
        (λ a.
        let at : place k ≡ j.m + k = cond_yes (input_up j k) _ _ a in
        by_test (input_up j q) (λ b. omega (arith, cond_yes (input_up j q) (j.m + q) (var_at j (suc q) - 128) b))
        (λ b. absurd (omega (arith, low q hq b))))
        (λ a.
        by_test (input_up j q)
        (λ b.
        let at : place q ≡ j.m + q = cond_yes (input_up j q) _ _ b in
        absurd (omega (arith, low k hk a)))
        (λ b.
        output_one j once few out k hk a q hq b
        (omega (arith, cond_no (input_up j k) (j.m + k) (var_at j (suc k) - 128) a, cond_no (input_up j q) (j.m + q) (var_at j (suc q) - 128) b))))
      where
        low : (g : ℕ) → g < t j → input_up j g ≡ false → place g < j.m
        low g l i =
            omega (arith, cond_no (input_up j g) (j.m + g) (var_at j (suc g) - 128) i, output_low j once few out g l i)

    pub outputs_carried : (z : ℕ) → CarriesOutputs j (outputs_in j z) z
    unfolding outputs_in
    outputs_carried z h o l e =
        let i : input_up j h ≡ false = le-ltb (var_at j (suc h)) 128 (omega arith) in
        let value : ℕ → ℕ = λ g. cond (input_up j g) 0 (bit z g) in
        let at : place h ≡ o = cond_no (input_up j h) _ _ i ∙ omega arith in
        sym (
        ap (λ (x : ℕ). bit x o)
        (sum_ext (λ g. cond (input_up j g) 0 (bit z g * 2 ^ (var_at j (suc g) - 128))) (λ g. value g * 2 ^ place g) (t j)
        (λ g l. output_term (input_up j g) (bit z g) (var_at j (suc g) - 128) (j.m + g)))
        ∙ ap (bit (sum (t j) (λ g. value g * 2 ^ place g))) (sym at)
        ∙ sum-bit value place (t j) (λ g l. cond_both (λ (b : ℕ). b < 2) (input_up j g) (omega arith) (bit-lt z g)) place_once h l
        ∙ cond_no (input_up j h) 0 (bit z h) i)
