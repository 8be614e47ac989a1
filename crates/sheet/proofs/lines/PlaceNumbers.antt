-- Records by numbers read down the order: which places they match, and the number of a word as the code reads it.
-- Assumes nothing.
use mathlib.Core.Path.{◌≡◌, refl, sym, ◌∙◌, ap, ap₂}
use mathlib.Core.Bool.{false}
use mathlib.Core.List.{List}
use Prim.Native.Nat.{ℕ, zero, suc, ◌+◌, ◌*◌, ◌%◌, ◌^◌, ◌<◌, ◌≤◌}
use native.Mathlib.Nat.{add_comm, mod-eq_of_lt}
use native.Mathlib.Omega.{arith}
use lib.Dec.{eqb}
use lib.ListN.{length, get_or}
use lib.Bits.{bit_and, bit_or, and_le_r, or_shifted_r}
use Rattle.laws.specs.Tests.{sum}
use Rattle.laws.specs.Bits.{bit}
use Rattle.laws.proofs.Bits.{bit-lt}
use Rattle.laws.proofs.Powers.{sum-small}
use Rattle.sheet_spec.specs.Records.{mask, values, matches}
use Rattle.sheet_spec.specs.Job.{inputs_to, word_of, number_of}
use Rattle.sheet_spec.specs.Refusals.{not_each_once, malformed}
use Rattle.sheet.specs.Planes.{agrees, number_to}
use Rattle.sheet_spec.proofs.RecordFields.{good_of}
use Rattle.sheet_spec.proofs.Words.{number-sum, number_and, number_test}

-- a record matches the word of x where the number x has its values on its mask, both read down the order
module _ (n m : ℕ) (order : List ℕ) (once : not_each_once n m order ≡ false) (few : n ≤ 12) (out : m ≤ 8) where
  pub matches-number : (s : List ℕ) (r x : ℕ) → malformed n m s r ≡ false → x < 2 ^ n
      → matches s r (word_of (inputs_to (n + m) order (n + m)) x)
      ≡ agrees (number_of (inputs_to (n + m) order (n + m)) (mask s r)) (number_of (inputs_to (n + m) order (n + m)) (values s r)) x
  unfolding matches agrees
  matches-number s r x h l =
      let is = inputs_to (n + m) order (n + m) in
      let good = good_of n m s r h in
      let less = and_le_r (word_of is x) (mask s r) in
      ap (eqb (bit_and (word_of is x) (mask s r))) good.values_in
      ∙ number_test n m order once few out (bit_and (word_of is x) (mask s r)) (values s r) (omega (arith, good.mask_low)) good.values_low
      ∙ ap (λ (k : ℕ). eqb k (number_of is (values s r))) (number_and n m order once few out x (mask s r) l)

-- the number as the code reads it, input by input
number_to_lem : (list is : List ℕ) (n w : ℕ) → ((k : ℕ) → k < n → get_or list k 0 ≡ get_or is k 0) → ((k : ℕ) → k < n → get_or is k 0 < 16)
    → number_to 0 list n w ≡ sum n (λ k. bit w (get_or is k 0) * 2 ^ k)
unfolding number_to
number_to_lem list is zero w same low = refl
number_to_lem list is (suc n) w same low =
    let before = number_to_lem list is n w (λ k l. same k (omega arith)) (λ k l. low k (omega arith)) in
    let place : get_or list n 0 % 16 ≡ get_or is n 0 =
    ap (λ (i : ℕ). i % 16) (same n (omega arith)) ∙ mod-eq_of_lt (low n (omega arith)) in
    ap₂ (λ (a i : ℕ). bit_or a (bit w i * 2 ^ n)) before place
    ∙ or_shifted_r (bit w (get_or is n 0)) n (sum n (λ k. bit w (get_or is k 0) * 2 ^ k))
    (sum-small (λ k. bit w (get_or is k 0)) n (λ k l. bit-lt w (get_or is k 0)))
    ∙ add_comm _ _

pub number_to_is : (list is : List ℕ) (n w : ℕ) → n ≤ 12 → ((k : ℕ) → k < n → get_or list k 0 ≡ get_or is k 0) → ((k : ℕ) → k < n → get_or is k 0 < 16)
    → length is ≡ n → number_to 0 list n w ≡ number_of is w
number_to_is list is n w few same low e = number_to_lem list is n w same low ∙ sym (number-sum is n w e)
