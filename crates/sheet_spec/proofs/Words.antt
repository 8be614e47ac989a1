-- The word of a number read down an order in which each variable stands once, and the number of a word.
-- Assumes nothing.
use mathlib.Core.Path.{◌≡◌, sym, ◌∙◌, ap, ap₂}
use mathlib.Core.Bool.{false}
use mathlib.Core.List.{List}
use Prim.Native.Nat.{ℕ, ◌+◌, ◌*◌, ◌^◌, ◌<◌, ◌≤◌}
use native.Mathlib.Omega.{arith}
use lib.Dec.{eqb}
use lib.ListN.{length, get_or}
use lib.Bits.{bit_and, and_le_l}
use borrow.Author.Tests.{eqb-true, eq-eqb}
use Rattle.laws.specs.Tests.{sum}
use Rattle.laws.specs.Bits.{bit}
use Rattle.laws.proofs.Cases.{same_test}
use Rattle.laws.proofs.Bits.{bit-lt, and_bit, same_bits}
use Rattle.laws.proofs.Powers.{sum-bit, sum_no_bit, sum-small, small-bits}
use Rattle.sheet_spec.specs.Job.{inputs_to, word_of, number_of}
use Rattle.sheet_spec.specs.Refusals.{not_each_once}
use Rattle.sheet_spec.proofs.Orders.{inputs-length, input_below, inputs_distinct, inputs-all}

-- of a list of n inputs
word_sum : (is : List ℕ) (n x : ℕ) → length is ≡ n → word_of is x ≡ sum n (λ k. bit x k * 2 ^ get_or is k 0)
unfolding word_of
word_sum is n x e = ap (λ (t : ℕ). sum t (λ k. bit x k * 2 ^ get_or is k 0)) e

pub number-sum : (is : List ℕ) (n w : ℕ) → length is ≡ n → number_of is w ≡ sum n (λ k. bit w (get_or is k 0) * 2 ^ k)
unfolding number_of
number-sum is n w e = ap (λ (t : ℕ). sum t (λ k. bit w (get_or is k 0) * 2 ^ k)) e

module _ (n m : ℕ) (order : List ℕ) (once : not_each_once n m order ≡ false) (few : n ≤ 12) (out : m ≤ 8) where
  pub word-bit : (x k : ℕ) → k < n → bit (word_of (inputs_to (n + m) order (n + m)) x) (get_or (inputs_to (n + m) order (n + m)) k 0) ≡ bit x k
  word-bit x k h =
      let is = inputs_to (n + m) order (n + m) in
      ap (λ (w : ℕ). bit w (get_or is k 0)) (word_sum is n x (inputs-length n m order once few out))
      ∙ sum-bit (bit x) (λ k. get_or is k 0) n (λ k l. bit-lt x k) (inputs_distinct n m order once few out) k h

  pub word_small : (x : ℕ) → word_of (inputs_to (n + m) order (n + m)) x < 2 ^ n
  word_small x =
      let is = inputs_to (n + m) order (n + m) in
      small-bits n (word_of is x)
      (λ i l.
      ap (λ (w : ℕ). bit w i) (word_sum is n x (inputs-length n m order once few out))
      ∙ sum_no_bit (bit x) (λ k. get_or is k 0) n (λ k l. bit-lt x k) (inputs_distinct n m order once few out) i
      (λ k p e. let q = input_below n m order once few out k p in omega arith))

  pub number_bit : (w k : ℕ) → k < n → bit (number_of (inputs_to (n + m) order (n + m)) w) k ≡ bit w (get_or (inputs_to (n + m) order (n + m)) k 0)
  number_bit w k h =
      let is = inputs_to (n + m) order (n + m) in
      ap (λ (x : ℕ). bit x k) (number-sum is n w (inputs-length n m order once few out))
      ∙ sum-bit (λ k. bit w (get_or is k 0)) (λ k. k) n (λ k l. bit-lt w (get_or is k 0)) (λ k q l p e. e) k h

  pub number_small : (w : ℕ) → number_of (inputs_to (n + m) order (n + m)) w < 2 ^ n
  number_small w =
      let is = inputs_to (n + m) order (n + m) in
      rw (number-sum is n w (inputs-length n m order once few out)) (sum-small (λ k. bit w (get_or is k 0)) n (λ k l. bit-lt w (get_or is k 0)))

  pub number_word : (x : ℕ) → x < 2 ^ n → number_of (inputs_to (n + m) order (n + m)) (word_of (inputs_to (n + m) order (n + m)) x) ≡ x
  number_word x h =
      let is = inputs_to (n + m) order (n + m) in
      same_bits n (number_of is (word_of is x)) x (number_small (word_of is x)) h (λ k l. number_bit (word_of is x) k l ∙ word-bit x k l)

  pub word_number : (w : ℕ) → w < 2 ^ n → word_of (inputs_to (n + m) order (n + m)) (number_of (inputs_to (n + m) order (n + m)) w) ≡ w
  word_number w h =
      let is = inputs_to (n + m) order (n + m) in
      same_bits n (word_of is (number_of is w)) w (word_small (number_of is w)) h
      (λ i l.
      let r = inputs-all n m order once few out i l in
      ap (λ (k : ℕ). bit (word_of is (number_of is w)) k) (sym r.2) ∙ word-bit (number_of is w) r.0 r.1 ∙ number_bit w r.0 r.1
      ∙ ap (bit w) r.2)

  -- the number of a word cut down to a mask
  pub number_and : (x k : ℕ) → x < 2 ^ n → number_of (inputs_to (n + m) order (n + m)) (bit_and (word_of (inputs_to (n + m) order (n + m)) x) k)
      ≡ bit_and x (number_of (inputs_to (n + m) order (n + m)) k)
  number_and x k h =
      let is = inputs_to (n + m) order (n + m) in
      let less = and_le_l x (number_of is k) in
      same_bits n (number_of is (bit_and (word_of is x) k)) (bit_and x (number_of is k)) (number_small (bit_and (word_of is x) k)) (omega arith)
      (λ i l.
      number_bit (bit_and (word_of is x) k) i l ∙ and_bit (word_of is x) k (get_or is i 0)
      ∙ ap₂ (λ (a b : ℕ). bit_and a b) (word-bit x i l) (sym (number_bit k i l)) ∙ sym (and_bit x (number_of is k) i))

  -- numbers are equal where words are
  pub number_test : (v w : ℕ) → v < 2 ^ n → w < 2 ^ n
      → eqb v w ≡ eqb (number_of (inputs_to (n + m) order (n + m)) v) (number_of (inputs_to (n + m) order (n + m)) w)
  number_test v w p q =
      let is = inputs_to (n + m) order (n + m) in
      same_test (eqb v w) (eqb (number_of is v) (number_of is w))
      (λ e. eq-eqb (number_of is v) (number_of is w) (ap (number_of is) (eqb-true v w e)))
      (λ e. eq-eqb v w (sym (word_number v p) ∙ ap (word_of is) (eqb-true (number_of is v) (number_of is w) e) ∙ word_number w q))
