-- What refusal 6 rules out: where it is not given, an output's value does not depend on the inputs below it in the order, taken together.
-- Assumes nothing.
use mathlib.Core.Path.{◌≡◌, refl, sym, ◌∙◌, ap}
use mathlib.Core.Bool.{false}
use mathlib.Core.List.{List}
use Prim.Native.Nat.{ℕ, zero, suc, ◌+◌, ◌-◌, ◌*◌, ◌/◌, ◌%◌, ◌^◌, ◌<◌, ◌≤◌}
use native.Mathlib.Nat.{mod-lt}
use native.Mathlib.Omega.{arith}
use lib.Dec.{eqb, ltb}
use lib.ListN.{length, get_or}
use lib.Pow.{pow_pos, split}
use borrow.Author.Tests.{ltb-true, lt-ltb}
use Rattle.laws.specs.Tests.{any}
use Rattle.laws.specs.Bits.{bit}
use Rattle.laws.proofs.Cases.{by_test, by_less, by_equal, and_join, same_test}
use Rattle.laws.proofs.Tests.{any_out}
use Rattle.laws.proofs.Find.{least-le}
use Rattle.laws.proofs.Bits.{bit_past, bit-low, bit_high, same_bits}
use Rattle.laws.proofs.Powers.{small-bits}
use Rattle.laws.proofs.Masks.{not-both}
use Rattle.sheet_spec.specs.Job.{Job, t, output_byte}
use Rattle.sheet_spec.specs.Values.{value, depends}
use Rattle.sheet_spec.specs.Refusals.{not_each_once, place_of, height_of, above_input, refuse6}
use Rattle.sheet_spec.proofs.RecordFields.{order-length, input_once, output_once, place_lt, at_place}
use Rattle.sheet_spec.proofs.Dependence.{flip_settled}

place_le : (order : List ℕ) (v : ℕ) → place_of order v ≤ length order
unfolding place_of
place_le order v = least-le (λ i. eqb (get_or order i 0) v) (length order)

-- lower is later in the order
pub lower_is : (j : Job) (i v : ℕ) → length j.order ≡ t j → ltb (height_of j i) (height_of j v) ≡ ltb (place_of j.order v) (place_of j.order i)
unfolding height_of
lower_is j i v e =
    let ends = place_le j.order i in
    same_test (ltb (height_of j i) (height_of j v)) (ltb (place_of j.order v) (place_of j.order i))
    (λ h. let l = ltb-true (height_of j i) (height_of j v) h in lt-ltb (place_of j.order v) (place_of j.order i) (omega arith))
    (λ h. let l = ltb-true (place_of j.order v) (place_of j.order i) h in lt-ltb (height_of j i) (height_of j v) (omega arith))

-- the inputs below k as in v, the others as in w
abbrev mixed : ℕ → ℕ → ℕ → ℕ
mixed w v k = w / 2 ^ k * 2 ^ k + v % 2 ^ k

module _ (w v : ℕ) where
  mixed_low : (k i : ℕ) → i < k → bit (mixed w v k) i ≡ bit v i
  mixed_low k i l =
      let small = mod-lt v (pow_pos k) in
      bit-low (w / 2 ^ k) k (v % 2 ^ k) i small l ∙ sym (bit-low (v / 2 ^ k) k (v % 2 ^ k) i small l) ∙ ap (λ (x : ℕ). bit x i) (split v k)

  mixed_high : (k i : ℕ) → k ≤ i → bit (mixed w v k) i ≡ bit w i
  mixed_high k i l =
      let e : k + (i - k) ≡ i = omega arith in
      ap (bit (mixed w v k)) (sym e) ∙ bit_high (w / 2 ^ k) k (v % 2 ^ k) (i - k) (mod-lt v (pow_pos k))
      ∙ sym (bit_high (w / 2 ^ k) k (w % 2 ^ k) (i - k) (mod-lt w (pow_pos k))) ∙ ap (λ (x : ℕ). bit x (k + (i - k))) (split w k)
      ∙ ap (bit w) e

  mixed_small : (n k : ℕ) → w < 2 ^ n → v < 2 ^ n → mixed w v k < 2 ^ n
  mixed_small n k w< v< =
      small-bits n (mixed w v k)
      (λ i l.
      by_less i k (λ b. mixed_low k i b ∙ bit_past v n i v< l) (λ b. mixed_high k i b ∙ bit_past w n i w< l))

-- where 6 is not given, an output depends on no input that does not stand above it
module _ (j : Job) (s : List ℕ) (few : j.n ≤ 12) (order : not_each_once j.n j.m j.order ≡ false) (kept : refuse6 j s ≡ false) where
  pub depends_above : (o i : ℕ) → o < j.m → i < j.n → (height_of j (output_byte o) < height_of j i → ⊥) → depends j.n s i o ≡ false
  unfolding refuse6 above_input height_of
  depends_above o i o< i< not-above =
      let above = output_byte o in
      let none = any_out (above_input j s o) j.n (any_out (λ o. any j.n (above_input j s o)) j.m kept o o<) i i< in
      let once = input_once j.n j.m j.order order i i< in
      let once' = output_once j.n j.m j.order order o o< in
      let whole = order-length j.n j.m j.order order in
      let p = place_lt j.order i once in
      let q = place_lt j.order above once' in
      by_test (depends j.n s i o)
      (λ e.
      by_less (height_of j i) (height_of j above) (λ l. not-both (and_join (lt-ltb (height_of j i) (height_of j above) l) e) none)
      (λ l.
      by_equal (place_of j.order i) (place_of j.order above)
      (λ same.
      let one : i ≡ above = sym (at_place j.order i once) ∙ ap (λ (k : ℕ). get_or j.order k 0) same ∙ at_place j.order above once' in
      absurd (omega arith))
      (λ other. absurd (not-above (omega arith)))))
      (λ e. e)

  -- words that agree on the inputs above the output: one input after another is turned
  module _ (o w v : ℕ) (o< : o < j.m)
      (agree : (i : ℕ) → i < j.n → height_of j (output_byte o) < height_of j i → bit w i ≡ bit v i) (w< : w < 2 ^ j.n) (v< : v < 2 ^ j.n) where
    turned : (k : ℕ) → k < j.n → value s (mixed w v k) o ≡ value s (mixed w v (suc k)) o
    turned k k< =
        let rest : (i : ℕ) → i < j.n → (i ≡ k → ⊥) → bit (mixed w v k) i ≡ bit (mixed w v (suc k)) i =
        λ i i< c.
        by_less i k (λ b. mixed_low w v k i b ∙ sym (mixed_low w v (suc k) i (omega arith)))
        (λ b. mixed_high w v k i b ∙ sym (mixed_high w v (suc k) i (omega arith))) in
        by_less (height_of j (output_byte o)) (height_of j k)
        (λ above.
        ap (λ (x : ℕ). value s x o)
        (same_bits j.n (mixed w v k) (mixed w v (suc k)) (mixed_small w v j.n k w< v<) (mixed_small w v j.n (suc k) w< v<)
        (λ i i<.
        by_equal i k
        (λ c.
        ap (bit (mixed w v k)) c ∙ mixed_high w v k k (omega arith) ∙ agree k k< above
        ∙ sym (ap (bit (mixed w v (suc k))) c ∙ mixed_low w v (suc k) k (omega arith)))
        (rest i i<))))
        (λ below.
        flip_settled j.n s k o k< (depends_above o k o< k< (λ l. absurd (omega arith))) (mixed w v k) (mixed w v (suc k))
        (mixed_small w v j.n k w< v<) (mixed_small w v j.n (suc k) w< v<) rest)

    turned_to : (k : ℕ) → k ≤ j.n → value s (mixed w v 0) o ≡ value s (mixed w v k) o
    turned_to zero l = refl
    turned_to (suc k) l = turned_to k (omega arith) ∙ turned k l

    pub value_settled : value s w o ≡ value s v o
    value_settled =
        let first : w ≡ mixed w v 0 =
        same_bits j.n w (mixed w v 0) w< (mixed_small w v j.n 0 w< v<) (λ i l. sym (mixed_high w v 0 i (omega arith))) in
        let last : mixed w v j.n ≡ v =
        same_bits j.n (mixed w v j.n) v (mixed_small w v j.n j.n w< v<) v< (λ i l. mixed_low w v j.n i l) in
        ap (λ (x : ℕ). value s x o) first ∙ turned_to j.n (omega arith) ∙ ap (λ (x : ℕ). value s x o) last
