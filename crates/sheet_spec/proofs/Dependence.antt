-- What dependence is (document 02, §1): as a claim about two words, input by input, and with a word without the input and the same word with it.
-- Assumes nothing.
use mathlib.Core.Path.{◌≡◌, refl, sym, ◌∙◌, ap}
use mathlib.Core.Bool.{Bool, true, false, not, cond, ◌&&◌}
use mathlib.Core.List.{List}
use Prim.Native.Nat.{ℕ, ◌+◌, ◌^◌, ◌<◌}
use native.Mathlib.Nat.{one-mul}
use native.Mathlib.Omega.{arith}
use lib.Dec.{eqb}
use lib.Bits.{bit_xor, xor_lt}
use lib.Pow.{pow-lt}
use borrow.Author.Tests.{eqb-true, eq-eqb, ne_eqb, not-true}
use Rattle.laws.specs.Tests.{any}
use Rattle.laws.specs.Bits.{bit, has, flag}
use Rattle.laws.proofs.Cases.{by_test, by_equal, cond_yes, cond_no, and_split, and_join, same_test}
use Rattle.laws.proofs.Tests.{any_of, any_at}
use Rattle.laws.proofs.Bits.{bit-lt, bit_past, same_bits, has_power, flag-has}
use Rattle.laws.proofs.Powers.{add-bit, small-bits}
use Rattle.laws.proofs.Masks.{not-both, same-has, differ, differ_same, same_differ, has_xor}
use Rattle.sheet_spec.specs.Values.{value, differ_alone, depends}

-- two words differ in input i alone exactly where they are alike in every other input and different in i
module _ (i w v : ℕ) where
  pub alone-has : differ_alone i w v ≡ true → (k : ℕ) → differ (has w k) (has v k) ≡ eqb i k
  unfolding differ_alone
  alone-has e k = sym (has_xor w v k) ∙ ap (λ (x : ℕ). has x k) (eqb-true (bit_xor w v) (2 ^ i) e) ∙ has_power i k

  alike : differ_alone i w v ≡ true → (k : ℕ) → (k ≡ i → ⊥) → bit w k ≡ bit v k
  alike e k other =
      sym (flag-has w k) ∙ ap flag (differ_same (has w k) (has v k) (alone-has e k ∙ ne_eqb i k (λ q. other (sym q)))) ∙ flag-has v k

  unlike : differ_alone i w v ≡ true → bit w i ≡ bit v i → ⊥
  unlike e q = not-both (alone-has e i ∙ eq-eqb i i refl) (same_differ (has w i) (has v i) (ap (λ (x : ℕ). eqb x 1) q))

  alone_yes : (n : ℕ) → w < 2 ^ n → v < 2 ^ n → i < n → ((k : ℕ) → k < n → (k ≡ i → ⊥) → bit w k ≡ bit v k) → (bit w i ≡ bit v i → ⊥)
      → differ_alone i w v ≡ true
  unfolding differ_alone
  alone_yes n w< v< i< rest apart =
      eq-eqb (bit_xor w v) (2 ^ i)
      (same-has n (bit_xor w v) (2 ^ i) (xor_lt n w v w< v<) (pow-lt i<)
      (λ k k<.
      has_xor w v k
      ∙ by_equal k i
      (λ e.
      by_test (differ (has w k) (has v k)) (λ d. d)
      (λ d.
      absurd
      (apart
      (ap (bit w) (sym e) ∙ sym (flag-has w k) ∙ ap flag (differ_same (has w k) (has v k) d) ∙ flag-has v k ∙ ap (bit v) e)))
      ∙ sym (eq-eqb i k (sym e)))
      (λ e. same_differ (has w k) (has v k) (ap (λ (x : ℕ). eqb x 1) (rest k k< e)) ∙ sym (ne_eqb i k (λ q. e (sym q))))
      ∙ sym (has_power i k)))

-- two words of n inputs, alike in every input but i and different in i, that give output o different values
pub record Differ (n : ℕ) (s : List ℕ) (i o : ℕ) : Type 0 where
  pub w : ℕ
  pub v : ℕ
  pub w_small : w < 2 ^ n
  pub v_small : v < 2 ^ n
  pub alone : (k : ℕ) → k < n → (k ≡ i → ⊥) → bit w k ≡ bit v k
  pub apart : bit w i ≡ bit v i → ⊥
  pub different : value s w o ≡ value s v o → ⊥

module _ (n : ℕ) (s : List ℕ) (i o : ℕ) where
  pub depends_yes : i < n → Differ n s i o → depends n s i o ≡ true
  unfolding depends
  depends_yes i< d =
      let f : ℕ → ℕ → Bool = λ w v. differ_alone i w v && not (eqb (value s w o) (value s v o)) in
      any_of (λ w. any (2 ^ n) (f w)) (2 ^ n) d.w d.w_small
      (any_of (f d.w) (2 ^ n) d.v d.v_small
      (and_join (alone_yes i d.w d.v n d.w_small d.v_small i< d.alone d.apart)
      (ap not (ne_eqb (value s d.w o) (value s d.v o) d.different))))

  pub depends_at : depends n s i o ≡ true → Differ n s i o
  unfolding depends
  depends_at e =
      let f : ℕ → ℕ → Bool = λ w v. differ_alone i w v && not (eqb (value s w o) (value s v o)) in
      let (w, w<, p) = any_at (λ w. any (2 ^ n) (f w)) (2 ^ n) e in
      let (v, v<, q) = any_at (f w) (2 ^ n) p in
      let both = and_split (differ_alone i w v) (not (eqb (value s w o) (value s v o))) q in
      record {
        w = w;
        v = v;
        w_small = w<;
        v_small = v<;
        alone = λ k l. alike i w v both.0 k;
        apart = unlike i w v both.0;
        different = λ z. not-both (eq-eqb (value s w o) (value s v o) z) (not-true (eqb (value s w o) (value s v o)) both.1);
      }

  -- words that differ at most in an input on which the output does not depend
  pub flip_settled : i < n → depends n s i o ≡ false → (w v : ℕ) → w < 2 ^ n → v < 2 ^ n → ((k : ℕ) → k < n → (k ≡ i → ⊥) → bit w k ≡ bit v k)
      → value s w o ≡ value s v o
  flip_settled i< none w v w< v< rest =
      by_equal (bit w i) (bit v i)
      (λ e.
      ap (λ (x : ℕ). value s x o)
      (same_bits n w v w< v< (λ k l. by_equal k i (λ c. ap (bit w) c ∙ e ∙ sym (ap (bit v) c)) (rest k l))))
      (λ e.
      by_equal (value s w o) (value s v o) (λ z. z)
      (λ z.
      not-both
      (depends_yes i< (record { w = w; v = v; w_small = w<; v_small = v<; alone = rest; apart = e; different = z }))
      none))

-- the word with input i, where it was without
module _ (n w i : ℕ) (w< : w < 2 ^ n) (i< : i < n) (none : bit w i ≡ 0) where
  pub with_bit : (k : ℕ) → bit (w + 2 ^ i) k ≡ cond (eqb k i) 1 (bit w k)
  with_bit k = ap (λ (x : ℕ). bit (w + x) k) (sym (one-mul (2 ^ i))) ∙ add-bit w 1 i k (omega arith) none

  pub with_small : w + 2 ^ i < 2 ^ n
  with_small =
      small-bits n (w + 2 ^ i)
      (λ k l. with_bit k ∙ cond_no (eqb k i) 1 (bit w k) (ne_eqb k i (λ e. absurd (omega arith))) ∙ bit_past w n k w< l)

  -- another word that differs in that input alone
  pub with_is : (v : ℕ) → v < 2 ^ n → bit v i ≡ 1 → ((k : ℕ) → k < n → (k ≡ i → ⊥) → bit w k ≡ bit v k) → w + 2 ^ i ≡ v
  with_is v v< one rest =
      same_bits n (w + 2 ^ i) v with_small v<
      (λ k l.
      with_bit k
      ∙ by_equal k i (λ e. cond_yes (eqb k i) 1 (bit w k) (eq-eqb k i e) ∙ sym (ap (bit v) e ∙ one))
      (λ e. cond_no (eqb k i) 1 (bit w k) (ne_eqb k i e) ∙ rest k l e))

-- dependence by a word without the input and the same word with it
pub depends_turned : (n : ℕ) (s : List ℕ) (i o : ℕ) → i < n
    → depends n s i o ≡ any (2 ^ n) (λ w. not (has w i) && not (eqb (value s w o) (value s (w + 2 ^ i) o)))
depends_turned n s i o i< = same_test (depends n s i o) (any (2 ^ n) f) there back
  where
    f : ℕ → Bool
    f w = not (has w i) && not (eqb (value s w o) (value s (w + 2 ^ i) o))

    without : (w v : ℕ) → w < 2 ^ n → v < 2 ^ n → bit w i ≡ 0 → bit v i ≡ 1 → ((k : ℕ) → k < n → (k ≡ i → ⊥) → bit w k ≡ bit v k)
        → (value s w o ≡ value s v o → ⊥) → any (2 ^ n) f ≡ true
    without w v w< v< none one rest other =
        any_of f (2 ^ n) w w<
        (and_join (ap not (ne_eqb (bit w i) 1 (λ e. absurd (omega arith))))
        (ap not
        (ne_eqb (value s w o) (value s (w + 2 ^ i) o) (λ e. other (e ∙ ap (λ (x : ℕ). value s x o) (with_is n w i w< i< none v v< one rest))))))

    there : depends n s i o ≡ true → any (2 ^ n) f ≡ true
    there e =
        let d = depends_at n s i o e in
        let low = bit-lt d.w i in
        let low' = bit-lt d.v i in
        by_equal (bit d.w i) 0
        (λ z.
        without d.w d.v d.w_small d.v_small z (by_equal (bit d.v i) 0 (λ y. absurd (d.apart (z ∙ sym y))) (λ y. omega arith)) d.alone d.different)
        (λ z.
        without d.v d.w d.v_small d.w_small (by_equal (bit d.v i) 0 (λ y. y) (λ y. absurd (d.apart (omega arith)))) (omega arith)
        (λ k l c. sym (d.alone k l c))
        (λ q. d.different (sym q)))

    back : any (2 ^ n) f ≡ true → depends n s i o ≡ true
    back e =
        let (w, w<, p) = any_at f (2 ^ n) e in
        let both = and_split (not (has w i)) (not (eqb (value s w o) (value s (w + 2 ^ i) o))) p in
        let low = bit-lt w i in
        let none : bit w i ≡ 0 = by_equal (bit w i) 1 (λ z. not-both (eq-eqb (bit w i) 1 z) (not-true (has w i) both.0)) (λ z. omega arith) in
        let bits = with_bit n w i w< i< none in
        depends_yes n s i o i<
        (record {
          w = w;
          v = w + 2 ^ i;
          w_small = w<;
          v_small = with_small n w i w< i< none;
          alone = λ k l c. sym (bits k ∙ cond_no (eqb k i) 1 (bit w k) (ne_eqb k i c));
          apart = λ z. let one : bit (w + 2 ^ i) i ≡ 1 = bits i ∙ cond_yes (eqb i i) 1 (bit w i) (eq-eqb i i refl) in absurd (omega arith);
          different = λ z. not-both (eq-eqb (value s w o) (value s (w + 2 ^ i) o) z) (not-true (eqb (value s w o) (value s (w + 2 ^ i) o)) both.1);
        })
