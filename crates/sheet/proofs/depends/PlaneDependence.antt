-- Refusal 6 found from two planes is refusal 6, for a sheet that passes 1 to 5.
-- Assumes nothing.
use mathlib.Core.Path.{◌≡◌, refl, sym, ◌∙◌, ap, ap₂}
use mathlib.Core.Bool.{Bool, true, false, not, cond, ◌&&◌, ◌||◌}
use mathlib.Core.List.{List}
use Prim.Native.Nat.{ℕ, ◌+◌, ◌^◌, ◌<◌}
use native.Mathlib.Omega.{arith}
use lib.Dec.{eqb, ltb}
use lib.ListN.{get_or}
use lib.Bits.{bit_and, bit_xor, and_le_r}
use borrow.Author.Tests.{eq-eqb, ne_eqb}
use Rattle.laws.specs.Tests.{any}
use Rattle.laws.specs.Bits.{bit, has}
use Rattle.laws.proofs.Cases.{by_equal, cond_yes, cond_no, and_split, and_join, same_test}
use Rattle.laws.proofs.Tests.{any_of, any_at, any_ext}
use Rattle.laws.proofs.Bits.{bit-lt, has_and, has_or}
use Rattle.laws.proofs.Masks.{differ, has-zero, has_xor, some-bit, flags-lt, has-flags, not-both}
use Rattle.laws.proofs.Marks.{marks-has}
use Rattle.sheet_spec.specs.Records.{record_count}
use Rattle.sheet_spec.specs.Job.{Job, output_byte, inputs_to, word_of, number_of}
use Rattle.sheet_spec.specs.Values.{value, free, depends}
use Rattle.sheet_spec.specs.Refusals.{clash, place_of, height_of, above_input, refuse6}
use Rattle.sheet_spec.specs.Accepted.{Accepted}
use Rattle.sheet_spec.proofs.RecordFields.{order-length}
use Rattle.sheet_spec.proofs.Orders.{inputs-all, input_below}
use Rattle.sheet_spec.proofs.Words.{word-bit, word_small, number_bit, number_small, word_number}
use Rattle.sheet_spec.proofs.Dependence.{with_bit, with_small, with_is, depends_turned}
use Rattle.sheet_spec.proofs.OrderRule.{lower_is}
use Rattle.sheet.specs.Planes.{input_array, zeros_plane, ones_plane}
use Rattle.sheet.specs.Depends.{apart_at, turned_at, apart_across, above_mask, any_depends}
use Rattle.sheet.proofs.lines.TableMade.{plane_value, plane_once, input_at_lem}

-- values told by what forces them: where an output is never forced both ways, the values differ exactly where something forced does
abbrev told : Bool → Bool → ℕ
told p q = cond p 0 (cond q 1 free)

told-apart : (a b c d : Bool) → (a && b) ≡ false → (c && d) ≡ false → not (eqb (told a b) (told c d)) ≡ (differ a c || differ b d)
told-apart true true c d e f = not-both refl e
told-apart true false true true e f = not-both refl f
told-apart true false true false e f = refl
told-apart true false false true e f = refl
told-apart true false false false e f = refl
told-apart false true true true e f = not-both refl f
told-apart false true true false e f = refl
told-apart false true false true e f = refl
told-apart false true false false e f = refl
told-apart false false true true e f = not-both refl f
told-apart false false true false e f = refl
told-apart false false false true e f = refl
told-apart false false false false e f = refl

unless_has : (b : Bool) (f o : ℕ) → has (cond b 0 f) o ≡ (not b && has f o)
unless_has true f o = has-zero o
unless_has false f o = refl

module _ (j : Job) (s : List ℕ) (c : Accepted j.n j.m j.order s)
    (none : any (record_count s) (λ r. any (record_count s) (clash j.n j.m s r)) ≡ false) where
  abbrev is : List ℕ
  is = inputs_to (j.n + j.m) j.order (j.n + j.m)

  abbrev zs : List ℕ
  zs = zeros_plane j.n j.order s

  abbrev ys : List ℕ
  ys = ones_plane j.n j.order s

  word : ℕ → ℕ
  word x = word_of is x

  word_is : (x k : ℕ) → k < j.n → bit (word x) (get_or is k 0) ≡ bit x k
  unfolding word
  word_is = word-bit j.n j.m j.order c.order-whole c.inputs c.outputs

  word_low : (x : ℕ) → word x < 2 ^ j.n
  unfolding word
  word_low = word_small j.n j.m j.order c.order-whole c.inputs c.outputs

  -- they differ at two places exactly where the values do
  apart-value : (x y o : ℕ) → x < 2 ^ j.n → y < 2 ^ j.n → o < j.m
      → has (apart_at zs ys x y) o ≡ not (eqb (value s (word x) o) (value s (word y) o))
  unfolding apart_at word
  apart-value x y o x< y< o< =
      let value_at_lem = plane_value j.n j.m j.order s c in
      let once = plane_once j.n j.m j.order s c none in
      has_or (bit_xor (get_or zs x 0) (get_or zs y 0)) (bit_xor (get_or ys x 0) (get_or ys y 0)) o
      ∙ ap₂ ◌||◌ (has_xor (get_or zs x 0) (get_or zs y 0) o) (has_xor (get_or ys x 0) (get_or ys y 0) o)
      ∙ sym (told-apart (has (get_or zs x 0) o) (has (get_or ys x 0) o) (has (get_or zs y 0) o) (has (get_or ys y 0) o) (once x o x< o<) (once y o y< o<))
      ∙ ap₂ (λ (a b : ℕ). not (eqb a b)) (value_at_lem x o x< o<) (value_at_lem y o y< o<)

  -- one input turned, in the place and in the word
  module _ (q : ℕ) (q< : q < j.n) where
    abbrev i : ℕ
    i = get_or is q 0

    i_low : i < j.n
    i_low = input_below j.n j.m j.order c.order-whole c.inputs c.outputs q q<

    word_turned : (x : ℕ) → x < 2 ^ j.n → bit x q ≡ 0 → word x + 2 ^ i ≡ word (x + 2 ^ q)
    word_turned x x< z =
        let bits = with_bit j.n x q x< q< z in
        with_is j.n (word x) (get_or is q 0) (word_low x) i_low (word_is x q q< ∙ z) (word (x + 2 ^ q)) (word_low (x + 2 ^ q))
        (word_is (x + 2 ^ q) q q< ∙ bits q ∙ cond_yes (eqb q q) 1 (bit x q) (eq-eqb q q refl))
        (λ k k< other.
        let (p, p<, at) = inputs-all j.n j.m j.order c.order-whole c.inputs c.outputs k k< in
        let apart : p ≡ q → ⊥ = λ e. other (sym at ∙ ap (λ (a : ℕ). get_or is a 0) e) in
        ap (bit (word x)) (sym at) ∙ word_is x p p<
        ∙ sym (ap (bit (word (x + 2 ^ q))) (sym at) ∙ word_is (x + 2 ^ q) p p< ∙ bits p ∙ cond_no (eqb p q) 1 (bit x p) (ne_eqb p q apart)))

    across_has : (o : ℕ) → has (apart_across zs ys j.n q) o ≡ any (2 ^ j.n) (λ x. not (has x q) && has (apart_at zs ys x (x + 2 ^ q)) o)
    unfolding apart_across turned_at
    across_has o =
        marks-has (turned_at zs ys q) (2 ^ j.n) o
        ∙ any_ext (λ x. has (turned_at zs ys q x) o) (λ x. not (has x q) && has (apart_at zs ys x (x + 2 ^ q)) o) (2 ^ j.n)
        (λ x l. unless_has (has x q) (apart_at zs ys x (x + 2 ^ q)) o)

    -- the planes differ across bit q exactly where the output depends on its input
    pub depends_across : (o : ℕ) → o < j.m → depends j.n s i o ≡ has (apart_across zs ys j.n q) o
    unfolding word
    depends_across o o< =
        depends_turned j.n s i o i_low ∙ same_test (any (2 ^ j.n) f) (has (apart_across zs ys j.n q) o) found found_back
      where
        f : ℕ → Bool
        f w = not (has w i) && not (eqb (value s w o) (value s (w + 2 ^ i) o))

        g : ℕ → Bool
        g x = not (has x q) && has (apart_at zs ys x (x + 2 ^ q)) o

        -- at a place without bit q the two tests agree
        alike : (x : ℕ) → x < 2 ^ j.n → bit x q ≡ 0 → not (eqb (value s (word x) o) (value s (word x + 2 ^ i) o)) ≡ has (apart_at zs ys x (x + 2 ^ q)) o
        alike x x< z =
            ap (λ (v : ℕ). not (eqb (value s (word x) o) (value s v o))) (word_turned x x< z)
            ∙ sym (apart-value x (x + 2 ^ q) o x< (with_small j.n x q x< q< z) o<)

        unset : (w k : ℕ) → not (has w k) ≡ true → bit w k ≡ 0
        unset w k e = let two = bit-lt w k in by_equal (bit w k) 1 (λ y. not-both e (ap not (eq-eqb (bit w k) 1 y))) (λ y. omega arith)

        found : any (2 ^ j.n) f ≡ true → has (apart_across zs ys j.n q) o ≡ true
        found e =
            let (w, w<, p) = any_at f (2 ^ j.n) e in
            let both = and_split (not (has w i)) (not (eqb (value s w o) (value s (w + 2 ^ i) o))) p in
            let x = number_of is w in
            let back : word x ≡ w = word_number j.n j.m j.order c.order-whole c.inputs c.outputs w w< in
            let x< = number_small j.n j.m j.order c.order-whole c.inputs c.outputs w in
            let z : bit x q ≡ 0 = number_bit j.n j.m j.order c.order-whole c.inputs c.outputs w q q< ∙ unset w i both.0 in
            let free : has x q ≡ false = ap (λ (a : ℕ). eqb a 1) z in
            across_has o
            ∙ any_of g (2 ^ j.n) x x<
            (and_join (ap not free)
            (sym (alike x x< z) ∙ ap (λ (v : ℕ). not (eqb (value s v o) (value s (v + 2 ^ i) o))) back ∙ both.1))

        found_back : has (apart_across zs ys j.n q) o ≡ true → any (2 ^ j.n) f ≡ true
        found_back e =
            let (x, x<, p) = any_at g (2 ^ j.n) (sym (across_has o) ∙ e) in
            let both = and_split (not (has x q)) (has (apart_at zs ys x (x + 2 ^ q)) o) p in
            let z = unset x q both.0 in
            let free : has (word x) i ≡ false = ap (λ (a : ℕ). eqb a 1) (word_is x q q< ∙ z) in
            any_of f (2 ^ j.n) (word x) (word_low x) (and_join (ap not free) (alike x x< z ∙ both.1))

    -- some output above the input of bit q depends on it
    pub depends_masked : not (eqb (bit_and (apart_across zs ys j.n q) (above_mask j.order j.m i)) 0)
        ≡ any j.m (λ o. depends j.n s i o && ltb (height_of j i) (height_of j (output_byte o)))
    unfolding above_mask
    depends_masked =
        let d = apart_across zs ys j.n q in
        let above : ℕ → Bool = λ o. ltb (place_of j.order (output_byte o)) (place_of j.order i) in
        let mask = above_mask j.order j.m i in
        let less = and_le_r d mask in
        let small = flags-lt above j.m in
        some-bit j.m (bit_and d mask) (omega arith)
        ∙ any_ext (has (bit_and d mask)) (λ o. depends j.n s i o && ltb (height_of j i) (height_of j (output_byte o))) j.m
        (λ o l.
        has_and d mask o
        ∙ ap₂ ◌&&◌ (sym (depends_across o l))
        (has-flags above j.m o l ∙ sym (lower_is j i (output_byte o) (order-length j.n j.m j.order c.order-whole))))

  pub depends_are : refuse6 j s ≡ any_depends j.n j.m j.order (input_array j.order) zs ys
  unfolding refuse6 any_depends above_input
  depends_are = same_test (refuse6 j s) (any_depends j.n j.m j.order (input_array j.order) zs ys) there back
    where
      at : ℕ → Bool
      at q = not (eqb (bit_and (apart_across zs ys j.n q) (above_mask j.order j.m (get_or (input_array j.order) q 0))) 0)

      at_is : (q : ℕ) → q < j.n → at q ≡ any j.m (λ o. depends j.n s (get_or is q 0) o && ltb (height_of j (get_or is q 0)) (height_of j (output_byte o)))
      at_is q q< =
          ap (λ (v : ℕ). not (eqb (bit_and (apart_across zs ys j.n q) (above_mask j.order j.m v)) 0)) (input_at_lem j.n j.m j.order s c q q<)
          ∙ depends_masked q q<

      there : refuse6 j s ≡ true → any_depends j.n j.m j.order (input_array j.order) zs ys ≡ true
      there e =
          let (o, o<, p) = any_at (λ o. any j.n (above_input j s o)) j.m e in
          let (v, v<, r) = any_at (above_input j s o) j.n p in
          let both = and_split (ltb (height_of j v) (height_of j (output_byte o))) (depends j.n s v o) r in
          let (q, q<, is-v) = inputs-all j.n j.m j.order c.order-whole c.inputs c.outputs v v< in
          any_of at j.n q q<
          (at_is q q<
          ∙ any_of (λ o. depends j.n s (get_or is q 0) o && ltb (height_of j (get_or is q 0)) (height_of j (output_byte o))) j.m o o<
          (ap (λ (u : ℕ). depends j.n s u o && ltb (height_of j u) (height_of j (output_byte o))) is-v ∙ and_join both.1 both.0))

      back : any_depends j.n j.m j.order (input_array j.order) zs ys ≡ true → refuse6 j s ≡ true
      back e =
          let (q, q<, p) = any_at at j.n e in
          let (o, o<, r) =
          any_at (λ o. depends j.n s (get_or is q 0) o && ltb (height_of j (get_or is q 0)) (height_of j (output_byte o))) j.m (sym (at_is q q<) ∙ p) in
          let both = and_split (depends j.n s (get_or is q 0) o) (ltb (height_of j (get_or is q 0)) (height_of j (output_byte o))) r in
          any_of (λ o. any j.n (above_input j s o)) j.m o o<
          (any_of (above_input j s o) j.n (get_or is q 0) (input_below j.n j.m j.order c.order-whole c.inputs c.outputs q q<)
          (and_join both.1 both.0))
