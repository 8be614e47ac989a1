-- Refusal 5 found by looking at each pair of records once.
-- Assumes nothing.
use mathlib.Core.Path.{◌≡◌, refl, sym, ◌∙◌, ap, ap₂}
use mathlib.Core.Bool.{Bool, true, false, not, ◌&&◌, ◌||◌, or-true, and_assoc, and_comm as and-swap}
use mathlib.Core.List.{List}
use Prim.Native.Nat.{ℕ, zero, suc, ◌+◌, ◌*◌, ◌%◌, ◌^◌, ◌<◌, ◌≤◌}
use native.Mathlib.Nat.{add_comm, zero-add, zero-mul, suc-mul, mod-eq_of_lt}
use native.Mathlib.Omega.{arith}
use lib.Dec.{eqb}
use lib.Bits.{bit_and, bit_xor, and_block, xor_block, and_comm, and_lt, xor_lt, or_shifted_r}
use lib.Pow.{pow_mono}
use borrow.Author.Tests.{eq-eqb, ne_eqb}
use Rattle.laws.specs.Tests.{any}
use Rattle.laws.specs.Bits.{has}
use Rattle.laws.proofs.Cases.{by_test, by_less, by_equal, and_split, and_join, and_left_no, same_test, equal_sym}
use Rattle.laws.proofs.Tests.{any_of, any_at, any_ext}
use Rattle.laws.proofs.Bits.{has_and}
use Rattle.laws.proofs.Masks.{not-both, some-bit, apart, common-word}
use Rattle.sheet_spec.specs.Records.{record_count, kind, mask, values, zeros, ones, matches, forces0, forces1}
use Rattle.sheet_spec.specs.Refusals.{any_malformed, alike, common, opposed, clash}
use Rattle.sheet.specs.Pairs.{kind_mask, kind_values, hit, any_hit}
use Rattle.sheet_spec.proofs.RecordFields.{Good, good_at}

-- a number of two digits is 0 where both are
both_zero : (base a b : ℕ) → 0 < base → eqb (a * base + b) 0 ≡ (eqb a 0 && eqb b 0)
both_zero base zero b h = ap (λ (x : ℕ). eqb (x + b) 0) (zero-mul base) ∙ ap (λ (x : ℕ). eqb x 0) (zero-add b)
both_zero base (suc a) b h =
    ne_eqb (suc a * base + b) 0 (λ z. omega (arith, suc-mul a base)) ∙ sym (and_left_no (eqb (suc a) 0) (eqb b 0) (ne_eqb (suc a) 0 (λ z. omega arith)))

not_and : (a b : Bool) → not (a && b) ≡ (not a || not b)
not_and true b = refl
not_and false b = refl

-- two good records
module _ (n m : ℕ) (s : List ℕ) (r q : ℕ) (gr : Good n m s r) (gq : Good n m s q) where
  -- the first forces an output to 0 that the second forces to 1
  opposed_is : opposed m s r q ≡ not (eqb (bit_and (zeros s r) (ones s q)) 0)
  unfolding opposed forces0 forces1
  opposed_is =
      any_ext (λ o. forces0 s r o && forces1 s q o) (has (bit_and (zeros s r) (ones s q))) m (λ o h. sym (has_and (zeros s r) (ones s q) o))
      ∙ sym (some-bit m (bit_and (zeros s r) (ones s q)) (and_lt m (zeros s r) (ones s q) gr.zeros-low gq.ones_low))

  -- they match a common word where they agree on the inputs both test
  common_is : common n s r q ≡ eqb (apart (values s r) (mask s r) (values s q) (mask s q)) 0
  unfolding common matches
  common_is =
      any_ext (λ w. matches s r w && matches s q w) (λ w. eqb (bit_and w (mask s r)) (values s r) && eqb (bit_and w (mask s q)) (values s q)) (2 ^ n)
      (λ w h. ap₂ (λ (x y : ℕ). eqb (bit_and w (mask s r)) x && eqb (bit_and w (mask s q)) y) gr.values_in gq.values_in)
      ∙ common-word n (values s r) (mask s r) (values s q) (mask s q) gr.values_low gr.mask_low gq.values_low gq.mask_low gr.values_in gq.values_in

-- the highest bits are apart where the kinds are
kinds_apart : (a b : ℕ) → a < 2 → b < 2 → eqb (bit_and (bit_and (bit_xor a b) 1) 1) 0 ≡ eqb b a
kinds_apart a b p q =
    by_equal a 0
    (λ x.
    by_equal b 0 (λ y. rw (x, y) refl) (λ y. let one : b ≡ 1 = omega arith in rw (x, one) refl))
    (λ x.
    let one : a ≡ 1 = omega arith in
    by_equal b 0 (λ y. rw (one, y) refl) (λ y. let also : b ≡ 1 = omega arith in rw (one, also) refl))

-- they agree with their kinds where they are of one kind and match a common word
agree_is : (n m : ℕ) (s : List ℕ) (r q : ℕ) → Good n m s r → Good n m s q → n ≤ 12
    → eqb (bit_and (bit_and (bit_xor (kind_values s q) (kind_values s r)) (kind_mask s q)) (kind_mask s r)) 0 ≡ (alike s r q && common n s r q)
unfolding alike
agree_is n m s r q gr gq few =
    let low = pow_mono few in
    let mask_is : (p : ℕ) → Good n m s p → kind_mask s p ≡ 1 * 2 ^ 15 + mask s p = λ p g. or_shifted_r 1 15 (mask s p) (omega (arith, g.mask_low)) in
    let values-is : (p : ℕ) → Good n m s p → kind_values s p ≡ kind s p * 2 ^ 15 + values s p =
    λ p g. or_shifted_r (kind s p % 2) 15 (values s p) (omega (arith, g.values_low)) ∙ ap (λ (k : ℕ). k * 2 ^ 15 + values s p) (mod-eq_of_lt g.kind-low) in
    let x = bit_xor (values s q) (values s r) in
    let k = bit_xor (kind s q) (kind s r) in
    let x< : x < 2 ^ 15 = xor_lt 15 (values s q) (values s r) (omega (arith, gq.values_low)) (omega (arith, gr.values_low)) in
    let y< : bit_and x (mask s q) < 2 ^ 15 = and_lt 15 x (mask s q) x< (omega (arith, gq.mask_low)) in
    ap (λ (z : ℕ). eqb z 0)
    (ap₂ bit_and
    (ap₂ bit_and
    (ap₂ bit_xor (values-is q gq) (values-is r gr)
    ∙ xor_block 15 (kind s q) (kind s r) (values s q) (values s r) (omega (arith, gq.values_low)) (omega (arith, gr.values_low)))
    (mask_is q gq)
    ∙ and_block 15 k 1 x (mask s q) x< (omega (arith, gq.mask_low)))
    (mask_is r gr)
    ∙ and_block 15 (bit_and k 1) 1 (bit_and x (mask s q)) (mask s r) y< (omega (arith, gr.mask_low)))
    ∙ both_zero (2 ^ 15) (bit_and (bit_and k 1) 1) (bit_and (bit_and x (mask s q)) (mask s r)) (omega arith)
    ∙ ap₂ ◌&&◌ (kinds_apart (kind s q) (kind s r) gq.kind-low gr.kind-low) (sym (common_is n m s r q gr gq))

-- one is hit by the other where they are of one kind, match a common word, and either opposes the other
hit_is : (n m : ℕ) (s : List ℕ) (r q : ℕ) → Good n m s r → Good n m s q → n ≤ 12 → m ≤ 8
    → hit s r q ≡ (alike s r q && (common n s r q && (opposed m s r q || opposed m s q r)))
unfolding hit
hit_is n m s r q gr gq few h =
    let small = pow_mono h in
    let apart-forces =
    ap₂ bit_and (add_comm (zeros s q) (ones s q * 256)) (add_comm (ones s r) (zeros s r * 256))
    ∙ and_block 8 (ones s q) (zeros s r) (zeros s q) (ones s r) (omega (arith, gq.zeros-low)) (omega (arith, gr.ones_low)) in
    let turned = ap (λ (x : ℕ). not (eqb x 0)) (and_comm (ones s q) (zeros s r)) ∙ sym (opposed_is n m s r q gr gq) in
    ap₂ ◌&&◌ (agree_is n m s r q gr gq few)
    (ap (λ (x : ℕ). not (eqb x 0)) apart-forces ∙ ap not (both_zero 256 (bit_and (ones s q) (zeros s r)) (bit_and (zeros s q) (ones s r)) (omega arith))
    ∙ not_and (eqb (bit_and (ones s q) (zeros s r)) 0) (eqb (bit_and (zeros s q) (ones s r)) 0)
    ∙ ap₂ ◌||◌ turned (sym (opposed_is n m s q r gq gr)))
    ∙ and_assoc (alike s r q) (common n s r q) (opposed m s r q || opposed m s q r)

-- no record opposes itself
self_opposed : (n m : ℕ) (s : List ℕ) (r : ℕ) → Good n m s r → opposed m s r r ≡ false
self_opposed n m s r g = opposed_is n m s r r g g ∙ ap not (eq-eqb (bit_and (zeros s r) (ones s r)) 0 g.parted)

common_sym : (n : ℕ) (s : List ℕ) (r q : ℕ) → common n s r q ≡ common n s q r
unfolding common
common_sym n s r q =
    any_ext (λ w. matches s r w && matches s q w) (λ w. matches s q w && matches s r w) (2 ^ n) (λ w h. and-swap (matches s r w) (matches s q w))

alike_sym : (s : List ℕ) (r q : ℕ) → alike s r q ≡ alike s q r
unfolding alike
alike_sym s r q = equal_sym (kind s r) (kind s q)

-- a clash of two records is a hit, the later by the earlier, and a hit a clash one way or the other
module _ (n m : ℕ) (s : List ℕ) (inputs : n ≤ 12) (outputs : m ≤ 8) (e : any_malformed n m s ≡ false) where
  hit_found : (r q : ℕ) → r < record_count s → q < r → alike s r q ≡ true → common n s r q ≡ true → (opposed m s r q || opposed m s q r) ≡ true
      → any_hit s ≡ true
  unfolding any_hit
  hit_found r q r< q< a c o =
      any_of (λ k. any k (hit s k)) (record_count s) r r<
      (any_of (hit s r) r q q< (hit_is n m s r q (good_at n m s e r r<) (good_at n m s e q (omega arith)) inputs outputs ∙ and_join a (and_join c o)))

  clash_hits : (r q : ℕ) → r < record_count s → q < record_count s → clash n m s r q ≡ true → any_hit s ≡ true
  unfolding clash
  clash_hits r q r< q< c =
      let one = and_split (alike s r q) (opposed m s r q && common n s r q) c in
      let both = and_split (opposed m s r q) (common n s r q) one.1 in
      by_less q r (λ l. hit_found r q r< l one.0 both.1 (ap (λ (x : Bool). x || opposed m s q r) both.0))
      (λ h.
      by_less r q
      (λ l.
      hit_found q r q< l (alike_sym s q r ∙ one.0) (common_sym n s q r ∙ both.1)
      (ap (λ (x : Bool). opposed m s q r || x) both.0 ∙ or-true (opposed m s q r)))
      (λ k.
      let same : q ≡ r = omega arith in
      not-both both.0 (ap (opposed m s r) same ∙ self_opposed n m s r (good_at n m s e r r<))))

  clash_found : (r q : ℕ) → r < record_count s → q < record_count s → alike s r q ≡ true → opposed m s r q ≡ true → common n s r q ≡ true
      → any (record_count s) (λ k. any (record_count s) (clash n m s k)) ≡ true
  unfolding clash
  clash_found r q r< q< a o c =
      any_of (λ k. any (record_count s) (clash n m s k)) (record_count s) r r<
      (any_of (clash n m s r) (record_count s) q q< (and_join a (and_join o c)))

  hit_clashes : (r q : ℕ) → r < record_count s → q < r → hit s r q ≡ true → any (record_count s) (λ k. any (record_count s) (clash n m s k)) ≡ true
  hit_clashes r q r< l h =
      let q< : q < record_count s = omega arith in
      let is = hit_is n m s r q (good_at n m s e r r<) (good_at n m s e q q<) inputs outputs in
      let one = and_split (alike s r q) (common n s r q && (opposed m s r q || opposed m s q r)) (sym is ∙ h) in
      let both = and_split (common n s r q) (opposed m s r q || opposed m s q r) one.1 in
      by_test (opposed m s r q) (λ o. clash_found r q r< q< one.0 o both.0)
      (λ o.
      clash_found q r q< r< (alike_sym s q r ∙ one.0) (ap (λ (x : Bool). x || opposed m s q r) (sym o) ∙ both.1) (common_sym n s q r ∙ both.0))

pub pairs_are : (n m : ℕ) (s : List ℕ) → n ≤ 12 → m ≤ 8 → any_malformed n m s ≡ false → any (record_count s) (λ r. any (record_count s) (clash n m s r)) ≡ any_hit s
unfolding any_hit
pairs_are n m s inputs outputs e =
    same_test (any (record_count s) (λ r. any (record_count s) (clash n m s r))) (any_hit s)
    (λ p.
    let one = any_at (λ r. any (record_count s) (clash n m s r)) (record_count s) p in
    let two = any_at (clash n m s one.0) (record_count s) one.2 in
    clash_hits n m s inputs outputs e one.0 two.0 one.1 two.1 two.2)
    (λ p.
    let one = any_at (λ r. any r (hit s r)) (record_count s) p in
    let two = any_at (hit s one.0) one.0 one.2 in
    hit_clashes n m s inputs outputs e one.0 two.0 one.1 two.1 two.2)
