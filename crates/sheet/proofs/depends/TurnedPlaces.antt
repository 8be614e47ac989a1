-- The loops that look for dependence: places of a block against those with one bit more, the blocks one after another, and the outputs above a variable.
-- Assumes nothing.
use mathlib.Core.Path.{◌≡◌, refl, sym, ◌∙◌, ap, ap₂}
use mathlib.Core.Bool.{Bool, true, false, not, cond, ◌||◌}
use mathlib.Core.List.{List}
use Prim.Native.Nat.{ℕ, suc, ◌+◌, ◌-◌, ◌*◌, ◌/◌, ◌%◌, ◌^◌, ◌<◌, ◌≤◌}
use native.Mathlib.Nat.{mod-lt, pow-suc, mul_comm, mul_assoc, suc-mul}
use native.Mathlib.Numerals.{add-one}
use native.Mathlib.Omega.{arith}
use lib.Arith.{digits_div}
use lib.Bits.{bit_and, bit_or}
use lib.Dec.{eqb, ltb, leb}
use lib.ListN.{get_or}
use lib.Pow.{pow_pos, pow-add, pow_mono}
use borrow.Author.Tests.{eq-eqb, lt-ltb, le-ltb, leb-true}
use Rattle.laws.specs.Tests.{every}
use Rattle.laws.specs.Bits.{bit, has, flag, marks}
use Rattle.laws.proofs.Cases.{cond_yes, cond_no, cond-not}
use Rattle.laws.proofs.Tests.{every_at}
use Rattle.laws.proofs.Counts.{sum-next}
use Rattle.laws.proofs.Bits.{bit-low, bit_high}
use Rattle.laws.proofs.Masks.{no_bit}
use Rattle.laws.proofs.Marks.{marks_grow, marks-run, marks_ext, marks-none}
use Rattle.sheet_spec.specs.Job.{output_byte}
use Rattle.sheet_spec.specs.Refusals.{place_of}
use Rattle.sheet.specs.Planes.{added, agrees, CountsUp}
use Rattle.sheet.specs.Depends.{apart_at, turned_at, above_mask}

pub marks-first : (d : ℕ) (g : ℕ → ℕ) → d ≡ marks d g 0
unfolding marks
marks-first d g = refl

-- the upper part of a block of 2^k places has the bit q
upper-bit : (k q i : ℕ) → q < k → 2 ^ k - 2 ^ q ≤ i → i < 2 ^ k → has i q ≡ true
upper-bit k q i q< from to =
    let p = k - suc q in
    let b = 2 ^ p * 2 - 1 in
    let e : p + suc q ≡ k = omega arith in
    let some = pow_pos p in
    let double : suc b ≡ 2 ^ p * 2 = omega arith in
    let whole : 2 ^ k ≡ b * 2 ^ q + 2 ^ q =
    ap (λ (x : ℕ). 2 ^ x) (sym e) ∙ pow-add 2 p (suc q) ∙ ap (λ (x : ℕ). 2 ^ p * x) (pow-suc 2 q ∙ mul_comm (2 ^ q) 2) ∙ sym (mul_assoc (2 ^ p) 2 (2 ^ q))
    ∙ ap (λ (x : ℕ). x * 2 ^ q) (sym double) ∙ suc-mul b (2 ^ q) in
    let r = i - b * 2 ^ q in
    let low : r < 2 ^ q = omega arith in
    let split : i ≡ b * 2 ^ q + r = omega arith in
    let top : i / 2 ^ q ≡ b = ap (λ (x : ℕ). x / 2 ^ q) split ∙ digits_div b low in
    let odd : b % 2 ≡ 1 = omega arith in
    eq-eqb (bit i q) 1 (ap (λ (x : ℕ). x % 2) top ∙ odd)

module _ (zs ys : List ℕ) where
  -- a place in a block of 2^k, and a bit below k
  module _ (k q b : ℕ) (q< : q < k) where
    abbrev place : ℕ → ℕ
    place i = b * 2 ^ k + i

    place_bit : (i : ℕ) → i < 2 ^ k → has (place i) q ≡ has i q
    place_bit i l = ap (λ (x : ℕ). eqb x 1) (bit-low b k i q l q<)

    pub near_is : (d base : ℕ) → base ≡ b * 2 ^ k
        → marks d (λ i. cond (eqb (bit_and i (2 ^ q)) 0) (apart_at zs ys (base + i) (base + i + 2 ^ q)) 0) (2 ^ k - 2 ^ q) ≡ marks d (λ i. turned_at zs ys q (b * 2 ^ k + i)) (2 ^ k)
    unfolding turned_at
    near_is d base e =
        let n = 2 ^ k - 2 ^ q in
        let g : ℕ → ℕ = λ i. turned_at zs ys q (b * 2 ^ k + i) in
        let whole : n + 2 ^ q ≡ 2 ^ k = omega (arith, pow_mono {i = q} {j = k} (omega arith)) in
        ap (λ (x : ℕ). marks d (λ i. cond (eqb (bit_and i (2 ^ q)) 0) (apart_at zs ys (x + i) (x + i + 2 ^ q)) 0) n) e
        ∙ marks_ext d (λ i. cond (eqb (bit_and i (2 ^ q)) 0) (apart_at zs ys (place i) (place i + 2 ^ q)) 0) g n
        (λ i l.
        ap (λ (t : Bool). cond t (apart_at zs ys (place i) (place i + 2 ^ q)) 0) (no_bit i q)
        ∙ sym (cond-not (has i q) (apart_at zs ys (place i) (place i + 2 ^ q)) 0)
        ∙ ap (λ (t : Bool). cond t 0 (apart_at zs ys (place i) (place i + 2 ^ q))) (sym (place_bit i (omega arith))))
        ∙ sym (marks-none (marks d g n) (λ i. g (n + i)) (2 ^ q)
        (λ i l.
        cond_yes (has (place (n + i)) q) 0 (apart_at zs ys (place (n + i)) (place (n + i) + 2 ^ q))
        (place_bit (n + i) (omega arith) ∙ upper-bit k q (n + i) q< (omega arith) (omega arith))))
        ∙ marks-run d g n (2 ^ q) ∙ ap (marks d g) whole

  -- blocks of 256 places, and a bit from 8 on
  module _ (q b : ℕ) (from : 8 ≤ q) where
    far_bit : (i : ℕ) → i < 256 → bit (b * 256 + i) q ≡ bit (b * 256) q
    far_bit i l =
        let e : q ≡ 8 + (q - 8) = omega arith in
        ap (bit (b * 256 + i)) e ∙ bit_high b 8 i (q - 8) l ∙ sym (ap (bit (b * 256)) e ∙ ap (λ (x : ℕ). bit x (8 + (q - 8))) (omega arith) ∙ bit_high b 8 0 (q - 8) (omega arith))

    pub far_is : (d base step : ℕ) → base ≡ b * 256 → step ≡ 2 ^ q → base / step % 2 ≡ 0
        → marks d (λ i. apart_at zs ys (base + i) (base + step + i)) 256 ≡ marks d (λ i. turned_at zs ys q (b * 256 + i)) 256
    unfolding turned_at
    far_is d base step eb es z =
        marks_ext d (λ i. apart_at zs ys (base + i) (base + step + i)) (λ i. turned_at zs ys q (b * 256 + i)) 256
        (λ i l.
        let there : base + step + i ≡ b * 256 + i + 2 ^ q = omega arith in
        let off : has (b * 256 + i) q ≡ false =
        ap (λ (x : ℕ). eqb x 1) (far_bit i l ∙ sym (ap₂ (λ (x y : ℕ). x / y % 2) eb es) ∙ z) in
        ap₂ (λ (x y : ℕ). apart_at zs ys (x + i) y) eb there
        ∙ sym (cond_no (has (b * 256 + i) q) 0 (apart_at zs ys (b * 256 + i) (b * 256 + i + 2 ^ q)) off))

    pub far_none : (d base step : ℕ) → base ≡ b * 256 → step ≡ 2 ^ q → (base / step % 2 ≡ 0 → ⊥) → d ≡ marks d (λ i. turned_at zs ys q (b * 256 + i)) 256
    unfolding turned_at
    far_none d base step eb es z =
        let two = mod-lt (base / step) {m = 2} (omega arith) in
        sym (marks-none d (λ i. turned_at zs ys q (b * 256 + i)) 256
        (λ i l.
        let one : bit (b * 256) q ≡ 1 = sym (ap₂ (λ (x y : ℕ). x / y % 2) eb es) ∙ omega arith in
        cond_yes (has (b * 256 + i) q) 0 (apart_at zs ys (b * 256 + i) (b * 256 + i + 2 ^ q)) (ap (λ (x : ℕ). eqb x 1) (far_bit i l ∙ one))))

  -- the blocks one after another
  pub blocks-next : (q k b d r : ℕ) → d ≡ marks 0 (turned_at zs ys q) (b * 2 ^ k) → r ≡ marks d (λ i. turned_at zs ys q (b * 2 ^ k + i)) (2 ^ k)
      → r ≡ marks 0 (turned_at zs ys q) ((b + 1) * 2 ^ k)
  blocks-next q k b d r e f =
      f ∙ ap (λ (x : ℕ). marks x (λ i. turned_at zs ys q (b * 2 ^ k + i)) (2 ^ k)) e ∙ marks-run 0 (turned_at zs ys q) (b * 2 ^ k) (2 ^ k)
      ∙ ap (marks 0 (turned_at zs ys q)) (sym (ap (λ (x : ℕ). x * 2 ^ k) (add-one b) ∙ suc-mul b (2 ^ k)))

-- one output more of the mask of outputs above v
module _ (order : List ℕ) (v o : ℕ) {w t u : ℕ} (e : w ≡ above_mask order o v) (s : w < 2 ^ o) (p : t ≡ place_of order v) (q : u ≡ place_of order (output_byte o)) where
  next : {b : Bool} → ltb u t ≡ b → above_mask order (o + 1) v ≡ w + flag b * 2 ^ o
  unfolding above_mask
  next h = sum-next (λ k. flag (ltb (place_of order (output_byte k)) (place_of order v)) * 2 ^ k) o ∙ rw (← e, ← p, ← q, h)

  pub above_yes : u < t → (w + 2 ^ o < 2 ^ (o + 1)) × (w + 2 ^ o ≡ above_mask order (o + 1) v)
  above_yes h = rw (next (lt-ltb u t h), add-one o, pow-suc 2 o) (omega arith)

  pub above_no : t ≤ u → (w < 2 ^ (o + 1)) × (w ≡ above_mask order (o + 1) v)
  above_no h = rw (next (le-ltb u t h), add-one o, pow-suc 2 o) (omega arith)

-- the loops within a block
module _ (zs ys : List ℕ) (d base i found v : ℕ) where
  pub far_step : (step : ℕ) → found ≡ marks d (λ k. apart_at zs ys (base + k) (base + step + k)) i → v ≡ apart_at zs ys (base + i) (base + step + i)
      → bit_or found v ≡ marks d (λ k. apart_at zs ys (base + k) (base + step + k)) (i + 1)
  far_step step e f =
      let g : ℕ → ℕ = λ k. apart_at zs ys (base + k) (base + step + k) in
      ap₂ bit_or e f ∙ sym (marks_grow d g i)

  pub near_step : (low : List ℕ) → CountsUp low → i < 256 → (q step flag w : ℕ) → step ≡ 2 ^ q → flag ≡ 2 ^ q
      → found ≡ marks d (λ k. cond (eqb (bit_and k (2 ^ q)) 0) (apart_at zs ys (base + k) (base + k + 2 ^ q)) 0) i
      → w ≡ apart_at zs ys (base + i) (base + i + step) → v ≡ added flag 0 w (get_or low i 0)
      → bit_or found v ≡ marks d (λ k. cond (eqb (bit_and k (2 ^ q)) 0) (apart_at zs ys (base + k) (base + k + 2 ^ q)) 0) (i + 1)
  unfolding added agrees
  near_step low up l q step flag w es ef e f h =
      let g : ℕ → ℕ = λ k. cond (eqb (bit_and k (2 ^ q)) 0) (apart_at zs ys (base + k) (base + k + 2 ^ q)) 0 in
      let here : v ≡ g i = h ∙ rw (up i l, ef, f, es) refl in
      ap₂ bit_or e here ∙ sym (marks_grow d g i)

-- the places step further are within the plane
few-blocks : every 4 (λ p. every 16 (λ b. not (eqb (b / 2 ^ p % 2) 0) || leb (b + 2 ^ p + 1) 16)) ≡ true
few-blocks = refl

pub far_fits : (b q : ℕ) → 8 ≤ q → q < 12 → b * 256 + 256 ≤ 4096 → b * 256 / 2 ^ q % 2 ≡ 0 → b * 256 + 2 ^ q + 256 ≤ 4096
far_fits b q from to fits even =
    let p = q - 8 in
    let e : 8 + p ≡ q = omega arith in
    let e' : p + 8 ≡ q = omega arith in
    let off : b / 2 ^ p % 2 ≡ 0 =
    sym (bit_high b 8 0 p (omega arith)) ∙ ap₂ (λ (x y : ℕ). x / 2 ^ y % 2) (omega arith) e ∙ even in
    let step : 2 ^ q ≡ 2 ^ p * 256 = ap (λ (x : ℕ). 2 ^ x) (sym e') ∙ pow-add 2 p 8 in
    let here = every_at (λ c. not (eqb (c / 2 ^ p % 2) 0) || leb (c + 2 ^ p + 1) 16) 16
    (every_at (λ k. every 16 (λ c. not (eqb (c / 2 ^ k % 2) 0) || leb (c + 2 ^ k + 1) 16)) 4 few-blocks p (omega arith)) b (omega arith) in
    let room = leb-true (b + 2 ^ p + 1) 16 (sym (ap (λ (t : Bool). not t || leb (b + 2 ^ p + 1) 16) (eq-eqb (b / 2 ^ p % 2) 0 off)) ∙ here) in
    omega (arith, step, room)
