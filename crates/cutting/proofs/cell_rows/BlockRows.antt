-- A block of rows: those of one node for all values of the inputs still to be read, as one walk writes them. An input splits the block in two.
-- Assumes nothing.
use mathlib.Core.Path.{◌≡◌, refl, sym, ◌∙◌, ap, ap₂}
use mathlib.Core.Bool.{Bool, true, false, cond, ◌||◌}
use mathlib.Core.List.{List}
use Prim.Native.Nat.{ℕ, suc, ◌+◌, ◌-◌, ◌*◌, ◌/◌, ◌%◌, ◌^◌, ◌<◌, ◌≤◌}
use native.Mathlib.Nat.{add-zero, zero-add, pow-suc, mul_assoc, div-one}
use native.Mathlib.Omega.{arith}
use borrow.Author.Tests.{eq-eqb, ne_eqb, eqb-true, eqb-false, ltb-true, ltb-false}
use borrow.Rule.Slice.PartMut.{mid_of, put_mid}
use lib.Dec.{eqb, ltb, leb}
use lib.ListN.{length, get_or, set}
use lib.Pow.{pow_pos, pow_mono, split, low}
use Rattle.laws.specs.Lists.{puts_at}
use Rattle.laws.specs.Bits.{bit, has}
use Rattle.laws.proofs.Bits.{bit_high}
use Rattle.laws.proofs.Cases.{by_less, by_equal, by_test, cond_yes, cond_no, cond_ap, cond_both, or_split}
use Rattle.laws.proofs.Puts.{puts_at_ext, puts_one, puts_halves}
use Rattle.laws.proofs.Parts.{puts_part}
use Rattle.sheet_spec.specs.Job.{is_input}
use Rattle.reduction_spec.specs.Walk.{low_of, high_of, child}
use Rattle.reduction_spec.specs.Descent.{descend, descent}
use Rattle.reduction_spec.proofs.Promises.{met_more, met_twice, descend-bottom, descend-stop, descend_input, descend_forced, descend-other}
use Rattle.cutting.specs.RowWalks.{row_from, node_row}

-- a block of 2^count rows from x on, a multiple of 2^count, and its halves
module _ (x count : ℕ) (some : count ≡ 0 → ⊥) where
  pub half_twice : 2 ^ (count - 1) + 2 ^ (count - 1) ≡ 2 ^ count
  half_twice =
      let e : suc (count - 1) ≡ count = omega arith in
      let twice : 2 ^ (count - 1) + 2 ^ (count - 1) ≡ 2 ^ suc (count - 1) = omega (arith, pow-suc 2 (count - 1)) in
      twice ∙ ap (λ (k : ℕ). 2 ^ k) e

  module _ (whole : x % 2 ^ count ≡ 0) where
    abbrev half : ℕ
    half = 2 ^ (count - 1)

    abbrev above : ℕ
    above = x / 2 ^ count

    halves : x ≡ above * 2 * half
    halves =
        let e : 2 ^ count ≡ 2 * half = omega (arith, half_twice) in
        let all : above * 2 ^ count ≡ x = omega (arith, split x count) in
        sym all ∙ ap (λ (k : ℕ). above * k) e ∙ sym (mul_assoc above 2 half)

    odd_half : (i : ℕ) → x + half + i ≡ (above * 2 + 1) * half + i
    odd_half i = omega (arith, halves)

    pub whole-low : x % 2 ^ (count - 1) ≡ 0
    whole-low =
        ap (λ (y : ℕ). y % half) (halves ∙ sym (add-zero (above * 2 * half))) ∙ low (above * 2) (count - 1) (pow_pos (count - 1))

    pub whole-high : (x + 2 ^ (count - 1)) % 2 ^ (count - 1) ≡ 0
    whole-high =
        ap (λ (y : ℕ). y % half) (sym (add-zero (x + half)) ∙ odd_half 0) ∙ low (above * 2 + 1) (count - 1) (pow_pos (count - 1))

    -- the input that splits the block
    bit_of : (hi i : ℕ) → i < half → bit (hi * half + i) (count - 1) ≡ hi % 2
    bit_of hi i h =
        ap (bit (hi * half + i)) (sym (add-zero (count - 1))) ∙ bit_high hi (count - 1) i 0 h ∙ ap (λ (y : ℕ). y % 2) (div-one hi)

    pub low_read : (i : ℕ) → i < 2 ^ (count - 1) → has (x + i) (count - 1) ≡ false
    low_read i h =
        let b = bit_of (above * 2) i h in
        let e = ap (λ (y : ℕ). bit (y + i) (count - 1)) halves in
        ne_eqb (bit (x + i) (count - 1)) 1 (λ z. absurd (omega (arith, b, e)))

    pub high_read : (i : ℕ) → i < 2 ^ (count - 1) → has (x + 2 ^ (count - 1) + i) (count - 1) ≡ true
    high_read i h =
        let b = bit_of (above * 2 + 1) i h in
        let e = ap (λ (y : ℕ). bit y (count - 1)) (odd_half i) in
        let odd : (above * 2 + 1) % 2 ≡ 1 = omega arith in
        eq-eqb (bit (x + half + i) (count - 1)) 1 (e ∙ b ∙ odd)

-- a walk that has not ended
pub going_on : (k v : ℕ) → (eqb k 0 || ltb v 2) ≡ false → (k ≡ 0 → ⊥) × (2 ≤ v)
going_on k v e = let s = or_split (eqb k 0) (ltb v 2) e in (eqb-false k 0 s.0, ltb-false v 2 s.1)

-- the row of the node v, k heights above bottom, for the inputs y, of which the lowest count are still to be read
module _ (ws order : List ℕ) (bottom lower rails : ℕ) where
  abbrev pub row_at : ℕ → ℕ → ℕ → ℕ → ℕ → ℕ
  row_at k v o count y = row_from lower rails (descend ws order bottom k v y count o)

  -- a walk that has ended
  pub ended-row : (k v o count y : ℕ) → (eqb k 0 || ltb v 2) ≡ true → o * 2 ^ rails + (v - lower) ≡ row_at k v o count y
  unfolding row_from
  ended-row k v o count y e =
      ap (row_from lower rails)
      (by_test (eqb k 0) (λ z. descend-bottom ws order bottom k v y count o (eqb-true k 0 z))
      (λ z. descend-stop ws order bottom k v y count o (ltb-true v 2 (sym (ap (λ (b : Bool). b || ltb v 2) z) ∙ e))))

  module _ (k v o count x : ℕ) where
    -- the rows of its block
    abbrev pub rows_from : ℕ → ℕ
    rows_from i = row_at k v o count (x + i)

    pub ended-block : (r n : ℕ) (l s : List ℕ) → (eqb k 0 || ltb v 2) ≡ true → r ≡ o * 2 ^ rails + (v - lower) → n ≡ 2 ^ count
        → s ≡ puts_at x n (λ i. r) l → s ≡ puts_at x (2 ^ count) rows_from l
    ended-block r n l s e er en es =
        es ∙ ap (λ (z : ℕ). puts_at x z (λ i. r) l) en
        ∙ puts_at_ext (λ i. r) rows_from x (2 ^ count) l (λ i h. er ∙ ended-row k v o count (x + i) e)

    -- no input is left to be read
    pub single_row : count ≡ 0 → rows_from 0 ≡ row_at k v o 0 x
    single_row e = ap₂ (λ (c y : ℕ). row_at k v o c y) e (add-zero x)

    pub single_block : (r : ℕ) (l : List ℕ) → count ≡ 0 → r ≡ row_at k v o 0 x → set l x r ≡ puts_at x (2 ^ count) rows_from l
    single_block r l e er = puts_one rows_from (2 ^ count) x r l (ap (λ (c : ℕ). 2 ^ c) e) (er ∙ sym (single_row e))

  -- a node whose variable is an input where b says so
  module _ (k v o count : ℕ) (n : k ≡ 0 → ⊥) (p : 2 ≤ v) (b : Bool) (is : b ≡ is_input (get_or order (length order - suc (bottom + (k - 1))) 0))
      (lo hi : ℕ) (lo-is : lo ≡ low_of ws v) (hi-is : hi ≡ high_of ws v) where
    pub input_row : (y left : ℕ) → b ≡ true → left ≡ count - 1 → row_at (k - 1) (cond (has y (count - 1)) hi lo) o left y ≡ row_at k v o count y
    unfolding child
    input_row y left reads el =
        let next = cond (has y (count - 1)) hi lo in
        let c : next ≡ child ws y left v =
        ap₂ (λ (a d : ℕ). cond (has y (count - 1)) a d) hi-is lo-is ∙ ap (λ (z : ℕ). child ws y z v) (sym el) in
        ap (row_from lower rails)
        (descend_input ws order bottom k v y count o n p (bottom + (k - 1)) b refl is y next left (descend ws order bottom (k - 1) next y left o) reads refl
        el c refl)

    pub output_row : (y : ℕ) → b ≡ false → row_at (k - 1) (cond (eqb lo 0) hi lo) (cond (eqb lo 0) (o * 2 + 1) (o * 2)) count y ≡ row_at k v o count y
    output_row y emits =
        ap (row_from lower rails)
        (by_equal lo 0
        (λ z.
        let t = eq-eqb lo 0 z in
        ap₂ (λ (u q : ℕ). descend ws order bottom (k - 1) u y count q) (cond_yes (eqb lo 0) hi lo t) (cond_yes (eqb lo 0) (o * 2 + 1) (o * 2) t)
        ∙ descend_forced ws order bottom k v y count o n p (bottom + (k - 1)) b refl is lo hi (descend ws order bottom (k - 1) hi y count (o * 2 + 1)) emits lo-is z
        hi-is refl)
        (λ z.
        let t = ne_eqb lo 0 z in
        ap₂ (λ (u q : ℕ). descend ws order bottom (k - 1) u y count q) (cond_no (eqb lo 0) hi lo t) (cond_no (eqb lo 0) (o * 2 + 1) (o * 2) t)
        ∙ descend-other ws order bottom k v y count o n p (bottom + (k - 1)) b refl is lo (descend ws order bottom (k - 1) lo y count (o * 2)) emits lo-is z refl))

    -- a block that an output leads on, and one that an input splits; small says that the rows have 16 bits
    module _ (x : ℕ) (small : (i : ℕ) → i < 2 ^ count → row_at k v o count (x + i) < 65536) where
      module _ (next met : ℕ) (emits : b ≡ false) (next_is : next ≡ cond (eqb lo 0) hi lo) (met-is : met ≡ cond (eqb lo 0) (o * 2 + 1) (o * 2)) where
        led : (i : ℕ) → row_at (k - 1) next met count (x + i) ≡ row_at k v o count (x + i)
        led i = ap₂ (λ (u q : ℕ). row_at (k - 1) u q count (x + i)) next_is met-is ∙ output_row (x + i) emits

        pub led_small : (i : ℕ) → i < 2 ^ count → row_at (k - 1) next met count (x + i) < 65536
        led_small i h = omega (arith, led i, small i h)

        pub led_block : (l s : List ℕ) → s ≡ puts_at x (2 ^ count) (λ i. row_at (k - 1) next met count (x + i)) l
            → s ≡ puts_at x (2 ^ count) (λ i. row_at k v o count (x + i)) l
        led_block l s es =
            es
            ∙ puts_at_ext (λ i. row_at (k - 1) next met count (x + i)) (λ i. row_at k v o count (x + i)) x (2 ^ count) l (λ i h. led i)

      module _ (half : ℕ) (reads : b ≡ true) (some : count ≡ 0 → ⊥) (whole : x % 2 ^ count ≡ 0) (half_is : half ≡ 2 ^ (count - 1)) where
        first : (i : ℕ) → i < 2 ^ (count - 1) → row_at (k - 1) lo o (count - 1) (x + i) ≡ row_at k v o count (x + i)
        first i l =
            ap (λ (u : ℕ). row_at (k - 1) u o (count - 1) (x + i)) (sym (cond_no (has (x + i) (count - 1)) hi lo (low_read x count some whole i l)))
            ∙ input_row (x + i) (count - 1) reads refl

        second : (i : ℕ) → i < 2 ^ (count - 1) → row_at (k - 1) hi o (count - 1) (x + half + i) ≡ row_at k v o count (x + (half + i))
        second i l =
            let y = x + half + i in
            let set : has y (count - 1) ≡ true = ap (λ (z : ℕ). has (x + z + i) (count - 1)) half_is ∙ high_read x count some whole i l in
            let same : y ≡ x + (half + i) = omega arith in
            ap (λ (u : ℕ). row_at (k - 1) u o (count - 1) y) (sym (cond_yes (has y (count - 1)) hi lo set))
            ∙ input_row y (count - 1) reads refl ∙ ap (λ (z : ℕ). row_at k v o count z) same

        pub first_small : (i : ℕ) → i < 2 ^ (count - 1) → row_at (k - 1) lo o (count - 1) (x + i) < 65536
        first_small i l = omega (arith, first i l, small i (omega (arith, half_twice x count some)))

        pub second-small : (i : ℕ) → i < 2 ^ (count - 1) → row_at (k - 1) hi o (count - 1) (x + half + i) < 65536
        second-small i l = omega (arith, second i l, small (half + i) (omega (arith, half_is, half_twice x count some)))

        pub split-block : (l s s' : List ℕ) → s ≡ puts_at x (2 ^ (count - 1)) (λ i. row_at (k - 1) lo o (count - 1) (x + i)) l
            → s' ≡ puts_at (x + half) (2 ^ (count - 1)) (λ i. row_at (k - 1) hi o (count - 1) (x + half + i)) s
            → s' ≡ puts_at x (2 ^ count) (λ i. row_at k v o count (x + i)) l
        split-block l s s' es es' =
            let f : ℕ → ℕ = λ i. row_at (k - 1) lo o (count - 1) (x + i) in
            let g : ℕ → ℕ = λ i. row_at (k - 1) hi o (count - 1) (x + half + i) in
            puts_halves f g (λ i. row_at k v o count (x + i)) x half (2 ^ count) l s s' (omega (arith, half_is, half_twice x count some))
            (es ∙ ap (λ (z : ℕ). puts_at x z f l) (sym half_is)) (es' ∙ ap (λ (z : ℕ). puts_at (x + half) z g s) (sym half_is))
            (λ i h. first i (omega (arith, half_is))) (λ i h. second i (omega (arith, half_is)))

-- the outputs met stay below 2^20
pub met_next : (k o lo : ℕ) → (k ≡ 0 → ⊥) → k ≤ 20 → o < 2 ^ (20 - k) → cond (eqb lo 0) (o * 2 + 1) (o * 2) < 2 ^ (20 - (k - 1))
met_next k o lo n l h = cond_both (λ (z : ℕ). z < 2 ^ (20 - (k - 1))) (eqb lo 0) (met_more k o n l h) (met_twice k o n l h)

-- a block of at most 4,096 rows
pub few-inputs : (count size : ℕ) → size ≡ 2 ^ count → size ≤ 4096 → count ≤ 12
few-inputs count size e h = by_less 12 count (λ l. let more : 2 ^ 13 ≤ 2 ^ count = pow_mono l in absurd (omega (arith, more))) (λ l. l)

-- the rows of a node at the upper cut, written into the part of a list from a on
module _ (ws order : List ℕ) (top bottom lower rails count v k : ℕ) (is : k ≡ cond (leb top 20) (top - bottom) 0) where
  node_row_lem : (x : ℕ) → row_at ws order bottom lower rails k v 0 count (0 + x) ≡ node_row ws order top bottom lower rails count v x
  unfolding node_row descent descend
  node_row_lem x =
      ap₂ (λ (i y : ℕ). row_from lower rails (descend ws order bottom i v y count 0)) is (zero-add x)
      ∙ ap (row_from lower rails) (cond_ap (λ (i : ℕ). descend ws order bottom i v x count 0) (leb top 20) (top - bottom) 0)

  module _ (size : ℕ) (size_is : size ≡ 2 ^ count) where
    pub node-small : ((x : ℕ) → x < size → node_row ws order top bottom lower rails count v x < 65536)
        → (i : ℕ) → i < 2 ^ count → row_at ws order bottom lower rails k v 0 count (0 + i) < 65536
    node-small small i h = omega (arith, node_row_lem i, small i (omega (arith, size_is)))

    pub node_block : (a : ℕ) (l s : List ℕ) → a + size ≤ length l
        → s ≡ puts_at 0 (2 ^ count) (λ i. row_at ws order bottom lower rails k v 0 count (0 + i)) (mid_of a (length l - a) l)
        → put_mid a (length l - a) l s ≡ puts_at a size (node_row ws order top bottom lower rails count v) l
    node_block a l s fits es =
        let f : ℕ → ℕ = node_row ws order top bottom lower rails count v in
        let part = mid_of a (length l - a) l in
        ap (put_mid a (length l - a) l)
        (es ∙ ap (λ (z : ℕ). puts_at 0 z (λ i. row_at ws order bottom lower rails k v 0 count (0 + i)) part) (sym size_is)
        ∙ puts_at_ext (λ i. row_at ws order bottom lower rails k v 0 count (0 + i)) f 0 size part (λ i h. node_row_lem i))
        ∙ puts_part f a size l fits
