-- Planes as the code makes them: of a table's places, without a line, of columns added into one another; and the value that a column has at
-- its first place.
-- Assumes nothing.
use mathlib.Core.Path.{◌≡◌, refl, sym, ◌∙◌, ap, ap₂}
use mathlib.Core.Bool.{Bool, true, false, not, cond, ◌&&◌, and-true, and-false, and_assoc, and_comm}
use mathlib.Core.List.{List}
use Prim.Native.Nat.{ℕ, zero, suc, ◌+◌, ◌-◌, ◌*◌, ◌%◌, ◌^◌, ◌<◌, ◌≤◌}
use native.Mathlib.Nat.{add-zero, zero-mul}
use native.Mathlib.Omega.{arith}
use borrow.Author.Tests.{lt-ltb, le-ltb, eq-eqb, ne_eqb, not-true}
use lib.Dec.{eqb, ltb}
use lib.Bits.{bit_and, bit_or, and_le_l, or_zero_r}
use lib.ListN.{length, get_or, replicate, get_or-replicate}
use lib.Pow.{pow_pos, pow_mono, pow-lt, shl_lt}
use Rattle.laws.specs.Tests.{any, every}
use Rattle.laws.specs.Lists.{puts, puts_at}
use Rattle.laws.specs.Bits.{has, marks}
use Rattle.laws.proofs.Cases.{by_less, by_equal, cond_yes, cond_no, cond_both, and_turn}
use Rattle.laws.proofs.Tests.{every_at, any_ext, any_one, any_beside}
use Rattle.laws.proofs.Lists.{row_end}
use Rattle.laws.proofs.Puts.{get_or-puts, get_or_unput, length-puts, stored, get_or_unput_at, get_or_before_at, get_or-puts_at, length-puts_at}
use Rattle.laws.proofs.Bits.{has_and, has_power, has-byte}
use Rattle.laws.proofs.Masks.{has-cond}
use Rattle.sheet_spec.specs.Values.{free}
use Rattle.laws.proofs.Marks.{marks-has, marks-lt}
use Rattle.reduction.specs.Packed.{size, lines_with, places_with, packed_word, lines_mask, candidates_of, added_columns, value_in}
use Rattle.reduction.proofs.packed.Planes.{Plane, inside, marked_at}

-- The plane of a table
module _ (n m : ℕ) (table : List ℕ) (v : ℕ) (hn : n ≤ 12) (hm : m ≤ 8) where
  lines_small : (x : ℕ) → lines_with table (2 ^ n) m v x < 256
  unfolding lines_with
  lines_small x =
      marks-lt 8 (λ k. cond (eqb (get_or table (k * 2 ^ n + x) 0) v) (2 ^ k) 0) m
      (λ k l.
      let low : k < 8 = omega arith in
      cond_both (λ (y : ℕ). y < 256) (eqb (get_or table (k * 2 ^ n + x) 0) v) (pow-lt low) (omega arith))

  lines_has : (x k : ℕ) → has (lines_with table (2 ^ n) m v x) k ≡ (ltb k m && eqb (get_or table (k * 2 ^ n + x) 0) v)
  unfolding lines_with
  lines_has x k =
      let t : ℕ → Bool = λ q. eqb (get_or table (q * 2 ^ n + x) 0) v in
      marks-has (λ q. cond (t q) (2 ^ q) 0) m k
      ∙ any_ext (λ q. has (cond (t q) (2 ^ q) 0) k) (λ q. eqb q k && t q) m
      (λ q l. has-cond (t q) (2 ^ q) k ∙ ap (λ (b : Bool). t q && b) (has_power q k) ∙ and_comm (t q) (eqb q k))
      ∙ any_one t k m

  wide : 2 ^ n ≤ 4096
  wide = pow_mono hn

  place_is : (x : ℕ) → x < 4096 → get_or (places_with table n m v) x 0 ≡ cond (ltb x (2 ^ n)) (lines_with table (2 ^ n) m v x) 0
  unfolding places_with
  place_is x h =
      let f = lines_with table (2 ^ n) m v in
      by_less x (2 ^ n)
      (λ l. stored 4096 (2 ^ n) f x wide l ∙ sym (cond_yes (ltb x (2 ^ n)) (f x) 0 (lt-ltb x (2 ^ n) l)))
      (λ l.
      get_or_unput f (2 ^ n) (replicate 4096 0) 0 x l ∙ get_or-replicate 4096 x 0 0 h
      ∙ sym (cond_no (ltb x (2 ^ n)) (f x) 0 (le-ltb x (2 ^ n) l)))

  place_small : (x : ℕ) → x < 4096 → get_or (places_with table n m v) x 0 < 256
  place_small x h =
      rw (place_is x h) (cond_both (λ (y : ℕ). y < 256) (ltb x (2 ^ n)) (lines_small x) (omega arith))

  place_has : (x k : ℕ) → x < 4096 → has (get_or (places_with table n m v) x 0) k ≡ (inside n m x k && eqb (get_or table (k * 2 ^ n + x) 0) v)
  place_has x k h =
      ap (λ (y : ℕ). has y k) (place_is x h) ∙ has-cond (ltb x (2 ^ n)) (lines_with table (2 ^ n) m v x) k
      ∙ ap (λ (b : Bool). ltb x (2 ^ n) && b) (lines_has x k)
      ∙ sym (and_assoc (ltb x (2 ^ n)) (ltb k m) (eqb (get_or table (k * 2 ^ n + x) 0) v))

  word_small : (i : ℕ) → i < 512 → packed_word (places_with table n m v) i < 2 ^ 64
  unfolding packed_word
  word_small i h =
      marks-lt 64 (λ j. get_or (places_with table n m v) (i * 8 + j) 0 * 2 ^ (j * 8)) 8
      (λ j l.
      let s = shl_lt 8 (j * 8) (place_small (i * 8 + j) (omega arith)) in
      let top : 8 + j * 8 ≤ 64 = omega arith in
      omega (arith, pow_mono top))

  word-has : (i j k : ℕ) → i < 512 → j < 8 → k < 8
      → has (packed_word (places_with table n m v) i) (j * 8 + k) ≡ (inside n m (i * 8 + j) k && eqb (get_or table (k * 2 ^ n + (i * 8 + j)) 0) v)
  unfolding packed_word
  word-has i j k hi hj hk =
      let p : ℕ → ℕ = λ q. get_or (places_with table n m v) (i * 8 + q) 0 in
      marks-has (λ q. p q * 2 ^ (q * 8)) 8 (j * 8 + k)
      ∙ any_ext (λ q. has (p q * 2 ^ (q * 8)) (j * 8 + k)) (λ q. eqb q j && has (p q) k) 8
      (λ q l. has-byte (p q) q j k (place_small (i * 8 + q) (omega arith)) hk)
      ∙ any_one (λ q. has (p q) k) j 8
      ∙ ap (λ (b : Bool). b && has (p j) k) (lt-ltb j 8 hj)
      ∙ place_has (i * 8 + j) k (omega arith)

  words-few : (i : ℕ) → i < size n → i < 512
  words-few i h = let top : n - 3 ≤ 9 = omega arith in omega (arith, pow_mono top)

  packed_at : (old : List ℕ) → length old ≡ 1024 → (c i : ℕ) → c < 1 → i < size n
      → get_or (puts 512 (packed_word (places_with table n m v)) old) (c * size n + i) 0 ≡ packed_word (places_with table n m v) i
  packed_at old long c i hc hi =
      let z : c ≡ 0 = omega arith in
      let e : c * size n + i ≡ i = rw z (omega (arith, zero-mul (size n))) in
      let l = words-few i hi in
      ap (λ (x : ℕ). get_or (puts 512 (packed_word (places_with table n m v)) old) x 0) e
      ∙ get_or-puts (packed_word (places_with table n m v)) 512 old 0 i l (omega arith)

pub packed_plane : (n m : ℕ) (table : List ℕ) (v : ℕ) (old : List ℕ) → n ≤ 12 → m ≤ 8 → length old ≡ 1024
    → Plane n m 1 (λ c k x. eqb (get_or table (k * 2 ^ n + x) 0) v) (puts 512 (packed_word (places_with table n m v)) old)
packed_plane n m table v old hn hm long = record {
  marked = λ c i j k hc hi hj hk.
      ap (λ (y : ℕ). has y (j * 8 + k)) (packed_at n m table v hn hm old long c i hc hi)
      ∙ word-has n m table v hn hm i j k (words-few n m table v hn hm i hi) hj hk;
  small = λ c i hc hi. rw (packed_at n m table v hn hm old long c i hc hi) (word_small n m table v hn hm i (words-few n m table v hn hm i hi));
}

-- A plane of which one line less is kept. The mask's bits are computed
abbrev same : Bool → Bool → Bool
same true b = b
same false b = not b

same_is : (a b : Bool) → same a b ≡ true → a ≡ b
same_is true b e = sym e
same_is false b e = sym (not-true b e)

mask-bits : every 9 (λ b. every 64 (λ r. same (has ((2 ^ b - 1) * 72340172838076673) r) (ltb (r % 8) b))) ≡ true
mask-bits = refl

mask-has : (b j k : ℕ) → b ≤ 8 → j < 8 → k < 8 → has (lines_mask b) (j * 8 + k) ≡ ltb k b
unfolding lines_mask
mask-has b j k hb hj hk =
    let at : (j * 8 + k) % 8 ≡ k = omega arith in
    same_is (has ((2 ^ b - 1) * 72340172838076673) (j * 8 + k)) (ltb ((j * 8 + k) % 8) b)
    (every_at (λ r. same (has ((2 ^ b - 1) * 72340172838076673) r) (ltb (r % 8) b)) 64
    (every_at (λ b. every 64 (λ r. same (has ((2 ^ b - 1) * 72340172838076673) r) (ltb (r % 8) b))) 9 mask-bits b (omega arith)) (j * 8 + k) (omega arith))
    ∙ ap (λ (y : ℕ). ltb y b) at

one_line_less : (k b : ℕ) (l t : Bool) → (((l && ltb k (suc b)) && t) && ltb k b) ≡ ((l && ltb k b) && t)
one_line_less k b l t =
    by_less k b (λ h. rw (lt-ltb k b h, lt-ltb k (suc b) (omega arith)) (and-true ((l && true) && t)))
    (λ h. rw (le-ltb k b h) (and-false ((l && ltb k (suc b)) && t) ∙ sym (ap (λ (y : Bool). y && t) (and-false l))))

pub lines_plane : (a b w : ℕ) (t : ℕ → ℕ → ℕ → Bool) (from to : List ℕ) → b < 8 → w * size a ≤ 1024 → length to ≡ 1024 → Plane a (suc b) w t from
    → Plane a b w t (candidates_of false a b (size a) w from to)
unfolding candidates_of
lines_plane a b w t from to hb fits long plane =
    let kept : (c i : ℕ) → c < w → i < size a
    → get_or (puts (w * size a) (λ i. bit_and (get_or from i 0) (lines_mask b)) to) (c * size a + i) 0 ≡ bit_and (get_or from (c * size a + i) 0) (lines_mask b) =
    λ c i hc hi.
    let l : c * size a + i < w * size a = omega (arith, row_end c w (size a) hc) in
    get_or-puts (λ i. bit_and (get_or from i 0) (lines_mask b)) (w * size a) to 0 (c * size a + i) l (omega arith) in
    record {
      marked = λ c i j k hc hi hj hk.
          ap (λ (y : ℕ). has y (j * 8 + k)) (kept c i hc hi) ∙ has_and (get_or from (c * size a + i) 0) (lines_mask b) (j * 8 + k)
          ∙ ap₂ (λ (x y : Bool). x && y) (plane.marked c i j k hc hi hj hk) (mask-has b j k (omega arith) hj hk)
          ∙ one_line_less k b (ltb (i * 8 + j) (2 ^ a)) (t c k (i * 8 + j));
      small = λ c i hc hi.
          let s = plane.small c i hc hi in
          rw (kept c i hc hi) (omega (arith, and_le_l (get_or from (c * size a + i) 0) (lines_mask b)));
    }

-- The value at the first place of a column
value_of : (x : ℕ) → x < 3 → cond (eqb x 0) 0 (cond (eqb x 1) 1 free) ≡ x
value_of zero h = refl
value_of (suc zero) h = refl
value_of (suc (suc zero)) h = refl
value_of (suc (suc (suc x))) h = absurd (omega arith)

first_marked : (a b w : ℕ) (t : ℕ → ℕ → ℕ → Bool) (zs : List ℕ) → b < 8 → Plane a (suc b) w t zs → (c : ℕ) → c < w
    → has (get_or zs (c * size a) 0) b ≡ t c b 0
first_marked a b w t zs hb plane c hc =
    let line : b ≡ 0 % 8 * 8 + b = omega arith in
    ap₂ (λ (i r : ℕ). has (get_or zs i 0) r) (sym (add-zero (c * size a))) line ∙ marked_at a (suc b) w t zs plane c b 0 hc (omega arith) hb (pow_pos a)

pub value_plane : (a b w : ℕ) (e : ℕ → ℕ → ℕ → ℕ) (zs os : List ℕ) → b < 8 → ((c k x : ℕ) → e c k x < 3)
    → Plane a (suc b) w (λ c k x. eqb (e c k x) 0) zs
    → Plane a (suc b) w (λ c k x. eqb (e c k x) 1) os
    → (c : ℕ) → c < w → value_in (get_or zs (c * size a) 0) (get_or os (c * size a) 0) b ≡ e c b 0
unfolding value_in
value_plane a b w e zs os hb below zeros ones c hc =
    ap₂ (λ (x y : Bool). cond x 0 (cond y 1 free)) (first_marked a b w (λ c k x. eqb (e c k x) 0) zs hb zeros c hc)
    (first_marked a b w (λ c k x. eqb (e c k x) 1) os hb ones c hc)
    ∙ value_of (e c b 0) (below c b 0)

-- Columns added into columns: a word of the sum is the words of its columns, one over another
module _ (s : ℕ) (firsts nums from to : List ℕ) where
  pub length-added : (w : ℕ) → length (added_columns s firsts nums from w to) ≡ length to
  unfolding added_columns
  length-added zero = refl
  length-added (suc c) =
      let old = added_columns s firsts nums from c to in
      let g = get_or nums c 0 * s in
      length-puts_at (λ i. bit_or (get_or old (g + i) 0) (get_or from (get_or firsts c 0 * s + i) 0)) g s old ∙ length-added c

module _ (s v : ℕ) (firsts nums from to : List ℕ) (fits : v * s ≤ length to) where
  added_at : (w : ℕ) → ((c : ℕ) → c < w → get_or nums c 0 < v) → (g i : ℕ) → g < v → i < s
      → get_or (added_columns s firsts nums from w to) (g * s + i) 0
      ≡ marks (get_or to (g * s + i) 0) (λ c. cond (eqb (get_or nums c 0) g) (get_or from (get_or firsts c 0 * s + i) 0) 0) w
  unfolding added_columns marks
  added_at zero few g i hg hi = refl
  added_at (suc c) few g i hg hi =
      let old = added_columns s firsts nums from c to in
      let n = get_or nums c 0 in
      let word = get_or from (get_or firsts c 0 * s + i) 0 in
      let f : ℕ → ℕ = λ i. bit_or (get_or old (n * s + i) 0) (get_or from (get_or firsts c 0 * s + i) 0) in
      let before = added_at c (λ d l. few d (omega arith)) g i hg hi in
      by_equal n g
      (λ e.
      let at : g * s + i ≡ n * s + i = ap (λ (x : ℕ). x * s + i) (sym e) in
      let l : n * s + i < length old = omega (arith, row_end g v s hg, length-added s firsts nums from to c) in
      ap (λ (x : ℕ). get_or (puts_at (n * s) s f old) x 0) at ∙ get_or-puts_at f (n * s) s old 0 i hi l
      ∙ ap₂ bit_or (ap (λ (x : ℕ). get_or old x 0) (sym at) ∙ before) (sym (cond_yes (eqb n g) word 0 (eq-eqb n g e))))
      (λ e.
      let kept : get_or (puts_at (n * s) s f old) (g * s + i) 0 ≡ get_or old (g * s + i) 0 =
      by_less n g (λ l. get_or_unput_at f (n * s) s old 0 (g * s + i) (omega (arith, row_end n g s l)))
      (λ l.
      let k : g < n = omega arith in
      get_or_before_at f (n * s) s old 0 (g * s + i) (omega (arith, row_end g n s k))) in
      kept ∙ sym (or_zero_r (get_or old (g * s + i) 0)) ∙ ap₂ bit_or before (sym (cond_no (eqb n g) word 0 (ne_eqb n g e))))

pub added_plane : (a b w v count : ℕ) (t : ℕ → ℕ → ℕ → Bool) (firsts nums from old : List ℕ) → Plane a b count t from
    → ((c : ℕ) → c < w → get_or firsts c 0 < count)
    → ((c : ℕ) → c < w → get_or nums c 0 < v)
    → v * size a ≤ 1024
    → length old ≡ 1024
    → Plane a b v (λ g k x. any w (λ c. eqb (get_or nums c 0) g && t (get_or firsts c 0) k x)) (added_columns (size a) firsts nums from w (puts 1024 (λ i. 0) old))
added_plane a b w v count t firsts nums from old plane hf hn fits long =
    let word : ℕ → ℕ → ℕ → ℕ = λ g i c. cond (eqb (get_or nums c 0) g) (get_or from (get_or firsts c 0 * size a + i) 0) 0 in
    let at : (g i : ℕ) → g < v → i < size a
    → get_or (added_columns (size a) firsts nums from w (puts 1024 (λ i. 0) old)) (g * size a + i) 0 ≡ marks 0 (word g i) w =
    λ g i hg hi.
    let l : g * size a + i < 1024 = omega (arith, row_end g v (size a) hg) in
    added_at (size a) v firsts nums from (puts 1024 (λ i. 0) old) (omega (arith, length-puts {A = ℕ} (λ i. 0) 1024 old)) w hn g i hg hi
    ∙ ap (λ (x : ℕ). marks x (word g i) w) (get_or-puts (λ i. 0) 1024 old 0 (g * size a + i) l (omega arith)) in
    record {
      marked = λ g i j k hg hi hj hk.
          ap (λ (y : ℕ). has y (j * 8 + k)) (at g i hg hi) ∙ marks-has (word g i) w (j * 8 + k)
          ∙ any_ext (λ c. has (word g i c) (j * 8 + k)) (λ c. inside a b (i * 8 + j) k && (eqb (get_or nums c 0) g && t (get_or firsts c 0) k (i * 8 + j))) w
          (λ c l.
          has-cond (eqb (get_or nums c 0) g) (get_or from (get_or firsts c 0 * size a + i) 0) (j * 8 + k)
          ∙ ap (λ (x : Bool). eqb (get_or nums c 0) g && x) (plane.marked (get_or firsts c 0) i j k (hf c l) hi hj hk)
          ∙ and_turn (eqb (get_or nums c 0) g) (inside a b (i * 8 + j) k) (t (get_or firsts c 0) k (i * 8 + j)))
          ∙ any_beside (inside a b (i * 8 + j) k) (λ c. eqb (get_or nums c 0) g && t (get_or firsts c 0) k (i * 8 + j)) w;
      small = λ g i hg hi.
          rw (at g i hg hi)
          (marks-lt 64 (word g i) w
          (λ c l. cond_both (λ (y : ℕ). y < 2 ^ 64) (eqb (get_or nums c 0) g) (plane.small (get_or firsts c 0) i (hf c l) hi) (pow_pos 64)));
    }
