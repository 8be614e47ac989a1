-- The loops over planes and numbers, a turn at a time. A block of 256 places whose upper bits disagree with a record is left as it was; a
-- record that tests no upper bits is marked in a row that is spread over the blocks.
-- Assumes nothing.
use mathlib.Core.Path.{◌≡◌, refl, sym, ◌∙◌, ap, ap₂}
use mathlib.Core.Bool.{beq, Bool, true, false, cond, ◌&&◌}
use mathlib.Core.List.{List}
use Prim.Native.Nat.{ℕ, suc, ◌+◌, ◌*◌, ◌/◌, ◌%◌, ◌^◌, ◌<◌}
use native.Mathlib.Nat.{div-add-mod', div-eq_of_lt, mod-lt, mod-eq_of_lt}
use native.Mathlib.Numerals.{add-one}
use native.Mathlib.Omega.{arith}
use borrow.Author.Tests.{eqb-true, eq-eqb, ne_eqb, ltb-true, ltb-false, lt-ltb, le-ltb, lt-leb, le-leb}
use lib.Arith.{digits_div, digits_mod}
use lib.Bits.{bit_and, bit_or, and_block, and_le_r, and_zero_r, or_zero_l, or_zero_r}
use lib.Dec.{eqb, ltb, leb}
use lib.ListN.{length, get_or, replicate}
use Rattle.laws.specs.Lists.{puts, puts_at}
use Rattle.laws.specs.Bits.{bit, marks}
use Rattle.laws.proofs.Marks.{marks_ext}
use Rattle.laws.proofs.Cases.{by_test, by_less, same_test, and_split, and_join, cond_same}
use Rattle.laws.proofs.Puts.{puts_ext, puts-run, puts-kept, puts-same, puts_over, get_or-puts, get_or_unput}
use Rattle.sheet.specs.Planes.{agrees, added, high_force, low_force, some_added, high_added, low_added, high_plane, low_row, number_to, CountsUp}

-- a number in base 256 equals another digit by digit
digits_equal : (a i v : ℕ) → i < 256 → eqb (a * 256 + i) v ≡ (eqb a (v / 256) && eqb i (v % 256))
digits_equal a i v h =
    same_test (eqb (a * 256 + i) v) (eqb a (v / 256) && eqb i (v % 256))
    (λ e.
    let q = eqb-true (a * 256 + i) v e in
    and_join (eq-eqb a (v / 256) (sym (digits_div a h) ∙ ap (λ (x : ℕ). x / 256) q)) (eq-eqb i (v % 256) (sym (digits_mod a h) ∙ ap (λ (x : ℕ). x % 256) q)))
    (λ e.
    let p = and_split (eqb a (v / 256)) (eqb i (v % 256)) e in
    eq-eqb (a * 256 + i) v (ap₂ (λ (x y : ℕ). x * 256 + y) (eqb-true a (v / 256) p.0) (eqb-true i (v % 256) p.1) ∙ div-add-mod' v 256))

pub agrees-block : (k v b i : ℕ) → i < 256 → agrees k v (b * 256 + i) ≡ (eqb (bit_and b (k / 256)) (v / 256) && agrees (k % 256) (v % 256) i)
unfolding agrees
agrees-block k v b i h =
    let small : k % 256 < 256 = mod-lt k (omega arith) in
    let low : bit_and i (k % 256) < 256 = omega (arith, and_le_r i (k % 256)) in
    ap (λ (x : ℕ). eqb (bit_and (b * 256 + i) x) v) (sym (div-add-mod' k 256))
    ∙ ap (λ (x : ℕ). eqb x v) (and_block 8 b (k / 256) i (k % 256) h small)
    ∙ digits_equal (bit_and b (k / 256)) (bit_and i (k % 256)) v low

-- what a record adds in a block whose upper bits agree, and in one whose upper bits do not
pub added-hit : (k v f b i : ℕ) → i < 256 → eqb (bit_and b (k / 256)) (v / 256) ≡ true → added k v f (b * 256 + i) ≡ added (k % 256) (v % 256) f i
unfolding added
added-hit k v f b i h e =
    ap (λ (t : Bool). cond t f 0) (agrees-block k v b i h ∙ ap (λ (t : Bool). t && agrees (k % 256) (v % 256) i) e)

pub added_miss : (k v f b i : ℕ) → i < 256 → eqb (bit_and b (k / 256)) (v / 256) ≡ false → added k v f (b * 256 + i) ≡ 0
unfolding added
added_miss k v f b i h e =
    ap (λ (t : Bool). cond t f 0) (agrees-block k v b i h ∙ ap (λ (t : Bool). t && agrees (k % 256) (v % 256) i) e)

-- a record that forces nothing
pub added_none : (k v x : ℕ) → added k v 0 x ≡ 0
unfolding added
added_none k v x = cond_same (agrees k v x) 0

-- what the plane holds at a place when the record is marked
unfoldable pub marked : List ℕ → ℕ → ℕ → ℕ → ℕ → ℕ
marked old k v f x = bit_or (get_or old x 0) (added k v f x)

module _ (old plane : List ℕ) (k v f b : ℕ) (so_far : plane ≡ puts (b * 256) (marked old k v f) old) where
  block_end : b * 256 + 256 ≡ (b + 1) * 256
  block_end = omega arith

  pub block-hit : (low : List ℕ) → CountsUp low → eqb (bit_and b (k / 256)) (v / 256) ≡ true
      → puts_at (b * 256) 256 (λ i. bit_or (get_or plane (b * 256 + i) 0) (added (k % 256) (v % 256) f (get_or low i 0))) plane ≡ puts ((b + 1) * 256) (marked old k v f) old
  unfolding marked
  block-hit low up e =
      let g : ℕ → ℕ = λ i. bit_or (get_or plane (b * 256 + i) 0) (added (k % 256) (v % 256) f (get_or low i 0)) in
      ap (λ (s : List ℕ). puts_at (b * 256) 256 g s) so_far
      ∙ puts-run (marked old k v f) (b * 256) 256 old g
      (λ i h.
      ap₂ bit_or (ap (λ (s : List ℕ). get_or s (b * 256 + i) 0) so_far ∙ get_or_unput (marked old k v f) (b * 256) old 0 (b * 256 + i) (omega arith))
      (ap (λ (x : ℕ). added (k % 256) (v % 256) f x) (up i h) ∙ sym (added-hit k v f b i h e)))
      ∙ ap (λ (n : ℕ). puts n (marked old k v f) old) block_end

  pub block_miss : eqb (bit_and b (k / 256)) (v / 256) ≡ false → plane ≡ puts ((b + 1) * 256) (marked old k v f) old
  unfolding marked
  block_miss e =
      so_far
      ∙ puts-kept (marked old k v f) (b * 256) 256 old 0
      (λ i h. sym (ap (λ (x : ℕ). bit_or (get_or old (b * 256 + i) 0) x) (added_miss k v f b i h e) ∙ or_zero_r (get_or old (b * 256 + i) 0)))
      ∙ ap (λ (n : ℕ). puts n (marked old k v f) old) block_end

pub marked_none : (old : List ℕ) (k v n : ℕ) → old ≡ puts n (marked old k v 0) old
unfolding marked
marked_none old k v n =
    puts-same (marked old k v 0) n old 0 (λ i h. sym (ap (λ (x : ℕ). bit_or (get_or old i 0) x) (added_none k v i) ∙ or_zero_r (get_or old i 0)))

-- a record that is marked, and one that is not, among those that test upper bits or among those that test none
module _ (upper : Bool) (ks vs fs plane : List ℕ) (n r : ℕ) where
  pub some_marked : beq (leb 256 (get_or ks r 0)) upper ≡ true
      → puts n (λ x. bit_or (get_or plane x 0) (added (get_or ks r 0) (get_or vs r 0) (get_or fs r 0) x)) plane ≡ puts n (λ x. bit_or (get_or plane x 0) (some_added upper ks vs fs x r)) plane
  unfolding some_added
  some_marked e =
      let f : ℕ → ℕ = λ x. added (get_or ks r 0) (get_or vs r 0) (get_or fs r 0) x in
      ap (λ (t : Bool). puts n (λ x. bit_or (get_or plane x 0) (cond t (f x) 0)) plane) (sym e)

  pub some_kept : beq (leb 256 (get_or ks r 0)) upper ≡ false → plane ≡ puts n (λ x. bit_or (get_or plane x 0) (some_added upper ks vs fs x r)) plane
  unfolding some_added
  some_kept e =
      let f : ℕ → ℕ = λ x. added (get_or ks r 0) (get_or vs r 0) (get_or fs r 0) x in
      puts-same (λ x. bit_or (get_or plane x 0) 0) n plane 0 (λ i h. sym (or_zero_r (get_or plane i 0)))
      ∙ ap (λ (t : Bool). puts n (λ x. bit_or (get_or plane x 0) (cond t (f x) 0)) plane) (sym e)

-- those that test upper bits are marked on the plane, and those that test none in the row
pub high_is : (ks vs fs : List ℕ) (x r : ℕ) → some_added true ks vs fs x r ≡ high_added ks vs fs x r
unfolding some_added high_added high_force
high_is ks vs fs x r =
    let k = get_or ks r 0 in
    let v = get_or vs r 0 in
    let f = get_or fs r 0 in
    by_less k 256 (λ l. rw (lt-leb 256 k l, lt-ltb k 256 l) (sym (added_none k v x))) (λ l. rw (le-leb 256 k l, le-ltb k 256 l) refl)

low_agrees : (k v f x : ℕ) → k < 256 → added k v f x ≡ added (k % 256) (v % 256) (cond (ltb v 256) f 0) x
unfolding added agrees
low_agrees k v f x l =
    by_less v 256 (λ p. rw (lt-ltb v 256 p, mod-eq_of_lt l, mod-eq_of_lt p) refl)
    (λ p.
    let apart : eqb (bit_and x k) v ≡ false = ne_eqb (bit_and x k) v (λ e. let low = and_le_r x k in absurd (omega arith)) in
    rw (le-ltb v 256 p, apart) (sym (added_none (k % 256) (v % 256) x)))

pub low_is : (ks vs fs : List ℕ) (x r : ℕ) → some_added false ks vs fs x r ≡ low_added ks vs fs x r
unfolding some_added low_added low_force
low_is ks vs fs x r =
    let k = get_or ks r 0 in
    let v = get_or vs r 0 in
    let f = get_or fs r 0 in
    by_less k 256 (λ l. rw (lt-leb 256 k l, lt-ltb k 256 l) (low_agrees k v f x l)) (λ l. rw (le-leb 256 k l, le-ltb k 256 l) (sym (added_none (k % 256) (v % 256) x)))

-- the plane, and the row
module _ (ks vs fs : List ℕ) (c : ℕ) where
  pub high_marked : (old : List ℕ) → puts 4096 (λ x. marks (get_or old x 0) (some_added true ks vs fs x) c) old ≡ high_plane ks vs fs c old
  unfolding high_plane
  high_marked old =
      puts_ext (λ x. marks (get_or old x 0) (some_added true ks vs fs x) c) (λ x. marks (get_or old x 0) (high_added ks vs fs x) c) 4096 old
      (λ x h. marks_ext (get_or old x 0) (some_added true ks vs fs x) (high_added ks vs fs x) c (λ r l. high_is ks vs fs x r))

  pub low_marked : puts 256 (λ i. marks (get_or (replicate 256 0) i 0) (some_added false ks vs fs i) c) (replicate 256 0) ≡ low_row ks vs fs c
  unfolding low_row
  low_marked =
      let none : List ℕ = replicate 256 0 in
      puts_ext (λ i. marks (get_or none i 0) (some_added false ks vs fs i) c) (λ i. marks (get_or none i 0) (low_added ks vs fs i) c) 256 none
      (λ i h. marks_ext (get_or none i 0) (some_added false ks vs fs i) (low_added ks vs fs i) c (λ r l. low_is ks vs fs i r))

-- the row over one block more
pub spread_next : (old row plane : List ℕ) (b : ℕ) → plane ≡ puts (b * 256) (λ x. bit_or (get_or old x 0) (get_or row (x % 256) 0)) old
    → puts_at (b * 256) 256 (λ i. bit_or (get_or plane (b * 256 + i) 0) (get_or row i 0)) plane ≡ puts ((b + 1) * 256) (λ x. bit_or (get_or old x 0) (get_or row (x % 256) 0)) old
spread_next old row plane b so_far =
    let f : ℕ → ℕ = λ x. bit_or (get_or old x 0) (get_or row (x % 256) 0) in
    let g : ℕ → ℕ = λ i. bit_or (get_or plane (b * 256 + i) 0) (get_or row i 0) in
    let end : b * 256 + 256 ≡ (b + 1) * 256 = omega arith in
    ap (λ (s : List ℕ). puts_at (b * 256) 256 g s) so_far
    ∙ puts-run f (b * 256) 256 old g
    (λ i h.
    ap₂ bit_or (ap (λ (s : List ℕ). get_or s (b * 256 + i) 0) so_far ∙ get_or_unput f (b * 256) old 0 (b * 256 + i) (omega arith))
    (ap (λ (x : ℕ). get_or row x 0) (sym (digits_mod b h))))
    ∙ ap (λ (n : ℕ). puts n f old) end

-- a record that tests no upper bits has all blocks, or none; what it adds on the plane and in the row together is what it adds
upper-none : (b k : ℕ) → k < 256 → bit_and b (k / 256) ≡ 0
upper-none b k h = ap (bit_and b) (div-eq_of_lt h) ∙ and_zero_r b

pub added_parts : (k v f x : ℕ) → bit_or (added k v (high_force k f) x) (added (k % 256) (v % 256) (low_force k v f) (x % 256)) ≡ added k v f x
unfolding high_force low_force
added_parts k v f x =
    let b = x / 256 in
    let i = x % 256 in
    let small : i < 256 = mod-lt x (omega arith) in
    let whole : b * 256 + i ≡ x = div-add-mod' x 256 in
    by_test (ltb k 256)
    (λ p.
    by_test (ltb v 256)
    (λ q.
    rw (p, q)
    (ap (λ (z : ℕ). bit_or z (added (k % 256) (v % 256) f i)) (added_none k v x) ∙ or_zero_l (added (k % 256) (v % 256) f i)
    ∙ sym (added-hit k v f b i small (eq-eqb (bit_and b (k / 256)) (v / 256) (upper-none b k (ltb-true k 256 p) ∙ sym (div-eq_of_lt (ltb-true v 256 q))))) ∙ ap (added k v f) whole))
    (λ q.
    rw (p, q)
    (ap₂ bit_or (added_none k v x) (added_none (k % 256) (v % 256) i)
    ∙ or_zero_l 0
    ∙ sym (added_miss k v f b i small (ne_eqb (bit_and b (k / 256)) (v / 256) (λ e. let z = upper-none b k (ltb-true k 256 p) in let l = ltb-false v 256 q in absurd (omega arith)))) ∙ ap (added k v f) whole)))
    (λ p. rw p (ap (bit_or (added k v f x)) (added_none (k % 256) (v % 256) i) ∙ or_zero_r (added k v f x)))

pub numbers-next : (old is ws numbers : List ℕ) (n k from : ℕ) → numbers ≡ puts n (λ r. number_to (get_or old r 0) is k (get_or ws r 0)) old → from ≡ get_or is k 0 % 16
    → puts n (λ r. bit_or (get_or numbers r 0) (bit (get_or ws r 0) from * 2 ^ k)) numbers ≡ puts n (λ r. number_to (get_or old r 0) is (k + 1) (get_or ws r 0)) old
unfolding number_to
numbers-next old is ws numbers n k from e q =
    let f : ℕ → ℕ = λ r. number_to (get_or old r 0) is k (get_or ws r 0) in
    let g : ℕ → ℕ = λ r. bit_or (get_or numbers r 0) (bit (get_or ws r 0) from * 2 ^ k) in
    ap (λ (s : List ℕ). puts n g s) e
    ∙ puts_over f g (λ r. number_to (get_or old r 0) is (suc k) (get_or ws r 0)) n old 0
    (λ i p b. ap₂ (λ (x y : ℕ). bit_or x (bit (get_or ws i 0) y * 2 ^ k)) (ap (λ (s : List ℕ). get_or s i 0) e ∙ get_or-puts f n old 0 i p b) q)
    ∙ ap (λ (m : ℕ). puts n (λ r. number_to (get_or old r 0) is m (get_or ws r 0)) old) (sym (add-one k))

pub numbers_start : (old is ws : List ℕ) (n : ℕ) → old ≡ puts n (λ r. number_to (get_or old r 0) is 0 (get_or ws r 0)) old
unfolding number_to
numbers_start old is ws n = puts-same (λ r. number_to (get_or old r 0) is 0 (get_or ws r 0)) n old 0 (λ i h. refl)

pub counts_up : (l : List ℕ) → length l ≡ 256 → CountsUp (puts 256 (λ i. i) l)
counts_up l e i h = get_or-puts (λ i. i) 256 l 0 i h (omega arith)
