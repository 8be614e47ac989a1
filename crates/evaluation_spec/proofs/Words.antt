-- Words of twelve inputs given bit by bit, and the bits of a cell's inputs gathered from a word and scattered back.
-- Assumes nothing.
use mathlib.Core.Path.{◌≡◌, refl, sym, ◌∙◌, ap, ap₂}
use mathlib.Core.Bool.{true, cond, false≢true}
use mathlib.Core.List.{List, [], ◌∷◌}
use Prim.Native.Nat.{ℕ, suc, ◌+◌, ◌*◌, ◌/◌, ◌%◌, ◌^◌, ◌<◌}
use native.Mathlib.Nat.{mod-lt, pow-suc, add-mul, mul_assoc, mul_comm, zero-add, mod-eq_of_lt}
use native.Mathlib.Omega.{arith}
use lib.Dec.{eqb}
use lib.Bits.{bit_and, and_block, and_lt, and_mask, and_zero_r}
use lib.ListN.{length}
use lib.Pow.{pow_pos, split, high, low, shr_lt}
use borrow.Author.Tests.{eqb-true, eq-eqb, ne_eqb}
use Rattle.laws.specs.Tests.{sum}
use Rattle.laws.specs.Bits.{bit}
use Rattle.laws.proofs.Cases.{by_test, by_equal, cond_yes, cond_no, cond_both}
use Rattle.laws.proofs.Bits.{bit-lt, and_bit}
use Rattle.laws.proofs.Masks.{not-both}
use Rattle.laws.proofs.Powers.{sum-bit, sum-small}
use Rattle.stored_spec.specs.StoredForm.{member}
use Rattle.stored_spec.specs.Run.{AgreeOn, address}
use Rattle.stored_spec.proofs.FormedCells.{AllBelow, address-lt}
use Rattle.stored_spec.proofs.SameRuns.{same_address}
use Rattle.stored_spec.proofs.OneCell.{Once, agree_of}
use Rattle.evaluation_spec.specs.RailSets.{agrees}

-- the word whose input i is f i
unfoldable pub word_from : (ℕ → ℕ) → ℕ
word_from f = sum 12 (λ i. f i * 2 ^ i)

module _ (f : ℕ → ℕ) (small : (i : ℕ) → f i < 2) where
  pub word-bit : (i : ℕ) → i < 12 → bit (word_from f) i ≡ f i
  unfolding word_from
  word-bit i l = sum-bit f (λ k. k) 12 (λ k h. small k) (λ k q h p e. e) i l

  pub word_small : word_from f < 4096
  unfolding word_from
  word_small = sum-small f 12 (λ k h. small k)

-- an address is the rail word above the inputs gathered
shift : (r n : ℕ) → r * 2 ^ suc n ≡ r * 2 * 2 ^ n
shift r n = ap (λ (x : ℕ). r * x) (pow-suc 2 n ∙ mul_comm (2 ^ n) 2) ∙ sym (mul_assoc r 2 (2 ^ n))

pub address-from : (is : List ℕ) (r w : ℕ) → address r is w ≡ r * 2 ^ length is + address 0 is w
unfolding address
address-from [] r w = omega arith
address-from (i ∷ is) r w =
    let p = 2 ^ length is in
    let b = bit w i in
    let one = address-from is (r * 2 + b) w in
    let two = address-from is (0 * 2 + b) w in
    let zero-b : (0 * 2 + b) * p ≡ b * p = ap (λ (x : ℕ). x * p) (let z : 0 * 2 + b ≡ b = omega arith in z) in
    omega (arith, one, two, zero-b, add-mul (r * 2) b p, shift r (length is))

pub gather_lt : (is : List ℕ) (w : ℕ) → address 0 is w < 2 ^ length is
gather_lt is w = rw (zero-add (length is)) at (address-lt 0 0 is w (omega arith))

-- with one input more above the others
pub gather_more : (i : ℕ) (is : List ℕ) (w : ℕ) → address 0 (i ∷ is) w ≡ bit w i * 2 ^ length is + address 0 is w
unfolding address
gather_more i is w =
    address-from is (0 * 2 + bit w i) w
    ∙ ap (λ (x : ℕ). x * 2 ^ length is + address 0 is w) (let z : 0 * 2 + bit w i ≡ bit w i = omega arith in z)

-- gathering goes bit by bit
pub gather_and : (is : List ℕ) (w v : ℕ) → address 0 is (bit_and w v) ≡ bit_and (address 0 is w) (address 0 is v)
unfolding address
gather_and [] w v = refl
gather_and (i ∷ is) w v =
    gather_more i is (bit_and w v)
    ∙ ap₂ (λ (x y : ℕ). x * 2 ^ length is + y) (and_bit w v i) (gather_and is w v)
    ∙ sym (and_block (length is) (bit w i) (bit v i) (address 0 is w) (address 0 is v) (gather_lt is w) (gather_lt is v))
    ∙ sym (ap₂ bit_and (gather_more i is w) (gather_more i is v))

-- the word u with input i set to b
unfoldable pub put : ℕ → ℕ → ℕ → ℕ
put u i b = word_from (λ j. cond (eqb j i) b (bit u j))

module _ (u i b : ℕ) (l : b < 2) where
  put_small_bits : (j : ℕ) → cond (eqb j i) b (bit u j) < 2
  put_small_bits j = cond_both (λ (x : ℕ). x < 2) (eqb j i) l (bit-lt u j)

  pub put_here : i < 12 → bit (put u i b) i ≡ b
  unfolding put
  put_here h =
      word-bit (λ j. cond (eqb j i) b (bit u j)) put_small_bits i h ∙ cond_yes (eqb i i) b (bit u i) (eq-eqb i i refl)

  pub put_other : (j : ℕ) → j < 12 → (j ≡ i → ⊥) → bit (put u i b) j ≡ bit u j
  unfolding put
  put_other j h n =
      word-bit (λ j. cond (eqb j i) b (bit u j)) put_small_bits j h ∙ cond_no (eqb j i) b (bit u j) (ne_eqb j i n)

pub below_at : (n : ℕ) (is : List ℕ) (i : ℕ) → AllBelow n is → member i is ≡ true → i < n
below_at n [] i h e = absurd (false≢true e)
below_at n (x ∷ is) i h e = by_test (eqb i x) (λ p. omega (arith, eqb-true i x p, h.0)) (λ p. below_at n is i h.1 (rw p at e))

-- the word u with the inputs is set to the bits of a, topmost most significant
unfoldable pub scatter : List ℕ → ℕ → ℕ → ℕ
scatter [] a u = u
scatter (i ∷ is) a u = put (scatter is (a % 2 ^ length is) u) i (a / 2 ^ length is)

top_bit : (n a : ℕ) → a < 2 ^ suc n → a / 2 ^ n < 2
top_bit n a h = let e : suc n ≡ 1 + n = omega arith in shr_lt 1 n (rw e at h)

-- gathering what was scattered
pub scatter_gathers : (is : List ℕ) (a u : ℕ) → Once is → AllBelow 12 is → a < 2 ^ length is → address 0 is (scatter is a u) ≡ a
unfolding scatter address
scatter_gathers [] a u once below h = omega arith
scatter_gathers (i ∷ is) a u once below h =
    let n = length is in
    let v = scatter is (a % 2 ^ n) u in
    let b = a / 2 ^ n in
    let small = top_bit n a h in
    let same : AgreeOn is (put v i b) v =
    agree_of is (put v i b) v (λ j e. put_other v i b small j (below_at 12 is j below.1 e) (λ q. not-both e (ap (λ (x : ℕ). member x is) q ∙ once.0))) in
    gather_more i is (put v i b)
    ∙ ap₂ (λ (x y : ℕ). x * 2 ^ n + y) (put_here v i b small below.0)
    (same_address is 0 (put v i b) v same ∙ scatter_gathers is (a % 2 ^ n) u once.1 below.1 (mod-lt a (pow_pos n)))
    ∙ split a n

and_one : (b : ℕ) → b < 2 → bit_and b 1 ≡ b
and_one b h = and_mask b 1 ∙ mod-eq_of_lt h

-- the bits of an address that agrees with the known inputs of w: of its topmost input, and of the rest
module _ (known w i : ℕ) (is : List ℕ) (a : ℕ) (h : a < 2 ^ suc (length is)) (e : agrees known w (i ∷ is) a ≡ true) where
  abbrev n : ℕ
  n = length is

  equal : bit_and (a / 2 ^ n) (bit known i) * 2 ^ n + bit_and (a % 2 ^ n) (address 0 is known)
      ≡ bit (bit_and w known) i * 2 ^ n + address 0 is (bit_and w known)
  unfolding agrees
  equal =
      sym (and_block n (a / 2 ^ n) (bit known i) (a % 2 ^ n) (address 0 is known) (mod-lt a (pow_pos n)) (gather_lt is known))
      ∙ ap₂ bit_and (split a n) (sym (gather_more i is known))
      ∙ eqb-true _ _ e ∙ gather_more i is (bit_and w known)

  low-lt : bit_and (a % 2 ^ n) (address 0 is known) < 2 ^ n
  low-lt = and_lt n (a % 2 ^ n) (address 0 is known) (mod-lt a (pow_pos n)) (gather_lt is known)

  pub agrees-rest : agrees known w is (a % 2 ^ length is) ≡ true
  unfolding agrees
  agrees-rest =
      eq-eqb (bit_and (a % 2 ^ n) (address 0 is known)) (address 0 is (bit_and w known))
      (sym (low (bit_and (a / 2 ^ n) (bit known i)) n low-lt) ∙ ap (λ (x : ℕ). x % 2 ^ n) equal
      ∙ low (bit (bit_and w known) i) n (gather_lt is (bit_and w known)))

  pub agrees_top : bit known i ≡ 1 → a / 2 ^ length is ≡ bit w i
  agrees_top k =
      let top : bit_and (a / 2 ^ n) (bit known i) ≡ bit (bit_and w known) i =
      sym (high (bit_and (a / 2 ^ n) (bit known i)) n low-lt) ∙ ap (λ (x : ℕ). x / 2 ^ n) equal
      ∙ high (bit (bit_and w known) i) n (gather_lt is (bit_and w known)) in
      sym (and_one (a / 2 ^ n) (top_bit n a h)) ∙ ap (bit_and (a / 2 ^ n)) (sym k) ∙ top ∙ and_bit w known i ∙ ap (bit_and (bit w i)) k
      ∙ and_one (bit w i) (bit-lt w i)

-- v has the known inputs as w has them
abbrev pub Fills : ℕ → ℕ → ℕ → Type 0
Fills known w v = (i : ℕ) → i < 12 → bit known i ≡ 1 → bit v i ≡ bit w i

pub scatter_fills : (known w : ℕ) (is : List ℕ) (a u : ℕ) → AllBelow 12 is → a < 2 ^ length is → agrees known w is a ≡ true → Fills known w u
    → Fills known w (scatter is a u)
unfolding scatter
scatter_fills known w [] a u below h e f j l k = f j l k
scatter_fills known w (i ∷ is) a u below h e f j l k =
    let v = scatter is (a % 2 ^ length is) u in
    let b = a / 2 ^ length is in
    let small = top_bit (length is) a h in
    by_equal j i
    (λ q.
    ap (λ (x : ℕ). bit (put v i b) x) q ∙ put_here v i b small below.0
    ∙ agrees_top known w i is a h e (ap (bit known) (sym q) ∙ k) ∙ ap (bit w) (sym q))
    (λ q.
    put_other v i b small j l q
    ∙ scatter_fills known w is (a % 2 ^ length is) u below.1 (mod-lt a (pow_pos (length is))) (agrees-rest known w i is a h e) f j l k)

-- a word that fills has an address that agrees
pub fills-agrees : (known w : ℕ) (is : List ℕ) (v : ℕ) → AllBelow 12 is → Fills known w v → agrees known w is (address 0 is v) ≡ true
unfolding agrees
fills-agrees known w is v below f =
    eq-eqb (bit_and (address 0 is v) (address 0 is known)) (address 0 is (bit_and w known))
    (sym (gather_and is v known) ∙ same_address is 0 (bit_and v known) (bit_and w known) (agree_of is (bit_and v known) (bit_and w known) same))
  where
    same : (i : ℕ) → member i is ≡ true → bit (bit_and v known) i ≡ bit (bit_and w known) i
    same i e =
        and_bit v known i
        ∙ by_equal (bit known i) 1 (λ k. ap (λ (x : ℕ). bit_and x (bit known i)) (f i (below_at 12 is i below e) k))
        (λ k.
        let z : bit known i ≡ 0 = let l = bit-lt known i in omega arith in
        ap (bit_and (bit v i)) z ∙ and_zero_r (bit v i) ∙ sym (ap (bit_and (bit w i)) z ∙ and_zero_r (bit w i)))
        ∙ sym (and_bit w known i)
