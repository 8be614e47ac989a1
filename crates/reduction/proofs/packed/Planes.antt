-- Planes of packed words: what each bit of a plane says of its columns, and that equal and compatible columns are told by their words.
-- Assumes nothing.
use mathlib.Core.Path.{◌≡◌, refl, sym, ◌∙◌, ap, ap₂}
use mathlib.Core.Bool.{Bool, true, false, not, ◌&&◌, ◌||◌}
use mathlib.Core.List.{List}
use Prim.Native.Nat.{ℕ, ◌+◌, ◌-◌, ◌*◌, ◌/◌, ◌%◌, ◌^◌, ◌<◌, ◌≤◌}
use native.Mathlib.Omega.{arith}
use borrow.Author.Tests.{lt-ltb, ltb-true, eq-eqb, eqb-true}
use lib.Dec.{eqb, ltb}
use lib.Bits.{bit_and, bit_or, and_lt, or_lt}
use lib.ListN.{get_or}
use lib.Pow.{pow-lt, shr_lt}
use Rattle.laws.specs.Tests.{any}
use Rattle.laws.specs.Bits.{has}
use Rattle.laws.proofs.Bits.{has_and, has_or}
use Rattle.laws.proofs.Cases.{by_test, by_less, by_equal, and_split, and_join}
use Rattle.laws.proofs.Tests.{every_of, every_at, any_none, any_out}
use Rattle.laws.proofs.Masks.{same-has, some-bit, not-both}
use Rattle.reduction_spec.specs.Compatible.{opposite}
use Rattle.reduction.specs.Packed.{size}
use Rattle.reduction.specs.Distinct.{same_words, agree_words}

-- place x and line k stand in a column of 2^a places and b lines
abbrev pub inside : ℕ → ℕ → ℕ → ℕ → Bool
inside a b x k = ltb x (2 ^ a) && ltb k b

-- the plane zs of w columns marks where the test t holds: column, line, place
pub record Plane (a b w : ℕ) (t : ℕ → ℕ → ℕ → Bool) (zs : List ℕ) : Type 0 where
  pub marked : (c i j k : ℕ) → c < w → i < size a → j < 8 → k < 8
      → has (get_or zs (c * size a + i) 0) (j * 8 + k) ≡ (inside a b (i * 8 + j) k && t c k (i * 8 + j))
  pub small : (c i : ℕ) → c < w → i < size a → get_or zs (c * size a + i) 0 < 2 ^ 64

-- a bit of a word: its place in the word, and its line
pub digits : (q : ℕ) → q < 64 → (q / 8 < 8) × (q % 8 < 8) × (q / 8 * 8 + q % 8 ≡ q)
digits q h = (omega arith, omega arith, omega arith)

-- the word of a place
pub place_word : (a x : ℕ) → x < 2 ^ a → x / 8 < size a
place_word a x h =
    by_less a 3
    (λ l.
    let z : a - 3 ≡ 0 = omega arith in
    let s : x < 8 = omega (arith, pow-lt l) in
    rw z (omega arith))
    (λ l.
    let z : a - 3 + 3 ≡ a = omega arith in
    shr_lt (a - 3) 3 (rw z h))

pub inside_yes : (a b x k : ℕ) → x < 2 ^ a → k < b → inside a b x k ≡ true
inside_yes a b x k hx hk = and_join (lt-ltb x (2 ^ a) hx) (lt-ltb k b hk)

and_of : (i : Bool) {s t : Bool} → (i ≡ true → s ≡ t) → (i && s) ≡ (i && t)
and_of true h = h refl
and_of false h = refl

-- values below 3 are told by being 0 and being 1
three : (x y : ℕ) → x < 3 → y < 3 → eqb x 0 ≡ eqb y 0 → eqb x 1 ≡ eqb y 1 → x ≡ y
three x y hx hy z o =
    by_equal x 0 (λ e. e ∙ sym (eqb-true y 0 (sym z ∙ eq-eqb x 0 e)))
    (λ n. by_equal x 1 (λ e. e ∙ sym (eqb-true y 1 (sym o ∙ eq-eqb x 1 e)))
    (λ m.
    by_equal y 0 (λ e. absurd (n (eqb-true x 0 (z ∙ eq-eqb y 0 e))))
    (λ k. by_equal y 1 (λ e. absurd (m (eqb-true x 1 (o ∙ eq-eqb y 1 e)))) (λ l. omega arith))))

-- at a place and line of a column
module _ (a b w : ℕ) (t : ℕ → ℕ → ℕ → Bool) (zs : List ℕ) (plane : Plane a b w t zs) where
  pub marked_at : (c k x : ℕ) → c < w → k < b → k < 8 → x < 2 ^ a → has (get_or zs (c * size a + x / 8) 0) (x % 8 * 8 + k) ≡ t c k x
  marked_at c k x hc hk hl hx =
      let e : x / 8 * 8 + x % 8 ≡ x = omega arith in
      plane.marked c (x / 8) (x % 8) k hc (place_word a x hx) (omega arith) hl
      ∙ ap (λ (y : ℕ). inside a b y k && t c k y) e
      ∙ ap (λ (i : Bool). i && t c k x) (inside_yes a b x k hx hk)

  -- columns that are alike have equal words
  pub words_equal : (p q i : ℕ) → p < w → q < w → i < size a → ((k x : ℕ) → k < b → x < 2 ^ a → t p k x ≡ t q k x)
      → get_or zs (p * size a + i) 0 ≡ get_or zs (q * size a + i) 0
  words_equal p q i hp hq hi h =
      same-has 64 (get_or zs (p * size a + i) 0) (get_or zs (q * size a + i) 0) (plane.small p i hp hi) (plane.small q i hq hi)
      (λ r l.
      let (j, k, e) = digits r l in
      let at : (c : ℕ) → c < w → has (get_or zs (c * size a + i) 0) r ≡ (inside a b (i * 8 + r / 8) (r % 8) && t c (r % 8) (i * 8 + r / 8)) =
      λ c hc. ap (has (get_or zs (c * size a + i) 0)) (sym e) ∙ plane.marked c i (r / 8) (r % 8) hc hi j k in
      at p hp
      ∙ and_of (inside a b (i * 8 + r / 8) (r % 8))
      (λ s.
      let (x, y) = and_split (ltb (i * 8 + r / 8) (2 ^ a)) (ltb (r % 8) b) s in
      h (r % 8) (i * 8 + r / 8) (ltb-true (r % 8) b y) (ltb-true (i * 8 + r / 8) (2 ^ a) x))
      ∙ sym (at q hq))

-- the two planes of columns of values below 3
module _ (a b w : ℕ) (hb : b ≤ 8) (e : ℕ → ℕ → ℕ → ℕ) (below : (c k x : ℕ) → e c k x < 3) (zs os : List ℕ)
    (zeros : Plane a b w (λ c k x. eqb (e c k x) 0) zs) (ones : Plane a b w (λ c k x. eqb (e c k x) 1) os) where
  pub same-words : (p q : ℕ) → p < w → q < w → ((k x : ℕ) → k < b → x < 2 ^ a → e p k x ≡ e q k x) → same_words zs os (size a) p q ≡ true
  unfolding same_words
  same-words p q hp hq h =
      every_of (λ i. eqb (get_or zs (p * size a + i) 0) (get_or zs (q * size a + i) 0) && eqb (get_or os (p * size a + i) 0) (get_or os (q * size a + i) 0)) (size a)
      (λ i hi.
      and_join
      (eq-eqb (get_or zs (p * size a + i) 0) (get_or zs (q * size a + i) 0)
      (words_equal a b w (λ c k x. eqb (e c k x) 0) zs zeros p q i hp hq hi (λ k x hk hx. ap (λ (v : ℕ). eqb v 0) (h k x hk hx))))
      (eq-eqb (get_or os (p * size a + i) 0) (get_or os (q * size a + i) 0)
      (words_equal a b w (λ c k x. eqb (e c k x) 1) os ones p q i hp hq hi (λ k x hk hx. ap (λ (v : ℕ). eqb v 1) (h k x hk hx)))))

  pub words_same : (p q : ℕ) → p < w → q < w → same_words zs os (size a) p q ≡ true → (k x : ℕ) → k < b → x < 2 ^ a → e p k x ≡ e q k x
  unfolding same_words
  words_same p q hp hq s k x hk hx =
      let i = x / 8 in
      let r = x % 8 * 8 + k in
      let zp = get_or zs (p * size a + i) 0 in
      let zq = get_or zs (q * size a + i) 0 in
      let op = get_or os (p * size a + i) 0 in
      let oq = get_or os (q * size a + i) 0 in
      let (z, o) = and_split (eqb zp zq) (eqb op oq)
      (every_at (λ i. eqb (get_or zs (p * size a + i) 0) (get_or zs (q * size a + i) 0) && eqb (get_or os (p * size a + i) 0) (get_or os (q * size a + i) 0)) (size a) s i (place_word a x hx)) in
      let l : k < 8 = omega arith in
      three (e p k x) (e q k x) (below p k x) (below q k x)
      (sym (marked_at a b w (λ c k x. eqb (e c k x) 0) zs zeros p k x hp hk l hx)
      ∙ ap (λ (v : ℕ). has v r) (eqb-true zp zq z) ∙ marked_at a b w (λ c k x. eqb (e c k x) 0) zs zeros q k x hq hk l hx)
      (sym (marked_at a b w (λ c k x. eqb (e c k x) 1) os ones p k x hp hk l hx)
      ∙ ap (λ (v : ℕ). has v r) (eqb-true op oq o) ∙ marked_at a b w (λ c k x. eqb (e c k x) 1) os ones q k x hq hk l hx)

  -- the word that holds the places where 0 stands against 1
  abbrev against : ℕ → ℕ → ℕ → ℕ
  against p q i =
      bit_or (bit_and (get_or zs (p * size a + i) 0) (get_or os (q * size a + i) 0)) (bit_and (get_or os (p * size a + i) 0) (get_or zs (q * size a + i) 0))

  against-small : (p q i : ℕ) → p < w → q < w → i < size a → against p q i < 2 ^ 64
  against-small p q i hp hq hi =
      or_lt 64 (bit_and (get_or zs (p * size a + i) 0) (get_or os (q * size a + i) 0)) (bit_and (get_or os (p * size a + i) 0) (get_or zs (q * size a + i) 0))
      (and_lt 64 (get_or zs (p * size a + i) 0) (get_or os (q * size a + i) 0) (zeros.small p i hp hi) (ones.small q i hq hi))
      (and_lt 64 (get_or os (p * size a + i) 0) (get_or zs (q * size a + i) 0) (ones.small p i hp hi) (zeros.small q i hq hi))

  against-has : (p q i r : ℕ)
      → has (against p q i) r
      ≡ (has (get_or zs (p * size a + i) 0) r && has (get_or os (q * size a + i) 0) r || has (get_or os (p * size a + i) 0) r && has (get_or zs (q * size a + i) 0) r)
  against-has p q i r =
      has_or (bit_and (get_or zs (p * size a + i) 0) (get_or os (q * size a + i) 0)) (bit_and (get_or os (p * size a + i) 0) (get_or zs (q * size a + i) 0)) r
      ∙ ap₂ (λ (x y : Bool). x || y) (has_and (get_or zs (p * size a + i) 0) (get_or os (q * size a + i) 0) r) (has_and (get_or os (p * size a + i) 0) (get_or zs (q * size a + i) 0) r)

  both_out : (i s t u v : Bool) → (i ≡ true → (s && t || u && v) ≡ false) → ((i && s) && (i && t) || (i && u) && (i && v)) ≡ false
  both_out true s t u v h = h refl
  both_out false s t u v h = refl

  pub agree_words_lem : (p q : ℕ) → p < w → q < w → ((k x : ℕ) → k < b → x < 2 ^ a → opposite (e p k x) (e q k x) ≡ false)
      → agree_words zs os (size a) p q ≡ true
  unfolding agree_words
  agree_words_lem p q hp hq h =
      every_of (λ i. eqb (against p q i) 0) (size a) (λ i hi.
      by_test (eqb (against p q i) 0) (λ s. s)
      (λ s.
      let some : any 64 (has (against p q i)) ≡ true = sym (some-bit 64 (against p q i) (against-small p q i hp hq hi)) ∙ ap not s in
      not-both some
      (any_none (has (against p q i)) 64 (λ r l.
      let (j, k, z) = digits r l in
      let v = r % 8 in
      let y = i * 8 + r / 8 in
      let az : (c : ℕ) → c < w → has (get_or zs (c * size a + i) 0) r ≡ (inside a b y v && eqb (e c v y) 0) =
      λ c hc. ap (has (get_or zs (c * size a + i) 0)) (sym z) ∙ zeros.marked c i (r / 8) v hc hi j k in
      let ao : (c : ℕ) → c < w → has (get_or os (c * size a + i) 0) r ≡ (inside a b y v && eqb (e c v y) 1) =
      λ c hc. ap (has (get_or os (c * size a + i) 0)) (sym z) ∙ ones.marked c i (r / 8) v hc hi j k in
      against-has p q i r
      ∙ rw (az p hp, ao q hq, ao p hp, az q hq)
      (both_out (inside a b y v) (eqb (e p v y) 0) (eqb (e q v y) 1) (eqb (e p v y) 1) (eqb (e q v y) 0)
      (λ n.
      let (x, m) = and_split (ltb y (2 ^ a)) (ltb v b) n in
      h v y (ltb-true v b m) (ltb-true y (2 ^ a) x)))))))

  pub words_agree : (p q : ℕ) → p < w → q < w → agree_words zs os (size a) p q ≡ true → (k x : ℕ) → k < b → x < 2 ^ a
      → opposite (e p k x) (e q k x) ≡ false
  unfolding agree_words
  words_agree p q hp hq s k x hk hx =
      let i = x / 8 in
      let r = x % 8 * 8 + k in
      let l : k < 8 = omega arith in
      let hi = place_word a x hx in
      let none : any 64 (has (against p q i)) ≡ false =
      sym (some-bit 64 (against p q i) (against-small p q i hp hq hi)) ∙ ap not (every_at (λ i. eqb (against p q i) 0) (size a) s i hi) in
      let az : (c : ℕ) → c < w → has (get_or zs (c * size a + i) 0) r ≡ eqb (e c k x) 0 =
      λ c hc. marked_at a b w (λ c k x. eqb (e c k x) 0) zs zeros c k x hc hk l hx in
      let ao : (c : ℕ) → c < w → has (get_or os (c * size a + i) 0) r ≡ eqb (e c k x) 1 =
      λ c hc. marked_at a b w (λ c k x. eqb (e c k x) 1) os ones c k x hc hk l hx in
      let out : has (against p q i) r ≡ false = any_out (has (against p q i)) 64 none r (omega arith) in
      ap₂ (λ (x y : Bool). x || y) (ap₂ (λ (x y : Bool). x && y) (sym (az p hp)) (sym (ao q hq))) (ap₂ (λ (x y : Bool). x && y) (sym (ao p hp)) (sym (az q hq)))
      ∙ sym (against-has p q i r) ∙ out
