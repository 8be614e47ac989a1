-- Parts of a list: of one of which some is written over, of equal elements, as many elements as there are, a part that is stored into; an
-- element of a mapped list.
-- Assumes nothing.
use mathlib.Core.Path.{◌≡◌, refl, sym, ◌∙◌, ap, ap₂}
use mathlib.Core.List.{List, [], ◌∷◌, ◌++◌, map}
use Prim.Native.Nat.{ℕ, zero, suc, ◌+◌, ◌-◌, ◌<◌, ◌≤◌, min}
use native.Mathlib.Nat.{not-suc-le-zero, le_of_suc-le-suc, zero-add, suc-add}
use native.Mathlib.Omega.{arith}
use borrow.Rule.Slice.PartMut.{mid_of, post_of, put_mid, mid_len, put_same}
use lib.ListN.{length, get_or, set, take, drop, replicate, length-append, length-take, length-drop, length-replicate, get_or-replicate, take-append-drop, drop_of_length-le}
use lib.Seq.{drop-append-le, take-append-le, drop-append-add, drop-drop, take_at, get_or-take, get_or-drop, length-take-le, ext_get_or, take_all, take-nil, set-append_left}
use Rattle.laws.specs.Lists.{written, puts_at}
use Rattle.laws.proofs.Cases.{by_less}
use Rattle.laws.proofs.Puts.{length-puts_at}
use Rattle.laws.proofs.Filled.{length-written, take-written, drop-written}

-- the n elements from place k on
abbrev pub part : {A : Type 0} → ℕ → ℕ → List A → List A
part k n l = take n (drop k l)

module _ {A : Type 0} (l : List A) (i : ℕ) (vs : List A) (fits : i + length vs ≤ length l) where
  -- before what was written, in it, after it
  pub part_before : (k n : ℕ) → k + n ≤ i → part k n (written l i vs) ≡ part k n l
  part_before k n h =
      let size = length-written l i vs fits in
      front (written l i vs) (omega arith) ∙ ap (part k n) (take-written l i vs fits) ∙ sym (front l (omega arith))
    where
      front : (x : List A) → i ≤ length x → part k n x ≡ part k n (take i x)
      front x g =
          let e = length-take-le i x g in
          ap (part k n) (sym (take-append-drop i x)) ∙ ap (take n) (drop-append-le k (take i x) (drop i x) (omega arith))
          ∙ take-append-le n (drop k (take i x)) (drop i x) (omega (arith, length-drop k (take i x)))

  pub part_written : part i (length vs) (written l i vs) ≡ vs
  part_written = ap (take (length vs)) (drop-written l i vs fits) ∙ take_at vs (drop (i + length vs) l) (length vs) refl

  pub part_after : (k n : ℕ) → i + length vs ≤ k → part k n (written l i vs) ≡ part k n l
  part_after k n h =
      let j = k - (i + length vs) in
      let e : length (take i l ++ vs) ≡ i + length vs = simp (length-append, length-take) (omega arith) in
      let at : k ≡ length (take i l ++ vs) + j = omega arith in
      let back : i + length vs + j ≡ k = omega arith in
      ap (λ (x : ℕ). part x n (written l i vs)) at
      ∙ ap (take n) (drop-append-add (take i l ++ vs) (drop (i + length vs) l) j ∙ drop-drop j (i + length vs) l)
      ∙ ap (λ (x : ℕ). part x n l) back

pub part_replicate : (v k n m : ℕ) → k + n ≤ m → part k n (replicate m v) ≡ replicate n v
part_replicate v k n m h =
    let all : List ℕ = replicate m v in
    let e : length (part k n all) ≡ n = simp (length-take, length-drop, length-replicate) (omega arith) in
    ext_get_or v (part k n all) (replicate n v) (e ∙ sym (length-replicate n v))
    (λ i l.
    get_or-take n (drop k all) i v (omega arith) ∙ get_or-drop k all i v ∙ get_or-replicate m (k + i) v v (omega arith)
    ∙ sym (get_or-replicate n i v v (omega arith)))

pub map_at : {A B : Type 0} (f : A → B) (l : List A) (d : A) (e : B) (i : ℕ) → i < length l → get_or (map f l) i e ≡ f (get_or l i d)
map_at f [] d e i h = absurd (not-suc-le-zero h)
map_at f (x ∷ l) d e zero h = refl
map_at f (x ∷ l) d e (suc i) h = map_at f l d e i (le_of_suc-le-suc h)

-- k elements from place a, as many of them as there are
pub part_ends : (a k from to : ℕ) (l : List ℕ) → from ≡ min a (length l) → to ≡ min (a + k) (length l) → take (to - from) (drop from l) ≡ take k (drop a l)
part_ends a k from to l f t =
    by_less a (length l)
    (λ h.
    let at : from ≡ a = omega arith in
    by_less (length l) (a + k)
    (λ q.
    ap (λ (x : ℕ). take (to - x) (drop x l)) at ∙ take_all (to - a) (drop a l) (omega (arith, length-drop a l))
    ∙ sym (take_all k (drop a l) (omega (arith, length-drop a l))))
    (λ q. let size : to - from ≡ k = omega arith in ap₂ (λ (x y : ℕ). take x (drop y l)) size at))
    (λ h.
    let past : length l ≤ from = omega arith in
    ap (take (to - from)) (drop_of_length-le l past) ∙ take-nil (to - from) ∙ sym (take-nil k)
    ∙ ap (take k) (sym (drop_of_length-le l h)))

-- all elements from place a
pub rest-ends : (a to : ℕ) (l : List ℕ) → to ≡ min a (length l) → take (length l - to) (drop to l) ≡ drop a l
rest-ends a to l t =
    take_all (length l - to) (drop to l) (omega (arith, length-drop to l))
    ∙ by_less a (length l) (λ h. let at : to ≡ a = omega arith in ap (λ (x : ℕ). drop x l) at)
    (λ h. let past : length l ≤ to = omega arith in drop_of_length-le l past ∙ sym (drop_of_length-le l h))

-- stores into the part of a list from a on
set-append-add : (xs ys : List ℕ) (n v : ℕ) → set (xs ++ ys) (length xs + n) v ≡ xs ++ set ys n v
set-append-add [] ys n v = ap (λ (k : ℕ). set ys k v) (zero-add n)
set-append-add (x ∷ xs) ys n v =
    ap (λ (k : ℕ). set (x ∷ (xs ++ ys)) k v) (suc-add (length xs) n) ∙ ap (λ (l : List ℕ). x ∷ l) (set-append-add xs ys n v)

set_part : (a k n v : ℕ) (l ys : List ℕ) → a ≤ length l → n < length ys → put_mid a k l (set ys n v) ≡ set (put_mid a k l ys) (a + n) v
set_part a k n v l ys h b =
    ap (λ (z : List ℕ). take a l ++ z) (sym (set-append_left ys (post_of a k l) n v b))
    ∙ sym (set-append-add (take a l) (ys ++ post_of a k l) n v)
    ∙ ap (λ (z : ℕ). set (put_mid a k l ys) (z + n) v) (length-take-le a l h)

pub puts_part : (f : ℕ → ℕ) (a n : ℕ) (l : List ℕ) → a + n ≤ length l
    → put_mid a (length l - a) l (puts_at 0 n f (mid_of a (length l - a) l)) ≡ puts_at a n f l
unfolding puts_at
puts_part f a zero l h = put_same a (length l - a) l
puts_part f a (suc n) l h =
    let k = length l - a in
    let old = mid_of a k l in
    let long = length-puts_at f 0 n old in
    let have = mid_len a (length l) l (omega arith) in
    ap (λ (z : ℕ). put_mid a k l (set (puts_at 0 n f old) z (f n))) (zero-add n)
    ∙ set_part a k n (f n) l (puts_at 0 n f old) (omega arith) (omega (arith, long, have))
    ∙ ap (λ (s : List ℕ). set s (a + n) (f n)) (puts_part f a n l (omega arith))
