-- A merge keeps what the order rules out: a line that does not depend on its lowest inputs does not depend on them after the merge.
-- Assumes nothing.
use mathlib.Core.Path.{◌≡◌, sym, ◌∙◌, ap, ap₂}
use mathlib.Core.Bool.{Bool, cond, ◌&&◌}
use mathlib.Core.List.{List}
use Prim.Native.Nat.{ℕ, ◌+◌, ◌-◌, ◌*◌, ◌/◌, ◌%◌, ◌^◌, ◌<◌, ◌≤◌}
use native.Mathlib.Nat.{div-add-mod', div-mul-le_self, mod-lt, mul-add-div_right, mul_assoc, add-mul}
use native.Mathlib.Omega.{arith}
use lib.Dec.{eqb}
use lib.ListN.{length, get_or}
use lib.Pow.{pow_pos, pow-add, shr_lt}
use Rattle.laws.proofs.Powers.{place_below}
use Rattle.laws.proofs.Cases.{by_less}
use Rattle.laws.proofs.Tests.{any_ext}
use Rattle.sheet_spec.specs.Values.{free}
use Rattle.reduction_spec.specs.Columns.{entry, number_in, firsts}
use Rattle.reduction_spec.specs.Cover.{cover}
use Rattle.reduction_spec.specs.Merge.{holds, product, graph, merge}
use Rattle.reduction_spec.proofs.ColumnNumbers.{first_below}
use Rattle.reduction_spec.proofs.OneMerge.{merge-upper, merge-entry}

-- x with its c lowest bits cleared
abbrev cleared : ℕ → ℕ → ℕ
cleared c x = x / 2 ^ c * 2 ^ c

-- the value on line k does not depend on the `below k` lowest inputs
abbrev pub Ruled : (n m : ℕ) (below : ℕ → ℕ) (f : List ℕ) → Type 0
Ruled n m below f =
    (k x : ℕ) → k < m → x < 2 ^ n → get_or f (k * 2 ^ n + x) 0 ≡ get_or f (k * 2 ^ n + x / 2 ^ below k * 2 ^ below k) 0

-- clearing bits below a keeps the prefix
cleared_prefix : (a c p y : ℕ) → c ≤ a → cleared c (p * 2 ^ a + y) ≡ p * 2 ^ a + cleared c y
cleared_prefix a c p y h =
    let r = p * 2 ^ (a - c) in
    let e : a - c + c ≡ a = omega arith in
    let split : p * 2 ^ a ≡ r * 2 ^ c =
    ap (λ (i : ℕ). p * 2 ^ i) (sym e) ∙ ap (λ (z : ℕ). p * z) (pow-add 2 (a - c) c) ∙ sym (mul_assoc p (2 ^ (a - c)) (2 ^ c)) in
    ap (λ (z : ℕ). cleared c (z + y)) split ∙ ap (λ (q : ℕ). q * 2 ^ c) (mul-add-div_right (pow_pos c) r y) ∙ add-mul r (y / 2 ^ c) (2 ^ c)
    ∙ ap (λ (z : ℕ). z + cleared c y) (sym split)

module _ (n m a b : ℕ) (f : List ℕ) (below : ℕ → ℕ) (ha : a ≤ n) (hb : b ≤ m) (low : (k : ℕ) → k < b → below k ≤ a) (r : Ruled n m below f) where
  abbrev ps : List ℕ
  ps = firsts n a b f

  abbrev owner : List ℕ
  owner = cover (length ps) (graph n a b f ps)

  entry_ruled : (p k y : ℕ) → p < 2 ^ (n - a) → k < b → y < 2 ^ a → entry n a f p k y ≡ entry n a f p k (cleared (below k) y)
  entry_ruled p k y hp hk hy =
      r k (p * 2 ^ a + y) (omega arith) (place_below n a p y ha hp hy)
      ∙ ap (λ (x : ℕ). get_or f (k * 2 ^ n + x) 0) (cleared_prefix a (below k) p y (low k hk))

  holds_ruled : (v g k y : ℕ) → k < b → y < 2 ^ a → holds n a b f ps owner v g k y ≡ holds n a b f ps owner v g k (cleared (below k) y)
  unfolding holds
  holds_ruled v g k y hk hy =
      any_ext (λ c. eqb (get_or owner c 0) g && eqb (entry n a f (get_or ps c 0) k y) v)
      (λ c. eqb (get_or owner c 0) g && eqb (entry n a f (get_or ps c 0) k (cleared (below k) y)) v) (length ps)
      (λ c l. ap (λ (z : ℕ). eqb (get_or owner c 0) g && eqb z v) (entry_ruled (get_or ps c 0) k y (first_below n a b f c l) hk hy))

  product_ruled : (g k y : ℕ) → k < b → y < 2 ^ a → product n a b f ps owner g k y ≡ product n a b f ps owner g k (cleared (below k) y)
  unfolding product
  product_ruled g k y hk hy = ap₂ (λ (s t : Bool). cond s 0 (cond t 1 free)) (holds_ruled 0 g k y hk hy) (holds_ruled 1 g k y hk hy)

  lower_ruled : (p k y : ℕ) → p < 2 ^ (n - a) → k < b → y < 2 ^ a
      → entry n a (merge n m a b f) p k y ≡ entry n a (merge n m a b f) p k (cleared (below k) y)
  lower_ruled p k y hp hk hy =
      merge-entry n a b f m ha hb p k y hp hk hy ∙ product_ruled (get_or owner (number_in n a b f ps p) 0) k y hk hy
      ∙ sym (merge-entry n a b f m ha hb p k (cleared (below k) y) hp hk (omega (arith, div-mul-le_self y (2 ^ below k))))

  line_ruled : (k x : ℕ) → k < m → x < 2 ^ n → get_or (merge n m a b f) (k * 2 ^ n + x) 0 ≡ get_or (merge n m a b f) (k * 2 ^ n + cleared (below k) x) 0
  line_ruled k x hk hx =
      by_less k b
      (λ l.
      let p = x / 2 ^ a in
      let y = x % 2 ^ a in
      let e : p * 2 ^ a + y ≡ x = div-add-mod' x (2 ^ a) in
      let w : n - a + a ≡ n = omega arith in
      let hp : p < 2 ^ (n - a) = shr_lt (n - a) a (rw w hx) in
      let at : ℕ → ℕ = λ z. get_or (merge n m a b f) (k * 2 ^ n + z) 0 in
      ap at (sym e) ∙ lower_ruled p k y hp l (mod-lt x (pow_pos a))
      ∙ ap at (sym (cleared_prefix a (below k) p y (low k l)) ∙ ap (cleared (below k)) e))
      (λ l.
      merge-upper n a b f m k x hk hx l ∙ r k x hk hx
      ∙ sym (merge-upper n a b f m k (cleared (below k) x) hk (omega (arith, div-mul-le_self x (2 ^ below k))) l))

pub merge_ruled : (n m a b : ℕ) (f : List ℕ) (below : ℕ → ℕ) → a ≤ n → b ≤ m → ((k : ℕ) → k < b → below k ≤ a) → Ruled n m below f
    → Ruled n m below (merge n m a b f)
merge_ruled n m a b f below ha hb low r = line_ruled n m a b f below ha hb low r
