-- Laws of lists given by their elements: `tab`, `rect` and `joined`.
-- Assumes nothing.
use mathlib.Core.Path.{◌≡◌, refl, sym, ◌∙◌, ap, ap₂}
use mathlib.Core.List.{List, [], ◌∷◌, ◌++◌, append-nil, append_assoc}
use Prim.Native.Nat.{ℕ, zero, suc, ◌+◌, ◌-◌, ◌*◌, ◌<◌, ◌≤◌}
use native.Mathlib.Nat.{not-suc-le-zero, le_of_suc-le-suc, suc-mul, zero-mul, mul-le-mul_right}
use native.Mathlib.Numerals.{add-one}
use native.Mathlib.Omega.{arith}
use lib.ListN.{length, get_or, length-append, get_or-append, get_or-eq_default}
use lib.Seq.{get_or_at, get_or-append-add, ext_get_or}
use lib.Arith.{digits_lt}
use Rattle.laws.specs.Tests.{sum}
use Rattle.laws.specs.Lists.{tab, rect, joined}
use Rattle.laws.proofs.Cases.{last_or_below, by_less}

-- within a list its default does not matter
pub get_or_default : {A : Type 0} (l : List A) (i : ℕ) (d e : A) → i < length l → get_or l i d ≡ get_or l i e
get_or_default [] i d e h = absurd (not-suc-le-zero h)
get_or_default (x ∷ l) zero d e h = refl
get_or_default (x ∷ l) (suc i) d e h = get_or_default l i d e (le_of_suc-le-suc h)

-- row i of n rows of k elements lies within all of them
pub row_end : (i n k : ℕ) → i < n → i * k + k ≤ n * k
row_end i n k h = omega (arith, mul-le-mul_right k h)

module _ {A : Type 0} (f : ℕ → A) where
  pub length-tab : (n : ℕ) → length (tab n f) ≡ n
  length-tab zero = refl
  length-tab (suc n) = length-append (tab n f) (f n ∷ []) ∙ ap (λ (k : ℕ). k + 1) (length-tab n) ∙ add-one n

  pub tab-next : (i : ℕ) → tab (i + 1) f ≡ tab i f ++ (f i ∷ [])
  tab-next i = rw add-one refl

  pub get_or-tab : (d : A) (n i : ℕ) → i < n → get_or (tab n f) i d ≡ f i
  get_or-tab d zero i h = absurd (not-suc-le-zero h)
  get_or-tab d (suc n) i h =
      last_or_below i n h (λ e. get_or_at (tab n f) (f n) [] d i (length-tab n ∙ sym e) ∙ ap f (sym e))
      (λ l. get_or-append (tab n f) (f n ∷ []) d i (rw length-tab l) ∙ get_or-tab d n i l)

-- two lists given by their elements
pub tab_ext : {A : Type 0} (f g : ℕ → A) (n : ℕ) → ((i : ℕ) → i < n → f i ≡ g i) → tab n f ≡ tab n g
tab_ext f g zero h = refl
tab_ext f g (suc n) h = ap₂ (λ l a. l ++ (a ∷ [])) (tab_ext f g n (λ i p. h i (omega arith))) (h n (omega arith))

-- a list by its own elements
pub tab_of : {A : Type 0} (d : A) (l : List A) → tab (length l) (λ i. get_or l i d) ≡ l
tab_of d l =
    ext_get_or d (tab (length l) (λ i. get_or l i d)) l (length-tab (λ i. get_or l i d) (length l))
    (λ i h. get_or-tab (λ i. get_or l i d) d (length l) i (rw length-tab at h))

module _ {A : Type 0} (c : ℕ) (F : ℕ → ℕ → A) where
  pub length-rect : (m : ℕ) → length (rect m c F) ≡ m * c
  length-rect zero = sym (zero-mul c)
  length-rect (suc m) =
      length-append (rect m c F) (tab c (F m)) ∙ ap₂ (λ (a b : ℕ). a + b) (length-rect m) (length-tab (F m) c) ∙ sym (suc-mul m c)

  pub get_or-rect : (d : A) (m k x : ℕ) → k < m → x < c → get_or (rect m c F) (k * c + x) d ≡ F k x
  get_or-rect d zero k x h g = absurd (not-suc-le-zero h)
  get_or-rect d (suc m) k x h g =
      last_or_below k m h
      (λ e.
      ap (λ (i : ℕ). get_or (rect m c F ++ tab c (F m)) (i + x) d) (ap (λ (i : ℕ). i * c) e ∙ sym (length-rect m))
      ∙ get_or-append-add (rect m c F) (tab c (F m)) x d ∙ get_or-tab (F m) d c x g ∙ ap (λ (i : ℕ). F i x) (sym e))
      (λ l. get_or-append (rect m c F) (tab c (F m)) d (k * c + x) (rw length-rect (digits_lt l g)) ∙ get_or-rect d m k x l g)

-- two rectangles whose elements agree
pub rect_ext : {A : Type 0} (F G : ℕ → ℕ → A) (m c : ℕ) → ((k x : ℕ) → k < m → x < c → F k x ≡ G k x) → rect m c F ≡ rect m c G
rect_ext F G zero c h = refl
rect_ext F G (suc m) c h =
    ap₂ (λ (a b : List _). a ++ b) (rect_ext F G m c (λ k x p q. h k x (omega arith) q)) (tab_ext (F m) (G m) c (λ x q. h m x (omega arith) q))

-- what holds of each element, and of what is read past the end, holds of all that is read
module _ {A : Type 0} (P : A → Type 0) (d : A) (past : P d) where
  pub tab-each : (f : ℕ → A) → ((i : ℕ) → P (f i)) → (n i : ℕ) → P (get_or (tab n f) i d)
  tab-each f h n i =
      by_less i n (λ l. rw (get_or-tab f d n i l) (h i)) (λ l. rw (get_or-eq_default (tab n f) d {n = i} (omega (arith, length-tab f n))) past)

  pub rect-each : (F : ℕ → ℕ → A) → ((k x : ℕ) → P (F k x)) → (m c i : ℕ) → P (get_or (rect m c F) i d)
  rect-each F h zero c i = rw (get_or-eq_default {A = A} [] d {n = i} (omega arith)) past
  rect-each F h (suc m) c i =
      by_less i (length (rect m c F)) (λ l. rw (get_or-append (rect m c F) (tab c (F m)) d i l) (rect-each F h m c i))
      (λ l.
      let e : i ≡ length (rect m c F) + (i - length (rect m c F)) = omega arith in
      rw (ap (λ (k : ℕ). get_or (rect m c F ++ tab c (F m)) k d) e ∙ get_or-append-add (rect m c F) (tab c (F m)) (i - length (rect m c F)) d)
      (tab-each (F m) (h m) c (i - length (rect m c F))))

module _ {A : Type 0} (f : ℕ → List A) where
  pub length-joined : (n : ℕ) → length (joined n f) ≡ sum n (λ i. length (f i))
  length-joined zero = refl
  length-joined (suc n) = length-append (joined n f) (f n) ∙ ap (λ (k : ℕ). k + length (f n)) (length-joined n)

-- from the front
pub joined_front : {A : Type 0} (f : ℕ → List A) (n : ℕ) → joined (suc n) f ≡ f 0 ++ joined n (λ i. f (suc i))
joined_front f zero = sym (append-nil (f 0))
joined_front f (suc n) =
    ap (λ (x : List _). x ++ f (suc n)) (joined_front f n) ∙ append_assoc (f 0) (joined n (λ i. f (suc i))) (f (suc n))

-- a list by its elements, where its length is known
pub by_elements : (l : List ℕ) (n : ℕ) (f : ℕ → ℕ) → length l ≡ n → ((i : ℕ) → i < n → f i ≡ get_or l i 0) → tab n f ≡ l
by_elements l n f e h =
    tab_ext f (λ i. get_or l i 0) n h ∙ ap (λ (k : ℕ). tab k (λ i. get_or l i 0)) (sym e) ∙ tab_of 0 l
