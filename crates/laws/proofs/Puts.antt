-- Laws of `puts` and `puts_at`: stores one after another into a list of any length, as a loop over an array makes them.
-- Assumes nothing.
use mathlib.Core.Path.{◌≡◌, refl, sym, ◌∙◌, ap, ap₂}
use mathlib.Core.List.{List, [], ◌∷◌, ◌++◌, append-nil}
use Prim.Native.Nat.{ℕ, zero, suc, ◌+◌, ◌-◌, ◌*◌, ◌<◌, ◌≤◌, min}
use native.Mathlib.Nat.{not-suc-le-zero, add-zero, zero-add, add-suc, min-eq_left, min-eq_right}
use native.Mathlib.Numerals.{add-one}
use native.Mathlib.Omega.{arith}
use lib.ListN.{length, get_or, set, drop, length-set, replicate, length-replicate, get_or-replicate}
use lib.Seq.{set_out, drop-length, get_or-set_same, get_or-set_other, set-get_or, sets, ext_get_or}
use Rattle.laws.specs.Lists.{tab, rect, filled, written, puts, puts_at}
use Rattle.laws.proofs.Cases.{last_or_below, by_less}
use Rattle.laws.proofs.Lists.{length-tab, length-rect, tab_ext, tab_of}
use Rattle.laws.proofs.Filled.{filled_more, written-sets}

module _ {A : Type 0} (f : ℕ → A) where
  pub puts_none : (l : List A) → puts 0 f l ≡ l
  unfolding puts
  puts_none l = refl

  -- one store more
  pub puts-next : (n : ℕ) (l s : List A) (v : A) → s ≡ puts n f l → v ≡ f n → set s n v ≡ puts (n + 1) f l
  unfolding puts puts_at
  puts-next n l s v p q = rw (p, q, add-one n) refl

  pub length-puts : (n : ℕ) (l : List A) → length (puts n f l) ≡ length l
  unfolding puts puts_at
  length-puts zero l = refl
  length-puts (suc n) l = length-set (puts n f l) n (f n) ∙ length-puts n l

  -- stores past the end
  pub puts_past : (n c : ℕ) (l : List A) → length l ≤ n → puts (n + c) f l ≡ puts n f l
  unfolding puts
  puts_past n zero l h = ap (λ (k : ℕ). puts k f l) (add-zero n)
  puts_past n (suc c) l h =
      ap (λ (k : ℕ). puts k f l) (add-suc n c) ∙ set_out (puts (n + c) f l) (n + c) (f (n + c)) (omega (arith, length-puts (n + c) l)) ∙ puts_past n c l h

  -- as many as there is room for
  pub puts-room : (n : ℕ) (l : List A) → puts (min n (length l)) f l ≡ puts n f l
  puts-room n l =
      by_less (length l) n
      (λ h.
      let more : length l + (n - length l) ≡ n = omega arith in
      ap (λ (k : ℕ). puts k f l) (min-eq_right (omega arith)) ∙ sym (puts_past (length l) (n - length l) l (omega arith)) ∙ ap (λ (k : ℕ). puts k f l) more)
      (λ h. ap (λ (k : ℕ). puts k f l) (min-eq_left h))

  -- two stores more, where they come in pairs
  pub puts-pair : (i : ℕ) (l s : List A) (x y : A) → s ≡ puts (i * 2) f l → x ≡ f (i * 2) → y ≡ f (i * 2 + 1)
      → set (set s (i * 2) x) (i * 2 + 1) y ≡ puts ((i + 1) * 2) f l
  puts-pair i l s x y e p q =
      let n : i * 2 + 1 + 1 ≡ (i + 1) * 2 = omega arith in
      puts-next (i * 2 + 1) l (set s (i * 2) x) y (puts-next (i * 2) l s x e p) q ∙ ap (λ (k : ℕ). puts k f l) n

  -- what is stored, and what is not stored to
  pub get_or-puts : (n : ℕ) (l : List A) (d : A) (i : ℕ) → i < n → i < length l → get_or (puts n f l) i d ≡ f i
  unfolding puts puts_at
  get_or-puts zero l d i h b = absurd (not-suc-le-zero h)
  get_or-puts (suc n) l d i h b =
      last_or_below i n h
      (λ e.
      let b' : n < length (puts n f l) = omega (arith, length-puts n l) in
      ap (λ (k : ℕ). get_or (puts (suc n) f l) k d) e ∙ get_or-set_same (puts n f l) n (f n) d b' ∙ ap f (sym e))
      (λ k. get_or-set_other (puts n f l) n i (f n) d (λ e. absurd (omega arith)) ∙ get_or-puts n l d i k b)

  pub get_or_unput : (n : ℕ) (l : List A) (d : A) (i : ℕ) → n ≤ i → get_or (puts n f l) i d ≡ get_or l i d
  unfolding puts puts_at
  get_or_unput zero l d i h = refl
  get_or_unput (suc n) l d i h = get_or-set_other (puts n f l) n i (f n) d (λ e. absurd (omega arith)) ∙ get_or_unput n l d i (omega arith)

  -- the element that is stored to next is as it was
  pub get_or-next : (n : ℕ) (l s : List A) (d : A) → s ≡ puts n f l → get_or s n d ≡ get_or l n d
  get_or-next n l s d e = ap (λ (x : List A). get_or x n d) e ∙ get_or_unput n l d n (omega arith)

  -- a list long enough
  pub puts-filled : (n : ℕ) (l : List A) → n ≤ length l → puts n f l ≡ filled n f l
  unfolding puts puts_at
  puts-filled zero l h = refl
  puts-filled (suc n) l h =
      ap (λ (s : List A). set s n (f n)) (puts-filled n l (omega arith)) ∙ filled_more f n l (f n) refl h ∙ ap (λ (k : ℕ). filled k f l) (add-one n)

  -- as many stores as there are places
  pub puts_whole : (n : ℕ) (l : List A) → length l ≡ n → puts n f l ≡ tab n f
  puts_whole n l e =
      let none : drop n l ≡ [] = ap (λ (k : ℕ). drop k l) (sym e) ∙ drop-length l in
      puts-filled n l (omega (arith, e)) ∙ ap (λ (k : List A). tab n f ++ k) none ∙ append-nil (tab n f)

  -- a run of stores more; a run that is left as it was
  pub puts-run : (n c : ℕ) (l : List A) (g : ℕ → A) → ((i : ℕ) → i < c → g i ≡ f (n + i)) → puts_at n c g (puts n f l) ≡ puts (n + c) f l
  unfolding puts puts_at
  puts-run n zero l g h = ap (λ (k : ℕ). puts k f l) (sym (add-zero n))
  puts-run n (suc c) l g h =
      let e : n + suc c ≡ n + c + 1 = omega arith in
      puts-next (n + c) l (puts_at n c g (puts n f l)) (g c) (puts-run n c l g (λ i p. h i (omega arith))) (h c (omega arith)) ∙ ap (λ (k : ℕ). puts k f l) (sym e)

  pub puts-kept : (n c : ℕ) (l : List A) (d : A) → ((i : ℕ) → i < c → get_or l (n + i) d ≡ f (n + i)) → puts n f l ≡ puts (n + c) f l
  unfolding puts puts_at
  puts-kept n zero l d h = ap (λ (k : ℕ). puts k f l) (sym (add-zero n))
  puts-kept n (suc c) l d h =
      let e : n + suc c ≡ n + c + 1 = omega arith in
      let v : get_or (puts (n + c) f l) (n + c) d ≡ f (n + c) = get_or_unput (n + c) l d (n + c) (omega arith) ∙ h c (omega arith) in
      puts-kept n c l d (λ i p. h i (omega arith)) ∙ sym (set-get_or (puts (n + c) f l) (n + c) d)
      ∙ puts-next (n + c) l (puts (n + c) f l) (get_or (puts (n + c) f l) (n + c) d) refl v ∙ ap (λ (k : ℕ). puts k f l) (sym e)

-- stores over stores
pub puts_over : {A : Type 0} (f g h : ℕ → A) (n : ℕ) (l : List A) (d : A) → ((i : ℕ) → i < n → i < length l → g i ≡ h i) → puts n g (puts n f l) ≡ puts n h l
puts_over f g h n l d e =
    let long : length (puts n g (puts n f l)) ≡ length l = length-puts g n (puts n f l) ∙ length-puts f n l in
    ext_get_or d (puts n g (puts n f l)) (puts n h l) (long ∙ sym (length-puts h n l))
    (λ i p.
    let b : i < length l = omega arith in
    by_less i n
    (λ k. get_or-puts g n (puts n f l) d i k (omega (arith, length-puts f n l)) ∙ e i k b ∙ sym (get_or-puts h n l d i k b))
    (λ k. get_or_unput g n (puts n f l) d i k ∙ get_or_unput f n l d i k ∙ sym (get_or_unput h n l d i k)))

-- stores of what stands there
pub puts-same : {A : Type 0} (f : ℕ → A) (n : ℕ) (l : List A) (d : A) → ((i : ℕ) → i < n → get_or l i d ≡ f i) → l ≡ puts n f l
puts-same f n l d h =
    let z : (i : ℕ) → 0 + i ≡ i = λ i. omega arith in
    sym (puts_none f l) ∙ puts-kept f 0 n l d (λ i p. ap (λ (k : ℕ). get_or l k d) (z i) ∙ h i p ∙ ap f (sym (z i))) ∙ ap (λ (k : ℕ). puts k f l) (z n)

-- two functions that agree below n
pub puts_ext : {A : Type 0} (f g : ℕ → A) (n : ℕ) (l : List A) → ((i : ℕ) → i < n → f i ≡ g i) → puts n f l ≡ puts n g l
unfolding puts puts_at
puts_ext f g zero l h = refl
puts_ext f g (suc n) l h = ap₂ (λ (s : List _) (v : _). set s n v) (puts_ext f g n l (λ i p. h i (omega arith))) (h n (omega arith))

-- stores from place b on
module _ {A : Type 0} (f : ℕ → A) (b : ℕ) where
  pub puts_at-none : (l : List A) → puts_at b 0 f l ≡ l
  unfolding puts_at
  puts_at-none l = refl

  pub puts_at-next : (n : ℕ) (l s : List A) (v : A) → s ≡ puts_at b n f l → v ≡ f n → set s (b + n) v ≡ puts_at b (n + 1) f l
  unfolding puts puts_at
  puts_at-next n l s v p q = rw (p, q, add-one n) refl

  pub get_or_unput_at : (n : ℕ) (l : List A) (d : A) (i : ℕ) → b + n ≤ i → get_or (puts_at b n f l) i d ≡ get_or l i d
  unfolding puts puts_at
  get_or_unput_at zero l d i h = refl
  get_or_unput_at (suc n) l d i h =
      get_or-set_other (puts_at b n f l) (b + n) i (f n) d (λ e. absurd (omega arith)) ∙ get_or_unput_at n l d i (omega arith)

  pub length-puts_at : (n : ℕ) (l : List A) → length (puts_at b n f l) ≡ length l
  unfolding puts puts_at
  length-puts_at zero l = refl
  length-puts_at (suc n) l = length-set (puts_at b n f l) (b + n) (f n) ∙ length-puts_at n l

  pub get_or_before_at : (n : ℕ) (l : List A) (d : A) (i : ℕ) → i < b → get_or (puts_at b n f l) i d ≡ get_or l i d
  unfolding puts puts_at
  get_or_before_at zero l d i h = refl
  get_or_before_at (suc n) l d i h =
      get_or-set_other (puts_at b n f l) (b + n) i (f n) d (λ e. absurd (omega arith)) ∙ get_or_before_at n l d i h

  pub get_or-puts_at : (n : ℕ) (l : List A) (d : A) (i : ℕ) → i < n → b + i < length l → get_or (puts_at b n f l) (b + i) d ≡ f i
  unfolding puts puts_at
  get_or-puts_at zero l d i h k = absurd (not-suc-le-zero h)
  get_or-puts_at (suc n) l d i h k =
      last_or_below i n h
      (λ e.
      let k' : b + n < length (puts_at b n f l) = omega (arith, length-puts_at n l) in
      ap (λ (j : ℕ). get_or (puts_at b (suc n) f l) (b + j) d) e ∙ get_or-set_same (puts_at b n f l) (b + n) (f n) d k' ∙ ap f (sym e))
      (λ m. get_or-set_other (puts_at b n f l) (b + n) (b + i) (f n) d (λ e. absurd (omega arith)) ∙ get_or-puts_at n l d i m k)

-- a run of stores more
pub puts_at-run : (f g : ℕ → ℕ) (b n c : ℕ) (l s : List ℕ) → s ≡ puts_at b n f l → ((i : ℕ) → i < c → g i ≡ f (n + i))
    → puts_at (b + n) c g s ≡ puts_at b (n + c) f l
unfolding puts_at
puts_at-run f g b n zero l s e h = e ∙ ap (λ (k : ℕ). puts_at b k f l) (sym (add-zero n))
puts_at-run f g b n (suc c) l s e h =
    let at : b + n + c ≡ b + (n + c) = omega arith in
    let more : n + c + 1 ≡ n + suc c = omega arith in
    ap (λ (k : ℕ). set (puts_at (b + n) c g s) k (g c)) at
    ∙ puts_at-next f b (n + c) l (puts_at (b + n) c g s) (g c) (puts_at-run f g b n c l s e (λ i p. h i (omega arith))) (h c (omega arith))
    ∙ ap (λ (k : ℕ). puts_at b k f l) more

-- `lib.Seq.sets` in two parts, and of elements given by a function; lines of a rectangle
pub sets-append : {A : Type 0} (a b l : List A) (i : ℕ) → sets l i (a ++ b) ≡ sets (sets l i a) (i + length a) b
sets-append [] b l i = ap (λ (k : ℕ). sets l k b) (sym (add-zero i))
sets-append (x ∷ a) b l i =
    let e : suc i + length a ≡ i + suc (length a) = omega arith in
    sets-append a b (set l i x) (suc i) ∙ ap (λ (k : ℕ). sets (sets (set l i x) (suc i) a) k b) e

pub puts_at-sets : {A : Type 0} (f : ℕ → A) (b n : ℕ) (l : List A) → puts_at b n f l ≡ sets l b (tab n f)
unfolding puts puts_at
puts_at-sets f b zero l = refl
puts_at-sets f b (suc n) l =
    ap₂ (λ (s : List _) (k : ℕ). set s (b + k) (f n)) (puts_at-sets f b n l) (sym (length-tab f n)) ∙ sym (sets-append (tab n f) (f n ∷ []) l b)

pub puts-sets : (f : ℕ → ℕ) (n : ℕ) (l : List ℕ) → puts n f l ≡ sets l 0 (tab n f)
puts-sets f n l =
    ap (λ (k : ℕ). puts k f l) (sym (zero-add n)) ∙ sym (puts-run f 0 n l f (λ i h. ap f (sym (zero-add i))))
    ∙ ap (λ (s : List ℕ). puts_at 0 n f s) (puts_none f l) ∙ puts_at-sets f 0 n l

pub puts_at_ext : (f g : ℕ → ℕ) (b n : ℕ) (l : List ℕ) → ((i : ℕ) → i < n → f i ≡ g i) → puts_at b n f l ≡ puts_at b n g l
puts_at_ext f g b n l h = puts_at-sets f b n l ∙ ap (sets l b) (tab_ext f g n h) ∙ sym (puts_at-sets g b n l)

pub puts_at-rect : {A : Type 0} (F : ℕ → ℕ → A) (c m : ℕ) (l s : List A) → s ≡ sets l 0 (rect m c F) → puts_at (m * c) c (F m) s ≡ sets l 0 (rect (m + 1) c F)
unfolding puts puts_at
puts_at-rect F c m l s e =
    let at : 0 + length (rect m c F) ≡ m * c = omega (arith, length-rect c F m) in
    puts_at-sets (F m) (m * c) c s ∙ ap₂ (λ (k : ℕ) (x : List _). sets x k (tab c (F m))) (sym at) e ∙ sym (sets-append (rect m c F) (tab c (F m)) l 0)
    ∙ ap (λ (k : ℕ). sets l 0 (rect k c F)) (sym (add-one m))

-- arrays of any size that hold zeros before anything is stored
pub stored : (size n : ℕ) (f : ℕ → ℕ) (i : ℕ) → n ≤ size → i < n → get_or (puts n f (replicate size 0)) i 0 ≡ f i
stored size n f i h l = get_or-puts f n (replicate size 0) 0 i l (omega (arith, length-replicate {A = ℕ} size 0))

pub stored_over : (size : ℕ) (g : ℕ → ℕ → ℕ) (i : ℕ) → i < size
    → get_or (puts size (λ k. g (get_or (replicate size 0) k 0) k) (replicate size 0)) i 0 ≡ g 0 i
stored_over size g i h =
    stored size size (λ k. g (get_or (replicate size 0) k 0) k) i (omega arith) h ∙ ap (λ (a : ℕ). g a i) (get_or-replicate size i 0 0 h)

-- one element more after what is stored
pub sets-snoc : (l a : List ℕ) (n v : ℕ) → n ≡ length a → set (sets l 0 a) n v ≡ sets l 0 (a ++ (v ∷ []))
sets-snoc l a n v e =
    let z : 0 + length a ≡ n = omega arith in
    ap (λ (k : ℕ). set (sets l 0 a) k v) (sym z) ∙ sym (sets-append a (v ∷ []) l 0)

-- one store; the stores of two halves
pub puts_one : (f : ℕ → ℕ) (n x v : ℕ) (l : List ℕ) → n ≡ 1 → v ≡ f 0 → set l x v ≡ puts_at x n f l
unfolding puts_at
puts_one f n x v l en ev = ap₂ (λ (k u : ℕ). set l k u) (sym (add-zero x)) ev ∙ ap (λ (k : ℕ). puts_at x k f l) (sym en)

pub puts_halves : (f g h : ℕ → ℕ) (x half size : ℕ) (l s s' : List ℕ) → half + half ≡ size → s ≡ puts_at x half f l → s' ≡ puts_at (x + half) half g s
    → ((i : ℕ) → i < half → f i ≡ h i) → ((i : ℕ) → i < half → g i ≡ h (half + i)) → s' ≡ puts_at x size h l
puts_halves f g h x half size l s s' e es es' first second =
    es' ∙ puts_at-run h g x half half l s (es ∙ puts_at_ext f h x half l first) second ∙ ap (λ (k : ℕ). puts_at x k h l) e

-- all elements of a list stored one after another: from place i on, and at the front
pub copied_at : (l : List ℕ) (i : ℕ) (vs : List ℕ) → i + length vs ≤ length l → puts_at i (length vs) (λ k. get_or vs k 0) l ≡ written l i vs
copied_at l i vs h = puts_at-sets (λ k. get_or vs k 0) i (length vs) l ∙ ap (sets l i) (tab_of 0 vs) ∙ sym (written-sets l i vs h)

pub copied : (vs l : List ℕ) → length vs ≤ length l → puts (length vs) (λ i. get_or vs i 0) l ≡ written l 0 vs
copied vs l fits =
    puts-sets (λ i. get_or vs i 0) (length vs) l ∙ ap (sets l 0) (tab_of 0 vs) ∙ sym (written-sets l 0 vs (omega (arith, fits)))
