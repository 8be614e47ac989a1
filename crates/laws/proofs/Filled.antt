-- Laws of `filled` and `written`: a slice stored into from its front, and a part of it written over.
-- Assumes nothing.
use mathlib.Core.Path.{◌≡◌, refl, sym, ◌∙◌, ap, ap₂}
use mathlib.Core.List.{List, [], ◌∷◌, ◌++◌, append-nil, append_assoc}
use Prim.Native.Nat.{ℕ, zero, suc, ◌+◌, ◌<◌, ◌≤◌}
use native.Mathlib.Nat.{add-zero, zero-add}
use native.Mathlib.Numerals.{add-one}
use native.Mathlib.Omega.{arith}
use lib.ListN.{length, get_or, set, take, drop, replicate, length-replicate, length-append, length-take, length-drop, get_or-append, take-append-drop}
use lib.Seq.{drop-cons, set_at, append_snoc, get_or-append-add, get_or-drop, get_or-take, set-get_or, sets, sets-eq, take_at, drop_at, drop-drop}
use Rattle.laws.specs.Lists.{tab, filled, written}
use Rattle.laws.proofs.Lists.{length-tab, get_or-tab, tab-next}

module _ {A : Type 0} (f : ℕ → A) where
  pub filled_none : (l : List A) → filled 0 f l ≡ l
  filled_none l = refl

  -- one store more
  pub filled_more : (n : ℕ) (l : List A) (v : A) → v ≡ f n → n < length l → set (filled n f l) n v ≡ filled (n + 1) f l
  filled_more n l v e h =
      rw (add-one, e, drop-cons l n (f n) h, set_at (tab n f) (get_or l n (f n)) (drop (suc n) l) (f n) n (length-tab f n)) (sym (append_snoc (tab n f) (f n) (drop (suc n) l)))

  pub length-filled : (n : ℕ) (l : List A) → n ≤ length l → length (filled n f l) ≡ length l
  length-filled n l h = simp (length-append, length-tab, length-drop) (omega arith)

  pub get_or-filled : (n : ℕ) (l : List A) (d : A) (i : ℕ) → i < n → get_or (filled n f l) i d ≡ f i
  get_or-filled n l d i h =
      let k : i < length (tab n f) = rw (length-tab f n) h in
      get_or-append (tab n f) (drop n l) d i k ∙ get_or-tab f d n i h

  -- what is not stored to yet is as it was
  pub get_or_unfilled : (n : ℕ) (l : List A) (d : A) (i : ℕ) → get_or (filled n f l) (n + i) d ≡ get_or l (n + i) d
  get_or_unfilled n l d i =
      let e : n + i ≡ length (tab n f) + i = omega (arith, length-tab f n) in
      ap (λ (k : ℕ). get_or (filled n f l) k d) e ∙ get_or-append-add (tab n f) (drop n l) i d ∙ get_or-drop n l i d

  pub get_or-filled-next : (n : ℕ) (l : List A) (d : A) → get_or (filled n f l) n d ≡ get_or l n d
  get_or-filled-next n l d =
      ap (λ (k : ℕ). get_or (filled n f l) k d) (sym (add-zero n)) ∙ get_or_unfilled n l d 0 ∙ ap (λ (k : ℕ). get_or l k d) (add-zero n)

  -- a turn that stores nothing, where the old element is the one to be stored
  pub filled-kept : (n : ℕ) (l : List A) (d : A) → get_or l n d ≡ f n → n < length l → filled n f l ≡ filled (n + 1) f l
  filled-kept n l d e h = sym (set-get_or (filled n f l) n d) ∙ filled_more n l (get_or (filled n f l) n d) (get_or-filled-next n l d ∙ e) h

-- a list stored at the front of another, and taken from there
pub written_front : {A : Type 0} (vs l : List A) → take (length vs) (written l 0 vs) ≡ vs
written_front vs l = take_at vs (drop (0 + length vs) l) (length vs) refl

-- `written` is `lib.Seq.sets` where the part lies within the list
pub written-sets : {A : Type 0} (l : List A) (i : ℕ) (vs : List A) → i + length vs ≤ length l → written l i vs ≡ sets l i vs
written-sets l i vs h = sym (sets-eq vs l i h)

module _ {A : Type 0} (l : List A) (i : ℕ) (vs : List A) (fits : i + length vs ≤ length l) where
  length_head : length (take i l) ≡ i
  length_head = simp length-take (omega arith)

  pub length-written : length (written l i vs) ≡ length l
  length-written = simp (length-append, length-take, length-drop) (omega arith)

  pub take-written : take i (written l i vs) ≡ take i l
  take-written = rw append_assoc (take_at (take i l) (vs ++ drop (i + length vs) l) i length_head)

  pub drop-written : drop i (written l i vs) ≡ vs ++ drop (i + length vs) l
  drop-written = rw append_assoc (drop_at (take i l) (vs ++ drop (i + length vs) l) i length_head)

  -- an element of what was written, before it, after it
  pub get_or-written : (d : A) (k : ℕ) → k < length vs → get_or (written l i vs) (i + k) d ≡ get_or vs k d
  get_or-written d k h =
      sym (get_or-drop i (written l i vs) k d) ∙ ap (λ (s : List A). get_or s k d) drop-written
      ∙ get_or-append vs (drop (i + length vs) l) d k h

  pub get_or_before : (d : A) (k : ℕ) → k < i → get_or (written l i vs) k d ≡ get_or l k d
  get_or_before d k h =
      sym (get_or-take i (written l i vs) k d h) ∙ ap (λ (s : List A). get_or s k d) take-written ∙ get_or-take i l k d h

  pub get_or_after : (d : A) (k : ℕ) → get_or (written l i vs) (i + length vs + k) d ≡ get_or l (i + length vs + k) d
  get_or_after d k =
      let e : length (take i l ++ vs) ≡ i + length vs = simp (length-append, length-take) (omega arith) in
      ap (λ (n : ℕ). get_or (written l i vs) (n + k) d) (sym e) ∙ get_or-append-add (take i l ++ vs) (drop (i + length vs) l) k d
      ∙ get_or-drop (i + length vs) l k d

-- nothing written
pub written_none : {A : Type 0} (l : List A) (i : ℕ) → written l i [] ≡ l
written_none l i = rw append-nil (ap (λ (k : ℕ). take i l ++ drop k l) (add-zero i) ∙ take-append-drop i l)

-- what is written ends where what is written next begins
pub written_next : {A : Type 0} (l : List A) (i : ℕ) (a b : List A) → i + length a ≤ length l → written (written l i a) (i + length a) b ≡ written l i (a ++ b)
written_next l i a b h =
    let head : length (take i l ++ a) ≡ i + length a = simp (length-append, length-take) (omega arith) in
    let front : take (i + length a) (written l i a) ≡ take i l ++ a = take_at (take i l ++ a) (drop (i + length a) l) (i + length a) head in
    let total : i + length a + length b ≡ i + length (a ++ b) = simp length-append (omega arith) in
    let back : drop (i + length a + length b) (written l i a) ≡ drop (i + length (a ++ b)) l =
    sym (drop-drop (length b) (i + length a) (written l i a))
    ∙ ap (λ (s : List _). drop (length b) s) (drop_at (take i l ++ a) (drop (i + length a) l) (i + length a) head)
    ∙ drop-drop (length b) (i + length a) l
    ∙ ap (λ (k : ℕ). drop k l) total in
    ap₂ (λ (p q : List _). p ++ b ++ q) front back ∙ ap (λ (p : List _). p ++ drop (i + length (a ++ b)) l) (append_assoc (take i l) a b)

-- one element more of what is written from place b on
pub written_more : {A : Type 0} (g : ℕ → A) (l : List A) (b i : ℕ) (v : A) → v ≡ g i → b + i < length l
    → set (written l b (tab i g)) (b + i) v ≡ written l b (tab (i + 1) g)
written_more g l b i v e h =
    let n : b + length (tab i g) ≡ b + i = ap (λ (k : ℕ). b + k) (length-tab g i) in
    let head : length (take b l ++ tab i g) ≡ b + i = simp (length-append, length-take, length-tab) (omega arith) in
    let cut : drop (b + length (tab i g)) l ≡ get_or l (b + i) v ∷ drop (suc (b + i)) l = ap (λ (k : ℕ). drop k l) n ∙ drop-cons l (b + i) v h in
    let last : suc (b + i) ≡ b + length (tab (i + 1) g) = simp length-tab (omega arith) in
    ap (λ (s : List _). set (take b l ++ tab i g ++ s) (b + i) v) cut
    ∙ set_at (take b l ++ tab i g) (get_or l (b + i) v) (drop (suc (b + i)) l) v (b + i) head
    ∙ sym (append_snoc (take b l ++ tab i g) v (drop (suc (b + i)) l))
    ∙ ap₂ (λ (p q : List _). p ++ q) (append_assoc (take b l) (tab i g) (v ∷ []) ∙ ap (λ (p : List _). take b l ++ p) (ap (λ (x : _). tab i g ++ (x ∷ [])) e ∙ sym (tab-next g i))) (ap (λ (k : ℕ). drop k l) last)

-- a run of stores after those from the front; a run that is left as it was
module _ {A : Type 0} (f : ℕ → A) where
  pub filled-run : (n c : ℕ) (l : List A) (g : ℕ → A) → ((i : ℕ) → i < c → g i ≡ f (n + i)) → n + c ≤ length l
      → written (filled n f l) n (tab c g) ≡ filled (n + c) f l
  filled-run n zero l g h b = written_none (filled n f l) n ∙ ap (λ (k : ℕ). filled k f l) (sym (add-zero n))
  filled-run n (suc c) l g h b =
      let e : n + suc c ≡ n + c + 1 = omega arith in
      let m : n + c < length (filled n f l) = omega (arith, length-filled f n l (omega arith)) in
      ap (λ (k : ℕ). written (filled n f l) n (tab k g)) (sym (add-one c))
      ∙ sym (written_more g (filled n f l) n c (g c) refl m)
      ∙ ap (λ (s : List A). set s (n + c) (g c)) (filled-run n c l g (λ i p. h i (omega arith)) (omega arith))
      ∙ filled_more f (n + c) l (g c) (h c (omega arith)) (omega arith)
      ∙ ap (λ (k : ℕ). filled k f l) (sym e)

  pub filled-kept-run : (n c : ℕ) (l : List A) (d : A) → ((i : ℕ) → i < c → get_or l (n + i) d ≡ f (n + i)) → n + c ≤ length l → filled n f l ≡ filled (n + c) f l
  filled-kept-run n zero l d h b = ap (λ (k : ℕ). filled k f l) (sym (add-zero n))
  filled-kept-run n (suc c) l d h b =
      let e : n + suc c ≡ n + c + 1 = omega arith in
      filled-kept-run n c l d (λ i p. h i (omega arith)) (omega arith)
      ∙ filled-kept f (n + c) l d (h c (omega arith)) (omega arith) ∙ ap (λ (k : ℕ). filled k f l) (sym e)

-- the element after what is written is as it was
pub get_or-written-next : {A : Type 0} (g : ℕ → A) (l : List A) (b i : ℕ) (d : A) → b + i ≤ length l → get_or (written l b (tab i g)) (b + i) d ≡ get_or l (b + i) d
get_or-written-next g l b i d h =
    let e : b + length (tab i g) + 0 ≡ b + i = omega (arith, length-tab g i) in
    ap (λ (k : ℕ). get_or (written l b (tab i g)) k d) (sym e) ∙ get_or_after l b (tab i g) (omega (arith, length-tab g i)) d 0 ∙ ap (λ (k : ℕ). get_or l k d) e

-- a list stored at the front of one that is long enough; into zeros
pub get_or_sets : (l vs : List ℕ) (i d : ℕ) → length vs ≤ length l → i < length vs → get_or (sets l 0 vs) i d ≡ get_or vs i d
get_or_sets l vs i d h b =
    let fits : 0 + length vs ≤ length l = omega arith in
    ap₂ (λ (a : List ℕ) (k : ℕ). get_or a k d) (sym (written-sets l 0 vs fits)) (sym (zero-add i)) ∙ get_or-written l 0 vs fits d i b

pub laid : (size : ℕ) (l : List ℕ) (i : ℕ) → length l ≤ size → i < length l → get_or (sets (replicate size 0) 0 l) i 0 ≡ get_or l i 0
laid size l i h b = get_or_sets (replicate size 0) l i 0 (omega (arith, length-replicate {A = ℕ} size 0)) b
