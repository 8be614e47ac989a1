-- What a plane holds at a place after records are marked in it, in its complement, and after records are laid over it.
-- Assumes nothing.
use mathlib.Core.Path.{◌≡◌, sym, ◌∙◌, ap, ap₂}
use mathlib.Core.Bool.{Bool, not, ◌&&◌, ◌||◌, or_assoc}
use mathlib.Core.List.{List}
use Prim.Native.Nat.{ℕ, ◌%◌, ◌<◌}
use native.Mathlib.Nat.{mod-lt}
use native.Mathlib.Omega.{arith}
use lib.ListN.{length, get_or}
use lib.Bits.{bit_or, bit_xor}
use Rattle.laws.specs.Tests.{any}
use Rattle.laws.specs.Bits.{has, marks}
use Rattle.laws.proofs.Tests.{any_ext, any_or}
use Rattle.laws.proofs.Puts.{get_or-puts, length-puts, stored_over}
use Rattle.laws.proofs.Bits.{has_or}
use Rattle.laws.proofs.Masks.{has-cond, has_complement}
use Rattle.laws.proofs.Marks.{marks-has, marks_over}
use Rattle.sheet.specs.Planes.{agrees, added, high_added, low_added, high_plane, low_row, marked_plane, complemented}
use Rattle.sheet.proofs.planes.PlaceBlocks.{added_parts}

-- an output is forced at a place where a record forces it that has the place
added-has : (k v f x o : ℕ) → has (added k v f x) o ≡ (agrees k v x && has f o)
unfolding added
added-has k v f x o = has-cond (agrees k v x) f o

-- the records that have the place x and force the output o
abbrev pub forced_at : List ℕ → List ℕ → List ℕ → ℕ → ℕ → ℕ → Bool
forced_at ks vs fs c x o = any c (λ r. agrees (get_or ks r 0) (get_or vs r 0) x && has (get_or fs r 0) o)

-- the plane and the row together
parts_has : (ks vs fs : List ℕ) (c a x o : ℕ)
    → has (bit_or (marks a (high_added ks vs fs x) c) (marks 0 (low_added ks vs fs (x % 256)) c)) o ≡ (has a o || forced_at ks vs fs c x o)
unfolding high_added low_added
parts_has ks vs fs c a x o =
    let g : ℕ → ℕ = high_added ks vs fs x in
    let h : ℕ → ℕ = low_added ks vs fs (x % 256) in
    has_or (marks a g c) (marks 0 h c) o ∙ ap₂ ◌||◌ (marks_over a g c o) (marks-has h c o) ∙ or_assoc (has a o) (any c (λ r. has (g r) o)) (any c (λ r. has (h r) o))
    ∙ ap (λ (b : Bool). has a o || b)
    (any_or (λ r. has (g r) o) (λ r. has (h r) o) c
    ∙ any_ext (λ r. has (g r) o || has (h r) o) (λ r. agrees (get_or ks r 0) (get_or vs r 0) x && has (get_or fs r 0) o) c
    (λ r l.
    sym (has_or (g r) (h r) o) ∙ ap (λ (z : ℕ). has z o) (added_parts (get_or ks r 0) (get_or vs r 0) (get_or fs r 0) x)
    ∙ added-has (get_or ks r 0) (get_or vs r 0) (get_or fs r 0) x o))

module _ (ks vs fs : List ℕ) (c : ℕ) (p : List ℕ) (size : length p ≡ 4096) where
  high-length : length (high_plane ks vs fs c p) ≡ 4096
  unfolding high_plane
  high-length = length-puts (λ x. marks (get_or p x 0) (high_added ks vs fs x) c) 4096 p ∙ size

  pub marked_length : length (marked_plane ks vs fs c p) ≡ 4096
  unfolding marked_plane
  marked_length =
      length-puts (λ x. bit_or (get_or (high_plane ks vs fs c p) x 0) (get_or (low_row ks vs fs c) (x % 256) 0)) 4096 (high_plane ks vs fs c p) ∙ high-length

  pub marked_has : (x o : ℕ) → x < 4096 → has (get_or (marked_plane ks vs fs c p) x 0) o ≡ (has (get_or p x 0) o || forced_at ks vs fs c x o)
  unfolding marked_plane high_plane low_row
  marked_has x o h =
      let high : get_or (high_plane ks vs fs c p) x 0 ≡ marks (get_or p x 0) (high_added ks vs fs x) c =
      get_or-puts (λ y. marks (get_or p y 0) (high_added ks vs fs y) c) 4096 p 0 x h (omega arith) in
      let low : get_or (low_row ks vs fs c) (x % 256) 0 ≡ marks 0 (low_added ks vs fs (x % 256)) c =
      stored_over 256 (λ a i. marks a (low_added ks vs fs i) c) (x % 256) (mod-lt x (omega arith)) in
      ap (λ (z : ℕ). has z o)
      (get_or-puts (λ y. bit_or (get_or (high_plane ks vs fs c p) y 0) (get_or (low_row ks vs fs c) (y % 256) 0)) 4096 (high_plane ks vs fs c p) 0 x h (omega (arith, high-length))
      ∙ ap₂ bit_or high low)
      ∙ parts_has ks vs fs c (get_or p x 0) x o

module _ (p : List ℕ) (size : length p ≡ 4096) where
  pub complemented-length : length (complemented p) ≡ 4096
  unfolding complemented
  complemented-length = length-puts (λ x. bit_xor (get_or p x 0) 255) 4096 p ∙ size

  pub complemented-has : (x o : ℕ) → x < 4096 → o < 8 → has (get_or (complemented p) x 0) o ≡ not (has (get_or p x 0) o)
  unfolding complemented
  complemented-has x o h l =
      ap (λ (z : ℕ). has z o) (get_or-puts (λ y. bit_xor (get_or p y 0) 255) 4096 p 0 x h (omega arith)) ∙ has_complement (get_or p x 0) o l

-- an output of a plane after records are laid over it: f there before, z put in, y taken out
abbrev pub over : Bool → Bool → Bool → Bool
over f z y = not (not f || y) || z

pub laid_has : (ks vs fs gs : List ℕ) (c : ℕ) (p : List ℕ) → length p ≡ 4096 → (x o : ℕ) → x < 4096 → o < 8
    → has (get_or (marked_plane ks vs fs c (complemented (marked_plane ks vs gs c (complemented p)))) x 0) o
    ≡ over (has (get_or p x 0) o) (forced_at ks vs fs c x o) (forced_at ks vs gs c x o)
laid_has ks vs fs gs c p size x o h l =
    let q = complemented p in
    let q-size = complemented-length p size in
    let t = marked_plane ks vs gs c q in
    let t-size = marked_length ks vs gs c q q-size in
    marked_has ks vs fs c (complemented t) (complemented-length t t-size) x o h
    ∙ ap (λ (b : Bool). b || forced_at ks vs fs c x o)
    (complemented-has t t-size x o h l
    ∙ ap not (marked_has ks vs gs c q q-size x o h ∙ ap (λ (b : Bool). b || forced_at ks vs gs c x o) (complemented-has p size x o h l)))
