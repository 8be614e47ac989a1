-- Steps of the loops over records and inputs, and the arrays that they read.
-- Assumes nothing.
use mathlib.Core.Path.{◌≡◌, ◌∙◌, ap}
use mathlib.Core.Bool.{Bool}
use mathlib.Core.List.{List}
use Prim.Native.Nat.{ℕ, ◌*◌, ◌%◌, ◌<◌, ◌≤◌}
use native.Mathlib.Omega.{arith}
use lib.Bits.{bit_or}
use lib.ListN.{length, get_or, replicate, length-replicate}
use Rattle.laws.specs.Tests.{any}
use Rattle.laws.specs.Lists.{puts}
use Rattle.laws.proofs.Tests.{any_ext}
use Rattle.laws.proofs.Puts.{get_or-puts, length-puts}
use Rattle.sheet_spec.specs.Records.{record_count, kind}
use Rattle.sheet.specs.Pairs.{pair_of, kind_mask, kind_values, hit_in, hit, any_hit}

-- bytes lo and hi of each record, loaded into an array of zeros
abbrev pub array_of : List ℕ → ℕ → ℕ → List ℕ
array_of s lo hi = puts (record_count s) (pair_of s lo hi) (replicate 256 0)

-- from such arrays the hits are those of the sheet
module _ (s : List ℕ) (short : length s ≤ 2048) where
  loaded : (lo hi : ℕ) {l : List ℕ} → l ≡ array_of s lo hi → (r : ℕ) → r < record_count s → get_or l r 0 ≡ pair_of s lo hi r
  loaded lo hi e r h = rw e (get_or-puts (pair_of s lo hi) (record_count s) (replicate 256 0) 0 r h (omega arith))

  -- with what is put over them
  over_loaded : (lo hi : ℕ) {l k : List ℕ} (g : ℕ → ℕ) → l ≡ array_of s lo hi → k ≡ puts (record_count s) (λ r. bit_or (get_or l r 0) (g r)) l
      → (r : ℕ) → r < record_count s → get_or k r 0 ≡ bit_or (pair_of s lo hi r) (g r)
  over_loaded lo hi {l} g e d r h =
      let size : length l ≡ 256 = rw e (length-puts (pair_of s lo hi) (record_count s) (replicate 256 0) ∙ length-replicate {A = ℕ} 256 0) in
      rw d (get_or-puts (λ i. bit_or (get_or l i 0) (g i)) (record_count s) l 0 r h (omega arith) ∙ ap (λ (v : ℕ). bit_or v (g r)) (loaded lo hi e r h))

  module _ {m₀ v₀ ms vs fs gs : List ℕ} (m : m₀ ≡ array_of s 0 1) (v : v₀ ≡ array_of s 2 3) (mk : ms ≡ puts (record_count s) (λ r. bit_or (get_or m₀ r 0) 32768) m₀)
      (vk : vs ≡ puts (record_count s) (λ r. bit_or (get_or v₀ r 0) (kind s r % 2 * 32768)) v₀) (f : fs ≡ array_of s 4 5) (g : gs ≡ array_of s 5 4) where
    mask_of_lem : (r : ℕ) → r < record_count s → get_or ms r 0 ≡ kind_mask s r
    mask_of_lem = over_loaded 0 1 (λ r. 32768) m mk

    values_of : (r : ℕ) → r < record_count s → get_or vs r 0 ≡ kind_values s r
    values_of = over_loaded 2 3 (λ r. kind s r % 2 * 32768) v vk

    hit_of : (r q : ℕ) → r < record_count s → q < record_count s → hit_in ms vs fs gs r q ≡ hit s r q
    unfolding hit_in hit
    hit_of r q h k = rw (values_of q k, values_of r h, mask_of_lem q k, mask_of_lem r h, loaded 4 5 f q k, loaded 5 4 g r h)

    pub any-hit_of : {b : Bool} → b ≡ any (record_count s) (λ r. any r (hit_in ms vs fs gs r)) → b ≡ any_hit s
    unfolding any_hit
    any-hit_of e =
        e ∙ any_ext (λ r. any r (hit_in ms vs fs gs r)) (λ r. any r (hit s r)) (record_count s)
        (λ r h. any_ext (hit_in ms vs fs gs r) (hit s r) r (λ q k. hit_of r q h (omega arith)))
