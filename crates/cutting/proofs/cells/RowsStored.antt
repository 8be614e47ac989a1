-- The rows of several cells, stored one after another.
-- Assumes nothing.
use mathlib.Core.Path.{◌≡◌, refl, sym, ◌∙◌, ap, ap₂}
use mathlib.Core.List.{List}
use Prim.Native.Nat.{ℕ, zero, suc, ◌+◌, ◌-◌, ◌*◌, ◌^◌, ◌<◌, ◌≤◌}
use native.Mathlib.Numerals.{add-one}
use native.Mathlib.Omega.{arith}
use lib.ListN.{length, get_or}
use Rattle.laws.specs.Lists.{puts_at}
use Rattle.laws.proofs.Counts.{sum-next, sum_at}
use Rattle.laws.proofs.Puts.{length-puts_at, puts_at_ext}
use Rattle.stored_spec.specs.Cells.{usable_rows}
use Rattle.cutting.specs.Ways.{list_cell}
use Rattle.cutting.specs.RowWalks.{walked_row}
use Rattle.cutting.specs.Plan.{first_in, width_up, rows_of, rows_to, row_between, Writable, rows_stored}

module _ (rs is cs : List ℕ) where
  pub rows_to-next : (i : ℕ) → rows_to rs is cs (i + 1) ≡ rows_to rs is cs i + rows_of rs is cs i
  unfolding rows_to
  rows_to-next i = sum-next (rows_of rs is cs) i

  -- the rows of cell i end among those of n cells
  pub rows_to_end : (i n : ℕ) → i < n → rows_to rs is cs i + rows_of rs is cs i ≤ rows_to rs is cs n
  unfolding rows_to
  rows_to_end i n = sum_at (rows_of rs is cs) n i

  -- those of the cell between the cuts top and bottom
  pub rows_of_is : (i top bottom : ℕ) → top ≡ get_or cs i 0 → bottom ≡ get_or cs (i + 1) 0 → usable_rows (list_cell rs is top bottom) ≡ rows_of rs is cs i
  unfolding rows_of
  rows_of_is i top bottom p q = ap₂ (λ (a b : ℕ). usable_rows (list_cell rs is a b)) p q

module _ (t : ℕ) (words order ws rs is cs : List ℕ) where
  pub rows_stored-next : (i at top bottom : ℕ) (l s : List ℕ) → at ≡ rows_to rs is cs i → top ≡ get_or cs i 0 → bottom ≡ get_or cs (i + 1) 0
      → s ≡ rows_stored t words order ws rs is cs i l
      → puts_at at (usable_rows (list_cell rs is top bottom)) (row_between t words order ws rs is top bottom) s
      ≡ rows_stored t words order ws rs is cs (i + 1) l
  unfolding rows_stored rows_of
  rows_stored-next i at top bottom l s p q r e = rw (p, q, r, e) (ap (λ (k : ℕ). rows_stored t words order ws rs is cs k l) (sym (add-one i)))

  pub length-rows_stored : (n : ℕ) (l : List ℕ) → length (rows_stored t words order ws rs is cs n l) ≡ length l
  unfolding rows_stored
  length-rows_stored zero l = refl
  length-rows_stored (suc n) l =
      length-puts_at (row_between t words order ws rs is (get_or cs n 0) (get_or cs (n + 1) 0)) (rows_to rs is cs n) (rows_of rs is cs n)
      (rows_stored t words order ws rs is cs n l)
      ∙ length-rows_stored n l

-- numbers that are those of the cell between the cuts a and b
pub record CellNumbers (t : ℕ) (ws rs is : List ℕ) (a b top bottom upper width lower rails count size : ℕ) : Type 0 where
  pub top_is : top ≡ a
  pub bottom_is : bottom ≡ b
  pub upper_is : upper ≡ first_in t ws a
  pub width_is : width ≡ width_up t ws a
  pub lower_is : lower ≡ first_in t ws b
  pub rails_is : rails ≡ get_or rs b 0
  pub count_is : count ≡ get_or is a 0 - get_or is b 0
  pub size_is : size ≡ usable_rows (list_cell rs is a b)

module _ {t : ℕ} {ws rs is : List ℕ} {a b top bottom upper width lower rails count size : ℕ}
    (n : CellNumbers t ws rs is a b top bottom upper width lower rails count size) (words order : List ℕ) where
  walked_between : (x : ℕ) → walked_row words order top bottom upper width lower rails count x ≡ row_between t words order ws rs is a b x
  unfolding row_between
  walked_between x = rw (n.top_is, n.bottom_is, n.upper_is, n.width_is, n.lower_is, n.rails_is, n.count_is) refl

  pub columns_among : Writable t words order ws rs is a b → width * 2 ^ count ≤ size
  columns_among w = rw (n.width_is, n.count_is, n.size_is) w.columns

  pub walked_small : Writable t words order ws rs is a b → (x : ℕ) → x < size → walked_row words order top bottom upper width lower rails count x < 65536
  walked_small w x h = omega (arith, walked_between x, w.small x (omega (arith, n.size_is)))

  pub walked_stored : (at : ℕ) (l : List ℕ)
      → puts_at at size (walked_row words order top bottom upper width lower rails count) l
      ≡ puts_at at (usable_rows (list_cell rs is a b)) (row_between t words order ws rs is a b) l
  walked_stored at l =
      puts_at_ext (walked_row words order top bottom upper width lower rails count) (row_between t words order ws rs is a b) at size l
      (λ x h. walked_between x)
      ∙ ap (λ (k : ℕ). puts_at at k (row_between t words order ws rs is a b) l) n.size_is
