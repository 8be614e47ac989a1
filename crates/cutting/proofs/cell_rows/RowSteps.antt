-- Rows as they are written: the rows of one column after those before it, and zeros after those of all columns.
-- Assumes nothing.
use mathlib.Core.Path.{◌≡◌, sym, ◌∙◌, ap, ap₂}
use mathlib.Core.List.{List}
use Prim.Native.Nat.{ℕ, ◌+◌, ◌*◌, ◌/◌, ◌%◌, ◌^◌, ◌<◌, ◌≤◌}
use native.Mathlib.Nat.{le-div_iff_mul-le}
use native.Mathlib.Omega.{arith}
use borrow.Author.Tests.{lt-ltb, le-ltb}
use lib.Dec.{ltb}
use lib.Pow.{pow_pos, high, low}
use Rattle.laws.specs.Lists.{puts_at}
use Rattle.laws.proofs.Cases.{cond_yes, cond_no}
use Rattle.laws.proofs.Puts.{puts_at-run}
use Rattle.laws.proofs.Lists.{row_end}
use Rattle.cutting.specs.RowWalks.{node_row, walked_row}

module _ (words order : List ℕ) (top bottom upper width lower rails count : ℕ) where
  abbrev walked : ℕ → ℕ
  walked = walked_row words order top bottom upper width lower rails count

  abbrev of_node : ℕ → ℕ → ℕ
  of_node = node_row words order top bottom lower rails count

  module _ (size : ℕ) (is : size ≡ 2 ^ count) where
    -- row x of column c
    pub column_row : (c x : ℕ) → c < width → x < size
        → walked_row words order top bottom upper width lower rails count (c * size + x) ≡ node_row words order top bottom lower rails count (upper + c) x
    unfolding walked_row
    column_row c x hc hx =
        let hx' : x < 2 ^ count = omega (arith, is) in
        let i = c * 2 ^ count + x in
        let hi : i / 2 ^ count ≡ c = high c count hx' in
        let used : i / 2 ^ count < width = omega (arith, hi) in
        ap (λ (k : ℕ). walked (c * k + x)) is
        ∙ cond_yes (ltb (i / 2 ^ count) width) (of_node (upper + i / 2 ^ count) (i % 2 ^ count)) 0 (lt-ltb (i / 2 ^ count) width used)
        ∙ ap₂ (λ (k y : ℕ). of_node (upper + k) y) hi (low c count hx')

    -- a row of no column
    pub unused_row : (i : ℕ) → walked_row words order top bottom upper width lower rails count (width * size + i) ≡ 0
    unfolding walked_row
    unused_row i =
        let k = width * 2 ^ count + i in
        let past : width ≤ k / 2 ^ count = (le-div_iff_mul-le (pow_pos count)).1 (omega arith) in
        ap (λ (z : ℕ). walked (width * z + i)) is
        ∙ cond_no (ltb (k / 2 ^ count) width) (of_node (upper + k / 2 ^ count) (k % 2 ^ count)) 0 (le-ltb (k / 2 ^ count) width past)

    -- a column's rows have 16 bits where all have
    pub column_small : ((i : ℕ) → i < width * size → walked_row words order top bottom upper width lower rails count i < 65536)
        → (c v x : ℕ) → c < width → v ≡ upper + c → x < size → node_row words order top bottom lower rails count v x < 65536
    column_small h c v x hc ev hx =
        let all = h (c * size + x) (omega (arith, row_end c width size hc)) in
        omega (arith, ap (λ (k : ℕ). of_node k x) ev, column_row c x hc hx)

    -- the rows of one column more
    pub column_more : (at c v : ℕ) (l s s' : List ℕ) → c < width → v ≡ upper + c
        → s ≡ puts_at at (c * size) (walked_row words order top bottom upper width lower rails count) l
        → s' ≡ puts_at (at + c * size) size (node_row words order top bottom lower rails count v) s
        → s' ≡ puts_at at ((c + 1) * size) (walked_row words order top bottom upper width lower rails count) l
    column_more at c v l s s' hc ev es es' =
        let next : c * size + size ≡ (c + 1) * size = omega arith in
        es'
        ∙ puts_at-run walked (of_node v) at (c * size) size l s es
        (λ x hx. ap (λ (k : ℕ). of_node k x) ev ∙ sym (column_row c x hc hx))
        ∙ ap (λ (k : ℕ). puts_at at k walked l) next

    -- zeros after all columns
    pub rows_all : (at used rest all : ℕ) (l s s' : List ℕ) → used ≡ width * size → used + rest ≡ all
        → s ≡ puts_at at (width * size) (walked_row words order top bottom upper width lower rails count) l
        → s' ≡ puts_at (at + used) rest (λ i. 0) s
        → s' ≡ puts_at at all (walked_row words order top bottom upper width lower rails count) l
    rows_all at used rest all l s s' eu ea es es' =
        es' ∙ ap (λ (k : ℕ). puts_at (at + k) rest (λ i. 0) s) eu
        ∙ puts_at-run walked (λ i. 0) at (width * size) rest l s es (λ i h. sym (unused_row i))
        ∙ ap (λ (k : ℕ). puts_at at k walked l) (omega arith)
