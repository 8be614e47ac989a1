-- The row that a word reads between two cuts: read at the number of the word's column at the upper cut, it is the row of the word's
-- prefix at the lower cut; its lowest bits are the number of that column, its other bits the outputs.
-- Assumes nothing.
use mathlib.Core.Path.{◌≡◌, sym, ◌∙◌, ap, ap₂}
use mathlib.Core.Bool.{true, false, not, cond}
use mathlib.Core.List.{List}
use Prim.Native.Nat.{ℕ, suc, ◌+◌, ◌-◌, ◌*◌, ◌/◌, ◌%◌, ◌^◌, ◌<◌, ◌≤◌}
use native.Mathlib.Nat.{mod-lt, add-zero, div-mul-le_self}
use native.Mathlib.Omega.{arith}
use lib.Dec.{eqb, ltb}
use lib.ListN.{get_or}
use lib.Pow.{pow_pos, pow-add, shr-shr, shl-shr, shr_lt, split, high, low}
use lib.Arith.{digits_lt}
use borrow.Author.Tests.{lt-ltb}
use Rattle.laws.specs.Tests.{sum}
use Rattle.laws.specs.Bits.{bit, flag}
use Rattle.laws.proofs.Cases.{cond_yes}
use Rattle.laws.proofs.Counts.{sum_ext}
use Rattle.laws.proofs.Bits.{flag-lt}
use Rattle.laws.proofs.Powers.{sum-bit, sum-small, sum_moved}
use Rattle.sheet_spec.specs.Job.{Job, t, ins, outs, var_at, is_input}
use Rattle.sheet_spec.specs.Refusals.{not_each_once}
use Rattle.sheet_spec.proofs.Promises.{ins_rise, outs_rise, ins_below, ins_below_at, outs_output, ins_below_lem, outs_below, output_number}
use Rattle.reduction_spec.specs.Columns.{entry, same, firsts_at, number_at, layers, layer, width_in}
use Rattle.reduction_spec.proofs.Promises.{same-entry, entry-same, number_below_lem, number_same, number_in_equal, same_deeper, Ruled}
use Rattle.stored_spec.specs.Rails.{rails_at}
use Rattle.cutting_spec.specs.Compile.{widths_of}
use Rattle.cutting_spec.specs.Rows.{emitted, row_of, row}
use Rattle.cutting_spec.proofs.RailCounts.{layer_at, rails_hold}

module _ (j : Job) (once : not_each_once j.n j.m j.order ≡ false) (few : j.n ≤ 12) (out : j.m ≤ 8) (f : List ℕ) where
  abbrev ls : List (List ℕ)
  ls = layers j f

  abbrev ws : List ℕ
  ws = widths_of (layers j f)

  -- the number of a prefix's column names the column, and is below the width
  pub prefix_small : (h x : ℕ) → h ≤ t j → x < 2 ^ j.n → x / 2 ^ ins j h < 2 ^ (j.n - ins j h)
  prefix_small h x l p =
      let e : j.n - ins j h + ins j h ≡ j.n = omega (arith, ins_below_lem j once few out h l) in
      shr_lt (j.n - ins j h) (ins j h) (rw e p)

  pub column_below : (h p : ℕ) → h ≤ t j → p < 2 ^ (j.n - ins j h) → number_at j f (layer (layers j f) h) h p < width_in (layers j f) h
  unfolding number_at firsts_at
  column_below h p l q = rw (layer_at j f h l) (number_below_lem j.n (ins j h) (outs j h) f p q)

  column_same : (h p : ℕ) → h ≤ t j → p < 2 ^ (j.n - ins j h)
      → same j.n (ins j h) (outs j h) f p (get_or (layer ls h) (number_at j f (layer ls h) h p) 0) ≡ true
  unfolding number_at firsts_at
  column_same h p l q = rw (layer_at j f h l) (number_same j.n (ins j h) (outs j h) f p q)

  -- prefixes at b with the same values of the outputs below a have the same row
  row_same : (a b p q : ℕ) → b ≤ a → same j.n (ins j b) (outs j a) f p q ≡ true → row_of j f ls ws a b p ≡ row_of j f ls ws a b q
  unfolding row_of emitted number_at
  row_same a b p q l e =
      let at = same-entry j.n (ins j b) (outs j a) f p q e in
      let fewer = outs_rise j b a l in
      ap₂ (λ (x y : ℕ). x + y)
      (sum_ext (λ i. emitted j f ls ws b p (outs j b + i) * 2 ^ (rails_at j ws b + i))
      (λ i. emitted j f ls ws b q (outs j b + i) * 2 ^ (rails_at j ws b + i))
      (outs j a - outs j b)
      (λ i h. ap (λ (v : ℕ). flag (eqb v 1) * 2 ^ (rails_at j ws b + i)) (at (outs j b + i) 0 (omega arith) (pow_pos (ins j b)))))
      (number_in_equal j.n (ins j b) (outs j b) f (layer ls b) p q
      (entry-same j.n (ins j b) (outs j b) f p q (λ k x h y. at k x (omega arith) y)))

  module _ (a b x : ℕ) (top : a ≤ t j) (l : b ≤ a) (small : x < 2 ^ j.n) where
    abbrev c : ℕ
    c = ins j a - ins j b

    abbrev q : ℕ
    q = x / 2 ^ ins j b

    prefix_split : x / 2 ^ ins j a * 2 ^ c + q % 2 ^ c ≡ q
    prefix_split =
        let e : ins j b + c ≡ ins j a = omega (arith, ins_rise j b a l) in
        ap (λ (p : ℕ). p * 2 ^ c + q % 2 ^ c) (sym (shr-shr x (ins j b) c ∙ ap (λ (i : ℕ). x / 2 ^ i) e)) ∙ split q c

    pub row_read_lem : row j f (layers j f) (widths_of (layers j f)) a b
        (number_at j f (layer (layers j f) a) a (x / 2 ^ ins j a) * 2 ^ (ins j a - ins j b) + x / 2 ^ ins j b % 2 ^ (ins j a - ins j b))
        ≡ row_of j f (layers j f) (widths_of (layers j f)) a b (x / 2 ^ ins j b)
    unfolding row
    row_read_lem =
        let p = x / 2 ^ ins j a in
        let r = number_at j f (layer ls a) a p in
        let s = q % 2 ^ c in
        let s< = mod-lt q (pow_pos c) in
        let p< = prefix_small a x top small in
        let first = get_or (layer ls a) r 0 in
        let by : ℕ → ℕ → ℕ = λ u v. cond (ltb u (width_in ls a)) (row_of j f ls ws a b (get_or (layer ls a) u 0 * 2 ^ c + v)) 0 in
        ap₂ by (high r c s<) (low r c s<)
        ∙ cond_yes (ltb r (width_in ls a)) (row_of j f ls ws a b (first * 2 ^ c + s)) 0 (lt-ltb r (width_in ls a) (column_below a p top p<))
        ∙ sym (row_same a b (p * 2 ^ c + s) (first * 2 ^ c + s) l
        (same_deeper j.n j.m (ins j a) (outs j a) (ins j b) (outs j a) f (ins_rise j b a l) (ins_below_lem j once few out a top) (omega arith) (outs_below j once few out a top)
        p first s s< (column_same a p top p<)))
        ∙ ap (row_of j f ls ws a b) prefix_split

    -- its outputs as bits
    abbrev outputs_of : ℕ
    outputs_of = sum (outs j a - outs j b) (λ i. emitted j f ls ws b q (outs j b + i) * 2 ^ i)

    row-split : row_of j f ls ws a b q ≡ outputs_of * 2 ^ rails_at j ws b + number_at j f (layer ls b) b q
    unfolding row_of
    row-split =
        ap (λ (s : ℕ). s + number_at j f (layer ls b) b q) (sum_moved (λ i. emitted j f ls ws b q (outs j b + i)) (rails_at j ws b) (outs j a - outs j b))

    number_fits : number_at j f (layer ls b) b q < 2 ^ rails_at j ws b
    number_fits =
        omega (arith, column_below b q (omega arith) (prefix_small b x (omega arith) small), rails_hold j once few out f b (omega arith))

    pub row-rail : row_of j f (layers j f) (widths_of (layers j f)) a b (x / 2 ^ ins j b) % 2 ^ rails_at j (widths_of (layers j f)) b
        ≡ number_at j f (layer (layers j f) b) b (x / 2 ^ ins j b)
    row-rail = ap (λ (i : ℕ). i % 2 ^ rails_at j ws b) row-split ∙ low outputs_of (rails_at j ws b) number_fits

    emitted-low : (i : ℕ) → emitted j f ls ws b q (outs j b + i) < 2
    unfolding emitted
    emitted-low i = flag-lt (eqb (entry j.n (ins j b) f q (outs j b + i) 0) 1)

    row_output : (k : ℕ) → outs j b ≤ k → k < outs j a
        → bit (row_of j f ls ws a b q / 2 ^ rails_at j ws b) (k - outs j b) ≡ emitted j f ls ws b q k
    row_output k from below =
        let e : outs j b + (k - outs j b) ≡ k = omega arith in
        ap (λ (i : ℕ). bit (i / 2 ^ rails_at j ws b) (k - outs j b)) row-split
        ∙ ap (λ (i : ℕ). bit i (k - outs j b)) (high outputs_of (rails_at j ws b) number_fits)
        ∙ sum-bit (λ i. emitted j f ls ws b q (outs j b + i)) (λ i. i) (outs j a - outs j b) (λ i h. emitted-low i)
        (λ i k h p e. e) (k - outs j b) (omega arith)
        ∙ ap (emitted j f ls ws b q) e

    -- each row is below 2^outputs
    pub row_small : row_of j f (layers j f) (widths_of (layers j f)) a b (x / 2 ^ ins j b) < 2 ^ (outs j a - outs j b + rails_at j (widths_of (layers j f)) b)
    row_small =
        rw (row-split, pow-add 2 (outs j a - outs j b) (rails_at j ws b))
        (digits_lt (sum-small (λ i. emitted j f ls ws b q (outs j b + i)) (outs j a - outs j b) (λ i h. emitted-low i)) number_fits)

    -- a line does not depend on the inputs below its output
    module _ (ruled : Ruled j.n j.m (ins_below (t j) j.order) f) (h : ℕ) (from : b ≤ h) (below : h < t j)
        (output : is_input (var_at j (suc h)) ≡ false) where
      emitted_is : emitted j f ls ws b q (outs j h) ≡ flag (eqb (get_or f (outs j h * 2 ^ j.n + x) 0) 1)
      unfolding emitted ins outs
      emitted_is =
          let k = outs j h in
          let i = ins j b in
          let d = ins_below (t j) j.order k in
          let is : d ≡ ins j h = ins_below_at (t j) j.order h below (ap not output) in
          let e : i + (d - i) ≡ d = omega (arith, ins_rise j b h from) in
          let k< = output_number j once few out h below output in
          let y = q * 2 ^ i + 0 in
          let y≤ : y ≤ x = omega (arith, div-mul-le_self x (2 ^ i)) in
          let same-high : y / 2 ^ d ≡ x / 2 ^ d =
          ap (λ (z : ℕ). z / 2 ^ d) (add-zero (q * 2 ^ i)) ∙ ap (λ (z : ℕ). q * 2 ^ i / 2 ^ z) (sym e) ∙ sym (shr-shr (q * 2 ^ i) i (d - i))
          ∙ ap (λ (z : ℕ). z / 2 ^ (d - i)) (shl-shr q i) ∙ shr-shr x i (d - i) ∙ ap (λ (z : ℕ). x / 2 ^ z) e in
          ap (λ (v : ℕ). flag (eqb v 1))
          (ruled k y k< (omega arith) ∙ ap (λ (z : ℕ). get_or f (k * 2 ^ j.n + z * 2 ^ d) 0) same-high ∙ sym (ruled k x k< small))

      pub row-value : h < a
          → bit (row_of j f (layers j f) (widths_of (layers j f)) a b (x / 2 ^ ins j b) / 2 ^ rails_at j (widths_of (layers j f)) b) (outs j h - outs j b)
          ≡ flag (eqb (get_or f (outs j h * 2 ^ j.n + x) 0) 1)
      row-value within =
          let more = outs_output j h output in
          row_output (outs j h) (outs_rise j b h from) (omega (arith, more, outs_rise j (suc h) a within)) ∙ emitted_is
