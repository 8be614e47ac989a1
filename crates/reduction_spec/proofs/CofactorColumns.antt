-- Cofactors and columns: the values u of the variables above height h give a prefix, and the cofactor of u is the characteristic function of
-- that prefix's column where the bits of the outputs above are allowed, else 0. So the width counts different nonzero cofactors.
-- Assumes nothing.
use mathlib.Core.Path.{◌≡◌, sym, ◌∙◌, ap, ap₂}
use mathlib.Core.Bool.{Bool, beq, true, false, not, cond, ◌&&◌, ◌||◌, and-true, and-false}
use mathlib.Core.List.{List}
use Prim.Native.Nat.{ℕ, ◌+◌, ◌-◌, ◌*◌, ◌/◌, ◌^◌, ◌<◌, ◌≤◌}
use native.Mathlib.Omega.{arith}
use borrow.Author.Tests.{not-true}
use lib.Dec.{eqb}
use lib.ListN.{get_or}
use lib.Pow.{pow_pos, shl-shr, shr-shr, high}
use Rattle.laws.specs.Tests.{every, count, sum}
use Rattle.laws.specs.Bits.{bit, has, flag}
use Rattle.laws.proofs.Cases.{by_test, and_split, and_join, same_test, cond_yes, cond_no, cond_both, beq_true, eq_beq}
use Rattle.laws.proofs.Tests.{every_of, every_at, every_ext, every_fails, every_parts}
use Rattle.laws.proofs.Counts.{count_parts}
use Rattle.laws.proofs.Picked.{every_picked}
use Rattle.laws.proofs.Bits.{bit-lt, flag-lt, flag_is, bit-low, bit_high}
use Rattle.laws.proofs.Powers.{sum-bit, sum-small}
use Rattle.laws.proofs.PickedBits.{picked_bits, picked_bits_lt, picked_bits_at, picked_bits_is, picked_bits_parts}
use Rattle.sheet_spec.specs.Job.{Job, t, ins, outs}
use Rattle.sheet_spec.specs.Values.{allows}
use Rattle.sheet_spec.specs.Characteristic.{meets}
use Rattle.sheet_spec.specs.Table.{table}
use Rattle.sheet_spec.specs.Accepted.{Accepted}
use Rattle.sheet_spec.specs.Refusals.{not_each_once, sheet_refusal}
use Rattle.sheet_spec.proofs.Promises.{meets-allows, ins_rise, ins-all, table_below, job-accepted, ins_below}
use Rattle.reduction_spec.specs.Columns.{entry, same, firsts, firsts_at, width}
use Rattle.reduction_spec.specs.Merge.{reduced}
use Rattle.reduction_spec.specs.Diagram.{top_value}
use Rattle.reduction_spec.specs.Cofactors.{inputs_in, cofactor, same_cofactor, zero_cofactor, cofactor_width, column_chi}
use Rattle.reduction_spec.proofs.MergeKeepsOrderRule.{Ruled}
use Rattle.reduction_spec.proofs.AcceptedSheet.{reduced_below, sheet_ruled, reduced_ruled}
use Rattle.reduction_spec.proofs.NodeChildren.{top_value_lem}
use Rattle.reduction_spec.proofs.ColumnNumbers.{same_equivalence}
use Rattle.reduction_spec.proofs.ColumnChi.{meets_own, same-chi, chi-same, column_met}
use Rattle.reduction_spec.proofs.ClassCount.{class_count}
use Rattle.reduction_spec.proofs.VariableBits.{input_up, inputs_picked, inputs_below}
use Rattle.reduction_spec.proofs.ChiLines.{value_at, passes, chi_passes}

-- a value allows itself, d allows 0
allows_own : (v : ℕ) → v < 3 → allows v (flag (eqb v 1)) ≡ true
allows_own v h =
    sym (meets-allows (flag (eqb v 1)) v (flag-lt (eqb v 1))) ∙ ap (λ (y : Bool). meets y v) (flag_is (eqb v 1)) ∙ meets_own v h

-- the numbers read from the values u above height h and v at heights h to 1: the prefix, the inputs of its column, and the outputs' bits
abbrev prefix_of : Job → ℕ → ℕ → ℕ
prefix_of j h u = picked_bits (λ i. input_up j (h + i)) u (t j - h)

abbrev inputs_of : Job → ℕ → ℕ → ℕ
inputs_of j h v = picked_bits (input_up j) v h

abbrev outputs_of : Job → ℕ → ℕ → ℕ
outputs_of j h v = picked_bits (λ g. not (input_up j g)) v h

module _ (j : Job) (once : not_each_once j.n j.m j.order ≡ false) (few : j.n ≤ 12) (out : j.m ≤ 8) (h : ℕ) (l : h ≤ t j) where
  abbrev a : ℕ
  a = ins j h

  abbrev b : ℕ
  b = outs j h

  -- whether an input stands i + 1 heights above h
  abbrev above_input : ℕ → Bool
  above_input i = input_up j (h + i)

  whole : t j ≡ h + (t j - h)
  whole = omega arith

  above_count : count (t j - h) above_input ≡ j.n - ins j h
  unfolding ins
  above_count =
      let parts = count_parts (input_up j) h (t j - h) in
      let all : count (h + (t j - h)) (input_up j) ≡ j.n = ap (λ (i : ℕ). count i (input_up j)) (sym whole) ∙ ins-all j once few out in
      omega arith

  prefix_lt : (u : ℕ) → prefix_of j h u < 2 ^ (j.n - ins j h)
  prefix_lt u = rw above_count at (picked_bits_lt above_input u (t j - h))

  inputs-lt : (v : ℕ) → inputs_of j h v < 2 ^ ins j h
  unfolding ins
  inputs-lt v = picked_bits_lt (input_up j) v h

  inputs-split : (u v : ℕ) → v < 2 ^ h → inputs_in j (u * 2 ^ h + v) ≡ prefix_of j h u * 2 ^ ins j h + inputs_of j h v
  unfolding ins
  inputs-split u v hv =
      let z = u * 2 ^ h + v in
      inputs_picked j z ∙ ap (picked_bits (input_up j) z) whole ∙ picked_bits_parts (input_up j) u v h (t j - h) hv

  -- values at heights h to 1 with given inputs and outputs
  below_of : (x y : ℕ) → x < 2 ^ ins j h → y < 2 ^ outs j h → (v : ℕ) × (v < 2 ^ h) × (inputs_of j h v ≡ x) × (outputs_of j h v ≡ y)
  unfolding ins outs
  below_of x y hx hy =
      let value : ℕ → ℕ = λ g. cond (input_up j g) (bit x (ins j g)) (bit y (outs j g)) in
      let low : (g : ℕ) → g < h → value g < 2 = λ g k. cond_both (λ (c : ℕ). c < 2) (input_up j g) (bit-lt x (ins j g)) (bit-lt y (outs j g)) in
      let v = sum h (λ g. value g * 2 ^ g) in
      let at : (g : ℕ) → g < h → bit v g ≡ value g = sum-bit value (λ g. g) h low (λ k q c d e. e) in (
        v,
        sum-small value h low,
        picked_bits_is (input_up j) v h x hx (λ g k i. at g k ∙ cond_yes (input_up j g) (bit x (ins j g)) (bit y (outs j g)) i),
        picked_bits_is (λ g. not (input_up j g)) v h y hy
            (λ g k i. at g k ∙ cond_no (input_up j g) (bit x (ins j g)) (bit y (outs j g)) (not-true (input_up j g) i)),
      )

  module _ (f : List ℕ) (r : Ruled j.n j.m (ins_below (t j) j.order) f) (small : (i : ℕ) → get_or f i 0 < 3) where
    -- at the first place of prefix p: an input, or an output whose bit is allowed; each of these above h
    abbrev lets : ℕ → ℕ → ℕ → Bool
    lets p u i = above_input i || allows (value_at j f (p * 2 ^ a) (h + i)) (bit u i)

    abbrev allowed : ℕ → Bool
    allowed u = every (t j - h) (lets (prefix_of j h u) u)

    -- the column's characteristic function for the values v
    abbrev column : ℕ → ℕ → Bool
    column p v = column_chi j.n a b f p (inputs_of j h v) (outputs_of j h v)

    module _ (u v : ℕ) (hv : v < 2 ^ h) where
      abbrev z : ℕ
      z = u * 2 ^ h + v

      abbrev x : ℕ
      x = inputs_in j z

      lower_part : every h (passes j f x z) ≡ column (prefix_of j h u) v
      unfolding column_chi outs
      lower_part =
          every_picked (input_up j) (λ g. allows (value_at j f x g) (bit z g))
          (λ k. meets (has (outputs_of j h v) k) (entry j.n a f (prefix_of j h u) k (inputs_of j h v))) h
          (λ g k i.
          let o = outs j g in
          let same : bit z g ≡ bit (outputs_of j h v) o = bit-low u h v g hv k ∙ sym (picked_bits_at (λ g. not (input_up j g)) v h g k (ap not i)) in
          ap₂ (λ (c d : ℕ). allows (get_or f (o * 2 ^ j.n + c) 0) d) (inputs-split u v hv) same
          ∙ sym (meets-allows (bit (outputs_of j h v) o) (entry j.n a f (prefix_of j h u) o (inputs_of j h v)) (bit-lt (outputs_of j h v) o)))

      -- an output above does not depend on the inputs of the column
      value_above : (i : ℕ) → i < t j - h → above_input i ≡ false → value_at j f x (h + i) ≡ value_at j f (prefix_of j h u * 2 ^ a) (h + i)
      value_above i k o =
          let g = h + i in
          let p = prefix_of j h u in
          let d = ins j g - a in
          let up : a + d ≡ ins j g = omega (arith, ins_rise j h g (omega arith)) in
          let hx = inputs_below j once few out z in
          let is = inputs-split u v hv in
          let left : x / 2 ^ a ≡ p = ap (λ (c : ℕ). c / 2 ^ a) is ∙ high p a (inputs-lt v) in
          let right : p * 2 ^ a / 2 ^ a ≡ p = shl-shr p a in
          let same : x / 2 ^ ins j g ≡ p * 2 ^ a / 2 ^ ins j g =
          ap (λ (c : ℕ). x / 2 ^ c) (sym up) ∙ sym (shr-shr x a d) ∙ ap (λ (c : ℕ). c / 2 ^ d) (left ∙ sym right) ∙ shr-shr (p * 2 ^ a) a d
          ∙ ap (λ (c : ℕ). p * 2 ^ a / 2 ^ c) up in
          sym (top_value_lem j once few out f r g (omega arith) o x hx) ∙ ap (top_value j f g) same
          ∙ top_value_lem j once few out f r g (omega arith) o (p * 2 ^ a) (omega arith)

      upper_part : every (t j - h) (λ i. passes j f x z (h + i)) ≡ allowed u
      upper_part =
          every_ext (λ i. passes j f x z (h + i)) (lets (prefix_of j h u) u) (t j - h)
          (λ i k.
          let first : Bool = allows (value_at j f x (h + i)) (bit z (h + i)) in
          let second : Bool = allows (value_at j f (prefix_of j h u * 2 ^ a) (h + i)) (bit u i) in
          by_test (above_input i) (λ o. ap (λ (c : Bool). c || first) o ∙ sym (ap (λ (c : Bool). c || second) o))
          (λ o. ap (λ (c : Bool). above_input i || c) (ap₂ allows (value_above i k o) (bit_high u h v i hv))))

      cofactor_is : cofactor j f h u v ≡ (column (prefix_of j h u) v && allowed u)
      cofactor_is =
          chi_passes j f z ∙ ap (λ (k : ℕ). every k (passes j f x z)) whole ∙ every_parts (passes j f x z) h (t j - h)
          ∙ ap₂ ◌&&◌ lower_part upper_part

    -- each prefix has values that are allowed
    above_of : (p : ℕ) → p < 2 ^ (j.n - ins j h) → (u : ℕ) × (u < 2 ^ (t j - h)) × (allowed u ≡ true) × (prefix_of j h u ≡ p)
    above_of p hp =
        let own : ℕ → ℕ = λ i. flag (eqb (value_at j f (p * 2 ^ a) (h + i)) 1) in
        let value : ℕ → ℕ = λ i. cond (above_input i) (bit p (count i above_input)) (own i) in
        let low : (i : ℕ) → i < t j - h → value i < 2 =
        λ i k. cond_both (λ (c : ℕ). c < 2) (above_input i) (bit-lt p (count i above_input)) (flag-lt (eqb (value_at j f (p * 2 ^ a) (h + i)) 1)) in
        let u = sum (t j - h) (λ i. value i * 2 ^ i) in
        let at : (i : ℕ) → i < t j - h → bit u i ≡ value i = sum-bit value (λ i. i) (t j - h) low (λ k q c d e. e) in
        let is : prefix_of j h u ≡ p =
        picked_bits_is above_input u (t j - h) p (rw above_count hp) (λ i k o. at i k ∙ cond_yes (above_input i) (bit p (count i above_input)) (own i) o) in
        let met : (i : ℕ) → i < t j - h → lets p u i ≡ true =
        λ i k.
        by_test (above_input i) (λ o. ap (λ (c : Bool). c || allows (value_at j f (p * 2 ^ a) (h + i)) (bit u i)) o)
        (λ o.
        ap₂ (λ (c : Bool) (d : ℕ). c || allows (value_at j f (p * 2 ^ a) (h + i)) d) o
        (at i k ∙ cond_no (above_input i) (bit p (count i above_input)) (own i) o)
        ∙ allows_own (value_at j f (p * 2 ^ a) (h + i)) (small (outs j (h + i) * 2 ^ j.n + p * 2 ^ a))) in
        (u, sum-small value (t j - h) low, ap (λ (q : ℕ). every (t j - h) (lets q u)) is ∙ every_of (lets p u) (t j - h) met, is)

    -- an allowed cofactor is not 0
    cofactor_met : (u : ℕ) → allowed u ≡ true → (v : ℕ) × (v < 2 ^ h) × (cofactor j f h u v ≡ true)
    cofactor_met u e =
        let p = prefix_of j h u in
        let (y, hy, c) = column_met j.n a b f small p 0 in
        let (v, hv, ex, ey) = below_of 0 y (pow_pos a) hy in
        (v, hv, cofactor_is u v hv ∙ and_join (ap₂ (column_chi j.n a b f p) ex ey ∙ c) e)

    nonzero : (u : ℕ) → not (zero_cofactor j f h u) ≡ allowed u
    unfolding zero_cofactor
    nonzero u =
        by_test (allowed u)
        (λ e.
        let (v, hv, c) = cofactor_met u e in
        ap not (every_fails (λ v. not (cofactor j f h u v)) (2 ^ h) v hv (ap not c)) ∙ sym e)
        (λ e.
        ap not
        (every_of (λ v. not (cofactor j f h u v)) (2 ^ h) (λ v hv.
        ap not (cofactor_is u v hv ∙ ap (λ (c : Bool). column (prefix_of j h u) v && c) e ∙ and-false (column (prefix_of j h u) v))))
        ∙ sym e)

    -- beside an allowed one the same cofactor is an allowed one of the same column
    module _ (v u : ℕ) (eu : allowed u ≡ true) where
      abbrev alike : ℕ → Bool
      alike w = beq (cofactor j f h v w) (cofactor j f h u w)

      by_column : (s w : ℕ) → allowed s ≡ true → w < 2 ^ h → cofactor j f h s w ≡ column (prefix_of j h s) w
      by_column s w e hw =
          cofactor_is s w hw ∙ ap (λ (c : Bool). column (prefix_of j h s) w && c) e ∙ and-true (column (prefix_of j h s) w)

      same_to : every (2 ^ h) alike ≡ true → (allowed v && same j.n a b f (prefix_of j h v) (prefix_of j h u)) ≡ true
      same_to e =
          let agree : (w : ℕ) → w < 2 ^ h → cofactor j f h v w ≡ cofactor j f h u w =
          λ w hw. beq_true (cofactor j f h v w) (cofactor j f h u w) (every_at alike (2 ^ h) e w hw) in
          let (w, hw, c) = cofactor_met u eu in
          let ev : allowed v ≡ true = (and_split (column (prefix_of j h v) w) (allowed v) (sym (cofactor_is v w hw) ∙ agree w hw ∙ c)).1 in
          and_join ev
          (chi-same j.n a b f small (prefix_of j h v) (prefix_of j h u) (λ x y hx hy.
          let (w, hw, ex, ey) = below_of x y hx hy in
          ap₂ (column_chi j.n a b f (prefix_of j h v)) (sym ex) (sym ey) ∙ sym (by_column v w ev hw) ∙ agree w hw ∙ by_column u w eu hw
          ∙ ap₂ (column_chi j.n a b f (prefix_of j h u)) ex ey))

      same_from : (allowed v && same j.n a b f (prefix_of j h v) (prefix_of j h u)) ≡ true → every (2 ^ h) alike ≡ true
      same_from e =
          let (ev, s) = and_split (allowed v) (same j.n a b f (prefix_of j h v) (prefix_of j h u)) e in
          every_of alike (2 ^ h) (λ w hw.
          eq_beq (cofactor j f h v w) (cofactor j f h u w)
          (by_column v w ev hw ∙ same-chi j.n a b f (prefix_of j h v) (prefix_of j h u) s (inputs_of j h w) (outputs_of j h w) (inputs-lt w)
          ∙ sym (by_column u w eu hw)))

      same_is : same_cofactor j f h v u ≡ (not (zero_cofactor j f h v) && same j.n a b f (prefix_of j h v) (prefix_of j h u))
      unfolding same_cofactor
      same_is =
          same_test (every (2 ^ h) alike) (allowed v && same j.n a b f (prefix_of j h v) (prefix_of j h u)) same_to same_from
          ∙ ap (λ (c : Bool). c && same j.n a b f (prefix_of j h v) (prefix_of j h u)) (sym (nonzero v))

    -- the width is that of definition 3.5
    pub width_cofactors : width j f h ≡ cofactor_width j f h
    unfolding width firsts_at firsts cofactor_width
    width_cofactors =
        sym (
        class_count (same j.n a b f) (same_cofactor j f h) (same_equivalence j.n a b f) (2 ^ (j.n - ins j h)) (2 ^ (t j - h))
        (λ u. not (zero_cofactor j f h u)) (prefix_of j h) (λ u hu. prefix_lt u) (λ v u hv hu c. same_is v u (sym (nonzero u) ∙ c))
        (λ p hp. let (u, hu, e, is) = above_of p hp in (u, hu, nonzero u ∙ e, is)))

-- an accepted job and sheet: the sheet's own function, and the function after all merges
module _ (j : Job) (s : List ℕ) (e : sheet_refusal j s ≡ 0) (h : ℕ) (l : h ≤ t j) where
  accepted : Accepted j.n j.m j.order s
  accepted = job-accepted j s e

  pub sheet-width : width j (table j s) h ≡ cofactor_width j (table j s) h
  sheet-width =
      width_cofactors j accepted.order-whole accepted.inputs accepted.outputs h l (table j s) (sheet_ruled j s e)
      (table_below j.n j.m j.order s)

  pub final_width : width j (reduced j (table j s)) h ≡ cofactor_width j (reduced j (table j s)) h
  final_width =
      width_cofactors j accepted.order-whole accepted.inputs accepted.outputs h l (reduced j (table j s)) (reduced_ruled j s e)
      (reduced_below j s e)
