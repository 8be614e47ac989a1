-- Walks from one cut down to another: from the node of a prefix the walk reaches the node of the prefix that the inputs between lengthen,
-- and the outputs it meets are those of the table.
-- Assumes nothing.
use mathlib.Core.Path.{◌≡◌, sym, ◌∙◌, ap, ap₂}
use mathlib.Core.Bool.{Bool, true, false, cond}
use mathlib.Core.List.{List}
use Prim.Native.Nat.{ℕ, zero, suc, ◌+◌, ◌-◌, ◌*◌, ◌/◌, ◌%◌, ◌^◌, ◌<◌, ◌≤◌}
use native.Mathlib.Nat.{mod-lt, mod-eq_of_lt, pow-suc}
use native.Mathlib.Omega.{arith}
use borrow.Author.Tests.{le-leb, le-ltb, eq-eqb, ne_eqb, eqb-true}
use lib.Dec.{eqb, ltb, leb}
use lib.ListN.{length, get_or}
use lib.Pow.{pow_pos, pow-add, shl_lt, high, mod-pow-add}
use Rattle.laws.specs.Tests.{sum}
use Rattle.laws.specs.Bits.{bit, has, flag}
use Rattle.laws.proofs.Cases.{by_test, cond_yes, cond_no}
use Rattle.laws.proofs.Powers.{place_below}
use Rattle.laws.proofs.Bits.{bit-lt}
use Rattle.sheet_spec.specs.Job.{Job, t, ins, outs, var_at, is_input}
use Rattle.sheet_spec.specs.Refusals.{not_each_once}
use Rattle.sheet_spec.proofs.Promises.{order-length, ins_rise, outs_rise, ins_below, ins_input, ins_output, outs_input, outs_output, ins_below_lem, outs_below}
use Rattle.reduction_spec.specs.Columns.{entry, layers}
use Rattle.reduction_spec.specs.Diagram.{top_value, nodes}
use Rattle.reduction_spec.specs.Walk.{low_of, high_of}
use Rattle.reduction_spec.specs.Descent.{Reached, reached, descend, descent}
use Rattle.reduction_spec.proofs.MergeKeeps.{deeper}
use Rattle.reduction_spec.proofs.MergeKeepsOrderRule.{Ruled}
use Rattle.reduction_spec.proofs.NodeChildren.{words_of, node_for, node-from, node_positive, input_child, output_low, output_high, top_value_lem}

-- the values 1 of the d lowest outputs above height bottom in the column of prefix q, as a number, topmost most significant
abbrev pub met : Job → List ℕ → ℕ → ℕ → ℕ → ℕ
met j f bottom d q = sum d (λ i. flag (eqb (entry j.n (ins j bottom) f q (outs j bottom + i) 0) 1) * 2 ^ i)

-- a number with one more bit at its foot
appended : (o b d s : ℕ) → (o * 2 + b) * 2 ^ d + s ≡ o * 2 ^ suc d + (s + b * 2 ^ d)
appended o b d s = rw (pow-suc 2 d) (omega arith)

module _ (j : Job) (once : not_each_once j.n j.m j.order ≡ false) (few : j.n ≤ 12) (out : j.m ≤ 8) (f : List ℕ)
    (r : Ruled j.n j.m (ins_below (t j) j.order) f) (fits : length (nodes j f (layers j f)) ≤ 10240) (bottom : ℕ) where
  -- inputs and outputs from height h down to bottom
  abbrev span : ℕ → ℕ
  span h = ins j h - ins j bottom

  abbrev lines : ℕ → ℕ
  lines h = outs j h - outs j bottom

  -- the prefix at bottom
  abbrev foot : ℕ → ℕ → ℕ → ℕ
  foot h p x = p * 2 ^ span h + x % 2 ^ span h

  abbrev ended : ℕ → ℕ → ℕ → ℕ → Reached
  ended h p x o = reached (node_for j f bottom (foot h p x)) (o * 2 ^ lines h + met j f bottom (lines h) (foot h p x))

  module _ (g : ℕ) (l : g < t j) (low : bottom ≤ g) (p x : ℕ) (hp : p < 2 ^ (j.n - ins j (suc g))) where
    foot_input : is_input (var_at j (suc g)) ≡ true → foot g (p * 2 + bit x (span g)) x ≡ foot (suc g) p x
    foot_input i =
        let c = span g in
        let up : span (suc g) ≡ 1 + c = omega (arith, ins_input j g i, ins_rise j bottom g low) in
        let e : x % 2 ^ (1 + c) ≡ bit x c * 2 ^ c + x % 2 ^ c = mod-pow-add x 1 c in
        let two : 2 ^ (1 + c) ≡ 2 * 2 ^ c = pow-add 2 1 c in
        let whole : foot g (p * 2 + bit x c) x ≡ p * 2 ^ (1 + c) + x % 2 ^ (1 + c) = rw (e, two) (omega arith) in
        whole ∙ ap (λ (s : ℕ). p * 2 ^ s + x % 2 ^ s) (sym up)

    ended_input : is_input (var_at j (suc g)) ≡ true → (o : ℕ) → ended g (p * 2 + bit x (span g)) x o ≡ ended (suc g) p x o
    ended_input i o =
        let same : lines g ≡ lines (suc g) = omega (arith, outs_input j g i) in
        ap₂ (λ (q d : ℕ). reached (node_for j f bottom q) (o * 2 ^ d + met j f bottom d q)) (foot_input i) same

    foot_output : is_input (var_at j (suc g)) ≡ false → foot g p x ≡ foot (suc g) p x
    foot_output i = ap (λ (a : ℕ). p * 2 ^ (a - ins j bottom) + x % 2 ^ (a - ins j bottom)) (sym (ins_output j g i))

    -- the value of the output met
    last_value : is_input (var_at j (suc g)) ≡ false → entry j.n (ins j bottom) f (foot g p x) (outs j bottom + lines g) 0 ≡ top_value j f g p
    last_value i =
        let a = ins j bottom in
        let z = x % 2 ^ span g in
        let y = foot g p x * 2 ^ a + 0 in
        let w : span g + a ≡ ins j g = omega (arith, ins_rise j bottom g low) in
        let small : z * 2 ^ a < 2 ^ ins j g = rw w at (shl_lt (span g) a (mod-lt x (pow_pos (span g)))) in
        let hp' : p < 2 ^ (j.n - ins j g) = rw (ins_output j g i) at hp in
        let e : y ≡ p * 2 ^ ins j g + z * 2 ^ a =
        deeper j.n j.m (ins j g) (outs j g) a (outs j bottom) f (ins_rise j bottom g low) (ins_below_lem j once few out g (omega arith))
        (outs_rise j bottom g low) (outs_below j once few out g (omega arith)) p z 0 ∙ omega arith in
        let hy : y < 2 ^ j.n = rw e (place_below j.n (ins j g) p (z * 2 ^ a) (ins_below_lem j once few out g (omega arith)) hp' small) in
        let prefix : y / 2 ^ ins j g ≡ p = ap (λ (k : ℕ). k / 2 ^ ins j g) e ∙ high p (ins j g) small in
        let line : outs j bottom + lines g ≡ outs j g = omega (arith, outs_rise j bottom g low) in
        ap (λ (k : ℕ). get_or f (k * 2 ^ j.n + y) 0) line ∙ sym (top_value_lem j once few out f r g l i y hy) ∙ ap (top_value j f g) prefix

    ended_output : is_input (var_at j (suc g)) ≡ false → (o : ℕ) → ended g p x (o * 2 + flag (eqb (top_value j f g p) 1)) ≡ ended (suc g) p x o
    ended_output i o =
        let d = lines g in
        let q = foot g p x in
        let b = flag (eqb (top_value j f g p) 1) in
        let up : suc d ≡ lines (suc g) = omega (arith, outs_output j g i, outs_rise j bottom g low) in
        let same : met j f bottom d q + b * 2 ^ d ≡ met j f bottom (suc d) q =
        ap (λ (v : ℕ). met j f bottom d q + flag (eqb v 1) * 2 ^ d) (sym (last_value i)) in
        let more : (o * 2 + b) * 2 ^ d + met j f bottom d q ≡ o * 2 ^ suc d + met j f bottom (suc d) q =
        appended o b d (met j f bottom d q) ∙ ap (λ (v : ℕ). o * 2 ^ suc d + v) same in
        ap (reached (node_for j f bottom q)) more
        ∙ ap₂ (λ (k e : ℕ). reached (node_for j f bottom k) (o * 2 ^ e + met j f bottom e k)) (foot_output i) up

    -- one height, where the walk below it is known
    module _ (k : ℕ) (down : (p' o' : ℕ) → p' < 2 ^ (j.n - ins j g)
        → descend (words_of j f) j.order bottom k (node_for j f g p') x (span g) o' ≡ ended g p' x o') where
      step_input : is_input (var_at j (suc g)) ≡ true → (o : ℕ)
          → descend (words_of j f) j.order bottom k
          (cond (has x (span (suc g) - 1)) (high_of (words_of j f) (node_for j f (suc g) p)) (low_of (words_of j f) (node_for j f (suc g) p)))
          x (span (suc g) - 1) o
          ≡ ended (suc g) p x o
      step_input i o =
          let v = node_for j f (suc g) p in
          let b = bit x (span g) in
          let up : span (suc g) - 1 ≡ span g = omega (arith, ins_input j g i, ins_rise j bottom g low) in
          let wider : 2 ^ (j.n - ins j g) ≡ 2 * 2 ^ (j.n - ins j (suc g)) =
          let z : j.n - ins j g ≡ 1 + (j.n - ins j (suc g)) = omega (arith, ins_input j g i, ins_below_lem j once few out (suc g) l) in
          ap (λ (e : ℕ). 2 ^ e) z ∙ pow-add 2 1 (j.n - ins j (suc g)) in
          ap (λ (c : ℕ). descend (words_of j f) j.order bottom k (cond (has x c) (high_of (words_of j f) v) (low_of (words_of j f) v)) x c o) up
          ∙ ap (λ (u : ℕ). descend (words_of j f) j.order bottom k u x (span g) o) (input_child j once few out f g l p hp fits i b (bit-lt x (span g)))
          ∙ down (p * 2 + b) o (omega (arith, wider, bit-lt x (span g)))
          ∙ ended_input i o

      step_output : is_input (var_at j (suc g)) ≡ false → (o : ℕ)
          → cond (eqb (low_of (words_of j f) (node_for j f (suc g) p)) 0)
          (descend (words_of j f) j.order bottom k (high_of (words_of j f) (node_for j f (suc g) p)) x (span (suc g)) (o * 2 + 1))
          (descend (words_of j f) j.order bottom k (low_of (words_of j f) (node_for j f (suc g) p)) x (span (suc g)) (o * 2))
          ≡ ended (suc g) p x o
      step_output i o =
          let v = node_for j f (suc g) p in
          let next = node_for j f g p in
          let low_is = output_low j once few out f g l p hp fits i in
          let high_is = output_high j once few out f g l p hp fits i in
          let same : span (suc g) ≡ span g = ap (λ (a : ℕ). a - ins j bottom) (ins_output j g i) in
          let hp' : p < 2 ^ (j.n - ins j g) = rw (ins_output j g i) at hp in
          let on : (o' : ℕ) → descend (words_of j f) j.order bottom k next x (span (suc g)) o' ≡ ended g p x o' =
          λ o'. ap (λ (c : ℕ). descend (words_of j f) j.order bottom k next x c o') same ∙ down p o' hp' in
          by_test (eqb (top_value j f g p) 1)
          (λ e.
          let zero-low : low_of (words_of j f) v ≡ 0 = low_is ∙ cond_yes _ 0 next e in
          let up : high_of (words_of j f) v ≡ next =
          high_is ∙ cond_no _ 0 next (ne_eqb (top_value j f g p) 0 (λ z. let y = eqb-true (top_value j f g p) 1 e in omega arith)) in
          cond_yes _ _ _ (eq-eqb (low_of (words_of j f) v) 0 zero-low)
          ∙ ap (λ (u : ℕ). descend (words_of j f) j.order bottom k u x (span (suc g)) (o * 2 + 1)) up ∙ on (o * 2 + 1)
          ∙ ap (λ (y : Bool). ended g p x (o * 2 + flag y)) (sym e) ∙ ended_output i o)
          (λ e.
          let to : low_of (words_of j f) v ≡ next = low_is ∙ cond_no _ 0 next e in
          cond_no _ _ _ (ne_eqb (low_of (words_of j f) v) 0 (λ z. omega (arith, node_positive j f g p)))
          ∙ ap (λ (u : ℕ). descend (words_of j f) j.order bottom k u x (span (suc g)) (o * 2)) to ∙ on (o * 2)
          ∙ ap (ended g p x) (let z : o * 2 ≡ o * 2 + flag false = omega arith in z)
          ∙ ap (λ (y : Bool). ended g p x (o * 2 + flag y)) (sym e) ∙ ended_output i o)

  -- the walk of k heights from height h
  walked : (k h p x o : ℕ) → h ≡ bottom + k → h ≤ t j → p < 2 ^ (j.n - ins j h)
      → descend (words_of j f) j.order bottom k (node_for j f h p) x (span h) o ≡ ended h p x o
  unfolding descend
  walked zero h p x o e l hp =
      let low : h ≡ bottom = omega arith in
      let none : span h ≡ 0 = omega (arith, ap (ins j) low) in
      let nothing : lines h ≡ 0 = omega (arith, ap (outs j) low) in
      let at : p ≡ foot h p x = let z : p ≡ p * 1 + x % 1 = omega arith in z ∙ ap (λ (s : ℕ). p * 2 ^ s + x % 2 ^ s) (sym none) in
      let outputs : o ≡ o * 2 ^ lines h + met j f bottom (lines h) (foot h p x) =
      let z : o ≡ o * 1 + 0 = omega arith in z ∙ ap (λ (d : ℕ). o * 2 ^ d + met j f bottom d (foot h p x)) (sym nothing) in
      ap₂ reached (ap (λ (k : ℕ). node_for j f k p) low ∙ ap (node_for j f bottom) at) outputs
  walked (suc k) zero p x o e l hp = absurd (omega arith)
  walked (suc k) (suc g) p x o e l hp =
      let v = node_for j f (suc g) p in
      let var : get_or j.order (length j.order - suc (bottom + k)) 0 ≡ var_at j (suc g) =
      let at : length j.order - suc (bottom + k) ≡ t j - suc g = omega (arith, order-length j.n j.m j.order once) in
      ap (λ (i : ℕ). get_or j.order i 0) at in
      cond_no (ltb v 2) _ _ (le-ltb v 2 (node-from j f (suc g) p (omega arith)))
      ∙ by_test (is_input (var_at j (suc g)))
      (λ i.
      cond_yes _ _ _ (ap is_input var ∙ i)
      ∙ step_input g l (omega arith) p x hp k (λ p' o'. walked k g p' x o' (omega arith) (omega arith)) i o)
      (λ i.
      cond_no _ _ _ (ap is_input var ∙ i)
      ∙ step_output g l (omega arith) p x hp k (λ p' o'. walked k g p' x o' (omega arith) (omega arith)) i o)

  -- from the node of prefix p at height top, over the inputs x between
  pub descends : (top p x o : ℕ) → bottom ≤ top → top ≤ t j → p < 2 ^ (j.n - ins j top) → x < 2 ^ (ins j top - ins j bottom)
      → descend (words_of j f) j.order bottom (top - bottom) (node_for j f top p) x (ins j top - ins j bottom) o
      ≡ reached (node_for j f bottom (p * 2 ^ (ins j top - ins j bottom) + x))
      (o * 2 ^ (outs j top - outs j bottom) + met j f bottom (outs j top - outs j bottom) (p * 2 ^ (ins j top - ins j bottom) + x))
  descends top p x o low l hp hx =
      walked (top - bottom) top p x o (omega arith) l hp
      ∙ ap (λ (z : ℕ).
      let q = p * 2 ^ (ins j top - ins j bottom) + z in
      reached (node_for j f bottom q) (o * 2 ^ (outs j top - outs j bottom) + met j f bottom (outs j top - outs j bottom) q)) (mod-eq_of_lt hx)

  pub descent_is : (top p x : ℕ) → bottom ≤ top → top ≤ t j → p < 2 ^ (j.n - ins j top) → x < 2 ^ (ins j top - ins j bottom)
      → descent (words_of j f) j.order top bottom (node_for j f top p) x (ins j top - ins j bottom)
      ≡ reached (node_for j f bottom (p * 2 ^ (ins j top - ins j bottom) + x))
      (met j f bottom (outs j top - outs j bottom) (p * 2 ^ (ins j top - ins j bottom) + x))
  unfolding descent
  descent_is top p x low l hp hx =
      let q = p * 2 ^ (ins j top - ins j bottom) + x in
      let d = outs j top - outs j bottom in
      let z : 0 * 2 ^ d + met j f bottom d q ≡ met j f bottom d q = omega arith in
      cond_yes (leb top 20) _ _ (le-leb top 20 (omega arith)) ∙ descends top p x 0 low l hp hx ∙ ap (reached (node_for j f bottom q)) z
