-- One height further down below an input, and below an output: the columns that the code looks at have names, and its planes hold them.
-- Assumes nothing.
use mathlib.Core.Path.{◌≡◌, sym, ◌∙◌, ap}
use mathlib.Core.Bool.{Bool, true, false}
use mathlib.Core.List.{List}
use Prim.Native.Nat.{ℕ, suc, ◌+◌, ◌*◌, ◌/◌, ◌%◌, ◌^◌, ◌<◌, ◌≤◌}
use native.Mathlib.Nat.{add-mul}
use native.Mathlib.Omega.{arith}
use lib.Dec.{eqb}
use lib.ListN.{length, get_or, replicate, length-replicate}
use Rattle.reduction_spec.specs.Columns.{entry, number_in, firsts}
use Rattle.reduction_spec.specs.Merge.{merge}
use Rattle.reduction.specs.Packed.{size, value_in}
use Rattle.reduction.specs.Lowering.{candidate_count, plane_below, firsts_below, cliques_below, number_below, product_below}
use Rattle.reduction.proofs.packed.Planes.{Plane}
use Rattle.reduction.proofs.packed.PlanesMade.{lines_plane, value_plane}
use Rattle.reduction.proofs.packed.PlanesHalved.{halves_plane}
use Rattle.reduction_spec.proofs.ColumnsBelow.{Names, input_names, output_names, input_entry}
use Rattle.reduction.proofs.heights.CliqueProducts.{plane_ext}
use Rattle.reduction.proofs.heights.OneHeight.{below_width, below_after, below_child, below_zeros, below_ones}

-- what one height further down makes of a table g: w columns become those of the table after the merge
pub record Step (n m a b : ℕ) (g : List ℕ) (input : Bool) (w : ℕ) (name : ℕ → ℕ) (count : ℕ) (zs os : List ℕ) : Type 0 where
  pub width_before : length (firsts n a b g) ≡ length (firsts_below input a b (size a) w zs os)
  pub width-after : length (firsts n a b (merge n m a b g)) ≡ length (cliques_below input a b (size a) w zs os)
  pub child : (q : ℕ) → q < count → number_below input a b (size a) w zs os q ≡ number_in n a b (merge n m a b g) (firsts n a b (merge n m a b g)) (name q)
  pub zeros-after : length (firsts_below input a b (size a) w zs os) ≤ 512 → (old : List ℕ) → length old ≡ 1024
      → Plane a b (length (firsts n a b (merge n m a b g))) (λ i k x. eqb (entry n a (merge n m a b g) (get_or (firsts n a b (merge n m a b g)) i 0) k x) 0)
      (product_below input a b (size a) w zs os zs old)
  pub ones-after : length (firsts_below input a b (size a) w zs os) ≤ 512 → (old : List ℕ) → length old ≡ 1024
      → Plane a b (length (firsts n a b (merge n m a b g))) (λ i k x. eqb (entry n a (merge n m a b g) (get_or (firsts n a b (merge n m a b g)) i 0) k x) 1)
      (product_below input a b (size a) w zs os os old)

module _ (n m a b : ℕ) (g : List ℕ) (ha : suc a ≤ n) (hb : b ≤ m) (few : b ≤ 8) (small : (i : ℕ) → get_or g i 0 < 3) (w : ℕ) (is : w ≡ length (firsts n (suc a) b g))
    (narrow : w ≤ 512) (room : w * 2 * size a ≤ 1024) (zs os : List ℕ)
    (zeros : Plane (suc a) b w (λ c k x. eqb (entry n (suc a) g (get_or (firsts n (suc a) b g) c 0) k x) 0) zs)
    (ones : Plane (suc a) b w (λ c k x. eqb (entry n (suc a) g (get_or (firsts n (suc a) b g) c 0) k x) 1) os) where
  abbrev name_in : ℕ → ℕ
  name_in q = get_or (firsts n (suc a) b g) (q / 2) 0 * 2 + q % 2

  halved : (v : ℕ) (from : List ℕ) → Plane (suc a) b w (λ c k x. eqb (entry n (suc a) g (get_or (firsts n (suc a) b g) c 0) k x) v) from
      → Plane a b (candidate_count true a b (size a) w zs os) (λ q k x. eqb (entry n a g (name_in q) k x) v) (plane_below true a b (size a) w zs os from)
  unfolding candidate_count plane_below
  halved v from p =
      plane_ext a b (w * 2) (λ q k x. eqb (entry n (suc a) g (get_or (firsts n (suc a) b g) (q / 2) 0) k (q % 2 * 2 ^ a + x)) v) (λ q k x. eqb (entry n a g (name_in q) k x) v) _
      (λ q k x hq hk hx. ap (λ (y : ℕ). eqb y v) (sym (input_entry n a g (get_or (firsts n (suc a) b g) (q / 2) 0) (q % 2) k x)))
      (halves_plane a b w (λ c k x. eqb (entry n (suc a) g (get_or (firsts n (suc a) b g) c 0) k x) v) from (replicate 1024 0) few narrow room (length-replicate {A = ℕ} 1024 0) p)

  named_in : Names n a b g (candidate_count true a b (size a) w zs os) name_in
  unfolding candidate_count
  named_in = rw is (input_names n a b g ha)

  pub input_step : Step n m a b g true w (λ q. get_or (firsts n (suc a) b g) (q / 2) 0 * 2 + q % 2) (w * 2) zs os
  unfolding candidate_count
  input_step =
      let la : a ≤ n = omega arith in
      record {
        width_before = below_width n m a b g la hb few small true w zs os name_in named_in (halved 0 zs zeros) (halved 1 os ones);
        width-after = below_after n m a b g la hb few small true w zs os name_in named_in (halved 0 zs zeros) (halved 1 os ones);
        child = below_child n m a b g la hb few small true w zs os name_in named_in (halved 0 zs zeros) (halved 1 os ones);
        zeros-after = λ h old len. below_zeros n m a b g la hb few small true w zs os name_in named_in (halved 0 zs zeros) (halved 1 os ones) h room old len;
        ones-after = λ h old len. below_ones n m a b g la hb few small true w zs os name_in named_in (halved 0 zs zeros) (halved 1 os ones) h room old len;
      }

module _ (n m a b : ℕ) (g : List ℕ) (ha : a ≤ n) (hb : suc b ≤ m) (few : b < 8) (small : (i : ℕ) → get_or g i 0 < 3) (w : ℕ) (is : w ≡ length (firsts n a (suc b) g))
    (narrow : w ≤ 512) (room : w * 2 * size a ≤ 1024) (zs os : List ℕ)
    (zeros : Plane a (suc b) w (λ c k x. eqb (entry n a g (get_or (firsts n a (suc b) g) c 0) k x) 0) zs)
    (ones : Plane a (suc b) w (λ c k x. eqb (entry n a g (get_or (firsts n a (suc b) g) c 0) k x) 1) os) where
  abbrev name_out : ℕ → ℕ
  name_out q = get_or (firsts n a (suc b) g) q 0

  half_room : w * size a ≤ 1024
  half_room = let e : w * 2 * size a ≡ w * size a + w * size a = twice w (size a) in omega arith
    where
      twice : (x y : ℕ) → x * 2 * y ≡ x * y + x * y
      twice x y = let e : x * 2 ≡ x + x = omega arith in ap (λ (i : ℕ). i * y) e ∙ add-mul x x y

  lined : (v : ℕ) (from : List ℕ) → Plane a (suc b) w (λ c k x. eqb (entry n a g (get_or (firsts n a (suc b) g) c 0) k x) v) from
      → Plane a b (candidate_count false a b (size a) w zs os) (λ q k x. eqb (entry n a g (name_out q) k x) v) (plane_below false a b (size a) w zs os from)
  unfolding candidate_count plane_below
  lined v from p =
      lines_plane a b w (λ c k x. eqb (entry n a g (name_out c) k x) v) from (replicate 1024 0) few half_room (length-replicate {A = ℕ} 1024 0) p

  named_out : Names n a b g (candidate_count false a b (size a) w zs os) name_out
  unfolding candidate_count
  named_out = rw is (output_names n a b g)

  pub output_step : Step n m a b g false w (λ q. get_or (firsts n a (suc b) g) q 0) w zs os
  unfolding candidate_count
  output_step =
      let lb : b ≤ m = omega arith in
      let fb : b ≤ 8 = omega arith in
      record {
        width_before = below_width n m a b g ha lb fb small false w zs os name_out named_out (lined 0 zs zeros) (lined 1 os ones);
        width-after = below_after n m a b g ha lb fb small false w zs os name_out named_out (lined 0 zs zeros) (lined 1 os ones);
        child = below_child n m a b g ha lb fb small false w zs os name_out named_out (lined 0 zs zeros) (lined 1 os ones);
        zeros-after = λ h old len. below_zeros n m a b g ha lb fb small false w zs os name_out named_out (lined 0 zs zeros) (lined 1 os ones) h half_room old len;
        ones-after = λ h old len. below_ones n m a b g ha lb fb small false w zs os name_out named_out (lined 0 zs zeros) (lined 1 os ones) h half_room old len;
      }

  -- the value of the output at the first place of each column
  pub output_value : (c : ℕ) → c < w → value_in (get_or zs (c * size a) 0) (get_or os (c * size a) 0) b ≡ entry n a g (get_or (firsts n a (suc b) g) c 0) b 0
  output_value c hc =
      value_plane a b w (λ c k x. entry n a g (name_out c) k x) zs os few (λ c k x. small (k * 2 ^ n + (name_out c * 2 ^ a + x))) zeros ones c hc
