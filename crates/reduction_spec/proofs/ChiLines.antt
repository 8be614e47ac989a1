-- The characteristic function line by line: each output has a line of the table, and each output's bit is one that its line allows. So the
-- characteristic function of a sheet's table is that of the sheet, and that of its final table implies it.
-- Assumes nothing.
use mathlib.Core.Path.{◌≡◌, sym, ◌∙◌, ap}
use mathlib.Core.Bool.{Bool, true, false, ◌||◌, or-true}
use mathlib.Core.List.{List}
use Prim.Native.Nat.{ℕ, suc, ◌+◌, ◌*◌, ◌^◌, ◌<◌, ◌≤◌}
use native.Mathlib.Omega.{arith}
use lib.Dec.{eqb}
use lib.ListN.{get_or}
use Rattle.laws.specs.Tests.{every}
use Rattle.laws.specs.Bits.{bit, has}
use Rattle.laws.proofs.Cases.{by_test, by_less, same_test}
use Rattle.laws.proofs.Tests.{every_of, every_at, every_ext}
use Rattle.laws.proofs.Picked.{every_picked}
use Rattle.laws.proofs.Bits.{bit-lt}
use Rattle.sheet_spec.specs.Job.{Job, t, outs, var_at, is_input, output_byte, input_list, output_list, word_of}
use Rattle.sheet_spec.specs.Values.{value, allows}
use Rattle.sheet_spec.specs.Table.{table_at, table}
use Rattle.sheet_spec.specs.Characteristic.{meets, chi}
use Rattle.sheet_spec.specs.Accepted.{Accepted}
use Rattle.sheet_spec.specs.Refusals.{not_each_once, sheet_refusal}
use Rattle.sheet_spec.proofs.Promises.{output_below, outs-all, table-entry, table_below, job-accepted, meets-allows, chi-allows, output_number, output_listed, output_byte_lem, output_height}
use Rattle.reduction_spec.specs.Merge.{reduced}
use Rattle.reduction_spec.specs.Cofactors.{inputs_in, outputs_in, chi_of}
use Rattle.reduction_spec.proofs.AcceptedSheet.{reduced_refines}
use Rattle.reduction_spec.proofs.VariableBits.{CarriesOutputs, inputs_below, outputs_carried}

-- the value of the output at height g + 1 at place x of the table f
abbrev pub value_at : Job → List ℕ → ℕ → ℕ → ℕ
value_at j f x g = get_or f (outs j g * 2 ^ j.n + x) 0

-- an input, or an output whose bit is allowed
abbrev pub passes : Job → List ℕ → ℕ → ℕ → ℕ → Bool
passes j f x bits g = is_input (var_at j (suc g)) || allows (value_at j f x g) (bit bits g)

pub chi_passes : (j : Job) (f : List ℕ) (z : ℕ) → chi_of j f z ≡ every (t j) (passes j f (inputs_in j z) z)
unfolding chi_of
chi_passes j f z =
    every_ext (λ g. is_input (var_at j (suc g)) || meets (has z g) (value_at j f (inputs_in j z) g)) (passes j f (inputs_in j z) z) (t j)
    (λ g l.
    ap (λ (b : Bool). is_input (var_at j (suc g)) || b) (meets-allows (bit z g) (value_at j f (inputs_in j z) g) (bit-lt z g)))

-- the outputs by their lines
module _ (j : Job) (once : not_each_once j.n j.m j.order ≡ false) (few : j.n ≤ 12) (out : j.m ≤ 8) where
  pub output_line : (g : ℕ) → g < t j → is_input (var_at j (suc g)) ≡ false → output_byte (get_or (output_list j) (outs j g) 0) ≡ var_at j (suc g)
  output_line g l i = omega (arith, output_listed j once few out g l i, output_byte_lem j once few out g l i)

  -- each output has a line
  pub outputs-all : (o : ℕ) → o < j.m → (k : ℕ) × (k < j.m) × (get_or (output_list j) k 0 ≡ o)
  outputs-all o ho =
      let (g, l, i, is) = output_height j once few out o ho in
      (outs j g, output_number j once few out g l i, output_listed j once few out g l i ∙ is)

  -- a test of each output is one of each line
  every-line : (p : ℕ → Bool) → every j.m (λ k. p (get_or (output_list j) k 0)) ≡ every j.m p
  every-line p =
      same_test (every j.m (λ k. p (get_or (output_list j) k 0))) (every j.m p)
      (λ e.
      every_of p j.m (λ o ho.
      let (k, hk, is) = outputs-all o ho in
      ap p (sym is) ∙ every_at (λ k. p (get_or (output_list j) k 0)) j.m e k hk))
      (λ e.
      every_of (λ k. p (get_or (output_list j) k 0)) j.m (λ k hk.
      every_at p j.m e (get_or (output_list j) k 0) (output_below j.n j.m j.order once few out k hk)))

  pub passes_lines : (f : List ℕ) (x y bits : ℕ) → CarriesOutputs j y bits
      → every (t j) (passes j f x bits) ≡ every j.m (λ k. allows (get_or f (k * 2 ^ j.n + x) 0) (bit y (get_or (output_list j) k 0)))
  unfolding outs
  passes_lines f x y bits d =
      let line : ℕ → Bool = λ k. allows (get_or f (k * 2 ^ j.n + x) 0) (bit y (get_or (output_list j) k 0)) in
      every_picked (λ g. is_input (var_at j (suc g))) (λ g. allows (value_at j f x g) (bit bits g)) line (t j)
      (λ g l i.
      ap (λ (b : ℕ). allows (value_at j f x g) b) (d g (get_or (output_list j) (outs j g) 0) l (sym (output_line g l i))))
      ∙ ap (λ (b : ℕ). every b line) (outs-all j once few out)

  pub chi_lines : (s : List ℕ) (x y : ℕ) → chi j.m s (word_of (input_list j) x) y
      ≡ every j.m (λ k. allows (table_at j.n j.m j.order s k x) (bit y (get_or (output_list j) k 0)))
  unfolding table_at
  chi_lines s x y =
      chi-allows j.m s (word_of (input_list j) x) y ∙ sym (every-line (λ i. allows (value s (word_of (input_list j) x) i) (bit y i)))

  -- what the table of a sheet allows is what the sheet allows
  pub table-chi : (s : List ℕ) (x y : ℕ) → x < 2 ^ j.n
      → every j.m (λ k. allows (get_or (table j s) (k * 2 ^ j.n + x) 0) (bit y (get_or (output_list j) k 0))) ≡ chi j.m s (word_of (input_list j) x) y
  table-chi s x y hx =
      every_ext (λ k. allows (get_or (table j s) (k * 2 ^ j.n + x) 0) (bit y (get_or (output_list j) k 0)))
      (λ k. allows (table_at j.n j.m j.order s k x) (bit y (get_or (output_list j) k 0))) j.m
      (λ k hk. ap (λ (v : ℕ). allows v (bit y (get_or (output_list j) k 0))) (table-entry j s k x hk hx))
      ∙ sym (chi_lines s x y)

-- a value allowed where another refines it
pub allows_refined : (v u b : ℕ) → v < 3 → (v < 2 → u ≡ v) → allows u b ≡ true → allows v b ≡ true
unfolding allows
allows_refined v u b h same e =
    by_less v 2 (λ l. ap (λ (z : ℕ). allows z b) (sym (same l)) ∙ e)
    (λ l. let two : v ≡ 2 = omega arith in ap (λ (z : ℕ). eqb z b || eqb z 2) two ∙ or-true (eqb 2 b))

-- a job and sheet that are accepted
module _ (j : Job) (s : List ℕ) (e : sheet_refusal j s ≡ 0) where
  accepted : Accepted j.n j.m j.order s
  accepted = job-accepted j s e

  pub chi-sheet : (z : ℕ) → chi_of j (table j s) z ≡ chi j.m s (word_of (input_list j) (inputs_in j z)) (outputs_in j z)
  chi-sheet z =
      let a = accepted.order-whole in
      let b = accepted.inputs in
      let c = accepted.outputs in
      chi_passes j (table j s) z ∙ passes_lines j a b c (table j s) (inputs_in j z) (outputs_in j z) z (outputs_carried j a b c z)
      ∙ table-chi j a b c s (inputs_in j z) (outputs_in j z) (inputs_below j a b c z)

  -- along the final table only what the sheet's table allows is met
  pub passes_refined : (x bits g : ℕ) → x < 2 ^ j.n → g < t j → passes j (reduced j (table j s)) x bits g ≡ true → passes j (table j s) x bits g ≡ true
  passes_refined x bits g hx l p =
      by_test (is_input (var_at j (suc g))) (λ i. ap (λ (b : Bool). b || allows (value_at j (table j s) x g) (bit bits g)) i)
      (λ i.
      let k = outs j g in
      let hk : k < j.m = output_number j accepted.order-whole accepted.inputs accepted.outputs g l i in
      let at = table-entry j s k x hk hx in
      let v = value_at j (table j s) x g in
      ap (λ (b : Bool). b || allows v (bit bits g)) i
      ∙ allows_refined v (value_at j (reduced j (table j s)) x g) (bit bits g) (table_below j.n j.m j.order s (k * 2 ^ j.n + x))
      (λ l. reduced_refines j s e k x v hk hx l (sym at))
      (ap (λ (b : Bool). b || allows (value_at j (reduced j (table j s)) x g) (bit bits g)) (sym i) ∙ p))

  pub final_implies : (z : ℕ) → chi_of j (reduced j (table j s)) z ≡ true → chi_of j (table j s) z ≡ true
  final_implies z p =
      let x = inputs_in j z in
      let hx = inputs_below j accepted.order-whole accepted.inputs accepted.outputs z in
      let f = reduced j (table j s) in
      chi_passes j (table j s) z
      ∙ every_of (passes j (table j s) x z) (t j) (λ g l.
      passes_refined x z g hx l (every_at (passes j f x z) (t j) (sym (chi_passes j f z) ∙ p) g l))
