-- The characteristic function of a function given as a table, its cofactors and the widths that they give (document 000, definitions 2.3
-- and 3.5), and the characteristic function of a column. Bit g of z is the value of the variable at height g + 1, input or output.
-- Assumes nothing.
use Rattle.std.specs.Prelude.{ℕ, suc, ◌+◌, ◌-◌, ◌*◌, ◌^◌, Bool, not, cond, ◌&&◌, ◌||◌, List, get_or}
use Rattle.std.specs.Bool.{beq}
use Rattle.laws.specs.Tests.{every, count, sum}
use Rattle.laws.specs.Bits.{bit, has}
use Rattle.sheet_spec.specs.Job.{Job, t, is_input, var_at, ins, outs}
use Rattle.sheet_spec.specs.Characteristic.{meets}
use Rattle.reduction_spec.specs.Columns.{entry}

-- the inputs of z, read down the order as a number, topmost most significant; the outputs' bits of z as a word, bit o for output o
unfoldable pub inputs_in : Job → ℕ → ℕ
inputs_in j z = sum (t j) (λ g. cond (is_input (var_at j (suc g))) (bit z g * 2 ^ ins j g) 0)

unfoldable pub outputs_in : Job → ℕ → ℕ
outputs_in j z = sum (t j) (λ g. cond (is_input (var_at j (suc g))) 0 (bit z g * 2 ^ (var_at j (suc g) - 128)))

-- definition 2.3, of the function with the table f: each output's bit meets its value
unfoldable pub chi_of : Job → List ℕ → ℕ → Bool
chi_of j f z = every (t j) (λ g. is_input (var_at j (suc g)) || meets (has z g) (get_or f (outs j g * 2 ^ j.n + inputs_in j z) 0))

-- the cofactor at height h for the values u of the variables above: what the characteristic function gives for the values v of those at
-- heights h to 1
abbrev pub cofactor : Job → List ℕ → ℕ → ℕ → ℕ → Bool
cofactor j f h u v = chi_of j f (u * 2 ^ h + v)

-- two values of the variables above have the same cofactor; the cofactor of one is constant 0
unfoldable pub same_cofactor : Job → List ℕ → ℕ → ℕ → ℕ → Bool
same_cofactor j f h u u' = every (2 ^ h) (λ v. beq (cofactor j f h u v) (cofactor j f h u' v))

unfoldable pub zero_cofactor : Job → List ℕ → ℕ → ℕ → Bool
zero_cofactor j f h u = every (2 ^ h) (λ v. not (cofactor j f h u v))

-- definition 3.5: the edges that cross from height h + 1 to height h. Those incident to the same node, that is those with the same
-- cofactor, are counted as one, by the least of them; those to constant 0 are not counted
unfoldable pub cofactor_width : Job → List ℕ → ℕ → ℕ
cofactor_width j f h = count (2 ^ (t j - h)) (λ u. not (zero_cofactor j f h u) && every u (λ u'. not (same_cofactor j f h u' u)))

-- the characteristic function of the column of prefix p alone: x are the values of the a inputs at heights h to 1, and bit k of y is that
-- of the output with k outputs below it
unfoldable pub column_chi : ℕ → ℕ → ℕ → List ℕ → ℕ → ℕ → ℕ → Bool
column_chi n a b f p x y = every b (λ k. meets (has y k) (entry n a f p k x))
