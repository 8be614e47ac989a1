-- The job, its order and its heights (document 01, "The job").
-- Assumes nothing.
use Rattle.std.specs.Prelude.{ℕ, zero, suc, ◌+◌, ◌-◌, ◌*◌, ◌^◌, Bool, not, cond, List, [], ◌∷◌, ◌++◌, ltb, length, get_or}
use Rattle.laws.specs.Tests.{count, sum}
use Rattle.laws.specs.Bits.{bit}

-- n inputs, m outputs, cell limits K inputs and L outputs, and an order, top first
pub record Job : Type 0 where
  pub n : ℕ
  pub m : ℕ
  pub K : ℕ
  pub L : ℕ
  pub order : List ℕ

abbrev pub job : ℕ → ℕ → ℕ → ℕ → List ℕ → Job
job n m k l order = record { n = n; m = m; K = k; L = l; order = order }

-- t = n + m
abbrev pub t : Job → ℕ
t j = j.n + j.m

-- input i is i, output i is 128 + i
abbrev pub is_input : ℕ → Bool
is_input v = ltb v 128

abbrev pub output_byte : ℕ → ℕ
output_byte o = 128 + o

-- the variable at height h: the top variable has height t, the last height 1
abbrev pub var_at : Job → ℕ → ℕ
var_at j h = get_or j.order (t j - h) 0

-- how many inputs, and how many outputs, stand at heights h to 1
unfoldable pub ins : Job → ℕ → ℕ
ins j h = count h (λ k. is_input (var_at j (suc k)))

unfoldable pub outs : Job → ℕ → ℕ
outs j h = count h (λ k. not (is_input (var_at j (suc k))))

-- the inputs, and the outputs, at heights h to 1 of an order of t variables, lowest first
unfoldable pub inputs_to : ℕ → List ℕ → ℕ → List ℕ
inputs_to t order zero = []
inputs_to t order (suc h) =
    let v = get_or order (t - suc h) 0 in
    let l = inputs_to t order h in
    cond (is_input v) (l ++ (v ∷ [])) l

unfoldable pub outputs_to : ℕ → List ℕ → ℕ → List ℕ
outputs_to t order zero = []
outputs_to t order (suc h) =
    let v = get_or order (t - suc h) 0 in
    let l = outputs_to t order h in
    cond (is_input v) l (l ++ ((v - 128) ∷ []))

-- all inputs, and all outputs, lowest first
abbrev pub input_list : Job → List ℕ
input_list j = inputs_to (t j) j.order (t j)

abbrev pub output_list : Job → List ℕ
output_list j = outputs_to (t j) j.order (t j)

-- The inputs of a word are read as a number, topmost input most significant: bit k of the number is the kth lowest input.
-- The word of a number, and the number of a word; is are the inputs, lowest first
unfoldable pub word_of : List ℕ → ℕ → ℕ
word_of is x = sum (length is) (λ k. bit x k * 2 ^ get_or is k 0)

unfoldable pub number_of : List ℕ → ℕ → ℕ
number_of is w = sum (length is) (λ k. bit w (get_or is k 0) * 2 ^ k)
