-- What a sheet says of an output for a word (document 01, "The sheet"; stop records by document 02, §3), and on which inputs that depends (document 02, §1).
-- Assumes nothing.
use Rattle.std.specs.Prelude.{ℕ, ◌^◌, Bool, not, cond, ◌&&◌, ◌||◌, List, eqb}
use Rattle.std.specs.Int.Bits.{bit_xor}
use Rattle.laws.specs.Tests.{any}
use Rattle.sheet_spec.specs.Records.{record_count, kind, ordinary, stop, matches, forces0, forces1}

-- a matching record of kind k forces output o to 0; to 1
unfoldable pub forced_to0 : List ℕ → ℕ → ℕ → ℕ → Bool
forced_to0 s k w o = any (record_count s) (λ r. eqb (kind s r) k && (matches s r w && forces0 s r o))

unfoldable pub forced_to1 : List ℕ → ℕ → ℕ → ℕ → Bool
forced_to1 s k w o = any (record_count s) (λ r. eqb (kind s r) k && (matches s r w && forces1 s r o))

-- free, d
abbrev pub free : ℕ
free = 2

-- an output is 0 or 1 for a word if a matching record of kind k forces it, else what is said otherwise
unfoldable pub value_by : List ℕ → ℕ → ℕ → ℕ → ℕ → ℕ
value_by s k w o otherwise = cond (forced_to0 s k w o) 0 (cond (forced_to1 s k w o) 1 otherwise)

-- a stop record decides, else an ordinary one, else the output is free
unfoldable pub value : List ℕ → ℕ → ℕ → ℕ
value s w o = value_by s stop w o (value_by s ordinary w o free)

-- a value b is allowed where the output is that value or free
unfoldable pub allows : ℕ → ℕ → Bool
allows v b = eqb v b || eqb v free

-- two words differ in input i alone
unfoldable pub differ_alone : ℕ → ℕ → ℕ → Bool
differ_alone i w v = eqb (bit_xor w v) (2 ^ i)

-- an output depends on an input: two words of n inputs that differ in that input alone give it different values among 0, 1 and d
unfoldable pub depends : ℕ → List ℕ → ℕ → ℕ → Bool
depends n s i o = any (2 ^ n) (λ w. any (2 ^ n) (λ v. differ_alone i w v && not (eqb (value s w o) (value s v o))))
