-- Splitting a job in two (document 02, §9; document 000, section 6): the m/2 outputs of lowest number form one job, the rest the other.
-- Assumes nothing.
use Rattle.std.specs.Prelude.{ℕ, ◌+◌, ◌-◌, ◌*◌, ◌/◌, ◌%◌, ◌^◌, Bool, cond, not, ◌&&◌, ◌||◌, List, [], ◌∷◌, eqb, ltb, length, get_or, take}
use Rattle.laws.specs.Lists.{tab, written}
use Rattle.sheet_spec.specs.Job.{Job, job, t, is_input, output_byte}
use Rattle.sheet_spec.specs.Refusals.{refuse1, refuse2, refuse3, refuse4}
use Rattle.reduction_spec.specs.declared.Node.{Node}
use Rattle.reduction_spec.specs.Diagram.{node_words}
use Rattle.cutting_spec.specs.Compile.{Totals, Answer, refused, accepted, CompiledAs, compile_as}

-- All outputs but the c from d on are taken away. As a job of its own these are numbered from 0.
-- the variable v stays: an input, or one of these outputs
unfoldable pub is_kept : ℕ → ℕ → ℕ → Bool
is_kept d c v = is_input v || not (ltb v (output_byte d)) && ltb v (output_byte d + c)

-- the order without the other outputs
unfoldable pub kept_order : ℕ → ℕ → List ℕ → List ℕ
kept_order d c [] = []
kept_order d c (v ∷ vs) = let rest = kept_order d c vs in cond (is_kept d c v) (cond (is_input v) v (v - d) ∷ rest) rest

-- the records without the other outputs, which stand in bytes 4 and 5 of each: byte k of a record, and the whole sheet
unfoldable pub kept_byte : ℕ → ℕ → ℕ → ℕ → ℕ
kept_byte d c k x = cond (eqb k 4 || eqb k 5) (x / 2 ^ d % 2 ^ c) x

unfoldable pub kept_sheet : ℕ → ℕ → List ℕ → List ℕ
kept_sheet d c s = tab (length s) (λ i. kept_byte d c (i % 8) (get_or s i 0))

-- stored records with the outputs numbered from d on: byte k of a record, and all
unfoldable pub raised_byte : ℕ → ℕ → ℕ → ℕ
raised_byte d k x = cond (eqb k 0 && not (is_input x)) (x + d) x

unfoldable pub raised : ℕ → List ℕ → List ℕ
raised d R = tab (length R) (λ i. raised_byte d (i % 4) (get_or R i 0))

-- the m/2 outputs of lowest number, rounded down, and the rest
pub data Half : Type 0 where
  first_half : Half
  second_half : Half

-- the half's lowest output, and how many it has
abbrev pub from_of : Half → Job → ℕ
from_of first_half j = 0
from_of second_half j = j.m / 2

abbrev pub count_of : Half → Job → ℕ
count_of first_half j = j.m / 2
count_of second_half j = j.m - j.m / 2

-- each half has the records, order and limits of the whole with the other outputs taken away
unfoldable pub half_job : Half → Job → Job
half_job h j = job j.n (count_of h j) j.K j.L (kept_order (from_of h j) (count_of h j) j.order)

unfoldable pub half_sheet : Half → Job → List ℕ → List ℕ
half_sheet h j s = kept_sheet (from_of h j) (count_of h j) s

-- 1 to 4 are tested on the whole job first; one output alone gives 1. 0 where there is none
unfoldable pub whole_refusal : Job → List ℕ → ℕ
whole_refusal j s =
    cond (eqb j.m 1 || refuse1 j) 1
    (cond (refuse2 j) 2
    (cond (refuse3 s) 3
    (cond (refuse4 j s) 4 0)))

-- what is lent to a half: its own node table, record buffer and row memory
pub record Lent (A : Type 0) : Type 0 where
  pub nodes : List A
  pub records : List ℕ
  pub rows : List ℕ

-- a refusal is the number alone; on acceptance the answer holds the totals of both halves
pub data SplitAnswer : Type 0 where
  refused_as : ℕ → SplitAnswer
  both : Totals → Totals → SplitAnswer

-- the answer, and what is lent to each half after
pub record SplitAs (A : Type 0) : Type 0 where
  pub answer : SplitAnswer
  pub first : Lent A
  pub second : Lent A

abbrev pub lent_to : {A : Type 0} → Half → SplitAs A → Lent A
lent_to first_half r = r.first
lent_to second_half r = r.second

-- held gives the nodes in the elements of the node memory
module _ {A : Type 0} (held : List Node → List A) where
  -- a half compiled as a job of its own
  unfoldable pub half_as : Half → Lent A → Job → List ℕ → CompiledAs A
  half_as h l j s = compile_as held l.nodes l.records l.rows (half_job h j) (half_sheet h j s)

  -- what its memories then hold: its stored records keep the job's own output numbers
  unfoldable pub half_lent : Half → Lent A → Job → List ℕ → Lent A
  half_lent h l j s =
      let r = half_as h l j s in
      record {
        nodes = r.nodes;
        records = written l.records 0 (raised (from_of h j) (take (4 * t (half_job h j)) r.records));
        rows = r.rows;
      }

  -- the first half's number comes first, and then neither half is written
  unfoldable pub decided : Answer → Answer → Lent A → Lent A → Lent A → Lent A → SplitAs A
  decided (refused n) b l k l' k' = record { answer = refused_as n; first = l; second = k }
  decided (accepted a) (refused n) l k l' k' = record { answer = refused_as n; first = l; second = k }
  decided (accepted a) (accepted b) l k l' k' = record { answer = both a b; first = l'; second = k' }

  -- l is lent to the first half, k to the second
  unfoldable pub split_as : Lent A → Lent A → Job → List ℕ → SplitAs A
  split_as l k j s =
      let n = whole_refusal j s in
      let a = (half_as first_half l j s).answer in
      let b = (half_as second_half k j s).answer in
      let r = decided a b l k (half_lent first_half l j s) (half_lent second_half k j s) in
      cond (eqb n 0) r (record { answer = refused_as n; first = l; second = k })

-- node tables of node records
unfoldable pub split : Lent Node → Lent Node → Job → List ℕ → SplitAs Node
split = split_as (λ xs. xs)

-- node tables of words, three a node
unfoldable pub split_words : Lent ℕ → Lent ℕ → Job → List ℕ → SplitAs ℕ
split_words = split_as node_words
