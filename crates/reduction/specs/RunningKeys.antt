-- Keys: what the code of the cover keeps of each column. A column that is left has the key edges * 512 + number, so that the least key is
-- the column with fewest edges, ties to the lowest number; any other has the key gone. Edges are counted once; when a clique leaves, each
-- remaining column's edges are lowered by the members compatible with it (document 02, §2). That the rounds over keys give the cover is proved.
-- Assumes nothing.
use Rattle.std.specs.Prelude.{◌≡◌, ℕ, zero, suc, ◌+◌, ◌-◌, ◌*◌, ◌/◌, ◌%◌, ◌<◌, min, cond, List, eqb, ltb, get_or, set, replicate}
use Rattle.laws.specs.Tests.{count, sum}
use Rattle.laws.specs.Lists.{puts}
use Rattle.laws.specs.Bits.{flag}
use Rattle.reduction_spec.specs.Cover.{is_in}

-- the key of a column that is not left
abbrev pub gone : ℕ
gone = 4294967295

-- the least of the first n keys
unfoldable pub least_key : List ℕ → ℕ → ℕ
least_key keys zero = gone
least_key keys (suc n) = min (get_or keys n 0) (least_key keys n)

-- a candidate's key where the flag x is 1, else gone
unfoldable pub keeping : ℕ → ℕ → ℕ
keeping x k = cond (eqb x 1) k gone

-- the flags 1 on line c of the graph, but for c's own
unfoldable pub degree : ℕ → List ℕ → ℕ → ℕ
degree w graph c = sum w (λ d. flag (is_in graph (c * w + d))) - flag (is_in graph (c * w + c))

-- a column's key when all columns are left
unfoldable pub first_key : ℕ → List ℕ → ℕ → ℕ
first_key w graph c = degree w graph c * 512 + c

-- the key k with j edges fewer: the number of edges, whatever it was, is lowered by j, never below 0; what is gone stays so
unfoldable pub fewer_by : ℕ → ℕ → ℕ
fewer_by j k = cond (ltb k gone) ((k / 512 - j) * 512 + k % 512) k

-- the keys of the candidates as they stood when the round began, and the clique's members, count of them, as they joined
pub record Growth : Type 0 where
  pub cand : List ℕ
  pub members : List ℕ
  pub count : ℕ

-- between rounds: the keys of the columns left, and the cliques' numbers
pub record Stand : Type 0 where
  pub keys : List ℕ
  pub owner : List ℕ

-- the list l after v is stored for each of the first n members
unfoldable pub stored_for : ℕ → ℕ → List ℕ → List ℕ → List ℕ
stored_for v zero q l = l
stored_for v (suc n) q l = set (stored_for v n q l) (get_or q n 0) v

module _ (w : ℕ) (graph : List ℕ) where
  -- of the first n members those that are compatible with column c
  unfoldable pub partners : ℕ → List ℕ → ℕ → ℕ
  partners n q c = count n (λ i. is_in graph (get_or q i 0 * w + c))

  -- from the key of each column the clique's members compatible with it are taken
  unfoldable pub lowered_keys : ℕ → List ℕ → List ℕ → List ℕ
  lowered_keys n q keys = puts w (λ c. fewer_by (partners n q c) (get_or keys c 0)) keys

  -- the candidates' keys when column u joins
  unfoldable pub kept_keys : ℕ → List ℕ → List ℕ
  kept_keys u cand = set (puts w (λ d. keeping (get_or graph (u * w + d) 0) (get_or cand d 0)) cand) u gone

  -- column u joins the clique
  unfoldable pub joining : ℕ → Growth → Growth
  joining u s = record { cand = kept_keys u s.cand; members = set s.members s.count u; count = s.count + 1 }

  -- candidates join while there are any (at most n)
  unfoldable pub growing : ℕ → Growth → Growth
  growing zero s = s
  growing (suc n) s =
      let k = least_key s.cand w in
      let r = growing n (joining (k % 512) s) in
      cond (eqb k gone) s r

  -- the round of clique g, where k is the least key: a column without edges is a clique of its own, and nothing is lowered
  unfoldable pub alone : ℕ → ℕ → Stand → Stand
  alone g k s = record { keys = set s.keys (k % 512) gone; owner = set s.owner (k % 512) g }

  unfoldable pub opened : ℕ → Stand → Stand
  opened g s =
      let cand = puts w (λ c. get_or s.keys c 0) (replicate 512 0) in
      let r = growing w (record { cand = cand; members = replicate 512 0; count = 0 }) in
      record {
        keys = lowered_keys r.count r.members (stored_for gone r.count r.members s.keys);
        owner = stored_for g r.count r.members s.owner;
      }

  unfoldable pub turn : ℕ → ℕ → Stand → Stand
  turn g k s = cond (ltb k 512) (alone g k s) (opened g s)

  -- rounds while columns are left (at most n), of which the next clique has number g
  unfoldable pub turns : ℕ → ℕ → Stand → Stand
  turns zero g s = s
  turns (suc n) g s =
      let k = least_key s.keys w in
      let r = turns n (g + 1) (turn g k s) in
      cond (eqb k gone) s r

-- two columns are compatible either way round
abbrev pub Mutual : ℕ → List ℕ → Type 0
Mutual w graph = (c d : ℕ) → c < w → d < w → is_in graph (c * w + d) ≡ is_in graph (d * w + c)
