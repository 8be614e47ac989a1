-- The sets of rail words are exact: a rail word is in the set before cell k exactly where some filling of the unknown inputs has it there, and a
-- row of cell k may be read exactly where some filling reads it.
-- Assumes nothing.
use mathlib.Core.Path.{◌≡◌, refl, sym, ◌∙◌, ap}
use mathlib.Core.Bool.{Bool, true, ◌&&◌, ◌||◌}
use mathlib.Core.List.{List}
use Prim.Native.Nat.{ℕ, zero, suc, ◌+◌, ◌*◌, ◌/◌, ◌%◌, ◌^◌, ◌<◌, ◌≤◌}
use native.Mathlib.Nat.{mod-lt}
use native.Mathlib.Omega.{arith}
use lib.Dec.{eqb}
use lib.ListN.{length, length-replicate}
use lib.Pow.{pow_pos, pow_mono, split, high, low}
use borrow.Author.Tests.{eqb-true, eq-eqb}
use Rattle.laws.specs.Tests.{any}
use Rattle.laws.proofs.Cases.{and_split, and_join}
use Rattle.laws.proofs.Tests.{every_at, any_of, any_at}
use Rattle.stored_spec.specs.Cells.{rows}
use Rattle.stored_spec.specs.RowBytes.{two_bytes, row_value}
use Rattle.stored_spec.specs.StoredForm.{cell_count, cell_at, size_of, cell_formed_as, records_formed}
use Rattle.stored_spec.specs.Run.{Running, address, row_place, outputs_after, rail_after, run, run_by, ran_one_by}
use Rattle.stored_spec.proofs.CellSizes.{few-outputs}
use Rattle.stored_spec.proofs.StoredParts.{records_have}
use Rattle.stored_spec.proofs.FormedCells.{inputs-small, address-lt}
use Rattle.stored_spec.proofs.SameRuns.{kept-inputs, rail-within}
use Rattle.stored_spec.proofs.OneCell.{once_in}
use Rattle.evaluation_spec.specs.RailSets.{rail_words, no_rails, is_in, with_rail, agrees, may_read, row_at, read_at, gathered, rail_set}
use Rattle.stored_spec.proofs.LowerRails.{few-lower}
use Rattle.evaluation_spec.proofs.Words.{Fills, address-from, gather_lt, scatter, scatter_gathers, scatter_fills, fills-agrees}
use Rattle.evaluation_spec.proofs.Mixed.{mixed, mixed_small, mixed_fills, mixed_run, mixed_address}
use Rattle.evaluation_spec.proofs.Gathering.{none_in, in_with, next-has}

-- before the first cell the rail word is 0
first_in_lem : (r : ℕ) → is_in (with_rail no_rails 0) r ≡ eqb r 0
first_in_lem r = in_with no_rails 0 r (length-replicate {A = ℕ} rail_words 0) (omega arith) ∙ ap (λ (b : Bool). b || eqb r 0) (none_in r)

module _ (known w : ℕ) (R bytes : List ℕ) (formed : records_formed R ≡ true) where
  pub outputs-few : (k : ℕ) → k < cell_count R → length (cell_at R k).outs + (cell_at R k).lower ≤ 16
  unfolding size_of cell_formed_as
  outputs-few k l = few-outputs (size_of (cell_at R k)) (every_at (cell_formed_as two_bytes R) (cell_count R) (records_have two_bytes R formed).cells k l)

  -- the row of cell k that the word v reads, by its number in the cell
  abbrev pub read_by : ℕ → ℕ → ℕ
  read_by v k = address (run R bytes v k).rail (cell_at R k).ins v

  -- the rail word below row i of cell k
  abbrev rail_below : ℕ → ℕ → ℕ
  rail_below k i = rail_after (cell_at R k) (row_at known w R bytes k i)

  abbrev may_read_at : ℕ → ℕ → Bool
  may_read_at k i = may_read known w (cell_at R k) (rail_set known w R bytes k) i

  next-rail : (v k : ℕ) → (run R bytes v (suc k)).rail ≡ rail_below k (read_by v k)
  unfolding run_by ran_one_by row_place row_at
  next-rail v k = refl

  pub next-outputs : (v k : ℕ) → (run R bytes v (suc k)).outputs
      ≡ outputs_after (cell_at R k) (run R bytes v k).outputs (row_at known w R bytes k (read_by v k))
  unfolding run_by ran_one_by row_place row_at
  next-outputs v k = refl

  pub read-within : (v k : ℕ) → k < cell_count R → read_by v k < rows (size_of (cell_at R k))
  unfolding rows size_of
  read-within v k l = address-lt (cell_at R k).upper (run R bytes v k).rail (cell_at R k).ins v (rail-within R formed (row_value two_bytes bytes) v k l)

  below_small : (k : ℕ) → k < cell_count R → (i : ℕ) → rail_below k i < 4096
  unfolding rail_after
  below_small k l i =
      let m : 2 ^ (cell_at R k).lower ≤ 4096 = pow_mono {j = 12} (few-lower R formed k l) in
      omega (arith, mod-lt (row_at known w R bytes k i) (pow_pos (cell_at R k).lower))

  -- the rail words below cell k are those below the rows that may be read
  next_in : (k : ℕ) → k < cell_count R → (r : ℕ) → is_in (rail_set known w R bytes (suc k)) r
      ≡ any (rows (size_of (cell_at R k))) (λ i. may_read_at k i && eqb r (rail_below k i))
  unfolding rail_set gathered read_at
  next_in k l r = next-has (may_read_at k) (row_at known w R bytes k) (rail_below k) (below_small k l) r (rows (size_of (cell_at R k)))

  -- a filling reads a row that may be read, where its rail word is in the set
  reads : (v k : ℕ) → Fills known w v → is_in (rail_set known w R bytes k) (run R bytes v k).rail ≡ true → may_read_at k (read_by v k) ≡ true
  unfolding may_read
  reads v k f e =
      let is = (cell_at R k).ins in
      let r = (run R bytes v k).rail in
      let whole = address-from is r v in
      let top : read_by v k / 2 ^ length is ≡ r = ap (λ (x : ℕ). x / 2 ^ length is) whole ∙ high r (length is) (gather_lt is v) in
      let rest : read_by v k % 2 ^ length is ≡ address 0 is v = ap (λ (x : ℕ). x % 2 ^ length is) whole ∙ low r (length is) (gather_lt is v) in
      and_join (ap (is_in (rail_set known w R bytes k)) top ∙ e) (ap (agrees known w is) rest ∙ fills-agrees known w is v (inputs-small R formed k) f)

  -- the rail word of a filling is in the set
  pub set-has : (v k : ℕ) → k < cell_count R → Fills known w v → is_in (rail_set known w R bytes k) (run R bytes v k).rail ≡ true
  unfolding rail_set run_by
  set-has v zero l f = first_in_lem 0
  set-has v (suc k) l f =
      let before : k < cell_count R = omega arith in
      next_in k before (run R bytes v (suc k)).rail
      ∙ any_of _ (rows (size_of (cell_at R k))) (read_by v k) (read-within v k before)
      (and_join (reads v k f (set-has v k before f)) (eq-eqb _ _ (next-rail v k)))

  pub row_read_lem : (v k : ℕ) → k < cell_count R → Fills known w v → may_read known w (cell_at R k) (rail_set known w R bytes k) (read_by v k) ≡ true
  row_read_lem v k l f = reads v k f (set-has v k l f)

  -- a word that fills and has the rail word r before cell k
  pub record Reaches (k r : ℕ) : Type 0 where
    pub word : ℕ
    pub small : word < 4096
    pub fill : Fills known w word
    pub rail : (run R bytes word k).rail ≡ r

  -- one that reads row i of cell k
  pub record ReadsRow (k i : ℕ) : Type 0 where
    pub word : ℕ
    pub small : word < 4096
    pub fill : Fills known w word
    pub reads : read_by word k ≡ i

  reads_back : (k : ℕ) → k < cell_count R → ((r : ℕ) → is_in (rail_set known w R bytes k) r ≡ true → Reaches k r)
      → (i : ℕ) → may_read_at k i ≡ true → ReadsRow k i
  unfolding may_read
  reads_back k l back i e =
      let is = (cell_at R k).ins in
      let n = length is in
      let (a, b) = and_split (is_in (rail_set known w R bytes k) (i / 2 ^ n)) (agrees known w is (i % 2 ^ n)) e in
      let v = back (i / 2 ^ n) a in
      let below = inputs-small R formed k in
      let low-lt = mod-lt i (pow_pos n) in
      let u = scatter is (i % 2 ^ n) v.word in
      let g = scatter_fills known w is (i % 2 ^ n) v.word below low-lt b v.fill in
      let m = mixed R bytes formed k v.word u in
      record {
        word = m;
        small = mixed_small R bytes formed k v.word u;
        fill = mixed_fills R bytes formed k v.word u known w v.fill g;
        reads =
            ap (λ (s : Running). address s.rail is m) (mixed_run R bytes formed k v.word u)
            ∙ ap (λ (r : ℕ). address r is m) v.rail ∙ mixed_address R bytes formed k v.word u l (i / 2 ^ n)
            ∙ address-from is (i / 2 ^ n) u
            ∙ ap (λ (x : ℕ). i / 2 ^ n * 2 ^ n + x) (scatter_gathers is (i % 2 ^ n) v.word (once_in R formed k l) below low-lt)
            ∙ split i n;
      }

  reached : (k i r : ℕ) → ReadsRow k i → rail_below k i ≡ r → Reaches (suc k) r
  reached k i r v e =
      record { word = v.word; small = v.small; fill = v.fill; rail = next-rail v.word k ∙ ap (rail_below k) v.reads ∙ e }

  -- a rail word of the set occurs
  pub occurs : (k : ℕ) → k < cell_count R → (r : ℕ) → is_in (rail_set known w R bytes k) r ≡ true → Reaches k r
  unfolding rail_set run_by
  occurs zero l r e =
      record {
        word = w % 4096;
        small = mod-lt w (pow_pos 12);
        fill = λ i p q. kept-inputs w i p;
        rail = sym (eqb-true r 0 (sym (first_in_lem r) ∙ e));
      }
  occurs (suc k) l r e =
      let before : k < cell_count R = omega arith in
      let (i, p, q) = any_at _ (rows (size_of (cell_at R k))) (sym (next_in k before r) ∙ e) in
      let (a, b) = and_split (may_read_at k i) (eqb r (rail_below k i)) q in
      reached k i r (reads_back k before (occurs k before) i a) (sym (eqb-true r (rail_below k i) b))

  pub rails-small : (k : ℕ) → k < cell_count R → (r : ℕ) → is_in (rail_set known w R bytes k) r ≡ true → r < 2 ^ (cell_at R k).upper
  rails-small k l r e = let v = occurs k l r e in omega (arith, v.rail, rail-within R formed (row_value two_bytes bytes) v.word k l)

  -- a row that may be read is read by a filling
  pub row-reached : (k : ℕ) → k < cell_count R → (i : ℕ) → may_read known w (cell_at R k) (rail_set known w R bytes k) i ≡ true → ReadsRow k i
  row-reached k l = reads_back k l (occurs k l)
