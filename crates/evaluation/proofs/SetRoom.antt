-- The set of the rail words above a cell has them in its first words: as many as its upper rails need.
-- Assumes nothing.
use mathlib.Core.Path.{◌≡◌, sym, subst}
use mathlib.Core.Bool.{true}
use mathlib.Core.List.{List}
use Prim.Native.Nat.{ℕ, zero, suc, ◌+◌, ◌/◌, ◌%◌, ◌^◌, ◌<◌}
use native.Mathlib.Nat.{mod-lt}
use native.Mathlib.Omega.{arith}
use lib.Pow.{pow_pos}
use Rattle.laws.proofs.Cases.{cond_both}
use Rattle.stored_spec.specs.Cells.{rows}
use Rattle.stored_spec.specs.StoredForm.{cell_count, cell_at, size_of, records_formed}
use Rattle.stored_spec.specs.Run.{rail_after}
use Rattle.stored_spec.proofs.FormedCells.{rails_follow}
use Rattle.evaluation_spec.specs.RailSets.{Gathered, no_rails, none_read, may_read, row_at, read_at, gathered, rail_set}
use Rattle.evaluation.specs.Agreeing.{Within}
use Rattle.evaluation.proofs.gather.MovedSets.{turns_keep, none_within, within-rail, within-row}

module _ (known w : ℕ) (R bytes : List ℕ) (formed : records_formed R ≡ true) where
  -- the words of a set of rail words with u rails
  abbrev words_of : ℕ → ℕ
  words_of u = (2 ^ u + 63) / 64

  next-within : (k : ℕ) (s : List ℕ) → Within (words_of (cell_at R k).lower) (gathered known w R bytes k s).next
  unfolding gathered read_at rail_after
  next-within k s =
      let n = words_of (cell_at R k).lower in
      let Few : Gathered → Type 0 = λ g. Within n g.next in
      turns_keep Few (read_at known w R bytes k s)
      (λ i t h.
      let x = row_at known w R bytes k i in
      let l : x % 2 ^ (cell_at R k).lower / 64 < n = omega (arith, mod-lt x (pow_pos (cell_at R k).lower)) in
      cond_both Few (may_read known w (cell_at R k) s i) (within-row n x (rail_after (cell_at R k) x) t l h) h) (rows (size_of (cell_at R k))) none_read (none_within n)

  pub set-within : (k : ℕ) → k < cell_count R → Within ((2 ^ (cell_at R k).upper + 63) / 64) (rail_set known w R bytes k)
  unfolding rail_set
  set-within zero l = within-rail (words_of (cell_at R 0).upper) no_rails 0 (omega (arith, pow_pos (cell_at R 0).upper)) (none_within (words_of (cell_at R 0).upper))
  set-within (suc k) l =
      subst (λ (u : ℕ). Within (words_of u) (gathered known w R bytes k (rail_set known w R bytes k)).next) (sym (rails_follow R formed k l))
      (next-within k (rail_set known w R bytes k))
