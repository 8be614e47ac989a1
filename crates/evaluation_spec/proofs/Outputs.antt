-- One output during a run: a cell sets it to one bit of the row that it reads, or keeps it.
-- Assumes nothing.
use mathlib.Core.Path.{◌≡◌, refl, sym, ◌∙◌, ap}
use mathlib.Core.Bool.{Bool, true, false, ◌||◌, false≢true, or-false}
use mathlib.Core.List.{List, [], ◌∷◌}
use Prim.Native.Nat.{ℕ, zero, suc, ◌+◌, ◌/◌, ◌%◌, ◌^◌, ◌<◌}
use native.Mathlib.Omega.{arith}
use lib.Dec.{eqb}
use lib.ListN.{length, get_or, set, length-set, length-replicate, get_or-replicate}
use lib.Pow.{shr-shr}
use lib.Seq.{get_or-set_same, get_or-set_other}
use borrow.Author.Tests.{eqb-true, eq-eqb}
use Rattle.laws.specs.Bits.{bit}
use Rattle.laws.proofs.Cases.{by_test, or_split}
use Rattle.laws.proofs.Bits.{bit-lt}
use Rattle.laws.proofs.Masks.{not-both}
use Rattle.stored_spec.specs.RowBytes.{two_bytes, row_value}
use Rattle.stored_spec.specs.StoredForm.{member, StoredCell, cell_count, cell_at}
use Rattle.stored_spec.specs.Run.{row_place, set_outputs, outputs_after, run, run_by, ran_one_by}
use Rattle.stored_spec.proofs.Runs.{set-length}
use Rattle.evaluation_spec.specs.Emits.{emits}

-- an output that is not in the list stays
kept_in : (os : List ℕ) (o : ℕ) → member o os ≡ false → (outs : List ℕ) (x : ℕ) → get_or (set_outputs outs os x) o 2 ≡ get_or outs o 2
unfolding set_outputs
kept_in [] o n outs x = refl
kept_in (p ∷ os) o n outs x =
    let (a, b) = or_split (eqb o p) (member o os) n in
    kept_in os o b (set outs p (bit x (length os))) x ∙ get_or-set_other outs p o (bit x (length os)) 2 (λ e. not-both (eq-eqb o p e) a)

-- one that is in the list is set to one bit
set_in : (os : List ℕ) (o : ℕ) → member o os ≡ true
    → (e : ℕ) × (e < length os) × ((outs : List ℕ) (x : ℕ) → o < length outs → get_or (set_outputs outs os x) o 2 ≡ bit x e)
unfolding set_outputs
set_in [] o m = absurd (false≢true m)
set_in (p ∷ os) o m =
    by_test (member o os)
    (λ t.
    let (e, l, is) = set_in os o t in
    (e, omega arith, λ outs x h. is (set outs p (bit x (length os))) x (omega (arith, length-set outs p (bit x (length os))))))
    (λ f.
    let same : o ≡ p = eqb-true o p (sym (or-false (eqb o p)) ∙ ap (λ (b : Bool). eqb o p || b) (sym f) ∙ m) in (
      length os,
      omega arith,
      λ outs x h.
          kept_in os o f (set outs p (bit x (length os))) x ∙ ap (λ (i : ℕ). get_or (set outs p (bit x (length os))) i 2) same
          ∙ get_or-set_same outs p (bit x (length os)) 2 (omega (arith, same)),
    ))

-- the bit of the row to which the cell c sets output o
pub record SetFrom (c : StoredCell) (o : ℕ) : Type 0 where
  pub place : ℕ
  pub within : place < length c.outs + c.lower
  pub is : (outs : List ℕ) (x : ℕ) → o < length outs → get_or (outputs_after c outs x) o 2 ≡ bit x place

pub set_output : (c : StoredCell) (o : ℕ) → member o c.outs ≡ true → SetFrom c o
unfolding outputs_after
set_output c o m =
    let (e, l, is) = set_in c.outs o m in
    record {
      place = c.lower + e;
      within = omega arith;
      is = λ outs x h. is outs (x / 2 ^ c.lower) h ∙ ap (λ (y : ℕ). y % 2) (shr-shr x c.lower e);
    }

pub kept_output : (c : StoredCell) (o : ℕ) → member o c.outs ≡ false → (outs : List ℕ) (x : ℕ) → get_or (outputs_after c outs x) o 2 ≡ get_or outs o 2
unfolding outputs_after
kept_output c o m outs x = kept_in c.outs o m outs (x / 2 ^ c.lower)

pub after-length : (c : StoredCell) (outs : List ℕ) (x : ℕ) → length (outputs_after c outs x) ≡ length outs
unfolding outputs_after
after-length c outs x = set-length outs c.outs (x / 2 ^ c.lower)

module _ (R bytes : List ℕ) (w : ℕ) where
  -- the row that cell k reads
  abbrev row_of : ℕ → ℕ
  row_of k = row_value two_bytes bytes (row_place R k (run R bytes w k).rail w)

  pub run_length : (k : ℕ) → length (run R bytes w k).outputs ≡ 8
  unfolding run_by ran_one_by
  run_length zero = length-replicate {A = ℕ} 8 2
  run_length (suc k) = after-length (cell_at R k) (run R bytes w k).outputs (row_of k) ∙ run_length k

  -- it is 0, 1 or not set
  run_small : (o : ℕ) → o < 8 → (k : ℕ) → get_or (run R bytes w k).outputs o 2 < 3
  unfolding run_by ran_one_by
  run_small o l zero = let e = get_or-replicate {A = ℕ} 8 o 2 2 l in omega arith
  run_small o l (suc k) =
      let before = run_small o l k in
      by_test (member o (cell_at R k).outs)
      (λ m.
      let s = set_output (cell_at R k) o m in
      omega (arith, s.is (run R bytes w k).outputs (row_of k) (omega (arith, run_length k)), bit-lt (row_of k) s.place))
      (λ m. omega (arith, kept_output (cell_at R k) o m (run R bytes w k).outputs (row_of k)))

  pub emits-small : (o : ℕ) → o < 8 → emits R bytes w o < 3
  unfolding emits
  emits-small o l = run_small o l (cell_count R)

  -- not set where no cell has it
  run_lacks : (o : ℕ) → o < 8 → (k : ℕ) → ((c : ℕ) → c < k → member o (cell_at R c).outs ≡ false) → get_or (run R bytes w k).outputs o 2 ≡ 2
  unfolding run_by ran_one_by
  run_lacks o l zero h = get_or-replicate {A = ℕ} 8 o 2 2 l
  run_lacks o l (suc k) h =
      kept_output (cell_at R k) o (h k (omega arith)) (run R bytes w k).outputs (row_of k) ∙ run_lacks o l k (λ c p. h c (omega arith))

  pub emits_none : (o : ℕ) → o < 8 → ((k : ℕ) → k < cell_count R → member o (cell_at R k).outs ≡ false) → emits R bytes w o ≡ 2
  unfolding emits
  emits_none o l h = run_lacks o l (cell_count R) h
