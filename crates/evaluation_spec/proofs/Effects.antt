-- What has an effect on an evaluation: the known inputs that a cell uses, and nothing else; with every input known it is what the cascade emits,
-- and an output that the cascade lacks is unknown.
-- Assumes nothing.
use mathlib.Core.Path.{◌≡◌, sym, ◌∙◌, ap, ap₂}
use mathlib.Core.Bool.{Bool, true, cond}
use mathlib.Core.List.{List}
use Prim.Native.Nat.{ℕ, ◌<◌}
use native.Mathlib.Omega.{arith}
use lib.ListN.{get_or}
use Rattle.laws.specs.Bits.{bit}
use Rattle.laws.proofs.Cases.{same_test, no_test}
use Rattle.sheet_spec.specs.Job.{output_byte}
use Rattle.stored_spec.specs.RowBytes.{two_bytes, row_value}
use Rattle.stored_spec.specs.StoredForm.{member, record_count, variable, cell_count, cell_at, records_formed}
use Rattle.stored_spec.specs.Run.{Running, run}
use Rattle.stored_spec.proofs.FormedCells.{inputs-small}
use Rattle.stored_spec.proofs.SameRuns.{SameInputs, same_agree, same-run}
use Rattle.stored_spec.proofs.OutputRecords.{output_record}
use Rattle.evaluation_spec.specs.Emits.{emits}
use Rattle.evaluation_spec.specs.Known.{always, certain, unknown}
use Rattle.evaluation_spec.proofs.Mixed.{mixed, mixed_small, mixed_either, mixed_run}
use Rattle.evaluation_spec.proofs.Outputs.{emits-small, emits_none}
use Rattle.evaluation_spec.proofs.Learning.{Always, always_is, always_so, settled}

-- the same run emits the same
ran_same : (R bytes : List ℕ) (w v o : ℕ) → run R bytes w (cell_count R) ≡ run R bytes v (cell_count R) → emits R bytes w o ≡ emits R bytes v o
unfolding emits
ran_same R bytes w v o e = ap (λ (s : Running). get_or s.outputs o 2) e

-- bits above 11 have no effect on what is emitted
pub emits-same : (R bytes : List ℕ) → records_formed R ≡ true → (w v : ℕ) → SameInputs w v → (o : ℕ) → emits R bytes w o ≡ emits R bytes v o
emits-same R bytes formed w v h o =
    ran_same R bytes w v o (same-run (row_value two_bytes bytes) R w v (cell_count R) (λ c l. same_agree (cell_at R c).ins w v (inputs-small R formed c) h))

-- every input is known
pub all_known : (R bytes : List ℕ) → records_formed R ≡ true → (known w : ℕ) → ((i : ℕ) → i < 12 → bit known i ≡ 1)
    → (o : ℕ) → o < 8 → certain R bytes known w o ≡ emits R bytes w o
all_known R bytes formed known w all o l =
    settled R bytes known w o (emits R bytes w o) (emits-small R bytes w o l)
    (λ v m f. emits-same R bytes formed v w (λ i h. f i h (all i h)) o)

-- no record has the output
pub lacking : (R bytes : List ℕ) (known w o : ℕ) → o < 8 → ((i : ℕ) → i < record_count R → variable R i ≡ output_byte o → ⊥)
    → certain R bytes known w o ≡ unknown
lacking R bytes known w o l n =
    settled R bytes known w o unknown (omega arith)
    (λ v m f.
    emits_none R bytes v o l
    (λ k h. no_test (member o (cell_at R k).outs) (λ p. let (i, q, e) = output_record R k o h p in n i q e)))

-- an input that a cell uses is known in both masks or in none, and where it is known both words have it alike
abbrev pub SameKnown : List ℕ → ℕ → ℕ → ℕ → ℕ → Type 0
SameKnown R known w more v =
    (k i : ℕ) → k < cell_count R → member i (cell_at R k).ins ≡ true → (bit known i ≡ bit more i) × (bit known i ≡ 1 → bit w i ≡ bit v i)

module _ (R bytes : List ℕ) (formed : records_formed R ≡ true) where
  -- of a filling u of the one the word with the inputs that a cell uses as in u fills the other
  same-always : (known w more v : ℕ) → SameKnown R known w more v → (o b : ℕ) → Always R bytes known w o b → Always R bytes more v o b
  same-always known w more v h o b a u l f =
      let m = mixed R bytes formed (cell_count R) u w in
      sym (ran_same R bytes m u o (mixed_run R bytes formed (cell_count R) u w))
      ∙ a m (mixed_small R bytes formed (cell_count R) u w)
      (λ i p q.
      mixed_either R bytes formed (cell_count R) u w i p
      (λ k r e z. let (same, is) = h k i r e in z ∙ f i p (sym same ∙ q) ∙ sym (is q)) (λ z. z))

  -- only known inputs that a cell uses have an effect
  pub same_known : (known w more v : ℕ) → SameKnown R known w more v → (o : ℕ) → certain R bytes known w o ≡ certain R bytes more v o
  unfolding certain
  same_known known w more v h o =
      ap₂ (λ (a b : Bool). cond a 0 (cond b 1 unknown)) (same 0) (same 1)
    where
      back : SameKnown R more v known w
      back k i l e = let (s, is) = h k i l e in (sym s, λ q. sym (is (s ∙ q)))

      same : (b : ℕ) → always R bytes known w o b ≡ always R bytes more v o b
      same b =
          same_test (always R bytes known w o b) (always R bytes more v o b)
          (λ p. always_so R bytes more v o b (same-always known w more v h o b (always_is R bytes known w o b p)))
          (λ p. always_so R bytes known w o b (same-always more v known w back o b (always_is R bytes more v o b p)))
