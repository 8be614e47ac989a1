-- Words that agree on the inputs of the cells read so far, and rows with the same values: the run is the same. Before each cell the rail word is one of its rail words.
-- Assumes nothing.
use mathlib.Core.Path.{◌≡◌, refl, sym, ◌∙◌, ap}
use mathlib.Core.Bool.{true}
use mathlib.Core.List.{List, [], ◌∷◌}
use Prim.Native.Nat.{ℕ, zero, suc, ◌+◌, ◌*◌, ◌/◌, ◌%◌, ◌^◌, ◌<◌, ◌≤◌}
use native.Mathlib.Nat.{mod-lt}
use native.Mathlib.Omega.{arith}
use lib.Pow.{split, pow_pos}
use Rattle.laws.specs.Bits.{bit}
use Rattle.laws.proofs.Bits.{bit-low}
use Rattle.stored_spec.specs.StoredForm.{cell_count, cell_at, rows_before, row_count, records_formed}
use Rattle.stored_spec.specs.Run.{AgreeOn, address, row_place, outputs_after, rail_after, run_by, ran_one_by}
use Rattle.stored_spec.proofs.FormedCells.{AllBelow, inputs-small, first-upper, rails_follow, row_within}

pub same_address : (is : List ℕ) (r w v : ℕ) → AgreeOn is w v → address r is w ≡ address r is v
unfolding address
same_address [] r w v h = refl
same_address (i ∷ is) r w v h =
    ap (λ (x : ℕ). address (r * 2 + x) is w) h.0 ∙ same_address is (r * 2 + bit v i) w v h.1

same_row : (R : List ℕ) (k r w v : ℕ) → AgreeOn (cell_at R k).ins w v → row_place R k r w ≡ row_place R k r v
unfolding row_place
same_row R k r w v h = ap (λ (a : ℕ). rows_before R k + a) (same_address (cell_at R k).ins r w v h)

-- words that agree on the inputs of the cells read so far: the run is the same
pub same-run : (f : ℕ → ℕ) (R : List ℕ) (w v k : ℕ) → ((c : ℕ) → c < k → AgreeOn (cell_at R c).ins w v) → run_by f R w k ≡ run_by f R v k
unfolding run_by ran_one_by
same-run f R w v zero h = refl
same-run f R w v (suc k) h =
    ap (ran_one_by f R w k) (same-run f R w v k (λ c l. h c (omega arith)))
    ∙ ap (λ (x : ℕ). record { rail = rail_after (cell_at R k) x; outputs = outputs_after (cell_at R k) (run_by f R v k).outputs x })
    (ap f (same_row R k (run_by f R v k).rail w v (h k (omega arith))))

-- words with the same bits 0 to 11
abbrev pub SameInputs : ℕ → ℕ → Type 0
SameInputs w v = (i : ℕ) → i < 12 → bit w i ≡ bit v i

pub same_agree : (is : List ℕ) (w v : ℕ) → AllBelow 12 is → SameInputs w v → AgreeOn is w v
same_agree [] w v b h = tt
same_agree (i ∷ is) w v b h = (h i b.0, same_agree is w v b.1 h)

-- they read the same rows
pub same_place : (R : List ℕ) → records_formed R ≡ true → (k r w v : ℕ) → SameInputs w v → row_place R k r w ≡ row_place R k r v
same_place R formed k r w v h = same_row R k r w v (same_agree (cell_at R k).ins w v (inputs-small R formed k) h)

pub kept-inputs : (w : ℕ) → SameInputs (w % 4096) w
kept-inputs w i l =
    sym (bit-low (w / 2 ^ 12) 12 (w % 2 ^ 12) i (mod-lt w (pow_pos 12)) l) ∙ ap (λ (x : ℕ). bit x i) (split w 12)

-- before each cell of well formed records the rail word is one of its rail words
pub rail-within : (R : List ℕ) → records_formed R ≡ true → (f : ℕ → ℕ) (w k : ℕ) → k < cell_count R → (run_by f R w k).rail < 2 ^ (cell_at R k).upper
unfolding run_by ran_one_by rail_after
rail-within R e f w zero l = rw (first-upper R e l) (omega arith)
rail-within R e f w (suc k) l = rw (rails_follow R e k l) (mod-lt _ (pow_pos (cell_at R k).lower))

-- rows with the same value at each place of the cascade make the same run
pub same_rows : (R : List ℕ) → records_formed R ≡ true → (f g : ℕ → ℕ) → ((p : ℕ) → p < row_count R → f p ≡ g p)
    → (w k : ℕ) → k ≤ cell_count R → run_by f R w k ≡ run_by g R w k
unfolding run_by ran_one_by
same_rows R e f g h w zero l = refl
same_rows R e f g h w (suc k) l =
    let r = (run_by f R w k).rail in
    ap (λ (x : ℕ). record { rail = rail_after (cell_at R k) x; outputs = outputs_after (cell_at R k) (run_by f R w k).outputs x })
    (h (row_place R k r w) (row_within R k r w l (rail-within R e f w k l)))
    ∙ ap (ran_one_by g R w k) (same_rows R e f g h w k (omega arith))
