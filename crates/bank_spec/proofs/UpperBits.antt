-- Bits of a row above its cell's outputs have no effect on a step.
-- Assumes nothing.
use mathlib.Core.Path.{◌≡◌, refl, sym, ◌∙◌, ap}
use mathlib.Core.Bool.{Bool, true, false, not, cond}
use mathlib.Core.List.{List, [], ◌∷◌}
use Prim.Native.Nat.{ℕ, ◌+◌, ◌/◌, ◌%◌, ◌^◌, ◌<◌}
use native.Mathlib.Nat.{mod-lt, div-add-mod'}
use native.Mathlib.Omega.{arith}
use lib.Dec.{ltb}
use lib.ListN.{length, set}
use lib.Pow.{pow_pos, shr-shr, mod-mod-pow}
use Rattle.laws.specs.Bits.{bit}
use Rattle.laws.proofs.Bits.{bit-low}
use Rattle.stored_spec.specs.RowBytes.{two_bytes, room}
use Rattle.stored_spec.specs.StoredForm.{StoredCell, cell_at}
use Rattle.stored_spec.specs.Run.{set_outputs, outputs_after, rail_after}
use Rattle.bank_spec.specs.State.{State, Bank, Scan, records_of, rows_held, formed, state_of}
use Rattle.bank_spec.specs.Calls.{refused, idle, went, After, next_row, moved, step}

-- numbers that agree below 2^s have the same bits there
same_bit : (x y s i : ℕ) → x % 2 ^ s ≡ y % 2 ^ s → i < s → bit x i ≡ bit y i
same_bit x y s i e l = sym (kept x) ∙ ap (λ (z : ℕ). bit z i) e ∙ kept y
  where
    kept : (w : ℕ) → bit (w % 2 ^ s) i ≡ bit w i
    kept w = sym (bit-low (w / 2 ^ s) s (w % 2 ^ s) i (mod-lt w (pow_pos s)) l) ∙ ap (λ (z : ℕ). bit z i) (div-add-mod' w (2 ^ s))

set_same : (os outs : List ℕ) (x y : ℕ) → ((j : ℕ) → j < length os → bit x j ≡ bit y j) → set_outputs outs os x ≡ set_outputs outs os y
unfolding set_outputs
set_same [] outs x y h = refl
set_same (o ∷ os) outs x y h =
    ap (λ (b : ℕ). set_outputs (set outs o b) os x) (h (length os) (omega arith))
    ∙ set_same os (set outs o (bit y (length os))) x y (λ j l. h j (omega arith))

-- rows that agree on the cell's outputs
module _ (c : StoredCell) (x y : ℕ) (e : x % 2 ^ (length c.outs + c.lower) ≡ y % 2 ^ (length c.outs + c.lower)) where
  outputs-same : (outs : List ℕ) → outputs_after c outs x ≡ outputs_after c outs y
  unfolding outputs_after
  outputs-same outs =
      set_same c.outs outs (x / 2 ^ c.lower) (y / 2 ^ c.lower)
      (λ j l.
      ap (λ (z : ℕ). z % 2) (shr-shr x c.lower j)
      ∙ same_bit x y (length c.outs + c.lower) (c.lower + j) e (omega arith)
      ∙ sym (ap (λ (z : ℕ). z % 2) (shr-shr y c.lower j)))

  rail-same : rail_after c x ≡ rail_after c y
  unfolding rail_after
  rail-same =
      sym (mod-mod-pow x (length c.outs) c.lower) ∙ ap (λ (z : ℕ). z % 2 ^ c.lower) e ∙ mod-mod-pow y (length c.outs) c.lower

module _ (k : Bank) (s : Scan) where
  abbrev next : StoredCell
  next = cell_at (records_of k s.block) s.cell

  moved_same : (x y : ℕ) → x % 2 ^ (length next.outs + next.lower) ≡ y % 2 ^ (length next.outs + next.lower) → moved k s x ≡ moved k s y
  unfolding moved
  moved_same x y e = rw (outputs-same next x y e, rail-same next x y e)

  -- two row memories of one length whose next rows agree on the outputs of their cell: the step answers alike, and leaves the same scan state
  pub upper-bits : (rows rows' : List ℕ) → length rows ≡ length rows'
      → next_row k s rows % 2 ^ (length next.outs + next.lower) ≡ next_row k s rows' % 2 ^ (length next.outs + next.lower)
      → ((step (state_of k s rows)).answer ≡ (step (state_of k s rows')).answer) × ((step (state_of k s rows)).state.scan ≡ (step (state_of k s rows')).state.scan)
  unfolding step
  upper-bits rows rows' e same = rw e (alike (not (formed k s)) (not s.running) (ltb (length rows') (room two_bytes (rows_held k))))
    where
      stepped : Bool → Bool → Bool → List ℕ → After State
      stepped a b c held =
          cond a (record { answer = refused 12; state = state_of k s held })
          (cond b (record { answer = idle; state = state_of k s held })
          (cond c (record { answer = refused 11; state = state_of k s held })
          (record { answer = went s.block s.cell; state = state_of k (moved k s (next_row k s held)) held })))

      alike : (a b c : Bool)
          → ((stepped a b c rows).answer ≡ (stepped a b c rows').answer) × ((stepped a b c rows).state.scan ≡ (stepped a b c rows').state.scan)
      alike true b c = (refl, refl)
      alike false true c = (refl, refl)
      alike false false true = (refl, refl)
      alike false false false = (refl, moved_same (next_row k s rows) (next_row k s rows') same)
