-- A walk over stored records: what is begun with one record more.
-- Assumes nothing.
use mathlib.Core.Path.{◌≡◌, refl, sym, ◌∙◌, ap, ap₂}
use mathlib.Core.Bool.{Bool, true, false, cond, not}
use mathlib.Core.List.{List}
use Prim.Native.Nat.{ℕ, ◌+◌, ◌-◌, ◌≤◌}
use native.Mathlib.Omega.{arith}
use lib.Dec.{eqb, ltb}
use lib.ListN.{length}
use borrow.Author.Tests.{eq-eqb, ne_eqb}
use mir.Val.{bool_byte as from_bool}
use Rattle.std.specs.Prelude.{Some, None}
use Rattle.laws.proofs.Cases.{cond_yes, cond_no}
use Rattle.stored_spec.specs.declared.Cell.{Cell}
use Rattle.stored_spec.specs.Cells.{cell}
use Rattle.stored_spec.specs.StoredForm.{variable, cut_byte, rail_byte, reading}
use Rattle.stored_spec.proofs.StoredCells.{cells_to, more_ins, more_outs, end_inputs, end_outputs, ended-size, next-ins, next-outs, next-upper, begun-few}
use Rattle.stored.specs.Walks.{Walk, begun, ended}
use Rattle.stored.proofs.CellPlaces.{cells-next}
use Rattle.stored.proofs.CellReads.{cells-few}

abbrev walk : ℕ → ℕ → ℕ → ℕ → Walk
walk n a b u = record { cell = n; ins = a; outs = b; upper = u }

walk_same : {n a b u n' a' b' u' : ℕ} → n ≡ n' → a ≡ a' → b ≡ b' → u ≡ u' → walk n a b u ≡ walk n' a' b' u'
walk_same {n} {a} {b} {u} {n'} {a'} {b'} {u'} p q e f =
    ap₂ (λ (x y : ℕ). walk x y b u) p q ∙ ap₂ (λ (x y : ℕ). walk n' a' x y) e f

pub none_begun : (R : List ℕ) → walk 0 0 0 0 ≡ begun R 0
unfolding begun reading
none_begun R = refl

pub from_input : (b : Bool) (n : ℕ) → n + from_bool b ≡ cond b (n + 1) n
from_input true n = refl
from_input false n = omega arith

from_output : (b : Bool) (n : ℕ) → n + from_bool (not b) ≡ cond b n (n + 1)
from_output true n = omega arith
from_output false n = refl

pub less_one : (b : Bool) (n : ℕ) → (b ≡ true → 1 ≤ n) → (from_bool b ≤ n) × (n - from_bool b ≡ cond b (n - 1) n)
less_one true n h = (h refl, refl)
less_one false n h = (omega arith, omega arith)

pub ended_is : (R : List ℕ) (i : ℕ) → ended R i ≡ cond (eqb (cut_byte R i) 1) (Some (cell (end_inputs R i) (end_outputs R i))) None
unfolding ended
ended_is R i = ap (λ (c : Cell). cond (eqb (cut_byte R i) 1) (Some c) None) (ended-size R i)

from_few : (b : Bool) → from_bool b ≤ 1
from_few true = omega arith
from_few false = omega arith

module _ (R : List ℕ) (i : ℕ) {w : Walk} (e : w ≡ begun R i) where
  pub cell_begun : w.cell ≡ length (cells_to R i)
  unfolding begun
  cell_begun = ap (λ (v : Walk). v.cell) e

  pub upper_begun : w.upper ≡ (reading R i).upper
  unfolding begun
  upper_begun = ap (λ (v : Walk). v.upper) e

  few_begun : (w.cell ≤ i) × (w.ins ≤ i) × (w.outs ≤ i)
  unfolding begun
  few_begun =
      let h = begun-few R i in
      rw e (cells-few R i, h.0, h.1)

  module _ {a b : ℕ} (p : a ≡ from_bool (ltb (variable R i) 128)) (q : b ≡ from_bool (not (ltb (variable R i) 128))) where
    pub few_with : (w.cell ≤ i) × (w.ins + a ≤ i + 1) × (w.outs + b ≤ i + 1)
    few_with =
        let t = ltb (variable R i) 128 in
        (few_begun.0, omega (arith, few_begun.1, p, from_few t), omega (arith, few_begun.2, q, from_few (not t)))

    ins_more : w.ins + a ≡ more_ins R i
    unfolding begun
    ins_more = rw (p, e) (from_input (ltb (variable R i) 128) _)

    outs_more : w.outs + b ≡ more_outs R i
    unfolding begun
    outs_more = rw (q, e) (from_output (ltb (variable R i) 128) _)

    pub walked_on : (cut_byte R i ≡ 1 → ⊥) → (None ≡ ended R i) × (walk w.cell (w.ins + a) (w.outs + b) w.upper ≡ begun R (i + 1))
    unfolding begun
    walked_on n =
        let no = ne_eqb (cut_byte R i) 1 n in (
          sym (ended_is R i ∙ cond_no _ _ _ no),
          walk_same (ap (λ (v : Walk). v.cell) e ∙ sym (cells-next R i ∙ (rw no (omega arith))))
              (ins_more ∙ sym (next-ins R i ∙ cond_no _ _ _ no)) (outs_more ∙ sym (next-outs R i ∙ cond_no _ _ _ no))
              (ap (λ (v : Walk). v.upper) e ∙ sym (next-upper R i ∙ cond_no _ _ _ no)),
        )

    pub walked_cut : cut_byte R i ≡ 1 → {u r : ℕ} → u ≡ w.upper → r ≡ rail_byte R i
        → (Some (cell (u + (w.ins + a)) (w.outs + b + r)) ≡ ended R i) × (walk (w.cell + 1) 0 0 (rail_byte R i) ≡ begun R (i + 1))
    unfolding begun
    walked_cut c f g =
        let yes = eq-eqb (cut_byte R i) 1 c in
        let upper = f ∙ ap (λ (v : Walk). v.upper) e in (
          ap₂ (λ (x y : ℕ). Some (cell x y)) (ap₂ (λ (x y : ℕ). x + y) upper ins_more) (ap₂ (λ (x y : ℕ). x + y) outs_more g)
              ∙ sym (ended_is R i ∙ cond_yes _ _ _ yes),
          walk_same (ap (λ (v : Walk). v.cell + 1) e ∙ sym (cells-next R i ∙ (rw yes refl)))
              (sym (next-ins R i ∙ cond_yes _ _ _ yes)) (sym (next-outs R i ∙ cond_yes _ _ _ yes))
              (sym (next-upper R i ∙ cond_yes _ _ _ yes)),
        )
