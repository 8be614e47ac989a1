-- What cell k reads and sets, in a loop over stored records: one input or one output more.
-- Assumes nothing.
use mathlib.Core.Path.{◌≡◌, refl, sym, ◌∙◌, ap}
use mathlib.Core.Bool.{Bool, true, false, cond, not, ◌&&◌}
use mathlib.Core.List.{List, [], ◌∷◌, ◌++◌}
use Prim.Native.Nat.{ℕ, zero, suc, ◌+◌, ◌-◌, ◌*◌, ◌/◌, ◌%◌, ◌^◌, ◌≤◌, ◌<◌}
use native.Mathlib.Nat.{pow-suc}
use native.Mathlib.Numerals.{add-one}
use native.Mathlib.Omega.{arith}
use lib.Dec.{eqb, ltb}
use lib.ListN.{length, set, length-append, length-set}
use lib.Pow.{shr-shr}
use Rattle.laws.specs.Bits.{bit}
use Rattle.laws.proofs.Bits.{bit-lt}
use Rattle.laws.proofs.Cases.{cond_both, last_or_below}
use Rattle.stored_spec.specs.StoredForm.{StoredCell, record_count, variable, appended, cell_at}
use Rattle.stored_spec.specs.Run.{address, set_outputs}
use Rattle.stored.specs.Reads.{has_cell}
use Rattle.stored_spec.proofs.StoredCells.{cells_to}
use Rattle.stored.proofs.CellReads.{part_to, turn-ins, turn-outs, part_none, whole_part, cell_there}

pub address_more : (is : List ℕ) (r i w : ℕ) → address r (is ++ (i ∷ [])) w ≡ address r is w * 2 + bit w i
unfolding address
address_more [] r i w = refl
address_more (j ∷ is) r i w = address_more is (r * 2 + bit w j) i w

-- an address with one input more has one more bit
pub address-small : (i : ℕ) (t : Bool) (w v : ℕ) {a b : ℕ} → a < 2 ^ (i + 16) → b ≡ cond t (a * 2 + bit w v) a → b < 2 ^ (i + 1 + 16)
address-small i t w v {a} {b} l e =
    let n : i + 1 + 16 ≡ suc (i + 16) = omega arith in
    let p = ap (λ (x : ℕ). 2 ^ x) n ∙ pow-suc 2 (i + 16) in
    let h = cond_both (λ (x : ℕ). x < 2 ^ (i + 16) * 2) t {x = a * 2 + bit w v} {y = a} (omega (arith, bit-lt w v, l)) (omega (arith, l)) in
    omega (arith, p, e, h)

shifted : (x m j : ℕ) → bit (x / 2 ^ m) j ≡ bit x (m + j)
shifted x m j = ap (λ (y : ℕ). y % 2) (shr-shr x m j)

-- outputs set, and one more below them
set_more : (os outs : List ℕ) (o x m : ℕ) → set_outputs outs (os ++ (o ∷ [])) (x / 2 ^ m) ≡ set (set_outputs outs os (x / 2 ^ suc m)) o (bit x m)
unfolding set_outputs
set_more [] outs o x m =
    let e : m + 0 ≡ m = omega arith in
    ap (λ (b : ℕ). set outs o b) (shifted x m 0 ∙ ap (λ (n : ℕ). bit x n) e)
set_more (p ∷ os) outs o x m =
    let e : m + length (os ++ (o ∷ [])) ≡ suc m + length os = omega (arith, length-append os (o ∷ [])) in
    ap (λ (b : ℕ). set_outputs (set outs p b) (os ++ (o ∷ [])) (x / 2 ^ m))
    (shifted x m (length (os ++ (o ∷ []))) ∙ ap (λ (n : ℕ). bit x n) e ∙ sym (shifted x (suc m) (length os)))
    ∙ set_more os (set outs p (bit (x / 2 ^ suc m) (length os))) o x m

pub length-outputs : (os outs : List ℕ) (x : ℕ) → length (set_outputs outs os x) ≡ length outs
unfolding set_outputs
length-outputs [] outs x = refl
length-outputs (o ∷ os) outs x = length-outputs os (set outs o (bit x (length os))) x ∙ length-set outs o (bit x (length os))

-- no record read
pub no_inputs : (R : List ℕ) (k r w : ℕ) → address r (part_to R 0 k).ins w ≡ r
unfolding address
no_inputs R k r w = ap (λ (c : StoredCell). address r c.ins w) (part_none R k)

pub no_outputs_yet : (R : List ℕ) (k : ℕ) (outs : List ℕ) (x : ℕ) → set_outputs outs (part_to R 0 k).outs x ≡ outs
unfolding set_outputs
no_outputs_yet R k outs x = ap (λ (c : StoredCell). set_outputs outs c.outs x) (part_none R k)

module _ (R : List ℕ) (i k : ℕ) {cell v : ℕ} (here : cell ≡ length (cells_to R i)) (read : v ≡ variable R i) where
  pub turn-address : (r w : ℕ) {a b : ℕ} → a ≡ address r (part_to R i k).ins w → b ≡ cond (eqb cell k && ltb v 128) (a * 2 + bit w v) a
      → b ≡ address r (part_to R (i + 1) k).ins w
  turn-address r w q e =
      e ∙ ap (λ (x : ℕ). cond (eqb cell k && ltb v 128) (x * 2 + bit w v) x) q ∙ by (eqb cell k && ltb v 128)
      ∙ sym (ap (λ (l : List ℕ). address r l w) (turn-ins R i k here read))
    where
      by : (t : Bool) → cond t (address r (part_to R i k).ins w * 2 + bit w v) (address r (part_to R i k).ins w)
          ≡ address r (appended t (part_to R i k).ins v) w
      by true = sym (address_more (part_to R i k).ins r v w)
      by false = refl

  outs-next : length (part_to R (i + 1) k).outs
      ≡ cond (eqb cell k && not (ltb v 128)) (length (part_to R i k).outs + 1) (length (part_to R i k).outs)
  outs-next = ap (λ (l : List ℕ). length l) (turn-outs R i k here read) ∙ by (eqb cell k && not (ltb v 128))
    where
      by : (t : Bool) → length (appended t (part_to R i k).outs (v - 128)) ≡ cond t (length (part_to R i k).outs + 1) (length (part_to R i k).outs)
      by true = length-append (part_to R i k).outs ((v - 128) ∷ [])
      by false = refl

  pub turn-count : {n m : ℕ} → n ≡ length (part_to R i k).outs → m ≡ cond (eqb cell k && not (ltb v 128)) (n + 1) n
      → m ≡ length (part_to R (i + 1) k).outs
  turn-count p e = e ∙ ap (λ (n : ℕ). cond (eqb cell k && not (ltb v 128)) (n + 1) n) p ∙ sym outs-next

  -- the outputs still to be set, with the lower rails
  pub turn_left : {e d n : ℕ} → ((eqb cell k && not (ltb v 128)) ≡ true → 1 ≤ e) → d ≡ cond (eqb cell k && not (ltb v 128)) (e - 1) e
      → e + length (part_to R i k).outs ≡ n → d + length (part_to R (i + 1) k).outs ≡ n
  turn_left {e} {d} {n} some f p = by (eqb cell k && not (ltb v 128)) some f outs-next
    where
      by : (t : Bool) → (t ≡ true → 1 ≤ e) → d ≡ cond t (e - 1) e
          → length (part_to R (i + 1) k).outs ≡ cond t (length (part_to R i k).outs + 1) (length (part_to R i k).outs)
          → d + length (part_to R (i + 1) k).outs ≡ n
      by true l f q = omega (arith, l refl, f, q, p)
      by false l f q = omega (arith, f, q, p)

  pub turn-outputs : (outs : List ℕ) (row : ℕ) {e d : ℕ} {s t : List ℕ} → ((eqb cell k && not (ltb v 128)) ≡ true → 1 ≤ e)
      → d ≡ cond (eqb cell k && not (ltb v 128)) (e - 1) e → s ≡ set_outputs outs (part_to R i k).outs (row / 2 ^ e)
      → t ≡ cond (eqb cell k && not (ltb v 128)) (set s (v - 128) (bit row d)) s → t ≡ set_outputs outs (part_to R (i + 1) k).outs (row / 2 ^ d)
  turn-outputs outs row {e} {d} {s} {t} some f p q =
      by (eqb cell k && not (ltb v 128)) some f q ∙ sym (ap (λ (l : List ℕ). set_outputs outs l (row / 2 ^ d)) (turn-outs R i k here read))
    where
      by : (b : Bool) → (b ≡ true → 1 ≤ e) → d ≡ cond b (e - 1) e → t ≡ cond b (set s (v - 128) (bit row d)) s
          → t ≡ set_outputs outs (appended b (part_to R i k).outs (v - 128)) (row / 2 ^ d)
      by true l f q =
          let n : e ≡ suc d = omega (arith, l refl, f) in
          q ∙ ap (λ (u : List ℕ). set u (v - 128) (bit row d)) (p ∙ ap (λ (x : ℕ). set_outputs outs (part_to R i k).outs (row / 2 ^ x)) n)
          ∙ sym (set_more (part_to R i k).outs outs (v - 128) row d)
      by false l f q = q ∙ p ∙ ap (λ (x : ℕ). set_outputs outs (part_to R i k).outs (row / 2 ^ x)) (sym f)

-- outputs read: never less, and no more than records
module _ (R : List ℕ) (k : ℕ) where
  outs-step : (i : ℕ) → (length (part_to R i k).outs ≤ length (part_to R (suc i) k).outs) × (length (part_to R (suc i) k).outs ≤ length (part_to R i k).outs + 1)
  outs-step i =
      let n = length (part_to R i k).outs in
      let b = eqb (length (cells_to R i)) k && not (ltb (variable R i) 128) in
      let e = ap (λ (j : ℕ). length (part_to R j k).outs) (sym (add-one i)) ∙ outs-next R i k {cell = length (cells_to R i)} {v = variable R i} refl refl in
      let h = cond_both (λ (x : ℕ). (n ≤ x) × (x ≤ n + 1)) b {x = n + 1} {y = n} (omega arith, omega arith) (omega arith, omega arith) in
      (omega (arith, e, h.0), omega (arith, e, h.1))

  pub outs-few : (i : ℕ) → length (part_to R i k).outs ≤ i
  outs-few zero = let e = ap (λ (c : StoredCell). length c.outs) (part_none R k) in omega (arith, e)
  outs-few (suc i) = omega (arith, (outs-step i).1, outs-few i)

  outs_rise : (i n : ℕ) → i ≤ n → length (part_to R i k).outs ≤ length (part_to R n k).outs
  outs_rise i zero l = let e : i ≡ 0 = omega arith in let f = ap (λ (j : ℕ). length (part_to R j k).outs) e in omega (arith, f)
  outs_rise i (suc n) l =
      last_or_below i (suc n) (omega arith) (λ e. let f = ap (λ (j : ℕ). length (part_to R j k).outs) e in omega (arith, f))
      (λ h. let m = outs_rise i n (omega arith) in omega (arith, m, (outs-step n).0))

  pub some_left : has_cell R k ≡ true → (i : ℕ) → i < record_count R → {cell v e : ℕ} → cell ≡ length (cells_to R i) → v ≡ variable R i
      → e + length (part_to R i k).outs ≡ length (cell_at R k).outs + (cell_at R k).lower → (eqb cell k && not (ltb v 128)) ≡ true → 1 ≤ e
  some_left there i l {cell} {v} here read p t =
      let n = length (part_to R i k).outs in
      let f = outs-next R i k here read ∙ ap (λ (b : Bool). cond b (n + 1) n) t in
      let h = outs_rise (i + 1) (record_count R) (omega arith) in
      let w = ap (λ (c : StoredCell). length c.outs) (whole_part R k (cell_there R k there)) in
      omega (arith, f, h, w, p)
