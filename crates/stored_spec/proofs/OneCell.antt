-- Each input is used by at most one cell of well formed records.
-- Assumes nothing.
use mathlib.Core.Path.{◌≡◌, refl, sym, ◌∙◌, ap, subst}
use mathlib.Core.Bool.{Bool, true, false, not, ◌&&◌, ◌||◌, or-true, or-false, false≢true}
use mathlib.Core.List.{List, [], ◌∷◌, ◌++◌}
use Prim.Native.Nat.{ℕ, zero, suc, ◌<◌}
use native.Mathlib.Nat.{not-suc-le-zero}
use native.Mathlib.Omega.{arith}
use lib.Dec.{eqb, leb}
use lib.ListN.{length, get_or}
use borrow.Author.Tests.{eqb-true, eq-eqb, not-true}
use Rattle.laws.specs.Bits.{bit}
use Rattle.laws.specs.Tests.{every, any, within}
use Rattle.laws.proofs.Cases.{by_test, last_or_below, cond_both, and_split, no_test, or_split}
use Rattle.laws.proofs.Tests.{every_at, any_of, any_at}
use Rattle.laws.proofs.Masks.{not-both}
use Rattle.sheet_spec.specs.Job.{is_input}
use Rattle.stored_spec.specs.StoredForm.{member, StoredCell, Reading, record_count, variable, cut_byte, rail_byte, last_byte, appended, with_variable, with_cut, reading, stored_cells, cell_count, no_cell, cell_at, record_formed, records_formed}
use Rattle.stored_spec.specs.Run.{AgreeOn}
use Rattle.stored_spec.proofs.StoredCells.{longer, earlier, latest}
use Rattle.stored_spec.specs.RowBytes.{two_bytes}
use Rattle.stored_spec.proofs.StoredParts.{records_have}

pub member-snoc : (i : ℕ) (l : List ℕ) (v : ℕ) → member i (l ++ (v ∷ [])) ≡ true → (member i l ≡ false → i ≡ v)
member-snoc i [] v e h = eqb-true i v (sym (or-false (eqb i v)) ∙ e)
member-snoc i (x ∷ l) v e h =
    let (a, b) = or_split (eqb i x) (member i l) h in
    member-snoc i l v (sym (ap (λ (t : Bool). t || member i (l ++ (v ∷ []))) a) ∙ e) b

member-none : (i : ℕ) (l : List ℕ) (v : ℕ) → member i l ≡ false → (i ≡ v → ⊥) → member i (l ++ (v ∷ [])) ≡ false
member-none i l v e h = no_test (member i (l ++ (v ∷ []))) (λ q. h (member-snoc i l v q e))

-- no element stands twice in the list
abbrev pub Once : List ℕ → Type 0
Once [] = Unit
Once (x ∷ l) = (member x l ≡ false) × Once l

once_snoc : (l : List ℕ) (v : ℕ) → Once l → member v l ≡ false → Once (l ++ (v ∷ []))
once_snoc [] v h e = (refl, tt)
once_snoc (x ∷ l) v h e =
    let (a, b) = or_split (eqb v x) (member v l) e in
    (member-none x l v h.0 (λ q. not-both (eq-eqb v x (sym q)) a), once_snoc l v h.1 b)

-- words agree on a list where they agree at each of its elements
pub agree_of : (is : List ℕ) (w v : ℕ) → ((i : ℕ) → member i is ≡ true → bit w i ≡ bit v i) → AgreeOn is w v
agree_of [] w v h = tt
agree_of (i ∷ is) w v h = (
  h i (ap (λ (b : Bool). b || member i is) (eq-eqb i i refl)),
  agree_of is w v (λ k e. h k (ap (λ (b : Bool). eqb k i || b) e ∙ or-true (eqb k i))),
)

-- a variable of the first n records
unfoldable pub seen : List ℕ → ℕ → ℕ → Bool
seen R n i = any n (λ m. eqb (variable R m) i)

pub seen_more : (R : List ℕ) (n i : ℕ) → seen R n i ≡ true → seen R (suc n) i ≡ true
unfolding seen
seen_more R n i e = ap (λ (b : Bool). b || eqb (variable R n) i) e

pub seen_here : (R : List ℕ) (n : ℕ) → seen R (suc n) (variable R n) ≡ true
unfolding seen
seen_here R n = any_of (λ m. eqb (variable R m) (variable R n)) (suc n) n (omega arith) (eq-eqb (variable R n) (variable R n) refl)

each_new : (R : List ℕ) (n : ℕ) → record_formed R n ≡ true → every n (λ k. not (eqb (variable R k) (variable R n))) ≡ true
unfolding record_formed
each_new R n e =
    (and_split
    ((leb (variable R n) 11 || within 128 135 (variable R n)) && leb (cut_byte R n) 1
    && (eqb (cut_byte R n) 1 || eqb (rail_byte R n) 0)
    && eqb (last_byte R n) 0)
    (every n (λ k. not (eqb (variable R k) (variable R n)))) e).1

new_variable : (R : List ℕ) (n : ℕ) → record_formed R n ≡ true → seen R n (variable R n) ≡ false
unfolding seen
new_variable R n e =
    let d = each_new R n e in
    no_test (any n (λ m. eqb (variable R m) (variable R n)))
    (λ s.
    let (m, l, p) = any_at (λ m. eqb (variable R m) (variable R n)) n s in
    not-both p (not-true (eqb (variable R m) (variable R n)) (every_at (λ k. not (eqb (variable R k) (variable R n))) n d m l)))

-- what n records have read: inputs of the cells are variables seen, and no input is in two cells
pub record Apart (R : List ℕ) (n : ℕ) (s : Reading) : Type 0 where
  pub ended_seen : (j i : ℕ) → j < length s.ended → member i (get_or s.ended j no_cell).ins ≡ true → seen R n i ≡ true
  pub begun_seen : (i : ℕ) → member i s.ins ≡ true → seen R n i ≡ true
  pub ended-apart : (j k i : ℕ) → j < k → k < length s.ended → member i (get_or s.ended j no_cell).ins ≡ true
      → member i (get_or s.ended k no_cell).ins ≡ false
  pub begun-apart : (j i : ℕ) → j < length s.ended → member i (get_or s.ended j no_cell).ins ≡ true → member i s.ins ≡ false
  pub ended_once : (j : ℕ) → j < length s.ended → Once (get_or s.ended j no_cell).ins
  pub begun_once : Once s.ins

module _ (R : List ℕ) (n : ℕ) (e : record_formed R n ≡ true) where
  -- an input of the cell begun, with the variable of record n
  begun_with_lem : (s : Reading) → Apart R n s → (b : Bool) (i : ℕ) → member i (appended b s.ins (variable R n)) ≡ true → seen R (suc n) i ≡ true
  begun_with_lem s h false i p = seen_more R n i (h.begun_seen i p)
  begun_with_lem s h true i p =
      by_test (member i s.ins) (λ q. seen_more R n i (h.begun_seen i q))
      (λ q. ap (seen R (suc n)) (member-snoc i s.ins (variable R n) p q) ∙ seen_here R n)

  apart_with : (s : Reading) → Apart R n s → (b : Bool) (j i : ℕ) → j < length s.ended → member i (get_or s.ended j no_cell).ins ≡ true
      → member i (appended b s.ins (variable R n)) ≡ false
  apart_with s h false j i l p = h.begun-apart j i l p
  apart_with s h true j i l p =
      no_test (member i (s.ins ++ (variable R n ∷ [])))
      (λ q.
      let same = member-snoc i s.ins (variable R n) q (h.begun-apart j i l p) in
      not-both (h.ended_seen j i l p) (ap (seen R n) same ∙ new_variable R n e))

  once_with : (s : Reading) → Apart R n s → (b : Bool) → Once (appended b s.ins (variable R n))
  once_with s h false = h.begun_once
  once_with s h true =
      once_snoc s.ins (variable R n) h.begun_once
      (no_test (member (variable R n) s.ins) (λ q. not-both (h.begun_seen (variable R n) q) (new_variable R n e)))

  with_variable_lem : (s : Reading) → Apart R n s → Apart R (suc n) (with_variable s (variable R n))
  unfolding with_variable
  with_variable_lem s h =
      record {
        ended_seen = λ j i l p. seen_more R n i (h.ended_seen j i l p);
        begun_seen = begun_with_lem s h (is_input (variable R n));
        ended-apart = h.ended-apart;
        begun-apart = apart_with s h (is_input (variable R n));
        ended_once = h.ended_once;
        begun_once = once_with s h (is_input (variable R n));
      }

with_cut_lem : (R : List ℕ) (n : ℕ) (s : Reading) (r : ℕ) → Apart R n s → Apart R n (with_cut s r)
unfolding with_cut
with_cut_lem R n s r h =
    let c : StoredCell = record { ins = s.ins; outs = s.outs; upper = s.upper; lower = r } in
    let more : List StoredCell = s.ended ++ (c ∷ []) in
    let old : (j i : ℕ) → j < length s.ended → member i (get_or more j no_cell).ins ≡ true → member i (get_or s.ended j no_cell).ins ≡ true =
    λ j i l p. sym (ap (λ (d : StoredCell). member i d.ins) (earlier s.ended c j l)) ∙ p in
    record {
      ended_seen = λ j i l p.
          last_or_below j (length s.ended) (omega (arith, longer s.ended c))
          (λ q. h.begun_seen i (sym (ap (λ (d : StoredCell). member i d.ins) (ap (λ (x : ℕ). get_or more x no_cell) q ∙ latest s.ended c)) ∙ p))
          (λ q. h.ended_seen j i q (old j i q p));
      begun_seen = λ i p. absurd (false≢true p);
      ended-apart = λ j k i l m p.
          last_or_below k (length s.ended) (omega (arith, longer s.ended c))
          (λ q.
          ap (λ (d : StoredCell). member i d.ins) (ap (λ (x : ℕ). get_or more x no_cell) q ∙ latest s.ended c)
          ∙ h.begun-apart j i (omega arith) (old j i (omega arith) p))
          (λ q. ap (λ (d : StoredCell). member i d.ins) (earlier s.ended c k q) ∙ h.ended-apart j k i l q (old j i (omega arith) p));
      begun-apart = λ j i l p. refl;
      ended_once = λ j l.
          last_or_below j (length s.ended) (omega (arith, longer s.ended c))
          (λ q. subst (λ (d : StoredCell). Once d.ins) (sym (ap (λ (x : ℕ). get_or more x no_cell) q ∙ latest s.ended c)) h.begun_once)
          (λ q. subst (λ (d : StoredCell). Once d.ins) (sym (earlier s.ended c j q)) (h.ended_once j q));
      begun_once = tt;
    }

read-apart : (R : List ℕ) (n : ℕ) → ((i : ℕ) → i < n → record_formed R i ≡ true) → Apart R n (reading R n)
unfolding reading
read-apart R zero h =
    record {
      ended_seen = λ j i l. absurd (not-suc-le-zero l);
      begun_seen = λ i p. absurd (false≢true p);
      ended-apart = λ j k i l m. absurd (not-suc-le-zero m);
      begun-apart = λ j i l. absurd (not-suc-le-zero l);
      ended_once = λ j l. absurd (not-suc-le-zero l);
      begun_once = tt;
    }
read-apart R (suc n) h =
    let s = with_variable_lem R n (h n (omega arith)) (reading R n) (read-apart R n (λ i l. h i (omega arith))) in
    cond_both (Apart R (suc n)) (eqb (cut_byte R n) 1) (with_cut_lem R (suc n) (with_variable (reading R n) (variable R n)) (rail_byte R n) s) s

-- an input of one cell is none of a later one
pub one_cell : (R : List ℕ) → records_formed R ≡ true → (j k i : ℕ) → j < k → k < cell_count R
    → member i (cell_at R j).ins ≡ true → member i (cell_at R k).ins ≡ false
unfolding cell_at cell_count stored_cells
one_cell R e j k i l m p = (read-apart R (record_count R) (records_have two_bytes R e).each).ended-apart j k i l m p

-- and stands in it once
pub once_in : (R : List ℕ) → records_formed R ≡ true → (k : ℕ) → k < cell_count R → Once (cell_at R k).ins
unfolding cell_at cell_count stored_cells
once_in R e k l = (read-apart R (record_count R) (records_have two_bytes R e).each).ended_once k l
