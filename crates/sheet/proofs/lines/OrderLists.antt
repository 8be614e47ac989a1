-- The inputs and the outputs of the order, lowest first, listed a height at a time.
-- Assumes nothing.
use mathlib.Core.Path.{◌≡◌, sym, ◌∙◌, ap}
use mathlib.Core.Bool.{Bool, true, false, beq, cond}
use mathlib.Core.List.{List, [], ◌∷◌, ◌++◌}
use Prim.Native.Nat.{ℕ, suc, ◌+◌, ◌-◌, ◌<◌, ◌≤◌}
use native.Mathlib.Numerals.{add-one}
use native.Mathlib.Omega.{arith}
use borrow.Author.Tests.{lt-ltb, le-ltb, lt-leb, le-leb}
use lib.Dec.{leb, ltb}
use lib.ListN.{length, get_or, set, length-append}
use Rattle.std.proofs.Math.ListN.{get_or-append}
use Rattle.std.proofs.Math.Seq.{get_or-append_seam}
use Rattle.std.proofs.lemmas.List.{length_push}
use lib.Seq.{sets}
use Rattle.laws.proofs.Cases.{by_less, cond_yes, cond_no}
use Rattle.laws.proofs.Masks.{not-both}
use Rattle.laws.proofs.Puts.{sets-snoc}
use Rattle.sheet_spec.specs.Job.{is_input, inputs_to, outputs_to}
use Rattle.sheet.specs.Planes.{listed}

module _ (t : ℕ) (order : List ℕ) (h : ℕ) where
  abbrev v : ℕ
  v = get_or order (t - suc h) 0

  pub input_here : v < 128 → inputs_to t order (h + 1) ≡ inputs_to t order h ++ (v ∷ [])
  unfolding inputs_to
  input_here b = rw add-one (cond_yes (is_input v) (inputs_to t order h ++ (v ∷ [])) (inputs_to t order h) (lt-ltb v 128 b))

  pub no_input_here : 128 ≤ v → inputs_to t order (h + 1) ≡ inputs_to t order h
  unfolding inputs_to
  no_input_here b = rw add-one (cond_no (is_input v) (inputs_to t order h ++ (v ∷ [])) (inputs_to t order h) (le-ltb v 128 b))

  pub output_here : 128 ≤ v → outputs_to t order (h + 1) ≡ outputs_to t order h ++ ((v - 128) ∷ [])
  unfolding outputs_to
  output_here b = rw add-one (cond_no (is_input v) (outputs_to t order h) (outputs_to t order h ++ ((v - 128) ∷ [])) (le-ltb v 128 b))

  pub no_output_here : v < 128 → outputs_to t order (h + 1) ≡ outputs_to t order h
  unfolding outputs_to
  no_output_here b = rw add-one (cond_yes (is_input v) (outputs_to t order h) (outputs_to t order h ++ ((v - 128) ∷ [])) (lt-ltb v 128 b))

  -- a variable of the kind that is listed, by its number, and one of the other
  pub listed_here : (outputs : Bool) → beq (leb 128 v) outputs ≡ true → listed outputs t order (h + 1) ≡ listed outputs t order h ++ (cond (ltb v 128) v (v - 128) ∷ [])
  listed_here true e =
      by_less v 128 (λ l. not-both e (ap (λ (x : Bool). beq x true) (lt-leb 128 v l)))
      (λ l. output_here l ∙ ap (λ (x : ℕ). outputs_to t order h ++ (x ∷ [])) (sym (cond_no (ltb v 128) v (v - 128) (le-ltb v 128 l))))
  listed_here false e =
      by_less v 128 (λ l. input_here l ∙ ap (λ (x : ℕ). inputs_to t order h ++ (x ∷ [])) (sym (cond_yes (ltb v 128) v (v - 128) (lt-ltb v 128 l))))
      (λ l. not-both e (ap (λ (x : Bool). beq x false) (le-leb 128 v l)))

  pub not_listed_here : (outputs : Bool) → beq (leb 128 v) outputs ≡ false → listed outputs t order (h + 1) ≡ listed outputs t order h
  not_listed_here true e =
      by_less v 128 no_output_here (λ l. not-both (ap (λ (x : Bool). beq x true) (le-leb 128 v l)) e)
  not_listed_here false e =
      by_less v 128 (λ l. not-both (ap (λ (x : Bool). beq x false) (lt-leb 128 v l)) e) no_input_here

-- what a loop over the heights keeps: where the list that is lent held old, it now holds the variables listed
pub record Listed (listed : ℕ → List ℕ) (old list : List ℕ) (count h : ℕ) : Type 0 where
  pub few : count ≤ h
  pub counted : count ≡ length (listed h)
  pub stored : list ≡ sets old 0 (listed h)

module _ (listed : ℕ → List ℕ) (old list : List ℕ) (count h : ℕ) (so_far : Listed listed old list count h) where
  pub listed_more : (v : ℕ) → listed (h + 1) ≡ listed h ++ (v ∷ []) → Listed listed old (set list count v) (count + 1) (h + 1)
  listed_more v e =
      record {
        few = omega (arith, so_far.few);
        counted = omega (arith, so_far.counted, ap length e, length-append (listed h) (v ∷ []));
        stored =
            ap (λ (l : List ℕ). set l count v) so_far.stored ∙ sets-snoc old (listed h) count v so_far.counted ∙ ap (λ (a : List ℕ). sets old 0 a) (sym e);
      }

  pub listed_same : listed (h + 1) ≡ listed h → Listed listed old list count (h + 1)
  listed_same e =
      record {
        few = omega (arith, so_far.few);
        counted = so_far.counted ∙ sym (ap length e);
        stored = so_far.stored ∙ ap (λ (a : List ℕ). sets old 0 a) (sym e);
      }

-- a loop from the order's end on: what is left to visit is its front
pub record Left (order rest : List ℕ) (done : ℕ) : Type 0 where
  pub long : length rest + done ≡ length order
  pub same : (k : ℕ) → k < length rest → get_or rest k 0 ≡ get_or order k 0

pub visited : (order rest : List ℕ) (v done : ℕ) → Left order (rest ++ (v ∷ [])) done → (v ≡ get_or order (length order - suc done) 0) × Left order rest (done + 1)
visited order rest v done left =
    let size = length_push rest v in
    let at : length order - suc done ≡ length rest = omega (arith, left.long) in (
      rw at (sym (get_or-append_seam rest v [] 0) ∙ left.same (length rest) (omega arith)),
      record {
        long = omega (arith, left.long);
        same = λ k h. sym (get_or-append rest (v ∷ []) 0 k h) ∙ left.same k (omega arith);
      },
    )
