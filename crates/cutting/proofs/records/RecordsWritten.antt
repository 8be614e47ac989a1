-- Records stored one after another, and that they are the stored form of a cut list.
-- Assumes nothing.
use mathlib.Core.Path.{◌≡◌, refl, sym, ◌∙◌, ap, ap₂}
use mathlib.Core.Bool.{Bool, cond, ◌||◌}
use mathlib.Core.List.{List, [], ◌∷◌, ◌++◌}
use Prim.Native.Nat.{ℕ, zero, suc, ◌+◌, ◌-◌, ◌*◌, ◌<◌}
use native.Mathlib.Numerals.{add-one}
use native.Mathlib.Omega.{arith}
use lib.Dec.{eqb}
use lib.ListN.{length, get_or}
use lib.Seq.{sets}
use Rattle.laws.specs.Tests.{any}
use Rattle.laws.specs.Lists.{joined}
use Rattle.laws.specs.Bits.{flag}
use Rattle.laws.proofs.Tests.{any_ext, any_front}
use Rattle.laws.proofs.Counts.{sum_fixed}
use Rattle.laws.proofs.Lists.{length-joined, joined_front}
use Rattle.laws.proofs.Puts.{sets-append}
use Rattle.sheet_spec.specs.Job.{Job, t, var_at}
use Rattle.stored_spec.specs.Rails.{rails_at}
use Rattle.stored_spec.specs.StoredForm.{member, stored_to, stored}
use Rattle.cutting.specs.Plan.{is_cut, record_in}

-- one record more
module _ (t : ℕ) (order rs cs : List ℕ) (n : ℕ) where
  records-length : (k : ℕ) → length (joined k (record_in t order rs cs n)) ≡ k * 4
  unfolding record_in
  records-length k = length-joined (record_in t order rs cs n) k ∙ sum_fixed k 4

  pub record_next : (k g : ℕ) (b : Bool) (l s : List ℕ) → g ≡ t - suc k → b ≡ is_cut cs n g → s ≡ sets l 0 (joined k (record_in t order rs cs n))
      → sets s (k * 4) (get_or order k 0 ∷ flag b ∷ cond b (get_or rs g 0) 0 ∷ 0 ∷ []) ≡ sets l 0 (joined (k + 1) (record_in t order rs cs n))
  unfolding record_in
  record_next k g b l s below cut p =
      let f = record_in t order rs cs n in
      let e : k * 4 ≡ 0 + length (joined k f) = omega (arith, records-length k) in
      ap₂ (λ (s : List ℕ) (i : ℕ). sets s i (get_or order k 0 ∷ flag b ∷ cond b (get_or rs g 0) 0 ∷ 0 ∷ [])) p e
      ∙ ap₂ (λ (c : Bool) (h : ℕ). sets (sets l 0 (joined k f)) (0 + length (joined k f)) (get_or order k 0 ∷ flag c ∷ cond c (get_or rs h 0) 0 ∷ 0 ∷ []))
      (cut ∙ ap (is_cut cs n) below) below
      ∙ sym (sets-append (joined k f) (f k) l 0) ∙ ap (λ (i : ℕ). sets l 0 (joined i f)) (sym (add-one k))

any-member : (g : ℕ) (l : List ℕ) → any (length l) (λ i. eqb g (get_or l i 0)) ≡ member g l
any-member g [] = refl
any-member g (x ∷ l) =
    any_front (λ i. eqb g (get_or (x ∷ l) i 0)) (length l) ∙ ap (λ (b : Bool). eqb g x || b) (any-member g l)

-- the record above height g
unfoldable record_above : Job → List ℕ → List ℕ → ℕ → List ℕ
record_above j ws l g = var_at j (suc g) ∷ flag (member g l) ∷ cond (member g l) (rails_at j ws g) 0 ∷ 0 ∷ []

module _ (j : Job) (ws l : List ℕ) where
  joined-stored : (h : ℕ) (f : ℕ → List ℕ) → ((i : ℕ) → i < h → f i ≡ record_above j ws l (h - suc i)) → joined h f ≡ stored_to j ws l h
  unfolding stored_to record_above
  joined-stored zero f e = refl
  joined-stored (suc h) f e =
      let top : suc h - 1 ≡ h = omega arith in
      let first : f 0 ≡ record_above j ws l h = e 0 (omega arith) ∙ ap (record_above j ws l) top in
      joined_front f h
      ∙ ap₂ (λ (a b : List ℕ). a ++ b) first
      (joined-stored h (λ i. f (suc i))
      (λ i p. let s : suc h - suc (suc i) ≡ h - suc i = omega arith in e (suc i) (omega arith) ∙ ap (record_above j ws l) s))

pub records-written : (j : Job) (ws l rs cs : List ℕ) → length j.order ≡ t j
    → ((h : ℕ) → h < t j → get_or rs h 0 ≡ rails_at j ws h)
    → ((i : ℕ) → i < length l → get_or cs i 0 ≡ get_or l i 0)
    → joined (t j) (record_in (t j) j.order rs cs (length l)) ≡ stored j ws l
unfolding record_in is_cut record_above stored
records-written j ws l rs cs long rails cuts =
    joined-stored j ws l (t j) (record_in (t j) j.order rs cs (length l))
    (λ i p.
    let g = t j - suc i in
    let at : i ≡ t j - suc g = omega arith in
    let cut : is_cut cs (length l) g ≡ member g l =
    any_ext (λ k. eqb g (get_or cs k 0)) (λ k. eqb g (get_or l k 0)) (length l) (λ k q. ap (eqb g) (cuts k q)) ∙ any-member g l in
    ap₂ (λ (k : ℕ) (b : Bool). get_or j.order k 0 ∷ flag b ∷ cond b (get_or rs g 0) 0 ∷ 0 ∷ []) at cut
    ∙ ap (λ (r : ℕ). var_at j (suc g) ∷ flag (member g l) ∷ cond (member g l) r 0 ∷ 0 ∷ []) (rails g (omega arith)))
