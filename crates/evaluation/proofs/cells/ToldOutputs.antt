-- The eight outputs as the bits that some row has and those that each has tell them.
-- Assumes nothing.
use mathlib.Core.Path.{◌≡◌, refl, sym, ◌∙◌, ap, ap₂, subst}
use mathlib.Core.Bool.{Bool, true, false, cond}
use mathlib.Core.List.{List}
use Prim.Native.Nat.{ℕ}
use native.Mathlib.Omega.{arith}
use lib.ListN.{length, get_or, set, replicate, length-set}
use lib.Seq.{get_or-set_same, get_or-set_other}
use Rattle.laws.specs.Lists.{tab}
use Rattle.laws.proofs.Cases.{by_equal}
use Rattle.laws.proofs.Lists.{length-tab, get_or-tab, by_elements}
use Rattle.stored_spec.specs.Run.{unset}
use Rattle.stored_spec.specs.StoredForm.{cell_count}
use Rattle.evaluation_spec.specs.RailSets.{some_outs, each_outs, told_of, told}
use Rattle.evaluation.specs.Answer.{told_by}

-- one output set
told-set : (s t : List ℕ) (o a b : ℕ) → length s ≡ 8 → length t ≡ 8 → set (told_by s t) o (told_of a b) ≡ told_by (set s o a) (set t o b)
unfolding told_by
told-set s t o a b p q =
    let f : ℕ → ℕ = λ i. told_of (get_or s i 2) (get_or t i 2) in
    let g : ℕ → ℕ = λ i. told_of (get_or (set s o a) i 2) (get_or (set t o b) i 2) in
    let l = set (tab 8 f) o (told_of a b) in
    sym (by_elements l 8 g (length-set (tab 8 f) o (told_of a b) ∙ length-tab f 8)
    (λ i h.
    by_equal i o
    (λ e. subst (λ (j : ℕ). g j ≡ get_or l j 0) (sym e)
    (ap₂ told_of (get_or-set_same s o a 2 (omega (arith, p, e, h))) (get_or-set_same t o b 2 (omega (arith, q, e, h)))
    ∙ sym (get_or-set_same (tab 8 f) o (told_of a b) 0 (omega (arith, e, h, length-tab f 8)))))
    (λ e.
    ap₂ told_of (get_or-set_other s o i a 2 e) (get_or-set_other t o i b 2 e)
    ∙ sym (get_or-set_other (tab 8 f) o i (told_of a b) 0 e ∙ get_or-tab f 0 8 i h))))

pub told_turn : (v : Bool) (s t : List ℕ) {outs : List ℕ} (o a b : ℕ) → length s ≡ 8 → length t ≡ 8 → outs ≡ told_by s t
    → cond v outs (set outs o (told_of a b)) ≡ told_by (cond v s (set s o a)) (cond v t (set t o b))
told_turn true s t o a b p q e = e
told_turn false s t o a b p q e = ap (λ (l : List ℕ). set l o (told_of a b)) e ∙ told-set s t o a b p q

pub told-unset : replicate 8 2 ≡ told_by unset unset
unfolding told_by told_of
told-unset = refl

pub told-all : (known w : ℕ) (R bytes : List ℕ) → told_by (some_outs known w R bytes (cell_count R)) (each_outs known w R bytes (cell_count R)) ≡ tab 8 (told known w R bytes)
unfolding told_by told
told-all known w R bytes = refl
