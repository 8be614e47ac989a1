-- What std's methods leave in a part of a list, and what they find there.
-- Assumes nothing.
use mathlib.Core.Path.{◌≡◌, refl, sym, ◌∙◌, ap, ap₂}
use mathlib.Core.Bool.{Bool, true, false, ◌||◌}
use mir.Val.{bool_byte}
use mathlib.Core.List.{List, ◌++◌, append_assoc}
use Prim.Native.Nat.{ℕ, zero, suc, ◌+◌, ◌≤◌}
use native.Mathlib.Nat.{zero-add}
use native.Mathlib.Numerals.{add-one}
use native.Mathlib.Omega.{arith}
use borrow.Author.Tests.{eq-eqb, ne_eqb}
use borrow.Rule.Slice.PartMut.{mid_of, put_mid}
use lib.Dec.{eqb}
use lib.ListN.{length-drop, length, get_or, take, drop, replicate, length-replicate, get_or-replicate}
use lib.Seq.{drop-drop, ext_get_or, length-take-le, get_or-take}
use Rattle.std.specs.List.{list_any}
use Rattle.std.proofs.lemmas.List.Folds.{list_any_more}
use Rattle.laws.specs.Bits.{flag}
use Rattle.laws.specs.Tests.{any}
use Rattle.laws.specs.Lists.{tab, puts, puts_at, written}
use Rattle.laws.proofs.Cases.{by_equal}
use Rattle.laws.proofs.Lists.{length-tab, get_or-tab}
use Rattle.laws.proofs.Puts.{puts_at-sets, puts_ext, copied}
use Rattle.laws.proofs.Filled.{written-sets}

-- a test as a number
pub byte-flag : (b : Bool) → bool_byte b ≡ flag b
byte-flag true = refl
byte-flag false = refl

same : (row n : ℕ) → replicate n row ≡ tab n (λ i. row)
same row n =
    ext_get_or row (replicate n row) (tab n (λ i. row)) (length-replicate n row ∙ sym (length-tab (λ (i : ℕ). row) n))
    (λ i h. get_or-replicate n i row row (omega (arith, length-replicate n row)) ∙ sym (get_or-tab (λ (i : ℕ). row) row n i (omega (arith, length-replicate n row))))

-- one row again and again
pub filled-part : (row at size k : ℕ) (l s : List ℕ) → k ≡ size → at + size ≤ length l → s ≡ replicate (length (mid_of at k l)) row
    → put_mid at k l s ≡ puts_at at size (λ i. row) l
filled-part row at size k l s ek fits es =
    let vs : List ℕ = tab size (λ i. row) in
    let long = length-tab (λ (i : ℕ). row) size in
    let n : length (mid_of at k l) ≡ size = omega (arith, length-take-le k (drop at l) (omega (arith, length-drop at l))) in
    let e : s ≡ vs = es ∙ ap (λ (m : ℕ). replicate m row) n ∙ same row size in
    let rest : drop k (drop at l) ≡ drop (at + length vs) l = drop-drop k at l ∙ ap (λ (m : ℕ). drop m l) (omega (arith, long)) in
    let far = drop (at + length vs) l in
    let whole : take at l ++ (vs ++ far) ≡ written l at vs = simp append_assoc in
    ap₂ (λ (x y : List ℕ). take at l ++ (x ++ y)) e rest ∙ whole ∙ written-sets l at vs (omega (arith, long)) ∙ sym (puts_at-sets (λ i. row) at size l)

-- the first w of a list
pub copied-part : (w : ℕ) (from to s : List ℕ) → s ≡ take w from → w ≤ length from → w ≤ length to → s ++ drop w to ≡ puts w (λ i. get_or from i 0) to
copied-part w from to s is long room =
    let vs = take w from in
    let n : length vs ≡ w = length-take-le w from long in
    ap (λ (l : List ℕ). l ++ drop w to) is
    ∙ ap (λ (k : ℕ). vs ++ drop k to) (sym n ∙ sym (zero-add (length vs)))
    ∙ sym (copied vs to (omega arith))
    ∙ ap (λ (k : ℕ). puts k (λ i. get_or vs i 0) to) n
    ∙ puts_ext (λ i. get_or vs i 0) (λ i. get_or from i 0) w to (λ i h. get_or-take w from i 0 h)

eqb-turned : (a b : ℕ) → eqb a b ≡ eqb b a
eqb-turned a b = by_equal a b (λ e. eq-eqb a b e ∙ sym (eq-eqb b a (sym e))) (λ n. ne_eqb a b n ∙ sym (ne_eqb b a (λ e. n (sym e))))

-- one of the first n
pub any-found : (g : ℕ) (xs : List ℕ) (n : ℕ) → n ≤ length xs → list_any (λ y. eqb y g) (take n xs) ≡ any n (λ i. eqb g (get_or xs i 0))
any-found g xs zero h = refl
any-found g xs (suc n) h =
    ap (λ (k : ℕ). list_any (λ y. eqb y g) (take k xs)) (sym (add-one n)) ∙ list_any_more (λ (y : ℕ). eqb y g) xs n 0 (omega arith)
    ∙ ap₂ (λ (a b : Bool). a || b) (any-found g xs n (omega arith)) (eqb-turned (get_or xs n 0) g)
