-- Graphs that link the same columns have the same cover.
-- Assumes nothing.
use mathlib.Core.Path.{◌≡◌, refl, sym, ◌∙◌, ap}
use mathlib.Core.Bool.{Bool, true, false, cond, not, ◌&&◌}
use mathlib.Core.List.{List}
use Prim.Native.Nat.{ℕ, zero, suc, ◌+◌, ◌*◌, ◌<◌}
use native.Mathlib.Omega.{arith}
use borrow.Author.Tests.{eq-eqb}
use lib.Dec.{eqb}
use lib.ListN.{set, replicate}
use Rattle.laws.specs.Tests.{any}
use Rattle.laws.specs.Lists.{tab}
use Rattle.laws.specs.Bits.{flag}
use Rattle.laws.proofs.Cases.{by_test, by_equal, cond_yes, cond_no}
use Rattle.laws.proofs.Tests.{any_none}
use Rattle.laws.proofs.Masks.{not-both}
use Rattle.laws.proofs.Counts.{count_ext}
use Rattle.laws.proofs.Lists.{tab_ext}
use Rattle.reduction_spec.specs.Cover.{is_in, linked, edges, fewer, fewest, staying, candidates, grown, clique, leave, owned, rounds, cover}
use Rattle.reduction_spec.proofs.OneRound.{fewest_in, fewest-none}

and_alike : (s x y z : Bool) → (x && y) ≡ (x && z) → ((s && x) && y) ≡ ((s && x) && z)
and_alike true x y z e = e
and_alike false x y z e = refl

module _ (w : ℕ) (g f : List ℕ)
    (alike : (c d : ℕ) → c < w → d < w → (not (eqb c d) && is_in g (c * w + d)) ≡ (not (eqb c d) && is_in f (c * w + d))) where
  linked-alike : (s : List ℕ) (c d : ℕ) → c < w → d < w → linked w g s c d ≡ linked w f s c d
  unfolding linked
  linked-alike s c d hc hd = and_alike (is_in s d) (not (eqb c d)) (is_in g (c * w + d)) (is_in f (c * w + d)) (alike c d hc hd)

  edges-alike : (left : List ℕ) (c : ℕ) → c < w → edges w g left c ≡ edges w f left c
  unfolding edges
  edges-alike left c hc = count_ext (linked w g left c) (linked w f left c) w (λ d hd. linked-alike left c d hc hd)

  fewest-alike : (es s : List ℕ) (c : ℕ) → fewest w g es s c ≡ fewest w f es s c
  unfolding fewest fewer
  fewest-alike es s zero = refl
  fewest-alike es s (suc c) =
      ap (λ (b : ℕ). cond (is_in s c && fewer w f es c b) c b) (fewest-alike es s c)

  candidates-alike : (s : List ℕ) (u : ℕ) → u < w → candidates w g s u ≡ candidates w f s u
  unfolding candidates staying
  candidates-alike s u hu = tab_ext (λ d. flag (linked w g s u d)) (λ d. flag (linked w f s u d)) w (λ d hd. ap flag (linked-alike s u d hu hd))

  grown-alike : (k : ℕ) (es s q : List ℕ) → grown w g k es s q ≡ grown w f k es s q
  unfolding grown
  grown-alike zero es s q = refl
  grown-alike (suc k) es s q =
      let u = fewest w g es s w in
      let v = fewest w f es s w in
      let e : u ≡ v = fewest-alike es s w in
      by_equal u w
      (λ z.
      cond_yes (eqb u w) q (grown w g k es (candidates w g s u) (set q u 1)) (eq-eqb u w z)
      ∙ sym (cond_yes (eqb v w) q (grown w f k es (candidates w f s v) (set q v 1)) (eq-eqb v w (sym e ∙ z))))
      (λ z.
      ap (cond (eqb u w) q)
      (grown-alike k es (candidates w g s u) (set q u 1)
      ∙ ap (λ (r : List ℕ). grown w f k es r (set q u 1)) (candidates-alike s u (fewest_in w g es s w z).0))
      ∙ ap (λ (u : ℕ). cond (eqb u w) q (grown w f k es (candidates w f s u) (set q u 1))) e)

  clique-alike : (left : List ℕ) → any w (is_in left) ≡ true → clique w g left ≡ clique w f left
  unfolding clique
  clique-alike left some =
      let es = tab w (edges w g left) in
      let fs = tab w (edges w f left) in
      let u = fewest w g es left w in
      let e : es ≡ fs = tab_ext (edges w g left) (edges w f left) w (edges-alike left) in
      let some_left : u ≡ w → ⊥ = λ z. not-both some (any_none (is_in left) w (fewest-none w g es left w (omega arith) z)) in
      grown-alike w es (candidates w g left u) (set (replicate w 0) u 1)
      ∙ ap (λ (s : List ℕ). grown w f w es s (set (replicate w 0) u 1)) (candidates-alike left u (fewest_in w g es left w some_left).0)
      ∙ ap (λ (u : ℕ). grown w f w es (candidates w f left u) (set (replicate w 0) u 1)) (fewest-alike es left w)
      ∙ ap (λ (es : List ℕ). grown w f w es (candidates w f left (fewest w f es left w)) (set (replicate w 0) (fewest w f es left w) 1)) e

  rounds-alike : (k i : ℕ) (left owner : List ℕ) → rounds w g k i left owner ≡ rounds w f k i left owner
  unfolding rounds leave owned
  rounds-alike zero i left owner = refl
  rounds-alike (suc k) i left owner =
      by_test (any w (is_in left))
      (λ some.
      let q = clique w g left in
      ap (λ (r : List ℕ). cond (any w (is_in left)) r owner)
      (rounds-alike k (i + 1) (leave w g left q) (owned w g owner q i)
      ∙ ap (λ (q : List ℕ). rounds w f k (i + 1) (leave w f left q) (owned w f owner q i)) (clique-alike left some)))
      (λ none.
      cond_no (any w (is_in left)) (rounds w g k (i + 1) (leave w g left (clique w g left)) (owned w g owner (clique w g left) i)) owner none
      ∙ sym (cond_no (any w (is_in left)) (rounds w f k (i + 1) (leave w f left (clique w f left)) (owned w f owner (clique w f left) i)) owner none))

  pub cover-alike : cover w g ≡ cover w f
  unfolding cover
  cover-alike = rounds-alike w 0 (replicate w 1) (replicate w 0)
