-- A table of nodes as words: one node more.
-- Assumes nothing.
use mathlib.Core.Path.{◌≡◌, refl, sym, ◌∙◌, ap, ap₂}
use mathlib.Core.List.{List, [], ◌∷◌, ◌++◌}
use Prim.Native.Nat.{ℕ, ◌+◌, ◌*◌}
use native.Mathlib.Omega.{arith}
use lib.ListN.{length}
use lib.Seq.{sets}
use Rattle.laws.specs.Lists.{tab}
use Rattle.laws.proofs.Lists.{length-tab, tab-next}
use Rattle.laws.proofs.Puts.{sets-append}
use Rattle.reduction_spec.specs.Diagram.{Node, node, node_words}

pub node_words-append : (a b : List Node) → node_words (a ++ b) ≡ node_words a ++ node_words b
node_words-append [] b = refl
node_words-append (x ∷ a) b = ap (λ (l : List ℕ). x.height ∷ x.low ∷ x.high ∷ l) (node_words-append a b)

pub length-node_words : (a : List Node) → length (node_words a) ≡ length a * 3
length-node_words [] = refl
length-node_words (x ∷ a) = omega (arith, length-node_words a)

pub node-next : (f : ℕ → Node) (at c : ℕ) (l s : List ℕ) (h low high : ℕ) → s ≡ sets l (at * 3) (node_words (tab c f)) → f c ≡ node h low high
    → sets s ((at + c) * 3) (h ∷ low ∷ high ∷ []) ≡ sets l (at * 3) (node_words (tab (c + 1) f))
node-next f at c l s h low high p q =
    let k : at * 3 + length (node_words (tab c f)) ≡ (at + c) * 3 = omega (arith, length-node_words (tab c f), length-tab f c) in
    ap₂ (λ (s : List ℕ) (i : ℕ). sets s i (h ∷ low ∷ high ∷ [])) p (sym k)
    ∙ sym (sets-append (node_words (tab c f)) (h ∷ low ∷ high ∷ []) l (at * 3))
    ∙ ap (λ (x : Node). sets l (at * 3) (node_words (tab c f) ++ node_words (x ∷ []))) (sym q)
    ∙ ap (sets l (at * 3)) (sym (node_words-append (tab c f) (f c ∷ [])) ∙ ap node_words (sym (tab-next f c)))
