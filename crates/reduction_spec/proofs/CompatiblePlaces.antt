-- Laws of `opposite` and `compatible`.
-- Assumes nothing.
use mathlib.Core.Path.{◌≡◌, ◌∙◌, ap, ap₂}
use mathlib.Core.Bool.{true, false, not, ◌&&◌, ◌||◌, and_comm, or_comm}
use mathlib.Core.List.{List}
use Prim.Native.Nat.{ℕ, ◌^◌, ◌<◌}
use borrow.Author.Tests.{not-true, not-false}
use lib.Dec.{eqb}
use Rattle.laws.proofs.Tests.{every_out, every_of, every_at, every_ext}
use Rattle.reduction_spec.specs.Columns.{entry}
use Rattle.reduction_spec.specs.Compatible.{opposite, compatible_line, compatible}

pub opposite_sym : (x y : ℕ) → opposite x y ≡ opposite y x
opposite_sym x y =
    or_comm (eqb x 0 && eqb y 1) (eqb x 1 && eqb y 0) ∙ ap₂ ◌||◌ (and_comm (eqb x 1) (eqb y 0)) (and_comm (eqb x 0) (eqb y 1))

module _ (n a b : ℕ) (f : List ℕ) (p q : ℕ) where
  pub compatible-entry : compatible n a b f p q ≡ true → (k x : ℕ) → k < b → x < 2 ^ a → opposite (entry n a f p k x) (entry n a f q k x) ≡ false
  unfolding compatible compatible_line
  compatible-entry e k x hk hx =
      not-true (opposite (entry n a f p k x) (entry n a f q k x))
      (every_at (λ y. not (opposite (entry n a f p k y) (entry n a f q k y))) (2 ^ a) (every_at (compatible_line n a f p q) b e k hk) x hx)

  pub entry-compatible : ((k x : ℕ) → k < b → x < 2 ^ a → opposite (entry n a f p k x) (entry n a f q k x) ≡ false) → compatible n a b f p q ≡ true
  unfolding compatible compatible_line
  entry-compatible h =
      every_of (compatible_line n a f p q) b (λ k hk.
      every_of (λ x. not (opposite (entry n a f p k x) (entry n a f q k x))) (2 ^ a) (λ x hx. ap not (h k x hk hx)))

  pub incompatible_at : compatible n a b f p q ≡ false
      → (k : ℕ) × (x : ℕ) × (k < b) × (x < 2 ^ a) × (opposite (entry n a f p k x) (entry n a f q k x) ≡ true)
  unfolding compatible compatible_line
  incompatible_at e =
      let r = every_out (compatible_line n a f p q) b e in
      let k = r.0 in
      let s = every_out (λ x. not (opposite (entry n a f p k x) (entry n a f q k x))) (2 ^ a) r.2 in
      (k, s.0, r.1, s.1, not-false (opposite (entry n a f p k s.0) (entry n a f q k s.0)) s.2)

pub compatible_sym : (n a b : ℕ) (f : List ℕ) (p q : ℕ) → compatible n a b f p q ≡ compatible n a b f q p
unfolding compatible compatible_line
compatible_sym n a b f p q =
    every_ext (compatible_line n a f p q) (compatible_line n a f q p) b (λ k hk.
    every_ext (λ x. not (opposite (entry n a f p k x) (entry n a f q k x))) (λ x. not (opposite (entry n a f q k x) (entry n a f p k x))) (2 ^ a)
    (λ x hx. ap not (opposite_sym (entry n a f p k x) (entry n a f q k x))))
