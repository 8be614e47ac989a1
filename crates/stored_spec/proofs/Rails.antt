-- Rails: they are enough for the width, and no fewer are; at the top there are none.
-- Assumes nothing.
use mathlib.Core.Path.{◌≡◌, refl}
use mathlib.Core.Bool.{Bool}
use mathlib.Core.List.{List}
use Prim.Native.Nat.{ℕ, ◌^◌, ◌<◌, ◌≤◌}
use native.Mathlib.Omega.{arith}
use lib.Dec.{eqb, leb}
use lib.ListN.{get_or}
use borrow.Author.Tests.{eq-eqb, ne_eqb, leb-true, le-leb}
use Rattle.laws.proofs.Cases.{by_less, cond_yes, cond_no}
use Rattle.laws.proofs.Find.{least-le, least-hit, least_of_lem}
use Rattle.laws.proofs.Powers.{lt-pow}
use Rattle.sheet_spec.specs.Job.{Job, t}
use Rattle.stored_spec.specs.Rails.{rails, rails_at}

pub rails-enough : (w : ℕ) → w ≤ 2 ^ rails w
unfolding rails
rails-enough w =
    let p : ℕ → Bool = λ r. leb w (2 ^ r) in
    by_less (rails w) w (λ l. leb-true w (2 ^ rails w) (least-hit p w l))
    (λ l.
    let e : rails w ≡ w = omega (arith, least-le p w) in
    rw e (let h = lt-pow w in omega arith))

pub rails-least : (w r : ℕ) → w ≤ 2 ^ r → rails w ≤ r
unfolding rails
rails-least w r h =
    let p : ℕ → Bool = λ r. leb w (2 ^ r) in
    by_less r w (λ l. least_of_lem p w r l (le-leb w (2 ^ r) h)) (λ l. omega (arith, least-le p w))

pub rails_top : (j : Job) (ws : List ℕ) → rails_at j ws (t j) ≡ 0
unfolding rails_at
rails_top j ws = cond_yes (eqb (t j) (t j)) 0 _ (eq-eqb (t j) (t j) refl)

pub rails_at_lem : (j : Job) (ws : List ℕ) (h : ℕ) → h < t j → rails_at j ws h ≡ rails (get_or ws h 0)
unfolding rails_at
rails_at_lem j ws h l = cond_no (eqb h (t j)) 0 _ (ne_eqb h (t j) (λ e. absurd (omega arith)))
