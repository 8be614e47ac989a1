-- Rails: they are enough for the width, and no fewer are; the rails at each cut of a function.
-- Assumes nothing.
use mathlib.Core.Path.{◌≡◌, ◌∙◌, ap}
use mathlib.Core.Bool.{false}
use mathlib.Core.List.{List, []}
use Prim.Native.Nat.{ℕ, suc, ◌^◌, ◌≤◌}
use native.Mathlib.Omega.{arith}
use lib.ListN.{length, get_or, get_or-map}
use Rattle.laws.proofs.Cases.{by_equal}
use Rattle.laws.proofs.Lists.{get_or-tab}
use Rattle.sheet_spec.specs.Job.{Job, t}
use Rattle.sheet_spec.specs.Refusals.{not_each_once}
use Rattle.reduction_spec.specs.Columns.{firsts_at, width, layers, layer, width_in}
use Rattle.reduction_spec.proofs.Promises.{width_top, width-layer}
use Rattle.stored_spec.specs.Rails.{rails, rails_at}
use Rattle.stored_spec.proofs.Promises.{rails-enough, rails_top, rails_at_lem}
use Rattle.cutting_spec.specs.Compile.{widths_of}

-- the smallest prefixes, and the width, at a height
pub layer_at : (j : Job) (f : List ℕ) (h : ℕ) → h ≤ t j → layer (layers j f) h ≡ firsts_at j f h
unfolding layers
layer_at j f h l = get_or-tab (firsts_at j f) [] (suc (t j)) h (omega arith)

pub width_at : (ls : List (List ℕ)) (h : ℕ) → get_or (widths_of ls) h 0 ≡ width_in ls h
unfolding widths_of
width_at ls h = get_or-map length ls h []

module _ (j : Job) (once : not_each_once j.n j.m j.order ≡ false) (few : j.n ≤ 12) (out : j.m ≤ 8) (f : List ℕ) where
  pub rails_hold : (h : ℕ) → h ≤ t j → width_in (layers j f) h ≤ 2 ^ rails_at j (widths_of (layers j f)) h
  rails_hold h l =
      let ls = layers j f in
      let ws = widths_of ls in
      by_equal h (t j)
      (λ e.
      let r : 2 ^ rails_at j ws h ≡ 1 = ap (λ (k : ℕ). 2 ^ rails_at j ws k) e ∙ ap (λ (k : ℕ). 2 ^ k) (rails_top j ws) in
      omega (arith, r, width-layer j f h l, ap (width j f) e, width_top j once few out f))
      (λ e.
      let r : 2 ^ rails_at j ws h ≡ 2 ^ rails (width_in ls h) =
      ap (λ (k : ℕ). 2 ^ k) (rails_at_lem j ws h (omega arith) ∙ ap rails (width_at ls h)) in
      omega (arith, r, rails-enough (width_in ls h)))
