-- Greedy cutting needs no more cells than any other cut list, where widths are those of a function: what it misses is the fewest bits.
-- Assumes nothing.
use mathlib.Core.Path.{◌≡◌, refl, sym, ◌∙◌, ap}
use mathlib.Core.Bool.{Bool, true, false}
use mathlib.Core.List.{List, [], ◌∷◌}
use Prim.Native.Nat.{ℕ, zero, suc, ◌+◌, ◌-◌, ◌*◌, ◌^◌, ◌<◌, ◌≤◌}
use native.Mathlib.Nat.{mul-le-mul_right}
use native.Mathlib.Omega.{arith}
use lib.Dec.{leb, ltb}
use lib.ListN.{length}
use lib.Pow.{pow-add}
use borrow.Author.Tests.{lt-ltb, leb-true, le-leb}
use Rattle.laws.proofs.Cases.{by_less, last_or_below, cond_yes, and_split, and_join}
use Rattle.laws.proofs.Find.{least-hit, least_of_lem}
use Rattle.laws.proofs.Masks.{not-both}
use Rattle.sheet_spec.specs.Job.{Job, t, ins}
use Rattle.sheet_spec.specs.Refusals.{not_each_once, sheet_refusal}
use Rattle.sheet_spec.specs.Table.{table}
use Rattle.sheet_spec.specs.Accepted.{Accepted}
use Rattle.sheet_spec.proofs.Promises.{ins_rise, outs_rise, job-accepted}
use Rattle.reduction_spec.specs.Columns.{width, layers, width_in}
use Rattle.reduction_spec.specs.Merge.{reduced, refuse7}
use Rattle.reduction_spec.proofs.Promises.{width-step, width-layer}
use Rattle.stored_spec.specs.Cells.{fits, all_fit}
use Rattle.stored_spec.specs.Rails.{rails, rails_at}
use Rattle.stored_spec.proofs.Promises.{rails-least, rails_at_lem}
use Rattle.cutting_spec.specs.Cuts.{CutList, bottom, next, cell_inputs, cell_outputs, cell_between, cells_of}
use Rattle.cutting_spec.specs.Choice.{admissible, chosen, refuse8}
use Rattle.cutting_spec.specs.Greedy.{greedy_next, greedy_from, greedy}
use Rattle.cutting_spec.specs.Compile.{widths_of, made}
use Rattle.cutting_spec.proofs.Better.{cells_in, first_less, better_is}
use Rattle.cutting_spec.proofs.Demand2.{best_list}
use Rattle.cutting_spec.proofs.RailCounts.{rails_hold, width_at}
use Rattle.cutting_spec.proofs.RowLimit.{cells-next, sheet-fits}

-- the longest cell from a cut, and the cuts from there on
module _ (j : Job) (ws : List ℕ) where
  abbrev fits_at : ℕ → ℕ → Bool
  fits_at a b = fits j.K j.L (cell_between j ws a b)

  next_fits : (a : ℕ) → greedy_next j ws a < a → fits j.K j.L (cell_between j ws a (greedy_next j ws a)) ≡ true
  unfolding greedy_next
  next_fits a = least-hit (fits_at a) a

  next_lowest : (a b : ℕ) → b < a → fits j.K j.L (cell_between j ws a b) ≡ true → greedy_next j ws a ≤ b
  unfolding greedy_next
  next_lowest a = least_of_lem (fits_at a) a

  from-bottom : (k : ℕ) → greedy_from j ws k 0 ≡ 0 ∷ []
  unfolding greedy_from greedy_next
  from-bottom zero = refl
  from-bottom (suc k) = refl

  from_cell : (k a : ℕ) → greedy_next j ws a < a → greedy_from j ws (suc k) a ≡ a ∷ greedy_from j ws k (greedy_next j ws a)
  unfolding greedy_from
  from_cell k a h = cond_yes (ltb (greedy_next j ws a) a) _ _ (lt-ltb (greedy_next j ws a) a h)

  -- a falling list from a to 0 whose cells fit, at most c of them
  record Reaches (a : ℕ) (l : List ℕ) (c : ℕ) : Type 0 where
    falls : CutList a l
    fit : all_fit j.K j.L (cells_of j ws l) ≡ true
    few : length (cells_of j ws l) ≤ c

  reaches_bottom : (k c : ℕ) → Reaches 0 (greedy_from j ws k 0) c
  unfolding cells_of all_fit
  reaches_bottom k c = rw (from-bottom k) (record { falls = bottom; fit = refl; few = omega arith })

  reaches_cell : (k a c : ℕ) → greedy_next j ws a < a → Reaches (greedy_next j ws a) (greedy_from j ws k (greedy_next j ws a)) c
      → Reaches a (greedy_from j ws (suc k) a) (suc c)
  unfolding all_fit
  reaches_cell k a c h r =
      let cells = cells-next j ws a r.falls in
      rw (from_cell k a h)
      (record {
        falls = next h r.falls;
        fit = rw cells (and_join (next_fits a h) r.fit);
        few = rw cells (let p = r.few in omega arith);
      })

-- the widths of a function
module _ (j : Job) (once : not_each_once j.n j.m j.order ≡ false) (few : j.n ≤ 12) (out : j.m ≤ 8) (f : List ℕ) where
  abbrev ls : List (List ℕ)
  ls = layers j f

  abbrev ws : List ℕ
  ws = widths_of (layers j f)

  -- the width at most doubles across an input and does not grow across an output (`width-step`), so rails grow by at most the inputs passed
  rails-step : (h : ℕ) → h < t j → rails_at j ws h ≤ rails_at j ws (suc h) + (ins j (suc h) - ins j h)
  rails-step h l =
      let r = rails_at j ws (suc h) in
      let d = ins j (suc h) - ins j h in
      let is : rails_at j ws h ≡ rails (width_in ls h) = rails_at_lem j ws h l ∙ ap rails (width_at ls h) in
      let up : width_in ls (suc h) * 2 ^ d ≤ 2 ^ r * 2 ^ d = mul-le-mul_right (2 ^ d) (rails_hold j once few out f (suc h) l) in
      let same : width_in ls (suc h) * 2 ^ d ≡ width j f (suc h) * 2 ^ d = ap (λ (w : ℕ). w * 2 ^ d) (width-layer j f (suc h) l) in
      let most : width_in ls h ≤ 2 ^ (r + d) = omega (arith, width-layer j f h (omega arith), width-step j once few out f h l, pow-add 2 r d) in
      omega (arith, rails-least (width_in ls h) (r + d) most)

  rails_fall : (a b : ℕ) → b ≤ a → a ≤ t j → rails_at j ws b ≤ rails_at j ws a + (ins j a - ins j b)
  rails_fall zero b p q = let e : b ≡ 0 = omega arith in omega (arith, ap (rails_at j ws) e)
  rails_fall (suc a) b p q =
      last_or_below b (suc a) (omega arith) (λ e. omega (arith, ap (rails_at j ws) e))
      (λ l. omega (arith, rails_fall a b (omega arith) (omega arith), rails-step a (omega arith), ins_rise j a (suc a) (omega arith), ins_rise j b a (omega arith)))

  -- a cell that fits does so from each lower cut
  fits-lower : (a c b : ℕ) → b < c → c ≤ a → a ≤ t j → fits j.K j.L (cell_between j ws a b) ≡ true
      → fits j.K j.L (cell_between j ws c b) ≡ true
  unfolding fits cell_between cell_inputs cell_outputs
  fits-lower a c b l p q e =
      let (x, y) = and_split (leb (cell_inputs j ws a b) j.K) (leb (cell_outputs j ws a b) j.L) e in
      let u = leb-true (cell_inputs j ws a b) j.K x in
      let v = leb-true (cell_outputs j ws a b) j.L y in
      and_join
      (le-leb (cell_inputs j ws c b) j.K (omega (arith, rails_fall a c p q, ins_rise j c a p, ins_rise j b c (omega arith))))
      (le-leb (cell_outputs j ws c b) j.L (omega (arith, outs_rise j c a p)))

  -- from a cut that is no higher greedy cutting needs no more cells
  greedy_below : {h : ℕ} {l : List ℕ} → CutList h l → h ≤ t j → all_fit j.K j.L (cells_of j ws l) ≡ true
      → (k a : ℕ) → a ≤ k → a ≤ h
      → Reaches j ws a (greedy_from j ws k a) (length (cells_of j ws l))
  unfolding all_fit
  greedy_below bottom top e k a p q = let z : a ≡ 0 = omega arith in rw z (reaches_bottom j ws k _)
  greedy_below (next {h = h} {g = g} {l = l} u c) top e k a p q =
      let cells = cells-next j ws h c in
      let (own, rest) = and_split (fits j.K j.L (cell_between j ws h g)) (all_fit j.K j.L (cells_of j ws l)) (rw cells at e) in
      by_less g a
      (λ v.
      let low = next_lowest j ws a g v (fits-lower h a g v q top own) in
      let one : k ≡ suc (k - 1) = omega arith in
      rw (cells, one)
      (reaches_cell j ws (k - 1) a _ (omega arith) (greedy_below c (omega arith) rest (k - 1) (greedy_next j ws a) (omega arith) low)))
      (λ v.
      let r = greedy_below c (omega arith) rest k a p v in
      rw cells (record { falls = r.falls; fit = r.fit; few = let m = r.few in omega arith }))

-- the widths that the compiler uses
abbrev pub widths_for : Job → List ℕ → List ℕ
widths_for j s = (made j (table j s)).widths

-- an accepted job and sheet whose widths are not refused
module _ (j : Job) (s : List ℕ) (e : sheet_refusal j s ≡ 0) (seven : refuse7 j (table j s) ≡ false) where
  -- the greedy list is an admissible cut list wherever there is one, and has the fewest cells
  pub greedy-fewest : (l : List ℕ) → CutList (t j) l → admissible j (widths_for j s) l ≡ true
      → CutList (t j) (greedy j (widths_for j s)) × (admissible j (widths_for j s) (greedy j (widths_for j s)) ≡ true)
      × (length (cells_of j (widths_for j s) (greedy j (widths_for j s))) ≤ length (cells_of j (widths_for j s) l))
  unfolding made greedy
  greedy-fewest l c a =
      let r : Accepted j.n j.m j.order s = job-accepted j s e in
      let f = reduced j (table j s) in
      let ws = widths_of (layers j f) in
      let fit = sheet-fits j s e seven in
      let g = greedy_below j r.order-whole r.inputs r.outputs f c (omega arith) (sym (fit l c) ∙ a) (t j) (t j) (omega arith) (omega arith) in
      (g.falls, fit (greedy j ws) g.falls ∙ g.fit, g.few)

  -- and so as many as the chosen list, where 8 is not given
  pub greedy-cells : refuse8 j (widths_for j s) ≡ false
      → CutList (t j) (greedy j (widths_for j s)) × (admissible j (widths_for j s) (greedy j (widths_for j s)) ≡ true)
      × (length (cells_of j (widths_for j s) (greedy j (widths_for j s))) ≡ length (cells_of j (widths_for j s) (chosen j (widths_for j s))))
  greedy-cells kept =
      let ws = widths_for j s in
      let (c, a, none) = best_list j ws kept in
      let (falls, good, few) = greedy-fewest (chosen j ws) c a in
      let most : length (cells_of j ws (chosen j ws)) ≤ length (cells_of j ws (greedy j ws)) =
      by_less (cells_in j ws (greedy j ws)) (cells_in j ws (chosen j ws))
      (λ l. not-both (better_is j ws (greedy j ws) (chosen j ws) ∙ first_less _ _ _ l) (none (greedy j ws) falls good)) (λ l. l) in
      (falls, good, omega arith)
