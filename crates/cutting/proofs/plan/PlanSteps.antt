-- Laws of a plan: inputs, rails, cuts and rows one step after another, and how large they get.
-- Assumes nothing.
use mathlib.Core.Path.{◌≡◌, refl, sym, ◌∙◌, ap, ap₂}
use mathlib.Core.List.{List}
use Prim.Native.Nat.{ℕ, zero, suc, ◌+◌, ◌-◌, ◌*◌, ◌^◌, ◌<◌, ◌≤◌}
use native.Mathlib.Numerals.{add-one}
use native.Mathlib.Omega.{arith}
use lib.Dec.{eqb}
use lib.ListN.{get_or, replicate, get_or-replicate}
use lib.Pow.{pow_mono}
use borrow.Author.Tests.{eq-eqb, ne_eqb}
use Rattle.laws.specs.Lists.{puts}
use Rattle.laws.proofs.Cases.{by_less, cond_yes, cond_no}
use Rattle.laws.proofs.Counts.{sum-next}
use Rattle.laws.proofs.Puts.{stored, get_or_unput}
use Rattle.std.specs.Prelude.{Ok, Err}
use Rattle.refusals.specs.declared.Refusal.TheVariants.{NoCutList}
use Rattle.stored_spec.specs.declared.Cell.{Cell}
use Rattle.stored_spec.specs.Cells.{usable_rows}
use Rattle.stored_spec.specs.Rails.{rails}
use Rattle.cutting.specs.Levels.{Level, rails_of, inputs_of, levelled}
use Rattle.cutting.specs.Ways.{Way, no_way, list_cell, list_way, next_from}
use Rattle.cutting.specs.Plan.{cut_in, rows_of, rows_to, bytes21, Plan, planned, listed}
use Rattle.stored_spec.proofs.Promises.{rows-small, rails-enough, rails-least}
use Rattle.cutting.proofs.choice.BestWays.{way_falls}

-- r rails are too few; the rails of a width; one rail more
pub rails_more : (w r : ℕ) → 2 ^ r < w → r < rails w
rails_more w r l =
    by_less r (rails w) (λ p. p)
    (λ p. let m : 2 ^ rails w ≤ 2 ^ r = pow_mono p in absurd (omega (arith, m, rails-enough w)))

pub rails-few : (w : ℕ) → w ≤ 65536 → rails w ≤ 16
rails-few w l = rails-least w 16 l

module _ (nx : List ℕ) (t : ℕ) where
  pub cut-first : t ≡ cut_in nx t 0
  unfolding cut_in
  cut-first = refl

  pub cut-next : (i c v : ℕ) → c ≡ cut_in nx t i → v ≡ get_or nx c 0 → v ≡ cut_in nx t (i + 1)
  unfolding cut_in
  cut-next i c v e f = f ∙ ap (λ (x : ℕ). get_or nx x 0) e ∙ ap (cut_in nx t) (sym (add-one i))

  pub cut_low : ((h : ℕ) → h ≤ 20 → get_or nx h 0 ≤ 20) → t ≤ 20 → (i : ℕ) → cut_in nx t i ≤ 20
  unfolding cut_in
  cut_low low l zero = l
  cut_low low l (suc i) = low (cut_in nx t i) (cut_low low l i)

module _ (rs is cs : List ℕ) where
  pub rows_start : 0 ≡ rows_to rs is cs 0
  unfolding rows_to
  rows_start = refl

  pub rows_step : (i n a b : ℕ) (c : Cell) (r : ℕ) → n ≡ rows_to rs is cs i → a ≡ get_or cs i 0 → b ≡ get_or cs (i + 1) 0 → c ≡ list_cell rs is a b
      → r ≡ usable_rows c → n + r ≡ rows_to rs is cs (i + 1)
  unfolding rows_to rows_of
  rows_step i n a b c r en ea eb ec er =
      let e : r ≡ rows_of rs is cs i = er ∙ ap usable_rows (ec ∙ ap₂ (list_cell rs is) ea eb) in
      ap₂ (λ (x y : ℕ). x + y) en e ∙ sym (sum-next (rows_of rs is cs) i)

  pub rows_most : (i : ℕ) → rows_to rs is cs i ≤ i * 4096
  unfolding rows_to rows_of
  rows_most zero = omega arith
  rows_most (suc i) = omega (arith, rows_most i, rows-small (list_cell rs is (get_or cs i 0) (get_or cs (i + 1) 0)))

-- an array of bytes of which each stored one is at most m
low-bytes : (n m : ℕ) (f : ℕ → ℕ) (s : List ℕ) → s ≡ puts n f (replicate 21 0) → n ≤ 21 → ((i : ℕ) → i < n → f i ≤ m) → (i : ℕ) → i ≤ 20 → get_or s i 0 ≤ m
low-bytes n m f s e l low i h =
    let at : get_or s i 0 ≡ get_or (puts n f (replicate 21 0)) i 0 = ap (λ (x : List ℕ). get_or x i 0) e in
    by_less i n (λ p. omega (arith, at, stored 21 n f i l p, low i p))
    (λ p. omega (arith, at, get_or_unput f n (replicate 21 0) 0 i p, get_or-replicate {A = ℕ} 21 i 0 0 (omega arith)))

-- the chosen cuts, by the rails and inputs at each height
module _ (t k l : ℕ) (rs is : List ℕ) (high : t ≤ 20) where
  module _ (nx : List ℕ) (en : nx ≡ puts (t + 1) (next_from k l rs is) (replicate 21 0)) where
    pub next_low : (h : ℕ) → h ≤ 20 → get_or nx h 0 ≤ 20
    unfolding list_way
    next_low =
        low-bytes (t + 1) 20 (next_from k l rs is) nx en (omega arith)
        (λ g q. let f = way_falls (list_cell rs is) k l g in omega arith)

    pub cuts-low : (n : ℕ) (cs : List ℕ) → n ≤ 20 → cs ≡ puts (n + 1) (cut_in nx t) (replicate 21 0) → (i : ℕ) → i ≤ 20 → get_or cs i 0 ≤ 20
    cuts-low n cs few e = low-bytes (n + 1) 20 (cut_in nx t) cs e (omega arith) (λ i p. cut_low nx t next_low high i)

-- a plan by its parts; n is the number of its cells
pub plan_is : (t k l : ℕ) (order ws nx cs : List ℕ) (ls : List Level) (w : Way) (n cells rows : ℕ)
    → ls ≡ levelled t order ws → w ≡ list_way k l (rails_of ls) (inputs_of ls) t → cells + 1 ≡ w.cuts
    → nx ≡ bytes21 (t + 1) (next_from k l (rails_of ls) (inputs_of ls))
    → n ≡ cells → cs ≡ bytes21 (n + 1) (cut_in nx t) → rows ≡ rows_to (rails_of ls) (inputs_of ls) cs n
    → record { levels = ls; cuts = cs; cells = cells; bits = w.bits; rows = rows } ≡ planned t k l order ws
unfolding planned
plan_is t k l order ws nx cs ls w n cells rows el ew ec en e es eo =
    let c : cells ≡ w.cuts - 1 = omega arith in
    rw (eo, es, e, c, en, ew, el) refl

-- a plan of no cells; one that has some
pub unlisted : (t k l : ℕ) (order ws : List ℕ) (ls : List Level) → ls ≡ levelled t order ws
    → no_way ≡ list_way k l (rails_of ls) (inputs_of ls) t → Err NoCutList ≡ listed (planned t k l order ws)
unfolding planned listed
unlisted t k l order ws ls el ew =
    let none : (planned t k l order ws).cells ≡ 0 = ap (λ (x : List Level). (list_way k l (rails_of x) (inputs_of x) t).cuts - 1) (sym el) ∙ ap (λ (w : Way). w.cuts - 1) (sym ew) in
    sym (cond_yes (eqb (planned t k l order ws).cells 0) (Err NoCutList) (Ok (planned t k l order ws)) (eq-eqb _ 0 none))

pub listed_is : (q p : Plan) → q ≡ p → (q.cells ≡ 0 → ⊥) → Ok q ≡ listed p
unfolding listed
listed_is q p e some =
    rw e (sym (cond_no (eqb p.cells 0) (Err NoCutList) (Ok p) (ne_eqb p.cells 0 (λ z. some (ap (λ (x : Plan). x.cells) e ∙ z)))))
