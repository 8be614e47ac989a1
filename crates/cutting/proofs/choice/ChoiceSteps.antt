-- Steps of the choice of a way, one for each answer.
-- Assumes nothing.
use mathlib.Core.Path.{◌≡◌, refl, sym, ◌∙◌}
use mathlib.Core.Bool.{true, false, cond}
use mathlib.Core.List.{List}
use Prim.Native.Nat.{ℕ, zero, suc, ◌+◌, ◌<◌, ◌≤◌}
use native.Mathlib.Numerals.{add-one}
use native.Mathlib.Omega.{arith}
use borrow.Author.Tests.{lt-ltb, le-ltb, eq-eqb, ne_eqb}
use Rattle.sheet_spec.specs.Limits.{largest_inputs, largest_outputs}
use Rattle.stored_spec.specs.declared.Cell.{Cell}
use Rattle.stored_spec.specs.Cells.{fits, usable_bits}
use Rattle.cutting.specs.Ways.{Way, fewer, through, goes, with_cut_at, way_below, list_cell, list_way, cuts_from, bits_from}
use Rattle.stored_spec.proofs.Promises.{fits_largest, usable_bits_lem}
use Rattle.cutting.proofs.choice.BestWays.{way_next, way_bottom, way_small}

-- the better of two ways
module _ (u v : Way) where
  pub take-first : v.cuts ≡ 0 → u ≡ cond (fewer u v) u v
  unfolding fewer
  take-first e = rw (eq-eqb v.cuts 0 e)

  module _ (some : v.cuts ≡ 0 → ⊥) where
    pub take_cells : u.cuts < v.cuts → u ≡ cond (fewer u v) u v
    unfolding fewer
    take_cells l = rw (ne_eqb v.cuts 0 some, lt-ltb u.cuts v.cuts l)

    pub take-bits : u.cuts ≡ v.cuts → u.bits < v.bits → u ≡ cond (fewer u v) u v
    unfolding fewer
    take-bits e l = rw (ne_eqb v.cuts 0 some, le-ltb u.cuts v.cuts (omega arith), eq-eqb u.cuts v.cuts e, lt-ltb u.bits v.bits l)

    pub keep_bits : u.cuts ≡ v.cuts → v.bits ≤ u.bits → v ≡ cond (fewer u v) u v
    unfolding fewer
    keep_bits e l = rw (ne_eqb v.cuts 0 some, le-ltb u.cuts v.cuts (omega arith), eq-eqb u.cuts v.cuts e, le-ltb u.bits v.bits l)

    pub keep_cells : v.cuts ≤ u.cuts → (u.cuts ≡ v.cuts → ⊥) → v ≡ cond (fewer u v) u v
    unfolding fewer
    keep_cells l n = rw (ne_eqb v.cuts 0 some, le-ltb u.cuts v.cuts l, ne_eqb u.cuts v.cuts n)

-- the way through a cut
module _ (k l : ℕ) (c : Cell) (g : ℕ) (w v : Way) where
  pub stay_large : fits k l c ≡ false → v ≡ with_cut_at k l c g w v
  unfolding with_cut_at goes
  stay_large e = rw e

  module _ (fit : fits k l c ≡ true) where
    pub stay_none : w.cuts ≡ 0 → v ≡ with_cut_at k l c g w v
    unfolding with_cut_at goes
    stay_none e = rw (fit, le-ltb 0 w.cuts (omega arith))

    pub go_through : k ≤ largest_inputs → l ≤ largest_outputs → (w.cuts ≡ 0 → ⊥) → (b : ℕ) (r : Way) → b ≡ usable_bits c
        → r ≡ cond (fewer (record { cuts = w.cuts + 1; bits = b + w.bits; next = g }) v) (record { cuts = w.cuts + 1; bits = b + w.bits; next = g }) v
        → r ≡ with_cut_at k l c g w v
    unfolding with_cut_at goes through
    go_through p q n b r x z =
        let y = x ∙ usable_bits_lem c (fits_largest k l c p q fit) in
        rw (fit, lt-ltb 0 w.cuts (omega arith), ← y) z

-- the way from h, cut after cut
module _ (k l : ℕ) (rs is : List ℕ) where
  -- the best way from h with its next cut below g
  abbrev pub best_below : ℕ → ℕ → Way
  best_below h g = way_below (list_cell rs is) k l (list_way k l rs is) h g

  pub below_start : (h : ℕ) → record { cuts = 0; bits = 0; next = 0 } ≡ best_below h 0
  unfolding way_below
  below_start h = refl

  pub below_step : (h g n : ℕ) (c : Cell) (w v r : Way) → c ≡ list_cell rs is h g → n ≡ g → w.cuts ≡ cuts_from k l rs is g
      → w.bits ≡ bits_from k l rs is g → v ≡ best_below h g → r ≡ with_cut_at k l c n w v → r ≡ best_below h (g + 1)
  unfolding way_below with_cut_at goes through
  below_step h g n c w v r ec en ew eb ev er = er ∙ rw (ec, en, ew, eb, ev, add-one g)

  pub below_end : (h g : ℕ) → (h ≡ 0 → ⊥) → g ≡ h → best_below h g ≡ list_way k l rs is h
  unfolding list_way
  below_end zero g n e = absurd (n refl)
  below_end (suc h) g n e = rw e (sym (way_next (list_cell rs is) k l h))

  pub way_at_bottom : (h : ℕ) → h ≡ 0 → record { cuts = 1; bits = 0; next = 0 } ≡ list_way k l rs is h
  unfolding list_way
  way_at_bottom h e = rw e (sym (way_bottom (list_cell rs is) k l))

  pub ways-small : k ≤ largest_inputs → l ≤ largest_outputs → (g : ℕ) → g ≤ 20 → (cuts_from k l rs is g ≤ 21) × (bits_from k l rs is g ≤ 1310720)
  unfolding list_way
  ways-small p q g r = let s = way_small (list_cell rs is) k l p q g in let a = s.cuts in let b = s.bits in (omega arith, omega arith)
