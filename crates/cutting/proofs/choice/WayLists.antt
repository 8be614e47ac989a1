-- The code's ways by height, and the lists of their numbers.
-- Assumes nothing.
use mathlib.Core.Path.{◌≡◌, sym, ◌∙◌, ap}
use mathlib.Core.List.{List, map}
use Prim.Native.Nat.{ℕ, ◌+◌, ◌≤◌}
use native.Mathlib.Omega.{arith}
use lib.ListN.{get_or, set, replicate, get_or-map}
use Rattle.std.specs.Prelude.{Option, None}
use Rattle.std.proofs.lemmas.List.{map-set}
use Rattle.laws.proofs.Puts.{get_or-puts}
use Rattle.cutting.specs.declared.choice.Way as declared
use Rattle.cutting.specs.Ways.{Way, no_way, list_way, next_from, way_given, ways_given, nexts_of, ways_to}
use Rattle.cutting.specs.Plan.{bytes21}
use Rattle.cutting.proofs.levels.LevelLists.{map-puts}

pub way-read : (ws : List (Option declared.Way)) (h : ℕ) → get_or (ways_given ws) h no_way ≡ way_given (get_or ws h None)
unfolding ways_given
way-read ws h = get_or-map way_given ws h None

pub nexts-read : (ws : List (Option declared.Way)) (h : ℕ) → get_or (nexts_of ws) h 0 ≡ (way_given (get_or ws h None)).next
unfolding nexts_of
nexts-read ws h = get_or-map (λ (w : Way). w.next) (ways_given ws) h no_way ∙ ap (λ (w : Way). w.next) (way-read ws h)

pub way-stored : (ws : List (Option declared.Way)) (h : ℕ) (w : Option declared.Way) → ways_given (set ws h w) ≡ set (ways_given ws) h (way_given w)
unfolding ways_given
way-stored ws h w = map-set way_given ws h w

module _ (t k l : ℕ) (rs is : List ℕ) (ws : List (Option declared.Way)) (ws-are : ways_given ws ≡ ways_to t k l rs is) where
  pub nexts-are : nexts_of ws ≡ bytes21 (t + 1) (next_from k l rs is)
  unfolding nexts_of ways_to bytes21
  nexts-are = ap (map (λ (w : Way). w.next)) ws-are ∙ map-puts (λ (w : Way). w.next) (t + 1) (list_way k l rs is) (replicate 21 no_way)

  pub way-is : t ≤ 20 → (h : ℕ) → h ≤ t → way_given (get_or ws h None) ≡ list_way k l rs is h
  unfolding ways_to
  way-is few h below =
      sym (way-read ws h) ∙ ap (λ (x : List Way). get_or x h no_way) ws-are
      ∙ get_or-puts (list_way k l rs is) (t + 1) (replicate 21 no_way) no_way h (omega arith) (omega arith)
