-- Lists of levels, and the lists of their rails and inputs.
-- Assumes nothing.
use mathlib.Core.Path.{◌≡◌, refl, sym, ◌∙◌, ap, ap₂}
use mathlib.Core.Bool.{Bool, true, false, cond}
use native.Mathlib.Nat.{add-zero}
use mir.Val.{bool_byte}
use mathlib.Core.List.{List, map}
use Prim.Native.Nat.{ℕ, zero, suc, ◌+◌, ◌-◌, ◌<◌, ◌≤◌}
use native.Mathlib.Omega.{arith}
use lib.Dec.{eqb}
use lib.ListN.{get_or, set, replicate, get_or-map}
use borrow.Author.Tests.{eq-eqb, ne_eqb}
use Rattle.std.proofs.lemmas.List.{map-set}
use Rattle.laws.specs.Lists.{puts}
use Rattle.laws.proofs.Cases.{cond_yes, cond_no}
use Rattle.laws.proofs.Counts.{count_next, count-max}
use Rattle.sheet_spec.specs.Job.{is_input}
use Rattle.stored_spec.specs.Rails.{rails}
use Rattle.cutting.specs.Levels.{Level, no_level, rails_of, inputs_of, inputs_in, rails_in, level_in, levelled}
use Rattle.cutting.specs.Plan.{bytes21}

-- a test added as a number
pub flag-more : (b : Bool) (n : ℕ) → n + bool_byte b ≡ cond b (n + 1) n
flag-more true n = refl
flag-more false n = add-zero n

pub flag-most : (b : Bool) → bool_byte b ≤ 1
flag-most true = omega arith
flag-most false = omega arith

-- a list with f of each element
pub map-puts : {A B : Type 0} (f : A → B) (n : ℕ) (g : ℕ → A) (l : List A) → map f (puts n g l) ≡ puts n (λ i. f (g i)) (map f l)
unfolding puts
map-puts f zero g l = refl
map-puts f (suc n) g l = map-set f (puts n g l) n (g n) ∙ ap (λ x. set x n (f (g n))) (map-puts f n g l)

module _ (ls : List Level) (h : ℕ) where
  pub rails-read : get_or (rails_of ls) h 0 ≡ (get_or ls h no_level).rails
  unfolding rails_of
  rails-read = get_or-map (λ (x : Level). x.rails) ls h no_level

  pub inputs-read : get_or (inputs_of ls) h 0 ≡ (get_or ls h no_level).inputs
  unfolding inputs_of
  inputs-read = get_or-map (λ (x : Level). x.inputs) ls h no_level

module _ (t : ℕ) (order ws : List ℕ) where
  pub rails-levelled : rails_of (levelled t order ws) ≡ bytes21 (t + 1) (rails_in t ws)
  unfolding rails_of levelled bytes21
  rails-levelled = map-puts (λ (x : Level). x.rails) (t + 1) (level_in t order ws) (replicate 21 no_level)

  pub inputs-levelled : inputs_of (levelled t order ws) ≡ bytes21 (t + 1) (inputs_in t order)
  unfolding inputs_of levelled bytes21
  inputs-levelled = map-puts (λ (x : Level). x.inputs) (t + 1) (level_in t order ws) (replicate 21 no_level)

module _ (t : ℕ) (order : List ℕ) where
  pub inputs-none : 0 ≡ inputs_in t order 0
  unfolding inputs_in
  inputs-none = refl

  pub inputs-step : (h n : ℕ) → n ≡ inputs_in t order h → cond (is_input (get_or order (t - 1 - h) 0)) (n + 1) n ≡ inputs_in t order (h + 1)
  unfolding inputs_in
  inputs-step h n e =
      let f : ℕ → Bool = λ k. is_input (get_or order (t - suc k) 0) in
      let i : t - 1 - h ≡ t - suc h = omega arith in
      ap₂ (λ (i m : ℕ). cond (is_input (get_or order i 0)) (m + 1) m) i e ∙ sym (count_next f h)

  pub inputs_most : (h : ℕ) → inputs_in t order h ≤ h
  unfolding inputs_in
  inputs_most h = count-max (λ k. is_input (get_or order (t - suc k) 0)) h

module _ (t : ℕ) (ws : List ℕ) where
  pub rails_last : 0 ≡ rails_in t ws t
  unfolding rails_in
  rails_last = sym (cond_yes (eqb t t) 0 (rails (get_or ws t 0)) (eq-eqb t t refl))

  pub rails_below : (h : ℕ) → h < t → rails_in t ws h ≡ rails (get_or ws h 0)
  unfolding rails_in
  rails_below h l = cond_no (eqb h t) 0 (rails (get_or ws h 0)) (ne_eqb h t (λ e. absurd (omega arith)))
