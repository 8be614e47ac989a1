-- The rounds over keys, one step at a time, as the loops take them.
-- Assumes nothing.
use mathlib.Core.Path.{◌≡◌, refl, sym, ◌∙◌, ap, ap₂}
use mathlib.Core.List.{List}
use Prim.Native.Nat.{ℕ, zero, suc, ◌+◌, ◌-◌, ◌%◌, ◌<◌, ◌≤◌, min}
use native.Mathlib.Omega.{arith}
use borrow.Author.Tests.{eq-eqb, ne_eqb, lt-ltb, le-ltb}
use lib.Dec.{eqb, ltb}
use lib.ListN.{get_or, set, replicate}
use Rattle.laws.specs.Lists.{puts}
use Rattle.laws.proofs.Cases.{cond_yes, cond_no}
use Rattle.reduction.specs.RunningKeys.{gone, least_key, Growth, Stand, lowered_keys, stored_for, joining, growing, alone, opened, turn, turns}

-- two lists of keys that agree below n
pub least_ext : (a b : List ℕ) (n : ℕ) → ((i : ℕ) → i < n → get_or a i 0 ≡ get_or b i 0) → least_key a n ≡ least_key b n
unfolding least_key
least_ext a b zero h = refl
least_ext a b (suc n) h = ap₂ min (h n (omega arith)) (least_ext a b n (λ i p. h i (omega arith)))

pub same_growth : {c c' q q' : List ℕ} {n n' : ℕ} → c ≡ c' → q ≡ q' → n ≡ n'
    → ◌≡◌ {A = Growth} (record { cand = c; members = q; count = n }) (record { cand = c'; members = q'; count = n' })
same_growth p q r = rw (p, q, r)

pub same_stand : {k k' o o' : List ℕ} → k ≡ k' → o ≡ o' → ◌≡◌ {A = Stand} (record { keys = k; owner = o }) (record { keys = k'; owner = o' })
same_stand p q = rw (p, q)

module _ (w : ℕ) (graph : List ℕ) where
  -- no candidate; one that joins
  pub growing-stop : (n i k : ℕ) (s : Growth) → i < n → k ≡ least_key s.cand w → k ≡ gone → growing w graph (n - i) s ≡ s
  unfolding growing
  growing-stop n i k s h e p =
      let m : n - i ≡ suc (n - (i + 1)) = omega arith in
      ap (λ (x : ℕ). growing w graph x s) m ∙ cond_yes (eqb (least_key s.cand w) gone) _ _ (eq-eqb (least_key s.cand w) gone (sym e ∙ p))

  pub growing_more : (n i k : ℕ) (s : Growth) → i < n → k ≡ least_key s.cand w → (k ≡ gone → ⊥)
      → growing w graph (n - i) s ≡ growing w graph (n - (i + 1)) (joining w graph (k % 512) s)
  unfolding growing
  growing_more n i k s h e p =
      let m : n - i ≡ suc (n - (i + 1)) = omega arith in
      ap (λ (x : ℕ). growing w graph x s) m ∙ cond_no (eqb (least_key s.cand w) gone) _ _ (ne_eqb (least_key s.cand w) gone (λ q. p (e ∙ q)))
      ∙ ap (λ (x : ℕ). growing w graph (n - (i + 1)) (joining w graph (x % 512) s)) (sym e)

module _ (w : ℕ) (graph : List ℕ) where
  -- the round of a column without edges; of one with edges
  pub turn_alone : (g k u : ℕ) (s : Stand) → k < 512 → u ≡ k % 512
      → ◌≡◌ {A = Stand} (record { keys = set s.keys u gone; owner = set s.owner u g }) (turn w graph g k s)
  unfolding turn alone
  turn_alone g k u s h e =
      ap (λ (x : ℕ). record { keys = set s.keys x gone; owner = set s.owner x g }) e
      ∙ sym (cond_yes (ltb k 512) (alone w graph g k s) (opened w graph g s) (lt-ltb k 512 h))

  pub turn-opened : (g k : ℕ) (s : Stand) (cand : List ℕ) (r : Growth) → 512 ≤ k → cand ≡ puts w (λ c. get_or s.keys c 0) (replicate 512 0)
      → r ≡ growing w graph w (record { cand = cand; members = replicate 512 0; count = 0 })
      → ◌≡◌ {A = Stand}
      (record {
        keys = lowered_keys w graph r.count r.members (stored_for gone r.count r.members s.keys);
        owner = stored_for g r.count r.members s.owner;
      })
      (turn w graph g k s)
  unfolding turn opened
  turn-opened g k s cand r h p q =
      let e : r ≡ growing w graph w (record { cand = puts w (λ c. get_or s.keys c 0) (replicate 512 0); members = replicate 512 0; count = 0 }) =
      q ∙ ap (λ (x : List ℕ). growing w graph w (record { cand = x; members = replicate 512 0; count = 0 })) p in
      ap (λ (x : Growth).
      record {
        keys = lowered_keys w graph x.count x.members (stored_for gone x.count x.members s.keys);
        owner = stored_for g x.count x.members s.owner;
      }) e
      ∙ sym (cond_no (ltb k 512) (alone w graph g k s) (opened w graph g s) (le-ltb k 512 h))

  -- no column left; a round
  pub turns-stop : (n g k : ℕ) (s : Stand) → g < n → k ≡ least_key s.keys w → k ≡ gone → turns w graph (n - g) g s ≡ s
  unfolding turns
  turns-stop n g k s h e p =
      let m : n - g ≡ suc (n - (g + 1)) = omega arith in
      ap (λ (x : ℕ). turns w graph x g s) m ∙ cond_yes (eqb (least_key s.keys w) gone) _ _ (eq-eqb (least_key s.keys w) gone (sym e ∙ p))

  pub turns_more : (n g k : ℕ) (s : Stand) → g < n → k ≡ least_key s.keys w → (k ≡ gone → ⊥)
      → turns w graph (n - g) g s ≡ turns w graph (n - (g + 1)) (g + 1) (turn w graph g k s)
  unfolding turns
  turns_more n g k s h e p =
      let m : n - g ≡ suc (n - (g + 1)) = omega arith in
      ap (λ (x : ℕ). turns w graph x g s) m ∙ cond_no (eqb (least_key s.keys w) gone) _ _ (ne_eqb (least_key s.keys w) gone (λ q. p (e ∙ q)))
      ∙ ap (λ (x : ℕ). turns w graph (n - (g + 1)) (g + 1) (turn w graph g x s)) (sym e)
