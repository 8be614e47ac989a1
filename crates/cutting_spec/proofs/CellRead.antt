-- One cell of a function's cascade: from the number of a word's column at the cut above, its row holds the number of the word's column at
-- the cut below, and each of its outputs.
-- Assumes nothing.
use mathlib.Core.Path.{◌≡◌, refl, sym, ◌∙◌, ap}
use mathlib.Core.Bool.{Bool, true, false, not}
use mathlib.Core.List.{List, [], ◌∷◌, ◌++◌}
use Prim.Native.Nat.{ℕ, zero, suc, ◌+◌, ◌-◌, ◌*◌, ◌/◌, ◌%◌, ◌^◌, ◌<◌, ◌≤◌}
use native.Mathlib.Nat.{mul_assoc}
use native.Mathlib.Numerals.{add-one}
use native.Mathlib.Omega.{arith}
use lib.ListN.{length, get_or, set, length-append}
use lib.Seq.{get_or-set_same, get_or-set_other}
use lib.Pow.{pow-add, shr-shr, mod-pow-add}
use Rattle.laws.specs.Bits.{bit}
use Rattle.laws.proofs.Cases.{by_test, by_equal, cond_yes}
use Rattle.laws.proofs.Bits.{bit-suc}
use Rattle.laws.proofs.Masks.{not-both}
use Rattle.sheet_spec.specs.Job.{Job, t, ins, outs, var_at, is_input, input_list, number_of}
use Rattle.sheet_spec.specs.Refusals.{not_each_once}
use Rattle.sheet_spec.proofs.Promises.{ins_rise, outs_rise, ins_input, ins_output, outs_input, outs_output, input_bit, output_low, output_one}
use Rattle.stored_spec.specs.StoredForm.{appended}
use Rattle.stored_spec.specs.Run.{address, set_outputs}
use Rattle.stored_spec.proofs.Promises.{set-length}
use Rattle.cutting_spec.proofs.StoredCuts.{ins_from, outs_from}

-- one more input, one more output
address-snoc : (r : ℕ) (is : List ℕ) (i w : ℕ) → address r (is ++ (i ∷ [])) w ≡ address r is w * 2 + bit w i
unfolding address
address-snoc r [] i w = refl
address-snoc r (k ∷ is) i w = address-snoc (r * 2 + bit w k) is i w

set_snoc : (s os : List ℕ) (o y : ℕ) → set_outputs s (os ++ (o ∷ [])) y ≡ set (set_outputs s os (y / 2)) o (bit y 0)
unfolding set_outputs
set_snoc s [] o y = refl
set_snoc s (p ∷ os) o y =
    let e : bit y (length (os ++ (o ∷ []))) ≡ bit (y / 2) (length os) =
    ap (bit y) (length-append os (o ∷ []) ∙ add-one (length os)) ∙ bit-suc y (length os) in
    set_snoc (set s p (bit y (length (os ++ (o ∷ []))))) os o y
    ∙ ap (λ (b : ℕ). set (set_outputs (set s p b) os (y / 2)) o (bit y 0)) e

module _ (j : Job) (once : not_each_once j.n j.m j.order ≡ false) (few : j.n ≤ 12) (out : j.m ≤ 8) where
  -- the row address: the rail word, then the inputs between
  address-from : (w r a k : ℕ) → k ≤ a → a ≤ t j
      → address r (ins_from j a k) w
      ≡ r * 2 ^ (ins j a - ins j (a - k)) + number_of (input_list j) w / 2 ^ ins j (a - k) % 2 ^ (ins j a - ins j (a - k))
  unfolding ins_from address
  address-from w r a zero l top =
      let x = number_of (input_list j) w in
      let y = x / 2 ^ ins j (a - 0) in
      let e : ins j a - ins j (a - 0) ≡ 0 = let s : a - 0 ≡ a = omega arith in omega (arith, ap (ins j) s) in
      sym (ap (λ (c : ℕ). r * 2 ^ c + y % 2 ^ c) e ∙ omega arith)
  address-from w r a (suc k) l top =
      let x = number_of (input_list j) w in
      let before = address-from w r a k (omega arith) top in
      let g = a - suc k in
      let up : a - k ≡ suc g = omega arith in
      let most = ins_rise j (suc g) a (omega arith) in
      by_test (is_input (var_at j (a - k)))
      (λ e.
      let input : is_input (var_at j (suc g)) ≡ true = ap (λ (h : ℕ). is_input (var_at j h)) (sym up) ∙ e in
      let more : ins j (suc g) ≡ ins j g + 1 = ins_input j g input in
      let c = ins j a - ins j (suc g) in
      let z = x / 2 ^ ins j g in
      let before' : address r (ins_from j a k) w ≡ r * 2 ^ c + x / 2 ^ ins j (suc g) % 2 ^ c =
      before ∙ ap (λ (h : ℕ). r * 2 ^ (ins j a - ins j h) + x / 2 ^ ins j h % 2 ^ (ins j a - ins j h)) up in
      let half : x / 2 ^ ins j (suc g) ≡ z / 2 ^ 1 = ap (λ (i : ℕ). x / 2 ^ i) more ∙ sym (shr-shr x (ins j g) 1) in
      let d : ins j a - ins j g ≡ c + 1 = omega arith in
      let b : bit w (var_at j (a - k)) ≡ z % 2 = ap (λ (h : ℕ). bit w (var_at j h)) up ∙ input_bit j once few out g (omega arith) input w in
      let two : r * 2 ^ (c + 1) ≡ r * 2 ^ c * 2 ^ 1 = ap (λ (k : ℕ). r * k) (pow-add 2 c 1) ∙ sym (mul_assoc r (2 ^ c) (2 ^ 1)) in
      let bits : z % 2 ^ (c + 1) ≡ z / 2 ^ 1 % 2 ^ c * 2 ^ 1 + z % 2 ^ 1 = mod-pow-add z c 1 in
      let whole : r * 2 ^ (ins j a - ins j g) + z % 2 ^ (ins j a - ins j g) ≡ r * 2 ^ (c + 1) + z % 2 ^ (c + 1) =
      ap (λ (i : ℕ). r * 2 ^ i + z % 2 ^ i) d in
      let low : x / 2 ^ ins j (suc g) % 2 ^ c ≡ z / 2 ^ 1 % 2 ^ c = ap (λ (i : ℕ). i % 2 ^ c) half in
      ap (λ (is : List ℕ). address r is w) (cond_yes (is_input (var_at j (a - k))) _ _ e) ∙ address-snoc r (ins_from j a k) (var_at j (a - k)) w
      ∙ omega (arith, before', low, b, two, bits, whole))
      (λ e.
      let output : is_input (var_at j (suc g)) ≡ false = ap (λ (h : ℕ). is_input (var_at j h)) (sym up) ∙ e in
      let less : ins j (a - k) ≡ ins j g = ap (ins j) up ∙ ins_output j g output in
      rw e (before ∙ ap (λ (i : ℕ). r * 2 ^ (ins j a - i) + x / 2 ^ i % 2 ^ (ins j a - i)) less))

  pub address_between : (w r a b : ℕ) → b ≤ a → a ≤ t j
      → address r (ins_from j a (a - b)) w ≡ r * 2 ^ (ins j a - ins j b) + number_of (input_list j) w / 2 ^ ins j b % 2 ^ (ins j a - ins j b)
  address_between w r a b l top =
      let x = number_of (input_list j) w in
      let e : a - (a - b) ≡ b = omega arith in
      address-from w r a (a - b) (omega arith) top
      ∙ ap (λ (h : ℕ). r * 2 ^ (ins j a - ins j h) + x / 2 ^ ins j h % 2 ^ (ins j a - ins j h)) e

  -- an output between is set to its bit; what is no output between stays
  set-from : (s : List ℕ) → length s ≡ 8 → (a : ℕ) → a ≤ t j → (k y h : ℕ) → k ≤ a → a - k ≤ h → h < a → is_input (var_at j (suc h)) ≡ false
      → get_or (set_outputs s (outs_from j a k) y) (var_at j (suc h) - 128) 2 ≡ bit y (outs j h - outs j (a - k))
  unfolding outs_from
  set-from s full a top zero y h l from below output = absurd (omega arith)
  set-from s full a top (suc k) y h l from below output =
      let g = a - suc k in
      let up : a - k ≡ suc g = omega arith in
      let o = var_at j (suc h) - 128 in
      let v = var_at j (a - k) in
      by_test (is_input v)
      (λ e.
      let input : is_input (var_at j (suc g)) ≡ true = ap (λ (h : ℕ). is_input (var_at j h)) (sym up) ∙ e in
      let less : outs j (a - k) ≡ outs j g = ap (outs j) up ∙ outs_input j g input in
      by_equal h g (λ s. not-both input (ap (λ (i : ℕ). is_input (var_at j (suc i))) (sym s) ∙ output))
      (λ n. rw e (set-from s full a top k y h (omega arith) (omega arith) below output ∙ ap (λ (i : ℕ). bit y (outs j h - i)) less)))
      (λ e.
      let here : is_input (var_at j (suc g)) ≡ false = ap (λ (h : ℕ). is_input (var_at j h)) (sym up) ∙ e in
      let more : outs j (a - k) ≡ outs j g + 1 = ap (outs j) up ∙ outs_output j g here in
      let s' = set_outputs s (outs_from j a k) (y / 2) in
      let new : set_outputs s (appended (not (is_input v)) (outs_from j a k) (v - 128)) y ≡ set s' (v - 128) (bit y 0) =
      ap (λ (b : Bool). set_outputs s (appended (not b) (outs_from j a k) (v - 128)) y) e ∙ set_snoc s (outs_from j a k) (v - 128) y in
      ap (λ (z : List ℕ). get_or z o 2) new
      ∙ by_equal h g
      (λ q.
      let at : o ≡ v - 128 = ap (λ (i : ℕ). var_at j i - 128) (ap suc q ∙ sym up) in
      let none : outs j h - outs j g ≡ 0 = omega (arith, ap (outs j) q) in
      let small : v - 128 < length s' = omega (arith, set-length s (outs_from j a k) (y / 2), at, output_low j once few out h (omega arith) output) in
      ap (λ (i : ℕ). get_or (set s' (v - 128) (bit y 0)) i 2) at ∙ get_or-set_same s' (v - 128) (bit y 0) 2 small ∙ ap (bit y) (sym none))
      (λ n.
      let rise = outs_rise j (suc g) h (omega arith) in
      let up' : outs j (suc g) ≡ outs j g + 1 = outs_output j g here in
      let one : outs j h - outs j g ≡ suc (outs j h - outs j (a - k)) = omega arith in
      get_or-set_other s' (v - 128) o (bit y 0) 2
      (λ q. n (output_one j once few out h (omega arith) output g (omega arith) here (q ∙ ap (λ (i : ℕ). var_at j i - 128) up)))
      ∙ set-from s full a top k (y / 2) h (omega arith) (omega arith) below output
      ∙ sym (ap (bit y) one ∙ bit-suc y (outs j h - outs j (a - k)))))

  kept_from : (s : List ℕ) (a : ℕ) → (k y o : ℕ) → k ≤ a
      → ((h : ℕ) → a - k ≤ h → h < a → is_input (var_at j (suc h)) ≡ false → var_at j (suc h) - 128 ≡ o → ⊥)
      → get_or (set_outputs s (outs_from j a k) y) o 2 ≡ get_or s o 2
  unfolding outs_from set_outputs
  kept_from s a zero y o l none = refl
  kept_from s a (suc k) y o l none =
      let g = a - suc k in
      let up : a - k ≡ suc g = omega arith in
      let v = var_at j (a - k) in
      let fewer : (h : ℕ) → a - k ≤ h → h < a → is_input (var_at j (suc h)) ≡ false → var_at j (suc h) - 128 ≡ o → ⊥ = λ h p. none h (omega arith) in
      by_test (is_input v) (λ e. rw e (kept_from s a k y o (omega arith) fewer))
      (λ e.
      let here : is_input (var_at j (suc g)) ≡ false = ap (λ (h : ℕ). is_input (var_at j h)) (sym up) ∙ e in
      let s' = set_outputs s (outs_from j a k) (y / 2) in
      let new : set_outputs s (appended (not (is_input v)) (outs_from j a k) (v - 128)) y ≡ set s' (v - 128) (bit y 0) =
      ap (λ (b : Bool). set_outputs s (appended (not b) (outs_from j a k) (v - 128)) y) e ∙ set_snoc s (outs_from j a k) (v - 128) y in
      ap (λ (z : List ℕ). get_or z o 2) new
      ∙ get_or-set_other s' (v - 128) o (bit y 0) 2 (λ q. none g (omega arith) (omega arith) here (sym (q ∙ ap (λ (i : ℕ). var_at j i - 128) up)))
      ∙ kept_from s a k (y / 2) o (omega arith) fewer)

  pub set_between : (s : List ℕ) → length s ≡ 8 → (a b y h : ℕ) → a ≤ t j → b ≤ a → b ≤ h → h < a → is_input (var_at j (suc h)) ≡ false
      → get_or (set_outputs s (outs_from j a (a - b)) y) (var_at j (suc h) - 128) 2 ≡ bit y (outs j h - outs j b)
  set_between s full a b y h top l from below output =
      let e : a - (a - b) ≡ b = omega arith in
      set-from s full a top (a - b) y h (omega arith) (omega arith) below output ∙ ap (λ (i : ℕ). bit y (outs j h - outs j i)) e

  pub kept_between : (s : List ℕ) (a b y o : ℕ) → b ≤ a
      → ((h : ℕ) → b ≤ h → h < a → is_input (var_at j (suc h)) ≡ false → var_at j (suc h) - 128 ≡ o → ⊥)
      → get_or (set_outputs s (outs_from j a (a - b)) y) o 2 ≡ get_or s o 2
  kept_between s a b y o l none = kept_from s a (a - b) y o (omega arith) (λ h p. none h (omega arith))
