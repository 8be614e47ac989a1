-- The addresses of a cell's inputs that agree with the known ones, in turn, are those of its fillings: the values of the known inputs with each number
-- made of the bits of the others.
-- Assumes nothing.
use mathlib.Core.Path.{◌≡◌, refl, sym, ◌∙◌, ap, ap₂, subst}
use mathlib.Core.Bool.{Bool, true, false, cond, ◌&&◌, and-true}
use mathlib.Core.List.{List, [], ◌∷◌, ◌++◌, append-nil}
use Prim.Native.Nat.{ℕ, zero, suc, ◌+◌, ◌-◌, ◌*◌, ◌/◌, ◌%◌, ◌^◌, ◌<◌}
use native.Mathlib.Nat.{mod-lt, pow-suc, add-zero}
use native.Mathlib.Numerals.{add-one}
use native.Mathlib.Omega.{arith}
use lib.Dec.{eqb}
use lib.Bits.{bit_and, and_block, and_zero_r, and_le_l}
use lib.ListN.{length, length-append}
use lib.Pow.{split}
use lib.Seq.{append_snoc}
use borrow.Author.Tests.{eq-eqb, ne_eqb}
use Rattle.laws.specs.Bits.{bit}
use Rattle.laws.specs.Turns.{in_turn}
use Rattle.laws.proofs.Bits.{bit-lt, and_bit}
use Rattle.laws.proofs.Cases.{by_equal}
use Rattle.laws.proofs.Turns.{turns_ext, turns-rect}
use Rattle.stored_spec.specs.Run.{address}
use Rattle.stored.proofs.RowBits.{address_more}
use Rattle.evaluation_spec.specs.RailSets.{agrees}
use Rattle.evaluation_spec.proofs.Words.{gather_lt}
use Rattle.evaluation.specs.Agreeing.{part_of}
use Rattle.evaluation.specs.BegunCell.{more_fillings, fillings}

-- one bit more below a number
and_two : (p q x y : ℕ) → x < 2 → y < 2 → bit_and (p * 2 + x) (q * 2 + y) ≡ bit_and p q * 2 + bit_and x y
and_two p q x y l m = and_block 1 p q x y l m

eqb_two : (p q x y : ℕ) → x < 2 → y < 2 → eqb (p * 2 + x) (q * 2 + y) ≡ (eqb p q && eqb x y)
eqb_two p q x y l m =
    let a = p * 2 + x in
    let b = q * 2 + y in
    by_equal p q
    (λ e.
    by_equal x y (λ f. eq-eqb a b (omega (arith, e, f)) ∙ sym (ap₂ ◌&&◌ (eq-eqb p q e) (eq-eqb x y f)))
    (λ f. ne_eqb a b (λ h. f (omega (arith, e, h))) ∙ sym (ap₂ ◌&&◌ (eq-eqb p q e) (ne_eqb x y f))))
    (λ e. ne_eqb a b (λ h. e (omega (arith, h, l, m))) ∙ sym (ap (λ (t : Bool). t && eqb x y) (ne_eqb p q e)))

and_one : (x : ℕ) → x < 2 → bit_and x 1 ≡ x
and_one zero h = refl
and_one (suc zero) h = refl
and_one (suc (suc x)) h = absurd (omega arith)

-- the numbers made of the bits of free keep these bits beside those of mask
abbrev pub Kept : ℕ → ℕ → Type 0
Kept m f = (j : ℕ) → bit_and (part_of m f j + m) f ≡ part_of m f j

-- with one known bit below
module _ (m f : ℕ) where
  part_known : (j : ℕ) → part_of (m * 2 + 1) (f * 2) j ≡ part_of m f j * 2
  unfolding part_of
  part_known zero = refl
  part_known (suc j) =
      let p = part_of m f j in
      let e : p * 2 + (m * 2 + 1) + 1 ≡ (p + m + 1) * 2 + 0 = omega arith in
      let g : f * 2 ≡ f * 2 + 0 = omega arith in
      let z : bit_and (p + m + 1) f * 2 + 0 ≡ bit_and (p + m + 1) f * 2 = omega arith in
      ap (λ (x : ℕ). bit_and (x + (m * 2 + 1) + 1) (f * 2)) (part_known j) ∙ ap₂ bit_and e g ∙ and_two (p + m + 1) f 0 0 (omega arith) (omega arith) ∙ z

  kept_known : Kept m f → Kept (m * 2 + 1) (f * 2)
  kept_known k j =
      let p = part_of m f j in
      let e : p * 2 + (m * 2 + 1) ≡ (p + m) * 2 + 1 = omega arith in
      let g : f * 2 ≡ f * 2 + 0 = omega arith in
      ap (λ (x : ℕ). bit_and (x + (m * 2 + 1)) (f * 2)) (part_known j) ∙ ap₂ bit_and e g ∙ and_two (p + m) f 1 0 (omega arith) (omega arith)
      ∙ ap (λ (x : ℕ). x * 2 + 0) (k j) ∙ add-zero (p * 2) ∙ sym (part_known j)

  -- with one other bit below
  module _ (k : Kept m f) where
    part_odd : (j : ℕ) → part_of (m * 2) (f * 2 + 1) (j * 2) ≡ part_of m f j * 2 → part_of (m * 2) (f * 2 + 1) (suc (j * 2)) ≡ part_of m f j * 2 + 1
    unfolding part_of
    part_odd j h =
        let p = part_of m f j in
        let e : p * 2 + m * 2 + 1 ≡ (p + m) * 2 + 1 = omega arith in
        ap (λ (x : ℕ). bit_and (x + m * 2 + 1) (f * 2 + 1)) h ∙ ap (λ (x : ℕ). bit_and x (f * 2 + 1)) e
        ∙ and_two (p + m) f 1 1 (omega arith) (omega arith) ∙ ap (λ (x : ℕ). x * 2 + 1) (k j)

    part_even : (j : ℕ) → part_of (m * 2) (f * 2 + 1) (j * 2) ≡ part_of m f j * 2
    unfolding part_of
    part_even zero = refl
    part_even (suc j) =
        let p = part_of m f j in
        let n : suc j * 2 ≡ suc (suc (j * 2)) = omega arith in
        let e : p * 2 + 1 + m * 2 + 1 ≡ (p + m + 1) * 2 + 0 = omega arith in
        ap (part_of (m * 2) (f * 2 + 1)) n
        ∙ ap (λ (x : ℕ). bit_and (x + m * 2 + 1) (f * 2 + 1)) (part_odd j (part_even j)) ∙ ap (λ (x : ℕ). bit_and x (f * 2 + 1)) e
        ∙ and_two (p + m + 1) f 0 1 (omega arith) (omega arith) ∙ add-zero (bit_and (p + m + 1) f * 2)

    part_other : (j x : ℕ) → x < 2 → part_of (m * 2) (f * 2 + 1) (j * 2 + x) ≡ part_of m f j * 2 + x
    part_other j zero l = ap (part_of (m * 2) (f * 2 + 1)) (add-zero (j * 2)) ∙ part_even j ∙ sym (add-zero (part_of m f j * 2))
    part_other j (suc zero) l = ap (part_of (m * 2) (f * 2 + 1)) (add-one (j * 2)) ∙ part_odd j (part_even j)
    part_other j (suc (suc x)) l = absurd (omega arith)

    kept-other : Kept (m * 2) (f * 2 + 1)
    kept-other i =
        let j = i / 2 in
        let x = i % 2 in
        let p = part_of m f j in
        let l : x < 2 = mod-lt i (omega arith) in
        let is : part_of (m * 2) (f * 2 + 1) i ≡ p * 2 + x = ap (part_of (m * 2) (f * 2 + 1)) (sym (split i 1)) ∙ part_other j x l in
        let e : p * 2 + x + m * 2 ≡ (p + m) * 2 + x = omega arith in
        ap (λ (y : ℕ). bit_and (y + m * 2) (f * 2 + 1)) is ∙ ap (λ (y : ℕ). bit_and y (f * 2 + 1)) e ∙ and_two (p + m) f x 1 l (omega arith)
        ∙ ap₂ (λ (y z : ℕ). y * 2 + z) (k j) (and_one x l) ∙ sym is

-- lists from their end
module _ (P : List ℕ → Type 0) (none : P []) (more : (l : List ℕ) (x : ℕ) → P l → P (l ++ (x ∷ []))) where
  from_start : (l k : List ℕ) → P l → P (l ++ k)
  from_start l [] p = subst P (sym (append-nil l)) p
  from_start l (x ∷ k) p = subst P (append_snoc l x k) (from_start (l ++ (x ∷ [])) k (more l x p))

  from_end : (l : List ℕ) → P l
  from_end l = from_start [] l none

module _ (known w : ℕ) where
  -- of a cell's inputs: which are known, their values, the others, and how many fillings these have
  abbrev pub mask_of : List ℕ → ℕ
  mask_of is = address 0 is known

  abbrev pub value_of : List ℕ → ℕ
  value_of is = address 0 is (bit_and w known)

  abbrev pub free_of : List ℕ → ℕ
  free_of is = 2 ^ length is - 1 - mask_of is

  abbrev pub count_of : List ℕ → ℕ
  count_of is = fillings known 1 is

  pub fillings_more : (is : List ℕ) (n i : ℕ) → fillings known n (is ++ (i ∷ [])) ≡ more_fillings (bit known i) (fillings known n is)
  unfolding fillings
  fillings_more [] n i = refl
  fillings_more (x ∷ is) n i = fillings_more is (more_fillings (bit known x) n) i

  longer : (is : List ℕ) (i : ℕ) → 2 ^ length (is ++ (i ∷ [])) ≡ 2 ^ length is * 2
  longer is i = ap (λ (n : ℕ). 2 ^ n) (length-append is (i ∷ []) ∙ add-one (length is)) ∙ pow-suc 2 (length is)

  -- one input more
  module _ (is : List ℕ) (i : ℕ) where
    abbrev more : List ℕ
    more = is ++ (i ∷ [])

    mask_more : mask_of more ≡ mask_of is * 2 + bit known i
    mask_more = address_more is 0 i known

    value_more : value_of more ≡ value_of is * 2 + bit (bit_and w known) i
    value_more = address_more is 0 i (bit_and w known)

    free_known : bit known i ≡ 1 → free_of more ≡ free_of is * 2
    free_known e = omega (arith, e, mask_more, longer is i, gather_lt is known)

    free_other : bit known i ≡ 0 → free_of more ≡ free_of is * 2 + 1
    free_other e = omega (arith, e, mask_more, longer is i, gather_lt is known)

    agrees_more : (a x : ℕ) → x < 2 → agrees known w more (a * 2 + x) ≡ (agrees known w is a && eqb (bit_and x (bit known i)) (bit (bit_and w known) i))
    unfolding agrees
    agrees_more a x l =
        ap₂ (λ (m v : ℕ). eqb (bit_and (a * 2 + x) m) v) mask_more value_more
        ∙ ap (λ (y : ℕ). eqb y (value_of is * 2 + bit (bit_and w known) i)) (and_two a (mask_of is) x (bit known i) l (bit-lt known i))
        ∙ eqb_two (bit_and a (mask_of is)) (value_of is) (bit_and x (bit known i)) (bit (bit_and w known) i) (omega (arith, and_le_l x (bit known i), l))
        (bit-lt (bit_and w known) i)

  -- the agreeing addresses in turn
  module _ (A : Type 0) where
    abbrev pub agreeing : List ℕ → (ℕ → A → A) → ℕ → A → A
    agreeing is F a t = cond (agrees known w is a) (F a t) t

    abbrev pub by_filling : List ℕ → (ℕ → A → A) → ℕ → A → A
    by_filling is F j = F (value_of is + part_of (mask_of is) (free_of is) j)

    pub record Enumerated (is : List ℕ) : Type 0 where
      pub kept : Kept (mask_of is) (free_of is)
      pub same : (F : ℕ → A → A) (s : A) → in_turn (2 ^ length is) (agreeing is F) s ≡ in_turn (count_of is) (by_filling is F) s

    -- two steps for each address of the others
    pairs : (is : List ℕ) (i : ℕ) (G : ℕ → A → A) (s : A) → in_turn (2 ^ length (is ++ (i ∷ []))) G s ≡ in_turn (2 ^ length is) (λ a t. G (a * 2 + 1) (G (a * 2 + 0) t)) s
    pairs is i G s = ap (λ (n : ℕ). in_turn n G s) (longer is i) ∙ turns-rect G (2 ^ length is) 2 s

    module _ (is : List ℕ) (i : ℕ) (e : Enumerated is) where
      abbrev next : List ℕ
      next = is ++ (i ∷ [])

      -- the input is known
      module _ (k : bit known i ≡ 1) where
        abbrev b : ℕ
        b = bit (bit_and w known) i

        test : (a x : ℕ) → x < 2 → agrees known w next (a * 2 + x) ≡ (agrees known w is a && eqb x b)
        test a x l = agrees_more is i a x l ∙ ap (λ (y : ℕ). agrees known w is a && eqb y b) (ap (bit_and x) k ∙ and_one x l)

        one_of_two : (F : ℕ → A → A) (a : ℕ) (t : A) → agreeing next F (a * 2 + 1) (agreeing next F (a * 2 + 0) t) ≡ agreeing is (λ c. F (c * 2 + b)) a t
        one_of_two F a t =
            ap₂ (λ (p q : Bool). cond p (F (a * 2 + 1) (cond q (F (a * 2 + 0) t) t)) (cond q (F (a * 2 + 0) t) t)) (test a 1 (omega arith)) (test a 0 (omega arith))
            ∙ by (agrees known w is a) b (bit-lt (bit_and w known) i)
          where
            by : (g : Bool) (y : ℕ) → y < 2
                → cond (g && eqb 1 y) (F (a * 2 + 1) (cond (g && eqb 0 y) (F (a * 2 + 0) t) t)) (cond (g && eqb 0 y) (F (a * 2 + 0) t) t) ≡ cond g (F (a * 2 + y) t) t
            by false y l = refl
            by true zero l = refl
            by true (suc zero) l = refl
            by true (suc (suc y)) l = absurd (omega arith)

        known_kept : Kept (mask_of next) (free_of next)
        known_kept j =
            ap₂ (λ (m f : ℕ). bit_and (part_of m f j + m) f) m_is f_is ∙ kept_known (mask_of is) (free_of is) e.kept j ∙ sym (ap₂ (λ (m f : ℕ). part_of m f j) m_is f_is)
          where
            m_is : mask_of next ≡ mask_of is * 2 + 1
            m_is = mask_more is i ∙ ap (λ (y : ℕ). mask_of is * 2 + y) k

            f_is : free_of next ≡ free_of is * 2
            f_is = free_known is i k

        known_same : (F : ℕ → A → A) (s : A) → in_turn (2 ^ length next) (agreeing next F) s ≡ in_turn (count_of next) (by_filling next F) s
        unfolding more_fillings
        known_same F s =
            let m_is = mask_more is i ∙ ap (λ (y : ℕ). mask_of is * 2 + y) k in
            let count : count_of next ≡ count_of is = fillings_more is 1 i ∙ ap (λ (y : ℕ). cond (eqb y 1) (count_of is) (count_of is * 2)) k in
            pairs is i (agreeing next F) s ∙ turns_ext _ (agreeing is (λ c. F (c * 2 + b))) (2 ^ length is) (λ a l t. one_of_two F a t) s
            ∙ e.same (λ c. F (c * 2 + b)) s
            ∙ turns_ext (by_filling is (λ c. F (c * 2 + b))) (by_filling next F) (count_of is)
            (λ j l t.
            let p = part_of (mask_of is) (free_of is) j in
            let q : part_of (mask_of next) (free_of next) j ≡ p * 2 = ap₂ (λ (m f : ℕ). part_of m f j) m_is (free_known is i k) ∙ part_known (mask_of is) (free_of is) j in
            ap (λ (y : ℕ). F y t) (let z : (value_of is + p) * 2 + b ≡ value_of next + part_of (mask_of next) (free_of next) j = omega (arith, q, value_more is i) in z))
            s
            ∙ ap (λ (n : ℕ). in_turn n (by_filling next F) s) (sym count)

      -- it is not
      module _ (k : bit known i ≡ 0) where
        no_value : bit (bit_and w known) i ≡ 0
        no_value = and_bit w known i ∙ ap (bit_and (bit w i)) k ∙ and_zero_r (bit w i)

        both : (F : ℕ → A → A) (a : ℕ) (t : A) → agreeing next F (a * 2 + 1) (agreeing next F (a * 2 + 0) t) ≡ agreeing is (λ c u. F (c * 2 + 1) (F (c * 2 + 0) u)) a t
        both F a t =
            ap₂ (λ (p q : Bool). cond p (F (a * 2 + 1) (cond q (F (a * 2 + 0) t) t)) (cond q (F (a * 2 + 0) t) t)) (test 1 (omega arith)) (test 0 (omega arith))
            ∙ by (agrees known w is a)
          where
            test : (x : ℕ) → x < 2 → agrees known w next (a * 2 + x) ≡ agrees known w is a
            test x l =
                agrees_more is i a x l ∙ ap₂ (λ (y z : ℕ). agrees known w is a && eqb y z) (ap (bit_and x) k ∙ and_zero_r x) no_value
                ∙ and-true (agrees known w is a)

            by : (g : Bool) → cond g (F (a * 2 + 1) (cond g (F (a * 2 + 0) t) t)) (cond g (F (a * 2 + 0) t) t) ≡ cond g (F (a * 2 + 1) (F (a * 2 + 0) t)) t
            by true = refl
            by false = refl

        m_is : mask_of next ≡ mask_of is * 2
        m_is = mask_more is i ∙ ap (λ (y : ℕ). mask_of is * 2 + y) k ∙ add-zero (mask_of is * 2)

        f_is : free_of next ≡ free_of is * 2 + 1
        f_is = free_other is i k

        other-kept : Kept (mask_of next) (free_of next)
        other-kept j =
            ap₂ (λ (m f : ℕ). bit_and (part_of m f j + m) f) m_is f_is ∙ kept-other (mask_of is) (free_of is) e.kept j ∙ sym (ap₂ (λ (m f : ℕ). part_of m f j) m_is f_is)

        other-same : (F : ℕ → A → A) (s : A) → in_turn (2 ^ length next) (agreeing next F) s ≡ in_turn (count_of next) (by_filling next F) s
        unfolding more_fillings
        other-same F s =
            let count : count_of next ≡ count_of is * 2 = fillings_more is 1 i ∙ ap (λ (y : ℕ). cond (eqb y 1) (count_of is) (count_of is * 2)) k in
            let twice : ℕ → A → A = λ c u. F (c * 2 + 1) (F (c * 2 + 0) u) in
            let at : (j x : ℕ) → x < 2 → (value_of is + part_of (mask_of is) (free_of is) j) * 2 + x ≡ value_of next + part_of (mask_of next) (free_of next) (j * 2 + x) =
            λ j x l.
            omega (arith, ap₂ (λ (m f : ℕ). part_of m f (j * 2 + x)) m_is f_is ∙ part_other (mask_of is) (free_of is) e.kept j x l, value_more is i, no_value) in
            pairs is i (agreeing next F) s ∙ turns_ext _ (agreeing is twice) (2 ^ length is) (λ a l t. both F a t) s
            ∙ e.same twice s
            ∙ turns_ext (by_filling is twice) (λ j t. by_filling next F (j * 2 + 1) (by_filling next F (j * 2 + 0) t)) (count_of is)
            (λ j l t. ap₂ (λ (y z : ℕ). F y (F z t)) (at j 1 (omega arith)) (at j 0 (omega arith))) s
            ∙ sym (turns-rect (by_filling next F) (count_of is) 2 s) ∙ ap (λ (n : ℕ). in_turn n (by_filling next F) s) (sym count)

      enumerated_more : Enumerated next
      enumerated_more =
          by_equal (bit known i) 1 (λ k. record { kept = known_kept k; same = known_same k })
          (λ k. let z : bit known i ≡ 0 = omega (arith, bit-lt known i, k) in record { kept = other-kept z; same = other-same z })

    no_part : (j : ℕ) → part_of 0 0 j ≡ 0
    unfolding part_of
    no_part zero = refl
    no_part (suc j) = and_zero_r (part_of 0 0 j + 0 + 1)

    enumerated_none : Enumerated []
    unfolding fillings address part_of agrees
    enumerated_none = record { kept = λ j. and_zero_r (part_of 0 0 j + 0) ∙ sym (no_part j); same = λ F s. refl }

    pub enumerated : (is : List ℕ) → Enumerated is
    enumerated = from_end Enumerated enumerated_none enumerated_more
