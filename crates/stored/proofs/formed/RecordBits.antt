-- Records tested by their bytes, and by the bits of their variables in a word.
-- Assumes nothing.
use mathlib.Core.Path.{◌≡◌, refl, sym, ◌∙◌, ap, ap₂}
use mathlib.Core.Bool.{Bool, true, false, cond, not, ◌&&◌, ◌||◌, and-false}
use mathlib.Core.Logic.{◌⊎◌, inl, inr}
use mathlib.Core.List.{List}
use Prim.Native.Nat.{ℕ, ◌+◌, ◌-◌, ◌/◌, ◌^◌, ◌≤◌, ◌<◌}
use native.Mathlib.Omega.{arith}
use lib.Bits.{bit_and}
use lib.Dec.{eqb, leb, ltb}
use borrow.Author.Tests.{eqb-true, eq-eqb, leb-true}
use Rattle.laws.specs.Bits.{has, marks}
use Rattle.laws.specs.Tests.{every, within}
use Rattle.laws.proofs.Bits.{has_power}
use Rattle.laws.proofs.Cases.{by_test, either, and_split, and_join, and_left_no, same_test}
use Rattle.laws.proofs.Marks.{marks-has}
use Rattle.laws.proofs.Masks.{no_bit}
use Rattle.laws.proofs.Tests.{every_at, every_ext, every_fails, every_out, any_ext, not-any, within_has}
use Rattle.stored_spec.specs.StoredForm.{variable, cut_byte, rail_byte, last_byte, record_formed}
use Rattle.stored.specs.Formed.{is_named, cut_formed, place_of}

-- of record i: its bytes in range; no record before it has the bit of its variable
unfoldable pub bytes_formed : List ℕ → ℕ → Bool
bytes_formed R i = is_named (variable R i) && cut_formed (cut_byte R i) (rail_byte R i) (last_byte R i)

unfoldable pub place_first : List ℕ → ℕ → Bool
place_first R i = every i (λ k. not (eqb (place_of (variable R k)) (place_of (variable R i))))

-- the bit of record k's variable, and the bits of the records before record i put over one another
abbrev pub bit_at : List ℕ → ℕ → ℕ
bit_at R k = 2 ^ place_of (variable R k)

pub seen_first : (R : List ℕ) (i : ℕ) {seen bit : ℕ} → seen ≡ marks 0 (bit_at R) i → bit ≡ bit_at R i → eqb (bit_and seen bit) 0 ≡ place_first R i
unfolding place_first
seen_first R i p q =
    let v = place_of (variable R i) in
    ap₂ (λ (a b : ℕ). eqb (bit_and a b) 0) p q ∙ no_bit (marks 0 (bit_at R) i) v
    ∙ ap not (marks-has (bit_at R) i v
    ∙ any_ext (λ k. has (bit_at R k) v) (λ k. eqb (place_of (variable R k)) v) i (λ k l. has_power (place_of (variable R k)) v))
    ∙ not-any (λ k. eqb (place_of (variable R k)) v) i

-- an input or an output
abbrev Named : ℕ → Type 0
Named v = (v ≤ 11) ⊎ ((128 ≤ v) × (v ≤ 135))

is_named_lem : (v : ℕ) → is_named v ≡ true → Named v
unfolding is_named
is_named_lem v e = by_test (leb v 11) (λ p. inl (leb-true v 11 p)) (λ p. inr (within_has 128 135 v (sym (ap (λ (b : Bool). b || within 128 135 v) p) ∙ e)))

-- different variables have different bits: a place gives its variable back
back : ℕ → ℕ
back p = cond (ltb p 16) (p - p / 9) (p + 112)

abbrev gives_back : ℕ → Bool
gives_back v = eqb (back (place_of v)) v

place_back : (v : ℕ) → Named v → back (place_of v) ≡ v
unfolding back
place_back v n =
    either n (λ l. eqb-true (back (place_of v)) v (every_at gives_back 12 refl v (omega (arith, l))))
    (λ l.
    let e : 128 + (v - 128) ≡ v = omega (arith, l) in
    eqb-true (back (place_of v)) v (ap gives_back (sym e) ∙ every_at (λ o. gives_back (128 + o)) 8 refl (v - 128) (omega (arith, l))))

same_place : (v w : ℕ) → Named v → Named w → place_of v ≡ place_of w → v ≡ w
same_place v w p q e = sym (place_back v p) ∙ ap back e ∙ place_back w q

place_test : (v w : ℕ) → Named v → Named w → eqb (place_of v) (place_of w) ≡ eqb v w
place_test v w p q =
    same_test (eqb (place_of v) (place_of w)) (eqb v w) (λ e. eq-eqb v w (same_place v w p q (eqb-true (place_of v) (place_of w) e)))
    (λ e. eq-eqb (place_of v) (place_of w) (ap place_of (eqb-true v w e)))

module _ (R : List ℕ) where
  variable_named : (i : ℕ) → bytes_formed R i ≡ true → Named (variable R i)
  unfolding bytes_formed
  variable_named i e = is_named_lem (variable R i) (and_split (is_named (variable R i)) _ e).0

  formed_parts : (i : ℕ) → record_formed R i ≡ (bytes_formed R i && every i (λ k. not (eqb (variable R k) (variable R i))))
  unfolding record_formed bytes_formed is_named cut_formed
  formed_parts i = by (leb (variable R i) 11 || within 128 135 (variable R i))
    where
      by : (n : Bool)
          → (n && leb (cut_byte R i) 1 && (eqb (cut_byte R i) 1 || eqb (rail_byte R i) 0) && eqb (last_byte R i) 0
          && every i (λ k. not (eqb (variable R k) (variable R i))))
          ≡ ((n && (leb (cut_byte R i) 1 && (eqb (cut_byte R i) 1 || eqb (rail_byte R i) 0) && eqb (last_byte R i) 0))
          && every i (λ k. not (eqb (variable R k) (variable R i))))
      by true = refl
      by false = refl

  -- all bytes in range, all bits different: each record is formed
  each_by_bits : (n : ℕ) → (every n (bytes_formed R) && every n (place_first R)) ≡ every n (record_formed R)
  unfolding place_first
  each_by_bits n =
      by_test (every n (bytes_formed R))
      (λ e.
      let at = every_at (bytes_formed R) n e in
      ap (λ (b : Bool). b && every n (place_first R)) e
      ∙ every_ext (place_first R) (record_formed R) n
      (λ i l.
      every_ext (λ k. not (eqb (place_of (variable R k)) (place_of (variable R i)))) (λ k. not (eqb (variable R k) (variable R i))) i
      (λ k h.
      ap not (place_test (variable R k) (variable R i) (variable_named k (at k (omega arith))) (variable_named i (at i l))))
      ∙ sym (formed_parts i ∙ ap (λ (b : Bool). b && every i (λ k. not (eqb (variable R k) (variable R i)))) (at i l))))
      (λ e.
      let (i, l, f) = every_out (bytes_formed R) n e in
      ap (λ (b : Bool). b && every n (place_first R)) e
      ∙ sym (every_fails (record_formed R) n i l (formed_parts i ∙ and_left_no (bytes_formed R i) _ f)))

  -- each record so far, and one that ends the test
  pub each_holds : (n : ℕ) → every n (bytes_formed R) ≡ true → every n (place_first R) ≡ true → true ≡ every n (record_formed R)
  each_holds n p q = sym (and_join p q) ∙ each_by_bits n

  pub bytes_fail : (n i : ℕ) → i < n → bytes_formed R i ≡ false → false ≡ every n (record_formed R)
  bytes_fail n i l e =
      sym (and_left_no (every n (bytes_formed R)) (every n (place_first R)) (every_fails (bytes_formed R) n i l e)) ∙ each_by_bits n

  pub place_fails : (n i : ℕ) → i < n → place_first R i ≡ false → false ≡ every n (record_formed R)
  place_fails n i l e =
      sym (ap (λ (b : Bool). every n (bytes_formed R) && b) (every_fails (place_first R) n i l e) ∙ and-false (every n (bytes_formed R))) ∙ each_by_bits n

  -- record i as it is read
  module _ (i : ℕ) {v : ℕ} {a : Bool} (at : v ≡ variable R i) (name : a ≡ is_named v) where
    pub name_fails : a ≡ false → bytes_formed R i ≡ false
    unfolding bytes_formed
    name_fails e = and_left_no (is_named (variable R i)) _ (sym (name ∙ ap is_named at) ∙ e)

    pub bytes_are : {cut rail last : ℕ} {b : Bool} → cut ≡ cut_byte R i → rail ≡ rail_byte R i → last ≡ last_byte R i → b ≡ cut_formed cut rail last
        → a ≡ true → bytes_formed R i ≡ b
    unfolding bytes_formed
    bytes_are p q r f e =
        ap (λ (t : Bool). t && cut_formed (cut_byte R i) (rail_byte R i) (last_byte R i)) (sym (name ∙ ap is_named at) ∙ e) ∙ sym (rw (sym p, sym q, sym r) f)
