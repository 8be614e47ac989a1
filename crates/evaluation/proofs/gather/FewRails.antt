-- Rail words below 64 gathered in one word, apart from the set that they go into; and rows that stand one after another.
-- Assumes nothing.
use mathlib.Core.Path.{◌≡◌, refl, sym, ◌∙◌, ap, ap₂}
use mathlib.Core.List.{List, [], ◌∷◌}
use Prim.Native.Nat.{ℕ, zero, suc, ◌+◌, ◌-◌, ◌*◌, ◌%◌, ◌^◌, ◌≤◌, ◌<◌}
use native.Mathlib.Nat.{mod-eq_of_lt, div-eq_of_lt, one-mul}
use native.Mathlib.Numerals.{add-one}
use native.Mathlib.Omega.{arith}
use lib.Bits.{bit_and, bit_or, or_zero_r, and_zero_r, and_mask}
use lib.ListN.{get_or, set}
use lib.Pow.{shl_exact}
use lib.Seq.{set-get_or}
use Rattle.laws.specs.Turns.{in_turn}
use Rattle.laws.proofs.Masks.{or_assoc}
use Rattle.laws.proofs.Turns.{turns_next, turns_ext}
use Rattle.stored_spec.specs.RowBytes.{two_bytes, row_value}
use Rattle.evaluation_spec.specs.RailSets.{Gathered, with_rail, with_row}
use Rattle.evaluation.specs.Agreeing.{part_of, rail_row, plain_row, Whole}
use Rattle.evaluation.proofs.gather.Parts.{row_next}

-- what is gathered, with the rail words of one word in the set s
abbrev pub few_as : ℕ → ℕ → ℕ → List ℕ → Gathered
few_as some each rails s = record { some = some; each = each; next = set s 0 (bit_or (get_or s 0 0) rails) }

pub few-none : (some each : ℕ) (s : List ℕ) → few_as some each 0 s ≡ record { some = some; each = each; next = s }
few-none some each s =
    ap (λ (n : List ℕ). record { some = some; each = each; next = n }) (ap (set s 0) (or_zero_r (get_or s 0 0)) ∙ set-get_or s 0 0)

more_rails : (s : List ℕ) (a r : ℕ) → r < 64 → set s 0 (bit_or (get_or s 0 0) (bit_or a (2 ^ r))) ≡ with_rail (set s 0 (bit_or (get_or s 0 0) a)) r
unfolding with_rail
more_rails s a r l =
    sym (ap₂ (λ (q m : ℕ). set (added s) q (bit_or (get_or (added s) q 0) (2 ^ m))) (div-eq_of_lt l) (mod-eq_of_lt l) ∙ by s)
  where
    added : List ℕ → List ℕ
    added t = set t 0 (bit_or (get_or t 0 0) a)

    by : (t : List ℕ) → set (added t) 0 (bit_or (get_or (added t) 0 0) (2 ^ r)) ≡ set t 0 (bit_or (get_or t 0 0) (bit_or a (2 ^ r)))
    by [] = refl
    by (x ∷ t) = ap (λ (y : ℕ). y ∷ t) (or_assoc x a (2 ^ r))

-- rail words of two words, one after the other
pub few_join : (some each a b : ℕ) (s : List ℕ) → few_as some each (bit_or a b) s ≡ few_as some each b (set s 0 (bit_or (get_or s 0 0) a))
few_join some each a b s = ap (λ (n : List ℕ). record { some = some; each = each; next = n }) (sym (by s))
  where
    by : (t : List ℕ) → set (set t 0 (bit_or (get_or t 0 0) a)) 0 (bit_or (get_or (set t 0 (bit_or (get_or t 0 0) a)) 0 0) b) ≡ set t 0 (bit_or (get_or t 0 0) (bit_or a b))
    by [] = refl
    by (x ∷ t) = ap (λ (y : ℕ). y ∷ t) (or_assoc x a b)

few_more : (some each rails x r : ℕ) (s : List ℕ) → r < 64
    → few_as (bit_or some x) (bit_and each x) (bit_or rails (2 ^ r)) s ≡ with_row x r (few_as some each rails s)
unfolding with_row
few_more some each rails x r s l = ap (λ (n : List ℕ). record { some = bit_or some x; each = bit_and each x; next = n }) (more_rails s rails r l)

-- one row more, with the rail word that the code makes of it
module _ (some each rails x y low : ℕ) (s : List ℕ) (is : y ≡ x) (l : bit_and y low < 64) where
  with_shifted : few_as (bit_or some x) (bit_and each x) (bit_or rails (1 * 2 ^ bit_and y low % 18446744073709551616)) s
      ≡ with_row x (bit_and x low) (few_as some each rails s)
  with_shifted =
      let shifted = shl_exact {a = 1} 1 (bit_and y low) 64 (omega arith) (omega (arith, l)) ∙ one-mul (2 ^ bit_and y low) in
      ap (λ (b : ℕ). few_as (bit_or some x) (bit_and each x) (bit_or rails b) s) shifted ∙ few_more some each rails x (bit_and y low) s l
      ∙ ap (λ (b : ℕ). with_row x (bit_and b low) (few_as some each rails s)) is

pub few-next : (bytes : List ℕ) (first mask free low j : ℕ) (g : Gathered) (s : List ℕ) (rails : ℕ) {some each p x y : ℕ} → p ≡ part_of mask free j
    → x ≡ row_value two_bytes bytes (first + p) → y ≡ x → bit_and y low < 64 → few_as some each rails s ≡ in_turn j (rail_row bytes first mask free low) g
    → few_as (bit_or some x) (bit_and each x) (bit_or rails (1 * 2 ^ bit_and y low % 18446744073709551616)) s
    ≡ in_turn (j + 1) (rail_row bytes first mask free low) g
few-next bytes first mask free low j g s rails {some} {each} {p} {x} {y} at read is l e =
    row_next bytes first mask free low j g at read e (with_shifted some each rails x y low s is l)

-- rows one after another
pub run-next : (bytes : List ℕ) (first low j : ℕ) (g : Gathered) (s : List ℕ) (rails : ℕ) {some each x y : ℕ} → x ≡ row_value two_bytes bytes (first + j) → y ≡ x → bit_and y low < 64
    → few_as some each rails s ≡ in_turn j (plain_row bytes first low) g
    → few_as (bit_or some x) (bit_and each x) (bit_or rails (1 * 2 ^ bit_and y low % 18446744073709551616)) s
    ≡ in_turn (j + 1) (plain_row bytes first low) g
unfolding plain_row
run-next bytes first low j g s rails {some} {each} {x} {y} read is l e =
    with_shifted some each rails x y low s is l ∙ ap (λ (z : ℕ). with_row z (bit_and z low) (few_as some each rails s)) read ∙ ap (plain_row bytes first low j) e ∙ sym (turns_next (plain_row bytes first low) j g)

-- with no rails below the rail word is 0
unfoldable pub one_rail : ℕ → ℕ
one_rail zero = 0
one_rail (suc j) = 1

pub plain_next : (bytes : List ℕ) (first j : ℕ) (g : Gathered) (s : List ℕ) {some each x : ℕ} → x ≡ row_value two_bytes bytes (first + j)
    → few_as some each (one_rail j) s ≡ in_turn j (plain_row bytes first 0) g → few_as (bit_or some x) (bit_and each x) (one_rail (j + 1)) s ≡ in_turn (j + 1) (plain_row bytes first 0) g
unfolding one_rail plain_row
plain_next bytes first j g s {some} {each} {x} read e =
    ap (λ (b : ℕ). few_as (bit_or some x) (bit_and each x) b s) (ap one_rail (add-one j) ∙ one j) ∙ few_more some each (one_rail j) x 0 s (omega arith)
    ∙ ap (λ (r : ℕ). with_row x r (few_as some each (one_rail j) s)) (sym (and_zero_r x))
    ∙ ap (λ (z : ℕ). with_row z (bit_and z 0) (few_as some each (one_rail j) s)) read
    ∙ ap (plain_row bytes first 0 j) e ∙ sym (turns_next (plain_row bytes first 0) j g)
  where
    one : (i : ℕ) → 1 ≡ bit_or (one_rail i) 1
    one zero = refl
    one (suc i) = refl

pub one_rail_lem : (j : ℕ) → 1 ≤ j → one_rail j ≡ 1
unfolding one_rail
one_rail_lem zero l = absurd (omega arith)
one_rail_lem (suc j) l = refl

-- where no input is known the fillings are the numbers in turn
part_plain : (free n : ℕ) → free + 1 ≡ 2 ^ n → (j : ℕ) → j < free + 1 → part_of 0 free j ≡ j
unfolding part_of
part_plain free n e zero l = refl
part_plain free n e (suc j) l =
    let m : free ≡ 2 ^ n - 1 = omega (arith, e) in
    let a : j + 0 + 1 ≡ suc j = omega arith in
    ap (λ (x : ℕ). bit_and (x + 0 + 1) free) (part_plain free n e j (omega arith)) ∙ ap₂ bit_and a m ∙ and_mask (suc j) n
    ∙ mod-eq_of_lt (omega (arith, e, l))

pub plain_rows : (bytes : List ℕ) (first mask free count low : ℕ) (g : Gathered) → Whole mask free → mask ≡ 0 → count ≡ free + 1
    → in_turn count (plain_row bytes first low) g ≡ in_turn count (rail_row bytes first mask free low) g
unfolding plain_row rail_row
plain_rows bytes first mask free count low g whole m c =
    turns_ext (plain_row bytes first low) (rail_row bytes first mask free low) count
    (λ j l t.
    let e : free + 1 ≡ 2 ^ whole.inputs = omega (arith, m, whole.all) in
    let p : j ≡ part_of mask free j = sym (ap (λ (x : ℕ). part_of x free j) m ∙ part_plain free whole.inputs e j (omega (arith, l, c))) in
    ap (λ (y : ℕ). let x = row_value two_bytes bytes (first + y) in with_row x (bit_and x low) t) p) g
