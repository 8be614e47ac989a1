-- The table that the code makes of two planes is the table of the sheet.
-- Assumes nothing.
use mathlib.Core.Path.{◌≡◌, refl, sym, ◌∙◌, ap, ap₂}
use mathlib.Core.Bool.{Bool, true, false, not, cond, ◌&&◌, ◌||◌}
use mathlib.Core.List.{List}
use Prim.Native.Nat.{ℕ, ◌+◌, ◌-◌, ◌*◌, ◌%◌, ◌^◌, ◌<◌, ◌≤◌}
use native.Mathlib.Nat.{mod-eq_of_lt}
use native.Mathlib.Omega.{arith}
use lib.Dec.{eqb, ltb}
use lib.ListN.{length, get_or, replicate, length-replicate, get_or-replicate}
use lib.Seq.{sets}
use lib.Pow.{pow_mono}
use borrow.Author.Tests.{ltb-false}
use Rattle.laws.specs.Tests.{any}
use Rattle.laws.specs.Lists.{puts, rect}
use Rattle.laws.specs.Bits.{has, flag}
use Rattle.laws.proofs.Cases.{by_test, cond_yes, cond_no, and_turn, and_left_no, or_split}
use Rattle.laws.proofs.Tests.{any_none, any_ext, any_out}
use Rattle.laws.proofs.Lists.{rect_ext}
use Rattle.laws.proofs.Filled.{laid}
use Rattle.laws.proofs.Puts.{stored, stored_over}
use Rattle.laws.proofs.Bits.{flag-has}
use Rattle.laws.proofs.Masks.{not-both, has-zero, has-cond}
use Rattle.sheet_spec.specs.Records.{record_count, byte, kind, ordinary, stop, matches, forces0, forces1}
use Rattle.sheet_spec.specs.Job.{inputs_to, outputs_to, word_of, number_of}
use Rattle.sheet_spec.specs.Values.{forced_to0, forced_to1, value_by, value}
use Rattle.sheet_spec.specs.Refusals.{refuse3, malformed, any_malformed, clash}
use Rattle.sheet_spec.specs.Table.{table_at, table_of}
use Rattle.sheet.specs.Pairs.{pair_of}
use Rattle.sheet.specs.Planes.{agrees, number_to, line_value, input_array, output_array, field_array, kind_byte, kind_array, number_array, numbered_field, ordinary_plane, stops_over, any_stop, plane_of, line_at, zeros_plane, ones_plane, made_table}
use Rattle.sheet_spec.specs.Accepted.{Accepted}
use Rattle.sheet_spec.proofs.RecordFields.{order-length}
use Rattle.sheet_spec.proofs.Orders.{inputs-length, outputs-length, input_below, output_below}
use Rattle.sheet_spec.proofs.Words.{word_small}
use Rattle.sheet.proofs.lines.PlaceNumbers.{matches-number, number_to_is}
use Rattle.sheet_spec.proofs.Clashes.{never_both}
use Rattle.sheet.proofs.planes.MarkedPlanes.{forced_at, marked_length, marked_has, over, laid_has}

field_at : (s : List ℕ) (lo hi r : ℕ) → record_count s ≤ 256 → r < record_count s → get_or (field_array s lo hi) r 0 ≡ pair_of s lo hi r
unfolding field_array
field_at s lo hi r = stored 256 (record_count s) (pair_of s lo hi) r

kind_at : (s : List ℕ) (k at r : ℕ) → record_count s ≤ 256 → r < record_count s → get_or (kind_array s k at) r 0 ≡ kind_byte s k at r
unfolding kind_array
kind_at s k at r = stored 256 (record_count s) (kind_byte s k at) r

kind-has : (s : List ℕ) (k at r o : ℕ) → has (kind_byte s k at r) o ≡ (eqb (kind s r) k && has (byte s r at) o)
unfolding kind_byte
kind-has s k at r o = has-cond (eqb (kind s r) k) (byte s r at) o

number_at : (is ws : List ℕ) (n r : ℕ) → r < 256 → get_or (number_array is n ws) r 0 ≡ number_to 0 is n (get_or ws r 0)
unfolding number_array
number_at is ws n r = stored_over 256 (λ a k. number_to a is n (get_or ws k 0)) r

-- the two planes give the value: what the stop records say, else what the others say, else 2. z and y are forced by stop records, f and g by others
over_value : (z y f g : Bool) → ◌≡◌ {A = ℕ} (cond (over f z y) 0 (cond (over g y z) 1 2)) (cond z 0 (cond y 1 (cond f 0 (cond g 1 2))))
over_value true true true g = refl
over_value true true false g = refl
over_value true false true g = refl
over_value true false false g = refl
over_value false true true true = refl
over_value false true true false = refl
over_value false true false true = refl
over_value false true false false = refl
over_value false false true g = refl
over_value false false false true = refl
over_value false false false false = refl

over_once : (z y f g : Bool) → (z && y) ≡ false → (f && g) ≡ false → (over f z y && over g y z) ≡ false
over_once true true f g p q = not-both refl p
over_once true false true true p q = refl
over_once true false true false p q = refl
over_once true false false true p q = refl
over_once true false false false p q = refl
over_once false true true g p q = refl
over_once false true false g p q = refl
over_once false false true true p q = not-both refl q
over_once false false true false p q = refl
over_once false false false g p q = refl

over_nothing : (f : Bool) → over f false false ≡ f
over_nothing true = refl
over_nothing false = refl

-- the value as the code computes it
choice : (p q : Bool) → (1 - flag p) * (2 - flag q) ≡ cond p 0 (cond q 1 2)
choice true true = refl
choice true false = refl
choice false true = refl
choice false false = refl

line-value : (z y o : ℕ) → line_value z y o ≡ cond (has z o) 0 (cond (has y o) 1 2)
unfolding line_value
line-value z y o = ap₂ (λ (a b : ℕ). (1 - a) * (2 - b)) (sym (flag-has z o)) (sym (flag-has y o)) ∙ choice (has z o) (has y o)

module _ (n m : ℕ) (order s : List ℕ) (c : Accepted n m order s) where
  few : record_count s ≤ 256
  unfolding refuse3
  few =
      let h = ltb-false 2048 (length s) (or_split (not (eqb (length s % 8) 0)) (ltb 2048 (length s)) c.length-good).1 in
      omega arith

  order_is : length order ≡ n + m
  order_is = order-length n m order c.order-whole

  pub input_at_lem : (k : ℕ) → k < n → get_or (input_array order) k 0 ≡ get_or (inputs_to (n + m) order (n + m)) k 0
  unfolding input_array
  input_at_lem k h =
      let e = inputs-length n m order c.order-whole c.inputs c.outputs in
      ap (λ (t : ℕ). get_or (sets (replicate 20 0) 0 (inputs_to t order t)) k 0) order_is
      ∙ laid 20 (inputs_to (n + m) order (n + m)) k (omega arith) (omega arith)

  output_at_lem : (k : ℕ) → k < m → get_or (output_array order) k 0 % 8 ≡ get_or (outputs_to (n + m) order (n + m)) k 0
  unfolding output_array
  output_at_lem k h =
      let e = outputs-length n m order c.order-whole c.inputs c.outputs in
      let l = output_below n m order c.order-whole c.inputs c.outputs k h in
      ap (λ (t : ℕ). get_or (sets (replicate 20 0) 0 (outputs_to t order t)) k 0 % 8) order_is
      ∙ ap (λ (o : ℕ). o % 8) (laid 20 (outputs_to (n + m) order (n + m)) k (omega arith) (omega arith))
      ∙ mod-eq_of_lt (omega arith)

  -- a field of a record as the number read down the order
  field_number : (lo hi r : ℕ) → r < record_count s
      → get_or (numbered_field n order s lo hi) r 0 ≡ number_of (inputs_to (n + m) order (n + m)) (pair_of s lo hi r)
  unfolding numbered_field
  field_number lo hi r h =
      number_at (input_array order) (field_array s lo hi) n r (omega (arith, few))
      ∙ ap (number_to 0 (input_array order) n) (field_at s lo hi r few h)
      ∙ number_to_is (input_array order) (inputs_to (n + m) order (n + m)) n (pair_of s lo hi r) c.inputs input_at_lem
      (λ k l. let b = input_below n m order c.order-whole c.inputs c.outputs k l in omega arith)
      (inputs-length n m order c.order-whole c.inputs c.outputs)

  -- a record has the place x where it matches the word of x
  has_place : (r x : ℕ) → r < record_count s → x < 2 ^ n
      → agrees (get_or (numbered_field n order s 0 1) r 0) (get_or (numbered_field n order s 2 3) r 0) x
      ≡ matches s r (word_of (inputs_to (n + m) order (n + m)) x)
  unfolding any_malformed
  has_place r x h l =
      ap₂ (λ (k v : ℕ). agrees k v x) (field_number 0 1 r h) (field_number 2 3 r h)
      ∙ sym (matches-number n m order c.order-whole c.inputs c.outputs s r x
      (any_out (malformed n m s) (record_count s) c.records-good r h) l)

  abbrev masks : List ℕ
  masks = numbered_field n order s 0 1

  abbrev places : List ℕ
  places = numbered_field n order s 2 3

  -- a record of kind k that matches the word of place x forces output o by byte at
  abbrev forced : ℕ → ℕ → ℕ → ℕ → Bool
  forced k at x o =
      any (record_count s) (λ r. eqb (kind s r) k && (matches s r (word_of (inputs_to (n + m) order (n + m)) x) && has (byte s r at) o))

  forced_is : (k at x o : ℕ) → x < 2 ^ n → forced_at masks places (kind_array s k at) (record_count s) x o ≡ forced k at x o
  forced_is k at x o l =
      let w = word_of (inputs_to (n + m) order (n + m)) x in
      any_ext (λ r. agrees (get_or masks r 0) (get_or places r 0) x && has (get_or (kind_array s k at) r 0) o)
      (λ r. eqb (kind s r) k && (matches s r w && has (byte s r at) o)) (record_count s)
      (λ r h.
      ap₂ (λ (p : Bool) (f : ℕ). p && has f o) (has_place r x h l) (kind_at s k at r few h)
      ∙ ap (λ (b : Bool). matches s r w && b) (kind-has s k at r o)
      ∙ and_turn (matches s r w) (eqb (kind s r) k) (has (byte s r at) o))

  ordinary-length : (at : ℕ) → length (ordinary_plane masks places s at) ≡ 4096
  unfolding ordinary_plane
  ordinary-length at =
      marked_length masks places (kind_array s ordinary at) (record_count s) (replicate 4096 0) (length-replicate {A = ℕ} 4096 0)

  ordinary-has : (at x o : ℕ) → x < 2 ^ n → has (get_or (ordinary_plane masks places s at) x 0) o ≡ forced ordinary at x o
  unfolding ordinary_plane
  ordinary-has at x o l =
      let low = pow_mono c.inputs in
      let x< : x < 4096 = omega arith in
      marked_has masks places (kind_array s ordinary at) (record_count s) (replicate 4096 0) (length-replicate {A = ℕ} 4096 0) x o x<
      ∙ ap₂ ◌||◌ (ap (λ (z : ℕ). has z o) (get_or-replicate 4096 x 0 0 x<) ∙ has-zero o) (forced_is ordinary at x o l)

  -- no stop record forces anything where there is none
  none_forced : any_stop s ≡ false → (at x o : ℕ) → forced stop at x o ≡ false
  unfolding any_stop
  none_forced e at x o =
      any_none (λ r. eqb (kind s r) stop && (matches s r (word_of (inputs_to (n + m) order (n + m)) x) && has (byte s r at) o)) (record_count s)
      (λ r h.
      and_left_no (eqb (kind s r) stop) (matches s r (word_of (inputs_to (n + m) order (n + m)) x) && has (byte s r at) o)
      (any_out (λ q. eqb (kind s q) stop) (record_count s) e r h))

  -- what a plane holds at place x: the stop records over the ordinary ones
  plane_has : (at opposite x o : ℕ) → x < 2 ^ n → o < 8
      → has (get_or (plane_of masks places s at opposite) x 0) o ≡ over (forced ordinary at x o) (forced stop at x o) (forced stop opposite x o)
  unfolding plane_of stops_over
  plane_has at opposite x o l h =
      let low = pow_mono c.inputs in
      let under = ordinary_plane masks places s at in
      let laid = stops_over masks places s at opposite under in
      by_test (any_stop s)
      (λ e.
      ap (λ (p : List ℕ). has (get_or p x 0) o) (cond_yes (any_stop s) laid under e)
      ∙ laid_has masks places (kind_array s stop at) (kind_array s stop opposite) (record_count s) under (ordinary-length at) x o (omega arith) h
      ∙ rw (ordinary-has at x o l, forced_is stop at x o l, forced_is stop opposite x o l) refl)
      (λ e.
      ap (λ (p : List ℕ). has (get_or p x 0) o) (cond_no (any_stop s) laid under e)
      ∙ ordinary-has at x o l
      ∙ sym (over_nothing (forced ordinary at x o))
      ∙ ap₂ (over (forced ordinary at x o)) (sym (none_forced e at x o)) (sym (none_forced e opposite x o)))

  zero_is : (x o : ℕ) → x < 2 ^ n → o < 8
      → has (get_or (zeros_plane n order s) x 0) o
      ≡ over (forced_to0 s ordinary (word_of (inputs_to (n + m) order (n + m)) x) o) (forced_to0 s stop (word_of (inputs_to (n + m) order (n + m)) x) o)
      (forced_to1 s stop (word_of (inputs_to (n + m) order (n + m)) x) o)
  unfolding zeros_plane forced_to0 forced_to1 forces0 forces1
  zero_is x o l h = plane_has 4 5 x o l h

  one_is : (x o : ℕ) → x < 2 ^ n → o < 8
      → has (get_or (ones_plane n order s) x 0) o
      ≡ over (forced_to1 s ordinary (word_of (inputs_to (n + m) order (n + m)) x) o) (forced_to1 s stop (word_of (inputs_to (n + m) order (n + m)) x) o)
      (forced_to0 s stop (word_of (inputs_to (n + m) order (n + m)) x) o)
  unfolding ones_plane forced_to0 forced_to1 forces0 forces1
  one_is x o l h = plane_has 5 4 x o l h

  -- the value at place x of the two planes; where no records clash, no output is in both
  pub plane_value : (x o : ℕ) → x < 2 ^ n → o < m
      → cond (has (get_or (zeros_plane n order s) x 0) o) 0 (cond (has (get_or (ones_plane n order s) x 0) o) 1 2)
      ≡ value s (word_of (inputs_to (n + m) order (n + m)) x) o
  unfolding value value_by
  plane_value x o l h =
      let w = word_of (inputs_to (n + m) order (n + m)) x in
      let o< : o < 8 = omega (arith, c.outputs) in
      ap₂ (λ (p q : Bool). cond p 0 (cond q 1 2)) (zero_is x o l o<) (one_is x o l o<)
      ∙ over_value (forced_to0 s stop w o) (forced_to1 s stop w o) (forced_to0 s ordinary w o) (forced_to1 s ordinary w o)

  pub plane_once : any (record_count s) (λ r. any (record_count s) (clash n m s r)) ≡ false → (x o : ℕ) → x < 2 ^ n → o < m
      → (has (get_or (zeros_plane n order s) x 0) o && has (get_or (ones_plane n order s) x 0) o) ≡ false
  plane_once none x o l h =
      let w = word_of (inputs_to (n + m) order (n + m)) x in
      let small = word_small n m order c.order-whole c.inputs c.outputs x in
      let o< : o < 8 = omega (arith, c.outputs) in
      ap₂ ◌&&◌ (zero_is x o l o<) (one_is x o l o<)
      ∙ over_once (forced_to0 s stop w o) (forced_to1 s stop w o) (forced_to0 s ordinary w o) (forced_to1 s ordinary w o)
      (never_both n m s none stop w o small h) (never_both n m s none ordinary w o small h)

  line_at_lem : (k x : ℕ) → k < m → x < 2 ^ n → line_at (zeros_plane n order s) (ones_plane n order s) (output_array order) k x ≡ table_at n m order s k x
  unfolding line_at table_at
  line_at_lem k x h l =
      let o = get_or (outputs_to (n + m) order (n + m)) k 0 in
      let z = get_or (zeros_plane n order s) x 0 in
      let y = get_or (ones_plane n order s) x 0 in
      ap (line_value z y) (output_at_lem k h) ∙ line-value z y o ∙ plane_value x o l (output_below n m order c.order-whole c.inputs c.outputs k h)

pub table-made : (n m : ℕ) (order s : List ℕ) → Accepted n m order s → made_table n m order s ≡ table_of n m order s
unfolding made_table table_of
table-made n m order s c =
    rect_ext (line_at (zeros_plane n order s) (ones_plane n order s) (output_array order)) (table_at n m order s) m (2 ^ n) (line_at_lem n m order s c)

-- what the code's arrays hold after each call
pub numbered : (n : ℕ) (order s : List ℕ) (lo hi : ℕ) (old is ws : List ℕ) → old ≡ replicate 256 0 → is ≡ input_array order → ws ≡ field_array s lo hi
    → puts 256 (λ r. number_to (get_or old r 0) is n (get_or ws r 0)) old ≡ numbered_field n order s lo hi
unfolding numbered_field number_array
numbered n order s lo hi old is ws p q e = rw (p, q, e) refl

pub lined : (n m : ℕ) (order s : List ℕ) → Accepted n m order s → (zs ys os : List ℕ) → zs ≡ zeros_plane n order s → ys ≡ ones_plane n order s
    → os ≡ output_array order
    → rect m (2 ^ n) (line_at zs ys os) ≡ table_of n m order s
unfolding made_table
lined n m order s h zs ys os z y o = rw (z, y, o) (table-made n m order s h)
