-- What the records of a cut list hold: one record for each height, and the cells between neighbouring cuts.
-- Assumes nothing.
use mathlib.Core.Path.{◌≡◌, refl, sym, ◌∙◌, ap, ap₂}
use mathlib.Core.Bool.{Bool, true, false, cond, not, ◌||◌, or-true}
use mathlib.Core.List.{List, [], ◌∷◌, ◌++◌}
use Prim.Native.Nat.{ℕ, zero, suc, ◌+◌, ◌-◌, ◌*◌, ◌^◌, ◌<◌, ◌≤◌}
use native.Mathlib.Nat.{not-suc-le-zero}
use native.Mathlib.Omega.{arith}
use lib.Dec.{eqb}
use lib.ListN.{length, get_or, length-append, get_or-append}
use lib.Seq.{append_snoc, get_or-append-add}
use borrow.Author.Tests.{eq-eqb, ne_eqb}
use Rattle.laws.specs.Tests.{sum}
use Rattle.laws.specs.Bits.{flag}
use Rattle.laws.proofs.Cases.{by_test, cond_yes, cond_no}
use Rattle.laws.proofs.Counts.{sum_ext, sum_front}
use Rattle.laws.proofs.Lists.{length-tab, get_or-tab}
use Rattle.sheet_spec.specs.Job.{Job, t, ins, outs, var_at, is_input}
use Rattle.sheet_spec.proofs.Promises.{ins_input, ins_output, outs_input, outs_output}
use Rattle.stored_spec.specs.Cells.{cell, rows, row_total}
use Rattle.cutting_spec.specs.Cuts.{CutList, bottom, next, cell_inputs, cell_outputs, cell_between, cells_of}
use Rattle.stored_spec.specs.Rails.{rails_at}
use Rattle.cutting_spec.specs.Rows.{row, cell_rows, cascade_rows}
use Rattle.stored_spec.specs.StoredForm.{StoredCell, Reading, record_count, cut_byte, rail_byte, appended, with_variable, with_cut, reading, stored_cells, cell_count, no_cell, cell_at, size_of, rows_before, row_count, member, stored_to, stored}

-- the four bytes of the record at height h + 1
module _ (j : Job) (ws cuts : List ℕ) where
  pub stored-length : (h : ℕ) → length (stored_to j ws cuts h) ≡ h * 4
  unfolding stored_to
  stored-length zero = refl
  stored-length (suc h) = let e = stored-length h in omega arith

  pub stored-variable : (h i : ℕ) → i < h → get_or (stored_to j ws cuts h) (i * 4) 0 ≡ var_at j (h - i)
  unfolding stored_to
  stored-variable zero i l = absurd (not-suc-le-zero l)
  stored-variable (suc h) zero l = let s : suc h - 0 ≡ suc h = omega arith in ap (var_at j) (sym s)
  stored-variable (suc h) (suc i) l =
      let e : suc i * 4 ≡ suc (suc (suc (suc (i * 4)))) = omega arith in
      let s : suc h - suc i ≡ h - i = omega arith in
      ap (λ (k : ℕ). get_or (stored_to j ws cuts (suc h)) k 0) e ∙ stored-variable h i (omega arith) ∙ ap (var_at j) (sym s)

  pub stored_cut : (h i : ℕ) → i < h → get_or (stored_to j ws cuts h) (i * 4 + 1) 0 ≡ flag (member (h - suc i) cuts)
  unfolding stored_to
  stored_cut zero i l = absurd (not-suc-le-zero l)
  stored_cut (suc h) zero l = let s : suc h - 1 ≡ h = omega arith in ap (λ (k : ℕ). flag (member k cuts)) (sym s)
  stored_cut (suc h) (suc i) l =
      let e : suc i * 4 + 1 ≡ suc (suc (suc (suc (i * 4 + 1)))) = omega arith in
      let s : suc h - suc (suc i) ≡ h - suc i = omega arith in
      ap (λ (k : ℕ). get_or (stored_to j ws cuts (suc h)) k 0) e ∙ stored_cut h i (omega arith) ∙ ap (λ (k : ℕ). flag (member k cuts)) (sym s)

  pub stored-rails : (h i : ℕ) → i < h
      → get_or (stored_to j ws cuts h) (i * 4 + 2) 0 ≡ cond (member (h - suc i) cuts) (rails_at j ws (h - suc i)) 0
  unfolding stored_to
  stored-rails zero i l = absurd (not-suc-le-zero l)
  stored-rails (suc h) zero l =
      let s : suc h - 1 ≡ h = omega arith in ap (λ (k : ℕ). cond (member k cuts) (rails_at j ws k) 0) (sym s)
  stored-rails (suc h) (suc i) l =
      let e : suc i * 4 + 2 ≡ suc (suc (suc (suc (i * 4 + 2)))) = omega arith in
      let s : suc h - suc (suc i) ≡ h - suc i = omega arith in
      ap (λ (k : ℕ). get_or (stored_to j ws cuts (suc h)) k 0) e ∙ stored-rails h i (omega arith)
      ∙ ap (λ (k : ℕ). cond (member k cuts) (rails_at j ws k) 0) (sym s)

  pub stored_last : (h i : ℕ) → i < h → get_or (stored_to j ws cuts h) (i * 4 + 3) 0 ≡ 0
  unfolding stored_to
  stored_last zero i l = absurd (not-suc-le-zero l)
  stored_last (suc h) zero l = refl
  stored_last (suc h) (suc i) l =
      let e : suc i * 4 + 3 ≡ suc (suc (suc (suc (i * 4 + 3)))) = omega arith in
      ap (λ (k : ℕ). get_or (stored_to j ws cuts (suc h)) k 0) e ∙ stored_last h i (omega arith)

  pub record_count_lem : record_count (stored j ws cuts) ≡ t j
  unfolding stored
  record_count_lem = let e = stored-length (t j) in omega arith

-- which heights are cuts
pub member_head : {h : ℕ} {l : List ℕ} → CutList h l → member h l ≡ true
member_head bottom = refl
member_head (next {h} {g} {l} lt c) = ap (λ (b : Bool). b || member h l) (eq-eqb h h refl)

pub member_above : {h : ℕ} {l : List ℕ} → CutList h l → (k : ℕ) → h < k → member k l ≡ false
member_above bottom k lt = ap (λ (b : Bool). b || false) (ne_eqb k 0 (λ e. absurd (omega arith)))
member_above (next {h} {g} {l} lt c) k kh =
    ap₂ ◌||◌ (ne_eqb k h (λ e. absurd (omega arith))) (member_above c k (omega arith))

pub member-bottom : {h : ℕ} {l : List ℕ} → CutList h l → member 0 l ≡ true
member-bottom bottom = refl
member-bottom (next {h} {g} {l} lt c) = ap (λ (b : Bool). eqb 0 h || b) (member-bottom c) ∙ or-true (eqb 0 h)

member_below : (a h : ℕ) (l : List ℕ) → h < a → member h (a ∷ l) ≡ member h l
member_below a h l lt = ap (λ (b : Bool). b || member h l) (ne_eqb h a (λ e. absurd (omega arith)))

-- the inputs, and the outputs, at the k heights from a down, topmost first
unfoldable pub ins_from : Job → ℕ → ℕ → List ℕ
ins_from j a zero = []
ins_from j a (suc k) = appended (is_input (var_at j (a - k))) (ins_from j a k) (var_at j (a - k))

unfoldable pub outs_from : Job → ℕ → ℕ → List ℕ
outs_from j a zero = []
outs_from j a (suc k) = appended (not (is_input (var_at j (a - k)))) (outs_from j a k) (var_at j (a - k) - 128)

-- the stored cell between two cuts, a above b; those of a cut list
unfoldable pub stored_between : Job → List ℕ → ℕ → ℕ → StoredCell
stored_between j ws a b =
    record { ins = ins_from j a (a - b); outs = outs_from j a (a - b); upper = rails_at j ws a; lower = rails_at j ws b }

unfoldable pub stored_of : Job → List ℕ → List ℕ → List StoredCell
stored_of j ws [] = []
stored_of j ws (a ∷ []) = []
stored_of j ws (a ∷ b ∷ l) = stored_between j ws a b ∷ stored_of j ws (b ∷ l)

abbrev begun : List StoredCell → List ℕ → List ℕ → ℕ → Reading
begun cs is os u = record { ended = cs; ins = is; outs = os; upper = u }

-- the reading after one more record
abbrev further : Reading → ℕ → ℕ → ℕ → Reading
further s v c r = cond (eqb c 1) (with_cut (with_variable s v) r) (with_variable s v)

further_flag : (s : Reading) (v : ℕ) (b : Bool) (r : ℕ) → further s v (flag b) (cond b r 0) ≡ cond b (with_cut (with_variable s v) r) (with_variable s v)
further_flag s v true r = refl
further_flag s v false r = refl

append-none : {A : Type 0} (l : List A) → l ++ [] ≡ l
append-none [] = refl
append-none (x ∷ l) = ap (λ (k : List _). x ∷ k) (append-none l)

module _ (j : Job) (ws cuts : List ℕ) where
  abbrev R : List ℕ
  R = stored j ws cuts

  -- the reading s with the record of the variable at height h, below which lies height g
  abbrev passed : Reading → ℕ → ℕ → Reading
  passed s h g = cond (member g cuts) (with_cut (with_variable s (var_at j h)) (rails_at j ws g)) (with_variable s (var_at j h))

  abbrev cell_from : ℕ → ℕ → ℕ → ℕ → StoredCell
  cell_from a k u h = record { ins = ins_from j a k; outs = outs_from j a k; upper = u; lower = rails_at j ws h }

  read_next : (i : ℕ) → i < t j → reading R (suc i) ≡ passed (reading R i) (t j - i) (t j - suc i)
  unfolding reading stored
  read_next i l =
      let s = reading R i in
      let b = member (t j - suc i) cuts in
      ap (λ (v : ℕ). further s v (cut_byte R i) (rail_byte R i)) (stored-variable j ws cuts (t j) i l)
      ∙ ap (λ (c : ℕ). further s (var_at j (t j - i)) c (rail_byte R i)) (stored_cut j ws cuts (t j) i l)
      ∙ ap (λ (r : ℕ). further s (var_at j (t j - i)) (flag b) r) (stored-rails j ws cuts (t j) i l)
      ∙ further_flag s (var_at j (t j - i)) b (rails_at j ws (t j - suc i))

  -- k + 1 records below the cut a
  module _ (cs : List StoredCell) (a u : ℕ) (high : a ≤ t j) where
    one_more : (k : ℕ) → k < a → reading R (t j - a + k) ≡ begun cs (ins_from j a k) (outs_from j a k) u
        → reading R (t j - a + suc k)
        ≡ cond (member (a - suc k) cuts) (with_cut (begun cs (ins_from j a (suc k)) (outs_from j a (suc k)) u) (rails_at j ws (a - suc k)))
        (begun cs (ins_from j a (suc k)) (outs_from j a (suc k)) u)
    unfolding with_variable ins_from outs_from
    one_more k l e =
        let i : t j - a + suc k ≡ suc (t j - a + k) = omega arith in
        let v : t j - (t j - a + k) ≡ a - k = omega arith in
        let c : t j - suc (t j - a + k) ≡ a - suc k = omega arith in
        ap (reading R) i ∙ read_next (t j - a + k) (omega arith)
        ∙ ap (λ (s : Reading). passed s (t j - (t j - a + k)) (t j - suc (t j - a + k))) e
        ∙ ap₂ (passed (begun cs (ins_from j a k) (outs_from j a k) u)) v c

    no_cuts : reading R (t j - a) ≡ begun cs [] [] u → (k : ℕ) → k < a → ((i : ℕ) → i < k → member (a - suc i) cuts ≡ false)
        → reading R (t j - a + k) ≡ begun cs (ins_from j a k) (outs_from j a k) u
    unfolding ins_from outs_from
    no_cuts start zero l none = let e : t j - a + 0 ≡ t j - a = omega arith in ap (reading R) e ∙ start
    no_cuts start (suc k) l none =
        one_more k (omega arith) (no_cuts start k (omega arith) (λ i p. none i (omega arith)))
        ∙ cond_no (member (a - suc k) cuts) _ _ (none k (omega arith))

    to_cut : reading R (t j - a) ≡ begun cs [] [] u → (k : ℕ) → k < a → ((i : ℕ) → i < k → member (a - suc i) cuts ≡ false)
        → member (a - suc k) cuts ≡ true
        → reading R (t j - a + suc k)
        ≡ begun (cs ++ (cell_from a (suc k) u (a - suc k) ∷ [])) [] [] (rails_at j ws (a - suc k))
    unfolding with_cut
    to_cut start k l none cut = one_more k l (no_cuts start k l none) ∙ cond_yes (member (a - suc k) cuts) _ _ cut

  stored_next : (a : ℕ) {g : ℕ} {l : List ℕ} → CutList g l → stored_of j ws (a ∷ l) ≡ stored_between j ws a g ∷ stored_of j ws l
  unfolding stored_of
  stored_next a bottom = refl
  stored_next a (next lt c) = refl

  at_cut : (a g : ℕ) (l : List ℕ) → g < a → CutList g l → a ≤ t j → ((h : ℕ) → h < a → member h cuts ≡ member h (a ∷ l)) → (cs : List StoredCell)
      → reading R (t j - a) ≡ begun cs [] [] (rails_at j ws a) → reading R (t j - g) ≡ begun (cs ++ (stored_between j ws a g ∷ [])) [] [] (rails_at j ws g)
  unfolding stored_between
  at_cut a g l lt c high same cs start =
      let k = a - suc g in
      let e : t j - g ≡ t j - a + suc k = omega arith in
      let b : a - suc k ≡ g = omega arith in
      let d : suc k ≡ a - g = omega arith in
      let within : (h : ℕ) → h < a → member h cuts ≡ member h l = λ h p. same h p ∙ member_below a h l p in
      ap (reading R) e
      ∙ to_cut cs a (rails_at j ws a) high start k (omega arith) (λ i p. within (a - suc i) (omega arith) ∙ member_above c (a - suc i) (omega arith))
      (ap (λ (h : ℕ). member h cuts) b ∙ within g lt ∙ member_head c)
      ∙ ap₂ (λ (q h : ℕ). begun (cs ++ (cell_from a q (rails_at j ws a) h ∷ [])) [] [] (rails_at j ws h)) d b

  cells-from : {a : ℕ} {l : List ℕ} → CutList a l → a ≤ t j → ((h : ℕ) → h < a → member h cuts ≡ member h l) → (cs : List StoredCell)
      → reading R (t j - a) ≡ begun cs [] [] (rails_at j ws a) → (reading R (t j)).ended ≡ cs ++ stored_of j ws l
  unfolding stored_of
  cells-from bottom high same cs start =
      let e : t j ≡ t j - 0 = omega arith in ap (λ (i : ℕ). (reading R i).ended) e ∙ ap (λ (s : Reading). s.ended) start ∙ sym (append-none cs)
  cells-from (next {h} {g} {l} lt c) high same cs start =
      let one : StoredCell = stored_between j ws h g in
      cells-from c (omega arith) (λ q p. same q (omega arith) ∙ member_below h q l (omega arith)) (cs ++ (one ∷ []))
      (at_cut h g l lt c high same cs start)
      ∙ append_snoc cs one (stored_of j ws l) ∙ ap (λ (r : List StoredCell). cs ++ r) (sym (stored_next h c))

  pub stored-cells : CutList (t j) cuts → stored_cells R ≡ stored_of j ws cuts
  unfolding stored_cells reading rails_at
  stored-cells c =
      ap (λ (i : ℕ). (reading R i).ended) (record_count_lem j ws cuts)
      ∙ cells-from c (omega arith) (λ h p. refl) []
      (let e : t j - t j ≡ 0 = omega arith in
      ap (reading R) e ∙ ap (λ (u : ℕ). begun [] [] [] u) (sym (cond_yes (eqb (t j) (t j)) 0 _ (eq-eqb (t j) (t j) refl))))

-- the cell between the k-th neighbours of a list
module _ (j : Job) (ws : List ℕ) where
  stored_at : (l : List ℕ) (k : ℕ) → suc k < length l → get_or (stored_of j ws l) k no_cell ≡ stored_between j ws (get_or l k 0) (get_or l (suc k) 0)
  unfolding stored_of
  stored_at [] k h = absurd (not-suc-le-zero h)
  stored_at (a ∷ []) k h = absurd (omega arith)
  stored_at (a ∷ b ∷ l) zero h = refl
  stored_at (a ∷ b ∷ l) (suc k) h = stored_at (b ∷ l) k (omega arith)

  stored-count : (l : List ℕ) → length (stored_of j ws l) ≡ length l - 1
  unfolding stored_of
  stored-count [] = refl
  stored-count (a ∷ []) = refl
  stored-count (a ∷ b ∷ l) = let e = stored-count (b ∷ l) in omega arith

  -- how many inputs and outputs it has
  ins-length : (a k : ℕ) → k ≤ a → length (ins_from j a k) + ins j (a - k) ≡ ins j a
  unfolding ins_from
  ins-length a zero l = let e : a - 0 ≡ a = omega arith in omega (arith, ap (ins j) e)
  ins-length a (suc k) l =
      let before = ins-length a k (omega arith) in
      let g = a - suc k in
      let up : a - k ≡ suc g = omega arith in
      let at : ins j (a - k) ≡ ins j (suc g) = ap (ins j) up in
      by_test (is_input (var_at j (a - k)))
      (λ e.
      rw (e, length-append (ins_from j a k) (var_at j (a - k) ∷ []))
      (omega (arith, before, at, ins_input j g (ap (λ (h : ℕ). is_input (var_at j h)) (sym up) ∙ e))))
      (λ e. rw e (omega (arith, before, at, ins_output j g (ap (λ (h : ℕ). is_input (var_at j h)) (sym up) ∙ e))))

  outs-length : (a k : ℕ) → k ≤ a → length (outs_from j a k) + outs j (a - k) ≡ outs j a
  unfolding outs_from
  outs-length a zero l = let e : a - 0 ≡ a = omega arith in omega (arith, ap (outs j) e)
  outs-length a (suc k) l =
      let before = outs-length a k (omega arith) in
      let g = a - suc k in
      let up : a - k ≡ suc g = omega arith in
      let at : outs j (a - k) ≡ outs j (suc g) = ap (outs j) up in
      by_test (is_input (var_at j (a - k)))
      (λ e. rw e (omega (arith, before, at, outs_input j g (ap (λ (h : ℕ). is_input (var_at j h)) (sym up) ∙ e))))
      (λ e.
      rw (e, length-append (outs_from j a k) ((var_at j (a - k) - 128) ∷ []))
      (omega (arith, before, at, outs_output j g (ap (λ (h : ℕ). is_input (var_at j h)) (sym up) ∙ e))))

  pub between_ins : (a b : ℕ) → b ≤ a → length (ins_from j a (a - b)) ≡ ins j a - ins j b
  between_ins a b l = let e : a - (a - b) ≡ b = omega arith in omega (arith, ins-length a (a - b) (omega arith), ap (ins j) e)

  pub between_outs : (a b : ℕ) → b ≤ a → length (outs_from j a (a - b)) ≡ outs j a - outs j b
  between_outs a b l = let e : a - (a - b) ≡ b = omega arith in omega (arith, outs-length a (a - b) (omega arith), ap (outs j) e)

  pub size_between : (a b : ℕ) → b ≤ a → size_of (stored_between j ws a b) ≡ cell_between j ws a b
  unfolding size_of stored_between cell_between cell_inputs cell_outputs
  size_between a b l =
      ap₂ (λ (x y : ℕ). cell (rails_at j ws a + x) (y + rails_at j ws b)) (between_ins a b l) (between_outs a b l)

-- neighbours in a cut list fall
pub cuts_fall : {h : ℕ} {l : List ℕ} → CutList h l → (k : ℕ) → suc k < length l → get_or l (suc k) 0 < get_or l k 0
cuts_fall bottom k l = absurd (omega arith)
cuts_fall (next lt bottom) zero l = lt
cuts_fall (next lt (next kt c)) zero l = lt
cuts_fall (next lt c) (suc k) l = cuts_fall c k (omega arith)

pub cuts_most : {h : ℕ} {l : List ℕ} → CutList h l → (k : ℕ) → get_or l k 0 ≤ h
cuts_most bottom zero = omega arith
cuts_most bottom (suc k) = omega arith
cuts_most (next lt c) zero = omega arith
cuts_most (next lt c) (suc k) = let e = cuts_most c k in omega arith

pub cuts_first : {h : ℕ} {l : List ℕ} → CutList h l → get_or l 0 0 ≡ h
cuts_first bottom = refl
cuts_first (next lt c) = refl

pub cuts-some : {h : ℕ} {l : List ℕ} → CutList h l → 0 < length l
cuts-some bottom = omega arith
cuts-some (next lt c) = omega arith

pub cuts_last : {h : ℕ} {l : List ℕ} → CutList h l → get_or l (length l - 1) 0 ≡ 0
cuts_last bottom = refl
cuts_last (next {h} {g} {l} lt c) =
    let e : length (h ∷ l) - 1 ≡ suc (length l - 1) = omega (arith, cuts-some c) in ap (λ (k : ℕ). get_or (h ∷ l) k 0) e ∙ cuts_last c

module _ (j : Job) (ws l : List ℕ) (c : CutList (t j) l) where
  pub cell_at_lem : (k : ℕ) → suc k < length l → cell_at (stored j ws l) k ≡ stored_between j ws (get_or l k 0) (get_or l (suc k) 0)
  unfolding cell_at
  cell_at_lem k h = ap (λ (cs : List StoredCell). get_or cs k no_cell) (stored-cells j ws l c) ∙ stored_at j ws l k h

  pub cell-count : cell_count (stored j ws l) ≡ length l - 1
  unfolding cell_count
  cell-count = ap (λ (cs : List StoredCell). length cs) (stored-cells j ws l c) ∙ stored-count j ws l

  pub cell-size : (k : ℕ) → suc k < length l → size_of (cell_at (stored j ws l) k) ≡ cell_between j ws (get_or l k 0) (get_or l (suc k) 0)
  cell-size k h =
      ap size_of (cell_at_lem k h) ∙ size_between j ws (get_or l k 0) (get_or l (suc k) 0) (let e = cuts_fall c k h in omega arith)

  -- the rows before a cell, and where its rows stand
  pub rows_before_lem : (k : ℕ) → k < length l
      → rows_before (stored j ws l) k ≡ sum k (λ i. rows (cell_between j ws (get_or l i 0) (get_or l (suc i) 0)))
  unfolding rows_before
  rows_before_lem k h =
      sum_ext (λ i. rows (size_of (cell_at (stored j ws l) i))) (λ i. rows (cell_between j ws (get_or l i 0) (get_or l (suc i) 0))) k
      (λ i p. ap rows (cell-size i (omega arith)))

module _ (j : Job) (f : List ℕ) (ls : List (List ℕ)) (ws : List ℕ) where
  cells-length : (a b : ℕ) → length (cell_rows j f ls ws a b) ≡ rows (cell_between j ws a b)
  unfolding cell_rows rows cell_between
  cells-length a b = length-tab (row j f ls ws a b) (2 ^ cell_inputs j ws a b)

  cells_at : (a b i : ℕ) → i < rows (cell_between j ws a b) → get_or (cell_rows j f ls ws a b) i 0 ≡ row j f ls ws a b i
  unfolding cell_rows rows cell_between
  cells_at a b i h = get_or-tab (row j f ls ws a b) 0 (2 ^ cell_inputs j ws a b) i h

  abbrev sizes : List ℕ → ℕ → ℕ
  sizes l i = rows (cell_between j ws (get_or l i 0) (get_or l (suc i) 0))

  cascade_at : (l : List ℕ) (k i : ℕ) → suc k < length l → i < sizes l k
      → get_or (cascade_rows j f ls ws l) (sum k (sizes l) + i) 0 ≡ row j f ls ws (get_or l k 0) (get_or l (suc k) 0) i
  unfolding cascade_rows
  cascade_at [] k i h p = absurd (not-suc-le-zero h)
  cascade_at (a ∷ []) k i h p = absurd (omega arith)
  cascade_at (a ∷ b ∷ l) zero i h p =
      let e : 0 + i ≡ i = omega arith in
      ap (λ (x : ℕ). get_or (cell_rows j f ls ws a b ++ cascade_rows j f ls ws (b ∷ l)) x 0) e
      ∙ get_or-append (cell_rows j f ls ws a b) (cascade_rows j f ls ws (b ∷ l)) 0 i (rw (cells-length a b) p) ∙ cells_at a b i p
  cascade_at (a ∷ b ∷ l) (suc k) i h p =
      let e : sum (suc k) (sizes (a ∷ b ∷ l)) + i ≡ length (cell_rows j f ls ws a b) + (sum k (sizes (b ∷ l)) + i) =
      omega (arith, sum_front (sizes (a ∷ b ∷ l)) k, cells-length a b) in
      ap (λ (x : ℕ). get_or (cell_rows j f ls ws a b ++ cascade_rows j f ls ws (b ∷ l)) x 0) e
      ∙ get_or-append-add (cell_rows j f ls ws a b) (cascade_rows j f ls ws (b ∷ l)) (sum k (sizes (b ∷ l)) + i) 0
      ∙ cascade_at (b ∷ l) k i (omega arith) p

  cascade_length : (l : List ℕ) → length (cascade_rows j f ls ws l) ≡ sum (length l - 1) (sizes l)
  unfolding cascade_rows
  cascade_length [] = refl
  cascade_length (a ∷ []) = refl
  cascade_length (a ∷ b ∷ l) =
      let n : length (a ∷ b ∷ l) - 1 ≡ suc (length (b ∷ l) - 1) = omega arith in
      length-append (cell_rows j f ls ws a b) (cascade_rows j f ls ws (b ∷ l)) ∙ ap₂ (λ (x y : ℕ). x + y) (cells-length a b) (cascade_length (b ∷ l))
      ∙ sym (ap (λ (k : ℕ). sum k (sizes (a ∷ b ∷ l))) n ∙ sum_front (sizes (a ∷ b ∷ l)) (length (b ∷ l) - 1))

  pub rows_total : (l : List ℕ) → row_total (cells_of j ws l) ≡ length (cascade_rows j f ls ws l)
  unfolding row_total cells_of cascade_rows
  rows_total [] = refl
  rows_total (a ∷ []) = refl
  rows_total (a ∷ b ∷ l) =
      ap₂ (λ (x y : ℕ). x + y) (sym (cells-length a b)) (rows_total (b ∷ l))
      ∙ sym (length-append (cell_rows j f ls ws a b) (cascade_rows j f ls ws (b ∷ l)))

  module _ (l : List ℕ) (c : CutList (t j) l) where
    pub rows_at : (k i : ℕ) → suc k < length l → i < rows (cell_between j ws (get_or l k 0) (get_or l (suc k) 0))
        → get_or (cascade_rows j f ls ws l) (rows_before (stored j ws l) k + i) 0 ≡ row j f ls ws (get_or l k 0) (get_or l (suc k) 0) i
    rows_at k i h p =
        ap (λ (x : ℕ). get_or (cascade_rows j f ls ws l) (x + i) 0) (rows_before_lem j ws l c k (omega arith)) ∙ cascade_at l k i h p

    pub rows-length : length (cascade_rows j f ls ws l) ≡ row_count (stored j ws l)
    unfolding row_count
    rows-length =
        cascade_length l ∙ sym (ap (rows_before (stored j ws l)) (cell-count j ws l c) ∙ rows_before_lem j ws l c (length l - 1) (omega (arith, cuts-some c)))

pub length-stored : (j : Job) (ws l : List ℕ) → length (stored j ws l) ≡ 4 * t j
unfolding stored
length-stored j ws l = omega (arith, stored-length j ws l (t j))
