-- The next read of a formed bank and scan state: its block, cell and rail word are held, so the code finds its row, rails and outputs.
-- Assumes nothing.
use mathlib.Core.Path.{◌≡◌, sym, ◌∙◌, ap, ap₂}
use mathlib.Core.Bool.{Bool, true, not, ◌&&◌, ◌||◌}
use mathlib.Core.List.{List, ◌++◌, append_assoc}
use Prim.Native.Nat.{ℕ, ◌+◌, ◌-◌, ◌*◌, ◌^◌, ◌≤◌, ◌<◌}
use native.Mathlib.Omega.{arith}
use borrow.Author.Tests.{ltb-true}
use borrow.Rule.Slice.PartMut.{mid_of, put_mid}
use lib.Dec.{leb, ltb}
use lib.ListN.{length, get_or, take, drop}
use lib.Seq.{drop-drop}
use Rattle.laws.specs.Lists.{written}
use Rattle.laws.proofs.Cases.{and_split, and_join}
use Rattle.laws.proofs.Counts.{sum_at}
use Rattle.stored_spec.specs.StoredForm.{cell_count, cell_at, row_count}
use Rattle.stored_spec.specs.Run.{row_place, outputs_after}
use Rattle.stored_spec.proofs.Promises.{row_within}
use Rattle.stored.specs.Reads.{has_cell, cell_rails, row_read, outputs_read}
use Rattle.stored.specs.declared.CellRails.{CellRails}
use Rattle.stored.proofs.Promises.{rows_told, rails-told, rows_told_lem, few-outs, some-rails, some-row, some-outputs}
use Rattle.bank_spec.specs.declared.Bank.{Bank}
use Rattle.bank_spec.specs.declared.Scan.{Scan}
use Rattle.bank_spec.specs.State.{records_of, due_at, rows_before, rows_held, block_formed, bank_formed, scan_formed, formed}
use Rattle.bank.proofs.formed.HeldBlocks.{BankHas, bank-has, records_well, cells_at_most}

-- eight elements put back in a list
put_eight : (a : ℕ) (l vs : List ℕ) → length vs ≡ 8 → put_mid a (a + 8 - a) l vs ≡ written l a vs
put_eight a l vs e =
    let k : a + (a + 8 - a) ≡ a + length vs = omega arith in
    ap (λ (r : List ℕ). take a l ++ (vs ++ r)) (drop-drop (a + 8 - a) a l ∙ ap (λ (i : ℕ). drop i l) k)
    ∙ sym (append_assoc (take a l) vs (drop (a + length vs) l))

module _ (k : Bank) (s : Scan) (e : formed k s ≡ true) (on : s.running ≡ true) where
  abbrev records : List ℕ
  records = records_of k s.block

  abbrev is_held : Bool
  is_held =
      ltb s.block k.count && due_at k s.number s.block && ltb s.cell (cell_count records) && ltb s.rail (2 ^ (cell_at records s.cell).upper)

  both-formed : (bank_formed k ≡ true) × (scan_formed k s ≡ true)
  unfolding formed
  both-formed = and_split (bank_formed k) (scan_formed k s) e

  pub held : BankHas k
  held = bank-has k both-formed.0

  is_held_lem : is_held ≡ true
  unfolding scan_formed
  is_held_lem = sym (ap (λ (r : Bool). not r || is_held) on) ∙ (and_split (leb s.number 7) (not s.running || is_held) both-formed.1).1

  both-held : (ltb s.block k.count ≡ true) × (ltb s.cell (cell_count records) ≡ true)
  both-held =
      let c = and_split (ltb s.block k.count && due_at k s.number s.block) (ltb s.cell (cell_count records))
      (and_split (ltb s.block k.count && due_at k s.number s.block && ltb s.cell (cell_count records)) (ltb s.rail (2 ^ (cell_at records s.cell).upper)) is_held_lem).0 in
      ((and_split (ltb s.block k.count) (due_at k s.number s.block) c.0).0, c.1)

  pub block_held : s.block < k.count
  block_held = ltb-true s.block k.count both-held.0

  pub block_below : s.block < 8
  block_below = omega (arith, block_held, held.few)

  pub block-formed : block_formed k s.block ≡ true
  block-formed = held.blocks s.block block_held

  cell-held : s.cell < cell_count records
  cell-held = ltb-true s.cell (cell_count records) both-held.1

  pub cell_below : s.cell < 20
  cell_below = omega (arith, cell-held, cells_at_most k s.block block-formed)

  rail-held : s.rail < 2 ^ (cell_at records s.cell).upper
  rail-held =
      ltb-true s.rail (2 ^ (cell_at records s.cell).upper)
      (and_split (ltb s.block k.count && due_at k s.number s.block && ltb s.cell (cell_count records)) (ltb s.rail (2 ^ (cell_at records s.cell).upper)) is_held_lem).1

  cell_there : has_cell records s.cell ≡ true
  unfolding has_cell
  cell_there = and_join (records_well k s.block block-formed) both-held.1

  rows_there : rows_told records s.cell ≡ true
  rows_there = rows_told_lem records s.cell cell_there

  pub few-lower : (cell_at records s.cell).lower ≤ 16
  few-lower = omega (arith, few-outs records s.cell rows_there)

  -- the answers for the records R lent, and the cell c
  module _ {R : List ℕ} {c : ℕ} (p : R ≡ records) (q : c ≡ s.cell) where
    pub lower_is : {r : CellRails} → r ≡ cell_rails R c → r.lower ≡ (cell_at records s.cell).lower
    lower_is h =
        ap (λ (r : CellRails). r.lower) (h ∙ ap₂ cell_rails p q ∙ sym (some-rails records s.cell (rails-told records s.cell rows_there)))

    row_is : (w : ℕ) {r : ℕ} → r ≡ row_read R c s.rail w → r ≡ row_place records s.cell s.rail w
    unfolding row_place
    row_is w h =
        h ∙ ap₂ (λ (x : List ℕ) (y : ℕ). row_read x y s.rail w) p q ∙ sym (some-row records s.cell rows_there s.rail w rail-held)

    pub outputs_are : (x : ℕ) (l : List ℕ) {vs : List ℕ} → vs ≡ outputs_read R c x l → vs ≡ outputs_after (cell_at records s.cell) l x
    outputs_are x l h =
        h ∙ ap₂ (λ (a : List ℕ) (d : ℕ). outputs_read a d x l) p q ∙ sym (some-outputs records s.cell cell_there x l)

  row-held : (w : ℕ) → rows_before k s.block + row_place records s.cell s.rail w < rows_held k
  unfolding rows_before
  row-held w =
      let fits = sum_at (λ i. row_count (records_of k i)) k.count s.block block_held in
      omega (arith, row_within records s.cell s.rail w cell-held rail-held, fits)

  -- the place r of its row among those of block b, which begin at f
  module _ {b c f r : ℕ} {R : List ℕ} (p : b ≡ s.block) (q : R ≡ records_of k b) (g : c ≡ s.cell) (h : r ≡ row_read R c s.rail (get_or s.words b 0))
      (t : f ≡ rows_before k b) where
    pub place_is : f + r ≡ rows_before k s.block + row_place records s.cell s.rail (get_or s.words s.block 0)
    place_is =
        ap₂ (λ (x y : ℕ). x + y) (t ∙ ap (rows_before k) p)
        (row_is (q ∙ ap (records_of k) p) g (get_or s.words b 0) h
        ∙ ap (λ (i : ℕ). row_place records s.cell s.rail (get_or s.words i 0)) p)

    pub place_held : f + r < rows_held k
    place_held = omega (arith, place_is, row-held (get_or s.words s.block 0))

  -- the outputs of the block put back
  pub outputs_back : (x : ℕ) (outs : List ℕ) {b : ℕ} {vs : List ℕ} → b ≡ s.block → length vs ≡ b * 8 + 8 - b * 8
      → vs ≡ outputs_after (cell_at records s.cell) (mid_of (b * 8) (b * 8 + 8 - b * 8) outs) x
      → put_mid (b * 8) (b * 8 + 8 - b * 8) outs vs
      ≡ written outs (s.block * 8) (outputs_after (cell_at records s.cell) (take 8 (drop (s.block * 8) outs)) x)
  outputs_back x outs {b} {vs} p l h =
      let z : b * 8 + 8 - b * 8 ≡ 8 = omega arith in
      put_eight (b * 8) outs vs (l ∙ z)
      ∙ ap₂ (λ (i : ℕ) (v : List ℕ). written outs i v) (ap (λ (i : ℕ). i * 8) p)
      (h ∙ ap₂ (λ (m i : ℕ). outputs_after (cell_at records s.cell) (take m (drop (i * 8) outs)) x) z p)
