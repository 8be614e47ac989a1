-- A cell that a cut ends: its numbers are those of the stored cell, its rows lie within the cascade's, and what is gathered of them.
-- Assumes nothing.
use mathlib.Core.Path.{◌≡◌, sym, ◌∙◌, ap, ap₂, subst}
use mathlib.Core.Bool.{true}
use mathlib.Core.List.{List}
use Prim.Native.Nat.{ℕ, ◌+◌, ◌-◌, ◌*◌, ◌/◌, ◌^◌, ◌≤◌, ◌<◌}
use native.Mathlib.Omega.{arith}
use lib.Bits.{and_le_r}
use lib.ListN.{length}
use lib.Pow.{pow-add, pow_mono, pow_pos}
use Rattle.laws.proofs.Counts.{sum_at}
use Rattle.laws.proofs.Lists.{row_end}
use Rattle.stored_spec.specs.Cells.{rows}
use Rattle.stored_spec.specs.RowBytes.{two_bytes}
use Rattle.stored_spec.specs.StoredForm.{StoredCell, record_count, variable, cut_byte, rail_byte, with_variable, reading, cell_count, cell_at, size_of, rows_before, row_count, records_formed, well_formed}
use Rattle.stored_spec.proofs.ReadWriteCases.{formed-records, row-bytes}
use Rattle.stored_spec.proofs.RowForms.{room_two}
use Rattle.stored_spec.proofs.StoredParts.{records_have}
use Rattle.evaluation_spec.specs.RailSets.{Gathered, none_read, is_in, gathered, rail_set}
use Rattle.stored_spec.proofs.LowerRails.{inputs-few, few-lower}
use Rattle.evaluation_spec.proofs.Occurring.{outputs-few, rails-small}
use Rattle.evaluation_spec.proofs.Words.{gather_lt, gather_and}
use Rattle.evaluation.specs.Agreeing.{Within, Addresses, Small, of_set}
use Rattle.evaluation.specs.BegunCell.{Begun, ended_by, start_of, addresses_of, begun_by, begun_with}
use Rattle.evaluation.proofs.Enumeration.{mask_of, value_of, count_of}
use Rattle.evaluation.proofs.ReadCell.{OfCell, cell-gathered}
use Rattle.evaluation.proofs.SetRoom.{set-within}
use Rattle.evaluation.proofs.cells.CellRecords.{cell_is, cell_there}

module _ (R bytes : List ℕ) (known w i : ℕ) (formed : well_formed R bytes ≡ true) (within : i < record_count R) (cut : cut_byte R i ≡ 1) where
  abbrev k : ℕ
  k = ended_by R i

  abbrev C : StoredCell
  C = cell_at R k

  -- what the code holds of the cell
  pub record Ended (c : Begun) : Type 0 where
    pub from : c.from ≡ start_of R i
    pub at : c.at ≡ rows_before R (ended_by R i)
    pub upper : c.upper ≡ (cell_at R (ended_by R i)).upper
    pub ins : c.ins ≡ length (cell_at R (ended_by R i)).ins
    pub outs : c.outs ≡ length (cell_at R (ended_by R i)).outs
    pub mask : c.mask ≡ mask_of known w (cell_at R (ended_by R i)).ins
    pub value : c.value ≡ value_of known w (cell_at R (ended_by R i)).ins
    pub count : c.count ≡ count_of known w (cell_at R (ended_by R i)).ins
    pub lower : rail_byte R i ≡ (cell_at R (ended_by R i)).lower
    -- its sizes
    pub few_in : c.upper + c.ins ≤ 12
    pub few_out : c.outs + rail_byte R i ≤ 16
    pub few-low : rail_byte R i ≤ 12
    pub rows_in : c.at + 2 ^ c.upper * 2 ^ c.ins ≤ length bytes / 2
    pub rows_few : length bytes / 2 ≤ 32768

  -- the rows of each rail word of the set lie within the cascade's, and the numbers are small
  abbrev pub Readable : List ℕ → Addresses → Type 0
  Readable s p =
      ((r : ℕ) → r < 4096 → is_in s r ≡ true → p.at + r * p.block + (p.value + p.free) < length bytes / 2) × Small p × Within p.words s

  there : k < cell_count R
  there = cell_there R i within cut

  records : records_formed R ≡ true
  records = formed-records R bytes formed

  row_count_lem : length bytes / 2 ≡ row_count R
  row_count_lem = omega (arith, row-bytes R bytes formed, room_two (row_count R))

  cell-rows : rows_before R k + 2 ^ C.upper * 2 ^ length C.ins ≤ row_count R
  unfolding row_count rows_before rows size_of
  cell-rows = omega (arith, sum_at (λ j. rows (size_of (cell_at R j))) (cell_count R) k there, pow-add 2 C.upper (length C.ins))

  pub ended : (c : Begun) → c ≡ begun_with R known w i → Ended c
  unfolding begun_with begun_by
  ended c e =
      let d = cell_is R i within cut in
      let s = with_variable (reading R i) (variable R i) in
      let u : c.upper ≡ C.upper = ap (λ (x : Begun). x.upper) e ∙ sym (ap (λ (x : StoredCell). x.upper) d) in
      let n : c.ins ≡ length C.ins = ap (λ (x : Begun). x.ins) e ∙ sym (ap (λ (x : StoredCell). length x.ins) d) in
      let o : c.outs ≡ length C.outs = ap (λ (x : Begun). x.outs) e ∙ sym (ap (λ (x : StoredCell). length x.outs) d) in
      let l : rail_byte R i ≡ C.lower = sym (ap (λ (x : StoredCell). x.lower) d) in
      let a : c.at ≡ rows_before R k = ap (λ (x : Begun). x.at) e in
      record {
        from = ap (λ (x : Begun). x.from) e;
        at = a;
        upper = u;
        ins = n;
        outs = o;
        mask = ap (λ (x : Begun). x.mask) e ∙ sym (ap (λ (x : StoredCell). mask_of known w x.ins) d);
        value = ap (λ (x : Begun). x.value) e ∙ sym (ap (λ (x : StoredCell). value_of known w x.ins) d);
        count = ap (λ (x : Begun). x.count) e ∙ sym (ap (λ (x : StoredCell). count_of known w x.ins) d);
        lower = l;
        few_in = omega (arith, u, n, inputs-few R records k there);
        few_out = omega (arith, o, l, outputs-few known w R bytes records k there);
        few-low = omega (arith, l, few-lower R records k there);
        rows_in = omega (arith, a, ap₂ (λ (x y : ℕ). 2 ^ x * 2 ^ y) u n, cell-rows, row_count_lem);
        rows_few = omega (arith, row_count_lem, (records_have two_bytes R records).rows);
      }

  module _ (c : Begun) (h : Ended c) where
    pub mask_lt : c.mask < 2 ^ c.ins
    mask_lt = omega (arith, h.mask, ap (λ (x : ℕ). 2 ^ x) h.ins, gather_lt C.ins known)

    pub value-le : c.value ≤ c.mask
    value-le = omega (arith, h.mask, h.value, gather_and C.ins w known, and_le_r (mask_of w known C.ins) (mask_of known w C.ins))

    abbrev p : Addresses
    p = addresses_of c (rail_byte R i)

    of_cell : OfCell known w R bytes k (rail_set known w R bytes k) p
    unfolding addresses_of
    of_cell =
        record {
          at = h.at;
          block = ap (λ (x : ℕ). 2 ^ x) h.ins;
          mask = h.mask;
          value = h.value;
          free = ap₂ (λ (x y : ℕ). 2 ^ x - 1 - y) h.ins h.mask;
          count = h.count;
          low = ap (λ (x : ℕ). 2 ^ x - 1) h.lower;
          words = ap (λ (x : ℕ). (2 ^ x + 63) / 64) h.upper;
        }

    few-rails : (r : ℕ) → is_in (rail_set known w R bytes k) r ≡ true → r < 2 ^ C.upper
    few-rails r e = rails-small known w R bytes records k there r e

    -- the rows of the rail words of the set lie within the cascade's
    rail-within : (r : ℕ) → is_in (rail_set known w R bytes k) r ≡ true → p.at + r * p.block + (p.value + p.free) < length bytes / 2
    unfolding addresses_of
    rail-within r e =
        let l : r < 2 ^ c.upper = omega (arith, few-rails r e, ap (λ (x : ℕ). 2 ^ x) h.upper) in
        omega (arith, row_end r (2 ^ c.upper) (2 ^ c.ins) l, h.rows_in, mask_lt, value-le)

    readable : Readable (rail_set known w R bytes k) p
    unfolding addresses_of
    readable =
        let b : 2 ^ c.ins ≤ 4096 = pow_mono {j = 12} (omega (arith, h.few_in)) in
        let u : 2 ^ c.upper ≤ 4096 = pow_mono {j = 12} (omega (arith, h.few_in)) in
        let low : 2 ^ rail_byte R i ≤ 4096 = pow_mono {j = 12} h.few-low in
        let small : Small p = record {
          whole = record { inputs = c.ins; few = omega (arith, h.few_in); all = omega (arith, mask_lt) };
          at = omega (arith, h.rows_in, h.rows_few);
          block = b;
          words = omega (arith, u);
          low = omega (arith, low, pow_pos (rail_byte R i));
        } in
        (λ r l e. rail-within r e, small, subst (λ (x : ℕ). Within ((2 ^ x + 63) / 64) (rail_set known w R bytes k)) (sym h.upper) (set-within known w R bytes records k there))

    gathers : of_set bytes p (rail_set known w R bytes k) p.words none_read ≡ gathered known w R bytes k (rail_set known w R bytes k)
    gathers = cell-gathered known w R bytes k (rail_set known w R bytes k) p of_cell few-rails

    -- the same of what the code was answered, where s is the set that it carries
    module _ {s : List ℕ} (e : s ≡ rail_set known w R bytes k) {rail : ℕ} (r : rail ≡ rail_byte R i) {q : Addresses} (a : q ≡ addresses_of c rail) where
      q_is : q ≡ p
      q_is = a ∙ ap (addresses_of c) r

      pub ended-readable : Readable s q
      ended-readable = subst (λ (x : Addresses). Readable s x) (sym q_is) (subst (λ (l : List ℕ). Readable l p) (sym e) readable)

      pub ended-gathered : {g : Gathered} → g ≡ of_set bytes q s q.words none_read → g ≡ gathered known w R bytes k (rail_set known w R bytes k)
      ended-gathered f =
          f ∙ ap (λ (x : Addresses). of_set bytes x s x.words none_read) q_is ∙ ap (λ (l : List ℕ). of_set bytes p l p.words none_read) e ∙ gathers
