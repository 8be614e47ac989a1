-- A state with other words in its scan state, and a book whose due blocks have these words, read as far and set the same outputs.
-- Assumes nothing.
use mathlib.Core.Path.{◌≡◌, sym, ◌∙◌, ap, ap₂}
use mathlib.Core.Bool.{true}
use mathlib.Core.List.{List}
use Prim.Native.Nat.{ℕ, ◌+◌, ◌<◌}
use native.Mathlib.Omega.{arith}
use lib.ListN.{length, get_or, drop}
use Rattle.laws.specs.Bits.{bit}
use Rattle.laws.proofs.Counts.{sum_ext}
use Rattle.stored_spec.specs.StoredForm.{well_formed, row_count}
use Rattle.stored_spec.specs.RowBytes.{two_bytes, row_value, room}
use Rattle.bank_spec.specs.Due.{timed}
use Rattle.bank_spec.specs.State.{State}
use Rattle.bank_spec.specs.Calls.{outputs_of}
use Rattle.bank_spec.specs.Book.{Place, Book, block_at, is_due, due_cells_of}
use Rattle.bank_spec.specs.Demand3.{reworded}
use Rattle.bank_spec.proofs.Scans.{cells_above}
use Rattle.bank_spec.proofs.LatchKeeps.{Kept, kept-due, kept-due_cells, kept-places}
use Rattle.bank_spec.proofs.Related.{records_in, rows_above, SameBlock, Stands, Related}

-- z is the number of the scan
pub record Rewords (z : ℕ) (k l : Book) (vs : List ℕ) : Type 0 where
  pub next : l.next ≡ k.next
  pub kept : Kept l.blocks k.blocks
  pub left : l.to_read ≡ k.to_read
  pub outputs : (b : ℕ) → b < length k.blocks → (block_at k.blocks b).outputs ≡ (block_at l.blocks b).outputs
  pub rails : (b : ℕ) → b < length k.blocks → (block_at k.blocks b).rail ≡ (block_at l.blocks b).rail
  pub words : (b : ℕ) → b < length k.blocks → is_due z (block_at k.blocks b) ≡ true → (block_at l.blocks b).word ≡ get_or vs b 0

module _ (S m : ℕ) (s : State) (k l : Book) (vs : List ℕ) (h : Related S m s k) (r : Rewords s.scan.number k l vs) where
  same_rows : (b : ℕ) → rows_above l.blocks b ≡ rows_above k.blocks b
  same_rows b =
      sum_ext (λ i. row_count (records_in l.blocks i)) (λ i. row_count (records_in k.blocks i)) b (λ i p. ap row_count (r.kept.records i))

  same-cells : (n b : ℕ) → cells_above n l.blocks b ≡ cells_above n k.blocks b
  same-cells n b =
      sum_ext (λ i. due_cells_of n (block_at l.blocks i)) (λ i. due_cells_of n (block_at k.blocks i)) b
      (λ i p. kept-due_cells l.blocks k.blocks r.kept n i)

  same-due : (b : ℕ) → is_due s.scan.number (block_at l.blocks b) ≡ is_due s.scan.number (block_at k.blocks b)
  same-due b = kept-due l.blocks k.blocks r.kept s.scan.number b

  reworded-block : (b : ℕ) → b < length k.blocks → SameBlock (reworded s vs) l.blocks b
  unfolding outputs_of
  reworded-block b p =
      let q = h.blocks b p in
      record {
        size = q.size;
        records = q.records ∙ sym (r.kept.records b);
        period = q.period ∙ sym (r.kept.period b);
        phase = q.phase ∙ sym (r.kept.phase b);
        timing = ap₂ timed (r.kept.period b) (r.kept.phase b) ∙ q.timing;
        well = ap₂ well_formed (r.kept.records b) (r.kept.rows b) ∙ q.well;
        rows =
            λ i g.
            let g' : i < row_count (records_in k.blocks b) = rw (r.kept.records b) at g in
            ap (λ (x : ℕ). row_value two_bytes s.rows (x + i)) (same_rows b) ∙ q.rows i g'
            ∙ ap (λ (x : List ℕ). row_value two_bytes x i) (sym (r.kept.rows b));
        outputs = q.outputs ∙ r.outputs b p;
      }

  reworded_stands : s.scan.running ≡ true → Stands (reworded s vs).scan l
  reworded_stands on =
      let q = h.runs on in
      let b = s.scan.block in
      let c = s.scan.cell in
      record {
        block = omega (arith, q.block, r.kept.long);
        due_now = same-due b ∙ q.due_now;
        cell = rw (r.kept.records b) q.cell;
        to_read =
            r.left ∙ q.to_read
            ∙ ap₂ (λ (i : ℕ) (ps : List Place). drop (i + c) ps) (sym (same-cells s.scan.number b)) (sym (kept-places l.blocks k.blocks r.kept s.scan.number));
        rail = q.rail ∙ r.rails b q.block;
        small = rw (r.kept.records b) q.small;
        later =
            λ a u v e.
            let p : a < length k.blocks = omega (arith, v, r.kept.long) in
            sym (r.rails a p) ∙ q.later a u p (sym (same-due a) ∙ e);
        words = λ a u e i p. ap (λ (w : ℕ). bit w i) (sym (r.words a (omega (arith, u, r.kept.long)) (sym (same-due a) ∙ e)));
      }

  pub reworded_related : Related S m (reworded s vs) l
  reworded_related =
      record {
        limit = h.limit;
        range = h.range;
        few = omega (arith, r.kept.long, h.few);
        count = h.count ∙ sym r.kept.long;
        lengths = h.lengths;
        records = h.records;
        periods = h.periods;
        phases = h.phases;
        outputs = h.outputs;
        rows = h.rows;
        number = h.number;
        next = h.next ∙ sym r.next;
        cells =
            λ n p. omega (arith, ap (cells_above n l.blocks) r.kept.long, same-cells n (length k.blocks), h.cells n p);
        most = omega (arith, ap (rows_above l.blocks) r.kept.long, same_rows (length k.blocks), h.most);
        fits =
            omega
            (arith, ap (λ (x : ℕ). room two_bytes (rows_above l.blocks x)) r.kept.long, ap (room two_bytes) (same_rows (length k.blocks)), h.fits);
        blocks = λ b p. reworded-block b (omega (arith, p, r.kept.long));
        rests = λ e. r.left ∙ h.rests e;
        runs = λ e. reworded_stands e;
      }
