-- The lists of a bank and a scan state keep their lengths under every call.
-- Assumes nothing.
use mathlib.Core.Path.{◌≡◌, refl, ◌∙◌}
use mathlib.Core.Bool.{true, cond, not, ◌&&◌}
use mathlib.Core.List.{List}
use Prim.Native.Nat.{ℕ, ◌+◌, ◌*◌, ◌/◌, ◌%◌, ◌<◌, ◌≤◌}
use native.Mathlib.Omega.{arith}
use borrow.Author.Tests.{eqb-true, leb-true, leb-false, ltb-true, not-false}
use lib.Dec.{eqb, leb, ltb}
use lib.ListN.{length, get_or, length-set, length-take, length-drop}
use Rattle.laws.specs.Tests.{every, within}
use Rattle.laws.specs.Lists.{written}
use Rattle.laws.proofs.Cases.{and_split, cond-each, cond_both, cond-zero}
use Rattle.laws.proofs.Lists.{length-tab}
use Rattle.laws.proofs.Filled.{length-written}
use Rattle.stored_spec.specs.RowBytes.{two_bytes, room}
use Rattle.stored_spec.specs.StoredForm.{well_formed, cell_count, cell_at}
use Rattle.stored_spec.specs.Run.{outputs_after}
use Rattle.stored_spec.proofs.Promises.{records_have, formed-records, set-length}
use Rattle.bank_spec.specs.Due.{timed, number_after}
use Rattle.bank_spec.specs.State.{State, Bank, Scan, records_of, due_at, next_due, cells_held, rows_held, block_formed, bank_formed, scan_formed, formed}
use Rattle.bank_spec.specs.Calls.{After, Handed, admit_refusal, with_block, admitted, admit, scan_from, keeps, words_kept, outputs_kept, latched, latch, next_row, outputs_of, moved, step}
use Rattle.bank_spec.specs.CallLists.{Call, admission, latching, stepping, call}

pub record Sized (s : State) : Type 0 where
  pub lengths : length s.bank.lengths ≡ 8
  pub records : length s.bank.records ≡ 640
  pub periods : length s.bank.periods ≡ 8
  pub phases : length s.bank.phases ≡ 8
  pub words : length s.scan.words ≡ 8
  pub outputs : length s.scan.outputs ≡ 64

-- a formed state holds at most eight blocks, and with reads left the next is of one held
few-blocks : (k : Bank) (s : Scan) → formed k s ≡ true → k.count ≤ 8
unfolding formed bank_formed
few-blocks k s e =
    let a = (and_split (bank_formed k) (scan_formed k s) e).0 in
    let b = (and_split _ (leb (rows_held k) 32768) a).0 in
    let c = (and_split _ (every 8 (λ n. leb (cells_held k n) k.limit)) b).0 in
    let d = (and_split _ (every k.count (block_formed k)) c).0 in
    leb-true k.count 8 (and_split (within 1 255 k.limit) (leb k.count 8) d).1

next-held : (k : Bank) (s : Scan) → formed k s ≡ true → s.running ≡ true → s.block < k.count
unfolding formed scan_formed
next-held k s e run =
    let a = (and_split (leb s.number 7) _ (and_split (bank_formed k) (scan_formed k s) e).1).1 in
    let b = ltb s.block k.count in
    let c = due_at k s.number s.block in
    let d = ltb s.cell (cell_count (records_of k s.block)) in
    let whole = rw run at a in
    ltb-true s.block k.count (and_split b c (and_split (b && c) d (and_split (b && c && d) _ whole).0).0).0

module _ (s : State) (h : Sized s) where
  admitted_sized : (c : Handed) → admit_refusal s c ≡ 0 → Sized (admitted s c)
  unfolding admit_refusal admitted with_block
  admitted_sized c e =
      let R = c.records in
      let ok = formed s.bank s.scan in
      let a = cond-zero (not (ok && well_formed R c.rows)) 11 _ e in
      let t = cond-zero (not (timed c.period c.phase)) 15 _ a.1 in
      let b = cond-zero (leb 8 s.bank.count) 12 _ t.1 in
      let have = records_have two_bytes R (formed-records R c.rows (and_split ok (well_formed R c.rows) (not-false (ok && well_formed R c.rows) a.0)).1) in
      let few = leb-false 8 s.bank.count b.0 in
      let fits : s.bank.count * 80 + length R ≤ length s.bank.records = omega (arith, h.records, have.whole, have.few) in
      record {
        lengths = length-set s.bank.lengths s.bank.count (length R / 4) ∙ h.lengths;
        records = length-written s.bank.records (s.bank.count * 80) R fits ∙ h.records;
        periods = length-set s.bank.periods s.bank.count c.period ∙ h.periods;
        phases = length-set s.bank.phases s.bank.count c.phase ∙ h.phases;
        words = refl;
        outputs = refl;
      }

  admit_sized : (c : Handed) → Sized (admit s c).state
  unfolding admit
  admit_sized c = cond-each Sized (eqb (admit_refusal s c) 0) (λ e. admitted_sized c (eqb-true (admit_refusal s c) 0 e)) (λ e. h)

  -- a scan that goes on from place b, with words and outputs of these lengths
  from_sized : (n b : ℕ) (ws outs : List ℕ) → length ws ≡ 8 → length outs ≡ 64
      → Sized (record { bank = s.bank; scan = scan_from s.bank n b ws outs; rows = s.rows })
  unfolding scan_from
  from_sized n b ws outs w o =
      let P : Scan → Type 0 = λ t. (length t.words ≡ 8) × (length t.outputs ≡ 64) in
      let both = cond_both P (ltb (next_due s.bank n b) s.bank.count) (w, o) (w, o) in
      record { lengths = h.lengths; records = h.records; periods = h.periods; phases = h.phases; words = both.0; outputs = both.1 }

  latch_sized : (ws : List ℕ) → Sized (latch s ws).state
  unfolding latch latched words_kept outputs_kept
  latch_sized ws =
      let n = number_after s.scan.number in
      cond_both (λ (r : After State). Sized r.state) (formed s.bank s.scan)
      (from_sized n 0 (words_kept s.bank n s.scan.words ws) (outputs_kept s.bank n s.scan.outputs)
      (length-tab (λ b. cond (keeps s.bank n b) (get_or s.scan.words b 0) (cond (ltb b s.bank.count) (get_or ws b 0 % 4096) 0)) 8)
      (length-tab (λ i. cond (keeps s.bank n (i / 8)) (get_or s.scan.outputs i 0) 2) 64))
      h

  -- the outputs after a read
  abbrev written-outputs : ℕ → List ℕ
  written-outputs x =
      written s.scan.outputs (s.scan.block * 8)
      (outputs_after (cell_at (records_of s.bank s.scan.block) s.scan.cell) (outputs_of s.scan s.scan.block) x)

  outputs_sized : (x : ℕ) → s.scan.block < 8 → length (written-outputs x) ≡ 64
  unfolding outputs_after outputs_of
  outputs_sized x l =
      let c = cell_at (records_of s.bank s.scan.block) s.scan.cell in
      let own = outputs_of s.scan s.scan.block in
      let eight : length own ≡ 8 = simp (length-take, length-drop) (omega (arith, h.outputs)) in
      let new : length (outputs_after c own x) ≡ 8 = set-length own c.outs _ ∙ eight in
      length-written s.scan.outputs (s.scan.block * 8) (outputs_after c own x) (omega (arith, h.outputs, new)) ∙ h.outputs

  moved_sized : (x : ℕ) → s.scan.block < 8 → Sized (record { bank = s.bank; scan = moved s.bank s.scan x; rows = s.rows })
  unfolding moved
  moved_sized x l =
      let R = records_of s.bank s.scan.block in
      let outs = outputs_sized x l in
      let P : Scan → Type 0 = λ t. Sized (record { bank = s.bank; scan = t; rows = s.rows }) in
      cond_both P (ltb (s.scan.cell + 1) (cell_count R))
      (record { lengths = h.lengths; records = h.records; periods = h.periods; phases = h.phases; words = h.words; outputs = outs })
      (from_sized s.scan.number (s.scan.block + 1) s.scan.words _ h.words outs)

  step_sized : Sized (step s).state
  unfolding step
  step_sized =
      let k = s.bank in
      let t = s.scan in
      cond-each (λ (r : After State). Sized r.state) (not (formed k t)) (λ e. h)
      (λ e.
      cond-each (λ (r : After State). Sized r.state) (not t.running) (λ f. h)
      (λ f.
      cond_both (λ (r : After State). Sized r.state) (ltb (length s.rows) (room two_bytes (rows_held k))) h
      (let good = not-false (formed k t) e in
      let run = not-false t.running f in
      moved_sized (next_row k t s.rows) (omega (arith, few-blocks k t good, next-held k t good run)))))

pub call_sized : (s : State) → Sized s → (c : Call) → Sized (call s c).state
unfolding call
call_sized s h (admission c) = admit_sized s h c
call_sized s h (latching ws) = latch_sized s h ws
call_sized s h stepping = step_sized s h
