-- What holds of every book that a list of calls leaves: its blocks are few, well formed and in every scan within the limit, and each has read some
-- of its cells for its word.
-- Assumes nothing.
use mathlib.Core.Path.{◌≡◌, sym, ◌∙◌, ap, ap₂, subst}
use mathlib.Core.Logic.{◌⊎◌}
use mathlib.Core.Bool.{true}
use mathlib.Core.List.{List, [], ◌∷◌}
use Prim.Native.Nat.{ℕ, zero, suc, ◌+◌, ◌<◌, ◌≤◌}
use native.Mathlib.Nat.{not-suc-le-zero, mod-lt}
use native.Mathlib.Omega.{arith}
use lib.Dec.{eqb}
use lib.ListN.{length, get_or, replicate}
use borrow.Author.Tests.{eqb-true}
use Rattle.laws.proofs.Cases.{cond-each, cond_yes}
use Rattle.sheet_spec.specs.Job.{Job}
use Rattle.stored_spec.specs.StoredForm.{well_formed, cell_count}
use Rattle.stored_spec.specs.Run.{run}
use Rattle.bank_spec.specs.Due.{timed, number_after}
use Rattle.bank_spec.specs.Calls.{Handed}
use Rattle.bank_spec.specs.Book.{Block, Book, new_book, block_at, is_due, cells_in, book_refusal, wiped, entered, book_admit, book_latch, book_step}
use Rattle.bank_spec.specs.CallLists.{Call, admission, latching, stepping, book_call, book_after}
use Rattle.bank_spec.specs.Demand3.{CompiledBy, SetAllowed}
use Rattle.bank_spec.specs.Scanned.{last_cells}
use Rattle.bank_spec.proofs.CallLists.{steps_after}
use Rattle.bank_spec.proofs.Scans.{read_in, stepped}
use Rattle.bank_spec.proofs.LatchKeeps.{Kept, kept-cells, latch-kept, stepped_kept, stepped_next, scanned_at}
use Rattle.bank_spec.proofs.Entered.{admits, entered-length, entered-each, entered-cells}
use Rattle.bank_spec.proofs.LastCells.{last_cells_lem}
use Rattle.bank_spec.proofs.CompiledBlocks.{compiled_part}

pub record Sound (S : ℕ) (k : Book) : Type 0 where
  pub limit : (n : ℕ) → n < 8 → cells_in n k.blocks ≤ S
  pub few : length k.blocks ≤ 8
  pub next : k.next < 8
  pub formed : (b : ℕ) → b < length k.blocks → well_formed (block_at k.blocks b).records (block_at k.blocks b).rows ≡ true
  pub timing : (b : ℕ) → b < length k.blocks → timed (block_at k.blocks b).period (block_at k.blocks b).phase ≡ true

-- a call that keeps the blocks but for their words and outputs
sound_kept : (S : ℕ) (k l : Book) → Kept l.blocks k.blocks → Sound S k → l.next < 8 → Sound S l
sound_kept S k l kept h next =
    record {
      limit = λ n p. omega (arith, kept-cells l.blocks k.blocks kept n, h.limit n p);
      few = omega (arith, kept.long, h.few);
      next = next;
      formed = λ b p. ap₂ well_formed (kept.records b) (kept.rows b) ∙ h.formed b (omega (arith, p, kept.long));
      timing = λ b p. ap₂ timed (kept.period b) (kept.phase b) ∙ h.timing b (omega (arith, p, kept.long));
    }

latch_sound : (S : ℕ) (k : Book) (ws : List ℕ) → Sound S k → Sound S (book_latch k ws).state
unfolding book_latch number_after
latch_sound S k ws h = sound_kept S k (book_latch k ws).state (latch-kept k ws) h (mod-lt (k.next + 1) (omega arith))

step_sound : (S : ℕ) (k : Book) → Sound S k → Sound S (book_step k).state
unfolding stepped
step_sound S k h = sound_kept S k (book_step k).state (stepped_kept (suc zero) k) h (omega (arith, stepped_next (suc zero) k, h.next))

entered-next : (k : Book) (h : Handed) → (entered k h).next < 8
unfolding entered
entered-next k h = omega arith

entered_sound : (S m : ℕ) (k : Book) (h : Handed) → Sound S k → book_refusal S m k.blocks h ≡ 0 → Sound S (entered k h)
unfolding wiped
entered_sound S m k h held e =
    let fine = admits S m k.blocks h e in
    record {
      limit = λ n l. omega (arith, entered-cells k h n, fine.cells n l);
      few = omega (arith, entered-length k h, fine.few);
      next = entered-next k h;
      formed = entered-each k h (λ (B : Block). well_formed B.records B.rows ≡ true) fine.well held.formed;
      timing = entered-each k h (λ (B : Block). timed B.period B.phase ≡ true) fine.timing held.timing;
    }

sound_call : (S m : ℕ) (k : Book) (c : Call) → Sound S k → Sound S (book_call S m k c).state
unfolding book_call book_admit
sound_call S m k (admission h) held =
    cond-each (Sound S) (eqb (book_refusal S m k.blocks h) 0)
    (λ e. entered_sound S m k h held (eqb-true (book_refusal S m k.blocks h) 0 e)) (λ e. held)
sound_call S m k (latching ws) held = latch_sound S k ws held
sound_call S m k stepping held = step_sound S k held

sound_after : (S m : ℕ) (k : Book) (calls : List Call) → Sound S k → Sound S (book_after S m k calls)
unfolding book_after
sound_after S m k [] h = h
sound_after S m k (c ∷ cs) h = sound_after S m (book_call S m k c).state cs (sound_call S m k c h)

new_sound : (S : ℕ) → Sound S new_book
unfolding cells_in
new_sound S =
    record {
      limit = λ n l. omega arith;
      few = omega arith;
      next = omega arith;
      formed = λ b l. absurd (not-suc-le-zero l);
      timing = λ b l. absurd (not-suc-le-zero l);
    }

-- after a latch of the words ws and s steps a block that is due has what a run over as many of its cells as are among the first s sets
pub scan-outputs : (S m : ℕ) (k : Book) (ws : List ℕ) (s b : ℕ) → s ≤ cells_in k.next k.blocks → b < length k.blocks
    → is_due k.next (block_at k.blocks b) ≡ true
    → (block_at (book_after S m k (latching ws ∷ replicate s stepping)).blocks b).outputs
    ≡ (run (block_at k.blocks b).records (block_at k.blocks b).rows (get_or ws b 0) (read_in k.next k.blocks s b)).outputs
unfolding book_after book_call
scan-outputs S m k ws s b l h d =
    ap (λ (x : Book). (block_at x.blocks b).outputs) (steps_after S m s (book_latch k ws).state)
    ∙ ap (λ (x : Block). x.outputs)
    (scanned_at k ws s b l h ∙ cond_yes (is_due k.next (block_at k.blocks b)) _ (block_at k.blocks b) d)

module _ (S m : ℕ) (calls : List Call) where
  pub book_sound : Sound S (book_after S m new_book calls)
  book_sound = sound_after S m new_book calls (new_sound S)

  pub book_runs : (b : ℕ) → b < length (book_after S m new_book calls).blocks
      → (n : ℕ) × (n ≤ cell_count (block_at (book_after S m new_book calls).blocks b).records)
      × ((block_at (book_after S m new_book calls).blocks b).outputs
      ≡ (run (block_at (book_after S m new_book calls).blocks b).records (block_at (book_after S m new_book calls).blocks b).rows (block_at (book_after S m new_book calls).blocks b).word n).outputs)
  book_runs b l =
      let h = (last_cells_lem S m b calls).held l in
      (length (last_cells S m new_book b [] calls), omega (arith, h.within), h.outputs)

  -- each output of a compiled block is unset or set to an allowed value
  pub book-allowed : (b : ℕ) (j : Job) (sheet : List ℕ) → b < length (book_after S m new_book calls).blocks
      → CompiledBy j sheet (block_at (book_after S m new_book calls).blocks b) → (o : ℕ) → o < j.m
      → (get_or (block_at (book_after S m new_book calls).blocks b).outputs o 2 ≡ 2)
      ⊎ SetAllowed sheet (block_at (book_after S m new_book calls).blocks b).word o (get_or (block_at (book_after S m new_book calls).blocks b).outputs o 2)
  book-allowed b j sheet h c o o< =
      let B : Block = block_at (book_after S m new_book calls).blocks b in
      let (n, n≤, is) = book_runs b h in
      subst (λ (l : List ℕ). (get_or l o 2 ≡ 2) ⊎ SetAllowed sheet B.word o (get_or l o 2)) (sym is) (compiled_part j sheet B c B.word n o n≤ o<)
