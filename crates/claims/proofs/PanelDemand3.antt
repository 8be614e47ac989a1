-- Demand 3 reaches the functions that firmware calls: `panel_demand3`. Each exported call leaves bytes that hold the state which the definition
-- leaves, whatever the bytes held before (`exported-holds`), so a list of exported calls is the list of calls of which demand 3 speaks.
-- Assumes nothing.
use mathlib.Core.Path.{◌≡◌, refl, ◌∙◌, ap, ap₂}
use mathlib.Core.Bool.{true, false, not}
use mathlib.Core.List.{List, [], ◌∷◌}
use Prim.Native.Nat.{ℕ, ◌+◌, ◌*◌}
use lib.Dec.{eqb, ltb}
use lib.ListN.{length, get_or}
use Rattle.laws.specs.Tests.{within}
use Rattle.laws.specs.Lists.{puts}
use Rattle.laws.proofs.Cases.{by_test, cond_both}
use Rattle.laws.proofs.Lists.{length-tab}
use Rattle.laws.proofs.Puts.{length-puts, length-puts_at}
use Rattle.stored_spec.specs.RowBytes.{two_bytes, room}
use Rattle.bank_spec.specs.declared.Bank.{Bank}
use Rattle.bank_spec.specs.declared.Scan.{Scan}
use Rattle.bank_spec.specs.State.{State, formed, rows_held, empty_bank, at_rest, fresh, limit_refused, state_of}
use Rattle.bank_spec.specs.Calls.{Answer, After, numbered, Handed, admit_refusal, admitted, admit, latched, latch, step}
use Rattle.bank_spec.specs.CallLists.{Call, admission, latching, stepping, call, state_after, outputs_held, trace}
use Rattle.bank_spec.specs.Demand3.{reworded}
use Rattle.bank_spec.proofs.Promises.{Sized, call_sized, demand3}
use Rattle.panel_calls.specs.StateBytes.{pair_at, bank_in, scan_in, bank_bytes, scan_bytes, word_byte, changes, bank_lent, scan_lent, made, number_of, new_bytes, admit_bytes, latch_bytes, step_bytes}
use Rattle.claims.specs.ExportedCalls.{Lent, lent, held, Said, exported, exported_new, lent_after, SaidEntry, exported_trace, said_of, in_numbers, number, with_words}
use Rattle.claims.specs.PanelDemand3.{begun, PanelDemand3}
use Rattle.claims.proofs.StateBytes.{bank_again, scan_again, words_replaced}

-- bytes of a bank and of a scan state, all of them
pub record Whole (b : Lent) : Type 0 where
  pub bank : length b.bank ≡ 667
  pub scan : length b.scan ≡ 86

sized_held : (b : Lent) → Sized (held b)
unfolding bank_in scan_in
sized_held b =
    record {
      lengths = length-tab (λ i. get_or b.bank (3 + i) 0) 8;
      records = length-tab (λ i. get_or b.bank (11 + i) 0) 640;
      periods = length-tab (λ i. get_or b.bank (651 + i) 0) 8;
      phases = length-tab (λ i. get_or b.bank (659 + i) 0) 8;
      words = length-tab (λ i. pair_at b.scan (5 + 2 * i)) 8;
      outputs = length-tab (λ i. get_or b.scan (21 + i) 0) 64;
    }

-- what a call leaves keeps the lengths
bank-long : (r : After State) (old : List ℕ) → length (bank_lent r old) ≡ length old
unfolding bank_lent
bank-long r old =
    cond_both (λ (l : List ℕ). length l ≡ length old) (changes r.answer) (length-puts (λ i. get_or (bank_bytes r.state.bank) i 0) 667 old) refl

scan-long : (r : After State) (old : List ℕ) → length (scan_lent r old) ≡ length old
unfolding scan_lent
scan-long r old =
    cond_both (λ (l : List ℕ). length l ≡ length old) (changes r.answer) (length-puts (λ i. get_or (scan_bytes r.state.scan) i 0) 86 old) refl

module _ (b : Lent) (w : Whole b) where
  whole-after : (c : Call) → Whole (exported b c).after
  unfolding exported admit_bytes latch_bytes step_bytes
  whole-after (admission h) =
      let r = admit (held b) h in
      record { bank = bank-long r b.bank ∙ w.bank; scan = scan-long r b.scan ∙ w.scan }
  whole-after (latching ws) = record { bank = w.bank; scan = scan-long (latch (state_of (bank_in b.bank) (scan_in b.scan) []) ws) b.scan ∙ w.scan }
  whole-after stepping = record { bank = w.bank; scan = scan-long (step (held b)) b.scan ∙ w.scan }

  -- the bank and the scan state of a result, stored over the bytes
  bank-stored : (k : Bank) → length k.lengths ≡ 8 → length k.records ≡ 640 → length k.periods ≡ 8 → length k.phases ≡ 8
      → bank_in (puts 667 (λ i. get_or (bank_bytes k) i 0) b.bank) ≡ k
  bank-stored k p q u v = bank_again k b.bank w.bank p q u v

  scan-stored : (s : Scan) → length s.words ≡ 8 → length s.outputs ≡ 64 → scan_in (puts 86 (λ i. get_or (scan_bytes s) i 0) b.scan) ≡ s
  scan-stored s p q = scan_again s b.scan w.scan p q

  -- admission
  abbrev Admits : After State → Type 0
  Admits r = Sized r.state → held (lent (bank_lent r b.bank) (scan_lent r b.scan) r.state.rows) ≡ r.state

  admit-holds : (h : Handed) → Admits (admit (held b) h)
  unfolding admit numbered bank_lent scan_lent changes
  admit-holds h =
      by_test (eqb (admit_refusal (held b) h) 0)
      (λ e.
      rw e
      (λ z.
      ap₂ (λ (k : Bank) (s : Scan). state_of k s (admitted (held b) h).rows)
      (bank-stored (admitted (held b) h).bank z.lengths z.records z.periods z.phases)
      (scan-stored (admitted (held b) h).scan z.words z.outputs)))
      (λ e. rw e (λ z. refl))

  -- a latch keeps the bank and the rows, and does not look at the rows
  latch-holds : (ws : List ℕ) → Sized (latch (held b) ws).state
      → held (lent b.bank (scan_lent (latch (state_of (bank_in b.bank) (scan_in b.scan) []) ws) b.scan) b.rows) ≡ (latch (held b) ws).state
  unfolding latch scan_lent changes
  latch-holds ws =
      by_test (formed (bank_in b.bank) (scan_in b.scan))
      (λ e.
      rw e
      (λ z.
      ap (λ (s : Scan). state_of (bank_in b.bank) s b.rows) (scan-stored (latched (bank_in b.bank) (scan_in b.scan) ws) z.words z.outputs)))
      (λ e. rw e (λ z. refl))

  latch-said : (ws : List ℕ) → (latch (state_of (bank_in b.bank) (scan_in b.scan) []) ws).answer ≡ (latch (held b) ws).answer
  unfolding latch
  latch-said ws = by_test (formed (bank_in b.bank) (scan_in b.scan)) (λ e. rw e refl) (λ e. rw e refl)

  -- a step keeps the bank and the rows
  abbrev Steps : After State → Type 0
  Steps r = Sized r.state → held (lent b.bank (scan_lent r b.scan) b.rows) ≡ r.state

  step-holds : Steps (step (held b))
  unfolding step scan_lent changes
  step-holds =
      cond_both Steps (not (formed (bank_in b.bank) (scan_in b.scan))) (λ z. refl)
      (cond_both Steps (not (scan_in b.scan).running) (λ z. refl)
      (cond_both Steps (ltb (length b.rows) (room two_bytes (rows_held (bank_in b.bank)))) (λ z. refl)
      (λ z. ap (λ (s : Scan). state_of (bank_in b.bank) s b.rows) (scan-stored _ z.words z.outputs))))

  -- the bytes that a call leaves hold the state that the definition leaves, for any bytes
  pub exported-holds : (c : Call) → held (exported b c).after ≡ (call (held b) c).state
  unfolding exported admit_bytes latch_bytes step_bytes call
  exported-holds (admission h) = admit-holds h (call_sized (held b) (sized_held b) (admission h))
  exported-holds (latching ws) = latch-holds ws (call_sized (held b) (sized_held b) (latching ws))
  exported-holds stepping = step-holds (call_sized (held b) (sized_held b) stepping)

  -- and the numbers that it answers are those of the definition's answer
  pub exported-said : (c : Call) → (exported b c).said ≡ said_of c (call (held b) c).answer
  unfolding exported admit_bytes latch_bytes step_bytes call said_of
  exported-said (admission h) = refl
  exported-said (latching ws) = ap (λ (a : Answer). number (number_of a)) (latch-said ws)
  exported-said stepping = refl

-- whole lists
pub list_holds : (cs : List Call) (b : Lent) → Whole b → held (lent_after b cs) ≡ state_after (held b) cs
unfolding lent_after state_after
list_holds [] b w = refl
list_holds (c ∷ cs) b w =
    list_holds cs (exported b c).after (whole-after b w c) ∙ ap (λ (s : State). state_after s cs) (exported-holds b w c)

list_whole : (cs : List Call) (b : Lent) → Whole b → Whole (lent_after b cs)
unfolding lent_after
list_whole [] b w = w
list_whole (c ∷ cs) b w = list_whole cs (exported b c).after (whole-after b w c)

pub list_said : (cs : List Call) (b : Lent) → Whole b → exported_trace b cs ≡ in_numbers cs (trace (held b) cs)
unfolding exported_trace in_numbers trace
list_said [] b w = refl
list_said (c ∷ cs) b w =
    let s = exported-holds b w c in
    ap₂ (λ (e : SaidEntry) (es : List SaidEntry). e ∷ es)
    (ap₂ (λ (a : Said) (k : State). record { said = a; outputs = outputs_held k }) (exported-said b w c) s)
    (list_said cs (exported b c).after (whole-after b w c) ∙ ap (λ (k : State). in_numbers cs (trace k cs)) s)

-- other words in the bytes
module _ (b : Lent) (w : Whole b) (vs : List ℕ) (eight : length vs ≡ 8) where
  replaced_whole : Whole (with_words b vs)
  replaced_whole = record { bank = w.bank; scan = length-puts_at (word_byte vs) 5 16 b.scan ∙ w.scan }

  replaced_holds : held (with_words b vs) ≡ reworded (held b) vs
  replaced_holds = ap (λ (s : Scan). state_of (bank_in b.bank) s b.rows) (words_replaced vs b.scan w.scan eight)

-- a bank just made, in any bytes
module _ (S : ℕ) (range : within 1 255 S ≡ true) (bank scan rows : List ℕ) (bank-size : length bank ≡ 667) (scan-size : length scan ≡ 86) where
  in_range : limit_refused S ≡ false
  unfolding limit_refused
  in_range = ap not range

  begun-whole : Whole (begun S bank scan rows)
  unfolding exported_new new_bytes
  begun-whole = record { bank = bank-long (made S) bank ∙ bank-size; scan = scan-long (made S) scan ∙ scan-size }

  begun-said : (exported_new S (lent bank scan rows)).said ≡ number 0
  unfolding exported_new new_bytes made number_of
  begun-said = rw in_range refl

  begun-holds : held (begun S bank scan rows) ≡ fresh S rows
  unfolding exported_new new_bytes made bank_lent scan_lent changes
  begun-holds =
      rw in_range
      (ap₂ (λ (k : Bank) (s : Scan). state_of k s rows) (bank_again (empty_bank S) bank bank-size refl refl refl refl) (scan_again at_rest scan scan-size refl refl))

  pub panel_demand3 : (calls : List Call) → PanelDemand3 S bank scan rows calls
  panel_demand3 calls =
      let d = demand3 S range rows calls in
      record {
        made = begun-said;
        as_book =
            list_said calls (begun S bank scan rows) begun-whole ∙ ap (λ (k : State). in_numbers calls (trace k calls)) begun-holds
            ∙ ap (in_numbers calls) d.as_book;
        holds = λ cs. list_holds cs (begun S bank scan rows) begun-whole ∙ ap (λ (k : State). state_after k cs) begun-holds;
        holds_replaced =
            λ cs vs eight ds.
            let b = lent_after (begun S bank scan rows) cs in
            let w = list_whole cs (begun S bank scan rows) begun-whole in
            let same = list_holds cs (begun S bank scan rows) begun-whole ∙ ap (λ (k : State). state_after k cs) begun-holds in
            list_holds ds (with_words b vs) (replaced_whole b w vs eight)
            ∙ ap (λ (k : State). state_after k ds) (replaced_holds b w vs eight ∙ ap (λ (k : State). reworded k vs) same);
        whole = d;
      }
