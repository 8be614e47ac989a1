-- The trace of a list of calls as a loop writes it, 68 bytes a call, one call after another; and a call's 68 bytes from the bank and the
-- scan state after it.
-- Assumes nothing.
use mathlib.Core.Path.{◌≡◌, refl, sym, ◌∙◌, ap, ap₂}
use mathlib.Core.Bool.{cond}
use mathlib.Core.List.{List, [], ◌∷◌}
use Prim.Native.Nat.{ℕ, suc, ◌+◌, ◌*◌, ◌/◌, ◌%◌, ◌<◌, ◌≤◌}
use native.Mathlib.Nat.{mod-lt, div-add-mod'}
use native.Mathlib.Omega.{arith}
use lib.Dec.{ltb}
use lib.ListN.{length, get_or, set, drop, get_or-eq_default}
use lib.Seq.{get_or-take, get_or-drop, sets}
use borrow.Author.Tests.{lt-ltb, le-ltb}
use Rattle.laws.specs.Lists.{tab, written, puts_at}
use Rattle.laws.proofs.Cases.{by_less, cond_yes, cond_no}
use Rattle.laws.proofs.Lists.{get_or_default, length-tab, get_or-tab, tab_ext}
use Rattle.laws.proofs.Filled.{length-written, written_none, written_next, written-sets}
use Rattle.laws.proofs.Puts.{puts_at-sets}
use Rattle.bank_spec.specs.declared.Bank.{Bank}
use Rattle.bank_spec.specs.declared.Scan.{Scan}
use Rattle.bank_spec.specs.State.{State, fresh, state_of}
use Rattle.bank_spec.specs.Calls.{Answer, After, outputs_of}
use Rattle.bank_spec.specs.CallLists.{Entry, outputs_held}
use Rattle.replay.specs.Coded.{Coded}
use Rattle.replay.specs.Entries.{no_bank, book_entries, on_bank, bank_after, kind_of, first_of, second_of, entry_bytes, trace_bytes}
use Rattle.replay.proofs.BookTraces.{entry_of, bank_entries, entries_same}

-- the row memory and the memory for the trace
pub record Ran : Type 0 where
  pub rows : List ℕ
  pub trace : List ℕ

-- calls made from a state on, each of which writes its bytes after those of the last; those of the first stand at place at
unfoldable pub ran : State → List Coded → ℕ → List ℕ → Ran
ran s [] at tr = record { rows = s.rows; trace = tr }
ran s (c ∷ cs) at tr = let r = on_bank s c in ran r.state cs (at + 68) (written tr at (entry_bytes (entry_of r)))

pub entry_length : (e : Entry) → length (entry_bytes e) ≡ 68
unfolding entry_bytes
entry_length e = ap (λ (n : ℕ). suc (suc (suc (suc n)))) (length-tab (λ i. get_or (get_or e.outputs (i / 8) []) (i % 8) 2) 64)

pub ran_rows : (cs : List Coded) (s : State) (at : ℕ) (tr : List ℕ) → (ran s cs at tr).rows ≡ (bank_after s cs).rows
unfolding ran bank_after
ran_rows [] s at tr = refl
ran_rows (c ∷ cs) s at tr = ran_rows cs (on_bank s c).state (at + 68) (written tr at (entry_bytes (entry_of (on_bank s c))))

pub ran_trace : (cs : List Coded) (s : State) (at : ℕ) (tr : List ℕ) → at + 68 * length cs ≤ length tr
    → (ran s cs at tr).trace ≡ written tr at (trace_bytes (bank_entries s cs))
unfolding ran bank_entries trace_bytes
ran_trace [] s at tr h = sym (written_none tr at)
ran_trace (c ∷ cs) s at tr h =
    let r = on_bank s c in
    let es = entry_bytes (entry_of r) in
    let rest = trace_bytes (bank_entries r.state cs) in
    let n = entry_length (entry_of r) in
    let fits : at + length es ≤ length tr = omega arith in
    let size = length-written tr at es fits in
    ran_trace cs r.state (at + 68) (written tr at es) (omega arith)
    ∙ ap (λ (k : ℕ). written (written tr at es) (at + k) rest) (sym n) ∙ written_next tr at es rest fits

-- output i of 64, by the blocks held
module _ (s : State) (all : length s.scan.outputs ≡ 64) where
  pub output_held : (i : ℕ) → i < 64
      → get_or (get_or (outputs_held s) (i / 8) []) (i % 8) 2 ≡ cond (ltb i (8 * s.bank.count)) (get_or s.scan.outputs i 0) 2
  unfolding outputs_held outputs_of
  output_held i h =
      let n = s.bank.count in
      let outs = s.scan.outputs in
      let place = div-add-mod' i 8 in
      let low : i % 8 < 8 = mod-lt i (omega arith) in
      by_less (i / 8) n
      (λ l.
      ap (λ (x : List ℕ). get_or x (i % 8) 2) (get_or-tab (outputs_of s.scan) [] n (i / 8) l) ∙ get_or-take 8 (drop (i / 8 * 8) outs) (i % 8) 2 low
      ∙ get_or-drop (i / 8 * 8) outs (i % 8) 2 ∙ ap (λ (k : ℕ). get_or outs k 2) place ∙ get_or_default outs i 2 0 (omega arith)
      ∙ sym (cond_yes (ltb i (8 * n)) _ _ (lt-ltb i (8 * n) (omega arith))))
      (λ l.
      ap (λ (x : List ℕ). get_or x (i % 8) 2)
      (get_or-eq_default (tab n (outputs_of s.scan)) [] {n = i / 8} (omega (arith, length-tab (outputs_of s.scan) n)))
      ∙ sym (cond_no (ltb i (8 * n)) _ _ (le-ltb i (8 * n) (omega arith))))

-- all the calls of a list, with no bank made before: the trace is the book's
pub ran_whole : (rows : List ℕ) (cs : List Coded) (tr : List ℕ) → 68 * length cs ≤ length tr
    → ran (fresh 0 rows) cs 0 tr
    ≡ record { rows = (bank_after (fresh 0 rows) cs).rows; trace = written tr 0 (trace_bytes (book_entries (length rows) no_bank cs)) }
ran_whole rows cs tr h =
    ap₂ (λ (a b : List ℕ). record { rows = a; trace = b }) (ran_rows cs (fresh 0 rows) 0 tr)
    (ran_trace cs (fresh 0 rows) 0 tr (omega arith) ∙ ap (λ (es : List Entry). written tr 0 (trace_bytes es)) (entries_same rows cs))

-- the 68 bytes of an answer, and of bank and scan state after it
abbrev pub call_bytes : Answer → Bank → Scan → List ℕ
call_bytes a k s =
    kind_of a ∷ first_of a ∷ second_of a ∷ k.count ∷ tab 64 (λ i. cond (ltb i (8 * k.count)) (get_or s.outputs i 0) 2)

-- stored one after another
pub entry-stored : (l : List ℕ) (at a x y n : ℕ) (f : ℕ → ℕ) → at + 68 ≤ length l
    → puts_at (at + 4) 64 f (set (set (set (set l at a) (at + 1) x) (at + 2) y) (at + 3) n) ≡ written l at (a ∷ x ∷ y ∷ n ∷ tab 64 f)
entry-stored l at a x y n f h =
    let one : at + 1 ≡ suc at = omega arith in
    let two : at + 2 ≡ suc (suc at) = omega arith in
    let three : at + 3 ≡ suc (suc (suc at)) = omega arith in
    let four : at + 4 ≡ suc (suc (suc (suc at))) = omega arith in
    let fits : at + length (a ∷ x ∷ y ∷ n ∷ tab 64 f) ≤ length l = omega (arith, length-tab f 64) in
    puts_at-sets f (at + 4) 64 (set (set (set (set l at a) (at + 1) x) (at + 2) y) (at + 3) n)
    ∙ ap₂ (λ (i j : ℕ). sets (set (set (set (set l at a) i x) j y) (at + 3) n) (at + 4) (tab 64 f)) one two
    ∙ ap₂ (λ (i j : ℕ). sets (set (set (set (set l at a) (suc at) x) (suc (suc at)) y) i n) j (tab 64 f)) three four
    ∙ sym (written-sets l at (a ∷ x ∷ y ∷ n ∷ tab 64 f) fits)

-- a call from its answer and what is left
module _ (st : State) (c : Coded) (a : Answer) (k : Bank) (s : Scan) (rows : List ℕ) (e : record { answer = a; state = state_of k s rows } ≡ on_bank st c) where
  entry-given : length s.outputs ≡ 64 → entry_bytes (entry_of (on_bank st c)) ≡ call_bytes a k s
  unfolding entry_bytes outputs_held
  entry-given all =
      let held : State = state_of k s rows in
      ap (λ (z : After State). entry_bytes (entry_of z)) (sym e)
      ∙ ap₂ (λ (n : ℕ) (os : List ℕ). kind_of a ∷ first_of a ∷ second_of a ∷ n ∷ os) (length-tab (outputs_of s) k.count)
      (tab_ext (λ i. get_or (get_or (outputs_held held) (i / 8) []) (i % 8) 2) (λ i. cond (ltb i (8 * k.count)) (get_or s.outputs i 0) 2) 64 (output_held held all))

  -- the rest of the calls goes on after its bytes
  pub ran_more : length s.outputs ≡ 64 → (cs : List Coded) (at : ℕ) (tr : List ℕ)
      → ran st (c ∷ cs) at tr ≡ ran (state_of k s rows) cs (at + 68) (written tr at (call_bytes a k s))
  unfolding ran
  ran_more all cs at tr =
      ap₂ (λ (z : State) (b : List ℕ). ran z cs (at + 68) (written tr at b)) (ap (λ (z : After State). z.state) (sym e)) (entry-given all)
