-- A latch: which words and outputs are kept, where the scan begins, and what is answered.
-- Assumes nothing.
use mathlib.Core.Path.{◌≡◌, refl, sym, ◌∙◌, ap, ap₂}
use mathlib.Core.Bool.{Bool, true, false, cond, not}
use mathlib.Core.List.{List}
use Prim.Native.Nat.{ℕ, ◌%◌, ◌/◌, ◌+◌, ◌<◌, ◌≤◌}
use lib.Dec.{leb, ltb}
use lib.ListN.{get_or}
use borrow.Author.Tests.{leb-true, lt-ltb, le-ltb}
use Rattle.laws.specs.Lists.{tab}
use Rattle.laws.proofs.Cases.{cond_yes, cond_no, and_split}
use Rattle.bank_spec.specs.Due.{number_after}
use Rattle.bank_spec.specs.declared.Bank.{Bank}
use Rattle.bank_spec.specs.declared.Scan.{Scan}
use Rattle.bank_spec.specs.State.{due_at, next_due, bank_formed, scan_formed, formed, state_of}
use Rattle.bank_spec.specs.Calls.{numbered, scan_at, scan_from, keeps, words_kept, outputs_kept, latched, latch}
use Rattle.bank.specs.Given.{given_number}

-- which blocks keep word and outputs
pub keeps-held : (k : Bank) (n b : ℕ) {t : Bool} → b < k.count → t ≡ due_at k n b → not t ≡ keeps k n b
unfolding keeps
keeps-held k n b l e = rw (lt-ltb b k.count l) (ap not e)

pub keeps-none : (k : Bank) (n b : ℕ) → k.count ≤ b → false ≡ keeps k n b
unfolding keeps
keeps-none k n b l = rw (le-ltb b k.count l) refl

-- the word of a place, and an output
abbrev pub word_in : Bank → ℕ → List ℕ → List ℕ → ℕ → ℕ
word_in k n old ws b = cond (keeps k n b) (get_or old b 0) (cond (ltb b k.count) (get_or ws b 0 % 4096) 0)

abbrev pub output_in : Bank → ℕ → List ℕ → ℕ → ℕ
output_in k n old i = cond (keeps k n (i / 8)) (get_or old i 0) 2

pub words-all : (k : Bank) (n : ℕ) (old ws : List ℕ) → tab 8 (word_in k n old ws) ≡ words_kept k n old ws
unfolding words_kept
words-all k n old ws = refl

pub outputs-all : (k : Bank) (n : ℕ) (old : List ℕ) → tab 64 (output_in k n old) ≡ outputs_kept k n old
unfolding outputs_kept
outputs-all k n old = refl

-- a scan from a place on
pub from_some : (k : Bank) (n b : ℕ) (ws outs : List ℕ) {d : ℕ} → d ≡ next_due k n b → d < k.count → scan_at true d 0 0 n ws outs ≡ scan_from k n b ws outs
unfolding scan_from
from_some k n b ws outs e l = rw (← e) (sym (cond_yes _ _ _ (lt-ltb _ k.count l)))

pub from-none : (k : Bank) (n b : ℕ) (ws outs : List ℕ) {d : ℕ} → d ≡ next_due k n b → k.count ≤ d → scan_at false 0 0 0 n ws outs ≡ scan_from k n b ws outs
unfolding scan_from
from-none k n b ws outs e l = rw (← e) (sym (cond_no _ _ _ (le-ltb _ k.count l)))

pub state-number : (k : Bank) (s : Scan) → formed k s ≡ true → s.number ≤ 7
unfolding formed scan_formed
state-number k s e = leb-true s.number 7 (and_split (leb s.number 7) _ (and_split (bank_formed k) (scan_formed k s) e).1).0

pub latched_is : (k : Bank) (s : Scan) (ws : List ℕ) {t : Scan} {us outs : List ℕ} → us ≡ words_kept k ((s.number + 1) % 8) s.words ws
    → outs ≡ outputs_kept k ((s.number + 1) % 8) s.outputs → t ≡ scan_from k ((s.number + 1) % 8) 0 us outs → t ≡ latched k s ws
unfolding latched number_after
latched_is k s ws a b c = c ∙ ap₂ (scan_from k ((s.number + 1) % 8) 0) a b

module _ (k : Bank) (s : Scan) (ws : List ℕ) where
  -- accepted, and 12
  pub latch_accepts : {s' : Scan} → formed k s ≡ true → s' ≡ latched k s ws → (rows : List ℕ) → given_number 0 k s' rows ≡ latch (state_of k s rows) ws
  unfolding latch numbered
  latch_accepts e p rows = ap (λ (x : Scan). given_number 0 k x rows) p ∙ sym (cond_yes (formed k s) _ _ e)

  pub latch_12 : formed k s ≡ false → (rows : List ℕ) → given_number 12 k s rows ≡ latch (state_of k s rows) ws
  unfolding latch numbered
  latch_12 e rows = sym (cond_no (formed k s) _ _ e)
