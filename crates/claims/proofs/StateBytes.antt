-- The bytes that a call stores are read back as the bank and the scan state that it left, whatever stood in them before; and bytes in which
-- the words are replaced hold the scan state with these words.
-- Assumes nothing.
use mathlib.Core.Path.{◌≡◌, refl, sym, ◌∙◌, ap, ap₂}
use mathlib.Core.Bool.{Bool, true, false, not}
use mathlib.Core.List.{List, [], ◌∷◌, ◌++◌, append_assoc, append-nil}
use Prim.Native.Nat.{ℕ, ◌+◌, ◌*◌, ◌/◌, ◌%◌, ◌<◌}
use native.Mathlib.Omega.{arith}
use lib.Dec.{eqb}
use lib.ListN.{length, get_or, length-append, get_or-append}
use lib.Seq.{get_or-append-add}
use Rattle.laws.specs.Bits.{flag}
use Rattle.laws.specs.Lists.{tab, puts, puts_at}
use Rattle.laws.proofs.Lists.{length-tab, get_or-tab, tab_ext, by_elements}
use Rattle.laws.proofs.Bits.{two_bytes_lem}
use Rattle.laws.proofs.Puts.{get_or-puts, get_or-puts_at, get_or_before_at, get_or_unput_at}
use Rattle.bank_spec.specs.declared.Bank.{Bank}
use Rattle.bank_spec.specs.declared.Scan.{Scan}
use Rattle.panel_calls.specs.StateBytes.{pair_at, bank_in, scan_in, bank_bytes, word_byte, scan_bytes}

-- a part of the bytes that is a run of numbers: those before it are h
part_at : (h rest : List ℕ) (f : ℕ → ℕ) (b n i : ℕ) → length h ≡ b → i < n → get_or (h ++ (tab n f ++ rest)) (b + i) 0 ≡ f i
part_at h rest f b n i e l =
    ap (λ (m : ℕ). get_or (h ++ (tab n f ++ rest)) (m + i) 0) (sym e) ∙ get_or-append-add h (tab n f ++ rest) i 0
    ∙ get_or-append (tab n f) rest 0 i (omega (arith, length-tab f n)) ∙ get_or-tab f 0 n i l

module _ (k : Bank) (old : List ℕ) (size : length old ≡ 667) (lengths : length k.lengths ≡ 8) (records : length k.records ≡ 640)
    (periods : length k.periods ≡ 8) (phases : length k.phases ≡ 8) where
  abbrev bytes : List ℕ
  bytes = puts 667 (λ i. get_or (bank_bytes k) i 0) old

  abbrev front : List ℕ
  front = k.limit % 256 ∷ k.limit / 256 ∷ k.count ∷ []

  abbrev A : ℕ → ℕ
  A i = get_or k.lengths i 0

  abbrev B : ℕ → ℕ
  B i = get_or k.records i 0

  abbrev C : ℕ → ℕ
  C i = get_or k.periods i 0

  abbrev D : ℕ → ℕ
  D i = get_or k.phases i 0

  at : (i : ℕ) → i < 667 → get_or bytes i 0 ≡ get_or (bank_bytes k) i 0
  at i h = get_or-puts (λ i. get_or (bank_bytes k) i 0) 667 old 0 i h (omega (arith, size))

  length_at : (i : ℕ) → i < 8 → get_or bytes (3 + i) 0 ≡ A i
  unfolding bank_bytes
  length_at i h = at (3 + i) (omega arith) ∙ part_at front (tab 640 B ++ (tab 8 C ++ tab 8 D)) A 3 8 i refl h

  record_at_lem : (i : ℕ) → i < 640 → get_or bytes (11 + i) 0 ≡ B i
  unfolding bank_bytes
  record_at_lem i h =
      at (11 + i) (omega arith)
      ∙ part_at (front ++ tab 8 A) (tab 8 C ++ tab 8 D) B 11 640 i (omega (arith, length-append front (tab 8 A), length-tab A 8)) h

  period_at : (i : ℕ) → i < 8 → get_or bytes (651 + i) 0 ≡ C i
  unfolding bank_bytes
  period_at i h =
      at (651 + i) (omega arith)
      ∙ ap (λ (l : List ℕ). get_or l (651 + i) 0) (sym (append_assoc (front ++ tab 8 A) (tab 640 B) (tab 8 C ++ tab 8 D)))
      ∙ part_at ((front ++ tab 8 A) ++ tab 640 B) (tab 8 D) C 651 8 i
      (omega (arith, length-append (front ++ tab 8 A) (tab 640 B), length-append front (tab 8 A), length-tab A 8, length-tab B 640)) h

  phase_at : (i : ℕ) → i < 8 → get_or bytes (659 + i) 0 ≡ D i
  unfolding bank_bytes
  phase_at i h =
      at (659 + i) (omega arith)
      ∙ ap (λ (l : List ℕ). get_or l (659 + i) 0)
      (sym (append_assoc (front ++ tab 8 A) (tab 640 B) (tab 8 C ++ tab 8 D)) ∙ sym (append_assoc ((front ++ tab 8 A) ++ tab 640 B) (tab 8 C) (tab 8 D))
      ∙ ap (λ (l : List ℕ). (((front ++ tab 8 A) ++ tab 640 B) ++ tab 8 C) ++ l) (sym (append-nil (tab 8 D))))
      ∙ part_at (((front ++ tab 8 A) ++ tab 640 B) ++ tab 8 C) [] D 659 8 i
      (omega (
        arith,
        length-append ((front ++ tab 8 A) ++ tab 640 B) (tab 8 C),
        length-append (front ++ tab 8 A) (tab 640 B),
        length-append front (tab 8 A),
        length-tab A 8,
        length-tab B 640,
        length-tab C 8,
      ))
      h

  abbrev bank_of : ℕ → ℕ → List ℕ → List ℕ → List ℕ → List ℕ → Bank
  bank_of a b c d e f = record { limit = a; count = b; lengths = c; records = d; periods = e; phases = f }

  pub bank_again : bank_in (puts 667 (λ i. get_or (bank_bytes k) i 0) old) ≡ k
  unfolding bank_in bank_bytes
  bank_again =
      let read : ℕ → ℕ → List ℕ = λ n b. tab n (λ i. get_or bytes (b + i) 0) in
      ap₂ (λ (a b : ℕ). bank_of a b (read 8 3) (read 640 11) (read 8 651) (read 8 659))
      (ap₂ (λ (a b : ℕ). a + 256 * b) (at 0 (omega arith)) (at 1 (omega arith)) ∙ two_bytes_lem k.limit)
      (at 2 (omega arith))
      ∙ ap₂ (λ (c d : List ℕ). bank_of k.limit k.count c d (read 8 651) (read 8 659))
      (by_elements k.lengths 8 (λ i. get_or bytes (3 + i) 0) lengths length_at)
      (by_elements k.records 640 (λ i. get_or bytes (11 + i) 0) records record_at_lem)
      ∙ ap₂ (λ (c d : List ℕ). bank_of k.limit k.count k.lengths k.records c d)
      (by_elements k.periods 8 (λ i. get_or bytes (651 + i) 0) periods period_at)
      (by_elements k.phases 8 (λ i. get_or bytes (659 + i) 0) phases phase_at)

-- bytes of a scan state in which the words ws stand
module _ (ws l : List ℕ) (eight : length ws ≡ 8) (byte : (i : ℕ) → i < 16 → get_or l (5 + i) 0 ≡ word_byte ws i) where
  low_byte : (b : ℕ) → word_byte ws (2 * b) ≡ get_or ws b 0 % 256
  unfolding word_byte
  low_byte b =
      let half : 2 * b / 2 ≡ b = omega arith in
      let even : 2 * b % 2 ≡ 0 = omega arith in
      rw (half, even) refl

  high_byte : (b : ℕ) → word_byte ws (2 * b + 1) ≡ get_or ws b 0 / 256
  unfolding word_byte
  high_byte b =
      let half : (2 * b + 1) / 2 ≡ b = omega arith in
      let odd : (2 * b + 1) % 2 ≡ 1 = omega arith in
      rw (half, odd) refl

  word_at : (b : ℕ) → b < 8 → pair_at l (5 + 2 * b) ≡ get_or ws b 0
  word_at b h =
      let next : 5 + 2 * b + 1 ≡ 5 + (2 * b + 1) = omega arith in
      ap₂ (λ (x y : ℕ). x + 256 * y)
      (byte (2 * b) (omega arith) ∙ low_byte b)
      (ap (λ (n : ℕ). get_or l n 0) next ∙ byte (2 * b + 1) (omega arith) ∙ high_byte b)
      ∙ two_bytes_lem (get_or ws b 0)

  words_again : tab 8 (λ i. pair_at l (5 + 2 * i)) ≡ ws
  words_again = by_elements ws 8 (λ i. pair_at l (5 + 2 * i)) eight word_at

flag_again : (b : Bool) → not (eqb (flag b) 0) ≡ b
flag_again true = refl
flag_again false = refl

abbrev scan_of : Bool → ℕ → ℕ → ℕ → ℕ → List ℕ → List ℕ → Scan
scan_of on b c r n ws os = record { running = on; block = b; cell = c; rail = r; number = n; words = ws; outputs = os }

module _ (s : Scan) (old : List ℕ) (size : length old ≡ 86) (words : length s.words ≡ 8) (outputs : length s.outputs ≡ 64) where
  abbrev stored : List ℕ
  stored = puts 86 (λ i. get_or (scan_bytes s) i 0) old

  abbrev head : List ℕ
  head = flag s.running ∷ s.block ∷ s.cell ∷ s.rail % 256 ∷ s.rail / 256 ∷ []

  abbrev W : ℕ → ℕ
  W = word_byte s.words

  abbrev O : ℕ → ℕ
  O i = get_or s.outputs i 0

  there : (i : ℕ) → i < 86 → get_or stored i 0 ≡ get_or (scan_bytes s) i 0
  there i h = get_or-puts (λ i. get_or (scan_bytes s) i 0) 86 old 0 i h (omega (arith, size))

  byte_at : (i : ℕ) → i < 16 → get_or stored (5 + i) 0 ≡ word_byte s.words i
  unfolding scan_bytes
  byte_at i h = there (5 + i) (omega arith) ∙ part_at head (tab 64 O ++ (s.number ∷ [])) W 5 16 i refl h

  output_at_lem : (i : ℕ) → i < 64 → get_or stored (21 + i) 0 ≡ get_or s.outputs i 0
  unfolding scan_bytes
  output_at_lem i h =
      there (21 + i) (omega arith)
      ∙ part_at (head ++ tab 16 W) (s.number ∷ []) O 21 64 i (omega (arith, length-append head (tab 16 W), length-tab W 16)) h

  number_at : get_or stored 85 0 ≡ s.number
  unfolding scan_bytes
  number_at =
      there 85 (omega arith)
      ∙ ap (λ (l : List ℕ). get_or l 85 0) (sym (append_assoc (head ++ tab 16 W) (tab 64 O) (s.number ∷ [])))
      ∙ part_at ((head ++ tab 16 W) ++ tab 64 O) [] (λ i. s.number) 85 1 0
      (omega (arith, length-append (head ++ tab 16 W) (tab 64 O), length-append head (tab 16 W), length-tab W 16, length-tab O 64)) (omega arith)

  pub scan_again : scan_in (puts 86 (λ i. get_or (scan_bytes s) i 0) old) ≡ s
  unfolding scan_in scan_bytes
  scan_again =
      let ws : List ℕ = tab 8 (λ i. pair_at stored (5 + 2 * i)) in
      let os : List ℕ = tab 64 (λ i. get_or stored (21 + i) 0) in
      ap₂ (λ (on : Bool) (b : ℕ). scan_of on b (get_or stored 2 0) (pair_at stored 3) (get_or stored 85 0) ws os)
      (ap (λ (n : ℕ). not (eqb n 0)) (there 0 (omega arith)) ∙ flag_again s.running)
      (there 1 (omega arith))
      ∙ ap₂ (λ (c r : ℕ). scan_of s.running s.block c r (get_or stored 85 0) ws os)
      (there 2 (omega arith))
      (ap₂ (λ (a b : ℕ). a + 256 * b) (there 3 (omega arith)) (there 4 (omega arith)) ∙ two_bytes_lem s.rail)
      ∙ ap₂ (λ (n : ℕ) (c : List ℕ). scan_of s.running s.block s.cell s.rail n c os)
      number_at
      (words_again s.words stored words byte_at)
      ∙ ap (λ (d : List ℕ). scan_of s.running s.block s.cell s.rail s.number s.words d)
      (by_elements s.outputs 64 (λ i. get_or stored (21 + i) 0) outputs output_at_lem)

-- other words in the bytes of a scan state
module _ (vs l : List ℕ) (size : length l ≡ 86) (eight : length vs ≡ 8) where
  abbrev replaced : List ℕ
  replaced = puts_at 5 16 (word_byte vs) l

  before : (i : ℕ) → i < 5 → get_or replaced i 0 ≡ get_or l i 0
  before i h = get_or_before_at (word_byte vs) 5 16 l 0 i h

  after : (i : ℕ) → get_or replaced (21 + i) 0 ≡ get_or l (21 + i) 0
  after i = get_or_unput_at (word_byte vs) 5 16 l 0 (21 + i) (omega arith)

  between : (i : ℕ) → i < 16 → get_or replaced (5 + i) 0 ≡ word_byte vs i
  between i h = get_or-puts_at (word_byte vs) 5 16 l 0 i h (omega (arith, size))

  pub words_replaced : scan_in (puts_at 5 16 (word_byte vs) l)
      ≡ record {
        running = (scan_in l).running;
        block = (scan_in l).block;
        cell = (scan_in l).cell;
        rail = (scan_in l).rail;
        number = (scan_in l).number;
        words = vs;
        outputs = (scan_in l).outputs;
      }
  unfolding scan_in
  words_replaced =
      let ws : List ℕ = tab 8 (λ i. pair_at replaced (5 + 2 * i)) in
      let os : List ℕ = tab 64 (λ i. get_or replaced (21 + i) 0) in
      ap₂ (λ (on : Bool) (b : ℕ). scan_of on b (get_or replaced 2 0) (pair_at replaced 3) (get_or replaced 85 0) ws os)
      (ap (λ (n : ℕ). not (eqb n 0)) (before 0 (omega arith)))
      (before 1 (omega arith))
      ∙ ap₂ (λ (c r : ℕ). scan_of (not (eqb (get_or l 0 0) 0)) (get_or l 1 0) c r (get_or replaced 85 0) ws os)
      (before 2 (omega arith))
      (ap₂ (λ (a b : ℕ). a + 256 * b) (before 3 (omega arith)) (before 4 (omega arith)))
      ∙ ap₂ (λ (n : ℕ) (c : List ℕ). scan_of (not (eqb (get_or l 0 0) 0)) (get_or l 1 0) (get_or l 2 0) (pair_at l 3) n c os)
      (after 64)
      (words_again vs replaced eight between)
      ∙ ap (λ (d : List ℕ). scan_of (not (eqb (get_or l 0 0) 0)) (get_or l 1 0) (get_or l 2 0) (pair_at l 3) (get_or l 85 0) vs d)
      (tab_ext (λ i. get_or replaced (21 + i) 0) (λ i. get_or l (21 + i) 0) 64 (λ i h. after i))
