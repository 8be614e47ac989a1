-- Laws of the bank and the scan state as bytes: how they are stored, and how they are read.
-- Assumes nothing.
use mathlib.Core.Path.{◌≡◌, refl, sym, ◌∙◌, ap, ap₂}
use mathlib.Core.Bool.{cond, not}
use mathlib.Core.List.{List, [], ◌∷◌, ◌++◌, append_assoc}
use Prim.Native.Nat.{ℕ, ◌+◌, ◌*◌, ◌%◌, ◌/◌, ◌<◌, ◌≤◌}
use native.Mathlib.Omega.{arith}
use lib.Dec.{eqb}
use lib.ListN.{length, get_or, set, take, drop, length-append, get_or-append, length-drop}
use lib.Seq.{get_or-append-add, get_or-take, get_or-drop, length-take-le}
use Rattle.laws.specs.Bits.{flag}
use Rattle.laws.specs.Lists.{tab, puts, puts_at}
use Rattle.laws.proofs.Lists.{length-tab, get_or-tab, by_elements}
use Rattle.laws.proofs.Puts.{puts_at-next, puts_ext, puts-run, puts_one}
use Rattle.bank_spec.specs.declared.Bank.{Bank}
use Rattle.bank_spec.specs.declared.Scan.{Scan}
use Rattle.panel_calls.specs.StateBytes.{pair_at, bank_in, scan_in, bank_bytes, word_byte, scan_bytes}

-- a part read
pub part-read : (l : List ℕ) (at n : ℕ) → at + n ≤ length l → take n (drop at l) ≡ tab n (λ i. get_or l (at + i) 0)
part-read l at n h =
    sym (by_elements (take n (drop at l)) n (λ i. get_or l (at + i) 0)
    (length-take-le n (drop at l) (omega (arith, length-drop at l)))
    (λ i k. sym (get_or-take n (drop at l) i 0 k ∙ get_or-drop at l i 0)))

-- the two bytes of a number
pub two-lower : (x : ℕ) {bytes : List ℕ} → bytes ≡ x % 256 ∷ x / 256 % 256 ∷ [] → get_or bytes 0 0 ≡ x % 256
two-lower x e = ap (λ (l : List ℕ). get_or l 0 0) e

pub two-upper : (x : ℕ) {bytes : List ℕ} → x < 65536 → bytes ≡ x % 256 ∷ x / 256 % 256 ∷ [] → get_or bytes 1 0 ≡ x / 256
two-upper x h e = let m : x / 256 % 256 ≡ x / 256 = omega arith in ap (λ (l : List ℕ). get_or l 1 0) e ∙ m

-- of the words, one word's bytes more
pub two-put : (ws : List ℕ) (i : ℕ) (l s : List ℕ) {low high : ℕ} → low ≡ get_or ws i 0 % 256 → high ≡ get_or ws i 0 / 256
    → s ≡ puts_at 5 (2 * i) (word_byte ws) l → set (set s (5 + 2 * i) low) (5 + 2 * i + 1) high ≡ puts_at 5 (2 * (i + 1)) (word_byte ws) l
unfolding word_byte
two-put ws i l s {low} {high} p q e =
    let half : 2 * i / 2 ≡ i = omega arith in
    let even : 2 * i % 2 ≡ 0 = omega arith in
    let next : (2 * i + 1) / 2 ≡ i = omega arith in
    let odd : (2 * i + 1) % 2 ≡ 1 = omega arith in
    let n : 2 * i + 1 + 1 ≡ 2 * (i + 1) = omega arith in
    let m : 5 + 2 * i + 1 ≡ 5 + (2 * i + 1) = omega arith in
    let first = puts_at-next (word_byte ws) 5 (2 * i) l s _ e (p ∙ sym (ap₂ (λ (a b : ℕ). let w = get_or ws a 0 in cond (eqb b 0) (w % 256) (w / 256)) half even)) in
    let second = puts_at-next (word_byte ws) 5 (2 * i + 1) l _ _ first (q ∙ sym (ap₂ (λ (a b : ℕ). let w = get_or ws a 0 in cond (eqb b 0) (w % 256) (w / 256)) next odd)) in
    ap (λ (k : ℕ). set (set s (5 + 2 * i) low) k high) m ∙ second ∙ ap (λ (k : ℕ). puts_at 5 k (word_byte ws) l) n

-- bytes stored to the front, and a run of more
run-stored : (h : List ℕ) (f : ℕ → ℕ) (b m : ℕ) (l s : List ℕ) → length h ≡ b → s ≡ puts b (λ i. get_or h i 0) l
    → puts_at b m f s ≡ puts (b + m) (λ i. get_or (h ++ tab m f) i 0) l
run-stored h f b m l s e p =
    let F : ℕ → ℕ = λ i. get_or (h ++ tab m f) i 0 in
    let first : s ≡ puts b F l =
    p ∙ puts_ext (λ i. get_or h i 0) F b l (λ i q. sym (get_or-append h (tab m f) 0 i (omega (arith, e)))) in
    ap (puts_at b m f) first
    ∙ puts-run F b m l f
    (λ i q. sym (ap (λ (k : ℕ). F (k + i)) (sym e) ∙ get_or-append-add h (tab m f) i 0 ∙ get_or-tab f 0 m i q))

three_stored : (x y z : ℕ) (l : List ℕ) → set (set (set l 0 x) 1 y) 2 z ≡ puts 3 (λ i. get_or (x ∷ y ∷ z ∷ []) i 0) l
unfolding puts
three_stored x y z l = refl

five_stored : (v w x y z : ℕ) (l : List ℕ)
    → set (set (set (set (set l 0 v) 1 w) 2 x) 3 y) 4 z ≡ puts 5 (λ i. get_or (v ∷ w ∷ x ∷ y ∷ z ∷ []) i 0) l
unfolding puts
five_stored v w x y z l = refl

-- the bytes of a bank, and of a scan state
pub bank-stored : (k : Bank) (l : List ℕ)
    → puts_at 659 8 (λ i. get_or k.phases i 0) (puts_at 651 8 (λ i. get_or k.periods i 0) (puts_at 11 640 (λ i. get_or k.records i 0)
    (puts_at 3 8 (λ i. get_or k.lengths i 0) (set (set (set l 0 (k.limit % 256)) 1 (k.limit / 256)) 2 k.count))))
    ≡ puts 667 (λ i. get_or (bank_bytes k) i 0) l
unfolding bank_bytes
bank-stored k l =
    let h : List ℕ = k.limit % 256 ∷ k.limit / 256 ∷ k.count ∷ [] in
    let A : ℕ → ℕ = λ i. get_or k.lengths i 0 in
    let B : ℕ → ℕ = λ i. get_or k.records i 0 in
    let C : ℕ → ℕ = λ i. get_or k.periods i 0 in
    let D : ℕ → ℕ = λ i. get_or k.phases i 0 in
    let first = run-stored h A 3 8 l _ refl (three_stored (k.limit % 256) (k.limit / 256) k.count l) in
    let long : length (h ++ tab 8 A) ≡ 11 = omega (arith, length-append h (tab 8 A), length-tab A 8) in
    let second = run-stored (h ++ tab 8 A) B 11 640 l _ long first in
    let longer : length ((h ++ tab 8 A) ++ tab 640 B) ≡ 651 = omega (arith, long, length-append (h ++ tab 8 A) (tab 640 B), length-tab B 640) in
    let third = run-stored ((h ++ tab 8 A) ++ tab 640 B) C 651 8 l _ longer second in
    let longest : length (((h ++ tab 8 A) ++ tab 640 B) ++ tab 8 C) ≡ 659 =
    omega (arith, longer, length-append ((h ++ tab 8 A) ++ tab 640 B) (tab 8 C), length-tab C 8) in
    run-stored (((h ++ tab 8 A) ++ tab 640 B) ++ tab 8 C) D 659 8 l _ longest third
    ∙ ap (λ (x : List ℕ). puts 667 (λ i. get_or x i 0) l)
    (append_assoc ((h ++ tab 8 A) ++ tab 640 B) (tab 8 C) (tab 8 D) ∙ append_assoc (h ++ tab 8 A) (tab 640 B) (tab 8 C ++ tab 8 D)
    ∙ append_assoc h (tab 8 A) (tab 640 B ++ (tab 8 C ++ tab 8 D)))

pub scan-stored : (s : Scan) (l : List ℕ)
    → set (puts_at 21 64 (λ i. get_or s.outputs i 0) (puts_at 5 16 (word_byte s.words)
    (set (set (set (set (set l 0 (flag s.running)) 1 s.block) 2 s.cell) 3 (s.rail % 256)) 4 (s.rail / 256)))) 85 s.number
    ≡ puts 86 (λ i. get_or (scan_bytes s) i 0) l
unfolding scan_bytes
scan-stored s l =
    let h : List ℕ = flag s.running ∷ s.block ∷ s.cell ∷ s.rail % 256 ∷ s.rail / 256 ∷ [] in
    let A : ℕ → ℕ = word_byte s.words in
    let B : ℕ → ℕ = λ i. get_or s.outputs i 0 in
    let C : ℕ → ℕ = λ i. s.number in
    let first = run-stored h A 5 16 l _ refl (five_stored (flag s.running) s.block s.cell (s.rail % 256) (s.rail / 256) l) in
    let long : length (h ++ tab 16 A) ≡ 21 = omega (arith, length-append h (tab 16 A), length-tab A 16) in
    let second = run-stored (h ++ tab 16 A) B 21 64 l _ long first in
    let longer : length ((h ++ tab 16 A) ++ tab 64 B) ≡ 85 = omega (arith, long, length-append (h ++ tab 16 A) (tab 64 B), length-tab B 64) in
    puts_one C 1 85 s.number _ refl refl ∙ run-stored ((h ++ tab 16 A) ++ tab 64 B) C 85 1 l _ longer second
    ∙ ap (λ (x : List ℕ). puts 86 (λ i. get_or x i 0) l)
    (append_assoc (h ++ tab 16 A) (tab 64 B) (tab 1 C) ∙ append_assoc h (tab 16 A) (tab 64 B ++ tab 1 C))

-- a bank, and a scan state, of the numbers read
pub bank-read : (l : List ℕ) {limit : ℕ} {lengths records periods phases : List ℕ} → limit ≡ pair_at l 0
    → lengths ≡ tab 8 (λ i. get_or l (3 + i) 0) → records ≡ tab 640 (λ i. get_or l (11 + i) 0)
    → periods ≡ tab 8 (λ i. get_or l (651 + i) 0) → phases ≡ tab 8 (λ i. get_or l (659 + i) 0)
    → ◌≡◌ {A = Bank}
    (record { limit = limit; count = get_or l 2 0; lengths = lengths; records = records; periods = periods; phases = phases }) (bank_in l)
unfolding bank_in
bank-read l p q r u v = rw (p, q, r, u, v) refl

pub scan-read : (l : List ℕ) {rail : ℕ} {words outputs : List ℕ} → rail ≡ pair_at l 3
    → words ≡ tab 8 (λ i. pair_at l (5 + 2 * i)) → outputs ≡ tab 64 (λ i. get_or l (21 + i) 0)
    → ◌≡◌ {A = Scan}
    (record {
      running = not (eqb (get_or l 0 0) 0);
      block = get_or l 1 0;
      cell = get_or l 2 0;
      rail = rail;
      number = get_or l 85 0;
      words = words;
      outputs = outputs;
    })
    (scan_in l)
unfolding scan_in
scan-read l p q r = rw (p, q, r) refl
