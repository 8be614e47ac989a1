-- The cells of a block read in its last due scan since the last admission: in every book that a list of calls leaves, the block has run over its
-- word just as far, and so exactly the outputs of these cells are set.
-- Assumes nothing.
use mathlib.Core.Path.{◌≡◌, refl, sym, ◌∙◌, ap, ap₂, subst}
use mathlib.Core.Bool.{Bool, true, false, cond, ◌||◌, or-true}
use mathlib.Core.List.{List, [], ◌∷◌, ◌++◌, append-nil}
use Prim.Native.Nat.{ℕ, zero, suc, ◌+◌, ◌<◌, ◌≤◌}
use native.Mathlib.Nat.{not-suc-le-zero}
use native.Mathlib.Omega.{arith}
use lib.Dec.{eqb, ltb}
use lib.ListN.{length, get_or, set, replicate, length-set, length-append}
use lib.Seq.{get_or-set_same, get_or-set_other}
use borrow.Author.Tests.{eq-eqb, ne_eqb, lt-ltb}
use Rattle.laws.specs.Bits.{bit}
use Rattle.laws.specs.Lists.{tab, joined}
use Rattle.laws.proofs.Bits.{bit-lt}
use Rattle.laws.proofs.Cases.{by_test, by_equal, last_or_below, cond_yes, cond_no}
use Rattle.laws.proofs.Lists.{tab_ext}
use Rattle.stored_spec.specs.StoredForm.{member, cell_count, cell_at}
use Rattle.stored_spec.specs.Run.{Running, run, run_by, ran_one_by, outputs_after, set_outputs, unset}
use Rattle.stored_spec.specs.RowBytes.{two_bytes, row_value}
use Rattle.stored_spec.proofs.Promises.{set-length}
use Rattle.bank_spec.specs.Calls.{accepted, refused, numbered, Handed}
use Rattle.bank_spec.specs.Book.{Block, Place, Book, new_book, no_block, block_at, is_due, due_cells_of, places, book_refusal, entered, book_admit, wiped, book_latch, read_cell, read_first, book_step}
use Rattle.bank_spec.specs.CallLists.{Call, admission, latching, stepping, book_call, book_after, read_of}
use Rattle.bank_spec.specs.Scanned.{cells_of, begins_anew, last_cells, set_by}
use Rattle.bank_spec.proofs.Scans.{due-cells, no_due_cells}
use Rattle.bank_spec.proofs.LatchKeeps.{latch-length, latch-due, latch-not_due}
use Rattle.bank_spec.proofs.Entered.{entered-each}

-- the cells of block b among the places of a scan
abbrev place : ℕ → ℕ → Place
place b c = record { block = b; cell = c }

cells-append : (b : ℕ) (ps qs : List Place) → cells_of b (ps ++ qs) ≡ cells_of b ps ++ cells_of b qs
unfolding cells_of
cells-append b [] qs = refl
cells-append b (p ∷ ps) qs =
    by_test (eqb p.block b) (λ e. rw e (ap (λ (l : List ℕ). p.cell ∷ l) (cells-append b ps qs))) (λ e. rw e (cells-append b ps qs))

cells_own : (b m : ℕ) → cells_of b (tab m (place b)) ≡ tab m (λ c. c)
unfolding cells_of
cells_own b zero = refl
cells_own b (suc m) =
    cells-append b (tab m (place b)) (place b m ∷ [])
    ∙ ap₂ (λ (k l : List ℕ). k ++ l) (cells_own b m) (cond_yes (eqb b b) (m ∷ []) [] (eq-eqb b b refl))

cells-other : (b a m : ℕ) → (a ≡ b → ⊥) → cells_of b (tab m (place a)) ≡ []
unfolding cells_of
cells-other b a zero n = refl
cells-other b a (suc m) n =
    cells-append b (tab m (place a)) (place a m ∷ [])
    ∙ ap₂ (λ (k l : List ℕ). k ++ l) (cells-other b a m n) (cond_no (eqb a b) (m ∷ []) [] (ne_eqb a b n))

module _ (n : ℕ) (bs : List Block) where
  abbrev places_of : ℕ → List Place
  places_of b = tab (due_cells_of n (block_at bs b)) (place b)

  first-none : (m b : ℕ) → m ≤ b → cells_of b (joined m places_of) ≡ []
  unfolding cells_of
  first-none zero b l = refl
  first-none (suc m) b l =
      cells-append b (joined m places_of) (places_of m)
      ∙ ap₂ (λ (k l : List ℕ). k ++ l) (first-none m b (omega arith)) (cells-other b m (due_cells_of n (block_at bs m)) (λ e. omega arith))

  first-cells : (m b : ℕ) → b < m → cells_of b (joined m places_of) ≡ tab (due_cells_of n (block_at bs b)) (λ c. c)
  first-cells zero b l = absurd (not-suc-le-zero l)
  first-cells (suc m) b l =
      cells-append b (joined m places_of) (places_of m)
      ∙ last_or_below b m l
      (λ e.
      ap₂ (λ (k l : List ℕ). k ++ l) (first-none m b (omega arith))
      (ap (λ (i : ℕ). cells_of b (places_of i)) (sym e) ∙ cells_own b (due_cells_of n (block_at bs b))))
      (λ p.
      ap₂ (λ (k l : List ℕ). k ++ l) (first-cells m b p) (cells-other b m (due_cells_of n (block_at bs m)) (λ e. omega arith))
      ∙ append-nil (tab (due_cells_of n (block_at bs b)) (λ c. c)))

  pub places-cells : (b : ℕ) → b < length bs → cells_of b (places n bs) ≡ tab (due_cells_of n (block_at bs b)) (λ c. c)
  unfolding places
  places-cells b l = first-cells (length bs) b l

  places-none : (b : ℕ) → length bs ≤ b → cells_of b (places n bs) ≡ []
  unfolding places
  places-none b l = first-none (length bs) b l

-- block b of the book has run over its word as far as the cells cs go, and the scan reads what is left of it, if it reads it at all
pub record Tells (k : Book) (b : ℕ) (cs : List ℕ) : Type 0 where
  pub left : ℕ
  pub cells : cs ≡ tab (length cs) (λ c. c)
  pub to_read : cells_of b k.to_read ≡ tab left (λ i. length cs + i)
  pub within : length cs + left ≤ cell_count (block_at k.blocks b).records
  pub rail : (block_at k.blocks b).rail
      ≡ (run (block_at k.blocks b).records (block_at k.blocks b).rows (block_at k.blocks b).word (length cs)).rail
  pub outputs : (block_at k.blocks b).outputs
      ≡ (run (block_at k.blocks b).records (block_at k.blocks b).rows (block_at k.blocks b).word (length cs)).outputs

-- a place that holds no block yet has read nothing
pub record Told (k : Book) (b : ℕ) (cs : List ℕ) : Type 0 where
  pub held : b < length k.blocks → Tells k b cs
  pub cells : length k.blocks ≤ b → cs ≡ []
  pub none : length k.blocks ≤ b → cells_of b k.to_read ≡ []

-- a block with nothing set, and a scan that has all or nothing of it to read
afresh : (k : Book) (b n : ℕ) → cells_of b k.to_read ≡ tab n (λ c. c) → n ≤ cell_count (block_at k.blocks b).records
    → (block_at k.blocks b).rail ≡ 0 → (block_at k.blocks b).outputs ≡ unset → Tells k b []
unfolding run_by
afresh k b n e l r o =
    record {
      left = n;
      cells = refl;
      to_read = e ∙ tab_ext (λ c. c) (λ c. 0 + c) n (λ c h. omega arith);
      within = omega (arith, l);
      rail = r;
      outputs = o;
    }

told-entered : (k : Book) (h : Handed) (b : ℕ) → Told (entered k h) b []
unfolding entered cells_of wiped
told-entered k h b =
    record {
      held =
          λ l.
          let blank = entered-each k h (λ (B : Block). (B.rail ≡ 0) × (B.outputs ≡ unset)) (refl, refl) (λ b p. (refl, refl)) b l in
          afresh (entered k h) b 0 refl (omega arith) blank.0 blank.1;
      cells = λ l. refl;
      none = λ l. refl;
    }

-- the same block, of which the scan has nothing to read
stays : (k l : Book) (b : ℕ) (cs : List ℕ) → block_at l.blocks b ≡ block_at k.blocks b → cells_of b l.to_read ≡ [] → Tells k b cs → Tells l b cs
stays k l b cs e n h =
    record {
      left = 0;
      cells = h.cells;
      to_read = n;
      within = subst (λ (B : Block). length cs + 0 ≤ cell_count B.records) (sym e) (omega (arith, h.within));
      rail = subst (λ (B : Block). B.rail ≡ (run B.records B.rows B.word (length cs)).rail) (sym e) h.rail;
      outputs = subst (λ (B : Block). B.outputs ≡ (run B.records B.rows B.word (length cs)).outputs) (sym e) h.outputs;
    }

module _ (k : Book) (ws : List ℕ) (b : ℕ) (cs : List ℕ) where
  abbrev now : Book
  now = (book_latch k ws).state

  abbrev latched_here : Block
  latched_here = block_at k.blocks b

  to_read_lem : now.to_read ≡ places k.next k.blocks
  unfolding book_latch
  to_read_lem = refl

  latched-due : b < length k.blocks → is_due k.next latched_here ≡ true → Tells now b []
  unfolding wiped
  latched-due h e =
      let is = latch-due k ws b h e in
      afresh now b (due_cells_of k.next latched_here) (ap (cells_of b) to_read_lem ∙ places-cells k.next k.blocks b h)
      (subst (λ (x : Block). due_cells_of k.next latched_here ≤ cell_count x.records) (sym is) (omega (arith, due-cells k.next latched_here e)))
      (ap (λ (x : Block). x.rail) is) (ap (λ (x : Block). x.outputs) is)

  latched-other : b < length k.blocks → is_due k.next latched_here ≡ false → Tells k b cs → Tells now b cs
  latched-other h e t =
      stays k now b cs (latch-not_due k ws b h e)
      (ap (cells_of b) to_read_lem ∙ places-cells k.next k.blocks b h ∙ ap (λ (n : ℕ). tab n (λ c. c)) (no_due_cells k.next latched_here e)) t

  told-latch : Told k b cs → Told now b (cond (is_due k.next latched_here) [] (cs ++ []))
  told-latch t =
      record {
        held =
            λ h.
            let h' : b < length k.blocks = omega (arith, h, latch-length k ws) in
            by_test (is_due k.next latched_here)
            (λ e. subst (Tells now b) (sym (cond_yes (is_due k.next latched_here) [] (cs ++ []) e)) (latched-due h' e))
            (λ e.
            subst (Tells now b) (sym (cond_no (is_due k.next latched_here) [] (cs ++ []) e ∙ append-nil cs)) (latched-other h' e (t.held h')));
        cells =
            λ h.
            let none = t.cells (omega (arith, h, latch-length k ws)) in
            by_test (is_due k.next latched_here) (λ e. cond_yes (is_due k.next latched_here) [] (cs ++ []) e)
            (λ e. cond_no (is_due k.next latched_here) [] (cs ++ []) e ∙ append-nil cs ∙ none);
        none = λ h. ap (cells_of b) to_read_lem ∙ places-none k.next k.blocks b (omega (arith, h, latch-length k ws));
      }

-- the list has a first element
front : {A : Type 0} (n : ℕ) (f : ℕ → A) (x : A) (xs : List A) → x ∷ xs ≡ tab n f → (m : ℕ) × (n ≡ suc m) × (x ≡ f 0) × (xs ≡ tab m (λ i. f (suc i)))
front n f x xs e = by n e
  where
    head_of : {A : Type 0} → A → List A → A
    head_of d [] = d
    head_of d (y ∷ ys) = y

    tail_of : {A : Type 0} → List A → List A
    tail_of [] = []
    tail_of (y ∷ ys) = ys

    tab_front : {A : Type 0} (m : ℕ) (g : ℕ → A) → tab (suc m) g ≡ g 0 ∷ tab m (λ i. g (suc i))
    tab_front zero g = refl
    tab_front (suc m) g = ap (λ (l : List _). l ++ (g (suc m) ∷ [])) (tab_front m g)

    by : (n : ℕ) → x ∷ xs ≡ tab n f → (m : ℕ) × (n ≡ suc m) × (x ≡ f 0) × (xs ≡ tab m (λ i. f (suc i)))
    by zero e = absurd (omega (arith, ap (λ (l : List _). length l) e))
    by (suc m) e =
        let e' = e ∙ tab_front m f in
        (m, refl, ap (head_of x) e', ap tail_of e')

module _ (k : Book) (b : ℕ) (cs : List ℕ) where
  abbrev B : Block
  B = block_at k.blocks b

  -- a step that reads the next cell of block b
  read_own : (p : Place) (ps : List Place) → k.to_read ≡ p ∷ ps → p.block ≡ b → b < length k.blocks → Tells k b cs
      → Tells (read_first k (p ∷ ps)).state b (cs ++ (p.cell ∷ []))
  unfolding read_first cells_of read_cell run_by ran_one_by
  read_own p ps e is l t =
      let here : p.cell ∷ cells_of b ps ≡ tab t.left (λ i. length cs + i) =
      sym (cond_yes (eqb p.block b) _ _ (eq-eqb p.block b is)) ∙ ap (cells_of b) (sym e) ∙ t.to_read in
      let f = front t.left (λ i. length cs + i) p.cell (cells_of b ps) here in
      let cell : p.cell ≡ length cs = f.2 ∙ omega arith in
      let long : length (cs ++ (p.cell ∷ [])) ≡ suc (length cs) = omega (arith, length-append cs (p.cell ∷ [])) in
      let block : block_at (set k.blocks p.block (read_cell (block_at k.blocks p.block) p.cell)) b ≡ read_cell B (length cs) =
      ap₂ (λ (i c : ℕ). block_at (set k.blocks i (read_cell (block_at k.blocks i) c)) b) is cell
      ∙ get_or-set_same k.blocks b (read_cell B (length cs)) no_block l in
      let ran : ran_one_by (row_value two_bytes B.rows) B.records B.word (length cs) (record { rail = B.rail; outputs = B.outputs })
      ≡ run B.records B.rows B.word (suc (length cs)) =
      ap₂ (λ (r : ℕ) (o : List ℕ). ran_one_by (row_value two_bytes B.rows) B.records B.word (length cs) (record { rail = r; outputs = o })) t.rail t.outputs in
      record {
        left = f.0;
        cells =
            ap₂ (λ (l : List ℕ) (c : ℕ). l ++ (c ∷ [])) t.cells cell ∙ ap (λ (n : ℕ). tab n (λ c. c)) (sym long);
        to_read =
            f.3
            ∙ tab_ext (λ i. length cs + suc i) (λ i. length (cs ++ (p.cell ∷ [])) + i) f.0 (λ i h. omega (arith, long));
        within =
            subst (λ (x : Block). length (cs ++ (p.cell ∷ [])) + f.0 ≤ cell_count x.records) (sym block) (omega (arith, long, f.1, t.within));
        rail =
            subst (λ (x : Block). x.rail ≡ (run x.records x.rows x.word (length (cs ++ (p.cell ∷ [])))).rail) (sym block)
            (subst (λ (n : ℕ). (read_cell B (length cs)).rail ≡ (run B.records B.rows B.word n).rail) (sym long)
            (ap (λ (x : Running). x.rail) ran));
        outputs =
            subst (λ (x : Block). x.outputs ≡ (run x.records x.rows x.word (length (cs ++ (p.cell ∷ [])))).outputs) (sym block)
            (subst (λ (n : ℕ). (read_cell B (length cs)).outputs ≡ (run B.records B.rows B.word n).outputs) (sym long)
            (ap (λ (x : Running). x.outputs) ran));
      }

  -- a step that reads a cell of another block
  read-other : (p : Place) (ps : List Place) → k.to_read ≡ p ∷ ps → (p.block ≡ b → ⊥) → Tells k b cs → Tells (read_first k (p ∷ ps)).state b cs
  unfolding read_first cells_of
  read-other p ps e is t =
      let block : block_at (set k.blocks p.block (read_cell (block_at k.blocks p.block) p.cell)) b ≡ B =
      get_or-set_other k.blocks p.block b (read_cell (block_at k.blocks p.block) p.cell) no_block (λ q. is (sym q)) in
      record {
        left = t.left;
        cells = t.cells;
        to_read = sym (cond_no (eqb p.block b) (p.cell ∷ cells_of b ps) (cells_of b ps) (ne_eqb p.block b is)) ∙ ap (cells_of b) (sym e) ∙ t.to_read;
        within = subst (λ (x : Block). length cs + t.left ≤ cell_count x.records) (sym block) t.within;
        rail = subst (λ (x : Block). x.rail ≡ (run x.records x.rows x.word (length cs)).rail) (sym block) t.rail;
        outputs = subst (λ (x : Block). x.outputs ≡ (run x.records x.rows x.word (length cs)).outputs) (sym block) t.outputs;
      }

  told-read : (ps : List Place) → k.to_read ≡ ps → Told k b cs → Told (read_first k ps).state b (cs ++ cells_of b (read_of (read_first k ps).answer))
  unfolding read_first read_of cells_of
  told-read [] e t = subst (Told k b) (sym (append-nil cs)) t
  told-read (p ∷ ps) e t =
      let long : length (read_first k (p ∷ ps)).state.blocks ≡ length k.blocks =
      length-set k.blocks p.block (read_cell (block_at k.blocks p.block) p.cell) in
      by_equal p.block b
      (λ is.
      let own : cs ++ (p.cell ∷ []) ≡ cs ++ cells_of b (p ∷ []) =
      ap (λ (l : List ℕ). cs ++ l) (sym (cond_yes (eqb p.block b) (p.cell ∷ []) [] (eq-eqb p.block b is))) in
      let some : p.cell ∷ cells_of b ps ≡ cells_of b k.to_read =
      sym (cond_yes (eqb p.block b) (p.cell ∷ cells_of b ps) (cells_of b ps) (eq-eqb p.block b is)) ∙ ap (cells_of b) (sym e) in
      let inside : length k.blocks ≤ b → ⊥ = λ l. omega (arith, ap (λ (l : List ℕ). length l) (some ∙ t.none l)) in
      subst (Told (read_first k (p ∷ ps)).state b) own
      (record {
        held = λ l. let l' : b < length k.blocks = omega (arith, l, long) in read_own p ps e is l' (t.held l');
        cells = λ l. absurd (inside (omega (arith, l, long)));
        none = λ l. absurd (inside (omega (arith, l, long)));
      }))
      (λ is.
      let other : cs ≡ cs ++ cells_of b (p ∷ []) =
      sym (append-nil cs) ∙ ap (λ (l : List ℕ). cs ++ l) (sym (cond_no (eqb p.block b) (p.cell ∷ []) [] (ne_eqb p.block b is))) in
      let same : cells_of b ps ≡ cells_of b k.to_read =
      sym (cond_no (eqb p.block b) (p.cell ∷ cells_of b ps) (cells_of b ps) (ne_eqb p.block b is)) ∙ ap (cells_of b) (sym e) in
      subst (Told (read_first k (p ∷ ps)).state b) other
      (record {
        held = λ l. read-other p ps e is (t.held (omega (arith, l, long)));
        cells = λ l. t.cells (omega (arith, l, long));
        none = λ l. same ∙ t.none (omega (arith, l, long));
      }))

-- each call keeps it
module _ (S m : ℕ) (b : ℕ) where
  abbrev cells_after : Book → List ℕ → Call → List ℕ
  cells_after k cs c = cond (begins_anew k b c (book_call S m k c).answer) [] (cs ++ cells_of b (read_of (book_call S m k c).answer))

  told-call : (k : Book) (cs : List ℕ) (c : Call) → Told k b cs → Told (book_call S m k c).state b (cells_after k cs c)
  unfolding book_call book_admit book_latch book_step begins_anew read_of cells_of numbered
  told-call k cs (admission h) t = by (eqb (book_refusal S m k.blocks h) 0)
    where
      n : ℕ
      n = book_refusal S m k.blocks h

      by : (z : Bool)
          → Told (cond z (entered k h) k) b (cond (begins_anew k b (admission h) (cond z accepted (refused n))) [] (cs ++ cells_of b (read_of (cond z accepted (refused n)))))
      by true = told-entered k h b
      by false = subst (Told k b) (sym (append-nil cs)) t
  told-call k cs (latching ws) t = told-latch k ws b cs t
  told-call k cs stepping t = told-read k b cs k.to_read refl t

  told-after : (k : Book) (cs : List ℕ) (calls : List Call) → Told k b cs → Told (book_after S m k calls) b (last_cells S m k b cs calls)
  unfolding book_after last_cells
  told-after k cs [] t = t
  told-after k cs (c ∷ calls) t = told-after (book_call S m k c).state (cells_after k cs c) calls (told-call k cs c t)

  pub last_cells_lem : (calls : List Call) → Told (book_after S m new_book calls) b (last_cells S m new_book b [] calls)
  unfolding cells_of
  last_cells_lem calls =
      told-after new_book [] calls (record { held = λ l. absurd (not-suc-le-zero l); cells = λ l. refl; none = λ l. refl })

-- the outputs that a run over n cells sets are those of these cells
set_one : (outs os : List ℕ) (x o : ℕ) → o < length outs → ltb (get_or (set_outputs outs os x) o 2) 2 ≡ (member o os || ltb (get_or outs o 2) 2)
unfolding set_outputs
set_one outs [] x o l = refl
set_one outs (p ∷ os) x o l =
    let v = bit x (length os) in
    set_one (set outs p v) os x o (omega (arith, length-set outs p v))
    ∙ by_equal p o
    (λ e.
    let yes : ltb (get_or (set outs p v) o 2) 2 ≡ true =
    ap (λ (i : ℕ). ltb (get_or (set outs i v) o 2) 2) e ∙ ap (λ (y : ℕ). ltb y 2) (get_or-set_same outs o v 2 l) ∙ lt-ltb v 2 (bit-lt x (length os)) in
    rw (yes, eq-eqb o p (sym e)) (or-true (member o os)))
    (λ n.
    let no : get_or (set outs p v) o 2 ≡ get_or outs o 2 = get_or-set_other outs p o v 2 (λ q. n (sym q)) in
    rw (no, ne_eqb o p (λ q. n (sym q))) refl)

set-append : (R : List ℕ) (cs : List ℕ) (c o : ℕ) → set_by R (cs ++ (c ∷ [])) o ≡ (member o (cell_at R c).outs || set_by R cs o)
unfolding set_by
set-append R [] c o = refl
set-append R (d ∷ cs) c o =
    ap (λ (x : Bool). member o (cell_at R d).outs || x) (set-append R cs c o) ∙ swap (member o (cell_at R d).outs) (member o (cell_at R c).outs) (set_by R cs o)
  where
    swap : (x y z : Bool) → (x || (y || z)) ≡ (y || (x || z))
    swap true true z = refl
    swap true false z = refl
    swap false true z = refl
    swap false false z = refl

run-eight : (R bytes : List ℕ) (w n : ℕ) → length (run R bytes w n).outputs ≡ 8
unfolding run_by ran_one_by outputs_after
run-eight R bytes w zero = refl
run-eight R bytes w (suc n) = set-length (run R bytes w n).outputs (cell_at R n).outs _ ∙ run-eight R bytes w n

pub run-sets : (R bytes : List ℕ) (w n o : ℕ) → o < 8 → ltb (get_or (run R bytes w n).outputs o 2) 2 ≡ set_by R (tab n (λ c. c)) o
unfolding run_by ran_one_by outputs_after set_by
run-sets R bytes w zero o l = none o
  where
    none : (o : ℕ) → ltb (get_or unset o 2) 2 ≡ false
    none o = ap (λ (x : ℕ). ltb x 2) (twos 8 o)
      where
        twos : (n o : ℕ) → ◌≡◌ {A = ℕ} (get_or (replicate n 2) o 2) 2
        twos zero o = refl
        twos (suc n) zero = refl
        twos (suc n) (suc o) = twos n o
run-sets R bytes w (suc n) o l =
    set_one (run R bytes w n).outputs (cell_at R n).outs _ o (omega (arith, l, run-eight R bytes w n))
    ∙ ap (λ (x : Bool). member o (cell_at R n).outs || x) (run-sets R bytes w n o l) ∙ sym (set-append R (tab n (λ c. c)) n o)

pub told-sets : (k : Book) (b : ℕ) (cs : List ℕ) → Told k b cs → b < length k.blocks → (o : ℕ) → o < 8
    → ltb (get_or (block_at k.blocks b).outputs o 2) 2 ≡ set_by (block_at k.blocks b).records cs o
told-sets k b cs t l o p =
    let B = block_at k.blocks b in
    let h = t.held l in
    ap (λ (os : List ℕ). ltb (get_or os o 2) 2) h.outputs ∙ run-sets B.records B.rows B.word (length cs) o p
    ∙ ap (λ (l : List ℕ). set_by B.records l o) (sym h.cells)
