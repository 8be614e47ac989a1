-- A scan in the book, of number n: its places to read, and the book after a latch and s steps.
-- Assumes nothing.
use mathlib.Core.Path.{◌≡◌, refl, sym, ◌∙◌, ap, subst}
use mathlib.Core.Bool.{true, false, cond}
use mathlib.Core.List.{List, [], ◌∷◌}
use Prim.Native.Nat.{ℕ, zero, suc, ◌+◌, ◌-◌, ◌≤◌, ◌<◌, min}
use native.Mathlib.Nat.{not-suc-le-zero, add-zero}
use native.Mathlib.Omega.{arith}
use lib.ListN.{length, get_or, set, drop, length-set, get_or-append, drop_of_length-le}
use lib.Seq.{drop-cons, ext_get_or, get_or-set_same, get_or-set_other, get_or-append-add}
use Rattle.laws.specs.Tests.{sum}
use Rattle.laws.specs.Lists.{tab, joined}
use Rattle.laws.proofs.Cases.{by_test, by_less, by_equal, last_or_below, cond_yes, cond_no}
use Rattle.laws.proofs.Counts.{sum_ext, sum-fewer, sum_at}
use Rattle.laws.proofs.Lists.{length-tab, get_or-tab, tab_ext, length-joined}
use Rattle.stored_spec.specs.StoredForm.{cell_count}
use Rattle.stored_spec.specs.Run.{run, run_by, ran_one_by}
use Rattle.bank_spec.specs.Due.{due_cells, number_after}
use Rattle.bank_spec.specs.Book.{Block, Place, Book, no_block, block_at, is_due, due_cells_of, cells_in, wiped, places, latched_to, book_latch, read_cell, read_first, book_step}

-- the block with the word w, after k of its cells are read
abbrev pub after_cells : Block → ℕ → ℕ → Block
after_cells B w k =
    record {
      records = B.records;
      rows = B.rows;
      period = B.period;
      phase = B.phase;
      word = w;
      rail = (run B.records B.rows w k).rail;
      outputs = (run B.records B.rows w k).outputs;
    }

-- the block in scan n, whose latch has the word w for it, after k of its cells are read: one that isn't due is as it was
abbrev pub in_scan : ℕ → Block → ℕ → ℕ → Block
in_scan n B w k = cond (is_due n B) (after_cells B w k) B

-- the due cells of the blocks before b; how many cells of block b are among the first s read
abbrev pub cells_above : ℕ → List Block → ℕ → ℕ
cells_above n bs b = sum b (λ i. due_cells_of n (block_at bs i))

abbrev pub read_in : ℕ → List Block → ℕ → ℕ → ℕ
read_in n bs s b = min (s - cells_above n bs b) (due_cells_of n (block_at bs b))

abbrev pub no_place : Place
no_place = record { block = 0; cell = 0 }

-- n steps in the book
unfoldable pub stepped : ℕ → Book → Book
stepped zero k = k
stepped (suc n) k = (book_step (stepped n k)).state

-- a block that isn't due has no due cells; of one that has some the scan reads its cells
pub due-cells : (n : ℕ) (B : Block) → is_due n B ≡ true → due_cells_of n B ≡ cell_count B.records
unfolding is_due due_cells_of due_cells
due-cells n B e = cond_yes (is_due n B) (cell_count B.records) 0 e

pub no_due_cells : (n : ℕ) (B : Block) → is_due n B ≡ false → due_cells_of n B ≡ 0
unfolding is_due due_cells_of due_cells
no_due_cells n B e = cond_no (is_due n B) (cell_count B.records) 0 e

pub some-due : (n : ℕ) (B : Block) (c : ℕ) → c < due_cells_of n B → is_due n B ≡ true
some-due n B c h = by_test (is_due n B) (λ e. e) (λ e. absurd (omega (arith, h, no_due_cells n B e)))

-- the places of the first m blocks
module _ (n : ℕ) (bs : List Block) where
  abbrev cells_of : ℕ → ℕ
  cells_of b = due_cells_of n (block_at bs b)

  abbrev places_of : ℕ → List Place
  places_of b = tab (cells_of b) (λ c. record { block = b; cell = c })

  length-first : (m : ℕ) → length (joined m places_of) ≡ cells_above n bs m
  length-first m =
      length-joined places_of m ∙ sum_ext (λ b. length (places_of b)) cells_of m (λ b h. length-tab (λ c. record { block = b; cell = c }) (cells_of b))

  first_last : (m c : ℕ) → c < cells_of m → get_or (joined (suc m) places_of) (cells_above n bs m + c) no_place ≡ record { block = m; cell = c }
  first_last m c h =
      ap (λ (i : ℕ). get_or (joined (suc m) places_of) (i + c) no_place) (sym (length-first m))
      ∙ get_or-append-add (joined m places_of) (places_of m) c no_place ∙ get_or-tab (λ c. record { block = m; cell = c }) no_place (cells_of m) c h

  first_below : (m i : ℕ) → i < cells_above n bs m → get_or (joined (suc m) places_of) i no_place ≡ get_or (joined m places_of) i no_place
  first_below m i h = get_or-append (joined m places_of) (places_of m) no_place i (omega (arith, length-first m))

  abbrev At : ℕ → ℕ → Place → Type 0
  At m s p = (p.block < m) × (p.cell < cells_of p.block) × (s ≡ cells_above n bs p.block + p.cell)

  first_at_lem : (m s : ℕ) → s < cells_above n bs m → At m s (get_or (joined m places_of) s no_place)
  first_at_lem zero s h = absurd (not-suc-le-zero h)
  first_at_lem (suc m) s h =
      by_less s (cells_above n bs m)
      (λ l. let p = first_at_lem m s l in subst (At (suc m) s) (sym (first_below m s l)) (omega (arith, p.0), p.1, p.2))
      (λ l.
      let e : cells_above n bs m + (s - cells_above n bs m) ≡ s = omega arith in
      subst (At (suc m) s) (sym (first_last m (s - cells_above n bs m) (omega arith)) ∙ ap (λ (i : ℕ). get_or (joined (suc m) places_of) i no_place) e)
      (omega arith, omega arith, sym e))

  first_of : (m b c : ℕ) → b < m → c < cells_of b → get_or (joined m places_of) (cells_above n bs b + c) no_place ≡ record { block = b; cell = c }
  first_of zero b c h g = absurd (not-suc-le-zero h)
  first_of (suc m) b c h g =
      last_or_below b m h
      (λ e.
      let g' : c < cells_of m = subst (λ (i : ℕ). c < cells_of i) e g in
      ap (λ (i : ℕ). get_or (joined (suc m) places_of) (cells_above n bs i + c) no_place) e ∙ first_last m c g'
      ∙ ap (λ (i : ℕ). record { block = i; cell = c }) (sym e))
      (λ l. first_below m (cells_above n bs b + c) (omega (arith, sum_at cells_of m b l)) ∙ first_of m b c l g)

pub length-places : (n : ℕ) (bs : List Block) → length (places n bs) ≡ cells_in n bs
unfolding places cells_in
length-places n bs = length-first n bs (length bs)

-- the s-th place to read: its block and cell
pub place_at : (n : ℕ) (bs : List Block) (s : ℕ) → s < cells_in n bs
    → ((get_or (places n bs) s no_place).block < length bs)
    × ((get_or (places n bs) s no_place).cell < due_cells_of n (block_at bs (get_or (places n bs) s no_place).block))
    × (s ≡ cells_above n bs (get_or (places n bs) s no_place).block + (get_or (places n bs) s no_place).cell)
unfolding places cells_in
place_at n bs s h = first_at_lem n bs (length bs) s h

-- where a cell stands among the places
pub place_of : (n : ℕ) (bs : List Block) (b c : ℕ) → b < length bs → c < due_cells_of n (block_at bs b)
    → get_or (places n bs) (cells_above n bs b + c) no_place ≡ record { block = b; cell = c }
unfolding places
place_of n bs b c h g = first_of n bs (length bs) b c h g

-- the cells up to block b's last are among all
pub cells-within : (n : ℕ) (bs : List Block) (b : ℕ) → b < length bs → cells_above n bs b + due_cells_of n (block_at bs b) ≤ cells_in n bs
unfolding cells_in
cells-within n bs b h = sum_at (λ i. due_cells_of n (block_at bs i)) (length bs) b h

-- a step first
pub stepped_front : (n : ℕ) (k : Book) → stepped n (book_step k).state ≡ stepped (suc n) k
unfolding stepped
stepped_front zero k = refl
stepped_front (suc n) k = ap (λ (x : Book). (book_step x).state) (stepped_front n k)

-- one cell more
read_next : (B : Block) (w c : ℕ) → read_cell (after_cells B w c) c ≡ after_cells B w (suc c)
unfolding read_cell run_by ran_one_by
read_next B w c = refl

read-due : (n : ℕ) (B : Block) (w c : ℕ) → is_due n B ≡ true → read_cell (in_scan n B w c) c ≡ in_scan n B w (suc c)
read-due n B w c e =
    ap (λ (x : Block). read_cell x c) (cond_yes (is_due n B) (after_cells B w c) B e) ∙ read_next B w c
    ∙ sym (cond_yes (is_due n B) (after_cells B w (suc c)) B e)

module _ (n : ℕ) (bs : List Block) (ws : List ℕ) where
  abbrev block_after : ℕ → ℕ → Block
  block_after s b = in_scan n (block_at bs b) (get_or ws b 0) (read_in n bs s b)

  abbrev book_after_steps : ℕ → Book
  book_after_steps s = record { blocks = tab (length bs) (block_after s); to_read = drop s (places n bs); next = number_after n }

  at_latch : (ps : List Place) → (book_latch (record { blocks = bs; to_read = ps; next = n }) ws).state ≡ book_after_steps 0
  unfolding book_latch latched_to wiped run_by
  at_latch ps =
      ap (λ (l : List Block). record { blocks = l; to_read = places n bs; next = number_after n })
      (tab_ext (λ b. latched_to n (get_or ws b 0) (block_at bs b)) (block_after 0) (length bs)
      (λ b h. let z : 0 ≡ read_in n bs 0 b = omega arith in ap (in_scan n (block_at bs b) (get_or ws b 0)) z))

  module _ (s b c : ℕ) (held : b < length bs) (inside : c < due_cells_of n (block_at bs b)) (here : s ≡ cells_above n bs b + c) where
    stored_at : (a : ℕ) → a < length bs → get_or (set (tab (length bs) (block_after s)) b (block_after (suc s) b)) a no_block ≡ block_after (suc s) a
    stored_at a h =
        by_equal a b
        (λ e.
        ap (λ (i : ℕ). get_or (set (tab (length bs) (block_after s)) b (block_after (suc s) b)) i no_block) e
        ∙ get_or-set_same (tab (length bs) (block_after s)) b (block_after (suc s) b) no_block (omega (arith, length-tab (block_after s) (length bs)))
        ∙ ap (block_after (suc s)) (sym e))
        (λ e.
        let same : read_in n bs s a ≡ read_in n bs (suc s) a =
        by_less a b (λ l. omega (arith, sum_at (λ i. due_cells_of n (block_at bs i)) b a l))
        (λ l. omega (arith, sum-fewer (λ i. due_cells_of n (block_at bs i)) (suc b) a (omega arith))) in
        get_or-set_other (tab (length bs) (block_after s)) b a (block_after (suc s) b) no_block e ∙ get_or-tab (block_after s) no_block (length bs) a h
        ∙ ap (in_scan n (block_at bs a) (get_or ws a 0)) same)

    -- what the step stores
    read_here : read_cell (block_at (tab (length bs) (block_after s)) b) c ≡ block_after (suc s) b
    read_here =
        let now : read_in n bs s b ≡ c = omega arith in
        let next : suc c ≡ read_in n bs (suc s) b = omega arith in
        ap (λ (x : Block). read_cell x c) (get_or-tab (block_after s) no_block (length bs) b held ∙ ap (in_scan n (block_at bs b) (get_or ws b 0)) now)
        ∙ read-due n (block_at bs b) (get_or ws b 0) c (some-due n (block_at bs b) c inside) ∙ ap (in_scan n (block_at bs b) (get_or ws b 0)) next

    blocks-next : set (tab (length bs) (block_after s)) b (read_cell (block_at (tab (length bs) (block_after s)) b) c) ≡ tab (length bs) (block_after (suc s))
    blocks-next =
        let long : length (set (tab (length bs) (block_after s)) b (block_after (suc s) b)) ≡ length bs =
        length-set (tab (length bs) (block_after s)) b (block_after (suc s) b) ∙ length-tab (block_after s) (length bs) in
        ap (set (tab (length bs) (block_after s)) b) read_here
        ∙ ext_get_or no_block (set (tab (length bs) (block_after s)) b (block_after (suc s) b)) (tab (length bs) (block_after (suc s)))
        (long ∙ sym (length-tab (block_after (suc s)) (length bs)))
        (λ a h.
        let l : a < length bs = omega (arith, h, long) in
        stored_at a l ∙ sym (get_or-tab (block_after (suc s)) no_block (length bs) a l))

  next : (s : ℕ) → s < cells_in n bs → (book_step (book_after_steps s)).state ≡ book_after_steps (suc s)
  unfolding book_step read_first
  next s h =
      let p = place_at n bs s h in
      let left : drop s (places n bs) ≡ get_or (places n bs) s no_place ∷ drop (suc s) (places n bs) =
      drop-cons (places n bs) s no_place (omega (arith, h, length-places n bs)) in
      ap (λ (l : List Place). (read_first (book_after_steps s) l).state) left
      ∙ ap (λ (l : List Block). record { blocks = l; to_read = drop (suc s) (places n bs); next = number_after n })
      (blocks-next s (get_or (places n bs) s no_place).block (get_or (places n bs) s no_place).cell p.0 p.1 p.2)

-- a latch and s steps
pub scanned : (k : Book) (ws : List ℕ) (s : ℕ) → s ≤ cells_in k.next k.blocks
    → stepped s (book_latch k ws).state ≡ book_after_steps k.next k.blocks ws s
unfolding stepped
scanned k ws zero h = at_latch k.next k.blocks ws k.to_read
scanned k ws (suc s) h =
    ap (λ (x : Book). (book_step x).state) (scanned k ws s (omega arith)) ∙ next k.next k.blocks ws s h

-- with nothing to read, a step changes nothing
pub rest-keeps : (k : Book) → k.to_read ≡ [] → (book_step k).state ≡ k
unfolding book_step read_first
rest-keeps k e = ap (λ (l : List Place). (read_first k l).state) e

-- steps past the last cell change nothing
over : (k : Book) (ws : List ℕ) (n : ℕ)
    → stepped (cells_in k.next k.blocks + n) (book_latch k ws).state ≡ stepped (cells_in k.next k.blocks) (book_latch k ws).state
unfolding stepped
over k ws zero = ap (λ (i : ℕ). stepped i (book_latch k ws).state) (add-zero (cells_in k.next k.blocks))
over k ws (suc n) =
    let all = cells_in k.next k.blocks in
    let e : all + suc n ≡ suc (all + n) = omega arith in
    let none : (stepped all (book_latch k ws).state).to_read ≡ [] =
    ap (λ (x : Book). x.to_read) (scanned k ws all (omega arith))
    ∙ drop_of_length-le (places k.next k.blocks) {i = all} (omega (arith, length-places k.next k.blocks)) in
    ap (λ (i : ℕ). stepped i (book_latch k ws).state) e ∙ ap (λ (x : Book). (book_step x).state) (over k ws n)
    ∙ rest-keeps (stepped all (book_latch k ws).state) none

pub scan_over : (k : Book) (ws : List ℕ) (s : ℕ) → cells_in k.next k.blocks ≤ s
    → stepped s (book_latch k ws).state ≡ stepped (cells_in k.next k.blocks) (book_latch k ws).state
scan_over k ws s h =
    let all = cells_in k.next k.blocks in
    let e : s ≡ all + (s - all) = omega arith in
    ap (λ (i : ℕ). stepped i (book_latch k ws).state) e ∙ over k ws (s - all)
