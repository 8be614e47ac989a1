-- Inputs that no cell read so far uses do not matter to a scan in the book.
-- Assumes nothing.
use mathlib.Core.Path.{◌≡◌, refl, sym, ◌∙◌, ap, subst}
use mathlib.Core.List.{List, [], ◌∷◌}
use Prim.Native.Nat.{ℕ, zero, suc, ◌+◌, ◌≤◌, ◌<◌}
use native.Mathlib.Nat.{not-suc-le-zero, le_of_suc-le-suc}
use native.Mathlib.Omega.{arith}
use lib.ListN.{length, get_or, take, length-take}
use lib.Seq.{get_or-take}
use Rattle.laws.proofs.Cases.{by_test, cond_yes, cond_no}
use Rattle.stored_spec.specs.StoredForm.{cell_at}
use Rattle.stored_spec.specs.RowBytes.{two_bytes, row_value}
use Rattle.stored_spec.specs.Run.{AgreeOn, Running, run}
use Rattle.stored_spec.proofs.Promises.{same-run}
use Rattle.bank_spec.specs.Book.{Block, Place, Book, block_at, is_due, cells_in, places, book_latch}
use Rattle.bank_spec.specs.Demand3.{OnlyUnread}
use Rattle.bank_spec.proofs.Scans.{after_cells, in_scan, cells_above, read_in, no_place, stepped, length-places, place_of, cells-within}
use Rattle.bank_spec.proofs.LatchKeeps.{scanned_at}

-- what holds of the places read holds of each
unread_at : (bs : List Block) (ws vs : List ℕ) (ps : List Place) (i : ℕ) → OnlyUnread bs ws vs ps → i < length ps
    → AgreeOn (cell_at (block_at bs (get_or ps i no_place).block).records (get_or ps i no_place).cell).ins (get_or ws (get_or ps i no_place).block 0) (get_or vs (get_or ps i no_place).block 0)
unread_at bs ws vs [] i h l = absurd (not-suc-le-zero l)
unread_at bs ws vs (p ∷ ps) zero h l = h.0
unread_at bs ws vs (p ∷ ps) (suc i) h l = unread_at bs ws vs ps i h.1 (le_of_suc-le-suc l)

-- the cells of block b read so far
pub agree_read : (n : ℕ) (bs : List Block) (ws vs : List ℕ) (s : ℕ) → OnlyUnread bs ws vs (take s (places n bs)) → (b c : ℕ) → b < length bs → c < read_in n bs s b
    → AgreeOn (cell_at (block_at bs b).records c).ins (get_or ws b 0) (get_or vs b 0)
agree_read n bs ws vs s u b c h l =
    let within : cells_above n bs b + c < s = omega arith in
    let e : get_or (take s (places n bs)) (cells_above n bs b + c) no_place ≡ record { block = b; cell = c } =
    get_or-take s (places n bs) (cells_above n bs b + c) no_place within ∙ place_of n bs b c h (omega arith) in
    subst (λ (p : Place). AgreeOn (cell_at (block_at bs p.block).records p.cell).ins (get_or ws p.block 0) (get_or vs p.block 0)) e
    (unread_at bs ws vs (take s (places n bs)) (cells_above n bs b + c) u
    (rw (length-take s (places n bs), length-places n bs) (omega (arith, cells-within n bs b h))))

-- each block has set the same outputs and stands at the same rail word
pub same-scan : (k : Book) (ws vs : List ℕ) (s : ℕ) → s ≤ cells_in k.next k.blocks → OnlyUnread k.blocks ws vs (take s (places k.next k.blocks))
    → (b : ℕ) → b < length k.blocks
    → ((block_at (stepped s (book_latch k ws).state).blocks b).outputs ≡ (block_at (stepped s (book_latch k vs).state).blocks b).outputs)
    × ((block_at (stepped s (book_latch k ws).state).blocks b).rail ≡ (block_at (stepped s (book_latch k vs).state).blocks b).rail)
same-scan k ws vs s l u b h = (along (λ x. x.outputs) (λ x. x.outputs) (λ w. refl), along (λ x. x.rail) (λ x. x.rail) (λ w. refl))
  where
    B : Block
    B = block_at k.blocks b

    c : ℕ
    c = read_in k.next k.blocks s b

    is : (us : List ℕ) → block_at (stepped s (book_latch k us).state).blocks b ≡ in_scan k.next B (get_or us b 0) c
    is us = scanned_at k us s b l h

    same : run B.records B.rows (get_or ws b 0) c ≡ run B.records B.rows (get_or vs b 0) c
    same =
        same-run (row_value two_bytes B.rows) B.records (get_or ws b 0) (get_or vs b 0) c (λ i q. agree_read k.next k.blocks ws vs s u b i h q)

    -- what a run decides is the same
    along : {A : Type 0} (f : Block → A) (g : Running → A) → ((w : ℕ) → f (after_cells B w c) ≡ g (run B.records B.rows w c))
        → f (block_at (stepped s (book_latch k ws).state).blocks b) ≡ f (block_at (stepped s (book_latch k vs).state).blocks b)
    along f g q =
        ap f (is ws)
        ∙ by_test (is_due k.next B)
        (λ e.
        ap f (cond_yes (is_due k.next B) (after_cells B (get_or ws b 0) c) B e) ∙ q (get_or ws b 0) ∙ ap g same ∙ sym (q (get_or vs b 0))
        ∙ ap f (sym (cond_yes (is_due k.next B) (after_cells B (get_or vs b 0) c) B e)))
        (λ e.
        ap f (cond_no (is_due k.next B) (after_cells B (get_or ws b 0) c) B e) ∙ ap f (sym (cond_no (is_due k.next B) (after_cells B (get_or vs b 0) c) B e)))
        ∙ ap f (sym (is vs))
