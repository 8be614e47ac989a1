-- What an admission that the book accepts has, and the blocks in the book after it.
-- Assumes nothing.
use mathlib.Core.Path.{◌≡◌, sym, ◌∙◌, ap, ap₂, subst}
use mathlib.Core.Bool.{Bool, true, not, ◌||◌}
use mathlib.Core.List.{List, [], ◌∷◌, map}
use Prim.Native.Nat.{ℕ, suc, ◌+◌, ◌<◌, ◌≤◌}
use native.Mathlib.Numerals.{add-one}
use native.Mathlib.Omega.{arith}
use lib.Dec.{leb, ltb}
use lib.ListN.{length, length-append, length-map, get_or-append}
use lib.Seq.{get_or_at}
use borrow.Author.Tests.{leb-false, ltb-false, not-false}
use Rattle.laws.specs.Tests.{any, sum}
use Rattle.laws.proofs.Cases.{last_or_below, or_split, cond-zero}
use Rattle.laws.proofs.Counts.{sum_ext}
use Rattle.laws.proofs.Parts.{map_at}
use Rattle.laws.proofs.Tests.{any_out}
use Rattle.stored_spec.specs.StoredForm.{well_formed, row_count}
use Rattle.stored_spec.specs.RowBytes.{two_bytes, room}
use Rattle.bank_spec.specs.Due.{timed, due_cells}
use Rattle.bank_spec.specs.Calls.{Handed}
use Rattle.bank_spec.specs.Book.{Block, Book, no_block, block_at, due_cells_of, cells_in, rows_in, book_refusal, wiped, new_block, entered}

pub record Admits (S m : ℕ) (bs : List Block) (h : Handed) : Type 0 where
  pub well : well_formed h.records h.rows ≡ true
  pub timing : timed h.period h.phase ≡ true
  pub few : length bs < 8
  pub cells : (n : ℕ) → n < 8 → cells_in n bs + due_cells h.period h.phase n h.records ≤ S
  pub fits : room two_bytes (rows_in bs + row_count h.records) ≤ m
  pub most : rows_in bs + row_count h.records ≤ 32768

pub admits : (S m : ℕ) (bs : List Block) (h : Handed) → book_refusal S m bs h ≡ 0 → Admits S m bs h
unfolding book_refusal
admits S m bs h e =
    let over : ℕ → Bool = λ n. ltb S (cells_in n bs + due_cells h.period h.phase n h.records) in
    let rows = rows_in bs + row_count h.records in
    let a = cond-zero (not (well_formed h.records h.rows)) 11 _ e in
    let t = cond-zero (not (timed h.period h.phase)) 15 _ a.1 in
    let b = cond-zero (leb 8 (length bs)) 12 _ t.1 in
    let c = cond-zero (any 8 over) 13 _ b.1 in
    let d = cond-zero (ltb m (room two_bytes rows) || ltb 32768 rows) 10 _ c.1 in
    let f = or_split (ltb m (room two_bytes rows)) (ltb 32768 rows) d.0 in
    record {
      well = not-false (well_formed h.records h.rows) a.0;
      timing = not-false (timed h.period h.phase) t.0;
      few = leb-false 8 (length bs) b.0;
      cells = λ n l. ltb-false S (cells_in n bs + due_cells h.period h.phase n h.records) (any_out over 8 c.0 n l);
      fits = ltb-false m (room two_bytes rows) f.0;
      most = ltb-false 32768 rows f.1;
    }

module _ (k : Book) (h : Handed) where
  pub entered-length : length (entered k h).blocks ≡ suc (length k.blocks)
  unfolding entered
  entered-length =
      length-append (map (wiped 0) k.blocks) (new_block h ∷ []) ∙ ap (λ (n : ℕ). n + 1) (length-map k.blocks (wiped 0))
      ∙ add-one (length k.blocks)

  pub entered_old : (b : ℕ) → b < length k.blocks → block_at (entered k h).blocks b ≡ wiped 0 (block_at k.blocks b)
  unfolding entered
  entered_old b l =
      get_or-append (map (wiped 0) k.blocks) (new_block h ∷ []) no_block b (omega (arith, l, length-map k.blocks (wiped 0)))
      ∙ map_at (wiped 0) k.blocks no_block no_block b l

  pub entered_new : block_at (entered k h).blocks (length k.blocks) ≡ new_block h
  unfolding entered
  entered_new = get_or_at (map (wiped 0) k.blocks) (new_block h) [] no_block (length k.blocks) (length-map k.blocks (wiped 0))

  pub entered-each : (P : Block → Type 0) → P (new_block h) → ((b : ℕ) → b < length k.blocks → P (wiped 0 (block_at k.blocks b)))
      → (b : ℕ) → b < length (entered k h).blocks → P (block_at (entered k h).blocks b)
  entered-each P p ps b l =
      last_or_below b (length k.blocks) (omega (arith, l, entered-length))
      (λ e. subst P (sym (ap (λ (i : ℕ). block_at (entered k h).blocks i) e ∙ entered_new)) p)
      (λ l. subst P (sym (entered_old b l)) (ps b l))

  pub entered-cells : (n : ℕ) → cells_in n (entered k h).blocks ≡ cells_in n k.blocks + due_cells h.period h.phase n h.records
  unfolding cells_in due_cells_of wiped
  entered-cells n =
      let F : ℕ → ℕ = λ b. due_cells_of n (block_at (entered k h).blocks b) in
      ap (λ (m : ℕ). sum m F) entered-length
      ∙ ap₂ (λ (a b : ℕ). a + b)
      (sum_ext F (λ b. due_cells_of n (block_at k.blocks b)) (length k.blocks) (λ b l. ap (due_cells_of n) (entered_old b l)))
      (ap (due_cells_of n) entered_new)
