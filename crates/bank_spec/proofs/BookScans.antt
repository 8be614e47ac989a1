-- Lists of calls in the book while a scan goes on: what they leave and what they read.
-- Assumes nothing.
use mathlib.Core.Path.{◌≡◌, refl, ◌∙◌, ap, ap₂, subst}
use mathlib.Core.Bool.{Bool, true, false, cond, false≢true}
use mathlib.Core.List.{List, [], ◌∷◌, ◌++◌}
use Prim.Native.Nat.{ℕ, suc, min}
use lib.Dec.{eqb}
use lib.ListN.{length, take, length-take}
use lib.Seq.{take-nil}
use Rattle.bank_spec.specs.Calls.{accepted, refused, numbered, Handed}
use Rattle.bank_spec.specs.Book.{Place, Book, cells_in, places, book_refusal, book_admit, entered, book_latch, read_first, book_step}
use Rattle.bank_spec.specs.CallLists.{Call, admission, latching, stepping, book_call, book_after, book_trace, read_of, reads_of, steps_of, ends, goes_on}
use Rattle.bank_spec.proofs.Scans.{stepped, stepped_front, length-places}

-- an admission that does not end the scan is refused: it changes nothing and reads nothing
pub refused-keeps : (S m : ℕ) (k : Book) (h : Handed) (rest : Bool) → cond (ends (admission h) (book_admit S m k h).answer) false rest ≡ true
    → ((book_admit S m k h).state ≡ k) × (read_of (book_admit S m k h).answer ≡ []) × (rest ≡ true)
    × (eqb (book_refusal S m k.blocks h) 0 ≡ false)
unfolding book_admit numbered ends read_of
refused-keeps S m k h rest e = by (eqb (book_refusal S m k.blocks h) 0) e
  where
    by : (t : Bool) → cond (ends (admission h) (cond t accepted (refused (book_refusal S m k.blocks h)))) false rest ≡ true
        → (cond t (entered k h) k ≡ k) × (read_of (cond t accepted (refused (book_refusal S m k.blocks h))) ≡ []) × (rest ≡ true)
        × (t ≡ false)
    by true e = absurd (false≢true e)
    by false e = (refl, refl, e, refl)

module _ (S m : ℕ) where
  after-goes : (k : Book) (since : List Call) → goes_on S m k since ≡ true → book_after S m k since ≡ stepped (steps_of since) k
  unfolding goes_on book_after book_call steps_of stepped ends
  after-goes k [] g = refl
  after-goes k (admission h ∷ cs) g =
      let q = refused-keeps S m k h (goes_on S m (book_admit S m k h).state cs) g in
      ap (λ (x : Book). book_after S m x cs) q.0 ∙ after-goes k cs (subst (λ (x : Book). goes_on S m x cs ≡ true) q.0 q.2)
  after-goes k (latching ws ∷ cs) g = absurd (false≢true g)
  after-goes k (stepping ∷ cs) g = after-goes (book_step k).state cs g ∙ stepped_front (steps_of cs) k

  -- one step: what it reads is taken from what is to be read
  one_read_lem : (k : Book) (ps rest : List Place) (n : ℕ) → k.to_read ≡ ps → rest ≡ take n (read_first k ps).state.to_read
      → read_of (read_first k ps).answer ++ rest ≡ take (suc n) ps
  unfolding read_first read_of
  one_read_lem k [] rest n q e = e ∙ ap (take n) q ∙ take-nil n
  one_read_lem k (p ∷ ps) rest n q e = ap (λ (l : List Place). p ∷ l) e

  reads-goes : (k : Book) (since : List Call) → goes_on S m k since ≡ true → reads_of (book_trace S m k since) ≡ take (steps_of since) k.to_read
  unfolding goes_on book_trace reads_of book_call book_step steps_of ends
  reads-goes k [] g = refl
  reads-goes k (admission h ∷ cs) g =
      let q = refused-keeps S m k h (goes_on S m (book_admit S m k h).state cs) g in
      ap₂ (λ (a : List Place) (x : Book). a ++ reads_of (book_trace S m x cs)) q.1 q.0
      ∙ reads-goes k cs (subst (λ (x : Book). goes_on S m x cs ≡ true) q.0 q.2)
  reads-goes k (latching ws ∷ cs) g = absurd (false≢true g)
  reads-goes k (stepping ∷ cs) g =
      one_read_lem k k.to_read (reads_of (book_trace S m (book_step k).state cs)) (steps_of cs) refl (reads-goes (book_step k).state cs g)

-- while a scan goes on only its steps count: an admission that is refused changes nothing
pub scan-goes : (S m : ℕ) (k : Book) (ws : List ℕ) (since : List Call) → goes_on S m (book_latch k ws).state since ≡ true
    → book_after S m (book_latch k ws).state since ≡ stepped (steps_of since) (book_latch k ws).state
scan-goes S m k ws since h = after-goes S m (book_latch k ws).state since h

-- the reads answered are the first places, in their order, as many as there are steps and cells
pub scan-reads : (S m : ℕ) (k : Book) (ws : List ℕ) (since : List Call) → goes_on S m (book_latch k ws).state since ≡ true
    → reads_of (book_trace S m (book_latch k ws).state since) ≡ take (steps_of since) (places k.next k.blocks)
unfolding book_latch
scan-reads S m k ws since h = reads-goes S m (book_latch k ws).state since h

pub scan_total : (S m : ℕ) (k : Book) (ws : List ℕ) (since : List Call) → goes_on S m (book_latch k ws).state since ≡ true
    → length (reads_of (book_trace S m (book_latch k ws).state since)) ≡ min (steps_of since) (cells_in k.next k.blocks)
scan_total S m k ws since h =
    ap (λ (l : List Place). length l) (scan-reads S m k ws since h) ∙ length-take (steps_of since) (places k.next k.blocks)
    ∙ ap (min (steps_of since)) (length-places k.next k.blocks)
