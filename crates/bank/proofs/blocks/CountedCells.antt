-- The cells of each block held, counted once for all scans.
-- Assumes nothing.
use mathlib.Core.Path.{◌≡◌, refl, sym, ◌∙◌, ap}
use mathlib.Core.Bool.{true, cond}
use Prim.Native.Nat.{ℕ, ◌+◌, ◌<◌, ◌≤◌}
use native.Mathlib.Omega.{arith}
use lib.Dec.{leb, ltb}
use lib.ListN.{length, get_or, replicate, length-replicate, get_or-replicate}
use lib.Seq.{ext_get_or}
use borrow.Author.Tests.{lt-ltb, le-ltb}
use Rattle.laws.specs.Lists.{tab, puts}
use Rattle.laws.specs.Tests.{every}
use Rattle.laws.proofs.Cases.{by_less, cond_yes, cond_no, cond_same}
use Rattle.laws.proofs.Lists.{length-tab, get_or-tab}
use Rattle.laws.proofs.Puts.{length-puts, get_or-puts, get_or_unput}
use Rattle.laws.proofs.Tests.{every_ext}
use native.Mathlib.Nat.{add-zero}
use Rattle.stored_spec.specs.StoredForm.{cell_count}
use Rattle.bank_spec.specs.Due.{timed, due}
use Rattle.bank_spec.specs.declared.Bank.{Bank}
use Rattle.bank_spec.specs.State.{records_of, cells_before}
use Rattle.bank.proofs.timing.DueTests.{fits_at}

-- the cells of the first n blocks, stored into zeros
pub counts_stored : (k : Bank) (n : ℕ) → n ≤ 8 → puts n (λ i. cell_count (records_of k i)) (replicate 8 0) ≡ tab 8 (λ b. cond (ltb b n) (cell_count (records_of k b)) 0)
counts_stored k n h =
    let F : ℕ → ℕ = λ i. cell_count (records_of k i) in
    let G : ℕ → ℕ = λ b. cond (ltb b n) (cell_count (records_of k b)) 0 in
    let long : length (puts n F (replicate 8 0)) ≡ 8 = length-puts F n (replicate 8 0) ∙ length-replicate {A = ℕ} 8 0 in
    ext_get_or 0 (puts n F (replicate 8 0)) (tab 8 G) (long ∙ sym (length-tab G 8))
    (λ i p.
    let below : i < 8 = omega (arith, p, long) in
    let right : get_or (tab 8 G) i 0 ≡ G i = get_or-tab G 0 8 i below in
    by_less i n
    (λ l. get_or-puts F n (replicate 8 0) 0 i l (omega (arith, length-replicate {A = ℕ} 8 0)) ∙ sym (right ∙ cond_yes (ltb i n) (F i) 0 (lt-ltb i n l)))
    (λ l. get_or_unput F n (replicate 8 0) 0 i l ∙ get_or-replicate 8 i 0 0 below ∙ sym (right ∙ cond_no (ltb i n) (F i) 0 (le-ltb i n l))))

pub count_at : (k : Bank) (n : ℕ) (b : ℕ) → n ≤ 8 → b < n → get_or (tab 8 (λ b. cond (ltb b n) (cell_count (records_of k b)) 0)) b 0 ≡ cell_count (records_of k b)
count_at k n b h l =
    get_or-tab (λ b. cond (ltb b n) (cell_count (records_of k b)) 0) 0 8 b (omega arith) ∙ cond_yes (ltb b n) (cell_count (records_of k b)) 0 (lt-ltb b n l)

-- no cells more
pub none_more : (k : Bank) (n : ℕ) → every 8 (fits_at k n 1 0 0) ≡ every 8 (λ i. leb (cells_before k i n) k.limit)
none_more k n =
    every_ext (fits_at k n 1 0 0) (λ i. leb (cells_before k i n) k.limit) 8
    (λ i l. ap (λ (x : ℕ). leb x k.limit) (ap (λ (x : ℕ). cells_before k i n + x) (cond_same (due 1 0 i) 0) ∙ add-zero (cells_before k i n)))

pub timed_1 : timed 1 0 ≡ true
unfolding timed
timed_1 = refl
