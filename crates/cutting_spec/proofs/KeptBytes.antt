-- What document 02 left as it was. A sheet without stop records has the answer and the three memories that it had before there were any (§3), and so has every sheet that was not refused with 4.
-- A sheet that the compiler of document 01 accepts keeps every byte (§1, §3): its answer and memories are those of today, unless it refuses with 4 or 6.
-- Assumes nothing.
use mathlib.Core.Path.{◌≡◌, sym, ◌∙◌, ap}
use mathlib.Core.Bool.{cond}
use mathlib.Core.List.{List}
use Prim.Native.Nat.{ℕ, suc}
use native.Mathlib.Omega.{arith}
use lib.Dec.{eqb}
use borrow.Author.Tests.{ne_eqb}
use Rattle.laws.proofs.Cases.{either, by_equal, cond_no}
use Rattle.sheet_spec.specs.Job.{Job}
use Rattle.sheet_spec.specs.Table.{table}
use Rattle.sheet_spec.proofs.Promises.{AllOrdinary, refusal_before, table_before, refusal-kept, table_kept, Kept, kept_or_4, named_refusal, kept_or_4_6}
use Rattle.reduction_spec.specs.declared.Node.{Node}
use Rattle.cutting_spec.specs.Compile.{Answer, refused, accepted, Totals, CompiledAs, refusal, reduce, compile_as}

number : Answer → ℕ
number (refused n) = n
number (accepted t) = 0

not-refused : (a : Totals) (n : ℕ) → accepted a ≡ refused (suc n) → ⊥
unfolding number
not-refused a n q = let z : ◌≡◌ {A = ℕ} 0 (suc n) = ap number q in absurd (omega arith)

-- held gives the nodes in the elements of the node memory
module _ {A : Type 0} (held : List Node → List A) (nodes : List A) (records rows : List ℕ) (j : Job) (s : List ℕ) where
  -- a compiler, by its sheet layer's refusal and table
  abbrev by_sheet : ℕ → List ℕ → CompiledAs A
  by_sheet n f = cond (eqb n 0) (reduce held nodes records rows j f) (refusal held nodes records rows n)

  -- before stop records; that of document 01
  unfoldable pub compile_before : CompiledAs A
  compile_before = by_sheet (refusal_before j s) (table_before j s)

  unfoldable pub compile_named : CompiledAs A
  compile_named = by_sheet (named_refusal j s) (table_before j s)

  same : (n : ℕ) → Kept j s n → compile_as held nodes records rows j s ≡ by_sheet n (table_before j s)
  unfolding compile_as
  same n k =
      ap (λ (i : ℕ). by_sheet i (table j s)) k.0
      ∙ by_equal n 0 (λ z. ap (by_sheet n) (k.1 z))
      (λ z. off (table j s) z ∙ sym (off (table_before j s) z))
    where
      off : (f : List ℕ) → (n ≡ 0 → ⊥) → by_sheet n f ≡ refusal held nodes records rows n
      off f z = cond_no (eqb n 0) (reduce held nodes records rows j f) (refusal held nodes records rows n) (ne_eqb n 0 z)

  pub ordinary-kept : AllOrdinary s → compile_as held nodes records rows j s ≡ compile_before
  unfolding compile_before
  ordinary-kept all = same (refusal_before j s) (refusal-kept s all j, λ z. table_kept s all j)

  pub kept_unless_4 : (compile_before.answer ≡ refused 4 → ⊥) → compile_as held nodes records rows j s ≡ compile_before
  unfolding compile_before refusal
  kept_unless_4 other =
      either (kept_or_4 j s) (λ k. same (refusal_before j s) k)
      (λ e. absurd (other (ap (λ (n : ℕ). (by_sheet n (table_before j s)).answer) e)))

  pub kept : (compile_named.answer ≡ refused 4 → ⊥) → (compile_named.answer ≡ refused 6 → ⊥) → compile_as held nodes records rows j s ≡ compile_named
  unfolding compile_named refusal
  kept four six =
      let at : (n : ℕ) → named_refusal j s ≡ n → (by_sheet (named_refusal j s) (table_before j s)).answer ≡ (by_sheet n (table_before j s)).answer =
      λ n e. ap (λ (i : ℕ). (by_sheet i (table_before j s)).answer) e in
      either (kept_or_4_6 j s) (λ k. same (named_refusal j s) k)
      (λ r. either r (λ e. absurd (four (at 4 e))) (λ e. absurd (six (at 6 e))))

  -- where it accepts
  pub accepted-kept : (a : Totals) → compile_named.answer ≡ accepted a → compile_as held nodes records rows j s ≡ compile_named
  accepted-kept a e = kept (λ four. not-refused a 3 (sym e ∙ four)) (λ six. not-refused a 5 (sym e ∙ six))
