-- Rails number the fewest bits that tell the merged columns apart at each cut of a compiled block.
-- Assumes nothing.
use mathlib.Core.Path.{◌≡◌, sym, ◌∙◌, ap}
use mathlib.Core.Bool.{Bool, true}
use mathlib.Core.List.{List}
use Prim.Native.Nat.{ℕ, suc, ◌-◌, ◌^◌, ◌<◌}
use native.Mathlib.Omega.{arith}
use borrow.Author.Tests.{eq-eqb}
use Rattle.laws.specs.Bits.{flag}
use Rattle.laws.proofs.Cases.{cond_yes}
use Rattle.laws.proofs.Bits.{flag_is}
use Rattle.sheet_spec.specs.Job.{Job, t}
use Rattle.sheet_spec.specs.Table.{table}
use Rattle.reduction_spec.specs.Columns.{layers}
use Rattle.reduction_spec.specs.Merge.{reduced}
use Rattle.reduction_spec.proofs.Promises.{width-layer}
use Rattle.stored_spec.specs.StoredForm.{cut_byte, rail_byte, member, stored}
use Rattle.stored_spec.specs.Rails.{rails, rails_at}
use Rattle.stored_spec.proofs.Promises.{rails-enough, rails-least, rails_at_lem}
use Rattle.cutting_spec.specs.Compile.{made}
use Rattle.cutting_spec.proofs.Promises.{stored_cut, stored-rails, width_at}
use Rattle.bank_spec.specs.Book.{Block}
use Rattle.bank_spec.specs.Demand3.{CompiledBy, FewestBits, merged_columns}
use Rattle.laws.proofs.DifferentWords.{different_words}
use Rattle.bank_spec.proofs.CompiledBlocks.{compiled-records}

pub fewest-bits : (w : ℕ) → FewestBits (rails w) w
fewest-bits w =
    record {
      enough = record { code = λ c. c; fits = λ c l. omega (arith, rails-enough w); apart = λ c d p q e. e };
      fewest = λ q told. rails-least w q (different_words w (2 ^ q) told.code told.fits told.apart);
    }

-- the rails stored at a cut
made-rails : (j : Job) (s : List ℕ) (i : ℕ) → i < t j → cut_byte (made j (table j s)).records i ≡ 1
    → rail_byte (made j (table j s)).records i ≡ rails (merged_columns j s (t j - suc i))
unfolding made stored
made-rails j s i l cut =
    let f = reduced j (table j s) in
    let ws = (made j (table j s)).widths in
    let cuts = (made j (table j s)).cuts in
    let h = t j - suc i in
    let b : Bool = member h cuts in
    let is : flag b ≡ 1 = sym (stored_cut j ws cuts (t j) i l) ∙ cut in
    let holds : b ≡ true = sym (flag_is b) ∙ eq-eqb (flag b) 1 is in
    stored-rails j ws cuts (t j) i l ∙ cond_yes b (rails_at j ws h) 0 holds ∙ rails_at_lem j ws h (omega arith)
    ∙ ap rails (width_at (layers j f) h ∙ width-layer j f h (omega arith))

pub compiled-rails : (j : Job) (s : List ℕ) (B : Block) → CompiledBy j s B → (i : ℕ) → i < t j → cut_byte B.records i ≡ 1
    → FewestBits (rail_byte B.records i) (merged_columns j s (t j - suc i))
compiled-rails j s B c i l cut =
    let same = compiled-records j s B c in
    let is : rail_byte B.records i ≡ rails (merged_columns j s (t j - suc i)) =
    ap (λ (R : List ℕ). rail_byte R i) same ∙ made-rails j s i l (ap (λ (R : List ℕ). cut_byte R i) (sym same) ∙ cut) in
    rw is (fewest-bits (merged_columns j s (t j - suc i)))
