-- Line order and demand 3 (document 02, §4): a block that is compiled by a sheet is compiled by every arrangement of its records, and what is
-- allowed is the same.
-- Assumes nothing.
use mathlib.Core.Path.{◌≡◌, sym, ◌∙◌, ap}
use mathlib.Core.List.{List}
use Prim.Native.Nat.{ℕ, ◌*◌}
use lib.ListN.{take}
use Rattle.sheet_spec.specs.Job.{Job, t}
use Rattle.sheet_spec.specs.Values.{allows}
use Rattle.sheet_spec.specs.SameRecords.{SameRecords}
use Rattle.sheet_spec.proofs.Promises.{value_same}
use Rattle.stored_spec.specs.RowBytes.{two_bytes, room}
use Rattle.cutting_spec.specs.Compile.{Compiled, compile}
use Rattle.cutting_spec.proofs.Promises.{compile-same}
use Rattle.bank_spec.specs.Book.{Block}
use Rattle.bank_spec.specs.Demand3.{CompiledBy, SetAllowed}

module _ (s z : List ℕ) (h : SameRecords s z) where
  pub compiled-same : (j : Job) (B : Block) → CompiledBy j s B → CompiledBy j z B
  unfolding compile
  compiled-same j B c =
      let e : compile c.nodes c.records c.rows j s ≡ compile c.nodes c.records c.rows j z =
      compile-same s z h j (λ xs. xs) c.nodes c.records c.rows in
      record {
        nodes = c.nodes;
        records = c.records;
        rows = c.rows;
        totals = c.totals;
        accepted = sym (ap (λ (r : Compiled). r.answer) e) ∙ c.accepted;
        records_written = c.records_written ∙ ap (λ (r : Compiled). take (4 * t j) r.records) e;
        rows_written = c.rows_written ∙ ap (λ (r : Compiled). take (room two_bytes c.totals.rows) r.rows) e;
      }

  pub allowed_same : (w o v : ℕ) → SetAllowed s w o v → SetAllowed z w o v
  allowed_same w o v a = record { is_set = a.is_set; allowed = ap (λ (x : ℕ). allows x v) (sym (value_same s z h w o)) ∙ a.allowed }
