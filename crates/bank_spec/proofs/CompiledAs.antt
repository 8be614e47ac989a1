-- A block that the compiler writes is a compiled block of demand 3, whatever the elements of the node memory are: node records or words.
-- Assumes nothing.
use mathlib.Core.Path.{◌≡◌, refl, sym, ◌∙◌, ap}
use mathlib.Core.Bool.{Bool, true, false, true≢false}
use mathlib.Core.List.{List}
use Prim.Native.Nat.{ℕ, zero, suc, ◌*◌, ◌≤◌}
use native.Mathlib.Omega.{arith}
use borrow.Author.Tests.{le-ltb}
use lib.ListN.{length, take}
use Rattle.laws.proofs.Cases.{either}
use Rattle.sheet_spec.specs.Job.{Job, t}
use Rattle.sheet_spec.specs.Table.{table}
use Rattle.reduction_spec.specs.declared.Node.{Node}
use Rattle.stored_spec.specs.RowBytes.{two_bytes, room}
use Rattle.cutting_spec.specs.Compile.{Answer, refused, accepted, Totals, CompiledAs, made, refusal, acceptance, compile_as, compile}
use Rattle.cutting_spec.proofs.Promises.{case, refuses, accepts, decided}
use Rattle.bank_spec.specs.Book.{Block}
use Rattle.bank_spec.specs.Demand3.{CompiledBy}

unfoldable is_refused : Answer → Bool
is_refused (refused n) = true
is_refused (accepted a) = false

-- held gives the nodes in the elements of the node memory
module _ {A : Type 0} (held : List Node → List A) (nodes : List A) (records rows : List ℕ) (j : Job) (s : List ℕ) (T : Totals)
    (e : (compile_as held nodes records rows j s).answer ≡ accepted T) where
  -- where it accepts, no case of a refusal holds
  pub none : (n : ℕ) → n ≤ 11 → case held nodes records rows j s n ≡ false
  unfolding refusal is_refused
  none =
      either (decided held nodes records rows j s)
      (λ l.
      let is = refuses held nodes records rows j s l.0 l.1 l.2 in
      absurd (true≢false (sym (ap (λ (r : CompiledAs A). is_refused r.answer) is) ∙ ap is_refused e)))
      (λ h. h)

  abbrev table_nodes : List Node
  table_nodes = (made j (table j s)).nodes

  -- the same cases over a table of just as many node records
  none-table : (n : ℕ) → n ≤ 11 → case (λ xs. xs) table_nodes records rows j s n ≡ false
  none-table zero h = refl
  none-table (suc zero) h = none 1 h
  none-table (suc (suc zero)) h = none 2 h
  none-table (suc (suc (suc zero))) h = none 3 h
  none-table (suc (suc (suc (suc zero)))) h = none 4 h
  none-table (suc (suc (suc (suc (suc zero))))) h = none 5 h
  none-table (suc (suc (suc (suc (suc (suc zero)))))) h = none 6 h
  none-table (suc (suc (suc (suc (suc (suc (suc zero))))))) h = none 7 h
  none-table (suc (suc (suc (suc (suc (suc (suc (suc zero)))))))) h = none 8 h
  none-table (suc (suc (suc (suc (suc (suc (suc (suc (suc zero))))))))) h = le-ltb (length table_nodes) (length table_nodes) (omega arith)
  none-table (suc (suc (suc (suc (suc (suc (suc (suc (suc (suc zero)))))))))) h = none 10 h
  none-table (suc (suc (suc (suc (suc (suc (suc (suc (suc (suc (suc zero))))))))))) h = none 11 h
  none-table (suc (suc (suc (suc (suc (suc (suc (suc (suc (suc (suc (suc n)))))))))))) h = absurd (omega arith)

  as_held : compile_as held nodes records rows j s ≡ acceptance held nodes records rows j (made j (table j s))
  as_held = accepts held nodes records rows j s none

  as_table : compile table_nodes records rows j s ≡ acceptance (λ xs. xs) table_nodes records rows j (made j (table j s))
  unfolding compile
  as_table = accepts (λ xs. xs) table_nodes records rows j s none-table

  pub as_compiled : (B : Block) → B.records ≡ take (4 * t j) (compile_as held nodes records rows j s).records
      → B.rows ≡ take (room two_bytes T.rows) (compile_as held nodes records rows j s).rows → CompiledBy j s B
  unfolding acceptance
  as_compiled B p q =
      record {
        nodes = table_nodes;
        records = records;
        rows = rows;
        totals = T;
        accepted =
            ap (λ (r : CompiledAs Node). r.answer) as_table ∙ sym (ap (λ (r : CompiledAs A). r.answer) as_held) ∙ e;
        records_written =
            p ∙ ap (λ (r : CompiledAs A). take (4 * t j) r.records) as_held
            ∙ sym (ap (λ (r : CompiledAs Node). take (4 * t j) r.records) as_table);
        rows_written =
            q ∙ ap (λ (r : CompiledAs A). take (room two_bytes T.rows) r.rows) as_held
            ∙ sym (ap (λ (r : CompiledAs Node). take (room two_bytes T.rows) r.rows) as_table);
      }
