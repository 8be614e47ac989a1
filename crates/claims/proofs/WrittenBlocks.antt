-- What the compilers that ship write is a compiled block of demand 3: `cutting::compile` (`outcome-compiled`), `cascade_compile`
-- (`bytes-compiled`) and `node_table::compile` (`nodes-compiled`).
-- Assumes nothing.
use mathlib.Core.Path.{◌≡◌, sym, ◌∙◌, ap}
use mathlib.Core.Bool.{false≢true}
use mathlib.Core.List.{List}
use Prim.Native.Nat.{ℕ, zero, suc, ◌*◌}
use native.Mathlib.Omega.{arith}
use lib.ListN.{take}
use Rattle.laws.proofs.Cases.{either}
use Rattle.sheet_spec.specs.Job.{Job, t}
use Rattle.sheet_spec.specs.Table.{table}
use Rattle.reduction_spec.specs.declared.Node.{Node}
use Rattle.reduction_spec.specs.Diagram.{node_words}
use Rattle.stored_spec.specs.RowBytes.{two_bytes, room}
use Rattle.cutting_spec.specs.Compile.{accepted, Totals, CompiledAs, made, totals, refusal, acceptance, compile_as, compile, compile_words}
use Rattle.cutting_spec.proofs.Promises.{Lowest, refuses, accepts, decided}
use Rattle.bank_spec.specs.Book.{Block}
use Rattle.bank_spec.specs.Demand3.{CompiledBy}
use Rattle.bank_spec.proofs.Promises.{as_compiled}
use Rattle.cutting.specs.Outcome.{answered, outcome}
use Rattle.node_table.specs.Nodes.{node_outcome}
use Rattle.panel_calls.specs.Exported.{totals_of, compile_bytes}

-- held gives the nodes in the elements of the node memory
module _ {A : Type 0} (held : List Node → List A) (nodes : List A) (records rows : List ℕ) (j : Job) (s : List ℕ) where
  -- 0 is no refusal's number
  numbered : (n : ℕ) → Lowest held nodes records rows j s n → n ≡ 0 → ⊥
  numbered zero l e = false≢true l.holds
  numbered (suc n) l e = omega arith

  -- an answer whose structure says 0 is an acceptance, with the rows that it says
  zero-accepted : (answered (compile_as held nodes records rows j s).answer).refusal ≡ 0
      → (T : Totals) × ((compile_as held nodes records rows j s).answer ≡ accepted T)
      × (T.rows ≡ (answered (compile_as held nodes records rows j s).answer).rows)
  unfolding refusal acceptance
  zero-accepted e =
      either (decided held nodes records rows j s)
      (λ l.
      let is = refuses held nodes records rows j s l.0 l.1 l.2 in
      absurd (numbered l.0 l.2 (sym (ap (λ (r : CompiledAs A). (answered r.answer).refusal) is) ∙ e)))
      (λ none.
      let is = accepts held nodes records rows j s none in (
        totals j (made j (table j s)),
        ap (λ (r : CompiledAs A). r.answer) is,
        sym (ap (λ (r : CompiledAs A). (answered r.answer).rows) is),
      ))

  written-compiled : (answered (compile_as held nodes records rows j s).answer).refusal ≡ 0 → (B : Block)
      → B.records ≡ take (4 * t j) (compile_as held nodes records rows j s).records
      → B.rows ≡ take (room two_bytes (answered (compile_as held nodes records rows j s).answer).rows) (compile_as held nodes records rows j s).rows
      → CompiledBy j s B
  written-compiled e B p q =
      let (T, is, same) = zero-accepted e in
      as_compiled held nodes records rows j s T is B p
      (q ∙ ap (λ (n : ℕ). take (room two_bytes n) (compile_as held nodes records rows j s).rows) (sym same))

-- over a node table of words
module _ (nodes records rows : List ℕ) (j : Job) (s : List ℕ) where
  pub outcome-compiled : (outcome nodes records rows j s).answer.refusal ≡ 0 → (B : Block)
      → B.records ≡ take (4 * t j) (outcome nodes records rows j s).records
      → B.rows ≡ take (room two_bytes (outcome nodes records rows j s).answer.rows) (outcome nodes records rows j s).rows
      → CompiledBy j s B
  unfolding outcome compile_words
  outcome-compiled = written-compiled node_words nodes records rows j s

  -- as C gets it, with the widths beside
  pub bytes-compiled : (widths : List ℕ) → (compile_bytes nodes records rows widths j s).answer.refusal ≡ 0 → (B : Block)
      → B.records ≡ take (4 * t j) (compile_bytes nodes records rows widths j s).records
      → B.rows ≡ take (room two_bytes (compile_bytes nodes records rows widths j s).answer.rows) (compile_bytes nodes records rows widths j s).rows
      → CompiledBy j s B
  unfolding compile_bytes totals_of
  bytes-compiled widths = outcome-compiled

-- over a node table of node records
pub nodes-compiled : (nodes : List Node) (records rows : List ℕ) (j : Job) (s : List ℕ)
    → (node_outcome nodes records rows j s).answer.refusal ≡ 0 → (B : Block)
    → B.records ≡ take (4 * t j) (node_outcome nodes records rows j s).records
    → B.rows ≡ take (room two_bytes (node_outcome nodes records rows j s).answer.rows) (node_outcome nodes records rows j s).rows
    → CompiledBy j s B
unfolding compile
nodes-compiled nodes records rows j s = written-compiled (λ xs. xs) nodes records rows j s
