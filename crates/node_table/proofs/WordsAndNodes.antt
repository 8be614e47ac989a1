-- The compiler over words and over node records: the same answer, and the nodes of the words are the nodes of the table.
-- Assumes nothing.
use mathlib.Core.Path.{◌≡◌, refl, sym, ◌∙◌, ap, ap₂, subst}
use mathlib.Core.Bool.{Bool, true, false, cond}
use mathlib.Core.List.{List, ◌++◌}
use Prim.Native.Nat.{ℕ, ◌+◌, ◌*◌, ◌<◌, ◌≤◌}
use native.Mathlib.Nat.{zero-add}
use native.Mathlib.Omega.{arith}
use borrow.Author.Tests.{ltb-false, eqb-true}
use lib.Dec.{eqb, ltb}
use lib.ListN.{length, get_or, take, drop, get_or-append}
use lib.Seq.{get_or-take, length-take-le}
use Rattle.laws.specs.Lists.{tab, puts}
use Rattle.laws.proofs.Lists.{tab_ext, tab_of}
use Rattle.laws.proofs.Puts.{puts_none, puts-filled}
use Rattle.sheet_spec.specs.Job.{Job, t}
use Rattle.sheet_spec.specs.Refusals.{sheet_refusal}
use Rattle.sheet_spec.specs.Table.{table}
use Rattle.reduction_spec.specs.Merge.{refuse7}
use Rattle.reduction_spec.specs.Diagram.{node, node_words}
use Rattle.reduction_spec.specs.declared.Node.{Node}
use Rattle.reduction_spec.proofs.Promises.{length-node_words, words_height, words-low, words-high, nodes_fit}
use Rattle.cutting_spec.specs.Choice.{refuse8}
use Rattle.cutting_spec.specs.Compile.{Made, made, totals, CompiledAs, Compiled, refusal, acceptance, lend, reduce, compile_as, compile, compile_words}
use Rattle.cutting.specs.Outcome.{Outcome, Answered, answered, outcome_of, outcome}
use Rattle.node_table.specs.Nodes.{no_node, node_in, words_for, node_outcome_of, node_outcome}
use Rattle.node_table.proofs.words.LentWords.{words_for_most, short-same, room-same}

-- nodes read back from words that begin with them
words-nodes : (ns : List Node) (n : ℕ) (rest zs : List ℕ) → length ns * 3 ≤ n → take n zs ≡ node_words ns ++ rest → tab (length ns) (node_in zs) ≡ ns
words-nodes ns n rest zs room e =
    let word : (i : ℕ) → i < length ns * 3 → get_or zs i 0 ≡ get_or (node_words ns) i 0 =
    λ i h.
    sym (get_or-take n zs i 0 (omega arith)) ∙ ap (λ (l : List ℕ). get_or l i 0) e
    ∙ get_or-append (node_words ns) rest 0 i (omega (arith, length-node_words ns)) in
    tab_ext (node_in zs) (λ i. get_or ns i no_node) (length ns)
    (λ i h.
    let x = get_or ns i no_node in
    ap (λ (a : ℕ). node a (get_or zs (i * 3 + 1) 0) (get_or zs (i * 3 + 2) 0)) (word (i * 3) (omega arith) ∙ words_height ns i)
    ∙ ap (λ (a : ℕ). node x.height a (get_or zs (i * 3 + 2) 0)) (word (i * 3 + 1) (omega arith) ∙ words-low ns i)
    ∙ ap (λ (a : ℕ). node x.height x.low a) (word (i * 3 + 2) (omega arith) ∙ words-high ns i))
    ∙ tab_of no_node ns

-- a choice by one test on both sides
cond-pair : {A B : Type 0} (P : A → B → Type 0) (b : Bool) {x y : A} {x' y' : B} → (b ≡ true → P x x') → (b ≡ false → P y y')
    → P (cond b x y) (cond b x' y')
cond-pair P true p q = p refl
cond-pair P false p q = q refl

module _ (nodes : List Node) where
  abbrev size : ℕ
  size = words_for (length nodes)

  -- c is what is made over words, d over the table. zs are words whose front holds c's
  record Alike (c : CompiledAs ℕ) (d : Compiled) : Type 0 where
    pub answer : c.answer ≡ d.answer
    pub records : c.records ≡ d.records
    pub rows : c.rows ≡ d.rows
    pub few : (answered d.answer).nodes * 3 ≤ 30720
    pub room : (answered d.answer).nodes ≤ length nodes
    pub table : (zs : List ℕ) → take size zs ≡ c.nodes → puts (answered d.answer).nodes (node_in zs) nodes ≡ d.nodes

  module _ (words records rows : List ℕ) (long : length words ≡ 30720) (j : Job) (s : List ℕ) where
    abbrev front : List ℕ
    front = take size words

    front_long : length front ≡ size
    front_long = length-take-le size words (omega (arith, words_for_most (length nodes)))

    both_refuse : (n : ℕ) → Alike (refusal node_words front records rows n) (refusal (λ xs. xs) nodes records rows n)
    unfolding refusal
    both_refuse n =
        record { answer = refl; records = refl; rows = refl; few = omega arith; room = omega arith; table = λ zs e. puts_none (node_in zs) nodes }

    module _ (c : Made) (few : length c.nodes ≤ 10240) where
      both_accept : length c.nodes ≤ length nodes → Alike (acceptance node_words front records rows j c) (acceptance (λ xs. xs) nodes records rows j c)
      unfolding acceptance totals
      both_accept room =
          let ns = c.nodes in
          record {
            answer = refl;
            records = refl;
            rows = refl;
            few = omega arith;
            room = room;
            table =
                λ zs e.
                puts-filled (node_in zs) (length ns) nodes room
                ∙ ap (λ (l : List Node). l ++ drop (length ns) nodes)
                (words-nodes ns size (drop (0 + length (node_words ns)) front) zs (room-same (length nodes) (length ns) few room) e)
                ∙ ap (λ (k : ℕ). ns ++ drop k nodes) (sym (zero-add (length ns)));
          }

      both-lend : Alike (lend node_words front records rows j c) (lend (λ xs. xs) nodes records rows j c)
      unfolding lend
      both-lend =
          let short : ltb (length front) (length (node_words c.nodes)) ≡ ltb (length nodes) (length c.nodes) =
          ap₂ ltb front_long (length-node_words c.nodes) ∙ short-same (length nodes) (length c.nodes) few in
          let last : CompiledAs ℕ =
          cond (ltb (length rows) (length c.row_bytes)) (refusal node_words front records rows 11) (acceptance node_words front records rows j c) in
          let rest : CompiledAs ℕ = cond (ltb (length records) (4 * t j)) (refusal node_words front records rows 10) last in
          subst (λ (b : Bool). Alike (cond b (refusal node_words front records rows 9) rest) (lend (λ xs. xs) nodes records rows j c)) (sym short)
          (cond-pair Alike (ltb (length nodes) (length c.nodes)) (λ _. both_refuse 9)
          (λ room.
          cond-pair Alike (ltb (length records) (4 * t j)) (λ _. both_refuse 10)
          (λ _.
          cond-pair Alike (ltb (length rows) (length c.row_bytes)) (λ _. both_refuse 11)
          (λ _. both_accept (ltb-false (length nodes) (length c.nodes) room)))))

    both : Alike (compile_words front records rows j s) (compile nodes records rows j s)
    unfolding compile_words compile compile_as reduce made
    both =
        cond-pair Alike (eqb (sheet_refusal j s) 0)
        (λ e.
        cond-pair Alike (refuse7 j (table j s)) (λ _. both_refuse 7)
        (λ narrow.
        cond-pair Alike (refuse8 j (made j (table j s)).widths) (λ _. both_refuse 8)
        (λ _. both-lend (made j (table j s)) (nodes_fit j s (eqb-true (sheet_refusal j s) 0 e) narrow))))
        (λ _. both_refuse (sheet_refusal j s))

    -- what the compiler over the front of the words gives, and its nodes stored into the table
    abbrev over : Compiled
    over = compile nodes records rows j s

    module _ (r : Answered) (zs rs os : List ℕ)
        (known : outcome_of r (take (words_for (length nodes)) zs) rs os ≡ outcome (take (words_for (length nodes)) words) records rows j s) where
      same_answer : r ≡ answered (compile nodes records rows j s).answer
      unfolding outcome
      same_answer = ap (λ (o : Outcome). o.answer) known ∙ ap answered both.answer

      count_same : r.nodes ≡ (answered over.answer).nodes
      count_same = ap (λ (a : Answered). a.nodes) same_answer

      pub fill_room : (r.nodes * 3 ≤ 30720) × (r.nodes ≤ length nodes)
      fill_room = (omega (arith, count_same, both.few), omega (arith, count_same, both.room))

      -- the table after, and with it all that the compiler gives
      table_same : puts r.nodes (node_in zs) nodes ≡ (compile nodes records rows j s).nodes
      unfolding outcome
      table_same = ap (λ (k : ℕ). puts k (node_in zs) nodes) count_same ∙ both.table zs (ap (λ (o : Outcome). o.nodes) known)

      pub table-outcome : (ns : List Node) → ns ≡ puts r.nodes (node_in zs) nodes → node_outcome_of r ns rs os ≡ node_outcome nodes records rows j s
      unfolding outcome
      table-outcome ns stored =
          ap (λ (a : Answered). node_outcome_of a ns rs os) same_answer
          ∙ ap (λ (l : List Node). node_outcome_of (answered over.answer) l rs os) (stored ∙ table_same)
          ∙ ap (λ (l : List ℕ). node_outcome_of (answered over.answer) over.nodes l os) (ap (λ (o : Outcome). o.records) known ∙ both.records)
          ∙ ap (λ (l : List ℕ). node_outcome_of (answered over.answer) over.nodes over.records l) (ap (λ (o : Outcome). o.rows) known ∙ both.rows)
