-- Demand 2 of document 01, gathered. `compile` (cutting/src/lib.rt) ensures that its answer and the three memories after are `outcome`'s, and
-- that is `compile_as` for a node table of words. Here is what `compile_as` gives, for every job, sheet and memory:
-- - `refuses`, `accepts`, `decided`: each refusal exactly in its written case, the lowest first, and all lent memory then as it was; else
--   the totals, and each memory with what is made at its front;
-- - `no_list`, `best_list`, `only_list`: 8 exactly where no cut list is admissible, else the chosen list is the one best of all;
-- - `made-stored`, `made-read`: what is written is well formed, and reading it, then writing it gives the same bytes;
-- - `made-width`, `made_diagram`, `made_implies`: the widths are those of document 000, definition 3.5, and the diagram computes the
--   characteristic function of the function after all merges, which implies that of the sheet (definition 2.3);
-- - `sheet_diagram`, `sheet-width`, `merge_and`, passed on from reduction: before merging the diagram computes the sheet's own characteristic
--   function, with no bound on its nodes, and its widths are definition 3.5's; a merge replaces each column's by the AND over its clique
--   (document 000, algorithm 3.3);
-- - `made-rail`, `made-allowed`: for every word, the rail word at each cut is the number of the merged column, and in the end each output is
--   set to a value that the sheet allows.
-- That stored cascades survive in general, both ways, is in stored_spec, RoundTrips; that greedy cutting needs no more cells, in GreedyCells.
-- Assumes nothing.
use mathlib.Core.Path.{◌≡◌, refl, sym, ◌∙◌, ap}
use mathlib.Core.Logic.{◌⊎◌, inl, inr}
use mathlib.Core.Bool.{Bool, true, false, cond, true≢false}
use mathlib.Core.List.{List, [], ◌∷◌, Memᴰ}
use Prim.Native.Nat.{ℕ, ◌*◌, ◌/◌, ◌^◌, ◌<◌, ◌≤◌}
use native.Mathlib.Omega.{arith}
use lib.Dec.{eqb, ltb}
use lib.ListN.{length, get_or}
use borrow.Author.Tests.{eq-eqb, ne_eqb}
use Rattle.laws.specs.Tests.{least}
use Rattle.laws.specs.Lists.{written}
use Rattle.laws.proofs.Cases.{either, by_less, cond_yes, cond_no}
use Rattle.laws.proofs.Find.{least_is, least-hit, least_before}
use Rattle.laws.specs.Bits.{flag}
use Rattle.laws.proofs.Bits.{flag_is}
use Rattle.sheet_spec.specs.Job.{Job, t, ins, input_list, word_of, number_of}
use Rattle.sheet_spec.specs.Characteristic.{chi}
use Rattle.sheet_spec.specs.Values.{value, allows}
use Rattle.sheet_spec.specs.Refusals.{refuse1, refuse2, refuse3, refuse4, refuse5, refuse6, sheet_refusal}
use Rattle.sheet_spec.specs.Table.{table}
use Rattle.reduction_spec.specs.declared.Node.{Node}
use Rattle.reduction_spec.specs.Columns.{layers, layer, number_at}
use Rattle.reduction_spec.specs.Merge.{reduced, refuse7}
use Rattle.reduction_spec.specs.Walk.{node_walk}
use Rattle.reduction_spec.specs.Cofactors.{inputs_in, outputs_in, chi_of, cofactor_width}
use Rattle.reduction_spec.proofs.Promises.{width-layer, chi-sheet, final_implies, final_width, final_diagram}
pub use Rattle.reduction_spec.proofs.Promises.{sheet_diagram, sheet-width, merge_and}
use Rattle.cutting_spec.specs.Cuts.{CutList, cut_lists}
use Rattle.cutting_spec.specs.Choice.{admissible, better, is_none, chosen, refuse8}
use Rattle.stored_spec.specs.StoredForm.{well_formed}
use Rattle.stored_spec.specs.Run.{run}
use Rattle.stored_spec.specs.ReadWrite.{read, was_read, not_read, cascade_of, write, written_as}
use Rattle.cutting_spec.specs.Compile.{made, refusal, acceptance, lend, reduce, compile_as}
use Rattle.cutting_spec.proofs.RailCounts.{width_at}
use Rattle.cutting_spec.proofs.CutLists.{member_of, of_falls}
use Rattle.cutting_spec.proofs.Better.{better_total, best_of}
use Rattle.cutting_spec.proofs.ChosenCuts.{cuts-none}
use Rattle.stored_spec.proofs.Promises.{read-write}
use Rattle.cutting_spec.proofs.MadeCascade.{made-formed, made-emits, made_all}

-- the first of eleven tests that holds, as nested choices and as a search
first_case : {C : Type 0} (r : ℕ → C) (a : C) (b1 b2 b3 b4 b5 b6 b7 b8 b9 b10 b11 : Bool)
    → cond (eqb (cond b1 1 (cond b2 2 (cond b3 3 (cond b4 4 (cond b5 5 (cond b6 6 0)))))) 0)
    (cond b7 (r 7) (cond b8 (r 8) (cond b9 (r 9) (cond b10 (r 10) (cond b11 (r 11) a)))))
    (r (cond b1 1 (cond b2 2 (cond b3 3 (cond b4 4 (cond b5 5 (cond b6 6 0)))))))
    ≡ cond (eqb (least 12 (λ n. get_or (false ∷ b1 ∷ b2 ∷ b3 ∷ b4 ∷ b5 ∷ b6 ∷ b7 ∷ b8 ∷ b9 ∷ b10 ∷ b11 ∷ []) n false)) 12) a
    (r (least 12 (λ n. get_or (false ∷ b1 ∷ b2 ∷ b3 ∷ b4 ∷ b5 ∷ b6 ∷ b7 ∷ b8 ∷ b9 ∷ b10 ∷ b11 ∷ []) n false)))
first_case r a true b2 b3 b4 b5 b6 b7 b8 b9 b10 b11 = refl
first_case r a false true b3 b4 b5 b6 b7 b8 b9 b10 b11 = refl
first_case r a false false true b4 b5 b6 b7 b8 b9 b10 b11 = refl
first_case r a false false false true b5 b6 b7 b8 b9 b10 b11 = refl
first_case r a false false false false true b6 b7 b8 b9 b10 b11 = refl
first_case r a false false false false false true b7 b8 b9 b10 b11 = refl
first_case r a false false false false false false true b8 b9 b10 b11 = refl
first_case r a false false false false false false false true b9 b10 b11 = refl
first_case r a false false false false false false false false true b10 b11 = refl
first_case r a false false false false false false false false false true b11 = refl
first_case r a false false false false false false false false false false true = refl
first_case r a false false false false false false false false false false false = refl

-- held gives the nodes in the elements of the node memory
module _ {A : Type 0} (held : List Node → List A) (nodes : List A) (records rows : List ℕ) (j : Job) (s : List ℕ) where
  -- the written case of refusal n
  abbrev pub case : ℕ → Bool
  case n =
      get_or
      (false
      ∷ refuse1 j ∷ refuse2 j ∷ refuse3 s ∷ refuse4 j s ∷ refuse5 j s ∷ refuse6 j s
      ∷ refuse7 j (table j s)
      ∷ refuse8 j (made j (table j s)).widths
      ∷ ltb (length nodes) (length (held (made j (table j s)).nodes))
      ∷ ltb (length records) (4 * t j)
      ∷ ltb (length rows) (length (made j (table j s)).row_bytes)
      ∷ []) n false

  -- n is the lowest refusal whose case holds
  pub record Lowest (n : ℕ) : Type 0 where
    pub holds : case n ≡ true
    pub lower : (i : ℕ) → i < n → case i ≡ false

  first : ℕ
  first = least 12 case

  by_first : compile_as held nodes records rows j s
      ≡ cond (eqb first 12) (acceptance held nodes records rows j (made j (table j s))) (refusal held nodes records rows first)
  unfolding first compile_as reduce lend sheet_refusal
  by_first =
      first_case (refusal held nodes records rows) (acceptance held nodes records rows j (made j (table j s))) (refuse1 j) (refuse2 j)
      (refuse3 s) (refuse4 j s) (refuse5 j s) (refuse6 j s) (refuse7 j (table j s)) (refuse8 j (made j (table j s)).widths)
      (ltb (length nodes) (length (held (made j (table j s)).nodes))) (ltb (length records) (4 * t j))
      (ltb (length rows) (length (made j (table j s)).row_bytes))

  first_is : (n : ℕ) → n < 12 → Lowest n → first ≡ n
  unfolding first
  first_is n h l = least_is case 12 n (omega arith) l.lower (λ p. l.holds)

  -- a refusal in its case: the answer is the number alone, and nothing lent changes
  pub refuses : (n : ℕ) → n ≤ 11 → Lowest n → compile_as held nodes records rows j s ≡ refusal held nodes records rows n
  unfolding first
  refuses n h l =
      let e : first ≡ n = first_is n (omega arith) l in
      by_first ∙ cond_no (eqb first 12) _ _ (ne_eqb first 12 (λ z. absurd (omega arith))) ∙ ap (refusal held nodes records rows) e

  -- no case: acceptance
  pub accepts : ((n : ℕ) → n ≤ 11 → case n ≡ false) → compile_as held nodes records rows j s ≡ acceptance held nodes records rows j (made j (table j s))
  unfolding first
  accepts none =
      let e : first ≡ 12 = least_is case 12 12 (omega arith) (λ i h. none i (omega arith)) (λ p. absurd (omega arith)) in
      by_first ∙ cond_yes (eqb first 12) _ _ (eq-eqb first 12 e)

  -- there is no third: some lowest case, or none
  pub decided : ((n : ℕ) × (n ≤ 11) × Lowest n) ⊎ ((n : ℕ) → n ≤ 11 → case n ≡ false)
  decided =
      by_less (least 12 case) 12
      (λ l. inl (least 12 case, omega arith, record { holds = least-hit case 12 l; lower = least_before case 12 }))
      (λ l. inr (λ n h. least_before case 12 n (omega (arith, l))))

-- 8: the cut lists of a job at given widths
module _ (j : Job) (ws : List ℕ) where
  listed : (l : List ℕ) → Memᴰ l (cut_lists (t j)) → is_none j ws l ≡ false
  listed l m = cuts-none j ws (of_falls (t j) l m)

  -- no list is admissible
  pub no_list : refuse8 j ws ≡ true → (l : List ℕ) → CutList (t j) l → admissible j ws l ≡ false
  unfolding refuse8 chosen
  no_list e l c =
      either (best_of j ws (cut_lists (t j)) listed) (λ u. u.1 l (member_of c))
      (λ p. absurd (true≢false (sym e ∙ listed (chosen j ws) p.among)))

  -- there is one, and it is the best
  pub best_list : refuse8 j ws ≡ false
      → CutList (t j) (chosen j ws) × (admissible j ws (chosen j ws) ≡ true)
      × ((l : List ℕ) → CutList (t j) l → admissible j ws l ≡ true → better j ws l (chosen j ws) ≡ false)
  unfolding refuse8 chosen is_none
  best_list e =
      either (best_of j ws (cut_lists (t j)) listed) (λ u. absurd (true≢false (sym (ap (is_none j ws) u.0) ∙ e)))
      (λ p. (of_falls (t j) (chosen j ws) p.among, p.good, λ l c a. p.none-better l (member_of c) a))

  -- and the only one
  pub only_list : refuse8 j ws ≡ false → (l : List ℕ) → CutList (t j) l → admissible j ws l ≡ true
      → ((k : List ℕ) → CutList (t j) k → admissible j ws k ≡ true → better j ws k l ≡ false) → chosen j ws ≡ l
  only_list e l c a best =
      let b = best_list e in
      better_total j ws b.0 c (best (chosen j ws) b.0 b.1) (b.2 l c a)

-- a job and sheet without a refusal from 1 to 6
module _ (j : Job) (s : List ℕ) (e : sheet_refusal j s ≡ 0) where
  -- the widths, at the heights 0 to t, are those of definition 3.5
  pub made-width : (h : ℕ) → h ≤ t j → get_or (made j (table j s)).widths h 0 ≡ cofactor_width j (reduced j (table j s)) h
  unfolding made
  made-width h l =
      let f = reduced j (table j s) in
      width_at (layers j f) h ∙ width-layer j f h l ∙ final_width j s e h l

  -- the nodes, walked from node 2 with the values z of all variables, end at 1 exactly where the final function's chi is true
  pub made_diagram : (z : ℕ) → node_walk (made j (table j s)).nodes z (t j) 2 ≡ flag (chi_of j (reduced j (table j s)) z)
  unfolding made
  made_diagram z = final_diagram j s e z

  -- and then the sheet's is
  pub made_implies : (z : ℕ) → node_walk (made j (table j s)).nodes z (t j) 2 ≡ 1
      → chi j.m s (word_of (input_list j) (inputs_in j z)) (outputs_in j z) ≡ true
  made_implies z ends =
      let b = chi_of j (reduced j (table j s)) z in
      let holds : b ≡ true = sym (flag_is b) ∙ eq-eqb (flag b) 1 (sym (made_diagram z) ∙ ends) in
      sym (chi-sheet j s e z) ∙ final_implies j s e z holds

-- and with a cut list
module _ (j : Job) (s : List ℕ) (e : sheet_refusal j s ≡ 0) (kept : refuse8 j (made j (table j s)).widths ≡ false) where
  -- what is written is well formed
  pub made-stored : well_formed (made j (table j s)).records (made j (table j s)).row_bytes ≡ true
  made-stored = made-formed j s e kept

  -- it can be read, and writing what was read gives the same bytes
  pub made-read : (records rows : List ℕ) → length (made j (table j s)).records ≤ length records → length (made j (table j s)).row_bytes ≤ length rows
      → (read (made j (table j s)).records (made j (table j s)).row_bytes ≡ was_read (cascade_of (made j (table j s)).records (made j (table j s)).row_bytes))
      × (write (cascade_of (made j (table j s)).records (made j (table j s)).row_bytes) records rows
      ≡ written_as 0 (written records 0 (made j (table j s)).records) (written rows 0 (made j (table j s)).row_bytes))
  unfolding read
  made-read records rows p q =
      let R = (made j (table j s)).records in
      let bytes = (made j (table j s)).row_bytes in
      let was : read R bytes ≡ was_read (cascade_of R bytes) = cond_yes (well_formed R bytes) (was_read (cascade_of R bytes)) (not_read 12) made-stored in
      (was, read-write R bytes (cascade_of R bytes) was records rows p q)

  -- for every word w, at the k-th cut: the rail word is the number of the merged column of w's prefix
  pub made-rail : (w k : ℕ) → k < length (made j (table j s)).cuts
      → (run (made j (table j s)).records (made j (table j s)).row_bytes w k).rail
      ≡ number_at j (reduced j (table j s)) (layer (layers j (reduced j (table j s))) (get_or (made j (table j s)).cuts k 0))
      (get_or (made j (table j s)).cuts k 0) (number_of (input_list j) w / 2 ^ ins j (get_or (made j (table j s)).cuts k 0))
  made-rail w k h = (made-emits j s e kept w k h).rail

  -- and after the last cell each output is set to a value that the sheet allows
  pub made-allowed : (w o : ℕ) → o < j.m
      → (get_or (run (made j (table j s)).records (made j (table j s)).row_bytes w (made j (table j s)).cells).outputs o 2 < 2)
      × (allows (value s w o) (get_or (run (made j (table j s)).records (made j (table j s)).row_bytes w (made j (table j s)).cells).outputs o 2) ≡ true)
  made-allowed = made_all j s e kept
