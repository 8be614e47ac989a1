-- The pass over the heights of an accepted job and sheet: what it starts from and what it ends with.
-- Assumes nothing.
use mathlib.Core.Path.{◌≡◌, refl, sym, ◌∙◌, ap}
use mathlib.Core.Bool.{true, false}
use mathlib.Core.List.{List}
use Prim.Native.Nat.{ℕ, suc, ◌+◌, ◌-◌, ◌*◌, ◌^◌, ◌<◌, ◌≤◌}
use native.Mathlib.Nat.{not-suc-le-zero, zero-mul, zero-add, mul-le-mul}
use native.Mathlib.Omega.{arith}
use borrow.Author.Tests.{eq-eqb, le-ltb}
use lib.Dec.{eqb}
use lib.ListN.{length, get_or, replicate, length-replicate}
use lib.Pow.{pow_mono}
use lib.Seq.{sets}
use Rattle.laws.specs.Lists.{puts}
use Rattle.laws.proofs.Cases.{by_less, cond_yes}
use Rattle.laws.proofs.Tests.{any_of, any_none}
use Rattle.laws.proofs.Masks.{not-both}
use Rattle.laws.proofs.Lists.{row_end}
use Rattle.laws.proofs.Filled.{laid}
use Rattle.laws.proofs.Puts.{length-puts}
use Rattle.sheet_spec.specs.Job.{Job, t, ins, outs}
use Rattle.sheet_spec.specs.Refusals.{sheet_refusal}
use Rattle.sheet_spec.specs.Table.{table, table_after}
use Rattle.sheet_spec.specs.Accepted.{Accepted}
use Rattle.sheet_spec.proofs.Promises.{ins-all, outs-all, job-accepted, table-length, table_below}
use Rattle.reduction_spec.specs.Columns.{entry, firsts, firsts_at, width}
use Rattle.reduction_spec.specs.Merge.{merged, too_wide, refuse7}
use Rattle.reduction_spec.specs.declared.Node.{Node}
use Rattle.reduction_spec.specs.Diagram.{node_words}
use Rattle.reduction.specs.Packed.{packed_word, places_with}
use Rattle.reduction_spec.specs.Reduction.{final_table, final_nodes}
use Rattle.reduction_spec.proofs.ColumnNumbers.{first_below}
use Rattle.reduction_spec.proofs.AllMerges.{width_top, width-bottom}
use Rattle.reduction.proofs.packed.PlanesMade.{packed_plane}
use Rattle.reduction.proofs.heights.CliqueProducts.{plane_ext}
use Rattle.reduction_spec.proofs.HeightsInOrder.{top_nodes, top_all, top_length}
use Rattle.reduction.proofs.pass.Invariant.{Holds, Stage}

module _ (j : Job) (s : List ℕ) (e : sheet_refusal j s ≡ 0) where
  abbrev read : Accepted j.n j.m j.order s
  read = job-accepted j s e

  abbrev f : List ℕ
  f = table j s

  pub small : (i : ℕ) → get_or (table j s) i 0 < 3
  small = table_below j.n j.m j.order s

  -- what the pass holds
  abbrev pub At : (k a w at : ℕ) (zs os widths words : List ℕ) → Type 0
  At = Stage j read.order-whole read.inputs read.outputs (table j s) small

  -- the table as it was written into zeros
  held : table_after j s (replicate 32768 0) ≡ sets (replicate 32768 0) 0 f
  unfolding table_after
  held = cond_yes (eqb (sheet_refusal j s) 0) (sets (replicate 32768 0) 0 f) (replicate 32768 0) (eq-eqb (sheet_refusal j s) 0 e)

  value_at_lem : (q x : ℕ) → q < j.m → x < 2 ^ j.n → get_or (table_after j s (replicate 32768 0)) (q * 2 ^ j.n + x) 0 ≡ get_or f (q * 2 ^ j.n + x) 0
  value_at_lem q x hq hx =
      let len = table-length j.n j.m j.order s in
      let few : 2 ^ j.n ≤ 4096 = pow_mono read.inputs in
      let all : j.m * 2 ^ j.n ≤ 8 * 4096 = mul-le-mul read.outputs few in
      ap (λ (l : List ℕ). get_or l (q * 2 ^ j.n + x) 0) held
      ∙ laid 32768 f (q * 2 ^ j.n + x) (omega arith) (omega (arith, row_end q j.m (2 ^ j.n) hq))

  top_ins : ins j (t j - 0) ≡ j.n
  top_ins = let z : t j - 0 ≡ t j = omega arith in ap (ins j) z ∙ ins-all j read.order-whole read.inputs read.outputs

  top_outs : outs j (t j - 0) ≡ j.m
  top_outs = let z : t j - 0 ≡ t j = omega arith in ap (outs j) z ∙ outs-all j read.order-whole read.inputs read.outputs

  top_width : width j f (t j - 0) ≡ 1
  top_width = let z : t j - 0 ≡ t j = omega arith in ap (width j f) z ∙ width_top j read.order-whole read.inputs read.outputs f

  -- the only prefix at the top is 0
  top_prefix : (c : ℕ) → c < 1 → get_or (firsts j.n j.n j.m f) c 0 ≡ 0
  unfolding width firsts_at
  top_prefix c hc =
      let w : length (firsts j.n j.n j.m f) ≡ 1 = rw (top_ins, top_outs) at top_width in
      let z : 2 ^ (j.n - j.n) ≡ 1 = let y : j.n - j.n ≡ 0 = omega arith in ap (λ (i : ℕ). 2 ^ i) y in
      omega (arith, z, first_below j.n j.n j.m f c (omega (arith, w)))

  start_plane : (v : ℕ) (xs : List ℕ) → xs ≡ puts 512 (packed_word (places_with (table_after j s (replicate 32768 0)) j.n j.m v)) (replicate 1024 0)
      → Holds j read.order-whole read.inputs read.outputs (table j s) small 0 v xs
  unfolding merged firsts_at width
  start_plane v xs is =
      rw (top_ins, top_outs)
      (rw (rw (top_ins, top_outs) at top_width)
      (rw is
      (plane_ext j.n j.m 1 (λ c q x. eqb (get_or (table_after j s (replicate 32768 0)) (q * 2 ^ j.n + x) 0) v)
      (λ c q x. eqb (entry j.n j.n f (get_or (firsts j.n j.n j.m f) c 0) q x) v) _
      (λ c q x hc hq hx.
      ap (λ (y : ℕ). eqb y v)
      (value_at_lem q x hq hx
      ∙ ap (λ (i : ℕ). get_or f (q * 2 ^ j.n + i) 0)
      (sym (zero-add x) ∙ ap (λ (i : ℕ). i + x) (sym (zero-mul (2 ^ j.n)) ∙ ap (λ (p : ℕ). p * 2 ^ j.n) (sym (top_prefix c hc))))))
      (packed_plane j.n j.m (table_after j s (replicate 32768 0)) v (replicate 1024 0) read.inputs read.outputs (length-replicate {A = ℕ} 1024 0)))))

  pub start : (zs os : List ℕ) → zs ≡ puts 512 (packed_word (places_with (table_after j s (replicate 32768 0)) j.n j.m 0)) (replicate 1024 0)
      → os ≡ puts 512 (packed_word (places_with (table_after j s (replicate 32768 0)) j.n j.m 1)) (replicate 1024 0)
      → At 0 j.n 1 0 zs os (replicate 20 0) (replicate 30720 0)
  unfolding top_nodes merged
  start zs os ez eo =
      record {
        inputs = sym top_ins;
        columns = sym top_width;
        few-columns = omega arith;
        counted = refl;
        zeros = start_plane 0 zs ez;
        ones = start_plane 1 os eo;
        zeros-length = ap (λ (x : List ℕ). length x) ez ∙ length-puts _ 512 (replicate 1024 0) ∙ length-replicate {A = ℕ} 1024 0;
        ones-length = ap (λ (x : List ℕ). length x) eo ∙ length-puts _ 512 (replicate 1024 0) ∙ length-replicate {A = ℕ} 1024 0;
        narrow = λ i h. absurd (not-suc-le-zero h);
        widths-length = length-replicate {A = ℕ} 20 0;
        widths_are = λ i h. absurd (not-suc-le-zero h);
        words_are = refl;
      }

  -- the end
  module _ (a w at : ℕ) (zs os widths words : List ℕ) (st : At (t j) a w at zs os widths words) where
    pub end_count : at ≡ length (final_nodes j s)
    unfolding final_nodes final_table
    end_count =
        st.counted ∙ sym (top_length j read.order-whole read.inputs read.outputs f (t j))
        ∙ ap (λ (l : List Node). length l) (top_all j read.order-whole read.inputs read.outputs f)

    pub end_widths : (i : ℕ) → i < t j → get_or widths i 0 ≡ width j (final_table j s) i
    unfolding final_table
    end_widths i h =
        let z : t j - suc (t j - suc i) ≡ i = omega arith in
        let y = st.widths_are (t j - suc i) (omega arith) in
        rw z at y

    pub end_words : words ≡ sets (replicate 30720 0) 0 (node_words (final_nodes j s))
    unfolding final_nodes final_table
    end_words = st.words_are ∙ ap (λ (l : List Node). sets (replicate 30720 0) 0 (node_words l)) (top_all j read.order-whole read.inputs read.outputs f)

    pub end_narrow : refuse7 j (table j s) ≡ false
    unfolding refuse7
    end_narrow = any_none (too_wide j f) (t j - 1) (λ i h. st.narrow i (omega arith))

  -- at height 0 there is one column
  bottom-narrow : (k : ℕ) → t j - suc k ≡ 0 → too_wide j f k ≡ false
  unfolding too_wide
  bottom-narrow k z = le-ltb 512 (width j (merged j f k) (t j - suc k)) (omega (arith, ap (width j (merged j f k)) z, width-bottom j (merged j f k)))

  -- a step that finds too many columns
  pub wide_refused : (k : ℕ) → k < t j → too_wide j (table j s) k ≡ true → refuse7 j (table j s) ≡ true
  unfolding refuse7
  wide_refused k l h =
      by_less k (t j - 1) (λ b. any_of (too_wide j f) (t j - 1) k b h)
      (λ b. not-both h (bottom-narrow k (omega arith)))
