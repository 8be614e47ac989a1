-- All merges: what they keep, and that the columns of a height, once merged, are
-- final, so that no width at a height of a merge is over 512.
-- Assumes nothing.
use mathlib.Core.Path.{◌≡◌, refl, sym, ◌∙◌, ap}
use mathlib.Core.Bool.{true, false}
use mathlib.Core.List.{List}
use Prim.Native.Nat.{ℕ, zero, suc, ◌+◌, ◌-◌, ◌*◌, ◌^◌, ◌<◌, ◌≤◌}
use native.Mathlib.Nat.{not-suc-le-zero}
use native.Mathlib.Omega.{arith}
use borrow.Author.Tests.{ltb-false}
use lib.ListN.{length, get_or}
use Rattle.laws.proofs.Cases.{by_less, last_or_below}
use Rattle.laws.proofs.Tests.{any_out}
use Rattle.laws.proofs.Masks.{not-both}
use Rattle.sheet_spec.specs.Job.{Job, t, ins, outs}
use Rattle.sheet_spec.specs.Refusals.{not_each_once}
use Rattle.sheet_spec.proofs.Promises.{ins_rise, outs_rise, ins-all, outs-all, ins_below, ins_below_ins}
use Rattle.reduction_spec.specs.Columns.{same, firsts, firsts_at, number_at, width}
use Rattle.reduction_spec.specs.Merge.{merge_at, merged, reduced, too_wide, refuse7}
use Rattle.reduction_spec.proofs.ColumnNumbers.{firsts_rise, first_smallest, width_positive, width_few, firsts_ext, number_in_ext}
use Rattle.reduction_spec.proofs.OneMerge.{merge-upper, merge_below}
use Rattle.reduction_spec.proofs.MergeKeepsOrderRule.{Ruled, merge_ruled}
use Rattle.reduction_spec.proofs.MergeKeeps.{Settled, keeps-all, settled_merge, settled_kept, same_still, width_cliques}

-- columns that are all the same are one column
one_column : (n a b : ℕ) (f : List ℕ) → ((p q : ℕ) → same n a b f p q ≡ true) → length (firsts n a b f) ≡ 1
one_column n a b f h =
    by_less 1 (length (firsts n a b f))
    (λ l.
    let ps = firsts n a b f in
    not-both (h (get_or ps 0 0) (get_or ps 1 0)) (first_smallest n a b f 1 (get_or ps 0 0) l (firsts_rise n a b f 0 1 (omega arith) l)))
    (λ l. omega (arith, width_positive n a b f))

module _ (j : Job) where
  -- there is one empty column
  pub width-bottom : (f : List ℕ) → width j f 0 ≡ 1
  unfolding width firsts_at ins outs same
  width-bottom f = one_column j.n 0 0 f (λ p q. refl)

  pub merged_below : (f : List ℕ) → ((i : ℕ) → get_or f i 0 < 3) → (k i : ℕ) → get_or (merged j f k) i 0 < 3
  unfolding merged merge_at
  merged_below f h zero i = h i
  merged_below f h (suc k) i =
      merge_below j.n (ins j (t j - suc k)) (outs j (t j - suc k)) (merged j f k) j.m i (merged_below f h k)

  -- an order in which each variable stands once
  module _ (once : not_each_once j.n j.m j.order ≡ false) (few : j.n ≤ 12) (out : j.m ≤ 8) where
    ins_most : (k : ℕ) → ins j (t j - k) ≤ j.n
    ins_most k = omega (arith, ins_rise j (t j - k) (t j) (omega arith), ins-all j once few out)

    outs_most : (k : ℕ) → outs j (t j - k) ≤ j.m
    outs_most k = omega (arith, outs_rise j (t j - k) (t j) (omega arith), outs-all j once few out)

    -- there is one prefix of no inputs
    pub width_top : (f : List ℕ) → width j f (t j) ≡ 1
    unfolding width firsts_at
    width_top f =
        let a = ins j (t j) in
        let e : 2 ^ (j.n - a) ≡ 1 = let z : j.n - a ≡ 0 = omega (arith, ins-all j once few out) in ap (λ (i : ℕ). 2 ^ i) z in
        omega (arith, e, width_few j.n a (outs j (t j)) f, width_positive j.n a (outs j (t j)) f)

    module _ (f : List ℕ) where
      pub merged_keeps : (k q x v : ℕ) → q < j.m → x < 2 ^ j.n → v < 2 → get_or f (q * 2 ^ j.n + x) 0 ≡ v
          → get_or (merged j f k) (q * 2 ^ j.n + x) 0 ≡ v
      unfolding merged merge_at
      merged_keeps zero q x v hq hx hv e = e
      merged_keeps (suc k) q x v hq hx hv e =
          keeps-all j.n j.m (ins j (t j - suc k)) (outs j (t j - suc k)) (merged j f k) (ins_most (suc k)) (outs_most (suc k))
          q x v hq hx hv (merged_keeps k q x v hq hx hv e)

      pub reduced-keeps : (q x v : ℕ) → q < j.m → x < 2 ^ j.n → v < 2 → get_or f (q * 2 ^ j.n + x) 0 ≡ v
          → get_or (reduced j f) (q * 2 ^ j.n + x) 0 ≡ v
      unfolding reduced
      reduced-keeps = merged_keeps (t j - 1)

      -- no line depends on the inputs below its output
      pub merged_ruled : Ruled j.n j.m (ins_below (t j) j.order) f → (k : ℕ)
          → Ruled j.n j.m (ins_below (t j) j.order) (merged j f k)
      unfolding merged merge_at
      merged_ruled r zero = r
      merged_ruled r (suc k) =
          merge_ruled j.n j.m (ins j (t j - suc k)) (outs j (t j - suc k)) (merged j f k) (ins_below (t j) j.order)
          (ins_most (suc k)) (outs_most (suc k)) (λ q h. ins_below_ins j (t j - suc k) q (omega arith) h) (merged_ruled r k)

      -- the columns of a height after its own merge
      pub settled_after : (k l : ℕ) → k < l → Settled j.n (ins j (t j - suc k)) (outs j (t j - suc k)) (merged j f l)
      unfolding merged merge_at
      settled_after k zero h = absurd (not-suc-le-zero h)
      settled_after k (suc l) h =
          last_or_below k l h
          (λ e.
          rw e
          (settled_merge j.n j.m (ins j (t j - suc l)) (outs j (t j - suc l)) (merged j f l) (ins_most (suc l)) (outs_most (suc l))))
          (λ b.
          settled_kept j.n j.m (ins j (t j - suc k)) (outs j (t j - suc k)) (ins j (t j - suc l)) (outs j (t j - suc l)) (merged j f l)
          (ins_rise j (t j - suc l) (t j - suc k) (omega arith)) (ins_most (suc k))
          (outs_rise j (t j - suc l) (t j - suc k) (omega arith)) (outs_most (suc k)) (settled_after k l b))

      same_next : (k l p q : ℕ) → k < l → p < 2 ^ (j.n - ins j (t j - suc k)) → q < 2 ^ (j.n - ins j (t j - suc k))
          → same j.n (ins j (t j - suc k)) (outs j (t j - suc k)) (merged j f (suc l)) p q
          ≡ same j.n (ins j (t j - suc k)) (outs j (t j - suc k)) (merged j f l) p q
      unfolding merged merge_at
      same_next k l p q h =
          same_still j.n j.m (ins j (t j - suc k)) (outs j (t j - suc k)) (ins j (t j - suc l)) (outs j (t j - suc l)) (merged j f l)
          (ins_rise j (t j - suc l) (t j - suc k) (omega arith)) (ins_most (suc k))
          (outs_rise j (t j - suc l) (t j - suc k) (omega arith)) (outs_most (suc k)) (settled_after k l h) p q

      same_after : (k l p q : ℕ) → k < l → p < 2 ^ (j.n - ins j (t j - suc k)) → q < 2 ^ (j.n - ins j (t j - suc k))
          → same j.n (ins j (t j - suc k)) (outs j (t j - suc k)) (merged j f l) p q
          ≡ same j.n (ins j (t j - suc k)) (outs j (t j - suc k)) (merged j f (suc k)) p q
      same_after k zero p q h hp hq = absurd (not-suc-le-zero h)
      same_after k (suc l) p q h hp hq =
          last_or_below k l h (λ e. rw e refl) (λ b. same_next k l p q b hp hq ∙ same_after k l p q b hp hq)

      -- a height's columns are final once they are merged: which are the same, their smallest prefixes, their numbers
      pub same_final : (k p q : ℕ) → k < t j - 1 → p < 2 ^ (j.n - ins j (t j - suc k)) → q < 2 ^ (j.n - ins j (t j - suc k))
          → same j.n (ins j (t j - suc k)) (outs j (t j - suc k)) (reduced j f) p q
          ≡ same j.n (ins j (t j - suc k)) (outs j (t j - suc k)) (merged j f (suc k)) p q
      unfolding reduced
      same_final k p q h = same_after k (t j - 1) p q h

      pub firsts_final : (k : ℕ) → k < t j - 1 → firsts_at j (reduced j f) (t j - suc k) ≡ firsts_at j (merged j f (suc k)) (t j - suc k)
      unfolding firsts_at
      firsts_final k h =
          firsts_ext j.n (ins j (t j - suc k)) (outs j (t j - suc k)) (reduced j f) (merged j f (suc k)) (λ p q. same_final k p q h)

      pub numbers_final : (k p : ℕ) → k < t j - 1 → p < 2 ^ (j.n - ins j (t j - suc k))
          → number_at j (reduced j f) (firsts_at j (reduced j f) (t j - suc k)) (t j - suc k) p
          ≡ number_at j (merged j f (suc k)) (firsts_at j (merged j f (suc k)) (t j - suc k)) (t j - suc k) p
      unfolding firsts_at number_at
      numbers_final k p h =
          number_in_ext j.n (ins j (t j - suc k)) (outs j (t j - suc k)) (reduced j f) (merged j f (suc k)) (λ p q. same_final k p q h) p

      -- a line above a height is not touched by the merges there and below
      lines_kept : (k l q x : ℕ) → k ≤ l → outs j (t j - suc k) ≤ q → q < j.m → x < 2 ^ j.n
          → get_or (merged j f l) (q * 2 ^ j.n + x) 0 ≡ get_or (merged j f k) (q * 2 ^ j.n + x) 0
      unfolding merged merge_at
      lines_kept k zero q x h o hq hx = let e : 0 ≡ k = omega arith in ap (λ (i : ℕ). get_or (merged j f i) (q * 2 ^ j.n + x) 0) e
      lines_kept k (suc l) q x h o hq hx =
          last_or_below k (suc l) (omega arith) (λ e. ap (λ (i : ℕ). get_or (merged j f i) (q * 2 ^ j.n + x) 0) (sym e))
          (λ b.
          merge-upper j.n (ins j (t j - suc l)) (outs j (t j - suc l)) (merged j f l) j.m q x hq hx
          (omega (arith, outs_rise j (t j - suc l) (t j - suc k) (omega arith)))
          ∙ lines_kept k l q x (omega arith) o hq hx)

      pub lines_final : (k q x : ℕ) → k ≤ t j - 1 → outs j (t j - suc k) ≤ q → q < j.m → x < 2 ^ j.n
          → get_or (reduced j f) (q * 2 ^ j.n + x) 0 ≡ get_or (merged j f k) (q * 2 ^ j.n + x) 0
      unfolding reduced
      lines_final k q x h = lines_kept k (t j - 1) q x h

      pub width_final : (k : ℕ) → k < t j - 1 → width j (reduced j f) (t j - suc k) ≡ width j (merged j f (suc k)) (t j - suc k)
      unfolding width
      width_final k h = ap (λ (ps : List ℕ). length ps) (firsts_final k h)

      -- a merge leaves its own height no wider
      pub width-merge : (k : ℕ) → width j (merged j f (suc k)) (t j - suc k) ≤ width j (merged j f k) (t j - suc k)
      unfolding width firsts_at merged merge_at
      width-merge k =
          width_cliques j.n j.m (ins j (t j - suc k)) (outs j (t j - suc k)) (merged j f k) (ins_most (suc k)) (outs_most (suc k))

      pub width_fits : refuse7 j f ≡ false → (h : ℕ) → 1 ≤ h → h < t j → width j (reduced j f) h ≤ 512
      unfolding refuse7 too_wide
      width_fits e h a b =
          let k = t j - suc h in
          let l : k < t j - 1 = omega arith in
          let before = ltb-false 512 (width j (merged j f k) (t j - suc k)) (any_out (too_wide j f) (t j - 1) e k l) in
          let fits : width j (reduced j f) (t j - suc k) ≤ 512 = omega (arith, width-merge k, width_final k l) in
          let s : h ≡ t j - suc k = omega arith in
          rw s fits
