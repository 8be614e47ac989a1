-- The numbering of packed columns a column at a time: what is kept of the columns so far.
-- Assumes nothing.
use mathlib.Core.Path.{◌≡◌, refl, sym, ◌∙◌, ap}
use mathlib.Core.Bool.{Bool, cond, ◌&&◌, and-false}
use mathlib.Core.List.{List, [], ◌∷◌, ◌++◌}
use Prim.Native.Nat.{ℕ, zero, suc, ◌+◌, ◌*◌, ◌<◌, ◌≤◌}
use native.Mathlib.Nat.{not-suc-le-zero}
use native.Mathlib.Numerals.{add-one}
use native.Mathlib.Omega.{arith}
use borrow.Author.Tests.{eq-eqb, eqb-true, eqb-false, lt-ltb, le-ltb}
use lib.Dec.{eqb, ltb}
use lib.ListN.{length, get_or, set, length-set, length-append, get_or-append, replicate, length-replicate}
use lib.Seq.{get_or_at, get_or-set_same, get_or-set_other, sets}
use Rattle.laws.specs.Tests.{least}
use Rattle.laws.specs.Lists.{tab, puts}
use Rattle.laws.proofs.Cases.{by_test, by_less, last_or_below, cond-each}
use Rattle.laws.proofs.Find.{find_ext}
use Rattle.laws.proofs.Lists.{row_end, tab_of}
use Rattle.laws.proofs.Puts.{puts_ext, puts-sets}
use Rattle.reduction_spec.specs.Numbering.{index_in, firsts_of}
use Rattle.reduction.specs.Distinct.{same_words}
use Rattle.reduction.specs.Lowering.{narrow_or}
use Rattle.reduction.proofs.Narrow.{narrow_yes, narrow_no}
use Rattle.std.specs.Prelude.{Result, Ok, Err}
use Rattle.refusals.specs.declared.Refusal.{Refusal}
use Rattle.refusals.specs.declared.Refusal.TheVariants.{TooWide}
use Rattle.reduction.specs.ColumnHashes.{key_of, is_kept, Inside}
use Rattle.reduction.proofs.distinct.ColumnHashes.{same_key}
use Rattle.reduction_spec.proofs.Numbering.{index_most}

module _ (R : ℕ → ℕ → Bool) where
  pub firsts_old : (q : ℕ) → index_in R (firsts_of R q) q < length (firsts_of R q) → firsts_of R (suc q) ≡ firsts_of R q
  unfolding firsts_of
  firsts_old q h = rw (lt-ltb (index_in R (firsts_of R q) q) (length (firsts_of R q)) h)

  pub firsts_new : (q : ℕ) → length (firsts_of R q) ≤ index_in R (firsts_of R q) q → firsts_of R (suc q) ≡ firsts_of R q ++ (q ∷ [])
  unfolding firsts_of
  firsts_new q h = rw (le-ltb (index_in R (firsts_of R q) q) (length (firsts_of R q)) h)

  firsts_more : (q : ℕ) → length (firsts_of R q) ≤ length (firsts_of R (suc q))
  unfolding firsts_of
  firsts_more q =
      let ps = firsts_of R q in
      cond-each (λ (l : List ℕ). length ps ≤ length l) (ltb (index_in R ps q) (length ps)) (λ e. omega arith) (λ e. omega (arith, length-append ps (q ∷ [])))

  pub firsts_rise : (m n : ℕ) → m ≤ n → length (firsts_of R m) ≤ length (firsts_of R n)
  firsts_rise m zero h = let e : m ≡ 0 = omega arith in rw e (omega arith)
  firsts_rise m (suc n) h =
      last_or_below m (suc n) (omega arith) (λ e. rw e (omega arith))
      (λ l. let a = firsts_rise m n (omega arith) in let b = firsts_more n in omega arith)

-- what is kept when the columns below q are numbered: how many are different, the first of each, and its key
pub record SoFar (R : ℕ → ℕ → Bool) (K : ℕ → ℕ) (q count : ℕ) (keys kept : List ℕ) : Type 0 where
  pub few : count ≤ 512
  pub many : count ≡ length (firsts_of R q)
  pub key_length : length keys ≡ 512
  pub kept-length : length kept ≡ 512
  pub key : (c : ℕ) → c < count → get_or keys c 0 ≡ K (get_or (firsts_of R q) c 0)
  pub first : (c : ℕ) → c < count → get_or kept c 0 ≡ get_or (firsts_of R q) c 0
  pub below : (c : ℕ) → c < count → get_or (firsts_of R q) c 0 < q

module _ (R : ℕ → ℕ → Bool) (K : ℕ → ℕ) where
  pub so_far_none : SoFar R K 0 0 (replicate 512 0) (replicate 512 0)
  unfolding firsts_of
  so_far_none =
      record {
        few = omega arith;
        many = refl;
        key_length = length-replicate {A = ℕ} 512 0;
        kept-length = length-replicate {A = ℕ} 512 0;
        key = λ c l. absurd (not-suc-le-zero l);
        first = λ c l. absurd (not-suc-le-zero l);
        below = λ c l. absurd (not-suc-le-zero l);
      }

  module _ (q count : ℕ) (keys kept : List ℕ) (h : SoFar R K q count keys kept) (c : ℕ) (at : c ≡ index_in R (firsts_of R q) q) where
    so_far_le : c ≤ count
    so_far_le = omega (arith, index_most R (firsts_of R q) q, h.many)

    so_far_old : (c ≡ count → ⊥) → SoFar R K (q + 1) count keys kept
    so_far_old differ =
        let less : c < count = let l = so_far_le in by_less c count (λ k. k) (λ k. absurd (differ (omega arith))) in
        let same : firsts_of R (q + 1) ≡ firsts_of R q = ap (firsts_of R) (add-one q) ∙ firsts_old R q (omega (arith, h.many)) in
        record {
          few = h.few;
          many = rw same h.many;
          key_length = h.key_length;
          kept-length = h.kept-length;
          key = λ d l. rw same (h.key d l);
          first = λ d l. rw same (h.first d l);
          below = λ d l. rw same (let k = h.below d l in omega arith);
        }

    so_far_new : c ≡ count → c < 512 → SoFar R K (q + 1) (count + 1) (set keys c (K q)) (set kept c q)
    so_far_new e small =
        let ps = firsts_of R q in
        let n : length ps ≡ c = sym (e ∙ h.many) in
        let more : firsts_of R (q + 1) ≡ ps ++ (q ∷ []) = ap (firsts_of R) (add-one q) ∙ firsts_new R q (omega arith) in
        let old : (d : ℕ) → d < c → get_or (ps ++ (q ∷ [])) d 0 ≡ get_or ps d 0 = λ d l. get_or-append ps (q ∷ []) 0 d (omega arith) in
        let last : get_or (ps ++ (q ∷ [])) c 0 ≡ q = get_or_at ps q [] 0 c n in
        record {
          few = omega arith;
          many = rw more (omega (arith, length-append ps (q ∷ [])));
          key_length = length-set keys c (K q) ∙ h.key_length;
          kept-length = length-set kept c q ∙ h.kept-length;
          key = λ d l.
              rw more
              (last_or_below d c (omega arith)
              (λ s. rw s (get_or-set_same keys c (K q) 0 (omega (arith, h.key_length)) ∙ ap K (sym last)))
              (λ k. get_or-set_other keys c d (K q) 0 (λ s. absurd (omega arith)) ∙ h.key d (omega arith) ∙ ap K (sym (old d k))));
          first = λ d l.
              rw more
              (last_or_below d c (omega arith)
              (λ s. rw s (get_or-set_same kept c q 0 (omega (arith, h.kept-length)) ∙ sym last))
              (λ k. get_or-set_other kept c d q 0 (λ s. absurd (omega arith)) ∙ h.first d (omega arith) ∙ sym (old d k)));
          below = λ d l.
              rw more
              (last_or_below d c (omega arith) (λ s. rw (s, last) (omega arith)) (λ k. rw (old d k) (let b = h.below d (omega arith) in omega arith)));
        }

    -- column q is kept where it is new
    pub so_far_next : (k m : ℕ) (ks ps : List ℕ) → c < 512 → k ≡ K q → m ≡ cond (eqb c count) (count + 1) count → ks ≡ cond (eqb c count) (set keys c k) keys
        → ps ≡ cond (eqb c count) (set kept c q) kept → SoFar R K (q + 1) m ks ps
    so_far_next k m ks ps small ek em eks eps =
        by_test (eqb c count) (λ t. rw (em, eks, eps, ek, t) (so_far_new (eqb-true c count t) small)) (λ t. rw (em, eks, eps, t) (so_far_old (eqb-false c count t)))

    pub so_far_small : c ≤ 512
    so_far_small = let l = so_far_le in let k = h.few in omega arith

    pub so_far_room : (c ≡ 512 → ⊥) → c < 512
    so_far_room differ = let l = so_far_small in by_less c 512 (λ k. k) (λ k. absurd (differ (omega arith)))

    -- a column more than 512
    pub so_far_full : (cands : ℕ) → q < cands → c ≡ 512 → ◌≡◌ {A = Result ℕ Refusal} (Err TooWide) (narrow_or (length (firsts_of R cands)) (length (firsts_of R cands)))
    so_far_full cands l e =
        let ps = firsts_of R q in
        let full : count ≡ 512 = omega (arith, so_far_le, h.few) in
        let more : firsts_of R (suc q) ≡ ps ++ (q ∷ []) = firsts_new R q (omega (arith, h.many)) in
        let long : length (firsts_of R (suc q)) ≡ 513 = ap length more ∙ omega (arith, length-append ps (q ∷ []), h.many) in
        let rise = firsts_rise R (suc q) cands l in
        narrow_no (length (firsts_of R cands)) (length (firsts_of R cands)) (omega arith)

  -- all columns are numbered
  module _ (q count : ℕ) (keys kept : List ℕ) (h : SoFar R K q count keys kept) where
    pub so_far_count : ◌≡◌ {A = Result ℕ Refusal} (Ok count) (narrow_or (length (firsts_of R q)) (length (firsts_of R q)))
    so_far_count =
        ap Ok h.many ∙ narrow_yes (length (firsts_of R q)) (length (firsts_of R q)) (omega (arith, h.many, h.few))

    pub so_far_copy : (l : List ℕ) → puts count (λ c. get_or kept c 0) l ≡ sets l 0 (firsts_of R q)
    so_far_copy l =
        let ps = firsts_of R q in
        puts_ext (λ c. get_or kept c 0) (λ c. get_or ps c 0) count l h.first ∙ puts-sets (λ c. get_or ps c 0) count l
        ∙ ap (λ (n : ℕ). sets l 0 (tab n (λ c. get_or ps c 0))) h.many ∙ ap (sets l 0) (tab_of 0 ps)

-- the number of column q, found by its key
module _ (zs os : List ℕ) (size : ℕ) where
  abbrev pub SoFarWords : ℕ → ℕ → List ℕ → List ℕ → Type 0
  SoFarWords = SoFar (same_words zs os size) (key_of zs os size)

  module _ (q count : ℕ) (keys kept : List ℕ) (h : SoFarWords q count keys kept) where
    pub so_far_index : (k c : ℕ) → k ≡ key_of zs os size q → c ≡ least count (is_kept zs os size keys kept q k)
        → c ≡ index_in (same_words zs os size) (firsts_of (same_words zs os size) q) q
    unfolding is_kept index_in
    so_far_index k c e found =
        let ps = firsts_of (same_words zs os size) q in
        found
        ∙ find_ext (is_kept zs os size keys kept q k) (λ c. same_words zs os size q (get_or ps c 0)) count 0
        (λ c z l. let b : c < count = omega arith in rw (e, h.key c b, h.first c b) (by_key (get_or ps c 0)))
        ∙ ap (λ (n : ℕ). least n (λ c. same_words zs os size q (get_or ps c 0))) h.many
      where
        by_key : (p : ℕ) → (eqb (key_of zs os size p) (key_of zs os size q) && same_words zs os size q p) ≡ same_words zs os size q p
        by_key p =
            by_test (same_words zs os size q p) (λ t. rw (eq-eqb (key_of zs os size p) (key_of zs os size q) (sym (same_key zs os size q p t))))
            (λ t. rw (t, and-false))

    pub so_far_inside : (cands : ℕ) → q ≤ cands → cands * size ≤ 1024 → Inside count size kept
    so_far_inside cands l b c k =
        let e = h.first c k in
        let s = h.below c k in
        rw e (omega (arith, row_end (get_or (firsts_of (same_words zs os size) q) c 0) cands size (omega arith)))
