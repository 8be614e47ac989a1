-- The cliques of packed columns as the code finds them: links are mutual, and the owners that are numbered are the cover's.
-- Assumes nothing.
use mathlib.Core.Path.{◌≡◌, sym, ◌∙◌, ap, ap₂}
use mathlib.Core.Bool.{Bool, true, false, cond, not, ◌&&◌}
use mathlib.Core.List.{List}
use Prim.Native.Nat.{ℕ, ◌+◌, ◌*◌, ◌<◌, ◌≤◌}
use native.Mathlib.Omega.{arith}
use native.Mathlib.Nat.{mul-le-mul}
use borrow.Author.Tests.{eq-eqb, ne_eqb}
use lib.Dec.{eqb}
use lib.Bits.{bit_and, bit_or, and_comm, or_comm}
use lib.ListN.{length, get_or, replicate}
use lib.Seq.{sets, length-sets}
use Rattle.laws.specs.Tests.{any}
use Rattle.laws.specs.Lists.{rect, puts}
use Rattle.laws.specs.Bits.{flag}
use Rattle.laws.proofs.Bits.{flag_is}
use Rattle.laws.proofs.Cases.{by_test, by_equal, cond_yes, cond_no, equal_sym}
use Rattle.laws.proofs.Tests.{every_ext, any_out}
use Rattle.laws.proofs.Masks.{not-both}
use Rattle.laws.proofs.Lists.{row_end, length-rect, get_or-rect, rect_ext}
use Rattle.laws.proofs.Filled.{get_or_sets}
use Rattle.laws.proofs.Puts.{puts_ext, stored}
use Rattle.reduction_spec.specs.Numbering.{index_in, firsts_of}
use Rattle.reduction_spec.specs.Cover.{is_in, cover}
use Rattle.reduction.specs.Distinct.{agree_words, linked_words, same_owner}
use Rattle.reduction.specs.Lowering.{link_flags, owners, clique_firsts, clique_of}
use Rattle.reduction_spec.proofs.Numbering.{index_kept, firsts_of_ext, index_ext}
use Rattle.reduction_spec.proofs.SameLinksSameCover.{cover-alike}
use Rattle.reduction_spec.proofs.CoverPartition.{cover-clique, cover_below}
use Rattle.reduction.proofs.heights.ColumnsByName.{owner_equivalence}

agree_sym : (zs os : List ℕ) (s p q : ℕ) → agree_words zs os s p q ≡ agree_words zs os s q p
unfolding agree_words
agree_sym zs os s p q =
    every_ext (λ i. eqb (bit_or (bit_and (get_or zs (p * s + i) 0) (get_or os (q * s + i) 0)) (bit_and (get_or os (p * s + i) 0) (get_or zs (q * s + i) 0))) 0)
    (λ i. eqb (bit_or (bit_and (get_or zs (q * s + i) 0) (get_or os (p * s + i) 0)) (bit_and (get_or os (q * s + i) 0) (get_or zs (p * s + i) 0))) 0) s
    (λ i h.
    let zp = get_or zs (p * s + i) 0 in
    let oq = get_or os (q * s + i) 0 in
    let op = get_or os (p * s + i) 0 in
    let zq = get_or zs (q * s + i) 0 in
    ap (λ (x : ℕ). eqb x 0) (or_comm (bit_and zp oq) (bit_and op zq) ∙ ap₂ bit_or (and_comm op zq) (and_comm zp oq)))

module _ (size : ℕ) (zs os : List ℕ) (w : ℕ) (ps : List ℕ) (few : w ≤ 512) where
  abbrev linked : ℕ → ℕ → Bool
  linked = linked_words zs os size ps

  linked_sym : (c d : ℕ) → linked c d ≡ linked d c
  unfolding linked_words
  linked_sym c d = ap₂ (λ (x y : Bool). not x && y) (equal_sym c d) (agree_sym zs os size (get_or ps c 0) (get_or ps d 0))

  flags_at : (c d : ℕ) → c < w → d < w → is_in (link_flags size zs os w ps) (c * w + d) ≡ linked c d
  unfolding link_flags
  flags_at c d hc hd =
      ap (λ (v : ℕ). eqb v 1) (get_or-rect w (λ c d. flag (linked c d)) 0 w c d hc hd) ∙ flag_is (linked c d)

  -- the flags, written to the front of a list that is long enough
  module _ (old link : List ℕ) (len : length old ≡ 262144) (is : link ≡ sets old 0 (rect w w (λ c d. flag (linked_words zs os size ps c d)))) where
    link_at : (c d : ℕ) → c < w → d < w → is_in link (c * w + d) ≡ linked c d
    unfolding link_flags
    link_at c d hc hd =
        let flags = rect w w (λ c d. flag (linked c d)) in
        let size : length flags ≡ w * w = length-rect w (λ c d. flag (linked c d)) w in
        let room : c * w + w ≤ w * w = row_end c w w hc in
        let square : w * w ≤ 512 * 512 = mul-le-mul few few in
        ap (λ (l : List ℕ). is_in l (c * w + d)) is
        ∙ ap (λ (v : ℕ). eqb v 1) (get_or_sets old flags (c * w + d) 0 (omega arith) (omega arith))
        ∙ flags_at c d hc hd

    pub link_length : length link ≡ 262144
    link_length = ap (λ (l : List ℕ). length l) is ∙ length-sets old 0 (rect w w (λ c d. flag (linked c d))) ∙ len

    pub link_mutual : (c d : ℕ) → c < w → d < w → is_in link (c * w + d) ≡ is_in link (d * w + c)
    link_mutual c d hc hd = link_at c d hc hd ∙ linked_sym c d ∙ sym (link_at d c hd hc)

    cover_is : cover w link ≡ owners size zs os w ps
    unfolding owners
    cover_is =
        cover-alike w link (link_flags size zs os w ps) (λ c d hc hd. ap (λ (x : Bool). not (eqb c d) && x) (link_at c d hc hd ∙ sym (flags_at c d hc hd)))

    pub cover-owner : (c : ℕ) → c < w → get_or (puts w (λ c. get_or (cover w link) c 0) (replicate 512 0)) c 0 ≡ get_or (owners size zs os w ps) c 0
    cover-owner c hc = stored 512 w (λ c. get_or (cover w link) c 0) c few hc ∙ ap (λ (l : List ℕ). get_or l c 0) cover_is

  pub owner_below : (c : ℕ) → c < w → get_or (owners size zs os w ps) c 0 < 512
  unfolding owners
  owner_below c hc = omega (arith, cover_below w (link_flags size zs os w ps) c hc)

  flags_mutual : (c d : ℕ) → c < w → d < w → is_in (link_flags size zs os w ps) (c * w + d) ≡ is_in (link_flags size zs os w ps) (d * w + c)
  flags_mutual c d hc hd = flags_at c d hc hd ∙ linked_sym c d ∙ sym (flags_at d c hd hc)

  -- without a link each column is a clique of its own
  apart-owner : any w (λ c. any w (linked c)) ≡ false → (c d : ℕ) → c < w → d < w → same_owner (owners size zs os w ps) c d ≡ eqb c d
  unfolding same_owner owners
  apart-owner none c d hc hd =
      let O = owners size zs os w ps in
      by_equal c d
      (λ e. eq-eqb (get_or O c 0) (get_or O d 0) (ap (λ (i : ℕ). get_or O i 0) e) ∙ sym (eq-eqb c d e))
      (λ e.
      ne_eqb (get_or O c 0) (get_or O d 0) (λ z.
      not-both (sym (flags_at c d hc hd) ∙ cover-clique w (link_flags size zs os w ps) flags_mutual c d hc hd e z)
      (any_out (linked c) w (any_out (λ c. any w (linked c)) w none c hc) d hd))
      ∙ sym (ne_eqb c d e))

  -- owners that part the columns alike give the same cliques
  module _ (owner : List ℕ) (alike : (c d : ℕ) → c < w → d < w → same_owner owner c d ≡ same_owner (owners size zs os w ps) c d) where
    firsts-alike : firsts_of (same_owner owner) w ≡ clique_firsts size zs os w ps
    unfolding clique_firsts
    firsts-alike = firsts_of_ext (same_owner owner) (same_owner (owners size zs os w ps)) w alike (owner_equivalence owner)

    pub cliques_count : length (firsts_of (same_owner owner) w) ≡ length (clique_firsts size zs os w ps)
    cliques_count = ap (λ (l : List ℕ). length l) firsts-alike

    pub cliques_numbered : (old : List ℕ)
        → puts w (λ c. index_in (same_owner owner) (firsts_of (same_owner owner) c) c) old ≡ puts w (clique_of size zs os w ps) old
    unfolding clique_of clique_firsts
    cliques_numbered old =
        puts_ext (λ c. index_in (same_owner owner) (firsts_of (same_owner owner) c) c) (clique_of size zs os w ps) w old
        (λ c hc.
        index_kept (same_owner owner) (owner_equivalence owner) w c hc
        ∙ index_ext (same_owner owner) (same_owner (owners size zs os w ps)) w alike (owner_equivalence owner) c hc)

  pub owners-alike : (owner : List ℕ) → ((c : ℕ) → c < w → get_or owner c 0 ≡ get_or (owners size zs os w ps) c 0)
      → (c d : ℕ) → c < w → d < w → same_owner owner c d ≡ same_owner (owners size zs os w ps) c d
  unfolding same_owner
  owners-alike owner is c d hc hd = ap₂ eqb (is c hc) (is d hd)

  pub apart-alike : any w (λ c. any w (linked_words zs os size ps c)) ≡ false → (c d : ℕ) → c < w → d < w
      → same_owner (puts w (λ c. c) (replicate 512 0)) c d ≡ same_owner (owners size zs os w ps) c d
  unfolding same_owner
  apart-alike none c d hc hd =
      ap₂ eqb (stored 512 w (λ c. c) c few hc) (stored 512 w (λ c. c) d few hd) ∙ sym (apart-owner none c d hc hd)

  -- what the owners array holds: the cover where something is linked, else each column's own number
  module _ (r : Bool) (linked-some : r ≡ any w (λ c. any w (linked_words zs os size ps c))) (old link : List ℕ) (len : length old ≡ 262144)
      (is : link ≡ sets old 0 (rect w w (λ c d. flag (linked_words zs os size ps c d)))) (owner : List ℕ)
      (held : owner ≡ cond r (puts w (λ c. get_or (cover w link) c 0) (replicate 512 0)) (puts w (λ c. c) (replicate 512 0))) where
    covered : r ≡ true → (c : ℕ) → c < w → get_or owner c 0 ≡ get_or (owners size zs os w ps) c 0
    covered e c hc = ap (λ (l : List ℕ). get_or l c 0) (held ∙ cond_yes r _ _ e) ∙ cover-owner old link len is c hc

    pub owned_below : (c : ℕ) → c < w → get_or owner c 0 < 512
    owned_below c hc =
        by_test r (λ e. rw (covered e c hc) (owner_below c hc))
        (λ e.
        let z : get_or owner c 0 ≡ c = ap (λ (l : List ℕ). get_or l c 0) (held ∙ cond_no r _ _ e) ∙ stored 512 w (λ c. c) c few hc in
        omega (arith, few))

    pub owned-alike : (c d : ℕ) → c < w → d < w → same_owner owner c d ≡ same_owner (owners size zs os w ps) c d
    owned-alike c d hc hd =
        by_test r (λ e. owners-alike owner (covered e) c d hc hd)
        (λ e.
        ap (λ (l : List ℕ). same_owner l c d) (held ∙ cond_no r _ _ e) ∙ apart-alike (sym linked-some ∙ e) c d hc hd)

-- arrays that name the same columns have the same cliques
module _ (size : ℕ) (zs os : List ℕ) (w : ℕ) (ps qs : List ℕ) (named : (c : ℕ) → c < w → get_or ps c 0 ≡ get_or qs c 0) where
  flags_named : link_flags size zs os w ps ≡ link_flags size zs os w qs
  unfolding link_flags linked_words
  flags_named =
      rect_ext (λ c d. flag (linked_words zs os size ps c d)) (λ c d. flag (linked_words zs os size qs c d)) w w
      (λ c d hc hd. ap₂ (λ (p q : ℕ). flag (not (eqb c d) && agree_words zs os size p q)) (named c hc) (named d hd))

  pub clique_firsts_named : clique_firsts size zs os w ps ≡ clique_firsts size zs os w qs
  unfolding clique_firsts owners
  clique_firsts_named = ap (λ (l : List ℕ). firsts_of (same_owner (cover w l)) w) flags_named

  pub clique_of_named : (c : ℕ) → clique_of size zs os w ps c ≡ clique_of size zs os w qs c
  unfolding clique_of clique_firsts owners
  clique_of_named c = ap (λ (l : List ℕ). index_in (same_owner (cover w l)) (firsts_of (same_owner (cover w l)) w) c) flags_named
