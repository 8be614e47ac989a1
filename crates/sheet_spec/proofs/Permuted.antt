-- Sheets with the same records, each as often, are those of whole records whose lists of records are permutations of each other (document 02, §4).
-- Assumes nothing.
use mathlib.Core.Path.{◌≡◌, refl, sym, ◌∙◌, ap, ap₂}
use mathlib.Core.Bool.{Bool, true, false, ◌&&◌}
use mathlib.Core.List.{List, Perm, List-discrete}
use Prim.Native.Nat.{ℕ, ◌+◌, ◌*◌, ◌%◌, ◌<◌}
use native.Mathlib.Decide.{ℕ_discrete}
use native.Mathlib.Nat.{div-add-mod'}
use lib.Dec.{eqb}
use lib.ListN.{length, get_or}
use borrow.Author.Tests.{eqb-true, eq-eqb}
use Rattle.laws.specs.Tests.{every, count}
use Rattle.laws.specs.Lists.{tab}
use Rattle.laws.proofs.Cases.{and_split, and_join}
use Rattle.laws.proofs.Tests.{every_of, every_at, every_ext}
use Rattle.laws.proofs.Counts.{count_ext}
use Rattle.laws.proofs.Masks.{count_empty}
use Rattle.laws.proofs.Lists.{length-tab, get_or-tab, by_elements}
use Rattle.laws.proofs.Permutations.{perm_count, perm_length, count_perm}
use Rattle.sheet_spec.specs.Records.{record_count, byte}
use Rattle.sheet_spec.specs.SameRecords.{is_record, times_in, SameRecords, record_at, records_of}

-- the eight bytes of record r are b
module _ (s b : List ℕ) (r : ℕ) where
  pub record_bytes_lem : is_record s b r ≡ true → (k : ℕ) → k < 8 → byte s r k ≡ get_or b k 0
  unfolding is_record
  record_bytes_lem e k k< = eqb-true (byte s r k) (get_or b k 0) (every_at (λ k. eqb (byte s r k) (get_or b k 0)) 8 e k k<)

  pub bytes_record : ((k : ℕ) → k < 8 → byte s r k ≡ get_or b k 0) → is_record s b r ≡ true
  unfolding is_record
  bytes_record h = every_of (λ k. eqb (byte s r k) (get_or b k 0)) 8 (λ k k<. eq-eqb (byte s r k) (get_or b k 0) (h k k<))

  -- as a list of eight
  is_list : Bool
  is_list = eqb (length b) 8 && is_record s b r

  list_is : is_list ≡ true → record_at s r ≡ b
  unfolding is_list record_at
  list_is e = let (l, is) = and_split (eqb (length b) 8) (is_record s b r) e in by_elements b 8 (byte s r) (eqb-true (length b) 8 l) (record_bytes_lem is)

  is_list_lem : record_at s r ≡ b → is_list ≡ true
  unfolding is_list record_at
  is_list_lem e =
      and_join (eq-eqb (length b) 8 (sym (ap length e) ∙ length-tab (byte s r) 8))
      (bytes_record (λ k k<. sym (get_or-tab (byte s r) 0 8 k k<) ∙ ap (λ (l : List ℕ). get_or l k 0) e))

-- whether record r is b goes by its list of bytes
by_bytes : (s b : List ℕ) (r : ℕ) → is_record s b r ≡ every 8 (λ k. eqb (get_or (record_at s r) k 0) (get_or b k 0))
unfolding is_record record_at
by_bytes s b r =
    every_ext (λ k. eqb (byte s r k) (get_or b k 0)) (λ k. eqb (get_or (tab 8 (byte s r)) k 0) (get_or b k 0)) 8
    (λ k k<. ap (λ (x : ℕ). eqb x (get_or b k 0)) (sym (get_or-tab (byte s r) 0 8 k k<)))

module _ (s z : List ℕ) where
  pub same_permuted : SameRecords s z → Perm (records_of s) (records_of z)
  unfolding records_of times_in is_list
  same_permuted h =
      count_perm (record_at s) (record_at z) (record_count s) (record_count z) (List-discrete ℕ_discrete) (is_list s) (is_list z)
      (list_is s) (is_list_lem s)
      (list_is z)
      (is_list_lem z)
      (λ b. often b (eqb (length b) 8))
    where
      often : (b : List ℕ) (eight : Bool) → count (record_count s) (λ r. eight && is_record s b r) ≡ count (record_count z) (λ r. eight && is_record z b r)
      often b true = h.as_often b
      often b false = count_empty (λ r. false) (record_count s) (λ r l. refl) ∙ sym (count_empty (λ r. false) (record_count z) (λ r l. refl))

  pub permuted_same : (length s % 8 ≡ 0) × (length z % 8 ≡ 0) → Perm (records_of s) (records_of z) → SameRecords s z
  unfolding records_of times_in
  permuted_same whole e = record { whole = whole; as_often = often }
    where
      often : (b : List ℕ) → times_in s b ≡ times_in z b
      often b =
          let is : List ℕ → Bool = λ l. every 8 (λ k. eqb (get_or l k 0) (get_or b k 0)) in
          count_ext (is_record s b) (λ r. is (record_at s r)) (record_count s) (λ r l. by_bytes s b r)
          ∙ perm_count (record_at s) (record_at z) (record_count s) (record_count z) e is
          ∙ count_ext (λ r. is (record_at z r)) (is_record z b) (record_count z) (λ r l. sym (by_bytes z b r))

  -- so they are of one length
  pub same_length : SameRecords s z → length s ≡ length z
  unfolding records_of
  same_length h =
      let counts : record_count s ≡ record_count z = perm_length (record_at s) (record_at z) (record_count s) (record_count z) (same_permuted h) in
      sym (div-add-mod' (length s) 8) ∙ ap₂ (λ (x y : ℕ). x * 8 + y) counts (h.whole.0 ∙ sym h.whole.1) ∙ div-add-mod' (length z) 8
