-- What the sets of rail words tell of an output is what the definition says: 0 or 1 exactly where every filling of the unknown inputs makes the
-- cascade emit it.
-- Assumes nothing.
use mathlib.Core.Path.{◌≡◌, refl, sym, ◌∙◌, ap}
use mathlib.Core.Bool.{Bool, true, false, not, ◌&&◌, ◌||◌}
use mathlib.Core.List.{List}
use Prim.Native.Nat.{ℕ, zero, suc, ◌<◌, ◌≤◌}
use native.Mathlib.Omega.{arith}
use lib.Dec.{eqb}
use lib.ListN.{length, get_or, length-replicate, get_or-replicate}
use Rattle.laws.specs.Tests.{every, any}
use Rattle.laws.specs.Bits.{bit, has, flag}
use Rattle.laws.proofs.Cases.{by_test, by_equal, and_split, and_join, or_split, no_test}
use Rattle.laws.proofs.Tests.{every_at, every_out, any_at, any_out}
use Rattle.laws.proofs.Bits.{bit-lt, flag-has}
use Rattle.laws.proofs.Masks.{not-both}
use Rattle.stored_spec.specs.Cells.{rows}
use Rattle.stored_spec.specs.StoredForm.{member, cell_count, cell_at, size_of, records_formed, well_formed}
use Rattle.stored_spec.specs.Run.{rail_after, run, run_by}
use Rattle.stored_spec.proofs.ReadWriteCases.{formed-records}
use Rattle.evaluation_spec.specs.Emits.{emits}
use Rattle.evaluation_spec.specs.Known.{certain}
use Rattle.evaluation_spec.specs.RailSets.{Gathered, may_read, row_at, read_at, gathered, rail_set, some_outs, each_outs, told_of, told}
use Rattle.evaluation_spec.proofs.Words.{Fills}
use Rattle.evaluation_spec.proofs.Learning.{Always, zero_so, one_so, unknown_so, settled}
use Rattle.evaluation_spec.proofs.Gathering.{some-has, each-has}
use Rattle.evaluation_spec.proofs.Occurring.{outputs-few, read_by, next-outputs, read-within, row_read_lem, row-reached}
use Rattle.evaluation_spec.proofs.Outputs.{SetFrom, set_output, kept_output, after-length, run_length}

-- a bit by its test
bit_is : (x e : ℕ) (b : Bool) → has x e ≡ b → bit x e ≡ flag b
bit_is x e b h = sym (flag-has x e) ∙ ap flag h

module _ (known w : ℕ) (R bytes : List ℕ) (formed : records_formed R ≡ true) where
  -- output o before cell k: as the word v sets it, and by the bits that some row has, and that each has
  abbrev out_at : ℕ → ℕ → ℕ → ℕ
  out_at v k o = get_or (run R bytes v k).outputs o 2

  abbrev some_at : ℕ → ℕ → ℕ
  some_at k o = get_or (some_outs known w R bytes k) o 2

  abbrev each_at : ℕ → ℕ → ℕ
  each_at k o = get_or (each_outs known w R bytes k) o 2

  -- what is gathered of cell k, and its rows
  abbrev gathered_at : ℕ → Gathered
  gathered_at k = gathered known w R bytes k (rail_set known w R bytes k)

  abbrev readable : ℕ → ℕ → Bool
  readable k i = may_read known w (cell_at R k) (rail_set known w R bytes k) i

  abbrev row : ℕ → ℕ → ℕ
  row k i = row_at known w R bytes k i

  abbrev rows_at : ℕ → ℕ
  rows_at k = rows (size_of (cell_at R k))

  -- a word that fills and emits b at output o, in the cells before cell k
  pub record Emitting (k o b : ℕ) : Type 0 where
    pub word : ℕ
    pub small : word < 4096
    pub fill : Fills known w word
    pub emits : out_at word k o ≡ b

  -- the output is not set by the cells before cell k, or its bits tell
  pub data Tells (k o : ℕ) : Type 0 where
    lacks : some_at k o ≡ 2 → each_at k o ≡ 2 → ((v : ℕ) → out_at v k o ≡ 2) → Tells k o
    tells : some_at k o < 2 → each_at k o < 2
        → (some_at k o ≡ 0 → (v : ℕ) → Fills known w v → out_at v k o ≡ 0) → (some_at k o ≡ 1 → Emitting k o 1)
        → (each_at k o ≡ 1 → (v : ℕ) → Fills known w v → out_at v k o ≡ 1) → (each_at k o ≡ 0 → Emitting k o 0)
        → Tells k o

  pub some-length : (k : ℕ) → length (some_outs known w R bytes k) ≡ 8
  unfolding some_outs
  some-length zero = length-replicate {A = ℕ} 8 2
  some-length (suc k) = after-length (cell_at R k) (some_outs known w R bytes k) (gathered_at k).some ∙ some-length k

  pub each-length : (k : ℕ) → length (each_outs known w R bytes k) ≡ 8
  unfolding each_outs
  each-length zero = length-replicate {A = ℕ} 8 2
  each-length (suc k) = after-length (cell_at R k) (each_outs known w R bytes k) (gathered_at k).each ∙ each-length k

  -- the bits gathered of the rows of cell k
  some_bits : (k e : ℕ) → has (gathered_at k).some e ≡ any (rows_at k) (λ i. readable k i && has (row k i) e)
  unfolding gathered read_at
  some_bits k e = some-has (readable k) (row k) (λ i. rail_after (cell_at R k) (row k i)) e (rows_at k)

  each_bits : (k e : ℕ) → e < 16 → has (gathered_at k).each e ≡ every (rows_at k) (λ i. not (readable k i) || has (row k i) e)
  unfolding gathered read_at
  each_bits k e l = each-has (readable k) (row k) (λ i. rail_after (cell_at R k) (row k i)) e l (rows_at k)

  -- where cell k sets output o
  module _ (k : ℕ) (l : k < cell_count R) (o : ℕ) (o8 : o < 8) (s : SetFrom (cell_at R k) o) where
    abbrev at : ℕ
    at = s.place

    out_is : (v : ℕ) → out_at v (suc k) o ≡ bit (row k (read_by known w R bytes formed v k)) at
    out_is v =
        ap (λ (l : List ℕ). get_or l o 2) (next-outputs known w R bytes formed v k)
        ∙ s.is (run R bytes v k).outputs (row k (read_by known w R bytes formed v k)) (omega (arith, run_length R bytes v k))

    some_is : some_at (suc k) o ≡ bit (gathered_at k).some at
    unfolding some_outs
    some_is = s.is (some_outs known w R bytes k) (gathered_at k).some (omega (arith, some-length k))

    each_is : each_at (suc k) o ≡ bit (gathered_at k).each at
    unfolding each_outs
    each_is = s.is (each_outs known w R bytes k) (gathered_at k).each (omega (arith, each-length k))

    emitting : (i b : ℕ) → readable k i ≡ true → bit (row k i) at ≡ b → Emitting (suc k) o b
    emitting i b p q =
        let v = row-reached known w R bytes formed k l i p in
        record {
          word = v.word;
          small = v.small;
          fill = v.fill;
          emits = out_is v.word ∙ ap (λ (x : ℕ). bit (row k x) at) v.reads ∙ q;
        }

    -- of the rows that may be read: none has the bit, one has it; each has it, one lacks it
    none_has : has (gathered_at k).some at ≡ false → (i : ℕ) → i < rows_at k → readable k i ≡ true → has (row k i) at ≡ false
    none_has h i m p =
        no_test (has (row k i) at)
        (λ q. not-both (and_join p q) (any_out (λ i. readable k i && has (row k i) at) (rows_at k) (sym (some_bits k at) ∙ h) i m))

    one_has : has (gathered_at k).some at ≡ true → Emitting (suc k) o 1
    one_has h =
        let (i, m, p) = any_at (λ i. readable k i && has (row k i) at) (rows_at k) (sym (some_bits k at) ∙ h) in
        let (a, b) = and_split (readable k i) (has (row k i) at) p in
        emitting i 1 a (bit_is (row k i) at true b)

    within : at < 16
    within = omega (arith, s.within, outputs-few known w R bytes formed k l)

    all_have : has (gathered_at k).each at ≡ true → (i : ℕ) → i < rows_at k → readable k i ≡ true → has (row k i) at ≡ true
    all_have h i m p =
        sym (ap (λ (t : Bool). not t || has (row k i) at) p)
        ∙ every_at (λ i. not (readable k i) || has (row k i) at) (rows_at k) (sym (each_bits k at within) ∙ h) i m

    one_lacks : has (gathered_at k).each at ≡ false → Emitting (suc k) o 0
    one_lacks h =
        let (i, m, p) = every_out (λ i. not (readable k i) || has (row k i) at) (rows_at k) (sym (each_bits k at within) ∙ h) in
        let (a, b) = or_split (not (readable k i)) (has (row k i) at) p in
        emitting i 0 (by (readable k i) a) (bit_is (row k i) at false b)
      where
        by : (t : Bool) → not t ≡ false → t ≡ true
        by true e = refl
        by false e = not-both refl e

    pub cell_tells : Tells (suc k) o
    cell_tells =
        tells (omega (arith, some_is, bit-lt (gathered_at k).some at)) (omega (arith, each_is, bit-lt (gathered_at k).each at))
        (λ z v g.
        let i = read_by known w R bytes formed v k in
        out_is v
        ∙ bit_is (row k i) at false
        (none_has (ap (λ (x : ℕ). eqb x 1) (sym some_is ∙ z)) i (read-within known w R bytes formed v k l) (row_read_lem known w R bytes formed v k l g)))
        (λ z. one_has (ap (λ (x : ℕ). eqb x 1) (sym some_is ∙ z)))
        (λ z v g.
        let i = read_by known w R bytes formed v k in
        out_is v
        ∙ bit_is (row k i) at true
        (all_have (ap (λ (x : ℕ). eqb x 1) (sym each_is ∙ z)) i (read-within known w R bytes formed v k l) (row_read_lem known w R bytes formed v k l g)))
        (λ z. one_lacks (ap (λ (x : ℕ). eqb x 1) (sym each_is ∙ z)))

  -- where it does not, nothing changes
  module _ (k o : ℕ) (n : member o (cell_at R k).outs ≡ false) where
    out_kept : (v : ℕ) → out_at v (suc k) o ≡ out_at v k o
    out_kept v =
        ap (λ (l : List ℕ). get_or l o 2) (next-outputs known w R bytes formed v k) ∙ kept_output (cell_at R k) o n (run R bytes v k).outputs _

    some-kept : some_at (suc k) o ≡ some_at k o
    unfolding some_outs
    some-kept = kept_output (cell_at R k) o n (some_outs known w R bytes k) _

    each-kept : each_at (suc k) o ≡ each_at k o
    unfolding each_outs
    each-kept = kept_output (cell_at R k) o n (each_outs known w R bytes k) _

    emitting_kept : (b : ℕ) → Emitting k o b → Emitting (suc k) o b
    emitting_kept b m = record { word = m.word; small = m.small; fill = m.fill; emits = out_kept m.word ∙ m.emits }

    pub tells_kept : Tells k o → Tells (suc k) o
    tells_kept (lacks a b c) = lacks (some-kept ∙ a) (each-kept ∙ b) (λ v. out_kept v ∙ c v)
    tells_kept (tells a b c d e f) =
        tells (omega (arith, some-kept, a)) (omega (arith, each-kept, b)) (λ z v g. out_kept v ∙ c (sym some-kept ∙ z) v g)
        (λ z. emitting_kept 1 (d (sym some-kept ∙ z))) (λ z v g. out_kept v ∙ e (sym each-kept ∙ z) v g)
        (λ z. emitting_kept 0 (f (sym each-kept ∙ z)))

  all_tell : (o : ℕ) → o < 8 → (k : ℕ) → k ≤ cell_count R → Tells k o
  unfolding run_by some_outs each_outs
  all_tell o h zero l =
      lacks (get_or-replicate {A = ℕ} 8 o 2 2 h) (get_or-replicate {A = ℕ} 8 o 2 2 h) (λ v. get_or-replicate {A = ℕ} 8 o 2 2 h)
  all_tell o h (suc k) l =
      let before = all_tell o h k (omega arith) in
      by_test (member o (cell_at R k).outs) (λ m. cell_tells k l o h (set_output (cell_at R k) o m)) (λ m. tells_kept k o m before)

  -- no other value than that of a filling is always emitted
  differs : (o b c : ℕ) → Emitting (cell_count R) o c → (c ≡ b → ⊥) → Always R bytes known w o b → ⊥
  unfolding emits
  differs o b c m n h = n (sym m.emits ∙ h m.word m.small m.fill)

  told-from : (o : ℕ) → Tells (cell_count R) o → certain R bytes known w o ≡ told known w R bytes o
  unfolding told told_of emits
  told-from o (lacks a b c) = settled R bytes known w o 2 (omega arith) (λ v l f. c v) ∙ rw (a, b) refl
  told-from o (tells a b c d e f) =
      by_equal (some_at (cell_count R) o) 0
      (λ z. zero_so R bytes known w o (λ v l g. c z v g) ∙ rw z refl)
      (λ z.
      let one : some_at (cell_count R) o ≡ 1 = omega arith in
      by_equal (each_at (cell_count R) o) 1
      (λ y. one_so R bytes known w o (λ v l g. e y v g) ∙ rw (one, y) refl)
      (λ y.
      let none : each_at (cell_count R) o ≡ 0 = omega arith in
      unknown_so R bytes known w o (differs o 0 1 (d one) (λ q. absurd (omega arith))) (differs o 1 0 (f none) (λ q. absurd (omega arith)))
      ∙ rw (one, none) refl))

-- what is told of each output is exact
pub told-certain : (R bytes : List ℕ) → well_formed R bytes ≡ true → (known w o : ℕ) → o < 8 → certain R bytes known w o ≡ told known w R bytes o
told-certain R bytes e known w o h =
    let formed = formed-records R bytes e in
    told-from known w R bytes formed o (all_tell known w R bytes formed o h (cell_count R) (omega arith))
