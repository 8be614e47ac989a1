-- `reduction::distinct::number` meets its contract.
-- Assumes nothing.
use mathlib.Core.Path.{◌≡◌, sym, ◌∙◌, ap}
use mathlib.Core.Bool.{Bool}
use Prim.Native.Nat.{ℕ}
use lib.Seq.{sets}
use Rattle.laws.proofs.Puts.{puts_none, puts-next}
use Rattle.reduction_spec.specs.Numbering.{index_in, firsts_of}
use Rattle.reduction.specs.Distinct.{same_words}
use Rattle.reduction.specs.ColumnHashes.{key_of}
use Rattle.reduction.proofs.distinct.NumberedSoFar.{so_far_none, so_far_index, so_far_small, so_far_room, so_far_next, so_far_full, so_far_count, so_far_copy}
use native.Mathlib.Omega.{arith}
use Rattle.reduction.proofs.StdSteps.{copied_front}
use Rattle.reduction.proofs.distinct.number.Goals as goal

pub loop-q-init : goal.loop-q-init
loop-q-init c =
    let a = c.args in
    let R : ℕ → ℕ → Bool = same_words a.planes.now.zero a.planes.now.one a.size in
    (so_far_none R (key_of a.planes.now.zero a.planes.now.one a.size), sym (puts_none (λ i. index_in R (firsts_of R i) i) a.numbers.now))

pub returns-then-c-eq-MOST_COLUMNS-clause-value : goal.returns-then-c-eq-MOST_COLUMNS-clause-value
returns-then-c-eq-MOST_COLUMNS-clause-value c =
    let l = c.loop-q in
    let a = c.args in
    let R : ℕ → ℕ → Bool = same_words a.planes.now.zero a.planes.now.one a.size in
    let K : ℕ → ℕ = key_of a.planes.now.zero a.planes.now.one a.size in
    let j : c.index_of-c.result ≡ index_in R (firsts_of R l.q) l.q =
    so_far_index a.planes.now.zero a.planes.now.one a.size l.q l.count l.keys l.kept l.invariant.0 c.key-k.result c.index_of-c.result c.key-k.ensures c.index_of-c.ensures in
    so_far_full R K l.q l.count l.keys l.kept l.invariant.0 c.index_of-c.result j a.cands (omega arith) c.if-c-eq-MOST_COLUMNS.true

pub keep-count-requires : goal.keep-count-requires
keep-count-requires c =
    let l = c.loop-q in
    let a = c.args in
    let R : ℕ → ℕ → Bool = same_words a.planes.now.zero a.planes.now.one a.size in
    let K : ℕ → ℕ = key_of a.planes.now.zero a.planes.now.one a.size in
    let j : c.index_of-c.result ≡ index_in R (firsts_of R l.q) l.q =
    so_far_index a.planes.now.zero a.planes.now.one a.size l.q l.count l.keys l.kept l.invariant.0 c.key-k.result c.index_of-c.result c.key-k.ensures c.index_of-c.ensures in
    so_far_room R K l.q l.count l.keys l.kept l.invariant.0 c.index_of-c.result j c.if-c-eq-MOST_COLUMNS.false

pub overflow_cast-numbers : goal.overflow_cast-numbers
overflow_cast-numbers c =
    let l = c.loop-q in
    let a = c.args in
    let R : ℕ → ℕ → Bool = same_words a.planes.now.zero a.planes.now.one a.size in
    let K : ℕ → ℕ = key_of a.planes.now.zero a.planes.now.one a.size in
    let j : c.index_of-c.result ≡ index_in R (firsts_of R l.q) l.q =
    so_far_index a.planes.now.zero a.planes.now.one a.size l.q l.count l.keys l.kept l.invariant.0 c.key-k.result c.index_of-c.result c.key-k.ensures c.index_of-c.ensures in
    let s = so_far_small R K l.q l.count l.keys l.kept l.invariant.0 c.index_of-c.result j in
    omega (arith, s)

pub loop-q-preserved : goal.loop-q-preserved
loop-q-preserved c =
    let l = c.loop-q in
    let a = c.args in
    let R : ℕ → ℕ → Bool = same_words a.planes.now.zero a.planes.now.one a.size in
    let K : ℕ → ℕ = key_of a.planes.now.zero a.planes.now.one a.size in
    let j : c.index_of-c.result ≡ index_in R (firsts_of R l.q) l.q =
    so_far_index a.planes.now.zero a.planes.now.one a.size l.q l.count l.keys l.kept l.invariant.0 c.key-k.result c.index_of-c.result c.key-k.ensures c.index_of-c.ensures in (
      so_far_next R K l.q l.count l.keys l.kept l.invariant.0 c.index_of-c.result j c.key-k.result _ _ _ (so_far_room R K l.q l.count l.keys l.kept l.invariant.0 c.index_of-c.result j c.if-c-eq-MOST_COLUMNS.false) c.key-k.ensures c.keep-count.ensures.value c.keep-count.ensures.keys_after c.keep-count.ensures.kept_after,
      puts-next (λ i. index_in R (firsts_of R i) i) l.q a.numbers.now l.numbers _ l.invariant.1 j,
    )

pub returns : goal.returns
returns c =
    let l = c.loop-q in
    let a = c.args in
    let R : ℕ → ℕ → Bool = same_words a.planes.now.zero a.planes.now.one a.size in
    let K : ℕ → ℕ = key_of a.planes.now.zero a.planes.now.one a.size in
    let e : l.q ≡ a.cands = omega arith in record {
      value = rw e at (so_far_count R K l.q l.count l.keys l.kept l.invariant.0);
      firsts_after = (copied_front l.count l.kept a.firsts.now _ c.copy_from_slice.ensures.after (omega (arith, l.invariant.0.few, l.invariant.0.kept-length)) (omega (arith, l.invariant.0.few, c.told-firsts)) ∙ so_far_copy R K l.q l.count l.keys l.kept l.invariant.0 a.firsts.now ∙ ap (λ (n : ℕ). sets a.firsts.now 0 (firsts_of R n)) e);
      numbers_after = (rw e at l.invariant.1);
    }
