-- `cutting::records::write_records` meets its contract.
-- Assumes nothing.
use mathlib.Core.Path.{◌≡◌, sym, ◌∙◌, ap}
use Prim.Native.Nat.{ℕ, suc, ◌+◌, ◌-◌, ◌*◌}
use lib.ListN.{length}
use lib.ListN.{get_or}
use lib.Seq.{sets, length-sets}
use mathlib.Core.Bool.{cond}
use mathlib.Core.List.{[], ◌∷◌}
use Rattle.laws.specs.Bits.{flag}
use Rattle.cutting.specs.Plan.{is_cut}
use Rattle.cutting.proofs.Stores.{any-found}
use Rattle.cutting.proofs.levels.LevelLists.{rails-read}
use Rattle.cutting.specs.Levels.{rails_of}
use Rattle.cutting.proofs.records.RecordsWritten.{record_next}
use native.Mathlib.Omega.{arith}
use Rattle.cutting.proofs.records.write_records.Goals as goal

pub store_record-requires : goal.store_record-requires
store_record-requires c =
    let l = c.loop-i in
    let a = c.args in
    let long : length l.records ≡ length a.records.now = rw length-sets at (ap length l.invariant) in
    (omega arith, omega (arith, long))

pub loop-i-preserved : goal.loop-i-preserved
unfolding is_cut
loop-i-preserved c =
    let l = c.loop-i in
    let a = c.args in
    let t = length a.order.now in
    let g = t - 1 - l.i in
    let cuts = a.plan.now.cuts in
    let below : g ≡ t - suc l.i = omega arith in
    let cut : c.contains-cut.result ≡ is_cut cuts (a.plan.now.cells + 1) g =
    c.contains-cut.ensures.value ∙ any-found g cuts (c.from-count.result + 1) (omega (arith, c.from-count.ensures))
    ∙ ap (λ (n : ℕ). is_cut cuts (n + 1) g) c.from-count.ensures in
    c.store_record.ensures ∙ ap (λ (x : ℕ). sets l.records (l.i * 4) (get_or a.order.now l.i 0 ∷ flag c.contains-cut.result ∷ cond c.contains-cut.result x 0 ∷ 0 ∷ [])) (sym (rails-read a.plan.now.levels g))
    ∙ record_next t a.order.now (rails_of a.plan.now.levels) cuts (a.plan.now.cells + 1) l.i g c.contains-cut.result a.records.now l.records below cut l.invariant

pub returns : goal.returns
returns c =
    let l = c.loop-i in
    let e : l.i ≡ (length c.args.order.now) = omega arith in
    rw e at l.invariant
