-- The final table of an accepted sheet: its values are 0, 1 and d, it keeps every value that the sheet forces, no line depends on the
-- inputs below its output, and its diagram has at most 10,240 nodes.
-- Assumes nothing.
use mathlib.Core.Path.{◌≡◌, sym, ◌∙◌, ap}
use mathlib.Core.Bool.{false, ◌&&◌}
use mathlib.Core.List.{List, []}
use Prim.Native.Nat.{ℕ, zero, suc, ◌+◌, ◌-◌, ◌*◌, ◌/◌, ◌^◌, ◌<◌, ◌≤◌}
use native.Mathlib.Nat.{div-mul-le_self, suc-mul}
use native.Mathlib.Omega.{arith}
use borrow.Author.Tests.{leb-true, not-false}
use lib.Dec.{leb}
use lib.ListN.{length, get_or, length-append}
use Rattle.laws.specs.Tests.{within}
use Rattle.laws.specs.Lists.{tab}
use Rattle.laws.proofs.Cases.{by_test, by_equal, and_split, cond_yes}
use Rattle.laws.proofs.Lists.{length-tab, get_or-tab}
use Rattle.sheet_spec.specs.Job.{Job, t}
use Rattle.sheet_spec.specs.Refusals.{out_of_range, refuse1, sheet_refusal}
use Rattle.sheet_spec.specs.Table.{table_at, table}
use Rattle.sheet_spec.specs.Accepted.{Accepted}
use Rattle.sheet_spec.proofs.Promises.{table-entry, table_below, job-accepted, ins_below, table_ruled}
use Rattle.reduction_spec.specs.Merge.{reduced, refuse7}
use Rattle.reduction_spec.specs.Columns.{firsts_at, width, layers, width_in}
use Rattle.reduction_spec.specs.Diagram.{node_at, nodes_to, nodes}
use Rattle.reduction_spec.proofs.MergeKeepsOrderRule.{Ruled}
use Rattle.reduction_spec.proofs.AllMerges.{merged_below, merged_ruled, reduced-keeps, width_top, width-bottom, width_fits}

module _ (j : Job) (s : List ℕ) (e : sheet_refusal j s ≡ 0) where
  read : Accepted j.n j.m j.order s
  read = job-accepted j s e

  pub some-variable : 1 ≤ t j
  unfolding sheet_refusal refuse1 out_of_range
  some-variable =
      by_test (refuse1 j) (λ b. let z = sym (cond_yes (refuse1 j) 1 _ b) ∙ e in absurd (omega arith))
      (λ b.
      let all = not-false (within 1 12 j.n && within 1 8 j.m && within 2 12 j.K && within 1 16 j.L) b in
      let three = (and_split (within 1 12 j.n && within 1 8 j.m && within 2 12 j.K) (within 1 16 j.L) all).0 in
      let two = (and_split (within 1 12 j.n && within 1 8 j.m) (within 2 12 j.K) three).0 in
      let one = (and_split (within 1 12 j.n) (within 1 8 j.m) two).0 in
      omega (arith, leb-true 1 j.n (and_split (leb 1 j.n) (leb j.n 12) one).0))

  pub reduced_below : (i : ℕ) → get_or (reduced j (table j s)) i 0 < 3
  unfolding reduced
  reduced_below = merged_below j (table j s) (table_below j.n j.m j.order s) (t j - 1)

  -- what the sheet forces stays
  pub reduced_refines : (k x v : ℕ) → k < j.m → x < 2 ^ j.n → v < 2 → table_at j.n j.m j.order s k x ≡ v
      → get_or (reduced j (table j s)) (k * 2 ^ j.n + x) 0 ≡ v
  reduced_refines k x v hk hx hv is =
      reduced-keeps j read.order-whole read.inputs read.outputs (table j s) k x v hk hx hv (table-entry j s k x hk hx ∙ is)

  pub sheet_ruled : Ruled j.n j.m (ins_below (t j) j.order) (table j s)
  sheet_ruled k x hk hx =
      let b = ins_below (t j) j.order k in
      table-entry j s k x hk hx ∙ table_ruled j s e k x hk hx
      ∙ sym (table-entry j s k (x / 2 ^ b * 2 ^ b) hk (omega (arith, div-mul-le_self x (2 ^ b))))

  pub reduced_ruled : Ruled j.n j.m (ins_below (t j) j.order) (reduced j (table j s))
  unfolding reduced
  reduced_ruled =
      merged_ruled j read.order-whole read.inputs read.outputs (table j s) sheet_ruled (t j - 1)

-- where 7 is not given no height has over 512 columns
pub width_most : (j : Job) (s : List ℕ) → sheet_refusal j s ≡ 0 → refuse7 j (table j s) ≡ false
    → (h : ℕ) → h ≤ t j → width j (reduced j (table j s)) h ≤ 512
width_most j s e narrow h l =
    let r = read j s e in
    let f = reduced j (table j s) in
    by_equal h 0 (λ z. omega (arith, ap (width j f) z, width-bottom j f))
    (λ z.
    by_equal h (t j) (λ top. omega (arith, ap (width j f) top, width_top j r.order-whole r.inputs r.outputs f))
    (λ below. width_fits j r.order-whole r.inputs r.outputs (table j s) narrow h (omega arith) (omega arith)))

-- the widths as the layers hold them
pub width-layer : (j : Job) (f : List ℕ) (h : ℕ) → h ≤ t j → width_in (layers j f) h ≡ width j f h
unfolding layers width
width-layer j f h l = ap (λ (ps : List ℕ). length ps) (get_or-tab (firsts_at j f) [] (suc (t j)) h (omega arith))

-- nodes at heights h to 1 with widths of at most w
nodes-few : (j : Job) (f : List ℕ) (ls : List (List ℕ)) (w h : ℕ) → ((g : ℕ) → g < h → width_in ls (suc g) ≤ w) → length (nodes_to j f ls h) ≤ h * w
unfolding nodes_to
nodes-few j f ls w zero l = omega arith
nodes-few j f ls w (suc h) l =
    let few = nodes-few j f ls w h (λ g k. l g (omega arith)) in
    let e = length-append (tab (width_in ls (suc h)) (node_at j f ls h)) (nodes_to j f ls h) in
    let s = length-tab (node_at j f ls h) (width_in ls (suc h)) in
    omega (arith, e, s, few, l h (omega arith), suc-mul h w)

pub nodes_fit : (j : Job) (s : List ℕ) → sheet_refusal j s ≡ 0 → refuse7 j (table j s) ≡ false
    → length (nodes j (reduced j (table j s)) (layers j (reduced j (table j s)))) ≤ 10240
unfolding nodes
nodes_fit j s e narrow =
    let r = read j s e in
    let f = reduced j (table j s) in
    let fits : (g : ℕ) → g < t j → width_in (layers j f) (suc g) ≤ 512 =
    λ g l. omega (arith, width-layer j f (suc g) (omega arith), width_most j s e narrow (suc g) (omega arith)) in
    omega (arith, nodes-few j f (layers j f) 512 (t j) fits, r.inputs, r.outputs)
