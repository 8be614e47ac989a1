-- `words::is_bytes` meets its contract.
-- Assumes nothing.
use mathlib.Core.Path.{◌≡◌, ◌∙◌, ap₂}
use mathlib.Core.Bool.{Bool, ◌&&◌, ◌||◌}
use Prim.Native.Nat.{ℕ, ◌%◌}
use lib.Dec.{eqb}
use lib.ListN.{length, get_or}
use Rattle.std.proofs.Common.{rules, tests}
use Rattle.std.specs.Char.{is_ascii_hexdigit}
use Rattle.std.proofs.lemmas.Iterator.{YieldsList-from_slice}
use Rattle.std.proofs.lemmas.Iterator.Search.{all_from_yields_List}
use Rattle.laws.specs.Tests.{every, within}
use Rattle.laws.proofs.Tests.{every_ext}
use Rattle.call_text.specs.Words.{is_bytes, is_hex}
use Rattle.call_text.proofs.Scans.{all_placed, ascii_sixteen}
use Rattle.call_text.proofs.words.is_bytes.Goals as goal

pub returns : goal.returns
unfolding is_bytes is_hex
returns c =
    let l = c.args.text.now in
    let n = length l in
    let each = all_from_yields_List is_ascii_hexdigit _ _ c.all.result c.all.ensures.ran (YieldsList-from_slice l cc) (λ x b q k. search (rules, tests)) in
    let hex : c.all.result ≡ every n (is_hex l) =
    each ∙ all_placed is_ascii_hexdigit l ∙ every_ext (λ i. is_ascii_hexdigit (get_or l i 0)) (is_hex l) n (λ i h. ascii_sixteen (get_or l i 0)) in
    ap₂ (λ (x : ℕ) (b : Bool). eqb n 1 && eqb x 45 || within 1 131071 n && eqb (n % 2) 0 && b) c.byte_at.ensures hex
