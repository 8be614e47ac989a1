-- Rows laid into zeros and stored byte by byte are the bytes of the rows.
-- Assumes nothing.
use mathlib.Core.Path.{◌≡◌, sym, ◌∙◌, ap, ap₂}
use mathlib.Core.List.{List}
use Prim.Native.Nat.{ℕ, ◌+◌, ◌*◌, ◌/◌, ◌%◌, ◌^◌, ◌<◌, ◌≤◌}
use native.Mathlib.Nat.{div-one}
use native.Mathlib.Omega.{arith}
use lib.ListN.{length, get_or, set, replicate}
use lib.Seq.{sets, ext_get_or}
use Rattle.laws.specs.Lists.{tab, rect, written, puts}
use Rattle.laws.proofs.Lists.{length-tab, get_or-tab, length-rect, get_or-rect}
use Rattle.laws.proofs.Puts.{puts-sets, puts-pair}
use Rattle.laws.proofs.Filled.{written-sets, laid}
use Rattle.stored_spec.specs.RowBytes.{two_bytes, row_bytes}
use Rattle.cutting.specs.Plan.{row_byte}

pub bytes_put : (vs mem : List ℕ) → length vs ≤ 12288 → length (row_bytes two_bytes vs) ≤ length mem
    → puts (length vs * 2) (row_byte (sets (replicate 12288 0) 0 vs)) mem ≡ written mem 0 (row_bytes two_bytes vs)
unfolding row_bytes row_byte
bytes_put vs mem few h =
    let held = sets (replicate 12288 0) 0 vs in
    let F : ℕ → ℕ → ℕ = λ i b. get_or vs i 0 / 2 ^ (8 * b) % 256 in
    let size = length-rect 2 F (length vs) in
    let n = length-tab (row_byte held) (length vs * 2) in
    puts-sets (row_byte held) (length vs * 2) mem
    ∙ ap (λ (x : List ℕ). sets mem 0 x)
    (ext_get_or 0 (tab (length vs * 2) (row_byte held)) (rect (length vs) 2 F) (n ∙ sym size)
    (λ j l.
    let i = j / 2 in
    let b = j % 2 in
    let j< : j < length vs * 2 = omega arith in
    let b< : b < 2 = omega arith in
    let i< : i < length vs = omega arith in
    let at : i * 2 + b ≡ j = omega arith in
    get_or-tab (row_byte held) 0 (length vs * 2) j j<
    ∙ ap (λ (x : ℕ). x / 2 ^ (8 * b) % 256) (laid 12288 vs i few i<)
    ∙ sym (ap (λ (x : ℕ). get_or (rect (length vs) 2 F) x 0) (sym at) ∙ get_or-rect 2 F 0 (length vs) i b i< b<)))
    ∙ sym (written-sets mem 0 (rect (length vs) 2 F) (omega (arith, h)))

-- two bytes more
pub pair-next : (rows l s : List ℕ) (i x y : ℕ) → s ≡ puts (i * 2) (row_byte rows) l → x ≡ get_or rows i 0 % 256 → y ≡ get_or rows i 0 / 256 % 256
    → set (set s (i * 2) x) (i * 2 + 1) y ≡ puts ((i + 1) * 2) (row_byte rows) l
unfolding row_byte
pair-next rows l s i x y e p q =
    let a : i * 2 / 2 ≡ i = omega arith in
    let b : i * 2 % 2 ≡ 0 = omega arith in
    let c : (i * 2 + 1) / 2 ≡ i = omega arith in
    let d : (i * 2 + 1) % 2 ≡ 1 = omega arith in
    let first : x ≡ row_byte rows (i * 2) =
    p ∙ ap (λ (z : ℕ). z % 256) (sym (div-one (get_or rows i 0))) ∙ sym (ap₂ (λ (k m : ℕ). get_or rows k 0 / 2 ^ (8 * m) % 256) a b) in
    let second : y ≡ row_byte rows (i * 2 + 1) = q ∙ sym (ap₂ (λ (k m : ℕ). get_or rows k 0 / 2 ^ (8 * m) % 256) c d) in
    puts-pair (row_byte rows) i l s x y e first second
