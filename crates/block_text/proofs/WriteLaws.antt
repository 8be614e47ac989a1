-- How the parts of the line come to be written.
-- Assumes nothing.
use mathlib.Core.Path.{◌≡◌, refl, sym, ◌∙◌, ap, ap₂}
use mathlib.Core.Bool.{true, false, ◌||◌}
use mathlib.Core.List.{List, [], ◌∷◌, ◌++◌, append_assoc}
use Prim.Native.Nat.{ℕ, ◌+◌, ◌<◌, ◌≤◌}
use native.Mathlib.Omega.{arith}
use lib.Dec.{ltb}
use lib.ListN.{length, set, take, length-append}
use borrow.Author.Tests.{lt-ltb, le-ltb, ltb-false}
use Rattle.laws.specs.Lists.{written}
use Rattle.laws.proofs.Cases.{cond_yes, cond_no, or_split}
use Rattle.laws.proofs.Filled.{length-written, written_front}
use Rattle.std.specs.Prelude.{Ok, Err}
use Rattle.refusals.specs.declared.Refusal.TheVariants.{RowsShort, NotFormed}
use Rattle.block_text.specs.Given.{line_given}
use Rattle.call_text.specs.Lines.{admit_word}
use Rattle.call_text.proofs.CallLaws.{set-written, written_on}
use Rattle.block_text.specs.BlockLine.{bytes_text, block_line, write_line, ReadsBack}
use Rattle.block_text.proofs.BytesBack.{AreBytes, text-none}
use Rattle.block_text.proofs.LineBack.{read_back}

-- the text of bytes
pub put_none : (R old : List ℕ) (at : ℕ) → length R ≡ 0 → at < length old → set old at 45 ≡ written old at (bytes_text R)
put_none R old at e h = set-written old at 45 h ∙ ap (λ (s : List ℕ). written old at s) (sym (text-none R e))

-- the line from its texts
pub put_line : (A B t₀ t₁ t₂ t₃ : List ℕ) (r q : ℕ) → r ≡ length A → q ≡ length B → 8 + length A + length B ≤ length t₀
    → t₁ ≡ written t₀ 0 admit_word → t₂ ≡ written t₁ 6 A → t₃ ≡ written (set t₂ (6 + r) 32) (7 + r) B
    → set t₃ (7 + r + q) 10 ≡ written t₀ 0 (admit_word ++ (A ++ (32 ∷ (B ++ (10 ∷ [])))))
put_line A B t₀ t₁ t₂ t₃ r q er eq h w₁ w₂ w₃ =
    let la = length-append admit_word A in
    let head₃ = admit_word ++ A ++ (32 ∷ []) in
    let l₃ = length-append (admit_word ++ A) (32 ∷ []) in
    let l₄ = length-append head₃ B in
    let s₂ = written_on t₀ t₁ t₂ admit_word A 0 6 refl (omega arith) w₁ w₂ in
    let long₂ : length t₂ ≡ length t₀ = ap length s₂ ∙ length-written t₀ 0 (admit_word ++ A) (omega arith) in
    let t = set t₂ (6 + r) 32 in
    let s = written_on t₀ t₂ t (admit_word ++ A) (32 ∷ []) 0 (6 + r) (omega arith) (omega arith) s₂ (set-written t₂ (6 + r) 32 (omega arith)) in
    let s₃ = written_on t₀ t t₃ head₃ B 0 (7 + r) (omega arith) (omega arith) s w₃ in
    let long₃ : length t₃ ≡ length t₀ = ap length s₃ ∙ length-written t₀ 0 (head₃ ++ B) (omega arith) in
    let s₄ = written_on t₀ t₃ (set t₃ (7 + r + q) 10) (head₃ ++ B) (10 ∷ []) 0 (7 + r + q) (omega arith) (omega arith) s₃ (set-written t₃ (7 + r + q) 10 (omega arith)) in
    s₄
    ∙ ap (λ (x : List ℕ). written t₀ 0 x)
    (append_assoc head₃ B (10 ∷ []) ∙ append_assoc (admit_word ++ A) (32 ∷ []) (B ++ (10 ∷ [])) ∙ append_assoc admit_word A (32 ∷ (B ++ (10 ∷ []))))

-- few enough bytes for two digits each
pub few_bytes : (R Q : List ℕ) → (ltb 65535 (length R) || ltb 65535 (length Q)) ≡ false → (length R ≤ 65535) × (length Q ≤ 65535)
few_bytes R Q h =
    let (r, q) = or_split (ltb 65535 (length R)) (ltb 65535 (length Q)) h in
    (ltb-false 65535 (length R) r, ltb-false 65535 (length Q) q)

-- what the function answers
module _ (R Q old : List ℕ) where
  few : length R ≤ 65535 → length Q ≤ 65535 → (ltb 65535 (length R) || ltb 65535 (length Q)) ≡ false
  few r q = ap₂ ◌||◌ (le-ltb 65535 (length R) r) (le-ltb 65535 (length Q) q)

  pub write_many : (ltb 65535 (length R) || ltb 65535 (length Q)) ≡ true → line_given (Err NotFormed) old ≡ write_line R Q old
  unfolding write_line
  write_many h = sym (cond_yes (ltb 65535 (length R) || ltb 65535 (length Q)) _ _ h)

  pub write-short : length R ≤ 65535 → length Q ≤ 65535 → length old < length (block_line R Q) → line_given (Err RowsShort) old ≡ write_line R Q old
  unfolding write_line
  write-short r q h =
      sym
      (cond_no (ltb 65535 (length R) || ltb 65535 (length Q)) _ _ (few r q)
      ∙ cond_yes (ltb (length old) (length (block_line R Q))) _ _ (lt-ltb (length old) (length (block_line R Q)) h))

  pub write-whole : (size : ℕ) (new : List ℕ) → length R ≤ 65535 → length Q ≤ 65535 → size ≡ length (block_line R Q) → length (block_line R Q) ≤ length old
      → new ≡ written old 0 (block_line R Q) → line_given (Ok size) new ≡ write_line R Q old
  unfolding write_line
  write-whole size new r q e h w =
      rw (e, w)
      (sym
      (cond_no (ltb 65535 (length R) || ltb 65535 (length Q)) _ _ (few r q)
      ∙ cond_no (ltb (length old) (length (block_line R Q))) _ _ (le-ltb (length old) (length (block_line R Q)) h)))

-- what stands at the front is read back
pub reads_back : (R Q old new : List ℕ) (size : ℕ) → AreBytes R → AreBytes Q → length R ≤ 65535 → length Q ≤ 65535 → size ≡ length (block_line R Q)
    → new ≡ written old 0 (block_line R Q) → ReadsBack (take size new) R Q
reads_back R Q old new size are-R are-Q r q e w =
    let line : take size new ≡ block_line R Q = ap₂ take e w ∙ written_front (block_line R Q) old in
    rw line (read_back R Q are-R are-Q r q)
