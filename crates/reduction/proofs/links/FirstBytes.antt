-- Words compared byte by byte: a word is 0 where its bytes are, and a byte of an and or an or is that of the bytes. Rows of flags.
-- Assumes nothing.
use mathlib.Core.Path.{◌≡◌, sym, ◌∙◌, ap}
use mathlib.Core.Bool.{Bool, ◌&&◌, and_assoc, and-true}
use mathlib.Core.List.{List}
use Prim.Native.Nat.{ℕ, zero, suc, ◌+◌, ◌*◌, ◌/◌, ◌%◌, ◌^◌, ◌<◌, ◌≤◌}
use native.Mathlib.Nat.{mod-lt, zero-div}
use native.Mathlib.Omega.{arith}
use borrow.Author.Tests.{eq-eqb, eqb-true, ne_eqb}
use lib.Bits.{bit_and, bit_or, and_shr, or_shr, and_mod, or_mod}
use lib.Dec.{eqb}
use lib.ListN.{length, get_or, set, length-set}
use lib.Pow.{pow_pos, split, shr_mod}
use lib.Seq.{get_or-set_same, get_or-set_other}
use Rattle.laws.specs.Tests.{every}
use Rattle.laws.specs.Lists.{puts, puts_at}
use Rattle.laws.specs.Bits.{flag}
use Rattle.laws.proofs.Cases.{by_equal, last_or_below, same_test}
use Rattle.laws.proofs.Tests.{every-next, every_of, every_at}
use Rattle.laws.proofs.Puts.{length-puts, get_or-puts, length-puts_at, get_or-puts_at, get_or_before_at}
use Rattle.reduction.specs.FirstBytes.{byte_of, byte_at, Short, Spread, Flags, other, byte_agree, agree_to, narrowed}
use Rattle.laws.proofs.Bits.{and_flag}

-- one byte more of the first words
pub spread_next : (w : ℕ) (words : List ℕ) (size : ℕ) (ps : List ℕ) (n : ℕ) (l : List ℕ) → w ≤ 512 → n < 8 → Spread w words size ps n l → Short w words size ps
    → Spread w words size ps (n + 1) (puts_at (n * 512) w (byte_at words size ps n) l)
spread_next w words size ps n l hw hn s short =
    let f = byte_at words size ps n in
    record {
      full = length-puts_at f (n * 512) w l ∙ s.full;
      byte = λ x c hx hc.
          last_or_below x n (omega arith)
          (λ e. rw e (get_or-puts_at f (n * 512) w l 0 c hc (omega (arith, s.full))))
          (λ k. get_or_before_at f (n * 512) w l 0 (x * 512 + c) (omega arith) ∙ s.byte x c k hc);
      short = λ x c hx hc. short c hc;
    }

-- byte by byte
pub byte-zero : (x : ℕ) → byte_of 0 x ≡ 0
unfolding byte_of
byte-zero x = rw (zero-div (2 ^ (x * 8)))

pub byte_and : (a b x : ℕ) → byte_of (bit_and a b) x ≡ bit_and (byte_of a x) (byte_of b x)
unfolding byte_of
byte_and a b x = ap (λ (k : ℕ). k % 2 ^ 8) (and_shr a b (x * 8)) ∙ and_mod (a / 2 ^ (x * 8)) (b / 2 ^ (x * 8)) 8

pub byte_or : (a b x : ℕ) → byte_of (bit_or a b) x ≡ bit_or (byte_of a x) (byte_of b x)
unfolding byte_of
byte_or a b x = ap (λ (k : ℕ). k % 2 ^ 8) (or_shr a b (x * 8)) ∙ or_mod (a / 2 ^ (x * 8)) (b / 2 ^ (x * 8)) 8

-- a number of n bytes that are 0
pub bytes-zero : (n t : ℕ) → t < 2 ^ (n * 8) → ((x : ℕ) → x < n → byte_of t x ≡ 0) → t ≡ 0
unfolding byte_of
bytes-zero zero t h z = let h' : t < 1 = h in omega arith
bytes-zero (suc n) t h z =
    let e : suc n * 8 ≡ 8 + n * 8 = omega arith in
    let h' : t < 2 ^ (8 + n * 8) = rw e at h in
    let top : t / 2 ^ (n * 8) ≡ 0 = sym (shr_mod 8 (n * 8) h') ∙ z n (omega arith) in
    let whole : 0 * 2 ^ (n * 8) + t % 2 ^ (n * 8) ≡ t = rw top at (split t (n * 8)) in
    let rest : t % 2 ^ (n * 8) < 2 ^ (n * 8) = mod-lt t (pow_pos (n * 8)) in
    bytes-zero n t (omega arith) (λ x l. z x (omega arith))

pub word-zero : (t : ℕ) → t < 2 ^ 64 → every 8 (λ x. eqb (byte_of t x) 0) ≡ eqb t 0
word-zero t h =
    let f : ℕ → Bool = λ x. eqb (byte_of t x) 0 in
    same_test (every 8 f) (eqb t 0)
    (λ e. eq-eqb t 0 (bytes-zero 8 t h (λ x l. eqb-true (byte_of t x) 0 (every_at f 8 e x l))))
    (λ e. every_of f 8 (λ x l. eq-eqb (byte_of t x) 0 (ap (λ (k : ℕ). byte_of k x) (eqb-true t 0 e) ∙ byte-zero x)))

-- rows of flags
module _ (w : ℕ) (p : ℕ → Bool) (l : List ℕ) (h : Flags w p l) where
  pub flags_put : (q : ℕ → Bool) (f : ℕ → ℕ) → w ≤ 512 → ((d : ℕ) → d < w → f d ≡ flag (q d)) → Flags w q (puts w f l)
  flags_put q f hw e =
      record {
        full = length-puts f w l ∙ h.full;
        flags = λ d k. get_or-puts f w l 0 d k (omega (arith, h.full)) ∙ e d k;
      }

  pub flags_ext : (q : ℕ → Bool) → ((d : ℕ) → d < w → p d ≡ q d) → Flags w q l
  flags_ext q e =
      record {
        full = h.full;
        flags = λ d k. h.flags d k ∙ ap flag (e d k);
      }

pub flags_start : (c w : ℕ) (l : List ℕ) → w ≤ 512 → length l ≡ 512 → Flags w (other c) (set (puts w (λ d. 1) l) c 0)
flags_start c w l hw e =
    let ones = puts w (λ d. 1) l in
    let n : length ones ≡ 512 = length-puts (λ d. 1) w l ∙ e in
    record {
      full = length-set ones c 0 ∙ n;
      flags = λ d k.
          by_equal c d
          (λ s. rw (eq-eqb c d s) (ap (λ (i : ℕ). get_or (set ones c 0) i 0) (sym s) ∙ get_or-set_same ones c 0 0 (omega arith)))
          (λ s. rw (ne_eqb c d s) (get_or-set_other ones c d 0 0 (λ t. s (sym t)) ∙ get_or-puts (λ d. 1) w l 0 d k (omega arith)));
    }

-- a row narrowed by one byte more
module _ (zs os : List ℕ) (c : ℕ) where
  pub agree_none : (d : ℕ) → other c d ≡ agree_to zs os c 0 d
  unfolding agree_to
  agree_none d = sym (and-true (other c d))

  pub agree_next : (n d : ℕ) → (agree_to zs os c n d && byte_agree zs os c d n) ≡ agree_to zs os c (n + 1) d
  unfolding agree_to
  agree_next n d =
      and_assoc (other c d) (every n (byte_agree zs os c d)) (byte_agree zs os c d n) ∙ ap (λ (b : Bool). other c d && b) (sym (every-next (byte_agree zs os c d) n))

  pub narrow_next : (w n : ℕ) (row : List ℕ) → Flags w (agree_to zs os c n) row → (d : ℕ) → d < w
      → narrowed (get_or zs (n * 512 + c) 0) (get_or os (n * 512 + c) 0) (n * 512) zs os row d ≡ flag (agree_to zs os c (n + 1) d)
  unfolding narrowed byte_agree
  narrow_next w n row h d l =
      ap (λ (k : ℕ). bit_and k (flag (byte_agree zs os c d n))) (h.flags d l) ∙ and_flag (agree_to zs os c n d) (byte_agree zs os c d n)
      ∙ ap flag (agree_next n d)
