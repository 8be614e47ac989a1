-- Writing a list of calls: the bytes of each call that fits are a whole call, whatever stands after them, so the list is read back.
-- Each number that is written is a byte.
-- Assumes nothing.
use mathlib.Core.Path.{◌≡◌, refl, sym, ◌∙◌, ap, ap₂}
use mathlib.Core.Bool.{true, ◌&&◌}
use mathlib.Core.List.{List, [], ◌∷◌, ◌++◌, append_assoc, append-nil}
use Prim.Native.Nat.{ℕ, zero, suc, ◌+◌, ◌*◌, ◌/◌, ◌%◌, ◌<◌}
use native.Mathlib.Omega.{arith}
use borrow.Author.Tests.{le-leb, eqb-true, ltb-true, lt-ltb}
use lib.Dec.{eqb, ltb}
use lib.ListN.{length, get_or, take, drop, length-append}
use lib.Seq.{take-append_seam, drop-append_seam, drop-drop, drop-length}
use Rattle.laws.specs.Lists.{tab, joined}
use Rattle.laws.specs.Tests.{every}
use Rattle.laws.proofs.Cases.{cond_yes, and_split, and_join}
use Rattle.laws.proofs.Bits.{two_bytes_lem}
use Rattle.laws.proofs.Lists.{tab_ext, tab_of}
use Rattle.laws.proofs.Tests.{every_at}
use Rattle.bank_spec.specs.Calls.{handed, every_scan}
use Rattle.bank_spec.specs.CallLists.{admission, latching, stepping}
use Rattle.replay.specs.Coded.{Coded, making, calling, pair, triple, said_size, size, block_from, first, calls_to, left_after, calls_in, readable, pair_of, triple_of, all_bytes, older_code, code_of, fits, codes_of, all_fit}
use Rattle.replay.proofs.Reading.{calls_more, readable_more}

-- a number is what its three bytes say
three_bytes : (x : ℕ) → x % 256 + 256 * (x / 256 % 256) + 65536 * (x / 65536) ≡ x
three_bytes x = omega arith

-- a call has bytes, and they say how many they are
code-some : (c : Coded) → 0 < length (code_of c)
unfolding code_of
code-some (making S) = omega arith
code-some (calling (admission h)) = omega arith
code-some (calling (latching ws)) = omega arith
code-some (calling stepping) = omega arith

said_coded : (c : Coded) (l : List ℕ) → said_size (code_of c ++ l) ≡ length (code_of c)
unfolding code_of said_size pair triple
said_coded (making S) l = refl
said_coded (calling (admission h)) l =
    omega (arith, two_bytes_lem (length h.records), three_bytes (length h.rows), length-append h.records h.rows)
said_coded (calling (latching ws)) l = refl
said_coded (calling stepping) l = refl

size_coded : (c : Coded) (l : List ℕ) → size (code_of c ++ l) ≡ length (code_of c)
unfolding size
size_coded c l =
    let s = said_coded c l in
    cond_yes _ _ _ (le-leb (said_size (code_of c ++ l)) (length (code_of c ++ l)) (omega (arith, s, length-append (code_of c) l))) ∙ s

-- the block that they are, where records and rows stand from place i on
block_coded : (i : ℕ) (whole R bytes l : List ℕ) (period phase : ℕ) → drop i whole ≡ R ++ (bytes ++ l) → pair whole 1 ≡ length R
    → triple whole 3 ≡ length bytes → calling (admission (block_from i whole period phase)) ≡ calling (admission (handed R bytes period phase))
block_coded i whole R bytes l period phase parts p q =
    let records = ap (take (length R)) parts ∙ take-append_seam R (bytes ++ l) in
    let after = sym (drop-drop (length R) i whole) ∙ ap (drop (length R)) parts ∙ drop-append_seam R (bytes ++ l) in
    ap₂ (λ (m n : ℕ). calling (admission (handed (take m (drop i whole)) (take n (drop (i + m) whole)) period phase))) p q
    ∙ ap₂ (λ (r s : List ℕ). calling (admission (handed r s period phase))) records (ap (take (length bytes)) after ∙ take-append_seam bytes l)

-- the call that they are
first_coded : (c : Coded) (l : List ℕ) → fits c ≡ true → first (code_of c ++ l) ≡ c
unfolding code_of first pair triple fits
first_coded (making S) l h = ap making (two_bytes_lem S)
first_coded (calling (admission b)) l h =
    block_coded 8 (code_of (calling (admission b)) ++ l) b.records b.rows l b.period b.phase (append_assoc b.records b.rows l)
    (two_bytes_lem (length b.records)) (three_bytes (length b.rows))
first_coded (calling (latching ws)) l h =
    let word : ℕ → ℕ = λ b. get_or ws b 0 in
    let eight = eqb-true (length ws) 8 (and_split (eqb (length ws) 8) (every 8 (λ b. ltb (word b) 65536)) h).0 in
    ap (λ (s : List ℕ). calling (latching s))
    (tab_ext (λ b. word b % 256 + 256 * (word b / 256)) word 8 (λ b i. two_bytes_lem (word b))
    ∙ ap (λ (n : ℕ). tab n word) (sym eight) ∙ tab_of 0 ws)
first_coded (calling stepping) l h = refl

-- what stands after a call is left
module _ (c : Coded) (l : List ℕ) where
  size-some : 0 < size (code_of c ++ l)
  size-some = omega (arith, size_coded c l, code-some c)

  left_coded : drop (size (code_of c ++ l)) (code_of c ++ l) ≡ l
  left_coded = ap (λ (n : ℕ). drop n (code_of c ++ l)) (size_coded c l) ∙ drop-append_seam (code_of c) l

-- a list of calls that fit is read back, and nothing is left
pub calls_coded : (cs : List Coded) → all_fit cs ≡ true → calls_in (codes_of cs) ≡ cs
unfolding codes_of all_fit calls_in calls_to
calls_coded [] h = refl
calls_coded (c ∷ cs) h =
    let (one, rest) = and_split (fits c) (all_fit cs) h in
    let l = codes_of cs in
    calls_more (code_of c ++ l) (size-some c l)
    ∙ ap₂ (λ (x : Coded) (xs : List Coded). x ∷ xs) (first_coded c l one) (ap calls_in (left_coded c l) ∙ calls_coded cs rest)

pub coded_readable : (cs : List Coded) → all_fit cs ≡ true → readable (codes_of cs) ≡ true
unfolding codes_of all_fit readable left_after
coded_readable [] h = refl
coded_readable (c ∷ cs) h =
    let (one, rest) = and_split (fits c) (all_fit cs) h in
    let l = codes_of cs in
    readable_more (code_of c ++ l) (size-some c l) ∙ ap readable (left_coded c l) ∙ coded_readable cs rest

-- the bytes of the older admission are one call, for every scan
module _ (R bytes : List ℕ) where
  older_size : size (older_code R bytes) ≡ length (older_code R bytes)
  unfolding size said_size pair triple
  older_size =
      let said : said_size (older_code R bytes) ≡ length (older_code R bytes) =
      omega (arith, two_bytes_lem (length R), three_bytes (length bytes), length-append R bytes) in
      cond_yes _ _ _ (le-leb (said_size (older_code R bytes)) (length (older_code R bytes)) (omega (arith, said))) ∙ said

  older_first : first (older_code R bytes) ≡ calling (admission (every_scan R bytes))
  unfolding first pair triple
  older_first =
      block_coded 6 (older_code R bytes) R bytes [] 1 0 (ap (λ (x : List ℕ). R ++ x) (sym (append-nil bytes))) (two_bytes_lem (length R)) (three_bytes (length bytes))

  older_left : drop (size (older_code R bytes)) (older_code R bytes) ≡ []
  older_left = ap (λ (n : ℕ). drop n (older_code R bytes)) older_size ∙ drop-length (older_code R bytes)

  older_some : 0 < size (older_code R bytes)
  older_some = omega (arith, older_size)

  pub older_calls : calls_in (older_code R bytes) ≡ calling (admission (every_scan R bytes)) ∷ []
  unfolding calls_in calls_to
  older_calls = calls_more (older_code R bytes) older_some ∙ ap₂ (λ (x : Coded) (xs : List Coded). x ∷ xs) older_first (ap calls_in older_left)

  pub older_readable : readable (older_code R bytes) ≡ true
  unfolding readable left_after
  older_readable = readable_more (older_code R bytes) older_some ∙ ap readable older_left

-- bytes after bytes are bytes
bytes-append : (l m : List ℕ) → all_bytes l ≡ true → all_bytes m ≡ true → all_bytes (l ++ m) ≡ true
bytes-append [] m p q = q
bytes-append (x ∷ l) m p q =
    let (one, rest) = and_split (ltb x 256) (all_bytes l) p in
    and_join one (bytes-append l m rest q)

bytes-joined : (f : ℕ → List ℕ) (n : ℕ) → ((i : ℕ) → i < n → all_bytes (f i) ≡ true) → all_bytes (joined n f) ≡ true
bytes-joined f zero h = refl
bytes-joined f (suc n) h = bytes-append (joined n f) (f n) (bytes-joined f n (λ i p. h i (omega arith))) (h n (omega arith))

-- a number below 65536 is written in two bytes
pair-bytes : (x : ℕ) → ltb x 65536 ≡ true → all_bytes (pair_of x) ≡ true
pair-bytes x h =
    let below = ltb-true x 65536 h in
    and_join (lt-ltb (x % 256) 256 (omega arith)) (and_join (lt-ltb (x / 256) 256 (omega arith)) refl)

-- and one below 16777216 in three
triple-bytes : (x : ℕ) → ltb x 16777216 ≡ true → all_bytes (triple_of x) ≡ true
triple-bytes x h =
    let below = ltb-true x 16777216 h in
    and_join (lt-ltb (x % 256) 256 (omega arith))
    (and_join (lt-ltb (x / 256 % 256) 256 (omega arith)) (and_join (lt-ltb (x / 65536) 256 (omega arith)) refl))

-- so is a call that fits
code-bytes : (c : Coded) → fits c ≡ true → all_bytes (code_of c) ≡ true
unfolding code_of fits
code-bytes (making S) h = pair-bytes S h
code-bytes (calling (admission b)) h =
    let R = b.records in
    let bytes = b.rows in
    let records = ltb (length R) 65536 in
    let rows = ltb (length bytes) 16777216 in
    let period = ltb b.period 256 in
    let phase = ltb b.phase 256 in
    let (most, bytes-rows) = and_split (records && rows && period && phase && all_bytes R) (all_bytes bytes) h in
    let (counts, bytes-records) = and_split (records && rows && period && phase) (all_bytes R) most in
    let (some, few-phase) = and_split (records && rows && period) phase counts in
    let (fewer, few-period) = and_split (records && rows) period some in
    let (few-records, few-rows) = and_split records rows fewer in
    let times : List ℕ = b.period ∷ b.phase ∷ [] in
    bytes-append (pair_of (length R)) (triple_of (length bytes) ++ times ++ R ++ bytes) (pair-bytes (length R) few-records)
    (bytes-append (triple_of (length bytes)) (times ++ R ++ bytes) (triple-bytes (length bytes) few-rows)
    (bytes-append times (R ++ bytes) (and_join few-period (and_join few-phase refl)) (bytes-append R bytes bytes-records bytes-rows)))
code-bytes (calling (latching ws)) h =
    let words = (and_split (eqb (length ws) 8) (every 8 (λ b. ltb (get_or ws b 0) 65536)) h).1 in
    bytes-joined (λ b. pair_of (get_or ws b 0)) 8 (λ b i. pair-bytes (get_or ws b 0) (every_at (λ b. ltb (get_or ws b 0) 65536) 8 words b i))
code-bytes (calling stepping) h = refl

-- and a list of calls that fit
pub coded_bytes : (cs : List Coded) → all_fit cs ≡ true → all_bytes (codes_of cs) ≡ true
unfolding codes_of all_fit
coded_bytes [] h = refl
coded_bytes (c ∷ cs) h =
    let (one, rest) = and_split (fits c) (all_fit cs) h in
    bytes-append (code_of c) (codes_of cs) (code-bytes c one) (coded_bytes cs rest)
