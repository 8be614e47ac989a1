-- Tests, counts, sums and searches over the numbers below n. Each grows at its end, as a loop does.
-- Assumes nothing.
use Rattle.std.specs.Prelude.{ℕ, zero, suc, ◌+◌, Bool, true, false, cond, ◌&&◌, ◌||◌, leb}

-- the test holds at each number below n
abbrev pub every : ℕ → (ℕ → Bool) → Bool
every zero f = true
every (suc n) f = every n f && f n

-- the test holds at some number below n
abbrev pub any : ℕ → (ℕ → Bool) → Bool
any zero f = false
any (suc n) f = any n f || f n

-- at how many numbers below n the test holds
abbrev pub count : ℕ → (ℕ → Bool) → ℕ
count zero f = 0
count (suc n) f = cond (f n) (count n f + 1) (count n f)

-- f 0 + f 1 + .. + f (n - 1)
abbrev pub sum : ℕ → (ℕ → ℕ) → ℕ
sum zero f = 0
sum (suc n) f = sum n f + f n

-- of the numbers j, j + 1, .., j + n - 1 the least at which the test holds; j + n where there is none
abbrev pub find : (ℕ → Bool) → ℕ → ℕ → ℕ
find p zero j = j
find p (suc n) j = let r = find p n (suc j) in cond (p j) j r

-- the least number below n at which the test holds; n where there is none
abbrev pub least : ℕ → (ℕ → Bool) → ℕ
least n p = find p n 0

-- a is at most x, and x at most b
abbrev pub within : ℕ → ℕ → ℕ → Bool
within a b x = leb a x && leb x b
