-- Numbering by smallest member, for any relation between numbers.
-- Assumes nothing.
use Rattle.std.specs.Prelude.{ℕ, zero, suc, Bool, cond, List, [], ◌∷◌, ◌++◌, ltb, length, get_or}
use Rattle.laws.specs.Tests.{least}

-- the place in ps of the first to which q is related; length ps where there is none
unfoldable pub index_in : (ℕ → ℕ → Bool) → List ℕ → ℕ → ℕ
index_in R ps q = least (length ps) (λ c. R q (get_or ps c 0))

-- of the numbers below q those that are related to none before them, in rising order
unfoldable pub firsts_of : (ℕ → ℕ → Bool) → ℕ → List ℕ
firsts_of R zero = []
firsts_of R (suc q) =
    let ps = firsts_of R q in
    cond (ltb (index_in R ps q) (length ps)) ps (ps ++ (q ∷ []))
