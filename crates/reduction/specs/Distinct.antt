-- Packed columns that are equal, and packed columns that are compatible.
-- Assumes nothing.
use Rattle.std.specs.Prelude.{ℕ, ◌+◌, ◌*◌, Bool, not, ◌&&◌, List, eqb, get_or}
use Rattle.std.specs.Int.Bits.{bit_and, bit_or}
use Rattle.laws.specs.Tests.{every}

-- the packed columns p and q, of size words each, are equal in both planes
unfoldable pub same_words : List ℕ → List ℕ → ℕ → ℕ → ℕ → Bool
same_words zs os size p q =
    every size (λ i. eqb (get_or zs (p * size + i) 0) (get_or zs (q * size + i) 0) && eqb (get_or os (p * size + i) 0) (get_or os (q * size + i) 0))

-- no place holds 0 in one of the packed columns p and q and 1 in the other
unfoldable pub agree_words : List ℕ → List ℕ → ℕ → ℕ → ℕ → Bool
agree_words zs os size p q =
    every size (λ i.
    eqb
    (bit_or (bit_and (get_or zs (p * size + i) 0) (get_or os (q * size + i) 0)) (bit_and (get_or os (p * size + i) 0) (get_or zs (q * size + i) 0)))
    0)

-- the columns c and d, of which ps gives the packed columns, are different and compatible
unfoldable pub linked_words : List ℕ → List ℕ → ℕ → List ℕ → ℕ → ℕ → Bool
linked_words zs os size ps c d = not (eqb c d) && agree_words zs os size (get_or ps c 0) (get_or ps d 0)

-- the columns c and d belong to one clique
unfoldable pub same_owner : List ℕ → ℕ → ℕ → Bool
same_owner owner c d = eqb (get_or owner c 0) (get_or owner d 0)
