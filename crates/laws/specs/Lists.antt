-- Lists given by their elements, and a list of which a part is written over.
-- Assumes nothing.
use Rattle.std.specs.Prelude.{ℕ, zero, suc, ◌+◌, List, [], ◌∷◌, ◌++◌, length, take, drop, set}

-- f 0, f 1, .., f (n - 1)
abbrev pub tab : {A : Type 0} → ℕ → (ℕ → A) → List A
tab zero f = []
tab (suc n) f = tab n f ++ (f n ∷ [])

-- m lines of c elements: F 0 0, .., F 0 (c - 1), F 1 0, ... The element F k x stands at k * c + x
abbrev pub rect : {A : Type 0} → ℕ → ℕ → (ℕ → ℕ → A) → List A
rect zero c F = []
rect (suc m) c F = rect m c F ++ tab c (F m)

-- f 0, then f 1, .., then f (n - 1), one list after another
abbrev pub joined : {A : Type 0} → ℕ → (ℕ → List A) → List A
joined zero f = []
joined (suc n) f = joined n f ++ f n

-- the list l after f 0, .., f (n - 1) are stored from its front
abbrev pub filled : {A : Type 0} → ℕ → (ℕ → A) → List A → List A
filled n f l = tab n f ++ drop n l

-- the list l after vs is stored from place i on
abbrev pub written : {A : Type 0} → List A → ℕ → List A → List A
written l i vs = take i l ++ vs ++ drop (i + length vs) l

-- the list l after f 0, .., f (n - 1) are stored one after another at 0, 1, ..; at b, b + 1, ... A store past the end changes nothing
unfoldable pub puts : {A : Type 0} → ℕ → (ℕ → A) → List A → List A
puts zero f l = l
puts (suc n) f l = set (puts n f l) n (f n)

unfoldable pub puts_at : {A : Type 0} → ℕ → ℕ → (ℕ → A) → List A → List A
puts_at b zero f l = l
puts_at b (suc n) f l = set (puts_at b n f l) (b + n) (f n)
