-- What an Option that a test gives says of the test.
-- Assumes nothing.
use mathlib.Core.Path.{◌≡◌, refl}
use mathlib.Core.Bool.{Bool, true, false, cond}
use Rattle.std.specs.Prelude.{Some, None}
use Rattle.std.specs.Option.{is_some, unwrap_or}

pub some_given : {A : Type 0} (b : Bool) {x y : A} → Some x ≡ cond b (Some y) None → (b ≡ true) × (x ≡ y)
some_given true e = (refl, cc)
some_given false e = cc

pub none_given : {A : Type 0} (b : Bool) (y : A) → None ≡ cond b (Some y) None → b ≡ false
none_given true y e = cc
none_given false y e = refl

pub is_some_given : {A : Type 0} (b : Bool) (y : A) → is_some (cond b (Some y) None) ≡ b
is_some_given true y = refl
is_some_given false y = refl

pub unwrap_given : {A : Type 0} (b : Bool) (y d : A) → unwrap_or (cond b (Some y) None) d ≡ cond b y d
unwrap_given true y d = refl
unwrap_given false y d = refl
