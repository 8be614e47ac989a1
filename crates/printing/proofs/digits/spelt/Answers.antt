-- `digits::spelt` spells in ASCII.
-- Assumes nothing.
use Rattle.std.proofs.Common.{◌≡◌, ℕ, true, List, [], ◌∷◌, nat_lt, refl}
use Rattle.std.specs.List.{list_all}
use Rattle.std.specs.Str.{IsAscii}
use Rattle.std.proofs.lemmas.Bool.{and_parts, ltb-true}
use Rattle.std.proofs.lemmas.Str.{IsUtf8-from_ascii}
use Rattle.std.proofs.lemmas.Str.Ascii.{IsAscii-nil, IsAscii-cons}
use Rattle.hex.specs.Hex.{lower_digits}
use Rattle.hex.proofs.HexLemmas.{IsAscii-encode_with}
use Rattle.printing.proofs.digits.spelt.Goals as goal

ascii_from_test : (bs : List ℕ) → list_all (λ b. nat_lt b 128) bs ≡ true → IsAscii bs
ascii_from_test [] h = IsAscii-nil
ascii_from_test (b ∷ rest) h =
    let parts = and_parts (nat_lt b 128) (list_all (λ b. nat_lt b 128) rest) h in
    IsAscii-cons b rest (ltb-true b 128 parts.0) (ascii_from_test rest parts.1)

pub unreachable-requires : goal.unreachable-requires
unreachable-requires c =
    let spelt = c.encode_to_slice.ensures.written in
    let ascii = IsAscii-encode_with lower_digits c.args.piece.now (ascii_from_test lower_digits refl) in
    c.in_default.ensures.cases.0 (IsUtf8-from_ascii c.encode_to_slice.new.output (rw (rw c.unwrap.ensures at spelt) ascii))
