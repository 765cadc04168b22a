-- A text of ASCII is UTF-8.
use Rattle.std.proofs.Common.{◌≡◌, ℕ, zero, suc, true, List, [], ◌∷◌}
use Rattle.std.specs.Char.{is_ascii}
use Rattle.std.specs.List.{list_all}
use Rattle.std.specs.Str.{IsAscii, IsUtf8}
use Rattle.std.proofs.lemmas.Bool.{and_parts, ltb-true}
use Rattle.std.proofs.lemmas.Str.{IsUtf8-from_ascii}
use Rattle.std.proofs.lemmas.Str.Ascii.{IsAscii-nil}

ascii_bytes : (bs : List ℕ) → list_all is_ascii bs ≡ true → IsAscii bs
ascii_bytes [] all i = IsAscii-nil i
ascii_bytes (b ∷ bs) all zero = ltb-true b 128 (and_parts (is_ascii b) (list_all is_ascii bs) all).0
ascii_bytes (b ∷ bs) all (suc i) = ascii_bytes bs (and_parts (is_ascii b) (list_all is_ascii bs) all).1 i

pub is_utf8_if_ascii : (bs : List ℕ) → list_all is_ascii bs ≡ true → IsUtf8 bs
is_utf8_if_ascii bs all = IsUtf8-from_ascii bs (ascii_bytes bs all)
