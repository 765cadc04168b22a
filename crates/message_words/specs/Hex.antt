-- Bytes in hexadecimal, as scripts have them: `_` may stand between bytes. Own rules.
use Rattle.std.specs.Prelude.{ℕ, ◌==◌, not, List, [], ◌∷◌, ◌++◌, drop, filter, take, Result}
use Rattle.hex.specs.Hex.{decode_of, encode_lower}
use Rattle.hex.specs.declared.error.FromHexError.{FromHexError}

-- bytes after a `_`, where there are any
abbrev pub marked : List ℕ → List ℕ
marked [] = []
marked (byte ∷ bytes) = 95 ∷ encode_lower (byte ∷ bytes)

-- one field after another, of these many bytes each, and then the rest
unfoldable pub fields_hex : List ℕ → List ℕ → List ℕ
fields_hex [] bytes = marked bytes
fields_hex (width ∷ widths) bytes = marked (take width bytes) ++ fields_hex widths (drop width bytes)

-- the first field has four bytes
abbrev pub grouped : List ℕ → List ℕ → List ℕ
grouped widths bytes = encode_lower (take 4 bytes) ++ fields_hex widths (drop 4 bytes)

-- the bytes of a text in which `_` says nothing
abbrev pub digits_in : List ℕ → List ℕ
digits_in text = filter (λ byte. not (byte == 95)) text

abbrev pub bytes_of : List ℕ → Result (List ℕ) FromHexError
bytes_of text = decode_of (digits_in text)
