-- The hexadecimal of bytes, field by field, is read back as those bytes.
use Rattle.std.proofs.Common.{◌≡◌, ℕ, zero, suc, ◌/◌, ◌%◌, ◌==◌, ◌<◌, Bool, true, not, List, [], ◌∷◌, ◌++◌, take, drop, replicate, slice_index, Ok, refl, sym, ap, ◌∙◌, arith}
use Rattle.std.specs.Int.{byte_at, bytes_low_first}
use Rattle.std.specs.List.{list_all}
use Rattle.std.proofs.lemmas.Bool.{and_parts}
use Rattle.std.proofs.lemmas.List.{take-append-drop}
use Rattle.std.proofs.lemmas.List.Elements.{filter-append}
use Rattle.command_codec.specs.Fields.{IsBytes}
use Rattle.hex.specs.Hex.{encode_lower, encode_with, lower_digits}
use Rattle.hex.proofs.HexLemmas.{decode_of-encode_lower}
use Rattle.message_words.specs.Hex.{bytes_of, digits_in, fields_hex, grouped, marked}

-- ---- no digit is a mark

abbrev is_digit : ℕ → Bool
is_digit byte = not (byte == 95)

is_digit-at : (digits : List ℕ) → list_all is_digit digits ≡ true → (at : ℕ) → is_digit (slice_index digits at) ≡ true
is_digit-at [] all at = refl
is_digit-at (digit ∷ digits) all zero = (and_parts (is_digit digit) (list_all is_digit digits) all).0
is_digit-at (digit ∷ digits) all (suc at) = is_digit-at digits (and_parts (is_digit digit) (list_all is_digit digits) all).1 at

lower_is_digit : (at : ℕ) → is_digit (slice_index lower_digits at) ≡ true
lower_is_digit at = is_digit-at lower_digits refl at

digits_stay : (bytes : List ℕ) → digits_in (encode_lower bytes) ≡ encode_lower bytes
unfolding encode_with
digits_stay [] = refl
digits_stay (byte ∷ bytes) = rw (lower_is_digit (byte / 16), lower_is_digit (byte % 16), digits_stay bytes) refl

-- ---- fields

encode-append : (front rest : List ℕ) → encode_lower (front ++ rest) ≡ encode_lower front ++ encode_lower rest
unfolding encode_with
encode-append [] rest = refl
encode-append (byte ∷ bytes) rest = rw (encode-append bytes rest) refl

digits_in-marked : (bytes : List ℕ) → digits_in (marked bytes) ≡ encode_lower bytes
unfolding encode_with
digits_in-marked [] = refl
digits_in-marked (byte ∷ bytes) = digits_stay (byte ∷ bytes)

digits_in-fields : (widths bytes : List ℕ) → digits_in (fields_hex widths bytes) ≡ encode_lower bytes
unfolding fields_hex
digits_in-fields [] bytes = digits_in-marked bytes
digits_in-fields (width ∷ widths) bytes =
    filter-append is_digit (marked (take width bytes)) (fields_hex widths (drop width bytes))
    ∙ (rw (digits_in-marked (take width bytes), digits_in-fields widths (drop width bytes)) (sym (encode-append (take width bytes) (drop width bytes))))
    ∙ ap encode_lower (take-append-drop width bytes)

digits_in-grouped : (widths bytes : List ℕ) → digits_in (grouped widths bytes) ≡ encode_lower bytes
digits_in-grouped widths bytes =
    filter-append is_digit (encode_lower (take 4 bytes)) (fields_hex widths (drop 4 bytes))
    ∙ (rw (digits_stay (take 4 bytes), digits_in-fields widths (drop 4 bytes)) (sym (encode-append (take 4 bytes) (drop 4 bytes))))
    ∙ ap encode_lower (take-append-drop 4 bytes)

pub bytes_back : (widths bytes : List ℕ) → IsBytes bytes → bytes_of (grouped widths bytes) ≡ Ok bytes
bytes_back widths bytes fits = rw (digits_in-grouped widths bytes) (decode_of-encode_lower bytes fits)

-- ---- what is bytes

pub IsBytes-append : (front rest : List ℕ) → IsBytes front → IsBytes rest → IsBytes (front ++ rest)
IsBytes-append [] rest first then at = then at
IsBytes-append (byte ∷ bytes) rest first then zero = first 0
IsBytes-append (byte ∷ bytes) rest first then (suc at) = IsBytes-append bytes rest (λ place. first (suc place)) then at

byte_fits : (from number : ℕ) → byte_at from number < 256
byte_fits from number = grind arith

pub IsBytes-low_first : (from count number : ℕ) → IsBytes (bytes_low_first from count number)
IsBytes-low_first from zero number at = omega arith
IsBytes-low_first from (suc count) number zero = byte_fits from number
IsBytes-low_first from (suc count) number (suc at) = IsBytes-low_first (suc from) count number at

pub IsBytes-zeros : (count : ℕ) → IsBytes (replicate count 0)
IsBytes-zeros zero at = omega arith
IsBytes-zeros (suc count) zero = omega arith
IsBytes-zeros (suc count) (suc at) = IsBytes-zeros count at
