-- The values of keys: numbers in decimal, bytes in hexadecimal, texts. Own rules.
use Rattle.std.specs.Prelude.{ℕ, ℤ, pos, neg_ℤ, ◌+◌, ◌^◌, ◌%◌, ◌==◌, nat_eq, nat_lt, List, [], ◌∷◌, Option, Some, None, Result, Ok, Err, codes, drop, length, option_and_then, if◌then◌else◌}
use Rattle.std.specs.Char.{is_ascii}
use Rattle.std.specs.List.{list_all, starts_with}
use Rattle.std.specs.Option.{option_map}
use Rattle.channel_uri.specs.Number.{below, decimal_of}
use Rattle.frame_codec.specs.declared.flags.Flags.{Flags}
use Rattle.hex.specs.Hex.{decode_of}
use Rattle.hex.specs.declared.error.FromHexError.{FromHexError}
use Rattle.message_words.specs.declared.fault.WordFault.{WordFault}
use Rattle.message_words.specs.declared.fault.WordFault.TheVariants.{Twice, Missing, BadValue}
use Rattle.message_words.specs.declared.key.Key.{Key}
use Rattle.message_words.specs.Given.{given, needed, given_or, ◌>>=◌}

-- ---- numbers

-- an unsigned number of 64 bits
unfoldable pub number_of : List ℕ → Option ℕ
number_of value = below (2 ^ 64) (decimal_of value)

-- an offset, a length or a window: a signed number of 32 bits that is not negative
unfoldable pub natural_of : List ℕ → Option ℕ
natural_of value = below (2 ^ 31) (decimal_of value)

abbrev pub aligned : ℕ → Option ℕ
aligned number = if number % 32 == 0 then Some number else None

-- an offset at which a frame may begin
abbrev pub offset_of : List ℕ → Option ℕ
offset_of value = option_and_then aligned (natural_of value)

-- a signed decimal of which that many numbers are not negative; `-0` is 0, and a `+` does not stand
unfoldable pub signed_of : ℕ → List ℕ → Option ℤ
signed_of limit value =
    if starts_with nat_eq value (codes "-")
    then option_map (λ number. neg_ℤ (pos number)) (below (limit + 1) (decimal_of (drop 1 value)))
    else option_map pos (below limit (decimal_of value))

abbrev pub integer_of : List ℕ → Option ℤ
integer_of value = signed_of (2 ^ 31) value

abbrev pub long_of : List ℕ → Option ℤ
long_of value = signed_of (2 ^ 63) value

-- ---- bytes

abbrev pub read_bytes : Key → Result (List ℕ) FromHexError → Result (List ℕ) WordFault
read_bytes key (Ok bytes) = Ok bytes
read_bytes key (Err fault) = Err (BadValue key)

-- bytes in hexadecimal
abbrev pub bytes_in : Key → List ℕ → Result (List ℕ) WordFault
bytes_in key value = read_bytes key (decode_of value)

-- of at most that many
abbrev pub within : ℕ → Key → List ℕ → Result (List ℕ) WordFault
within most key bytes = if nat_lt most (length bytes) then Err (BadValue key) else Ok bytes

-- bytes that a key may be given; none where it is not
abbrev pub bytes_or_none : ℕ → Key → Option (List ℕ) → Result (List ℕ) WordFault
bytes_or_none most key None = Ok []
bytes_or_none most key (Some value) = bytes_in key value >>= within most key

abbrev pub one_byte : Key → List ℕ → Result Flags WordFault
one_byte key [] = Err (BadValue key)
one_byte key (byte ∷ []) = Ok (record { bits = byte })
one_byte key (byte ∷ other ∷ bytes) = Err (BadValue key)

-- flags: a byte
abbrev pub flags_or : Key → Flags → Option (List ℕ) → Result Flags WordFault
flags_or key default None = Ok default
flags_or key default (Some value) = bytes_in key value >>= one_byte key

-- ---- texts

-- a text is ASCII, and has at most that many bytes
abbrev pub ascii_within : ℕ → Key → List ℕ → Result (List ℕ) WordFault
ascii_within most key text = if list_all is_ascii text then within most key text else Err (BadValue key)

abbrev pub hex_text_in : ℕ → Key → List ℕ → Result (List ℕ) WordFault
hex_text_in most key value = bytes_in key value >>= ascii_within most key

-- a text is given as it is, or in hexadecimal
abbrev pub text_in : ℕ → Key → Key → Option (List ℕ) → Option (List ℕ) → Result (List ℕ) WordFault
text_in most key hex_key None None = Err (Missing key)
text_in most key hex_key (Some text) None = ascii_within most key text
text_in most key hex_key None (Some value) = hex_text_in most hex_key value
text_in most key hex_key (Some text) (Some value) = Err (Twice key)

-- ---- fields among words

abbrev pub number_at : Key → List (List ℕ) → Result ℕ WordFault
number_at key words = given key words >>= needed key number_of

abbrev pub number_or : Key → ℕ → List (List ℕ) → Result ℕ WordFault
number_or key default words = given key words >>= given_or key number_of default

abbrev pub natural_at : Key → List (List ℕ) → Result ℕ WordFault
natural_at key words = given key words >>= needed key natural_of

abbrev pub natural_or : Key → ℕ → List (List ℕ) → Result ℕ WordFault
natural_or key default words = given key words >>= given_or key natural_of default

abbrev pub offset_or : Key → ℕ → List (List ℕ) → Result ℕ WordFault
offset_or key default words = given key words >>= given_or key offset_of default

abbrev pub integer_at : Key → List (List ℕ) → Result ℤ WordFault
integer_at key words = given key words >>= needed key integer_of

abbrev pub integer_or : Key → ℤ → List (List ℕ) → Result ℤ WordFault
integer_or key default words = given key words >>= given_or key integer_of default

abbrev pub long_at : Key → List (List ℕ) → Result ℤ WordFault
long_at key words = given key words >>= needed key long_of

abbrev pub bytes_at : ℕ → Key → List (List ℕ) → Result (List ℕ) WordFault
bytes_at most key words = given key words >>= bytes_or_none most key

abbrev pub flags_at : Key → Flags → List (List ℕ) → Result Flags WordFault
flags_at key default words = given key words >>= flags_or key default

abbrev pub text_at : ℕ → Key → Key → List (List ℕ) → Result (List ℕ) WordFault
text_at most key hex_key words = do
  text ← given key words
  value ← given hex_key words
  text_in most key hex_key text value
