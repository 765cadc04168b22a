-- The syntax that channels and patterns share (Aeron wiki, channel configuration): after the scheme `aeron:` a medium,
-- and after a `?` the pairs `key=value`, with `|` between them.
use Rattle.std.specs.Prelude.{ℕ, ◌-◌, Bool, true, false, List, [], ◌∷◌, ◌++◌, Option, Some, None, Result, Ok, Err, ◌==◌, nat_eq, nat_lt, length, take, drop, codes, if◌then◌else◌}
use Rattle.std.specs.List.{starts_with, ends_with, slice_split, position_or_len, before_first, after_first}
use Rattle.std.specs.Str.{bytes_eq}
use Rattle.channel_uri.specs.declared.error.UriError.{UriError}
use Rattle.channel_uri.specs.declared.error.UriError.TheVariants.{NoScheme, EmptyKey, KeyWithoutValue}
use Rattle.channel_uri.specs.Keys.{Pair, kept}

infixl 10 ◌>>=◌
-- goes on with what was read, or stays at the first fault
abbrev pub ◌>>=◌ : {A B : Type 0} → Result A UriError → (A → Result B UriError) → Result B UriError
Ok value >>= next = next value
Err error >>= next = Err error

-- what stands before and after the first byte `mark`
abbrev pub cut : ℕ → List ℕ → Option (List ℕ × List ℕ)
cut mark text =
    if nat_lt (position_or_len (λ b. b == mark) text) (length text)
    then Some (before_first (λ b. b == mark) text, after_first (λ b. b == mark) text)
    else None

-- what stands before this ending
abbrev pub before_end : List ℕ → List ℕ → Option (List ℕ)
before_end end text =
    if ends_with nat_eq text end then Some (take (length text - length end) text) else None

-- whether the text asks for a spy, and what follows that prefix
abbrev pub unspied : List ℕ → Bool × List ℕ
unspied text =
    if starts_with nat_eq text (codes "aeron-spy:") then (true, drop 10 text) else (false, text)

-- what follows the scheme
abbrev pub behind_scheme : List ℕ → Result (List ℕ) UriError
behind_scheme text =
    if starts_with nat_eq text (codes "aeron:") then Ok (drop 6 text) else Err NoScheme

-- the word of the medium, and the text of the pairs where there is a `?`
abbrev pub halves_from : List ℕ → Option (List ℕ × List ℕ) → List ℕ × Option (List ℕ)
halves_from text None = (text, None)
halves_from text (Some sides) = (sides.0, Some sides.1)

abbrev pub halves : List ℕ → List ℕ × Option (List ℕ)
halves text = halves_from text (cut 63 text)

-- a pair: a key that isn't empty, up to the first `=`, and the value after it
abbrev pub pair_from : List ℕ → Option (List ℕ × List ℕ) → Result Pair UriError
pair_from piece None = if length piece == 0 then Err EmptyKey else Err KeyWithoutValue
pair_from piece (Some pair) = if length pair.0 == 0 then Err EmptyKey else Ok pair

abbrev pub pair_of : List ℕ → Result Pair UriError
pair_of piece = pair_from piece (cut 61 piece)

-- `localhost:` at the head of an address is read as `127.0.0.1:`
abbrev pub address_read : List ℕ → List ℕ
address_read value =
    if starts_with nat_eq value (codes "localhost:") then codes "127.0.0.1:" ++ drop 10 value else value

-- the value that is kept for a key
abbrev pub value_read : List ℕ → List ℕ → List ℕ
value_read key value =
    if bytes_eq key (codes "endpoint") then address_read value
    else if bytes_eq key (codes "control") then address_read value
    else value

abbrev pub pair_read : Pair → Pair
pair_read pair = (pair.0, value_read pair.0 pair.1)

-- the pairs that the pieces are, or the fault of the first piece that is none
abbrev pub pairs_of : List (List ℕ) → Result (List Pair) UriError
pairs_of [] = Ok []
pairs_of (piece ∷ pieces) = pair_of piece >>= λ pair. pairs_of pieces >>= λ pairs. Ok (pair_read pair ∷ pairs)

-- the keys after these pieces
abbrev pub kept_of : List Pair → List (List ℕ) → Result (List Pair) UriError
kept_of keys pieces = pairs_of pieces >>= λ pairs. Ok (kept keys pairs)

-- the keys of the text after the `?`; none where there is no `?`
unfoldable pub keys_of : Option (List ℕ) → Result (List Pair) UriError
keys_of None = Ok []
keys_of (Some text) = kept_of [] (slice_split (λ b. b == 124) text)
