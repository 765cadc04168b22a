-- When one pattern covers all that another one does.
use Rattle.std.specs.Prelude.{◌≡◌, ◌||◌, ℕ, Bool, true, false, List, Option, Some, None, Result, Ok, Err, nat_eq, unwrap_or}
use Rattle.std.specs.List.{list_all, starts_with}
use Rattle.std.specs.Str.{bytes_eq}
use Rattle.channel_uri.specs.declared.error.UriError.{UriError}
use Rattle.channel_uri.specs.declared.pattern.Pattern.{Pattern}
use Rattle.channel_uri.specs.Channel.{Shape}
use Rattle.channel_uri.specs.Pattern.{covers, front_of}
use Rattle.channel_uri.specs.Syntax.{behind_scheme, cut, halves}

-- each channel that the narrow pattern covers is covered by the wide one
pub record IsWider (wide narrow : Pattern) : Type 0 where
  pub covered : (channel : Shape) → covers narrow channel ≡ true → covers wide channel ≡ true

-- ---- the text of a pattern

-- the text of the pairs, where there is a `?`
abbrev pub pairs_from : Result (List ℕ) UriError → Option (List ℕ)
pairs_from (Err error) = None
pairs_from (Ok rest) = (halves rest).1

abbrev pub pairs_in : List ℕ → Option (List ℕ)
pairs_in text = pairs_from (behind_scheme text)

-- the key of a piece
abbrev pub key_from : List ℕ → Option (List ℕ × List ℕ) → List ℕ
key_from piece None = piece
key_from piece (Some pair) = pair.0

abbrev pub key_of : List ℕ → List ℕ
key_of piece = key_from piece (cut 61 piece)

-- the key of each piece passes the test
abbrev pub all_keys : (List ℕ → Bool) → List (List ℕ) → Bool
all_keys test pieces = list_all (λ piece. test (key_of piece)) pieces

-- ---- how it is found

-- the narrow value, without its final `*`, begins with the wide one's front
abbrev pub front_wider : Option (List ℕ) → List ℕ → Bool
front_wider None narrow = false
front_wider (Some front) narrow = starts_with nat_eq (unwrap_or (front_of narrow) narrow) front

-- the values are equal, or the wide one is a prefix of the narrow one
abbrev pub value_wider : List ℕ → List ℕ → Bool
value_wider wide narrow = bytes_eq wide narrow || front_wider (front_of wide) narrow
