-- Keys with their values in one text, and where each stands in it.
use Rattle.std.specs.Prelude.{◌≡◌, ℕ, suc, ◌≤◌, ◌<◌, true, List, [], ◌∷◌, map, Result, Ok, Err, length, slice_range, slice_set}
use Rattle.std.specs.List.{AllByRecursion, insert}
use Rattle.std.specs.Ordering.{match_ordering}
use Rattle.std.specs.Str.{is_utf8}
use Rattle.channel_uri.specs.declared.table.Span.{Span}
use Rattle.channel_uri.specs.Keys.{Pair, InByteOrder, bytes_cmp}

-- the pairs, and how much of the text is used
pub record Stored : Type 0 where
  pub pairs : List Pair
  pub used : ℕ

-- nothing is stored
abbrev pub nothing_stored : Stored
nothing_stored = record { pairs = []; used = 0 }

-- the pair of a span
abbrev pub pair_in : List ℕ → Span → Pair
pair_in text span = (slice_range text span.key span.value, slice_range text span.value span.end)

-- the span is of two texts, one after another
pub record IsIn (text : List ℕ) (span : Span) : Type 0 where
  pub key_first : span.key ≤ span.value
  pub value_next : span.value ≤ span.end
  pub within : span.end ≤ length text
  pub key_text : is_utf8 (slice_range text span.key span.value) ≡ true
  pub value_text : is_utf8 (slice_range text span.value span.end) ≡ true

-- each span is, and the keys stand in byte order
pub record IsTable (text : List ℕ) (spans : List Span) : Type 0 where
  pub spans_in : AllByRecursion (IsIn text) spans
  pub in_order : InByteOrder (map (pair_in text) spans)

-- one place further on
abbrev pub next_place : Result ℕ ℕ → Result ℕ ℕ
next_place (Ok at) = Ok (suc at)
next_place (Err at) = Err (suc at)

-- where the key is, or where it would be
abbrev pub place_of : List ℕ → List Pair → Result ℕ ℕ
place_of key [] = Err 0
place_of key (pair ∷ pairs) = match_ordering (bytes_cmp key pair.0) (Err 0) (Ok 0) (next_place (place_of key pairs))

-- what is put at a place
abbrev pub placed : {A : Type 0} → Result ℕ ℕ → List A → A → List A
placed (Ok at) xs x = slice_set xs at x
placed (Err at) xs x = insert xs at x

-- the place is among so many, or after them
abbrev pub IsPlace : Result ℕ ℕ → ℕ → Type 0
IsPlace (Ok at) count = at < count
IsPlace (Err at) count = at ≤ count
