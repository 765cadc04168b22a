-- The addresses to which the datagrams of a log go where these are learnt from status messages: a plain list, in the order in
-- which they were learnt. Own rules.
use Rattle.std.specs.Prelude.{ℕ, ◌-◌, Bool, not, nat_lt, nat_le, max, length, filter, map, List, [], ◌∷◌, ◌++◌, if◌then◌else◌}
use Rattle.std.specs.List.{list_any}
use Rattle.channel_uri.specs.declared.address.Address.{Address}
use Rattle.channel_uri.specs.Address.{is_same}
use Rattle.learnt_addresses.specs.declared.learning.Learning.{Learning}
use Rattle.learnt_addresses.specs.declared.learning.Learning.TheVariants.{Learnt, Renewed, Full}
use Rattle.learnt_addresses.specs.declared.learnt_address.LearntAddress.{LearntAddress}

-- none was learnt yet
abbrev pub none : List LearntAddress
none = []

abbrev pub is_at : Address → LearntAddress → Bool
is_at address row = is_same row.address address

-- the address is among them
abbrev pub has : List LearntAddress → Address → Bool
has rows address = list_any (is_at address) rows

-- ---- a status message comes from an address

-- what becomes of it: 32 are there at most
unfoldable pub learning : List LearntAddress → Address → Learning
learning rows address =
    if has rows address then Renewed
    else if nat_lt (length rows) 32 then Learnt
    else Full

-- the greatest moment counts
abbrev pub heard_again : ℕ → Address → LearntAddress → LearntAddress
heard_again now address row = if is_at address row then record row { heard = max row.heard now } else row

abbrev pub learnt_as : Learning → ℕ → Address → List LearntAddress → List LearntAddress
learnt_as Renewed now address rows = map (heard_again now address) rows
learnt_as Learnt now address rows = rows ++ record { address = address; heard = now } ∷ []
learnt_as Full now address rows = rows

-- it keeps its place, or comes after the others, or finds no room
unfoldable pub learnt : ℕ → Address → List LearntAddress → List LearntAddress
learnt now address rows = learnt_as (learning rows address) now address rows

-- ---- an address is forgotten

abbrev pub is_other : Address → LearntAddress → Bool
is_other address row = not (is_at address row)

abbrev pub forgotten : Address → List LearntAddress → List LearntAddress
forgotten address rows = filter (is_other address) rows

-- a status message came from it not longer ago than that: never past it at a moment below, since a difference is at least 0
abbrev pub stands : ℕ → ℕ → LearntAddress → Bool
stands now timeout row = nat_le (now - row.heard) timeout

-- the others are forgotten
abbrev pub standing : ℕ → ℕ → List LearntAddress → List LearntAddress
standing now timeout rows = filter (stands now timeout) rows
