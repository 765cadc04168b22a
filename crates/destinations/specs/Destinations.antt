-- The destinations of publications, in the order in which they were named: a plain list, with the number that was given
-- last. Own rules.
use Rattle.std.specs.Prelude.{ℕ, ◌+◌, ◌==◌, Bool, not, ◌&&◌, nat_lt, length, filter, List, [], ◌∷◌, ◌++◌, Result, Ok, Err, if◌then◌else◌}
use Rattle.std.specs.List.{list_any}
use Rattle.channel_uri.specs.declared.address.Address.{Address}
use Rattle.channel_uri.specs.Address.{is_same}
use Rattle.channel_uri.specs.Channel.{Shape}
use Rattle.destinations.specs.declared.destination.Destination.{Destination}
use Rattle.destinations.specs.declared.fault.DestinationFault.{DestinationFault}
use Rattle.destinations.specs.declared.fault.DestinationFault.TheVariants.{Conflict, Full}

-- the destinations of all logs, and the number given last
pub record DestinationList : Type 0 where
  pub rows : List Destination
  pub last : ℕ

-- no destination was named yet
abbrev pub none : DestinationList
none = record { rows = []; last = 0 }

-- it is that log's
abbrev pub is_of : ℕ → Destination → Bool
is_of source destination = destination.source == source

-- the destinations of a log, in the order in which they were named
abbrev pub of : List Destination → ℕ → List Destination
of rows source = filter (is_of source) rows

-- it is that address of that log
abbrev pub is_at : ℕ → Address → Destination → Bool
is_at source address destination = is_of source destination && is_same destination.address address

-- the log has that address
abbrev pub has : List Destination → ℕ → Address → Bool
has rows source address = list_any (is_at source address) rows

-- a log has at most 32, all have at most 8,192, and no number is used again
abbrev pub has_room : DestinationList → ℕ → Bool
has_room destinations source =
    nat_lt (length (of destinations.rows source)) 32
    && (nat_lt (length destinations.rows) 8192 && nat_lt destinations.last 18446744073709551615)

-- the answer to an address that is named for a log: its number, which is the next one, unless the log has it already
unfoldable pub adding : DestinationList → ℕ → Address → Result ℕ DestinationFault
adding destinations source address =
    if has destinations.rows source address then Err Conflict
    else if has_room destinations source then Ok (destinations.last + 1)
    else Err Full

-- it is there under that number, named for that principal by that channel
unfoldable pub added : DestinationList → ℕ → Address → ℕ → Shape → DestinationList
added destinations source address principal channel = record {
  rows = destinations.rows
      ++ record { number = destinations.last + 1; source = source; address = address; principal = principal; channel = channel } ∷ [];
  last = destinations.last + 1;
}

-- all but that address of that log
abbrev pub is_other : ℕ → Address → Destination → Bool
is_other source address destination = not (is_at source address destination)

unfoldable pub without : DestinationList → ℕ → Address → DestinationList
without destinations source address =
    record destinations { rows = filter (is_other source address) destinations.rows }

-- all but those of these logs
abbrev pub is_of_others : List ℕ → Destination → Bool
is_of_others sources destination = not (list_any (λ source. source == destination.source) sources)

unfoldable pub without_sources : DestinationList → List ℕ → DestinationList
without_sources destinations sources = record destinations { rows = filter (is_of_others sources) destinations.rows }

-- all went; their numbers are not used again
abbrev pub cleared : DestinationList → DestinationList
cleared destinations = record destinations { rows = [] }
