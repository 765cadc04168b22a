-- A publication with which nobody is registered lingers, and goes once that lasted too long. An image goes of which nothing
-- was heard for too long.
use Rattle.std.specs.Prelude.{ℕ, ◌-◌, Bool, false, not, ◌==◌, ◌&&◌, ◌||◌, List, map, filter, length, Option, Some, None, nat_lt, if◌then◌else◌}
use Rattle.std.specs.List.{list_any}
use Rattle.stream_registry.specs.declared.lingering.LogPlace.{LogPlace}
use Rattle.stream_registry.specs.declared.row.LogRow.{LogRow}
use Rattle.stream_registry.specs.declared.row.Registration.{Registration}
use Rattle.stream_registry.specs.Origins.{is_remote, left_by, lingering_since}
use Rattle.stream_registry.specs.Streams.{Streams}

-- it is registered with the publication of this source number
abbrev pub is_with : ℕ → Registration → Bool
is_with source registration = registration.source == source

abbrev pub is_used : List Registration → ℕ → Bool
is_used registrations source = list_any (is_with source) registrations

-- how many are registered with it
abbrev pub registrations_of : Streams → ℕ → ℕ
registrations_of s source = length (filter (is_with source) s.registrations)

-- from now on nobody is registered with it, unless that was so before; an image stays as it is
abbrev pub left_alone : ℕ → LogRow → LogRow
left_alone now log =
    record log { origin = left_by now log.origin }

abbrev pub settled_one : List Registration → ℕ → LogRow → LogRow
settled_one registrations now log =
    if is_used registrations log.number then log else left_alone now log

-- each publication with which nobody is registered lingers, since now where it did not linger before
unfoldable pub settled : Streams → ℕ → Streams
settled s now = record s { sources = map (settled_one s.registrations now) s.sources }

-- it lingers for longer than it may; a moment before the one since when it does is past no limit
abbrev pub is_past_since : ℕ → ℕ → Option ℕ → Bool
is_past_since linger now None = false
is_past_since linger now (Some since) = nat_lt linger (now - since)

abbrev pub is_past : ℕ → LogRow → Bool
is_past now log = is_past_since log.measures.linger now (lingering_since log)

abbrev pub is_number : ℕ → ℕ → Bool
is_number number other = other == number

-- it is one of these images
abbrev pub is_image_of : List ℕ → LogRow → Bool
is_image_of numbers log = is_remote log && list_any (is_number log.number) numbers

-- it closes at this moment, where these images are silent
abbrev pub is_closing : ℕ → List ℕ → LogRow → Bool
is_closing now silent log = is_past now log || is_image_of silent log

abbrev pub stays_live : ℕ → List ℕ → LogRow → Bool
stays_live now silent log = not (is_closing now silent log)

abbrev pub place_of : LogRow → LogPlace
place_of log = record { source = log.number; place = log.place }

-- the logs that close at this moment
unfoldable pub closing_of : Streams → ℕ → List ℕ → List LogPlace
closing_of s now silent = map place_of (filter (is_closing now silent) s.sources)

-- they are gone
unfoldable pub closed : Streams → ℕ → List ℕ → Streams
closed s now silent = record s { sources = filter (stays_live now silent) s.sources }
