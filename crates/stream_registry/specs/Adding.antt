-- What becomes of an ADD.
use Rattle.std.specs.Prelude.{ℕ, ℤ, Bool, true, ◌&&◌, nat_lt, [], ◌∷◌, ◌++◌, length, filter, Option, Some, None, Result, Ok, Err, is_some, unwrap_or, if◌then◌else◌}
use Rattle.stream_registry.specs.declared.fault.StreamFault.{StreamFault}
use Rattle.stream_registry.specs.declared.fault.StreamFault.TheVariants.{Conflict, Full}
use Rattle.stream_registry.specs.declared.row.LogRow.{LogRow}
use Rattle.stream_registry.specs.declared.row.Origin.TheVariants.{Published}
use Rattle.stream_registry.specs.declared.row.Registration.{Registration}
use Rattle.stream_registry.specs.declared.wanted.Adding.{Adding}
use Rattle.stream_registry.specs.declared.wanted.Adding.TheVariants.{Join, Make}
use Rattle.stream_registry.specs.declared.wanted.Wanted.{Wanted}
use Rattle.stream_registry.specs.Joining.{joined_at, contradicts}
use Rattle.stream_registry.specs.Measures.{measures_of}
use Rattle.stream_registry.specs.Origins.{is_published}
use Rattle.stream_registry.specs.Sessions.{after, free_session, is_stated_again}
use Rattle.stream_registry.specs.Slots.{free_slot}
use Rattle.stream_registry.specs.Streams.{Streams}
use Rattle.channel_uri.specs.Channel.{Shape}
use Rattle.channel_uri.specs.Parameters.{stated_session_of}

-- there are at most 256 logs of publications, 1,024 registrations with them, and 512 subscriptions
abbrev pub has_room_for_log : Streams → Bool
has_room_for_log s = nat_lt (length (filter is_published s.sources)) 256

abbrev pub has_room_for_registration : Streams → Bool
has_room_for_registration s = nat_lt (length s.registrations) 1024

abbrev pub has_room_for_subscription : Streams → Bool
has_room_for_subscription s = nat_lt (length s.subscriptions) 512

-- it joins this one, unless it says something else
unfoldable pub joining_of : Streams → Shape → LogRow → Result Adding StreamFault
joining_of s channel log =
    if contradicts s.defaults channel log then Err Conflict
    else if has_room_for_registration s then Ok (Join log.number log.session)
    else Err Full

-- the session of a new log: what its channel states, or a free one
abbrev pub session_of : Streams → Shape → ℤ
session_of s channel = unwrap_or (stated_session_of channel) (free_session s.sources s.next_session)

-- it makes a log, unless another of its medium and stream has the session that it states
unfoldable pub making_of : Streams → Wanted → Result Adding StreamFault
making_of s wanted =
    if is_stated_again s.sources wanted.channel.media wanted.stream (stated_session_of wanted.channel) then Err Conflict
    else if has_room_for_registration s && has_room_for_log s then Ok (Make (session_of s wanted.channel))
    else Err Full

abbrev pub adding_by : Streams → Wanted → Option LogRow → Result Adding StreamFault
adding_by s wanted None = making_of s wanted
adding_by s wanted (Some log) = joining_of s wanted.channel log

-- it joins the publication of its place and stream, if there is one to join; an exclusive one joins none
unfoldable pub adding_of : Streams → Wanted → Result Adding StreamFault
adding_of s wanted =
    if wanted.exclusive then making_of s wanted
    else adding_by s wanted (joined_at s.sources wanted.channel wanted.stream)

abbrev pub registration_of : ℕ → ℕ → Wanted → ℕ → Registration
registration_of number client wanted source =
    record { number = number; client = client; channel = wanted.channel; source = source }

-- the client is registered with that publication, on the channel that it named
abbrev pub registered : Streams → ℕ → ℕ → Wanted → ℕ → Streams
registered s number client wanted source =
    record s { registrations = s.registrations ++ registration_of number client wanted source ∷ [] }

-- a log by this number, at this place
abbrev pub log_of : Streams → ℕ → Wanted → ℕ → ℤ → LogRow
log_of s number wanted place session = record {
  number = number;
  channel = wanted.channel;
  stream = wanted.stream;
  session = session;
  place = place;
  slot = free_slot true s.sources;
  measures = measures_of s.defaults wanted.channel;
  origin = Published wanted.exclusive None;
}

-- the next session is looked for after one that was found; one that is stated moves nothing
abbrev pub next_after : Streams → Wanted → ℤ → ℤ
next_after s wanted session =
    if is_some (stated_session_of wanted.channel) then s.next_session else after session

abbrev pub made : Streams → ℕ → Wanted → ℕ → ℤ → Streams
made s number wanted place session = record s {
  next_session = next_after s wanted session;
  sources = s.sources ++ log_of s number wanted place session ∷ [];
}

-- after an ADD under this number
abbrev pub added : Streams → ℕ → ℕ → Wanted → ℕ → Adding → Streams
added s number client wanted place (Join source session) = registered s number client wanted source
added s number client wanted place (Make session) =
    registered (made s number wanted place session) number client wanted number

-- after an ADD of a subscription under this number
unfoldable pub subscribed : Streams → ℕ → ℕ → Shape → ℤ → Streams
subscribed s number client channel stream = record s {
  subscriptions = s.subscriptions
      ++ record { number = number; client = client; channel = channel; stream = stream } ∷ [];
}
