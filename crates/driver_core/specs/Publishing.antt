-- ADD_PUBLICATION and ADD_EXCLUSIVE_PUBLICATION.
use Rattle.std.specs.Prelude.{ℕ, ◌+◌, ℤ, Bool, true, false, not, ◌&&◌, [], ◌∷◌, Option, Some, None, Result, Ok, Err, is_some, unwrap_or, if◌then◌else◌}
use Rattle.driver_core.specs.Draft.{Draft}
use Rattle.driver_core.specs.declared.state.refusal.Refusal.{Refusal}
use Rattle.driver_core.specs.declared.state.refusal.Refusal.TheVariants.{InvalidChannel, Denied, Conflict, Full, NoRoom}
use Rattle.driver_core.specs.declared.state.replies.Reply.{Reply}
use Rattle.driver_core.specs.declared.state.replies.Reply.TheVariants.{PublicationReady, ExclusivePublicationReady}
use Rattle.driver_core.specs.Deciding.{decision_by}
use Rattle.driver_core.specs.Directing.{has_room_for_sole, with_sole}
use Rattle.driver_core.specs.Draft.{replied_opening, refused}
use Rattle.driver_core.specs.Pairs.{is_within_pairs}
use Rattle.driver_core.specs.declared.rules.publishing.Granted.{Granted}
use Rattle.driver_core.specs.declared.state.refused.Refused.{Refused}
use Rattle.driver_core.specs.Refusing.{on, denied}
use Rattle.driver_core.specs.State.{State, has_number}
use Rattle.channel_uri.specs.declared.error.UriError.{UriError}
use Rattle.channel_uri.specs.Channel.{Shape, denotes}
use Rattle.channel_uri.specs.Place.{spot_of}
use Rattle.client_registry.specs.declared.client.Client.{Client}
use Rattle.command_codec.specs.declared.add_publication.AddPublication.{AddPublication}
use Rattle.policy_core.specs.declared.act.Act.{Act}
use Rattle.policy_core.specs.declared.act.Act.TheVariants.{Publish, PublishExclusive}
use Rattle.policy_core.specs.declared.decision.Decision.{Decision}
use Rattle.stream_registry.specs.declared.fault.StreamFault.{StreamFault}
use Rattle.stream_registry.specs.declared.fault.StreamFault.TheVariants as fault
use Rattle.stream_registry.specs.declared.lingering.LogPlace.{LogPlace}
use Rattle.stream_registry.specs.declared.row.LogRow.{LogRow}
use Rattle.stream_registry.specs.declared.wanted.Adding.{Adding}
use Rattle.stream_registry.specs.declared.wanted.Adding.TheVariants.{Join, Make}
use Rattle.stream_registry.specs.declared.wanted.Wanted.{Wanted}
use Rattle.stream_registry.specs.Adding.{adding_of, added, log_of}
use Rattle.stream_registry.specs.LogPages.{place_for}

-- the channels that the commands take: no spy, `ipc`, and `udp` with an endpoint or with destinations named by hand
unfoldable pub is_publishable : Shape → Bool
is_publishable channel = not channel.spy && is_some (spot_of channel)

abbrev pub publishing_act : Bool → Act
publishing_act exclusive = if exclusive then PublishExclusive else Publish

-- what the policy in force decides
abbrev pub publication_decision : State → Client → Wanted → Decision
publication_decision s client wanted =
    decision_by s client (publishing_act wanted.exclusive) wanted.channel wanted.stream

-- ---- what is made

-- the least place where the log has room among the live ones
abbrev pub place_of_new : State → Wanted → Option ℕ
place_of_new s wanted = place_for s.streams s.settings.arena_pages wanted

-- the row of the new log, under the next number
abbrev pub new_log : State → Wanted → ℤ → LogRow
new_log s wanted session = log_of s.streams (s.last_number + 1) wanted (unwrap_or (place_of_new s wanted) 0) session

-- a log that is joined needs none
unfoldable pub has_place : State → Wanted → Adding → Bool
has_place s wanted (Join source session) = true
has_place s wanted (Make session) = is_some (place_of_new s wanted)

-- the client is registered under the next number, with a log that is there or with a new one
unfoldable pub with_publication : State → ℕ → Wanted → Adding → State
with_publication s client wanted adding = record s {
  streams = added s.streams (s.last_number + 1) client wanted (unwrap_or (place_of_new s wanted) 0) adding;
  last_number = s.last_number + 1;
}

-- and its one destination, where it makes a log that has one, named for the client's principal
unfoldable pub with_directed_publication : State → Client → Wanted → Adding → State
with_directed_publication s client wanted adding = record (with_publication s client.number wanted adding) {
  destinations = with_sole s client.principal wanted adding;
}

-- the log that opens
unfoldable pub opening_of : State → Wanted → Adding → Option LogPlace
opening_of s wanted (Join source session) = None
opening_of s wanted (Make session) =
    Some (record { source = s.last_number + 1; place = unwrap_or (place_of_new s wanted) 0 })

abbrev pub session_of : Adding → ℤ
session_of (Join source session) = session
session_of (Make session) = session

abbrev pub ready_for : Wanted → ℕ → ℕ → ℤ → Reply
ready_for wanted correlation number session =
    if wanted.exclusive
    then ExclusivePublicationReady correlation number session wanted.stream
    else PublicationReady correlation number session wanted.stream

unfoldable pub published : State → Client → ℕ → Wanted → Adding → Draft
published s client correlation wanted adding =
    replied_opening (with_directed_publication s client wanted adding) (publication_decision s client wanted ∷ [])
    client.number
    (ready_for wanted correlation (s.last_number + 1) (session_of adding))
    (opening_of s wanted adding)

-- ---- in which order it is refused

-- no number is used again, neither of a log nor of its destination, and there are at most 4,096 pairs
abbrev pub has_room_for_publication : State → ℕ → Wanted → Adding → Bool
has_room_for_publication s client wanted adding =
    (has_number s && has_room_for_sole s wanted adding) && is_within_pairs (with_publication s client wanted adding)

abbrev pub refused_by_streams : StreamFault → Refusal
refused_by_streams fault.Conflict = Conflict
refused_by_streams other = Full

-- full, without room for the log, or done
unfoldable pub publish_under : State → Client → ℕ → Wanted → Adding → Draft
publish_under s client correlation wanted adding =
    if not (has_room_for_publication s client.number wanted adding)
    then refused s (publication_decision s client wanted ∷ []) client.number correlation Full
    else if has_place s wanted adding
    then published s client correlation wanted adding
    else refused s (publication_decision s client wanted ∷ []) client.number correlation NoRoom

-- in conflict with the lists, or past their limits
abbrev pub publish_by : State → Client → ℕ → Wanted → Result Adding StreamFault → Draft
publish_by s client correlation wanted (Err why) =
    refused s (publication_decision s client wanted ∷ []) client.number correlation (refused_by_streams why)
publish_by s client correlation wanted (Ok adding) = publish_under s client correlation wanted adding

-- denied, or as the lists say
unfoldable pub publish : State → Client → ℕ → Wanted → Draft
publish s client correlation wanted =
    if not (publication_decision s client wanted).verdict.allow
    then refused s (publication_decision s client wanted ∷ []) client.number correlation
    (Denied (publication_decision s client wanted).verdict)
    else publish_by s client correlation wanted (adding_of s.streams wanted)

-- ---- what is decided on it

-- on which decision it is granted, and what the lists make of it
-- (a publication that is denied, or that the lists do not take, or for which there is no room, is refused)
abbrev pub granting_of : State → Client → Wanted → Adding → Result Granted Refused
granting_of s client wanted adding =
    if not (has_room_for_publication s client.number wanted adding)
    then Err (on (publication_decision s client wanted) Full)
    else if has_place s wanted adding
    then Ok (record { decision = publication_decision s client wanted; adding = adding })
    else Err (on (publication_decision s client wanted) NoRoom)

abbrev pub publishing_by : State → Client → Wanted → Result Adding StreamFault → Result Granted Refused
publishing_by s client wanted (Err why) = Err (on (publication_decision s client wanted) (refused_by_streams why))
publishing_by s client wanted (Ok adding) = granting_of s client wanted adding

unfoldable pub publishing_of : State → Client → Wanted → Result Granted Refused
publishing_of s client wanted =
    if not (publication_decision s client wanted).verdict.allow
    then Err (denied (publication_decision s client wanted))
    else publishing_by s client wanted (adding_of s.streams wanted)

-- ---- the command

abbrev pub wanted_of : Shape → ℤ → Bool → Wanted
wanted_of channel stream exclusive = record { channel = channel; stream = stream; exclusive = exclusive }

-- the text has to be a channel that the commands take
abbrev pub publish_on : State → Client → ℕ → Result Shape UriError → ℤ → Bool → Draft
publish_on s client correlation (Err why) stream exclusive = refused s [] client.number correlation InvalidChannel
publish_on s client correlation (Ok channel) stream exclusive =
    if is_publishable channel
    then publish s client correlation (wanted_of channel stream exclusive)
    else refused s [] client.number correlation InvalidChannel

unfoldable pub add_publication : State → Client → ℕ → AddPublication → Bool → Draft
add_publication s client correlation fields exclusive =
    publish_on s client correlation (denotes fields.channel) fields.stream exclusive

-- a log that is there is joined
abbrev pub is_joined : Adding → Bool
is_joined (Join source session) = true
is_joined (Make session) = false
