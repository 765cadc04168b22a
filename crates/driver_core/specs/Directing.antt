-- ADD_DESTINATION and REMOVE_DESTINATION, and the one destination of a publication with an endpoint.
use Rattle.std.specs.Prelude.{ℕ, ◌+◌, Bool, true, not, ◌&&◌, false, [], ◌∷◌, Option, Some, None, Result, Ok, Err, if◌then◌else◌}
use Rattle.driver_core.specs.Draft.{Draft}
use Rattle.driver_core.specs.declared.rules.directing.Directed.{Directed}
use Rattle.driver_core.specs.declared.rules.directing.Target.{Target}
use Rattle.driver_core.specs.declared.state.refusal.Refusal.{Refusal}
use Rattle.driver_core.specs.declared.state.refusal.Refusal.TheVariants.{InvalidChannel, UnknownPublication, Conflict, Full}
use Rattle.driver_core.specs.declared.state.refused.Refused.{Refused}
use Rattle.driver_core.specs.declared.state.replies.Reply.TheVariants.{OperationSuccess}
use Rattle.driver_core.specs.Deciding.{decision_by}
use Rattle.driver_core.specs.Draft.{replied}
use Rattle.driver_core.specs.LogRequests.{registration_at}
use Rattle.driver_core.specs.Refusing.{plainly, on, denied, refused_by}
use Rattle.driver_core.specs.Renewal.{source_at}
use Rattle.driver_core.specs.State.{State}
use Rattle.channel_uri.specs.declared.address.Address.{Address}
use Rattle.channel_uri.specs.declared.error.UriError.{UriError}
use Rattle.channel_uri.specs.Address.{address_of}
use Rattle.channel_uri.specs.Channel.{Shape, denotes}
use Rattle.channel_uri.specs.Parameters.{endpoint_of}
use Rattle.channel_uri.specs.Place.{Spot, AtControl, AtEndpoint, spot_of}
use Rattle.client_registry.specs.declared.client.Client.{Client}
use Rattle.command_codec.specs.declared.destination.Destination.{Destination}
use Rattle.destinations.specs.declared.fault.DestinationFault.{DestinationFault}
use Rattle.destinations.specs.declared.fault.DestinationFault.TheVariants as fault
use Rattle.destinations.specs.Destinations.{DestinationList, adding, added, has, without}
use Rattle.policy_core.specs.declared.act.Act.TheVariants.{Destination as Direct}
use Rattle.policy_core.specs.declared.decision.Decision.{Decision}
use Rattle.stream_registry.specs.declared.row.Registration.{Registration}
use Rattle.stream_registry.specs.declared.row.LogRow.{LogRow}
use Rattle.stream_registry.specs.declared.wanted.Adding.{Adding}
use Rattle.stream_registry.specs.declared.wanted.Adding.TheVariants.{Join, Make}
use Rattle.stream_registry.specs.declared.wanted.Wanted.{Wanted}
use Rattle.stream_registry.specs.Places.{is_manual, is_udp}

-- ---- the one destination of a publication with an endpoint, and the one that stands for all that a publication learns

abbrev pub address_at : Option Spot → Option Address
address_at (Some (AtEndpoint text)) = address_of text
address_at (Some (AtControl text)) = address_of text
address_at spot = None

-- where the datagrams of such a publication go, or where it learns where they go; over shared memory none go, and those named
-- by hand are none of its channel
unfoldable pub sole_address : Shape → Option Address
sole_address channel = address_at (spot_of channel)

-- the address is named for that principal by that channel, where that can be
abbrev pub directed_by : DestinationList → ℕ → Address → ℕ → Shape → Result ℕ DestinationFault → DestinationList
directed_by destinations source address principal channel (Ok number) = added destinations source address principal channel
directed_by destinations source address principal channel (Err why) = destinations

abbrev pub directed_to : DestinationList → ℕ → ℕ → Shape → Option Address → DestinationList
directed_to destinations source principal channel None = destinations
directed_to destinations source principal channel (Some address) =
    directed_by destinations source address principal channel (adding destinations source address)

-- after a publication, by its own channel; one that joins a log names nothing
unfoldable pub with_sole : State → ℕ → Wanted → Adding → DestinationList
with_sole s principal wanted (Join source session) = s.destinations
with_sole s principal wanted (Make session) =
    directed_to s.destinations (s.last_number + 1) principal wanted.channel (sole_address wanted.channel)

abbrev pub is_taken : Result ℕ DestinationFault → Bool
is_taken (Ok number) = true
is_taken (Err why) = false

abbrev pub can_direct : DestinationList → ℕ → Option Address → Bool
can_direct destinations source None = true
can_direct destinations source (Some address) = is_taken (adding destinations source address)

-- a destination's number is left for it, where it wants one
unfoldable pub has_room_for_sole : State → Wanted → Adding → Bool
has_room_for_sole s wanted (Join source session) = true
has_room_for_sole s wanted (Make session) =
    can_direct s.destinations (s.last_number + 1) (sole_address wanted.channel)

-- ---- what both commands name

-- the address of a destination's channel: `udp` with an endpoint, no spy
unfoldable pub target_address : Shape → Option Address
target_address channel =
    if not channel.spy && is_udp channel.media then endpoint_of channel else None

abbrev pub log_with : State → Option Registration → Option LogRow
log_with s None = None
log_with s (Some registration) = source_at s.streams.sources registration.source

-- the log that the client's own registration of this number is with
unfoldable pub own_log : State → ℕ → ℕ → Option LogRow
own_log s client number = log_with s (registration_at s.streams.registrations client number)

-- what another client registered is as unknown as what nobody did
abbrev pub target_on : Address → Option LogRow → Result Target Refused
target_on address None = Err (plainly UnknownPublication)
target_on address (Some log) = Ok (record {
  source = log.number;
  stream = log.stream;
  manual = is_manual log.channel;
  address = address;
})

abbrev pub target_at : State → ℕ → ℕ → Option Address → Result Target Refused
target_at s client number None = Err (plainly InvalidChannel)
target_at s client number (Some address) = target_on address (own_log s client number)

-- the channel first, and then the publication
unfoldable pub target_of : State → ℕ → ℕ → Shape → Result Target Refused
target_of s client number channel = target_at s client number (target_address channel)

-- ---- a destination that comes

-- what the policy in force decides: the channel is the destination's, the stream the publication's
abbrev pub destination_decision : State → Client → Shape → Target → Decision
destination_decision s client channel target = decision_by s client Direct channel target.stream

abbrev pub refused_by_destinations : DestinationFault → Refusal
refused_by_destinations fault.Conflict = Conflict
refused_by_destinations fault.Full = Full

abbrev pub added_on : Decision → Target → Shape → Result ℕ DestinationFault → Result Directed Refused
added_on decision target channel (Ok number) = Ok (record { decision = decision; target = target; channel = channel })
added_on decision target channel (Err why) = Err (on decision (refused_by_destinations why))

-- denied, or in conflict, or full: destinations of other publications are not named by hand
abbrev pub directing_by : State → Client → Shape → Result Target Refused → Result Directed Refused
directing_by s client channel (Err why) = Err why
directing_by s client channel (Ok target) =
    if not (destination_decision s client channel target).verdict.allow
    then Err (denied (destination_decision s client channel target))
    else if target.manual
    then added_on (destination_decision s client channel target) target channel
    (adding s.destinations target.source target.address)
    else Err (on (destination_decision s client channel target) Conflict)

abbrev pub directing_on : State → Client → ℕ → Result Shape UriError → Result Directed Refused
directing_on s client number (Err why) = Err (plainly InvalidChannel)
directing_on s client number (Ok channel) = directing_by s client channel (target_of s client.number number channel)

-- what is decided on it: why it is refused, or on which decision which address comes to which log, by which channel
unfoldable pub directing_of : State → Client → Destination → Result Directed Refused
directing_of s client fields = directing_on s client fields.registration (denotes fields.channel)

-- the address is there, named by that channel for the principal for whom the client acts
unfoldable pub with_destination : State → Client → Target → Shape → State
with_destination s client target channel =
    record s { destinations = added s.destinations target.source target.address client.principal channel }

unfoldable pub directed : State → Client → ℕ → Directed → Draft
directed s client correlation granted =
    replied (with_destination s client granted.target granted.channel) (granted.decision ∷ []) client.number (OperationSuccess correlation)

abbrev pub directed_as : State → Client → ℕ → Result Directed Refused → Draft
directed_as s client correlation (Ok granted) = directed s client correlation granted
directed_as s client correlation (Err why) = refused_by s client.number correlation why

unfoldable pub add_destination : State → Client → ℕ → Destination → Draft
add_destination s client correlation fields = directed_as s client correlation (directing_of s client fields)

-- ---- a destination that goes

-- no policy is asked: who may name an address may take it back
abbrev pub recalling_by : State → Result Target Refused → Result Target Refused
recalling_by s (Err why) = Err why
recalling_by s (Ok target) =
    if target.manual && has s.destinations.rows target.source target.address
    then Ok target
    else Err (plainly Conflict)

abbrev pub recalling_on : State → ℕ → ℕ → Result Shape UriError → Result Target Refused
recalling_on s client number (Err why) = Err (plainly InvalidChannel)
recalling_on s client number (Ok channel) = recalling_by s (target_of s client number channel)

-- what is decided on it: why it is refused, or which address goes from which log
unfoldable pub recalling_of : State → ℕ → Destination → Result Target Refused
recalling_of s client fields = recalling_on s client fields.registration (denotes fields.channel)

-- the address is gone; its number is not used again
unfoldable pub without_destination : State → Target → State
without_destination s target =
    record s { destinations = without s.destinations target.source target.address }

unfoldable pub recalled : State → Client → ℕ → Target → Draft
recalled s client correlation target =
    replied (without_destination s target) [] client.number (OperationSuccess correlation)

abbrev pub recalled_as : State → Client → ℕ → Result Target Refused → Draft
recalled_as s client correlation (Ok target) = recalled s client correlation target
recalled_as s client correlation (Err why) = refused_by s client.number correlation why

unfoldable pub remove_destination : State → Client → ℕ → Destination → Draft
remove_destination s client correlation fields =
    recalled_as s client correlation (recalling_of s client.number fields)
