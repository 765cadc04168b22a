-- What the network asks of a publication: which one a receiver's datagram is for, and whether frames of it may be sent
-- again; and who publishes an image. Own rules.
use Rattle.std.specs.Prelude.{ℕ, ℤ, Bool, ◌&&◌, List, [], ◌∷◌, find, Option, Some, None, if◌then◌else◌}
use Rattle.std.specs.Ordering.{int_eq}
use Rattle.channel_uri.specs.declared.address.Address.{Address}
use Rattle.channel_uri.specs.Address.{is_same}
use Rattle.channel_uri.specs.Channel.{Shape}
use Rattle.driver_core.specs.declared.asked.log_request.LogRequest.{LogRequest}
use Rattle.driver_core.specs.declared.asked.publication_request.JoinRequest.{JoinRequest}
use Rattle.driver_core.specs.declared.state.peer.Peer.{Peer}
use Rattle.driver_core.specs.Renewal.{source_at}
use Rattle.driver_core.specs.State.{State}
use Rattle.policy_core.specs.declared.act.Act.{Act}
use Rattle.policy_core.specs.declared.act.Act.TheVariants.{Join, Retransmit}
use Rattle.policy_core.specs.declared.decision.Decision.{Decision}
use Rattle.policy_core.specs.Rules.{verdict_of}
use Rattle.stream_registry.specs.declared.row.LogRow.{LogRow}
use Rattle.stream_registry.specs.Origins.{address_of, is_published}
use Rattle.stream_registry.specs.Places.{is_dynamic, is_udp}

-- ---- which publication

-- it is published over datagrams, under that session and stream
abbrev pub is_sent_as : ℤ → ℤ → LogRow → Bool
is_sent_as session stream log =
    is_published log && is_udp log.channel.media && int_eq log.session session && int_eq log.stream stream

-- the publication over datagrams of that session and stream, whichever address a datagram came to
abbrev pub publication_at : State → ℤ → ℤ → Option LogRow
publication_at s session stream = find (is_sent_as session stream) s.streams.sources

abbrev pub number_of : Option LogRow → Option ℕ
number_of None = None
number_of (Some log) = Some log.number

unfoldable pub publication_for : State → ℤ → ℤ → Option ℕ
publication_for s session stream = number_of (publication_at s session stream)

-- ---- who asks

-- the principal that is bound to an address; nobody's is 0
abbrev pub principal_at : List Peer → Address → ℕ
principal_at [] address = 0
principal_at (peer ∷ peers) address =
    if is_same peer.address address then peer.principal else principal_at peers address

-- what the policy in force decides on an act of a principal on a log
abbrev pub log_decision : State → ℕ → Act → ℕ → Shape → ℤ → Decision
log_decision s principal act number channel stream = record {
  principal = principal;
  act = act;
  subject = number;
  stream = stream;
  verdict = verdict_of s.policy s.epoch (record { principal = principal; act = act; channel = channel; stream = stream });
}

-- ---- frames that are sent again

-- the principal is that of the address that asks, the channel and the stream are the log's
abbrev pub resend_decision : State → Address → LogRow → Decision
resend_decision s from log = log_decision s (principal_at s.peers from) Retransmit log.number log.channel log.stream

abbrev pub resent_by : State → Address → Option LogRow → Option LogRequest
resent_by s from None = None
resent_by s from (Some log) = Some (record { source = log.number; decision = resend_decision s from log })

-- of which publication that address asks for frames, and whether the policy in force lets it have them
unfoldable pub resending_of : State → Address → ℤ → ℤ → Option LogRequest
resending_of s from session stream = resent_by s from (publication_at s session stream)

-- ---- addresses that become destinations

-- the principal is that of the address that joins, the channel and the stream are the log's
abbrev pub join_decision : State → Address → LogRow → Decision
join_decision s from log = log_decision s (principal_at s.peers from) Join log.number log.channel log.stream

-- only of a publication whose destinations are learnt is anything decided
abbrev pub joined_as : State → Address → LogRow → Option Decision
joined_as s from log = if is_dynamic log.channel then Some (join_decision s from log) else None

abbrev pub joined_by : State → Address → Option LogRow → Option JoinRequest
joined_by s from None = None
joined_by s from (Some log) = Some (record { source = log.number; decision = joined_as s from log })

-- for which publication a status message from that address is, and whether the policy in force lets the address join it
unfoldable pub joining_of : State → Address → ℤ → ℤ → Option JoinRequest
joining_of s from session stream = joined_by s from (publication_at s session stream)

-- ---- who publishes an image

abbrev pub publisher_on : Option LogRow → Option Address
publisher_on None = None
publisher_on (Some log) = address_of log

-- from where the image of that number is sent; a publication of this driver has no such address
unfoldable pub publisher_of : State → ℕ → Option Address
publisher_of s source = publisher_on (source_at s.streams.sources source)
