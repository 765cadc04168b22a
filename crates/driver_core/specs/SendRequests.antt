-- To whom the datagrams of a publication go, and whether they may. Own rules.
use Rattle.std.specs.Prelude.{ℕ, Bool, ◌&&◌, List, [], ◌∷◌, map, Option, Some, None, if◌then◌else◌}
use Rattle.std.specs.Option.{is_some}
use Rattle.channel_uri.specs.Channel.{Shape}
use Rattle.destinations.specs.declared.destination.Destination.{Destination}
use Rattle.destinations.specs.Destinations.{of}
use Rattle.learnt_addresses.specs.declared.learnt_address.LearntAddress.{LearntAddress}
use Rattle.driver_core.specs.declared.asked.send_request.Outlet.{Outlet}
use Rattle.driver_core.specs.PublicationRequests.{log_decision, principal_at}
use Rattle.driver_core.specs.Renewal.{source_at}
use Rattle.driver_core.specs.State.{State}
use Rattle.policy_core.specs.declared.act.Act.TheVariants.{Send}
use Rattle.stream_registry.specs.declared.row.LogRow.{LogRow}
use Rattle.stream_registry.specs.Origins.{is_published, lingering_since}
use Rattle.stream_registry.specs.Places.{is_dynamic, is_manual, is_udp}

-- ---- which logs are sent

-- it is a publication over datagrams
abbrev pub is_sent : LogRow → Bool
is_sent log = is_published log && is_udp log.channel.media

abbrev pub sent_among : Option LogRow → Option LogRow
sent_among None = None
sent_among (Some log) = if is_sent log then Some log else None

-- the publication over datagrams of that number, where there is one
unfoldable pub sent_at : State → ℕ → Option LogRow
sent_at s source = sent_among (source_at s.streams.sources source)

abbrev pub lingers_by : Option LogRow → Option Bool
lingers_by None = None
lingers_by (Some log) = if is_sent log then Some (is_some (lingering_since log)) else None

-- whether it lingers
unfoldable pub sending_of : State → ℕ → Option Bool
sending_of s source = lingers_by (source_at s.streams.sources source)

-- ---- where its datagrams go

-- what the policy is asked about, with all its keys: the channel by which the destination was named by hand, or else the
-- log's own
abbrev pub outlet_channel : LogRow → Destination → Shape
outlet_channel log destination = if is_manual log.channel then destination.channel else log.channel

-- the principal is the destination's maker, the stream the log's
abbrev pub outlet_of : State → LogRow → Destination → Outlet
outlet_of s log destination = record {
  to = destination.address;
  decision = log_decision s destination.principal Send destination.number (outlet_channel log destination) log.stream;
}

-- the number of the first of these, which a log that learns has alone
abbrev pub first_number : List Destination → ℕ
first_number [] = 0
first_number (destination ∷ later) = destination.number

-- an address that was learnt: the principal is the one that is bound to it, the channel and the stream are the log's, and the
-- number is that of the one destination that stands for all of them
abbrev pub learnt_outlet : State → LogRow → LearntAddress → Outlet
learnt_outlet s log learnt = record {
  to = learnt.address;
  decision =
      log_decision s (principal_at s.peers learnt.address) Send (first_number (of s.destinations.rows log.number)) log.channel
      log.stream;
}

-- to those that were learnt, or else to those that were named
abbrev pub outlets_by : State → List LearntAddress → Option LogRow → List Outlet
outlets_by s learnt None = []
outlets_by s learnt (Some log) =
    if is_dynamic log.channel then map (learnt_outlet s log) learnt
    else map (outlet_of s log) (of s.destinations.rows log.number)

-- each destination of the log of that number, where these were learnt, in the order in which they were named or learnt, with
-- what the policy in force says
unfoldable pub outlets_of : State → List LearntAddress → ℕ → List Outlet
outlets_of s learnt source = outlets_by s learnt (source_at s.streams.sources source)
