-- The table of acts: whose principal is asked for, by which act, on which channel and stream. It is written apart from the rules
-- that ask a policy, and the laws cite it in place of what those ask. Own rules.
use Rattle.std.specs.Prelude.{◌≡◌, ℕ, ℤ, pos, Bool, false, List, [], if◌then◌else◌, ◌⊎◌}
use Rattle.driver_core.specs.declared.state.peer.Peer.{Peer}
use Rattle.driver_core.specs.PublicationRequests.{principal_at}
use Rattle.driver_core.specs.Requests.{Asks, AsksToDirect, AsksToPublish, AsksToSubscribe, DestinationRequest, PublicationRequest, SubscriptionRequest}
use Rattle.driver_core.specs.State.{State}
use Rattle.channel_uri.specs.declared.address.Address.{Address}
use Rattle.channel_uri.specs.declared.media.Media.TheVariants.{Counter as CounterMedia, Ipc}
use Rattle.channel_uri.specs.Channel.{Shape}
use Rattle.client_registry.specs.declared.client.Client.{Client}
use Rattle.command_codec.specs.declared.add_counter.AddCounter.{AddCounter}
use Rattle.command_codec.specs.declared.command.Body.TheVariants.{AddCounter as AddsCounter, TerminateDriver as Terminates}
use Rattle.command_codec.specs.declared.terminate_driver.TerminateDriver.{TerminateDriver}
use Rattle.counters.specs.declared.counter.Counter.{Counter}
use Rattle.destinations.specs.declared.destination.Destination.{Destination}
use Rattle.policy_core.specs.declared.act.Act.{Act}
use Rattle.policy_core.specs.declared.act.Act.TheVariants.{Counter as MakeCounter, Destination as Direct, Image, Join, List as SeeCounter, Offer, Publish, PublishExclusive, Receive, Retransmit, Send, Spy, Subscribe, Terminate}
use Rattle.policy_core.specs.Question.{Question}
use Rattle.stream_registry.specs.declared.row.Registration.{Registration}
use Rattle.stream_registry.specs.declared.row.LogRow.{LogRow}
use Rattle.stream_registry.specs.declared.row.Subscription.{Subscription}
use Rattle.stream_registry.specs.Places.{is_manual}

-- ---- the table

-- what may be asked for, with what decides it
pub data Asking : Type 0 where
  -- ADD_PUBLICATION, ADD_EXCLUSIVE_PUBLICATION: the client, whether it is exclusive, the command's channel and stream
  publication : Client → Bool → Shape → ℤ → Asking
  -- ADD_SUBSCRIPTION: the client, the command's channel and stream
  subscription : Client → Shape → ℤ → Asking
  -- ADD_DESTINATION: the client, the destination's channel, the publication's stream
  destination : Client → Shape → ℤ → Asking
  -- ADD_COUNTER: the client, the type id
  counter : Client → ℤ → Asking
  -- TERMINATE_DRIVER: the client
  termination : Client → Asking
  -- an offer: the client, its registration, the publication
  offer : Client → Registration → LogRow → Asking
  -- a pair: the subscriber's principal, the subscription
  pair : ℕ → Subscription → Asking
  -- a poll: the client, its subscription
  poll : Client → Subscription → Asking
  -- a datagram: the publication, the destination
  datagram : LogRow → Destination → Asking
  -- a datagram to an address that was learnt: the principals of addresses, the address, the publication
  learnt_datagram : List Peer → Address → LogRow → Asking
  -- a status message, where destinations are learnt: the principals of addresses, the address from which it came, the
  -- publication
  join : List Peer → Address → LogRow → Asking
  -- a NAK: the principals of addresses, the address from which it came, the publication
  resend : List Peer → Address → LogRow → Asking
  -- a look at a counter of a client's, and at one of the driver's own: the principal of who looks, and what is looked at
  look : ℕ → Counter → Asking
  look_at_log : ℕ → LogRow → Asking

abbrev pub asks_for : ℕ → Act → Shape → ℤ → Question
asks_for principal act channel stream = record { principal = principal; act = act; channel = channel; stream = stream }

-- `aeron:counter` and `aeron:ipc`
abbrev pub counters_channel : Shape
counters_channel = record { spy = false; media = CounterMedia; keys = [] }

abbrev pub drivers_channel : Shape
drivers_channel = record { spy = false; media = Ipc; keys = [] }

-- where a publication's destinations are named by hand the channel is the one that named it, and else the log's, with all
-- its keys
abbrev pub channel_sent : LogRow → Destination → Shape
channel_sent log to = if is_manual log.channel then to.channel else log.channel

abbrev pub asked : Asking → Question
asked (publication client exclusive channel stream) =
    asks_for client.principal (if exclusive then PublishExclusive else Publish) channel stream
asked (subscription client channel stream) = asks_for client.principal (if channel.spy then Spy else Subscribe) channel stream
asked (destination client channel stream) = asks_for client.principal Direct channel stream
asked (counter client type_id) = asks_for client.principal MakeCounter counters_channel type_id
asked (termination client) = asks_for client.principal Terminate drivers_channel (pos 0)
asked (offer client registration log) = asks_for client.principal Offer registration.channel log.stream
asked (pair principal reader) = asks_for principal Image reader.channel reader.stream
asked (poll client reader) = asks_for client.principal Receive reader.channel reader.stream
asked (datagram log to) = asks_for to.principal Send (channel_sent log to) log.stream
asked (learnt_datagram peers to log) = asks_for (principal_at peers to) Send log.channel log.stream
asked (join peers from log) = asks_for (principal_at peers from) Join log.channel log.stream
asked (resend peers from log) = asks_for (principal_at peers from) Retransmit log.channel log.stream
asked (look principal row) = asks_for principal SeeCounter counters_channel row.type_id
asked (look_at_log principal log) = asks_for principal SeeCounter log.channel log.stream

-- ---- by the requests of commands

abbrev pub publication_question : PublicationRequest → Question
publication_question request = asked (publication request.client request.exclusive request.channel request.fields.stream)

abbrev pub subscription_question : SubscriptionRequest → Question
subscription_question request = asked (subscription request.client request.channel request.fields.stream)

abbrev pub destination_question : DestinationRequest → Question
destination_question request = asked (destination request.client request.channel request.target.stream)

abbrev pub counter_question : Client → AddCounter → Question
counter_question client fields = asked (counter client fields.type_id)

abbrev pub termination_question : Client → Question
termination_question client = asked (termination client)

abbrev pub image_question : ℕ → Subscription → Question
image_question principal reader = asked (pair principal reader)

-- the bytes that come over a handle are a well-formed request under that correlation id, which asks that of the policy
abbrev pub IsListed : State → ℕ → List ℕ → ℕ → Question → Type 0
IsListed s handle bytes correlation question =
    ((request : SubscriptionRequest)
    × AsksToSubscribe s handle bytes request
    × (correlation ≡ request.correlation)
    × (question ≡ subscription_question request))
    ⊎ (((client : Client)
    × (fields : AddCounter)
    × Asks s handle bytes client correlation (AddsCounter fields)
    × (question ≡ counter_question client fields))
    ⊎ (((client : Client)
    × (fields : TerminateDriver)
    × Asks s handle bytes client correlation (Terminates fields)
    × (question ≡ termination_question client))
    ⊎ (((request : PublicationRequest)
    × AsksToPublish s handle bytes request
    × (correlation ≡ request.correlation)
    × (question ≡ publication_question request))
    ⊎ ((request : DestinationRequest)
    × AsksToDirect s handle bytes request
    × (correlation ≡ request.correlation)
    × (question ≡ destination_question request)))))
