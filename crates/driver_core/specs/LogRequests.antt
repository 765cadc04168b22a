-- What a client asks of a log: to put a message into it, or to read it. Own rules.
use Rattle.std.specs.Prelude.{ℕ, ℤ, Bool, ◌==◌, ◌&&◌, List, find, Option, Some, None, if◌then◌else◌}
use Rattle.std.specs.List.{list_any}
use Rattle.driver_core.specs.declared.asked.log_request.LogRequest.{LogRequest}
use Rattle.driver_core.specs.Pairs.{pairs_of}
use Rattle.driver_core.specs.Renewal.{source_at, subscription_at}
use Rattle.driver_core.specs.State.{State}
use Rattle.client_registry.specs.declared.client.Client.{Client}
use Rattle.client_registry.specs.Clients.{client_at}
use Rattle.channel_uri.specs.Channel.{Shape}
use Rattle.policy_core.specs.declared.act.Act.{Act}
use Rattle.policy_core.specs.declared.act.Act.TheVariants.{Offer, Receive}
use Rattle.policy_core.specs.declared.decision.Decision.{Decision}
use Rattle.policy_core.specs.Rules.{verdict_of}
use Rattle.stream_registry.specs.declared.row.LogRow.{LogRow}
use Rattle.stream_registry.specs.declared.row.Registration.{Registration}
use Rattle.stream_registry.specs.declared.row.Subscription.{Subscription}
use Rattle.stream_registry.specs.Pairs.{is_of}

-- what the policy in force decides on the act of a client, where the decision is on the row of this number
abbrev pub row_decision : State → Client → Act → ℕ → Shape → ℤ → Decision
row_decision s client act number channel stream = record {
  principal = client.principal;
  act = act;
  subject = number;
  stream = stream;
  verdict = verdict_of s.policy s.epoch (record { principal = client.principal; act = act; channel = channel; stream = stream });
}

-- ---- an offer

-- the registration of this number that is the client's own
abbrev pub registration_at : List Registration → ℕ → ℕ → Option Registration
registration_at registrations client number =
    find (λ registration. registration.number == number && registration.client == client) registrations

abbrev pub offered_on : State → Client → Registration → Option LogRow → Option LogRequest
offered_on s client registration None = None
offered_on s client registration (Some publication) = Some (record {
  source = publication.number;
  decision = row_decision s client Offer registration.number registration.channel publication.stream;
})

abbrev pub offered_by : State → Option Client → Option Registration → Option LogRequest
offered_by s None registration = None
offered_by s (Some client) None = None
offered_by s (Some client) (Some registration) =
    offered_on s client registration (source_at s.streams.sources registration.source)

-- which log the client's registration is with, and whether the policy in force lets the client put messages into it, on the
-- registration's own channel and the log's stream
unfoldable pub offering_of : State → ℕ → ℕ → Option LogRequest
offering_of s client number =
    offered_by s (client_at s.clients.rows client) (registration_at s.streams.registrations client number)

-- ---- a poll

-- the subscription of that number reads the log of that source
unfoldable pub has_pair : State → ℕ → ℕ → Bool
has_pair s source subscription = list_any (is_of source subscription) (pairs_of s)

abbrev pub received_on : State → ℕ → ℕ → Option Client → Option Subscription → Option LogRequest
received_on s number source None subscription = None
received_on s number source (Some client) None = None
received_on s number source (Some client) (Some subscription) =
    if subscription.client == number then Some (record {
      source = source;
      decision = row_decision s client Receive subscription.number subscription.channel subscription.stream;
    }) else None

-- where the client's own subscription reads the log, whether the policy in force lets the client have messages from it, on
-- the subscription's channel and stream
unfoldable pub receiving_of : State → ℕ → ℕ → ℕ → Option LogRequest
receiving_of s client subscription source =
    if has_pair s source subscription
    then received_on s client source (client_at s.clients.rows client) (subscription_at s.streams.subscriptions subscription)
    else None
