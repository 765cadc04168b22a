-- What the rules ask of a policy is what the table of acts says.
use Rattle.std.specs.Prelude.{◌≡◌, ℕ}
use Rattle.channel_uri.specs.declared.address.Address.{Address}
use Rattle.client_registry.specs.declared.client.Client.{Client}
use Rattle.command_codec.specs.declared.add_counter.AddCounter.{AddCounter}
use Rattle.counters.specs.declared.counter.Counter.{Counter}
use Rattle.counters.specs.Counters as counter_rows
use Rattle.destinations.specs.declared.destination.Destination.{Destination}
use Rattle.driver_core.specs.Listing as listing
use Rattle.driver_core.specs.Requests as requests
use Rattle.driver_core.specs.Requests.{DestinationRequest, PublicationRequest, SubscriptionRequest}
use Rattle.driver_core.specs.State.{State}
use Rattle.driver_laws.specs.Acts.{asked, counter, datagram, destination, join, learnt_datagram, look, look_at_log, offer, pair, poll, publication, resend, subscription, termination}
use Rattle.driver_steps.specs.JoinLaws as joins_of
use Rattle.driver_steps.specs.Laws as steps
use Rattle.driver_steps.specs.Laws.{OfferRequest, PollRequest}
use Rattle.driver_steps.specs.ResendLaws as naks
use Rattle.driver_steps.specs.SendLaws as sends
use Rattle.learnt_addresses.specs.declared.learnt_address.LearntAddress.{LearntAddress}
use Rattle.stream_registry.specs.declared.row.LogRow.{LogRow}
use Rattle.stream_registry.specs.declared.row.Subscription.{Subscription}
use Rattle.stream_registry.specs.Pairs as fitting

-- each rule's own question is the row of the table
pub record RulesAskAsListed : Type 0 where
  pub publications :
      (request : PublicationRequest) →
      requests.publication_question request
      ≡ asked (publication request.client request.exclusive request.channel request.fields.stream)
  pub subscriptions :
      (request : SubscriptionRequest) →
      requests.question_of request ≡ asked (subscription request.client request.channel request.fields.stream)
  pub destinations :
      (request : DestinationRequest) →
      requests.destination_question request ≡ asked (destination request.client request.channel request.target.stream)
  pub counters :
      (client : Client) (fields : AddCounter) → requests.counter_question client fields ≡ asked (counter client fields.type_id)
  pub terminations : (client : Client) → requests.termination_question client ≡ asked (termination client)
  pub offers :
      (request : OfferRequest) →
      steps.offer_question request ≡ asked (offer request.client request.registration request.publication)
  pub pairs :
      (principal : ℕ) (reader : Subscription) → fitting.image_question principal reader ≡ asked (pair principal reader)
  pub polls : (request : PollRequest) → steps.poll_question request ≡ asked (poll request.client request.subscription)
  pub datagrams :
      (log : LogRow) (to : Destination) → sends.send_question log to ≡ asked (datagram log to)
  pub learnt_datagrams :
      (s : State) (log : LogRow) (to : LearntAddress) →
      sends.learnt_question s log to ≡ asked (learnt_datagram s.peers to.address log)
  pub joins :
      (s : State) (from : Address) (log : LogRow) → joins_of.join_question s from log ≡ asked (join s.peers from log)
  pub resends :
      (s : State) (from : Address) (log : LogRow) → naks.resend_question s from log ≡ asked (resend s.peers from log)
  pub looks : (principal : ℕ) (row : Counter) → counter_rows.question_for principal row ≡ asked (look principal row)
  pub looks_at_logs :
      (principal : ℕ) (log : LogRow) → listing.source_question principal log ≡ asked (look_at_log principal log)
