-- Each decision that an event tells is by the policy in force.
use Rattle.std.proofs.Common.{◌≡◌, ℕ, ℤ, pos, ◌==◌, Bool, true, false, not, ◌&&◌, List, [], ◌∷◌, Option, Some, None, Result, Ok, Err, if◌then◌else◌, inl, inr, refl, sym, ap, ◌∙◌, ◌⊎◌}
use Rattle.std.specs.List.{AllByRecursion, Contains, flat_map}
use Rattle.std.proofs.lemmas.Bool.{cond_both, eqb-true}
use Rattle.driver_core.specs.declared.state.event.Event.{Event}
use Rattle.driver_core.specs.declared.state.event.Event.TheVariants.{Attach, Command, Reload, Setup, Tick}
use Rattle.driver_core.specs.declared.state.event.Inputs.{Inputs}
use Rattle.driver_core.specs.declared.state.refusal.Refusal.{Refusal}
use Rattle.driver_core.specs.Attaching.{attached}
use Rattle.driver_core.specs.Closing.{keep_alive, close}
use Rattle.driver_core.specs.Commands.{asked, asked_by, at_request, body_change, command, command_from, heard, requested}
use Rattle.driver_core.specs.Conduct.{coming_to, conduct, drafted}
use Rattle.driver_core.specs.Counting.{add_counter, counted, remove_counter, set_counter, uncounted, valued}
use Rattle.driver_core.specs.Deciding.{decision_by, question_by}
use Rattle.driver_core.specs.Directing.{add_destination, added_on, destination_decision, directed, directed_as, directing_by, directing_of, directing_on, recalled, recalled_as, recalling_by, recalling_of, recalling_on, remove_destination}
use Rattle.driver_core.specs.Draft.{Draft, answered, refused, replied, replied_opening, told}
use Rattle.driver_core.specs.Publishing.{add_publication, is_publishable, publish_on, published, publishing_act}
use Rattle.driver_core.specs.Reloading.{reloaded}
use Rattle.driver_core.specs.Renewal.{come_to, decided_for, decided_on as decided_on_pair, decided_to, gone_from, image_decision, images_decided, renewed, source_at, subscription_at}
use Rattle.driver_core.specs.Requests.{Asks, IsAsked, PublicationRequest, SubscriptionRequest, wanted_by}
use Rattle.driver_core.specs.SettingUp.{image_made}
use Rattle.driver_core.specs.State.{State, at_moment}
use Rattle.driver_core.specs.Subscribing.{act_of, add_subscription, is_subscribable, subscribe_on, subscribed}
use Rattle.driver_core.specs.Terminating.{terminate, terminated}
use Rattle.driver_core.specs.Ticking.{tick, ticked}
use Rattle.driver_core.specs.Unpublishing.{remove_publication, unpublished}
use Rattle.driver_core.specs.Unread.{dropping, without_unread}
use Rattle.driver_core.specs.Unsubscribing.{unsubscribed}
use Rattle.driver_laws.specs.DecisionLaws.{IsInForce, IsOnRequest}
use Rattle.channel_uri.specs.declared.error.UriError.{UriError}
use Rattle.channel_uri.specs.Channel.{Shape, counter_shape, denotes, ipc_shape}
use Rattle.client_registry.specs.declared.client.Client.{Client}
use Rattle.client_registry.specs.Clients.{client_at, principal_at}
use Rattle.command_codec.specs.declared.add_counter.AddCounter.{AddCounter}
use Rattle.command_codec.specs.declared.add_publication.AddPublication.{AddPublication}
use Rattle.command_codec.specs.declared.add_subscription.AddSubscription.{AddSubscription}
use Rattle.command_codec.specs.declared.command.Body.{Body}
use Rattle.command_codec.specs.declared.command.Body.TheVariants.{AddPublication as Publishes, AddExclusivePublication as PublishesExclusively, RemovePublication as Unpublishes, AddSubscription as Adds, RemoveSubscription as Removes, ClientKeepalive as Keeps, AddDestination as Directs, RemoveDestination as Recalls, AddCounter as AddsCounter, RemoveCounter as RemovesCounter, ClientClose as Closes, TerminateDriver as Terminates, SetCounter as Sets}
use Rattle.command_codec.specs.declared.command.Command.{Command as Read}
use Rattle.command_codec.specs.declared.destination.Destination.{Destination}
use Rattle.command_codec.specs.declared.fault.CommandFault.{CommandFault}
use Rattle.command_codec.specs.declared.terminate_driver.TerminateDriver.{TerminateDriver}
use Rattle.command_codec.specs.Command.{command_of}
use Rattle.counters.specs.Counters.{has}
use Rattle.destinations.specs.declared.fault.DestinationFault.{DestinationFault}
use Rattle.destinations.specs.Destinations.{adding as naming, has as has_destination}
use Rattle.log_readers.specs.Unread.{without_unread as without_unread_in}
use Rattle.policy_core.specs.declared.act.Act.{Act}
use Rattle.policy_core.specs.declared.act.Act.TheVariants.{Counter as MakeCounter, Destination as Direct, Terminate}
use Rattle.policy_core.specs.declared.decision.Decision.{Decision}
use Rattle.stream_registry.specs.declared.pairs.Pair.{Pair}
use Rattle.stream_registry.specs.declared.row.LogRow.{LogRow}
use Rattle.stream_registry.specs.declared.row.Subscription.{Subscription}
use Rattle.stream_registry.specs.Leaving.{has_registration}
use Rattle.stream_registry.specs.Pairs.{image_question}
use Rattle.driver_core.proofs.CacheLemmas.{found_in}
use Rattle.driver_core.proofs.EventCases.{attach_cases, reload_cases, set_up_cases, target_cases, target_heard}
use Rattle.driver_core.proofs.RuleCases.{add_counter_cases, publish_cases, remove_cases, subscribe_cases, terminate_cases}
use Rattle.driver_core.proofs.VerdictLemmas.{by_policy}
use Rattle.driver_laws.proofs.ActLemmas.{is_listed}
use Rattle.driver_laws.proofs.DenialLemmas.{asked_before}
use Rattle.driver_laws.proofs.DroppingLemmas.{all_weaker, first_there, later_there}
use Rattle.driver_laws.proofs.RenewalLemmas.{all_append}

-- ---- on a request

-- the policy decided each of them on what the event asks
abbrev AreOnRequest : State → Event → List Decision → Type 0
AreOnRequest s event decisions = AllByRecursion (IsOnRequest s event) decisions

abbrev Decides : State → Event → Draft → Type 0
Decides s event draft = AreOnRequest s event draft.decisions

refused_decides : (s : State) (event : Event) (after : State) (decisions : List Decision) (client correlation : ℕ)
    (refusal : Refusal) → AreOnRequest s event decisions → Decides s event (refused after decisions client correlation refusal)
unfolding refused replied told
refused_decides s event after decisions client correlation refusal all = all

module _ (s : State) (now handle : ℕ) (bytes : List ℕ) where
  abbrev event : Event
  event = Command now handle bytes

  abbrev at : State
  at = at_moment s now

  abbrev left : State
  left = at_request s now handle

  -- nothing is decided
  plain : (after : State) (client correlation : ℕ) (refusal : Refusal) →
      Decides s event (refused after [] client correlation refusal)
  plain after client correlation refusal = refused_decides s event after [] client correlation refusal tt

  one_decided : (client : Client) (correlation : ℕ) (act : Act) (channel : Shape) (stream : ℤ) →
      IsAsked at handle bytes correlation (question_by client act channel stream) →
      AreOnRequest s event (decision_by left client act channel stream ∷ [])
  unfolding decision_by heard at_moment
  one_decided client correlation act channel stream asks = (
    record {
      moment = now;
      handle = handle;
      bytes = bytes;
      correlation = correlation;
      question = question_by client act channel stream;
      event_is = refl;
      asks = is_listed s handle bytes correlation (question_by client act channel stream)
          (asked_before s now handle bytes correlation (question_by client act channel stream) asks);
      decision_is = refl;
      by = by_policy s (question_by client act channel stream);
    },
    tt,
  )

  channel_decides : (client : Client) (correlation : ℕ) (fields : AddSubscription) →
      Asks at handle bytes client correlation (Adds fields) → (channel : Result Shape UriError) →
      denotes fields.channel ≡ channel → Decides s event (subscribe_on left client correlation channel fields.stream)
  unfolding subscribed replied told
  channel_decides client correlation fields asks (Err fault) denoted = plain left _ _ _
  channel_decides client correlation fields asks (Ok channel) denoted =
      cond_both (is_subscribable channel) _ _ (Decides s event)
      (λ takes.
      let request : SubscriptionRequest =
      record { client = client; correlation = correlation; fields = fields; channel = channel } in
      let one = one_decided client correlation (act_of channel) channel fields.stream (inl (record {
        request = request;
        asks = record { command = asks.command; attached = asks.attached; denotes_channel = denoted; takes_channel = takes };
        correlation_is = refl;
        question_is = refl;
      })) in
      subscribe_cases (Decides s event) left client correlation channel fields.stream
      (λ allows room. one)
      (λ allows full. refused_decides s event left _ _ _ _ one)
      (λ denies. refused_decides s event left _ _ _ _ one))
      (λ other. plain left _ _ _)

  publication_decides : (client : Client) (correlation : ℕ) (fields : AddPublication) (exclusive : Bool) →
      Asks at handle bytes client correlation (if exclusive then PublishesExclusively fields else Publishes fields) →
      (channel : Result Shape UriError) → denotes fields.channel ≡ channel →
      Decides s event (publish_on left client correlation channel fields.stream exclusive)
  unfolding published replied_opening replied told
  publication_decides client correlation fields exclusive asks (Err fault) denoted = plain left _ _ _
  publication_decides client correlation fields exclusive asks (Ok channel) denoted =
      cond_both (is_publishable channel) _ _ (Decides s event)
      (λ takes.
      let request : PublicationRequest =
      record { client = client; correlation = correlation; fields = fields; channel = channel; exclusive = exclusive } in
      let one = one_decided client correlation (publishing_act exclusive) channel fields.stream (inr (inr (inr (inl (record {
        request = request;
        asks = record { asks = asks; denotes_channel = denoted; takes_channel = takes };
        correlation_is = refl;
        question_is = refl;
      }))))) in
      publish_cases (Decides s event) left client correlation (wanted_by request) (record {
        denied = λ denies. refused_decides s event left _ _ _ _ one;
        refused_by = λ why allows is. refused_decides s event left _ _ _ _ one;
        full = λ adding allows is lacks. refused_decides s event left _ _ _ _ one;
        no_room = λ adding allows is room lacks. refused_decides s event left _ _ _ _ one;
        granted = λ adding allows is room placed. one;
      }))
      (λ other. plain left _ _ _)

  -- named by hand, and then taken or not
  taken_decides : (client : Client) (correlation : ℕ) (channel : Shape) (target : _) →
      AreOnRequest s event (destination_decision left client channel target ∷ []) → (found : Result ℕ DestinationFault) →
      Decides s event (directed_as left client correlation
      (added_on (destination_decision left client channel target) target channel found))
  unfolding directed replied told
  taken_decides client correlation channel target one (Ok number) = one
  taken_decides client correlation channel target one (Err why) = refused_decides s event left _ _ _ _ one

  target_decides : (client : Client) (correlation : ℕ) (channel : Shape) (target : _) →
      AreOnRequest s event (destination_decision left client channel target ∷ []) →
      Decides s event (directed_as left client correlation (directing_by left client channel (Ok target)))
  target_decides client correlation channel target one =
      let allow : Bool = (destination_decision left client channel target).verdict.allow in
      cond_both (not allow) _ _ (λ found. Decides s event (directed_as left client correlation found))
      (λ denies. refused_decides s event left _ _ _ _ one)
      (λ allows.
      cond_both target.manual _ _ (λ found. Decides s event (directed_as left client correlation found))
      (λ manual.
      taken_decides client correlation channel target one (naming left.destinations target.source target.address))
      (λ other. refused_decides s event left _ _ _ _ one))

  destination_decides : (client : Client) (correlation : ℕ) (fields : Destination) →
      Asks at handle bytes client correlation (Directs fields) → (channel : Result Shape UriError) →
      denotes fields.channel ≡ channel →
      Decides s event (directed_as left client correlation (directing_on left client fields.registration channel))
  destination_decides client correlation fields asks (Err fault) denoted = plain left _ _ _
  destination_decides client correlation fields asks (Ok channel) denoted =
      target_cases (λ found. Decides s event (directed_as left client correlation (directing_by left client channel found)))
      left client.number fields.registration channel
      (λ refusal plain'. plain left _ _ _)
      (λ target named.
      target_decides client correlation channel target
      (one_decided client correlation Direct channel target.stream (inr (inr (inr (inr (record {
        request = record {
          client = client;
          correlation = correlation;
          fields = fields;
          channel = channel;
          target = target;
        };
        asks = record {
          asks = asks;
          denotes_channel = denoted;
          names_target = sym (target_heard at handle client.number fields.registration channel) ∙ named;
        };
        correlation_is = refl;
        question_is = refl;
      })))))))

  recall_decides : (client : Client) (correlation : ℕ) (fields : Destination) → (channel : Result Shape UriError) →
      Decides s event (recalled_as left client correlation (recalling_on left client.number fields.registration channel))
  unfolding recalled replied told
  recall_decides client correlation fields (Err fault) = plain left _ _ _
  recall_decides client correlation fields (Ok channel) =
      target_cases (λ found. Decides s event (recalled_as left client correlation (recalling_by left found)))
      left client.number fields.registration channel
      (λ refusal plain'. plain left _ _ _)
      (λ target named.
      cond_both (target.manual && has_destination left.destinations.rows target.source target.address) _ _
      (λ found. Decides s event (recalled_as left client correlation found)) (λ there. tt) (λ other. plain left _ _ _))

  counter_decides : (client : Client) (correlation : ℕ) (fields : AddCounter) →
      Asks at handle bytes client correlation (AddsCounter fields) →
      Decides s event (add_counter left client correlation fields)
  unfolding counted replied told
  counter_decides client correlation fields asks =
      let one = one_decided client correlation MakeCounter counter_shape fields.type_id
      (inr (inl (record { client = client; fields = fields; asks = asks; question_is = refl }))) in
      add_counter_cases (Decides s event) left client correlation fields
      (λ allows room. one)
      (λ allows full. refused_decides s event left _ _ _ _ one)
      (λ denies. refused_decides s event left _ _ _ _ one)

  termination_decides : (client : Client) (correlation : ℕ) (fields : TerminateDriver) →
      Asks at handle bytes client correlation (Terminates fields) → Decides s event (terminate left client correlation)
  unfolding terminated
  termination_decides client correlation fields asks =
      let one = one_decided client correlation Terminate ipc_shape (pos 0)
      (inr (inr (inl (record { client = client; fields = fields; asks = asks; question_is = refl })))) in
      terminate_cases (Decides s event) left client correlation
      (λ allows. one)
      (λ denies. refused_decides s event left _ _ _ _ one)

  asks_for : (client : Client) (read : Read) (body : Body) → command_of bytes ≡ Ok read → read.client ≡ handle →
      client_at at.clients.rows handle ≡ Some client → read.body ≡ body →
      Asks at handle bytes client read.correlation body
  asks_for client read body is own found same =
      record { command = is ∙ ap Ok (whole read handle body own same); attached = found }
    where
      whole : (r : Read) (client' : ℕ) (b : Body) → r.client ≡ client' → r.body ≡ b →
          r ≡ record { client = client'; correlation = r.correlation; body = b }
      whole r client' b own' is' = rw (← own', ← is') refl

  body_decides : (client : Client) (read : Read) → command_of bytes ≡ Ok read → read.client ≡ handle →
      client_at at.clients.rows handle ≡ Some client → (body : Body) → read.body ≡ body →
      Decides s event (body_change left client read.correlation body)
  unfolding add_subscription add_publication add_destination directing_of remove_destination recalling_of remove_publication set_counter remove_counter unpublished unsubscribed valued uncounted keep_alive close replied told
  body_decides client read is own found (Publishes fields) same =
      publication_decides client read.correlation fields false
      (asks_for client read (Publishes fields) is own found same) (denotes fields.channel) refl
  body_decides client read is own found (PublishesExclusively fields) same =
      publication_decides client read.correlation fields true
      (asks_for client read (PublishesExclusively fields) is own found same) (denotes fields.channel) refl
  body_decides client read is own found (Unpublishes fields) same =
      cond_both (has_registration left.streams client.number fields.registration) _ _ (Decides s event) (λ e. tt)
      (λ e. plain left _ _ _)
  body_decides client read is own found (Adds fields) same =
      channel_decides client read.correlation fields (asks_for client read (Adds fields) is own found same)
      (denotes fields.channel) refl
  body_decides client read is own found (Removes fields) same =
      remove_cases (Decides s event) left client read.correlation fields (λ e. tt) (λ e. plain left _ _ _)
  body_decides client read is own found Keeps same = tt
  body_decides client read is own found (Directs fields) same =
      destination_decides client read.correlation fields
      (asks_for client read (Directs fields) is own found same) (denotes fields.channel) refl
  body_decides client read is own found (Recalls fields) same =
      recall_decides client read.correlation fields (denotes fields.channel)
  body_decides client read is own found (AddsCounter fields) same =
      counter_decides client read.correlation fields (asks_for client read (AddsCounter fields) is own found same)
  body_decides client read is own found (RemovesCounter fields) same =
      cond_both (has left.counters client.number fields.registration) _ _ (Decides s event) (λ e. tt)
      (λ e. plain left _ _ _)
  body_decides client read is own found Closes same = tt
  body_decides client read is own found (Terminates fields) same =
      termination_decides client read.correlation fields (asks_for client read (Terminates fields) is own found same)
  body_decides client read is own found (Sets fields) same =
      cond_both (has left.counters client.number fields.registration) _ _ (Decides s event) (λ e. tt)
      (λ e. plain left _ _ _)

  found_decides : (read : Read) → command_of bytes ≡ Ok read → read.client ≡ handle → (found : Option Client) →
      client_at at.clients.rows handle ≡ found → Decides s event (asked_by at handle read found)
  unfolding requested
  found_decides read is own None found = plain at _ _ _
  found_decides read is own (Some client) found = body_decides client read is own found read.body refl

  read_decides : (read : Result Read CommandFault) → command_of bytes ≡ read →
      Decides s event (command_from at handle bytes read)
  unfolding asked
  read_decides (Err fault) is = plain at _ _ _
  read_decides (Ok read) is =
      cond_both (read.client == handle) _ _ (Decides s event)
      (λ own. found_decides read is (eqb-true read.client handle own) (client_at at.clients.rows handle) refl)
      (λ other. plain at _ _ _)

draft_decides : (s : State) (event : Event) (inputs : Inputs) → Decides s event (drafted s event inputs)
unfolding drafted command attached reloaded tick ticked image_made answered
draft_decides s (Attach now principal) inputs =
    attach_cases (Decides s (Attach now principal)) (at_moment s now) principal tt tt tt
draft_decides s (Command now handle bytes) inputs = read_decides s now handle bytes (command_of bytes) refl
draft_decides s (Reload now policy) inputs =
    reload_cases (Decides s (Reload now policy)) (at_moment s now) policy (λ room. tt) (λ full. tt)
draft_decides s (Tick now) inputs = tt
draft_decides s (Setup now local from setup) inputs =
    set_up_cases (Decides s (Setup now local from setup)) (at_moment s now) local from setup (λ fault. tt)
    (λ join place is set. tt)

-- ---- on a pair

-- what has to be shown of a decision on that pair
abbrev OnPair : (Decision → Type 0) → State → Pair → Type 0
OnPair P t pair =
    (subscription : Subscription) (principal : ℕ) → Contains t.streams.subscriptions subscription →
    subscription.number ≡ pair.subscription → principal_at t.clients.rows subscription.client ≡ Some principal →
    P (image_decision t subscription principal)

client_decided : (P : Decision → Type 0) (t : State) (pair : Pair) (subscription : Subscription) (principal : Option ℕ) →
    OnPair P t pair → Contains t.streams.subscriptions subscription → subscription.number ≡ pair.subscription →
    principal_at t.clients.rows subscription.client ≡ principal →
    AllByRecursion P (decided_for t subscription principal)
client_decided P t pair subscription None each stands number is = tt
client_decided P t pair subscription (Some principal) each stands number is =
    (each subscription principal stands number is, tt)

rows_decided : (P : Decision → Type 0) (t : State) (pair : Pair) (log : Option LogRow) (found : Option Subscription) →
    OnPair P t pair → subscription_at t.streams.subscriptions pair.subscription ≡ found →
    AllByRecursion P (decided_to t log found)
rows_decided P t pair None found each is = tt
rows_decided P t pair (Some log) None each is = tt
rows_decided P t pair (Some log) (Some subscription) each is =
    let there = found_in _ t.streams.subscriptions subscription is in
    client_decided P t pair subscription (principal_at t.clients.rows subscription.client) each there.stands
    (eqb-true subscription.number pair.subscription there.passes) refl

pair_decided : (P : Decision → Type 0) (t : State) (pair : Pair) → OnPair P t pair →
    AllByRecursion P (decided_on_pair t pair)
unfolding decided_on_pair
pair_decided P t pair each =
    rows_decided P t pair (source_at t.streams.sources pair.source)
    (subscription_at t.streams.subscriptions pair.subscription) each refl

pairs_decided : (P : Decision → Type 0) (t : State) (pairs : List Pair) →
    ((pair : Pair) → Contains pairs pair → OnPair P t pair) → AllByRecursion P (flat_map (decided_on_pair t) pairs)
pairs_decided P t [] each = tt
pairs_decided P t (pair ∷ pairs) each =
    all_append P (decided_on_pair t pair) (flat_map (decided_on_pair t) pairs)
    (pair_decided P t pair (each pair (first_there pair pairs)))
    (pairs_decided P t pairs (λ other has. each other (later_there pair other pairs has)))

all_decided : (P : Decision → Type 0) (t : State) (gone come : List Pair) →
    ((pair : Pair) → Contains gone pair ⊎ Contains come pair → OnPair P t pair) →
    AllByRecursion P (images_decided t gone come)
unfolding images_decided
all_decided P t gone come each =
    all_append P (flat_map (decided_on_pair t) gone) (flat_map (decided_on_pair t) come)
    (pairs_decided P t gone (λ pair has. each pair (inl has))) (pairs_decided P t come (λ pair has. each pair (inr has)))

-- ---- all of them

pub decisions_by_policy : (s : State) (event : Event) (inputs : Inputs) →
    AllByRecursion (IsInForce (coming_to s event) event (conduct s event inputs)) (conduct s event inputs).outcome.decisions
unfolding conduct dropping renewed without_unread without_unread_in
decisions_by_policy s event inputs =
    let at : State = coming_to s event in
    let draft : Draft = drafted at event inputs in
    let P : Decision → Type 0 = IsInForce at event (conduct s event inputs) in
    all_append P draft.decisions _
    (all_weaker (IsOnRequest at event) P (λ decision on. inl on) draft.decisions (draft_decides at event inputs))
    (all_decided P draft.after (gone_from s draft.after) (come_to s draft.after)
    (λ pair turns subscription principal stands number attached'.
    inr (record {
      pair = pair;
      subscription = subscription;
      principal = principal;
      turns = turns;
      number_is = number;
      stands = stands;
      attached = attached';
      decision_is = refl;
      by = by_policy draft.after (image_question principal subscription);
    })))
