-- What holds of the draft that each case of an event makes holds of the event's.
-- a refusal for which the policy is not asked
use Rattle.std.proofs.Common.{◌≡◌, ℕ, ℤ, pos, ◌==◌, Bool, true, false, not, ◌&&◌, List, [], ◌∷◌, Option, Some, None, Result, Ok, Err, if◌then◌else◌, inl, inr, refl, sym, ap, ◌∙◌}
use Rattle.std.proofs.lemmas.Bool.{eqb-true, cond_both, not-true, not-false}
use Rattle.driver_core.specs.Draft.{Draft}
use Rattle.driver_core.specs.declared.state.event.Event.TheVariants.{Command}
use Rattle.driver_core.specs.declared.state.event.Inputs.{Inputs}
use Rattle.driver_core.specs.declared.state.outcome.Response.TheVariants as response
use Rattle.driver_core.specs.declared.state.setup_fault.SetupFault.{SetupFault}
use Rattle.driver_core.specs.declared.state.setup_fault.SetupFault.TheVariants.{BadSetup}
use Rattle.driver_core.specs.declared.state.refusal.Refusal.{Refusal}
use Rattle.driver_core.specs.declared.state.refusal.Refusal.TheVariants.{WrongClient, InvalidChannel, UnknownSubscription, UnknownPublication, UnknownCounter, Denied, Conflict, Full, NoRoom}
use Rattle.client_registry.specs.declared.client.Client.{Client}
use Rattle.driver_core.specs.Attaching.{attach, attached}
use Rattle.driver_core.specs.Draft.{answered, refused}
use Rattle.driver_core.specs.Closing.{keep_alive, close}
use Rattle.driver_core.specs.Counting.{add_counter, counted, counter_decision, has_room_for_counter, valued, uncounted}
use Rattle.driver_core.specs.Deciding.{decision_by, question_by}
use Rattle.driver_core.specs.declared.rules.directing.Directed.{Directed}
use Rattle.driver_core.specs.declared.rules.directing.Target.{Target}
use Rattle.driver_core.specs.declared.state.refused.Refused.{Refused}
use Rattle.driver_core.specs.Directing.{add_destination, added_on, destination_decision, directed, directed_as, directing_by, directing_of, directing_on, log_with, own_log, recalled, recalled_as, recalling_by, recalling_of, recalling_on, refused_by_destinations, remove_destination, target_address, target_at, target_of, target_on}
use Rattle.driver_core.specs.LogRequests.{registration_at}
use Rattle.driver_core.specs.Refusing.{plainly}
use Rattle.client_registry.specs.Clients.{client_at, has_room}
use Rattle.destinations.specs.declared.fault.DestinationFault.{DestinationFault}
use Rattle.destinations.specs.declared.fault.DestinationFault.TheVariants as destination_fault
use Rattle.destinations.specs.Destinations.{adding as naming, has as has_destination}
use Rattle.driver_core.specs.Commands.{heard, requested, asked, asked_by, command, command_from, body_change, refusal_for}
use Rattle.driver_core.specs.Conduct.{drafted}
use Rattle.driver_core.specs.Requests.{is_heard, Asks, PublicationRequest, AsksToPublish, wanted_by, SubscriptionRequest, AsksToSubscribe, RemovalRequest, AsksToRemove, DestinationRequest, AsksToDirect, IsAsked}
use Rattle.driver_core.specs.Publishing.{is_publishable, add_publication, publication_decision, publish, publish_on, published, publishing_act, refused_by_streams, has_place, has_room_for_publication}
use Rattle.driver_core.specs.Reloading.{reload, reloaded, has_room_for_policy}
use Rattle.driver_core.specs.SettingUp.{image_made, set_by, set_up, set_up_by, setting_of, wanted_by as image_wanted_by}
use Rattle.driver_core.specs.State.{State, at_moment}
use Rattle.driver_core.specs.Subscribing.{is_subscribable, subscribe, subscribe_on, add_subscription, subscribed, decision_of, has_room_for_subscription}
use Rattle.driver_core.specs.Terminating.{terminate, terminated, termination_decision}
use Rattle.driver_core.specs.Unpublishing.{unpublished}
use Rattle.driver_core.specs.Unsubscribing.{unsubscribed}
use Rattle.channel_uri.specs.declared.address.Address.{Address}
use Rattle.channel_uri.specs.declared.error.UriError.{UriError}
use Rattle.channel_uri.specs.Channel.{Shape, denotes, counter_shape, ipc_shape}
use Rattle.command_codec.specs.declared.add_publication.AddPublication.{AddPublication}
use Rattle.command_codec.specs.declared.add_subscription.AddSubscription.{AddSubscription}
use Rattle.command_codec.specs.declared.command.Body.{Body}
use Rattle.command_codec.specs.declared.command.Body.TheVariants.{AddPublication as Publishes, AddExclusivePublication as PublishesExclusively, RemovePublication as Unpublishes, AddSubscription as Adds, RemoveSubscription as Removes, ClientKeepalive as Keeps, AddDestination as Directs, RemoveDestination as Recalls, AddCounter as AddsCounter, RemoveCounter as RemovesCounter, ClientClose as Closes, TerminateDriver as Terminates, SetCounter as Sets}
use Rattle.command_codec.specs.declared.command.Command.{Command as Read}
use Rattle.command_codec.specs.declared.fault.CommandFault.{CommandFault}
use Rattle.command_codec.specs.declared.fault.CommandFault.TheVariants.{Unknown, Malformed, NoMemory}
use Rattle.command_codec.specs.declared.add_counter.AddCounter.{AddCounter}
use Rattle.command_codec.specs.declared.destination.Destination.{Destination}
use Rattle.command_codec.specs.declared.removal.Removal.{Removal}
use Rattle.command_codec.specs.declared.set_counter.SetCounter.{SetCounter}
use Rattle.command_codec.specs.declared.terminate_driver.TerminateDriver.{TerminateDriver}
use Rattle.command_codec.specs.Command.{command_of, correlation_of}
use Rattle.frame_codec.specs.declared.join.Join.{Join}
use Rattle.frame_codec.specs.declared.setup.Setup.{Setup}
use Rattle.frame_codec.specs.Join.{join_of}
use Rattle.policy_core.specs.declared.act.Act.{Act}
use Rattle.policy_core.specs.declared.act.Act.TheVariants.{Counter as MakeCounter, Destination as Direct, Terminate}
use Rattle.policy_core.specs.declared.decision.Decision.{Decision}
use Rattle.policy_core.specs.RuleList.{Rules}
use Rattle.stream_registry.specs.declared.row.Registration.{Registration}
use Rattle.stream_registry.specs.declared.row.LogRow.{LogRow}
use Rattle.stream_registry.specs.declared.wanted.Adding.{Adding}
use Rattle.stream_registry.specs.declared.wanted.ImageWanted.{ImageWanted}
use Rattle.stream_registry.specs.Adding.{adding_of}
use Rattle.driver_core.proofs.RuleCases.{IsPlain, subscribe_cases, plain_refusal, publish_cases, remove_publication_cases, remove_cases, add_counter_cases, set_counter_cases, remove_counter_cases, terminate_cases}

-- what has to be shown of each draft that bytes over a handle may make
pub record Cases (P : Draft → Type 0) (s : State) (handle : ℕ) (bytes : List ℕ) : Type 0 where
  pub unheard :
      (correlation : ℕ) (refusal : Refusal) → IsPlain refusal → is_heard s handle bytes ≡ false →
      P (refused s [] handle correlation refusal)
  pub refusal :
      (decisions : List Decision) (client : Client) (correlation : ℕ) (refusal : Refusal) → IsPlain refusal →
      is_heard s handle bytes ≡ true → P (refused (heard s handle) decisions client.number correlation refusal)
  pub denial :
      (client : Client) (correlation : ℕ) (act : Act) (channel : Shape) (stream : ℤ) → is_heard s handle bytes ≡ true →
      client_at s.clients.rows handle ≡ Some client →
      IsAsked s handle bytes correlation (question_by client act channel stream) →
      (decision_by (heard s handle) client act channel stream).verdict.allow ≡ false →
      P (refused (heard s handle) (decision_by (heard s handle) client act channel stream ∷ []) client.number correlation
      (Denied (decision_by (heard s handle) client act channel stream).verdict))
  pub subscription :
      (request : SubscriptionRequest) → is_heard s handle bytes ≡ true → AsksToSubscribe s handle bytes request →
      (decision_of (heard s handle) request.client request.channel request.fields.stream).verdict.allow ≡ true →
      has_room_for_subscription (heard s handle) request.client.number request.channel request.fields.stream ≡ true →
      P (subscribed (heard s handle) request.client request.correlation request.channel request.fields.stream)
  pub publication :
      (request : PublicationRequest) (adding : Adding) → is_heard s handle bytes ≡ true → AsksToPublish s handle bytes request →
      (publication_decision (heard s handle) request.client (wanted_by request)).verdict.allow ≡ true →
      adding_of (heard s handle).streams (wanted_by request) ≡ Ok adding →
      has_room_for_publication (heard s handle) request.client.number (wanted_by request) adding ≡ true →
      has_place (heard s handle) (wanted_by request) adding ≡ true →
      P (published (heard s handle) request.client request.correlation (wanted_by request) adding)
  pub publication_removal :
      (client : Client) (correlation : ℕ) (fields : Removal) → is_heard s handle bytes ≡ true →
      Asks s handle bytes client correlation (Unpublishes fields) →
      P (unpublished (heard s handle) client correlation fields.registration)
  pub removal :
      (request : RemovalRequest) → is_heard s handle bytes ≡ true → AsksToRemove s handle bytes request →
      P (unsubscribed (heard s handle) request.client request.correlation request.fields.registration)
  pub keepalive : is_heard s handle bytes ≡ true → P (keep_alive (heard s handle))
  pub destination :
      (request : DestinationRequest) (number : ℕ) → is_heard s handle bytes ≡ true → AsksToDirect s handle bytes request →
      (destination_decision (heard s handle) request.client request.channel request.target).verdict.allow ≡ true →
      request.target.manual ≡ true →
      naming (heard s handle).destinations request.target.source request.target.address ≡ Ok number →
      P (directed (heard s handle) request.client request.correlation (record {
        decision = destination_decision (heard s handle) request.client request.channel request.target;
        target = request.target;
        channel = request.channel;
      }))
  pub destination_removal :
      (client : Client) (correlation : ℕ) (fields : Destination) (target : Target) → is_heard s handle bytes ≡ true →
      Asks s handle bytes client correlation (Recalls fields) →
      recalling_of (heard s handle) client.number fields ≡ Ok target →
      P (recalled (heard s handle) client correlation target)
  pub counter :
      (client : Client) (correlation : ℕ) (fields : AddCounter) → is_heard s handle bytes ≡ true →
      Asks s handle bytes client correlation (AddsCounter fields) →
      (counter_decision (heard s handle) client fields).verdict.allow ≡ true →
      has_room_for_counter (heard s handle) ≡ true → P (counted (heard s handle) client correlation fields)
  pub value :
      (client : Client) (correlation : ℕ) (fields : SetCounter) → is_heard s handle bytes ≡ true →
      Asks s handle bytes client correlation (Sets fields) → P (valued (heard s handle) client correlation fields)
  pub counter_removal :
      (client : Client) (correlation : ℕ) (fields : Removal) → is_heard s handle bytes ≡ true →
      Asks s handle bytes client correlation (RemovesCounter fields) →
      P (uncounted (heard s handle) client correlation fields.registration)
  pub closing :
      (client : Client) (correlation : ℕ) → is_heard s handle bytes ≡ true →
      Asks s handle bytes client correlation Closes → P (close (heard s handle) client correlation)
  pub termination :
      (client : Client) (correlation : ℕ) (fields : TerminateDriver) → is_heard s handle bytes ≡ true →
      Asks s handle bytes client correlation (Terminates fields) →
      (termination_decision (heard s handle) client).verdict.allow ≡ true →
      P (terminated (heard s handle) client correlation)

plain_fault : (fault : CommandFault) → IsPlain (refusal_for fault)
plain_fault Unknown = tt
plain_fault Malformed = tt
plain_fault NoMemory = tt

-- a command by its parts
whole : (read : Read) (handle : ℕ) (body : Body) → read.client ≡ handle → read.body ≡ body →
    read ≡ record { client = handle; correlation = read.correlation; body = body }
whole read handle body own is = rw (← own, ← is) refl

-- ---- a client that is there

decided_cases : (P : Draft → Type 0) (s : State) (handle : ℕ) (bytes : List ℕ) (request : SubscriptionRequest) →
    Cases P s handle bytes → is_heard s handle bytes ≡ true → AsksToSubscribe s handle bytes request →
    P (subscribe (heard s handle) request.client request.correlation request.channel request.fields.stream)
decided_cases P s handle bytes request cases known asks =
    subscribe_cases P (heard s handle) request.client request.correlation request.channel request.fields.stream
    (cases.subscription request known asks)
    (λ allows full. cases.refusal _ request.client request.correlation Full tt known)
    (cases.denial request.client request.correlation _ request.channel request.fields.stream known asks.attached
    (inl (record { request = request; asks = asks; correlation_is = refl; question_is = refl })))

channel_cases : (P : Draft → Type 0) (s : State) (handle : ℕ) (bytes : List ℕ) (client : Client) (correlation : ℕ)
    (fields : AddSubscription) → Cases P s handle bytes → is_heard s handle bytes ≡ true →
    command_of bytes ≡ Ok (record { client = handle; correlation = correlation; body = Adds fields }) →
    client_at s.clients.rows handle ≡ Some client → (channel : Result Shape UriError) → denotes fields.channel ≡ channel →
    P (subscribe_on (heard s handle) client correlation channel fields.stream)
channel_cases P s handle bytes client correlation fields cases known is found (Err fault) denoted =
    cases.refusal [] client correlation InvalidChannel tt known
channel_cases P s handle bytes client correlation fields cases known is found (Ok channel) denoted =
    cond_both (is_subscribable channel)
    (subscribe (heard s handle) client correlation channel fields.stream)
    (refused (heard s handle) [] client.number correlation InvalidChannel)
    P
    (λ takes.
    decided_cases P s handle bytes
    (record { client = client; correlation = correlation; fields = fields; channel = channel }) cases known
    (record { command = is; attached = found; denotes_channel = denoted; takes_channel = takes }))
    (λ other. cases.refusal [] client correlation InvalidChannel tt known)

published_cases : (P : Draft → Type 0) (s : State) (handle : ℕ) (bytes : List ℕ) (request : PublicationRequest) →
    Cases P s handle bytes → is_heard s handle bytes ≡ true → AsksToPublish s handle bytes request →
    P (publish (heard s handle) request.client request.correlation (wanted_by request))
published_cases P s handle bytes request cases known asks =
    publish_cases P (heard s handle) request.client request.correlation (wanted_by request) (record {
      denied = cases.denial request.client request.correlation (publishing_act request.exclusive) request.channel
          request.fields.stream known asks.asks.attached
          (inr (inr (inr (inl (record { request = request; asks = asks; correlation_is = refl; question_is = refl })))));
      refused_by = λ why allows is.
          cases.refusal _ request.client request.correlation (refused_by_streams why) (plain_refusal why) known;
      full = λ adding allows is full. cases.refusal _ request.client request.correlation Full tt known;
      no_room = λ adding allows is room lacks. cases.refusal _ request.client request.correlation NoRoom tt known;
      granted = λ adding. cases.publication request adding known asks;
    })

publication_cases : (P : Draft → Type 0) (s : State) (handle : ℕ) (bytes : List ℕ) (client : Client) (correlation : ℕ)
    (fields : AddPublication) (exclusive : Bool) → Cases P s handle bytes → is_heard s handle bytes ≡ true →
    Asks s handle bytes client correlation (if exclusive then PublishesExclusively fields else Publishes fields) →
    (channel : Result Shape UriError) → denotes fields.channel ≡ channel →
    P (publish_on (heard s handle) client correlation channel fields.stream exclusive)
publication_cases P s handle bytes client correlation fields exclusive cases known asks (Err fault) denoted =
    cases.refusal [] client correlation InvalidChannel tt known
publication_cases P s handle bytes client correlation fields exclusive cases known asks (Ok channel) denoted =
    cond_both (is_publishable channel) _ _ P
    (λ takes.
    published_cases P s handle bytes (record {
      client = client;
      correlation = correlation;
      fields = fields;
      channel = channel;
      exclusive = exclusive;
    }) cases known (record { asks = asks; denotes_channel = denoted; takes_channel = takes }))
    (λ other. cases.refusal [] client correlation InvalidChannel tt known)

counter_cases : (P : Draft → Type 0) (s : State) (handle : ℕ) (bytes : List ℕ) (client : Client) (correlation : ℕ)
    (fields : AddCounter) → Cases P s handle bytes → is_heard s handle bytes ≡ true →
    Asks s handle bytes client correlation (AddsCounter fields) →
    P (add_counter (heard s handle) client correlation fields)
counter_cases P s handle bytes client correlation fields cases known asks =
    add_counter_cases P (heard s handle) client correlation fields
    (cases.counter client correlation fields known asks)
    (λ allows full. cases.refusal _ client correlation Full tt known)
    (cases.denial client correlation MakeCounter counter_shape fields.type_id known asks.attached
    (inr (inl (record { client = client; fields = fields; asks = asks; question_is = refl }))))

-- ---- a destination

-- a target that is refused is so for a reason of its own, and one that is named is the same before the client was heard of
by_log : (Q : Result Target Refused → Type 0) (address : Address) (found : Option LogRow) →
    ((refusal : Refusal) → IsPlain refusal → Q (Err (plainly refusal))) →
    ((target : Target) → target_on address found ≡ Ok target → Q (Ok target)) → Q (target_on address found)
by_log Q address None refused named = refused UnknownPublication tt
by_log Q address (Some log) refused named = named _ refl

by_address : (Q : Result Target Refused → Type 0) (s : State) (client number : ℕ) (address : Option Address) →
    ((refusal : Refusal) → IsPlain refusal → Q (Err (plainly refusal))) →
    ((target : Target) → target_at s client number address ≡ Ok target → Q (Ok target)) →
    Q (target_at s client number address)
by_address Q s client number None refused named = refused InvalidChannel tt
by_address Q s client number (Some address) refused named = by_log Q address (own_log s client number) refused named

pub target_cases : (Q : Result Target Refused → Type 0) (s : State) (client number : ℕ) (channel : Shape) →
    ((refusal : Refusal) → IsPlain refusal → Q (Err (plainly refusal))) →
    ((target : Target) → target_of s client number channel ≡ Ok target → Q (Ok target)) →
    Q (target_of s client number channel)
unfolding target_of
target_cases Q s client number channel refused named = by_address Q s client number (target_address channel) refused named

log_heard : (s : State) (handle : ℕ) (found : Option Registration) → log_with (heard s handle) found ≡ log_with s found
unfolding heard
log_heard s handle None = refl
log_heard s handle (Some registration) = refl

own_log_heard : (s : State) (handle client number : ℕ) → own_log (heard s handle) client number ≡ own_log s client number
unfolding own_log heard
own_log_heard s handle client number = log_heard s handle (registration_at s.streams.registrations client number)

target_at_heard : (s : State) (handle client number : ℕ) (address : Option Address) →
    target_at (heard s handle) client number address ≡ target_at s client number address
target_at_heard s handle client number None = refl
target_at_heard s handle client number (Some address) = ap (target_on address) (own_log_heard s handle client number)

pub target_heard : (s : State) (handle client number : ℕ) (channel : Shape) →
    target_of (heard s handle) client number channel ≡ target_of s client number channel
unfolding target_of
target_heard s handle client number channel = target_at_heard s handle client number (target_address channel)

fault_plain : (why : DestinationFault) → IsPlain (refused_by_destinations why)
fault_plain destination_fault.Conflict = tt
fault_plain destination_fault.Full = tt

-- named by hand, and then taken or not
taken_cases : (P : Draft → Type 0) (s : State) (handle : ℕ) (bytes : List ℕ) (request : DestinationRequest) →
    Cases P s handle bytes → is_heard s handle bytes ≡ true → AsksToDirect s handle bytes request →
    (destination_decision (heard s handle) request.client request.channel request.target).verdict.allow ≡ true →
    request.target.manual ≡ true → (found : Result ℕ DestinationFault) →
    naming (heard s handle).destinations request.target.source request.target.address ≡ found →
    P (directed_as (heard s handle) request.client request.correlation
    (added_on (destination_decision (heard s handle) request.client request.channel request.target) request.target request.channel found))
taken_cases P s handle bytes request cases known asks allows manual (Ok number) is =
    cases.destination request number known asks allows manual is
taken_cases P s handle bytes request cases known asks allows manual (Err why) is =
    cases.refusal _ request.client request.correlation (refused_by_destinations why) (fault_plain why) known

-- denied, or not
direct_cases : (P : Draft → Type 0) (s : State) (handle : ℕ) (bytes : List ℕ) (request : DestinationRequest) →
    Cases P s handle bytes → is_heard s handle bytes ≡ true → AsksToDirect s handle bytes request →
    P (directed_as (heard s handle) request.client request.correlation
    (directing_by (heard s handle) request.client request.channel (Ok request.target)))
direct_cases P s handle bytes request cases known asks =
    let decision : Decision = destination_decision (heard s handle) request.client request.channel request.target in
    let allow : Bool = decision.verdict.allow in
    let told : Result Directed Refused → Type 0 =
    λ found. P (directed_as (heard s handle) request.client request.correlation found) in
    cond_both (not allow) _ _ told
    (λ e.
    cases.denial request.client request.correlation Direct request.channel request.target.stream known asks.asks.attached
    (inr (inr (inr (inr (record { request = request; asks = asks; correlation_is = refl; question_is = refl })))))
    (not-true allow e))
    (λ e.
    cond_both request.target.manual _ _ told
    (λ manual. taken_cases P s handle bytes request cases known asks (not-false allow e) manual _ refl)
    (λ other. cases.refusal _ request.client request.correlation Conflict tt known))

directing_cases : (P : Draft → Type 0) (s : State) (handle : ℕ) (bytes : List ℕ) (client : Client) (correlation : ℕ)
    (fields : Destination) → Cases P s handle bytes → is_heard s handle bytes ≡ true →
    Asks s handle bytes client correlation (Directs fields) → (channel : Result Shape UriError) →
    denotes fields.channel ≡ channel →
    P (directed_as (heard s handle) client correlation (directing_on (heard s handle) client fields.registration channel))
directing_cases P s handle bytes client correlation fields cases known asks (Err fault) denoted =
    cases.refusal [] client correlation InvalidChannel tt known
directing_cases P s handle bytes client correlation fields cases known asks (Ok channel) denoted =
    target_cases (λ found.
    P (directed_as (heard s handle) client correlation (directing_by (heard s handle) client channel found)))
    (heard s handle) client.number fields.registration channel
    (λ refusal plain. cases.refusal [] client correlation refusal plain known)
    (λ target named.
    direct_cases P s handle bytes (record {
      client = client;
      correlation = correlation;
      fields = fields;
      channel = channel;
      target = target;
    }) cases known (record {
      asks = asks;
      denotes_channel = denoted;
      names_target = sym (target_heard s handle client.number fields.registration channel) ∙ named;
    }))

-- what is decided on an address that is taken back
recall_cases : (P : Draft → Type 0) (s : State) (handle : ℕ) (bytes : List ℕ) (client : Client) (correlation : ℕ) →
    Cases P s handle bytes → is_heard s handle bytes ≡ true → (target : Target) →
    (recalling_by (heard s handle) (Ok target) ≡ Ok target → P (recalled (heard s handle) client correlation target)) →
    P (recalled_as (heard s handle) client correlation (recalling_by (heard s handle) (Ok target)))
recall_cases P s handle bytes client correlation cases known target done =
    let there : Bool = target.manual && has_destination (heard s handle).destinations.rows target.source target.address in
    cond_both there _ _ (λ found. P (recalled_as (heard s handle) client correlation found))
    (λ e. done (rw e refl)) (λ other. cases.refusal [] client correlation Conflict tt known)

recalling_cases : (P : Draft → Type 0) (s : State) (handle : ℕ) (bytes : List ℕ) (client : Client) (correlation : ℕ)
    (fields : Destination) → Cases P s handle bytes → is_heard s handle bytes ≡ true →
    ((target : Target) → recalling_of (heard s handle) client.number fields ≡ Ok target →
    P (recalled (heard s handle) client correlation target)) → (channel : Result Shape UriError) →
    denotes fields.channel ≡ channel →
    P (recalled_as (heard s handle) client correlation
    (recalling_on (heard s handle) client.number fields.registration channel))
unfolding recalling_of
recalling_cases P s handle bytes client correlation fields cases known done (Err fault) denoted =
    cases.refusal [] client correlation InvalidChannel tt known
recalling_cases P s handle bytes client correlation fields cases known done (Ok channel) denoted =
    target_cases (λ found. P (recalled_as (heard s handle) client correlation (recalling_by (heard s handle) found)))
    (heard s handle) client.number fields.registration channel
    (λ refusal plain. cases.refusal [] client correlation refusal plain known)
    (λ target named.
    recall_cases P s handle bytes client correlation cases known target
    (λ there. done target (rw (denoted, named) there)))

recall_fields : (P : Draft → Type 0) (s : State) (handle : ℕ) (bytes : List ℕ) (client : Client) (correlation : ℕ)
    (fields : Destination) → Cases P s handle bytes → is_heard s handle bytes ≡ true →
    Asks s handle bytes client correlation (Recalls fields) →
    P (recalled_as (heard s handle) client correlation (recalling_of (heard s handle) client.number fields))
unfolding recalling_of
recall_fields P s handle bytes client correlation fields cases known asks =
    recalling_cases P s handle bytes client correlation fields cases known
    (λ target is. cases.destination_removal client correlation fields target known asks is) (denotes fields.channel) refl

termination_cases : (P : Draft → Type 0) (s : State) (handle : ℕ) (bytes : List ℕ) (client : Client) (correlation : ℕ)
    (fields : TerminateDriver) → Cases P s handle bytes → is_heard s handle bytes ≡ true →
    Asks s handle bytes client correlation (Terminates fields) → P (terminate (heard s handle) client correlation)
termination_cases P s handle bytes client correlation fields cases known asks =
    terminate_cases P (heard s handle) client correlation
    (cases.termination client correlation fields known asks)
    (cases.denial client correlation Terminate ipc_shape (pos 0) known asks.attached
    (inr (inr (inl (record { client = client; fields = fields; asks = asks; question_is = refl })))))

-- the bytes ask for what their body says
asks_for : (s : State) (handle : ℕ) (bytes : List ℕ) (client : Client) (read : Read) (body : Body) →
    command_of bytes ≡ Ok read → read.client ≡ handle → client_at s.clients.rows handle ≡ Some client →
    read.body ≡ body → Asks s handle bytes client read.correlation body
asks_for s handle bytes client read body is own found same =
    record { command = is ∙ ap Ok (whole read handle body own same); attached = found }

body_cases : (P : Draft → Type 0) (s : State) (handle : ℕ) (bytes : List ℕ) (client : Client) (read : Read) →
    Cases P s handle bytes → is_heard s handle bytes ≡ true → command_of bytes ≡ Ok read → read.client ≡ handle →
    client_at s.clients.rows handle ≡ Some client → (body : Body) → read.body ≡ body →
    P (body_change (heard s handle) client read.correlation body)
unfolding add_subscription add_publication add_destination directing_of remove_destination
body_cases P s handle bytes client read cases known is own found (Publishes fields) same =
    publication_cases P s handle bytes client read.correlation fields false cases known
    (asks_for s handle bytes client read (Publishes fields) is own found same) (denotes fields.channel) refl
body_cases P s handle bytes client read cases known is own found (PublishesExclusively fields) same =
    publication_cases P s handle bytes client read.correlation fields true cases known
    (asks_for s handle bytes client read (PublishesExclusively fields) is own found same) (denotes fields.channel) refl
body_cases P s handle bytes client read cases known is own found (Unpublishes fields) same =
    remove_publication_cases P (heard s handle) client read.correlation fields
    (cases.publication_removal client read.correlation fields known
    (asks_for s handle bytes client read (Unpublishes fields) is own found same))
    (cases.refusal [] client read.correlation UnknownPublication tt known)
body_cases P s handle bytes client read cases known is own found (Adds fields) same =
    channel_cases P s handle bytes client read.correlation fields cases known
    (is ∙ ap Ok (whole read handle (Adds fields) own same)) found (denotes fields.channel) refl
body_cases P s handle bytes client read cases known is own found (Removes fields) same =
    remove_cases P (heard s handle) client read.correlation fields
    (λ there.
    cases.removal (record { client = client; correlation = read.correlation; fields = fields }) known
    (record { command = is ∙ ap Ok (whole read handle (Removes fields) own same); attached = found }))
    (λ unknown. cases.refusal [] client read.correlation UnknownSubscription tt known)
body_cases P s handle bytes client read cases known is own found Keeps same = cases.keepalive known
body_cases P s handle bytes client read cases known is own found (Directs fields) same =
    directing_cases P s handle bytes client read.correlation fields cases known
    (asks_for s handle bytes client read (Directs fields) is own found same) (denotes fields.channel) refl
body_cases P s handle bytes client read cases known is own found (Recalls fields) same =
    recall_fields P s handle bytes client read.correlation fields cases known
    (asks_for s handle bytes client read (Recalls fields) is own found same)
body_cases P s handle bytes client read cases known is own found (AddsCounter fields) same =
    counter_cases P s handle bytes client read.correlation fields cases known
    (asks_for s handle bytes client read (AddsCounter fields) is own found same)
body_cases P s handle bytes client read cases known is own found (RemovesCounter fields) same =
    remove_counter_cases P (heard s handle) client read.correlation fields
    (cases.counter_removal client read.correlation fields known
    (asks_for s handle bytes client read (RemovesCounter fields) is own found same))
    (cases.refusal [] client read.correlation UnknownCounter tt known)
body_cases P s handle bytes client read cases known is own found Closes same =
    cases.closing client read.correlation known (asks_for s handle bytes client read Closes is own found same)
body_cases P s handle bytes client read cases known is own found (Terminates fields) same =
    termination_cases P s handle bytes client read.correlation fields cases known
    (asks_for s handle bytes client read (Terminates fields) is own found same)
body_cases P s handle bytes client read cases known is own found (Sets fields) same =
    set_counter_cases P (heard s handle) client read.correlation fields
    (cases.value client read.correlation fields known
    (asks_for s handle bytes client read (Sets fields) is own found same))
    (cases.refusal [] client read.correlation UnknownCounter tt known)

-- ---- any bytes

found_cases : (P : Draft → Type 0) (s : State) (handle : ℕ) (bytes : List ℕ) (read : Read) → Cases P s handle bytes →
    command_of bytes ≡ Ok read → (read.client == handle) ≡ true → (found : Option Client) →
    client_at s.clients.rows handle ≡ found → P (asked_by s handle read found)
unfolding requested
found_cases P s handle bytes read cases is own None found =
    cases.unheard read.correlation WrongClient tt (rw (is, own, found) refl)
found_cases P s handle bytes read cases is own (Some client) found =
    body_cases P s handle bytes client read cases (rw (is, own, found) refl) is (eqb-true read.client handle own) found
    read.body refl

read_cases : (P : Draft → Type 0) (s : State) (handle : ℕ) (bytes : List ℕ) → Cases P s handle bytes →
    (read : Result Read CommandFault) → command_of bytes ≡ read → P (command_from s handle bytes read)
unfolding asked
read_cases P s handle bytes cases (Err fault) is =
    cases.unheard (correlation_of bytes) (refusal_for fault) (plain_fault fault) (rw is refl)
read_cases P s handle bytes cases (Ok read) is =
    cond_both (read.client == handle)
    (asked_by s handle read (client_at s.clients.rows handle))
    (refused s [] handle read.correlation WrongClient)
    P
    (λ own. found_cases P s handle bytes read cases is own (client_at s.clients.rows handle) refl)
    (λ other. cases.unheard read.correlation WrongClient tt (rw (is, other) refl))

pub command_cases : (P : Draft → Type 0) (s : State) (now handle : ℕ) (bytes : List ℕ) (inputs : Inputs) →
    Cases P (at_moment s now) handle bytes → P (drafted s (Command now handle bytes) inputs)
unfolding drafted command
command_cases P s now handle bytes inputs cases =
    read_cases P (at_moment s now) handle bytes cases (command_of bytes) refl

-- ---- a policy that is put in force

pub reload_cases : (P : Draft → Type 0) (s : State) (policy : Rules) →
    (has_room_for_policy s policy ≡ true → P (reloaded s policy)) →
    (has_room_for_policy s policy ≡ false → P (answered s response.PolicyFull)) → P (reload s policy)
unfolding reload
reload_cases P s policy done full = cond_both (has_room_for_policy s policy) _ _ P done full

-- ---- a client that comes

pub attach_cases : (P : Draft → Type 0) (s : State) (principal : ℕ) → P (answered s response.Stopped) →
    P (attached s principal) → P (answered s response.Full) → P (attach s principal)
unfolding attach
attach_cases P s principal stopped done full =
    cond_both s.stopped _ _ P (λ e. stopped)
    (λ e. cond_both (has_room s.clients) _ _ P (λ e'. done) (λ e'. full))

-- ---- a SETUP

setting_cases : (P : Draft → Type 0) (s : State) (wanted : ImageWanted) →
    ((fault : SetupFault) → P (answered s (response.Dropped fault))) →
    ((place : ℕ) → setting_of s wanted ≡ Ok place → P (image_made s wanted place)) → (found : Result ℕ SetupFault) →
    setting_of s wanted ≡ found → P (set_by s wanted found)
setting_cases P s wanted dropped made (Err fault) is = dropped fault
setting_cases P s wanted dropped made (Ok place) is = made place is

joining_cases : (P : Draft → Type 0) (s : State) (local from : Address) (setup : Setup) →
    ((fault : SetupFault) → P (answered s (response.Dropped fault))) →
    ((join : Join) (place : ℕ) → join_of setup ≡ Some join →
    setting_of s (image_wanted_by local from setup join) ≡ Ok place →
    P (image_made s (image_wanted_by local from setup join) place)) → (found : Option Join) → join_of setup ≡ found →
    P (set_up_by s local from setup found)
joining_cases P s local from setup dropped made None is = dropped BadSetup
joining_cases P s local from setup dropped made (Some join) is =
    let wanted = image_wanted_by local from setup join in
    setting_cases P s wanted dropped (λ place set. made join place is set) (setting_of s wanted) refl

pub set_up_cases : (P : Draft → Type 0) (s : State) (local from : Address) (setup : Setup) →
    ((fault : SetupFault) → P (answered s (response.Dropped fault))) →
    ((join : Join) (place : ℕ) → join_of setup ≡ Some join →
    setting_of s (image_wanted_by local from setup join) ≡ Ok place →
    P (image_made s (image_wanted_by local from setup join) place)) → P (set_up s local from setup)
unfolding set_up
set_up_cases P s local from setup dropped made = joining_cases P s local from setup dropped made (join_of setup) refl
