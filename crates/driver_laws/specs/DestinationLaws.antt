-- Over every list of events: destinations are named as the policy in force says, each of a live publication.
use Rattle.std.specs.Prelude.{◌≡◌, ℕ, ◌+◌, ◌<◌, ◌≤◌, ℤ, true, false, List, ◌∷◌, Contains, length, Some, ◌⊎◌}
use Rattle.driver_core.specs.Change.{Change}
use Rattle.driver_core.specs.declared.state.event.Event.{Event}
use Rattle.driver_core.specs.declared.state.event.Event.TheVariants.{Command}
use Rattle.driver_core.specs.declared.state.event.Inputs.{Inputs}
use Rattle.driver_core.specs.declared.state.refusal.Refusal.TheVariants.{Conflict, Denied, Full}
use Rattle.driver_core.specs.declared.state.replies.Reply.TheVariants.{OperationSuccess}
use Rattle.driver_core.specs.Commands.{heard}
use Rattle.driver_core.specs.Conduct.{coming_to, conduct, state_after, state_of}
use Rattle.driver_core.specs.Renewal.{images_decided, images_told}
use Rattle.driver_core.specs.Requests.{AsksToDirect, DestinationRequest, PublicationRequest}
use Rattle.driver_core.specs.State.{State, at_moment, ruled}
use Rattle.driver_core.specs.Unread.{without_unread}
use Rattle.driver_core.specs.Verdicts.{IsByPolicy, verdict_on}
use Rattle.driver_laws.specs.Acts.{destination_question}
use Rattle.driver_laws.specs.Events.{AfterAnyEvents}
use Rattle.driver_laws.specs.Turning.{TurnsTo}
use Rattle.driver_laws.specs.GrantLaws.{IsRefusedOn, decided_on}
use Rattle.driver_laws.specs.PublishingLaws.{IsRegisteredBy}
use Rattle.channel_uri.specs.declared.address.Address.{Address}
use Rattle.channel_uri.specs.Address.{address_of}
use Rattle.channel_uri.specs.Channel.{Shape}
use Rattle.channel_uri.specs.Place.{AtControl, AtEndpoint, spot_of}
use Rattle.destinations.specs.declared.destination.Destination.{Destination}
use Rattle.destinations.specs.Destinations.{DestinationList, added, has, has_room}
use Rattle.destinations.specs.Laws.{IsOrderly}
use Rattle.stream_registry.specs.declared.row.Registration.{Registration}
use Rattle.stream_registry.specs.declared.row.LogRow.{LogRow}
use Rattle.stream_registry.specs.declared.wanted.Adding.TheVariants.{Make}
use Rattle.stream_registry.specs.Origins.{is_published}

-- ---- granted exactly

-- the policy in force allows it, the act being that of a destination, the channel the destination's and the stream the
-- publication's
abbrev pub IsAllowed : State → DestinationRequest → Type 0
IsAllowed s request = (verdict_on s (destination_question request)).allow ≡ true

-- the registry with the address for the publication under the next number of the destinations, named by the channel of the command
-- for the principal for whom the client acts
abbrev pub directed_at : State → ℕ → ℕ → DestinationRequest → State
directed_at s now handle request = record (heard (at_moment s now) handle) {
  destinations =
      added s.destinations request.target.source request.target.address request.client.principal request.channel;
}

-- it is there, and the event's own reply is that it is so; all else stays but for the moments, and what the moment takes and brings
pub record IsDirected (before s : State) (now handle : ℕ) (inputs : Inputs) (request : DestinationRequest) (change : Change) : Type 0 where
  pub after_is : change.after ≡ without_unread (directed_at s now handle request)
  pub turns : TurnsTo before s change
  pub told :
      change.outcome.replies
      ≡ record { client = handle; reply = OperationSuccess request.correlation }
      ∷ images_told (directed_at s now handle request) inputs change.outcome.gone change.outcome.come
  pub decided :
      change.outcome.decisions
      ≡ decided_on s (destination_question request)
      ∷ images_decided (directed_at s now handle request) change.outcome.gone change.outcome.come

-- The verdict decides, which is the first matching rule's or the default's. Then the publication's destinations are to be
-- named by hand, the address is not to be there yet, and there is to be room for it: the publication has fewer than 32, all
-- have fewer than 8,192, and a number is left.
pub record IsDirectedExactly (before s : State) (now handle : ℕ) (inputs : Inputs) (request : DestinationRequest) (change : Change) : Type 0 where
  pub by : IsByPolicy s (destination_question request) (verdict_on s (destination_question request))
  pub granted :
      IsAllowed s request → request.target.manual ≡ true →
      has s.destinations.rows request.target.source request.target.address ≡ false →
      has_room s.destinations request.target.source ≡ true → IsDirected before s now handle inputs request change
  pub not_by_hand :
      IsAllowed s request → request.target.manual ≡ false →
      IsRefusedOn before s now handle request.correlation inputs (destination_question request) Conflict change
  pub known :
      IsAllowed s request → request.target.manual ≡ true →
      has s.destinations.rows request.target.source request.target.address ≡ true →
      IsRefusedOn before s now handle request.correlation inputs (destination_question request) Conflict change
  pub full :
      IsAllowed s request → request.target.manual ≡ true →
      has s.destinations.rows request.target.source request.target.address ≡ false →
      has_room s.destinations request.target.source ≡ false →
      IsRefusedOn before s now handle request.correlation inputs (destination_question request) Full change
  pub denied :
      (verdict_on s (destination_question request)).allow ≡ false →
      IsRefusedOn before s now handle request.correlation inputs (destination_question request)
      (Denied (verdict_on s (destination_question request))) change

abbrev pub DestinationsAreGrantedExactly : Type 0
DestinationsAreGrantedExactly =
    AfterAnyEvents (λ s.
    (now handle : ℕ) (bytes : List ℕ) (inputs : Inputs) (request : DestinationRequest) →
    AsksToDirect s handle bytes request →
    IsDirectedExactly s (ruled s now) now handle inputs request (conduct s (Command now handle bytes) inputs))

-- ---- of live publications

-- a publication of that number is live
pub record HasPublication (logs : List LogRow) (source : ℕ) : Type 0 where
  pub log : LogRow
  pub stands : Contains logs log
  pub source_is : log.number ≡ source
  pub published : is_published log ≡ true

-- each is of a live publication; their numbers rise, so that no two are alike and none is above the one drawn last; no
-- publication has more than 32 or an address twice, and all have no more than 8,192
pub record AreOfLive (destinations : DestinationList) (logs : List LogRow) : Type 0 where
  pub live :
      (destination : Destination) → Contains destinations.rows destination → HasPublication logs destination.source
  pub orderly : IsOrderly destinations
  pub all : length destinations.rows ≤ 8192

-- the number drawn last never falls, and a destination that was not there before has a number above the last of then
pub record ComeAbove (before after : DestinationList) : Type 0 where
  pub last : before.last ≤ after.last
  pub comes :
      (destination : Destination) → Contains after.rows destination →
      Contains before.rows destination ⊎ (before.last < destination.number)

-- so it is in every registry, whatever happens later: no number of a destination is drawn twice
pub record AreLawful (s : State) : Type 0 where
  pub of_live : AreOfLive s.destinations s.streams.sources
  pub never_again : (later : List (Event × Inputs)) → ComeAbove s.destinations (state_of s later).destinations

abbrev pub DestinationsAreOfLivePublications : Type 0
DestinationsAreOfLivePublications = AfterAnyEvents AreLawful

-- ---- granted only

-- the row under the next number of destinations
abbrev pub row_next : State → ℕ → Address → ℕ → Shape → Destination
row_next s source address principal channel = record {
  number = s.destinations.last + 1;
  source = source;
  address = address;
  principal = principal;
  channel = channel;
}

-- The event is a request to direct a publication of the client's own there, which the policy in force allows, while its
-- destinations are named by hand, the address is new and there is room; the row is for the principal for whom that
-- client acts, with the channel of the command.
pub record IsNamedBy (s : State) (event : Event) (destination : Destination) : Type 0 where
  pub moment : ℕ
  pub handle : ℕ
  pub bytes : List ℕ
  pub request : DestinationRequest
  pub event_is : event ≡ Command moment handle bytes
  pub asks : AsksToDirect s handle bytes request
  pub by : IsByPolicy s (destination_question request) (verdict_on s (destination_question request))
  pub allowed : IsAllowed s request
  pub by_hand : request.target.manual ≡ true
  pub new : has s.destinations.rows request.target.source request.target.address ≡ false
  pub room : has_room s.destinations request.target.source ≡ true
  pub made_is :
      destination
      ≡ row_next s request.target.source request.target.address request.client.principal request.channel

-- the channel names that one address: an endpoint, or the address at which destinations make themselves known
pub record IsEndpoint (request : PublicationRequest) (address : Address) : Type 0 where
  pub text : List ℕ
  pub spot_is : (spot_of request.channel ≡ Some (AtEndpoint text)) ⊎ (spot_of request.channel ≡ Some (AtControl text))
  pub address_is : address_of text ≡ Some address

-- The event is a request for a publication that is granted, and makes a log for an endpoint: the row is the one destination of
-- that log, for the principal of the client that asks, who is the first to be registered with it, with the channel of the
-- publication.
pub record IsSoleBy (s : State) (event : Event) (destination : Destination) : Type 0 where
  pub registration : Registration
  pub registered : IsRegisteredBy s event registration
  pub session : ℤ
  pub makes : registered.adding ≡ Make session
  pub address : Address
  pub endpoint : IsEndpoint registered.request address
  pub made_is :
      destination
      ≡ row_next s (s.last_number + 1) address registered.request.client.principal registered.request.channel

-- a destination after an event was there before it, or is named by it, or is the one of a log that it makes
abbrev pub DestinationsAreGrantedOnly : Type 0
DestinationsAreGrantedOnly =
    AfterAnyEvents (λ s.
    (event : Event) (inputs : Inputs) (destination : Destination) →
    Contains (state_after s event inputs).destinations.rows destination →
    Contains s.destinations.rows destination
    ⊎ (IsNamedBy (coming_to s event) event destination ⊎ IsSoleBy (coming_to s event) event destination))

-- and a log that an event makes for an endpoint has that one destination
abbrev pub EndpointsAreSentTo : Type 0
EndpointsAreSentTo =
    AfterAnyEvents (λ s.
    (event : Event) (inputs : Inputs) (registration : Registration) (registered : IsRegisteredBy (coming_to s event) event registration)
    (session : ℤ) (address : Address) → registered.adding ≡ Make session → IsEndpoint registered.request address →
    Contains (state_after s event inputs).destinations.rows
    (row_next s (s.last_number + 1) address registered.request.client.principal registered.request.channel))
