-- Over every list of events: publications are granted as the policy in force says, and not otherwise.
use Rattle.std.specs.Prelude.{◌≡◌, ℕ, ◌+◌, ℤ, Bool, true, false, List, ◌∷◌, Contains, Some, Ok, Err, unwrap_or, ◌⊎◌}
use Rattle.std.specs.List.{AllByRecursion}
use Rattle.driver_core.specs.Change.{Change}
use Rattle.driver_core.specs.declared.state.event.Event.{Event}
use Rattle.driver_core.specs.declared.state.event.Event.TheVariants.{Command, Setup}
use Rattle.driver_core.specs.declared.state.event.Inputs.{Inputs}
use Rattle.driver_core.specs.declared.state.refusal.Refusal.TheVariants.{Denied, Full, NoRoom}
use Rattle.driver_core.specs.declared.state.replies.Reply.{Reply}
use Rattle.driver_core.specs.declared.state.replies.Reply.TheVariants.{PublicationReady, ExclusivePublicationReady}
use Rattle.driver_core.specs.Commands.{heard}
use Rattle.driver_core.specs.Conduct.{coming_to, conduct, state_after}
use Rattle.driver_core.specs.Publishing.{has_place, has_room_for_publication, opening_of, place_of_new, ready_for, refused_by_streams, session_of, with_directed_publication}
use Rattle.driver_core.specs.Renewal.{images_told, images_decided}
use Rattle.driver_core.specs.Requests.{PublicationRequest, AsksToPublish, wanted_by}
use Rattle.driver_core.specs.SettingUp.{new_image, setting_of, wanted_by as image_wanted_by}
use Rattle.driver_core.specs.State.{State, at_moment, ruled}
use Rattle.driver_core.specs.Unread.{without_unread}
use Rattle.driver_core.specs.Verdicts.{IsByPolicy, verdict_on}
use Rattle.driver_laws.specs.Acts.{publication_question}
use Rattle.driver_laws.specs.ClosingLaws.{IsSameLog}
use Rattle.driver_laws.specs.Events.{AfterAnyEvents}
use Rattle.driver_laws.specs.Turning.{TurnsTo}
use Rattle.driver_laws.specs.GrantLaws.{IsRefusedOn, decided_on}
use Rattle.channel_uri.specs.declared.address.Address.{Address}
use Rattle.frame_codec.specs.declared.join.Join.{Join as JoinedAt}
use Rattle.frame_codec.specs.declared.setup.Setup.{Setup as SetupFrame}
use Rattle.frame_codec.specs.Join.{join_of}
use Rattle.stream_registry.specs.declared.fault.StreamFault.{StreamFault}
use Rattle.stream_registry.specs.declared.row.LogRow.{LogRow}
use Rattle.stream_registry.specs.declared.row.Registration.{Registration}
use Rattle.stream_registry.specs.declared.wanted.Adding.{Adding}
use Rattle.stream_registry.specs.declared.wanted.Adding.TheVariants.{Join, Make}
use Rattle.stream_registry.specs.Adding.{adding_of, log_of, registration_of}
use Rattle.stream_registry.specs.Origins.{is_remote}
use Rattle.stream_registry.specs.Streams.{Streams}

-- the policy in force allows it
abbrev pub IsAllowed : State → PublicationRequest → Type 0
IsAllowed s request = (verdict_on s (publication_question request)).allow ≡ true

-- the registry with the client registered under the next number with the log that it joins or that is made for it, which has its
-- one destination if its channel names one
abbrev pub published_at : State → ℕ → ℕ → PublicationRequest → Adding → State
published_at s now handle request adding =
    with_directed_publication (heard (at_moment s now) handle) request.client (wanted_by request) adding

-- it is so, but for images that none reads any more; the client's own reply names the two, before those of the images that come
-- and go with it
pub record IsPublished (before s : State) (now handle : ℕ) (inputs : Inputs) (request : PublicationRequest) (adding : Adding) (change : Change) : Type 0 where
  pub after_is : change.after ≡ without_unread (published_at s now handle request adding)
  pub turns : TurnsTo before (published_at s now handle request adding) change
  pub told :
      change.outcome.replies
      ≡ record {
        client = handle;
        reply = ready_for (wanted_by request) request.correlation (s.last_number + 1) (session_of adding);
      }
      ∷ images_told (published_at s now handle request adding) inputs change.outcome.gone change.outcome.come
  pub decided :
      change.outcome.decisions
      ≡ decided_on s (publication_question request)
      ∷ images_decided (published_at s now handle request adding) change.outcome.gone change.outcome.come
  pub opens : change.outcome.opens ≡ opening_of s (wanted_by request) adding

-- the verdict decides, which is the first matching rule's or the default's; then what is there, the limits, and the room
-- for a log
pub record IsPublishedExactly (before s : State) (now handle : ℕ) (inputs : Inputs) (request : PublicationRequest) (change : Change) : Type 0 where
  pub by : IsByPolicy s (publication_question request) (verdict_on s (publication_question request))
  pub granted :
      (adding : Adding) → IsAllowed s request → adding_of s.streams (wanted_by request) ≡ Ok adding →
      has_room_for_publication s handle (wanted_by request) adding ≡ true → has_place s (wanted_by request) adding ≡ true →
      IsPublished before s now handle inputs request adding change
  pub refused :
      (fault : StreamFault) → IsAllowed s request → adding_of s.streams (wanted_by request) ≡ Err fault →
      IsRefusedOn before s now handle request.correlation inputs (publication_question request) (refused_by_streams fault) change
  pub full :
      (adding : Adding) → IsAllowed s request → adding_of s.streams (wanted_by request) ≡ Ok adding →
      has_room_for_publication s handle (wanted_by request) adding ≡ false →
      IsRefusedOn before s now handle request.correlation inputs (publication_question request) Full change
  pub no_room :
      (adding : Adding) → IsAllowed s request → adding_of s.streams (wanted_by request) ≡ Ok adding →
      has_room_for_publication s handle (wanted_by request) adding ≡ true → has_place s (wanted_by request) adding ≡ false →
      IsRefusedOn before s now handle request.correlation inputs (publication_question request) NoRoom change
  pub denied :
      (verdict_on s (publication_question request)).allow ≡ false →
      IsRefusedOn before s now handle request.correlation inputs (publication_question request)
      (Denied (verdict_on s (publication_question request))) change

abbrev pub PublicationsAreGrantedExactly : Type 0
PublicationsAreGrantedExactly =
    AfterAnyEvents (λ s.
    (now handle : ℕ) (bytes : List ℕ) (inputs : Inputs) (request : PublicationRequest) →
    AsksToPublish s handle bytes request →
    IsPublishedExactly s (ruled s now) now handle inputs request (conduct s (Command now handle bytes) inputs))

-- ---- granted only

-- the source number of the log that it joins, or of the one that is made
abbrev pub source_of : State → Adding → ℕ
source_of s (Join source session) = source
source_of s (Make session) = s.last_number + 1

-- the event is a request that the policy in force allows while there is room and a place for a log, and makes this
-- registration
pub record IsRegisteredBy (s : State) (event : Event) (registration : Registration) : Type 0 where
  pub moment : ℕ
  pub bytes : List ℕ
  pub request : PublicationRequest
  pub adding : Adding
  pub event_is : event ≡ Command moment registration.client bytes
  pub asks : AsksToPublish s registration.client bytes request
  pub by : IsByPolicy s (publication_question request) (verdict_on s (publication_question request))
  pub allowed : IsAllowed s request
  pub adding_is : adding_of s.streams (wanted_by request) ≡ Ok adding
  pub room : has_room_for_publication s registration.client (wanted_by request) adding ≡ true
  pub placed : has_place s (wanted_by request) adding ≡ true
  pub made_is :
      registration ≡ registration_of (s.last_number + 1) registration.client (wanted_by request) (source_of s adding)

-- the log was live before, but for the moment since when it lingers
pub record WasLive (streams : Streams) (log : LogRow) : Type 0 where
  pub before : LogRow
  pub stood : Contains streams.sources before
  pub same : IsSameLog log before

-- the event is such a request, joins no log, and makes this one
pub record IsLogMadeBy (s : State) (event : Event) (log : LogRow) : Type 0 where
  pub registration : Registration
  pub registered : IsRegisteredBy s event registration
  pub session : ℤ
  pub makes : registered.adding ≡ Make session
  pub made_is :
      log
      ≡ log_of s.streams (s.last_number + 1) (wanted_by registered.request)
      (unwrap_or (place_of_new s (wanted_by registered.request)) 0) session

-- the event is a SETUP that fits some subscription which the policy in force allows to read it, while there is room and a
-- place for its log, and makes this image
pub record IsImageMadeBy (s : State) (event : Event) (log : LogRow) : Type 0 where
  pub now : ℕ
  pub local : Address
  pub from : Address
  pub setup : SetupFrame
  pub join : JoinedAt
  pub place : ℕ
  pub event_is : event ≡ Setup now local from setup
  pub join_is : join_of setup ≡ Some join
  pub set : setting_of (at_moment s now) (image_wanted_by local from setup join) ≡ Ok place
  pub log_is : log ≡ new_image (at_moment s now) (image_wanted_by local from setup join)

-- what is reported names a registration that the event made, and that stands, with its log's session and stream
pub record IsReadyBy (s : State) (event : Event) (after : State) (client correlation number : ℕ) (session stream : ℤ) (exclusive : Bool) : Type 0 where
  pub made : Registration
  pub registered : IsRegisteredBy s event made
  pub stands : Contains after.streams.registrations made
  pub client_is : client ≡ made.client
  pub number_is : number ≡ made.number
  pub correlation_is : correlation ≡ registered.request.correlation
  pub session_is : session ≡ session_of registered.adding
  pub stream_is : stream ≡ registered.request.fields.stream
  pub exclusive_is : exclusive ≡ registered.request.exclusive

abbrev pub IsPublicationTold : State → Event → State → ℕ → Reply → Type 0
IsPublicationTold s event after client (PublicationReady correlation number session stream) =
    IsReadyBy s event after client correlation number session stream false
IsPublicationTold s event after client (ExclusivePublicationReady correlation number session stream) =
    IsReadyBy s event after client correlation number session stream true
IsPublicationTold s event after client reply = Unit {0}

-- registrations and logs come, and are reported, only by such a request, and images by such a SETUP
pub record PublishesOnly (s : State) (event : Event) (change : Change) : Type 0 where
  pub registrations :
      (registration : Registration) → Contains change.after.streams.registrations registration →
      Contains s.streams.registrations registration ⊎ IsRegisteredBy s event registration
  pub logs :
      (log : LogRow) → Contains change.after.streams.sources log →
      WasLive s.streams log ⊎ (IsLogMadeBy s event log ⊎ IsImageMadeBy s event log)
  pub told :
      AllByRecursion (λ message. IsPublicationTold s event change.after message.client message.reply)
      change.outcome.replies

abbrev pub PublicationsAreGrantedOnly : Type 0
PublicationsAreGrantedOnly =
    AfterAnyEvents (λ s. (event : Event) (inputs : Inputs) → PublishesOnly (coming_to s event) event (conduct s event inputs))

-- ---- images

-- an image after an event was live before it, or is made by it
abbrev pub ImagesComeBySetups : Type 0
ImagesComeBySetups =
    AfterAnyEvents (λ s.
    (event : Event) (inputs : Inputs) (log : LogRow) → Contains (state_after s event inputs).streams.sources log →
    is_remote log ≡ true → WasLive s.streams log ⊎ IsImageMadeBy (coming_to s event) event log)
