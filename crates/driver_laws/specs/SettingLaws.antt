-- Over every list of events: SETUPs make images as the policy in force says, and are dropped otherwise.
use Rattle.std.specs.Prelude.{◌≡◌, ℕ, ◌+◌, ◌<◌, ◌≤◌, true, false, length, filter, Contains, Some, None, Result, Ok, Err}
use Rattle.driver_core.specs.Change.{Change}
use Rattle.driver_core.specs.declared.state.event.Event.TheVariants.{Setup}
use Rattle.driver_core.specs.declared.state.event.Inputs.{Inputs}
use Rattle.driver_core.specs.declared.state.outcome.Response.TheVariants.{Dropped, Imaged}
use Rattle.driver_core.specs.declared.state.setup_fault.SetupFault.{SetupFault}
use Rattle.driver_core.specs.declared.state.setup_fault.SetupFault.TheVariants.{BadSetup, Exists, NoSubscription, Denied, Full, NoRoom}
use Rattle.driver_core.specs.Conduct.{conduct}
use Rattle.driver_core.specs.Pairs.{prospects_of}
use Rattle.driver_core.specs.Renewal.{images_decided, images_told}
use Rattle.driver_core.specs.SettingUp.{is_from, new_image, setting_of, wanted_by, with_image}
use Rattle.driver_core.specs.State.{State, at_moment, ruled}
use Rattle.driver_core.specs.Unread.{without_unread}
use Rattle.driver_core.specs.Verdicts.{IsByPolicy, verdict_on}
use Rattle.driver_laws.specs.Acts.{image_question}
use Rattle.driver_laws.specs.Events.{AfterAnyEvents}
use Rattle.driver_laws.specs.Turning.{TurnsTo}
use Rattle.driver_laws.specs.LimitLaws.{IsLeft}
use Rattle.channel_uri.specs.declared.address.Address.{Address}
use Rattle.client_registry.specs.Clients.{principal_at}
use Rattle.frame_codec.specs.declared.join.Join.{Join}
use Rattle.frame_codec.specs.declared.setup.Setup.{Setup as SetupFrame}
use Rattle.frame_codec.specs.Join.{join_of}
use Rattle.policy_core.specs.declared.verdict.Verdict.{Verdict}
use Rattle.stream_registry.specs.declared.row.LogRow.{LogRow}
use Rattle.stream_registry.specs.declared.row.Subscription.{Subscription}
use Rattle.stream_registry.specs.declared.wanted.ImageWanted.{ImageWanted}
use Rattle.stream_registry.specs.Images.{is_image_at}
use Rattle.stream_registry.specs.LogPages.{pages_of}
use Rattle.stream_registry.specs.Origins.{is_remote}
use Rattle.stream_registry.specs.PageLaws.{IsVacant}
use Rattle.stream_registry.specs.Pairs.{fits}

-- ---- what may hold of a SETUP

-- an image of that endpoint, session and stream is live
pub record IsThere (s : State) (wanted : ImageWanted) : Type 0 where
  pub image : LogRow
  pub is_live : Contains s.streams.sources image
  pub is_of_it : is_image_at wanted.channel wanted.session wanted.stream image ≡ true

-- none is
abbrev pub IsNew : State → ImageWanted → Type 0
IsNew s wanted =
    (log : LogRow) → Contains s.streams.sources log →
    is_image_at wanted.channel wanted.session wanted.stream log ≡ false

-- the image fits no subscription
abbrev pub FitsNone : State → ℕ → ImageWanted → Type 0
FitsNone s now wanted =
    (subscription : Subscription) → Contains s.streams.subscriptions subscription →
    fits (new_image (at_moment s now) wanted) subscription ≡ false

-- a subscription that the image fits, where the policy in force allows the image to its client, by the first rule that
-- matches or the default
pub record IsAllowedToOne (s : State) (now : ℕ) (wanted : ImageWanted) : Type 0 where
  pub subscription : Subscription
  pub principal : ℕ
  pub stands : Contains s.streams.subscriptions subscription
  pub fitting : fits (new_image (at_moment s now) wanted) subscription ≡ true
  pub attached : principal_at s.clients.rows subscription.client ≡ Some principal
  pub by : IsByPolicy s (image_question principal subscription) (verdict_on s (image_question principal subscription))
  pub allowed : (verdict_on s (image_question principal subscription)).allow ≡ true

-- the verdict is that for the subscription of the lowest number that the image fits, and it is denied to each
pub record IsDeniedToAll (s : State) (now : ℕ) (wanted : ImageWanted) (verdict : Verdict) : Type 0 where
  pub first : Subscription
  pub principal : ℕ
  pub stands : Contains s.streams.subscriptions first
  pub fitting : fits (new_image (at_moment s now) wanted) first ≡ true
  pub lowest :
      (other : Subscription) → Contains s.streams.subscriptions other →
      fits (new_image (at_moment s now) wanted) other ≡ true → first.number ≤ other.number
  pub attached : principal_at s.clients.rows first.client ≡ Some principal
  pub by : IsByPolicy s (image_question principal first) verdict
  pub verdict_is : verdict ≡ verdict_on s (image_question principal first)
  pub denies :
      (other : Subscription) (of : ℕ) → Contains s.streams.subscriptions other →
      fits (new_image (at_moment s now) wanted) other ≡ true → principal_at s.clients.rows other.client ≡ Some of →
      (verdict_on s (image_question of other)).allow ≡ false

-- there are fewer than 512 images, and fewer of its source address than the settings say, a number is left, and at most 4,096
-- pairs would be there with it, at this moment or a later one
pub record HasRoom (s : State) (now : ℕ) (wanted : ImageWanted) : Type 0 where
  pub images : length (filter is_remote s.streams.sources) < 512
  pub source : length (filter (is_from wanted.address) s.streams.sources) < s.settings.images_per_source
  pub number : IsLeft s.last_number
  pub pairs : length (prospects_of (with_image (at_moment s now) wanted)) ≤ 4096

-- from that place on its three terms lie in the arena, and have no page of another log
abbrev pub IsVacantFor : State → ImageWanted → ℕ → Type 0
IsVacantFor s wanted place = IsVacant s.streams s.settings.arena_pages (pages_of wanted.measures.term_length) place

-- ---- which comes first

-- the cause by which it is dropped: what comes before this one doesn't hold
abbrev pub IsCause : State → ℕ → ImageWanted → SetupFault → Type 0
IsCause s now wanted BadSetup = ⊥
IsCause s now wanted Exists = IsThere s wanted
IsCause s now wanted NoSubscription = IsNew s wanted × FitsNone s now wanted
IsCause s now wanted (Denied verdict) = IsNew s wanted × IsDeniedToAll s now wanted verdict
IsCause s now wanted Full = IsNew s wanted × (IsAllowedToOne s now wanted × ¬ HasRoom s now wanted)
IsCause s now wanted NoRoom =
    IsNew s wanted
    × (IsAllowedToOne s now wanted × (HasRoom s now wanted × ((place : ℕ) → ¬ IsVacantFor s wanted place)))

-- nothing stands against it, and this is the least place for its log
pub record MayCome (s : State) (now : ℕ) (wanted : ImageWanted) (place : ℕ) : Type 0 where
  pub new : IsNew s wanted
  pub allowed : IsAllowedToOne s now wanted
  pub room : HasRoom s now wanted
  pub vacant : IsVacantFor s wanted place
  pub least : (lower : ℕ) → lower < place → ¬ IsVacantFor s wanted lower

-- what the driver finds of it is so
abbrev pub IsDecided : State → ℕ → ImageWanted → Result ℕ SetupFault → Type 0
IsDecided s now wanted (Ok place) = MayCome s now wanted place
IsDecided s now wanted (Err fault) = IsCause s now wanted fault

-- ---- what the event comes to

-- its number is reported, its log opens at that place, and it is live after the others, which all stay but for those that the moment
-- leaves unread; what is reported beside that is of the images that come and go with it
pub record IsImaged (before s : State) (now : ℕ) (inputs : Inputs) (wanted : ImageWanted) (place : ℕ) (change : Change) : Type 0 where
  pub after_is : change.after ≡ without_unread (with_image (at_moment s now) wanted)
  pub response : change.outcome.response ≡ Imaged (s.last_number + 1)
  pub opens : change.outcome.opens ≡ Some (record { source = s.last_number + 1; place = place })
  pub placed : (new_image (at_moment s now) wanted).place ≡ place
  pub live : Contains change.after.streams.sources (new_image (at_moment s now) wanted)
  pub allowed : IsAllowedToOne s now wanted
  pub turns : TurnsTo before (with_image (at_moment s now) wanted) change
  pub replies :
      change.outcome.replies
      ≡ images_told (with_image (at_moment s now) wanted) inputs change.outcome.gone change.outcome.come
  pub decisions :
      change.outcome.decisions
      ≡ images_decided (with_image (at_moment s now) wanted) change.outcome.gone change.outcome.come

-- nothing changes but the moment, and what it takes and brings, and nobody but who sent the event is answered anything else
pub record IsDropped (before s : State) (now : ℕ) (inputs : Inputs) (fault : SetupFault) (change : Change) : Type 0 where
  pub after_is : change.after ≡ without_unread (at_moment s now)
  pub response : change.outcome.response ≡ Dropped fault
  pub turns : TurnsTo before s change
  pub replies :
      change.outcome.replies ≡ images_told (at_moment s now) inputs change.outcome.gone change.outcome.come
  pub decisions :
      change.outcome.decisions ≡ images_decided (at_moment s now) change.outcome.gone change.outcome.come
  pub opens : change.outcome.opens ≡ None

-- ---- exactly so

-- A SETUP that no sender may send is dropped. Else the image may come, or there is a cause, and that decides.
pub record IsSetExactly (before s : State) (now : ℕ) (local from : Address) (setup : SetupFrame) (inputs : Inputs) (change : Change) : Type 0 where
  pub bad : join_of setup ≡ None → IsDropped before s now inputs BadSetup change
  pub made :
      (join : Join) (place : ℕ) → join_of setup ≡ Some join →
      MayCome s now (wanted_by local from setup join) place →
      IsImaged before s now inputs (wanted_by local from setup join) place change
  pub dropped :
      (join : Join) (fault : SetupFault) → join_of setup ≡ Some join →
      IsCause s now (wanted_by local from setup join) fault → IsDropped before s now inputs fault change
  pub decided :
      (join : Join) → join_of setup ≡ Some join →
      IsDecided s now (wanted_by local from setup join) (setting_of (at_moment s now) (wanted_by local from setup join))

abbrev pub SetupsAreGrantedExactly : Type 0
SetupsAreGrantedExactly =
    AfterAnyEvents (λ s.
    (now : ℕ) (local from : Address) (setup : SetupFrame) (inputs : Inputs) →
    IsSetExactly s (ruled s now) now local from setup inputs (conduct s (Setup now local from setup) inputs))
