-- Over every list of events: clients are notified of exactly the images that come and go.
use Rattle.std.specs.Prelude.{◌≡◌, ℕ, Bool, true, false, List, [], ◌∷◌, filter, Contains, is_some, ◌⊎◌}
use Rattle.driver_core.specs.Change.{Change}
use Rattle.driver_core.specs.declared.state.event.End.{End}
use Rattle.driver_core.specs.declared.state.event.Event.{Event}
use Rattle.driver_core.specs.declared.state.event.Inputs.{Inputs}
use Rattle.driver_core.specs.declared.state.replies.Message.{Message}
use Rattle.driver_core.specs.declared.state.replies.Reply.{Reply}
use Rattle.driver_core.specs.declared.state.replies.Reply.TheVariants.{AvailableImage, UnavailableImage}
use Rattle.driver_core.specs.Conduct.{conduct}
use Rattle.driver_core.specs.Renewal.{subscription_at}
use Rattle.driver_core.specs.State.{State}
use Rattle.driver_laws.specs.Events.{AfterAnyEvents}
use Rattle.stream_registry.specs.declared.pairs.Pair.{Pair}
use Rattle.stream_registry.specs.declared.row.LogRow.{LogRow}
use Rattle.stream_registry.specs.declared.row.Subscription.{Subscription}
use Rattle.stream_registry.specs.Origins.{begins_at}
use Rattle.driver_core.specs.Identity.{identity_of}
use Rattle.stream_registry.specs.Pairs.{pair_of}

-- ---- which replies speak of images

abbrev pub is_available : Reply → Bool
is_available (AvailableImage source subscription session stream position identity) = true
is_available reply = false

abbrev pub is_unavailable : Reply → Bool
is_unavailable (UnavailableImage source subscription stream) = true
is_unavailable reply = false

abbrev pub tells_available : Message → Bool
tells_available message = is_available message.reply

abbrev pub tells_unavailable : Message → Bool
tells_unavailable message = is_unavailable message.reply

-- ---- what is reported of a pair

-- so far the log of that source reaches, as the event's inputs say, or to where it begins where they do not name it
pub record IsTheEnd (ends : List End) (source position : ℕ) : Type 0 where
  pub end : End
  pub stands : Contains ends end
  pub source_is : end.source ≡ source
  pub position_is : end.position ≡ position

pub record HasNoEnd (ends : List End) (source begin position : ℕ) : Type 0 where
  pub none : (end : End) → Contains ends end → ¬ (end.source ≡ source)
  pub position_is : position ≡ begin

abbrev pub Reaches : List End → ℕ → ℕ → ℕ → Type 0
Reaches ends source begin position = IsTheEnd ends source position ⊎ HasNoEnd ends source begin position

-- the client of the pair's subscription is sent the log's session and stream, how far it reaches, and from where its
-- publisher sends, where that is a remote one
pub record IsToldAvailable (after : State) (ends : List End) (pair : Pair) (message : Message) : Type 0 where
  pub log : LogRow
  pub subscription : Subscription
  pub is_live : Contains after.streams.sources log
  pub stands : Contains after.streams.subscriptions subscription
  pub pair_is : pair ≡ pair_of log subscription
  pub position : ℕ
  pub reaches : Reaches ends pair.source (begins_at log) position
  pub message_is :
      message
      ≡ record {
        client = subscription.client;
        reply = AvailableImage pair.source pair.subscription log.session log.stream position (identity_of log);
      }

-- the client of the pair's subscription is notified that the log is no longer there for it
pub record IsToldUnavailable (after : State) (pair : Pair) (message : Message) : Type 0 where
  pub subscription : Subscription
  pub stands : Contains after.streams.subscriptions subscription
  pub number_is : pair.subscription ≡ subscription.number
  pub message_is :
      message
      ≡ record {
        client = subscription.client;
        reply = UnavailableImage pair.source pair.subscription subscription.stream;
      }

-- ---- exactly these

-- one message for each pair, in their order
abbrev pub OneForEach : (Pair → Message → Type 0) → List Pair → List Message → Type 0
OneForEach Tells [] [] = Unit {0}
OneForEach Tells [] (message ∷ messages) = ⊥
OneForEach Tells (pair ∷ pairs) [] = ⊥
OneForEach Tells (pair ∷ pairs) (message ∷ messages) = Tells pair message × OneForEach Tells pairs messages

-- the pair's subscription is there
abbrev pub is_subscribed : State → Pair → Bool
is_subscribed after pair = is_some (subscription_at after.streams.subscriptions pair.subscription)

-- among all replies: one for each pair that came, and one for each that went but for those whose subscription went too
pub record TellsImagesExactly (inputs : Inputs) (change : Change) : Type 0 where
  pub available :
      OneForEach (IsToldAvailable change.after inputs.ends) change.outcome.come
      (filter tells_available change.outcome.replies)
  pub unavailable :
      OneForEach (IsToldUnavailable change.after) (filter (is_subscribed change.after) change.outcome.gone)
      (filter tells_unavailable change.outcome.replies)

abbrev pub ImagesAreToldExactly : Type 0
ImagesAreToldExactly =
    AfterAnyEvents (λ s. (event : Event) (inputs : Inputs) → TellsImagesExactly inputs (conduct s event inputs))
