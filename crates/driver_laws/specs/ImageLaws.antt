-- Over every list of events: which subscription reads which log.
use Rattle.std.specs.Prelude.{◌≡◌, ℕ, true, Contains, Some}
use Rattle.driver_core.specs.declared.state.event.Event.{Event}
use Rattle.driver_core.specs.declared.state.event.Inputs.{Inputs}
use Rattle.driver_core.specs.Conduct.{conduct}
use Rattle.driver_core.specs.Pairs.{pairs_of}
use Rattle.driver_core.specs.Renewal.{gone_from, come_to}
use Rattle.driver_core.specs.State.{State}
use Rattle.driver_core.specs.Unread.{are_all_read}
use Rattle.driver_core.specs.Verdicts.{IsByPolicy, verdict_on}
use Rattle.driver_laws.specs.Acts.{image_question}
use Rattle.driver_laws.specs.Events.{AfterAnyEvents}
use Rattle.client_registry.specs.Clients.{principal_at}
use Rattle.log_readers.specs.Unread.{is_kept}
use Rattle.stream_registry.specs.declared.pairs.Pair.{Pair}
use Rattle.stream_registry.specs.declared.row.LogRow.{LogRow}
use Rattle.stream_registry.specs.declared.row.Subscription.{Subscription}
use Rattle.stream_registry.specs.Pairs.{fits, pair_of}

-- a live log and a subscription that fit, where the policy in force allows the image to the subscription's client, by the
-- first rule that matches or the default
pub record IsReadBy (s : State) (log : LogRow) (subscription : Subscription) : Type 0 where
  pub principal : ℕ
  pub is_live : Contains s.streams.sources log
  pub stands : Contains s.streams.subscriptions subscription
  pub fitting : fits log subscription ≡ true
  pub attached : principal_at s.clients.rows subscription.client ≡ Some principal
  pub by : IsByPolicy s (image_question principal subscription) (verdict_on s (image_question principal subscription))
  pub allowed : (verdict_on s (image_question principal subscription)).allow ≡ true

-- a pair is of such a log and such a subscription
pub record IsOfReader (s : State) (pair : Pair) : Type 0 where
  pub log : LogRow
  pub subscription : Subscription
  pub pair_is : pair ≡ pair_of log subscription
  pub reads : IsReadBy s log subscription

-- exactly these are the pairs; what an event takes away and brings is what they lose and gain by it
pub record PairsExactly (s : State) : Type 0 where
  pub only : (pair : Pair) → Contains (pairs_of s) pair → IsOfReader s pair
  pub exactly :
      (log : LogRow) (subscription : Subscription) → IsReadBy s log subscription →
      Contains (pairs_of s) (pair_of log subscription)
  pub gone :
      (event : Event) (inputs : Inputs) →
      (conduct s event inputs).outcome.gone ≡ gone_from s (conduct s event inputs).after
  pub come :
      (event : Event) (inputs : Inputs) →
      (conduct s event inputs).outcome.come ≡ come_to s (conduct s event inputs).after

abbrev pub ImagesAreGrantedExactly : Type 0
ImagesAreGrantedExactly = AfterAnyEvents (λ s. PairsExactly s)

-- ---- each image is read

-- no live image is without a pair
abbrev pub AreRead : State → Type 0
AreRead s = (log : LogRow) → Contains s.streams.sources log → is_kept (pairs_of s) log ≡ true

abbrev pub ImagesAreRead : Type 0
ImagesAreRead = AfterAnyEvents AreRead

-- the same, as it is asked of a registry before a keepalive that is to take no memory
abbrev pub NoImageIsUnread : Type 0
NoImageIsUnread = AfterAnyEvents (λ s. are_all_read s ≡ true)
