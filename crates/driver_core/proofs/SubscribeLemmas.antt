-- A subscription is made or refused by what is decided on it.
use Rattle.std.proofs.Common.{◌≡◌, ℕ, ℤ, Bool, true, false, [], Result, Ok, Err, refl, ◌∙◌}
use Rattle.driver_core.specs.declared.state.refused.Refused.{Refused}
use Rattle.driver_core.specs.Draft.{Draft, refused}
use Rattle.driver_core.specs.declared.state.refusal.Refusal.TheVariants.{Full, InvalidChannel}
use Rattle.driver_core.specs.Refusing.{denied, on, refused_by}
use Rattle.driver_core.specs.State.{State}
use Rattle.driver_core.specs.Subscribing.{add_subscription, decision_of, has_room_for_subscription, is_subscribable, subscribe, subscribe_on, subscribed, subscribing_of}
use Rattle.channel_uri.specs.declared.error.UriError.{UriError}
use Rattle.channel_uri.specs.Channel.{Shape, denotes}
use Rattle.client_registry.specs.declared.client.Client.{Client}
use Rattle.command_codec.specs.declared.add_subscription.AddSubscription.{AddSubscription}
use Rattle.policy_core.specs.declared.decision.Decision.{Decision}

abbrev pub subscribe_as : State → Client → ℕ → Shape → ℤ → Result Decision Refused → Draft
subscribe_as s client correlation channel stream (Ok decision) = subscribed s client correlation channel stream
subscribe_as s client correlation channel stream (Err why) = refused_by s client.number correlation why

decided_as : (s : State) (client : Client) (correlation : ℕ) (channel : Shape) (stream : ℤ) (allow room : Bool) →
    (decision_of s client channel stream).verdict.allow ≡ allow →
    has_room_for_subscription s client.number channel stream ≡ room →
    subscribe s client correlation channel stream
    ≡ subscribe_as s client correlation channel stream (subscribing_of s client channel stream)
unfolding subscribe subscribing_of
decided_as s client correlation channel stream true true allow room = rw (allow, room) refl
decided_as s client correlation channel stream true false allow room = rw (allow, room) refl
decided_as s client correlation channel stream false room allow is = rw allow refl

pub subscribe_is : (s : State) (client : Client) (correlation : ℕ) (channel : Shape) (stream : ℤ)
    (decided : Result Decision Refused) → subscribing_of s client channel stream ≡ decided →
    subscribe s client correlation channel stream ≡ subscribe_as s client correlation channel stream decided
subscribe_is s client correlation channel stream decided is =
    rw (← is) (decided_as s client correlation channel stream _ _ refl refl)

-- ---- where it is granted

pub record IsGranted (s : State) (client : Client) (channel : Shape) (stream : ℤ) (decision : Decision) : Type 0 where
  pub room : has_room_for_subscription s client.number channel stream ≡ true
  pub decided : decision ≡ decision_of s client channel stream

granted_by : (s : State) (client : Client) (channel : Shape) (stream : ℤ) (decision : Decision) (allow room : Bool) →
    (decision_of s client channel stream).verdict.allow ≡ allow →
    has_room_for_subscription s client.number channel stream ≡ room →
    subscribing_of s client channel stream ≡ Ok decision → IsGranted s client channel stream decision
unfolding subscribing_of
granted_by s client channel stream decision true true allow room is =
    let same : Ok (decision_of s client channel stream) ≡ Ok decision = (rw (allow, room) refl) ∙ is in
    record { room = room; decided = cc }
granted_by s client channel stream decision true false allow room is =
    let never : Err (on (decision_of s client channel stream) Full) ≡ Ok decision = (rw (allow, room) refl) ∙ is in
    absurd cc
granted_by s client channel stream decision false room allow known is =
    let never : Err (denied (decision_of s client channel stream)) ≡ Ok decision = (rw allow refl) ∙ is in
    absurd cc

pub granted : (s : State) (client : Client) (channel : Shape) (stream : ℤ) (decision : Decision) →
    subscribing_of s client channel stream ≡ Ok decision → IsGranted s client channel stream decision
granted s client channel stream decision is = granted_by s client channel stream decision _ _ refl refl is

-- ---- by the channel

pub added_on : (s : State) (client : Client) (correlation : ℕ) (fields : AddSubscription) (channel : Result Shape UriError) →
    denotes fields.channel ≡ channel →
    add_subscription s client correlation fields ≡ subscribe_on s client correlation channel fields.stream
unfolding add_subscription
added_on s client correlation fields channel is = rw is refl

-- on a channel that the command does not take
pub not_taken : (s : State) (client : Client) (correlation : ℕ) (fields : AddSubscription) (channel : Shape) →
    denotes fields.channel ≡ Ok channel → is_subscribable channel ≡ false →
    add_subscription s client correlation fields ≡ refused s [] client.number correlation InvalidChannel
not_taken s client correlation fields channel is taken =
    added_on s client correlation fields (Ok channel) is ∙ (rw taken refl)
