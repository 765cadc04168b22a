-- ADD_SUBSCRIPTION.
use Rattle.std.specs.Prelude.{ℕ, ◌+◌, ℤ, Bool, true, false, not, ◌&&◌, [], ◌∷◌, is_some, is_none, Result, Ok, Err, codes, if◌then◌else◌}
use Rattle.driver_core.specs.Draft.{Draft}
use Rattle.driver_core.specs.declared.state.refusal.Refusal.TheVariants.{InvalidChannel, Denied, Full}
use Rattle.driver_core.specs.declared.state.replies.Reply.TheVariants.{SubscriptionReady}
use Rattle.driver_core.specs.Draft.{replied, refused}
use Rattle.driver_core.specs.Deciding.{decision_by}
use Rattle.driver_core.specs.Pairs.{is_within_pairs}
use Rattle.driver_core.specs.declared.state.refused.Refused.{Refused}
use Rattle.driver_core.specs.Refusing.{on, denied}
use Rattle.driver_core.specs.State.{State, has_number}
use Rattle.client_registry.specs.declared.client.Client.{Client}
use Rattle.channel_uri.specs.declared.error.UriError.{UriError}
use Rattle.channel_uri.specs.declared.media.Media.{Media}
use Rattle.channel_uri.specs.declared.media.Media.TheVariants.{Udp, Ipc, Counter}
use Rattle.channel_uri.specs.Channel.{Shape, denotes}
use Rattle.channel_uri.specs.Keys.{value_at}
use Rattle.channel_uri.specs.Place.{spot_of}
use Rattle.command_codec.specs.declared.add_subscription.AddSubscription.{AddSubscription}
use Rattle.policy_core.specs.declared.act.Act.{Act}
use Rattle.policy_core.specs.declared.act.Act.TheVariants.{Subscribe, Spy}
use Rattle.policy_core.specs.declared.decision.Decision.{Decision}
use Rattle.stream_registry.specs.Adding.{subscribed as subscribed_in, has_room_for_subscription as has_room_in}

-- without the prefix, any `ipc`, and `udp` with an endpoint and no control mode
abbrev pub is_plainly_subscribable : Media → Shape → Bool
is_plainly_subscribable Ipc channel = true
is_plainly_subscribable Udp channel =
    is_some (value_at (codes "endpoint") channel.keys) && is_none (value_at (codes "control-mode") channel.keys)
is_plainly_subscribable Counter channel = false

-- the channels that the command takes; a spy needs a place
unfoldable pub is_subscribable : Shape → Bool
is_subscribable channel =
    if channel.spy then is_some (spot_of channel) else is_plainly_subscribable channel.media channel

abbrev pub act_of : Shape → Act
act_of channel = if channel.spy then Spy else Subscribe

-- what the policy in force decides
abbrev pub decision_of : State → Client → Shape → ℤ → Decision
decision_of s client channel stream = decision_by s client (act_of channel) channel stream

-- the client subscribes, under the next number
unfoldable pub with_subscription : State → ℕ → Shape → ℤ → State
with_subscription s client channel stream = record s {
  streams = subscribed_in s.streams (s.last_number + 1) client channel stream;
  last_number = s.last_number + 1;
}

-- the subscription stands
unfoldable pub subscribed : State → Client → ℕ → Shape → ℤ → Draft
subscribed s client correlation channel stream =
    replied (with_subscription s client.number channel stream) (decision_of s client channel stream ∷ []) client.number
    (SubscriptionReady correlation (with_subscription s client.number channel stream).last_number)

-- there are at most 512 subscriptions, no number is used again, and there are at most 4,096 pairs
unfoldable pub has_room_for_subscription : State → ℕ → Shape → ℤ → Bool
has_room_for_subscription s client channel stream =
    has_number s && has_room_in s.streams
    && is_within_pairs (with_subscription s client channel stream)

-- denied, full, or done
unfoldable pub subscribe : State → Client → ℕ → Shape → ℤ → Draft
subscribe s client correlation channel stream =
    if not (decision_of s client channel stream).verdict.allow
    then refused s (decision_of s client channel stream ∷ []) client.number correlation
    (Denied (decision_of s client channel stream).verdict)
    else if has_room_for_subscription s client.number channel stream
    then subscribed s client correlation channel stream
    else refused s (decision_of s client channel stream ∷ []) client.number correlation Full

-- what is decided on it: why it is refused, or on which decision it is granted
unfoldable pub subscribing_of : State → Client → Shape → ℤ → Result Decision Refused
subscribing_of s client channel stream =
    if not (decision_of s client channel stream).verdict.allow
    then Err (denied (decision_of s client channel stream))
    else if has_room_for_subscription s client.number channel stream
    then Ok (decision_of s client channel stream)
    else Err (on (decision_of s client channel stream) Full)

-- the text has to be a channel that the command takes
abbrev pub subscribe_on : State → Client → ℕ → Result Shape UriError → ℤ → Draft
subscribe_on s client correlation (Err fault) stream = refused s [] client.number correlation InvalidChannel
subscribe_on s client correlation (Ok channel) stream =
    if is_subscribable channel
    then subscribe s client correlation channel stream
    else refused s [] client.number correlation InvalidChannel

unfoldable pub add_subscription : State → Client → ℕ → AddSubscription → Draft
add_subscription s client correlation fields =
    subscribe_on s client correlation (denotes fields.channel) fields.stream
