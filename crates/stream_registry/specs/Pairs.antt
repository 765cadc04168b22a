-- Which subscription reads which log: a function of the lists and the policy alone. Own rules.
use Rattle.std.specs.Prelude.{ℕ, Bool, false, not, ◌==◌, ◌&&◌, ◌||◌, List, map, filter, Option, Some, None, if◌then◌else◌}
use Rattle.std.specs.List.{flat_map, list_any}
use Rattle.std.specs.Ordering.{int_eq}
use Rattle.stream_registry.specs.declared.pairs.Pair.{Pair}
use Rattle.stream_registry.specs.declared.row.LogRow.{LogRow}
use Rattle.stream_registry.specs.declared.row.Subscription.{Subscription}
use Rattle.stream_registry.specs.Origins.{is_published}
use Rattle.stream_registry.specs.Places.{is_ipc, is_udp, is_same_place}
use Rattle.stream_registry.specs.Sessions.{agrees_with}
use Rattle.stream_registry.specs.Streams.{Streams}
use Rattle.channel_uri.specs.Channel.{Shape}
use Rattle.channel_uri.specs.Parameters.{stated_session_of}
use Rattle.client_registry.specs.declared.client.Client.{Client}
use Rattle.client_registry.specs.Clients.{principal_at}
use Rattle.policy_core.specs.declared.act.Act.TheVariants.{Image}
use Rattle.policy_core.specs.Question.{Question}
use Rattle.policy_core.specs.RuleList.{Rules}
use Rattle.policy_core.specs.Rules.{verdict_of}

-- a spy reaches the publications over datagrams of its place; another channel of shared memory reaches the publications
-- there
abbrev pub reaches_published : Shape → Shape → Bool
reaches_published channel published =
    if channel.spy then is_udp published.media && is_same_place published channel
    else is_ipc published.media && is_ipc channel.media

-- and one of an endpoint the images of what is sent to it
unfoldable pub reaches : Shape → LogRow → Bool
reaches channel log =
    if is_published log then reaches_published channel log.channel
    else is_udp channel.media && not channel.spy && is_same_place log.channel channel

-- a subscription reads the logs that its channel reaches, of its stream, and of its session where it states one
unfoldable pub fits : LogRow → Subscription → Bool
fits log subscription =
    reaches subscription.channel log && int_eq log.stream subscription.stream
    && agrees_with log.session (stated_session_of subscription.channel)

-- what the policy is asked of a pair: whether the subscriber may have the messages of a log on the subscription's channel
-- and stream
abbrev pub image_question : ℕ → Subscription → Question
image_question principal subscription = record {
  principal = principal;
  act = Image;
  channel = subscription.channel;
  stream = subscription.stream;
}

abbrev pub is_allowed_to : Rules → ℕ → Subscription → Option ℕ → Bool
is_allowed_to policy epoch subscription None = false
is_allowed_to policy epoch subscription (Some principal) =
    (verdict_of policy epoch (image_question principal subscription)).allow

-- the policy, which goes by this number, allows it to the client whose subscription it is
unfoldable pub is_allowed : List Client → Rules → ℕ → Subscription → Bool
is_allowed clients policy epoch subscription =
    is_allowed_to policy epoch subscription (principal_at clients subscription.client)

abbrev pub is_pair : List Client → Rules → ℕ → LogRow → Subscription → Bool
is_pair clients policy epoch log subscription =
    fits log subscription && is_allowed clients policy epoch subscription

abbrev pub pair_of : LogRow → Subscription → Pair
pair_of log subscription = record { source = log.number; subscription = subscription.number }

-- the pairs of this log, by subscription
abbrev pub pairs_at : List Client → Rules → ℕ → List Subscription → LogRow → List Pair
pairs_at clients policy epoch subscriptions log =
    map (pair_of log) (filter (is_pair clients policy epoch log) subscriptions)

-- by source and then subscription
unfoldable pub pairs_of : Streams → List Client → Rules → ℕ → List Pair
pairs_of s clients policy epoch = flat_map (pairs_at clients policy epoch s.subscriptions) s.sources

-- the pair is of that log and that subscription, by their numbers
abbrev pub is_of : ℕ → ℕ → Pair → Bool
is_of source subscription pair = pair.source == source && pair.subscription == subscription

-- ---- pairs that may yet be

-- it is allowed by the policy or by one of these, which come later
unfoldable pub is_ever_allowed : List Client → Rules → List Rules → ℕ → Subscription → Bool
is_ever_allowed clients policy coming epoch subscription =
    is_allowed clients policy epoch subscription
    || list_any (λ later. is_allowed clients later epoch subscription) coming

abbrev pub is_prospect : List Client → Rules → List Rules → ℕ → LogRow → Subscription → Bool
is_prospect clients policy coming epoch log subscription =
    fits log subscription && is_ever_allowed clients policy coming epoch subscription

abbrev pub prospects_at : List Client → Rules → List Rules → ℕ → List Subscription → LogRow → List Pair
prospects_at clients policy coming epoch subscriptions log =
    map (pair_of log) (filter (is_prospect clients policy coming epoch log) subscriptions)

-- the pairs that there are, and those that the policy allows later, by source and then subscription
unfoldable pub prospects_of : Streams → List Client → Rules → List Rules → ℕ → List Pair
prospects_of s clients policy coming epoch = flat_map (prospects_at clients policy coming epoch s.subscriptions) s.sources
