-- The pairs of a subscription that are there and those that may yet be. Own rules.
use Rattle.std.specs.Prelude.{ℕ, Bool, List, map, filter}
use Rattle.client_registry.specs.declared.client.Client.{Client}
use Rattle.log_readers.specs.Turnover.{pair_with}
use Rattle.policy_core.specs.RuleList.{Rules}
use Rattle.stream_registry.specs.Pairs.{is_prospect}
use Rattle.stream_registry.specs.declared.pairs.Pair.{Pair}
use Rattle.stream_registry.specs.declared.row.LogRow.{LogRow}
use Rattle.stream_registry.specs.declared.row.Subscription.{Subscription}

-- the subscription reads the log, or will
abbrev pub is_prospect_of : List Client → Rules → List Rules → ℕ → Subscription → LogRow → Bool
is_prospect_of clients policy coming epoch subscription log = is_prospect clients policy coming epoch log subscription

-- its pairs with these logs, by source
abbrev pub prospects_with : List Client → Rules → List Rules → ℕ → List LogRow → Subscription → List Pair
prospects_with clients policy coming epoch logs subscription =
    map (pair_with subscription) (filter (is_prospect_of clients policy coming epoch subscription) logs)
