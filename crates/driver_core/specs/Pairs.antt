-- Which subscription reads which log: a function of the registry's lists and the policy in force alone. Own rules.
use Rattle.std.specs.Prelude.{Bool, not, ◌==◌, ◌&&◌, nat_le, length, List, filter}
use Rattle.std.specs.List.{list_any}
use Rattle.driver_core.specs.State.{State}
use Rattle.stream_registry.specs.declared.pairs.Pair.{Pair}
use Rattle.stream_registry.specs.Pairs.{pairs_of as pairs_on, prospects_of as prospects_on}

-- by source and then subscription
unfoldable pub pairs_of : State → List Pair
pairs_of s = pairs_on s.streams s.clients.rows s.policy s.epoch

-- these, and those that the policy allows at a later moment
unfoldable pub prospects_of : State → List Pair
prospects_of s = prospects_on s.streams s.clients.rows s.policy s.prospects s.epoch

-- there are at most 4,096 of them, so that no moment brings more pairs than that
unfoldable pub is_within_pairs : State → Bool
is_within_pairs s = nat_le (length (prospects_of s)) 4096

abbrev pub is_same_pair : Pair → Pair → Bool
is_same_pair pair other = pair.source == other.source && pair.subscription == other.subscription

abbrev pub is_lacked_by : List Pair → Pair → Bool
is_lacked_by others pair = not (list_any (is_same_pair pair) others)

-- the pairs that the others lack
abbrev pub lacking : List Pair → List Pair → List Pair
lacking pairs others = filter (is_lacked_by others) pairs
