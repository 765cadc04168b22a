-- Which pairs one list has and another lacks, and what an event's own rows have to do with that. Own rules.
use Rattle.std.specs.Prelude.{◌≡◌, ℕ, Bool, not, ◌==◌, ◌&&◌, ◌||◌, List, [], ◌∷◌, ◌++◌, map, filter, if◌then◌else◌}
use Rattle.std.specs.List.{list_any}
use Rattle.log_readers.specs.Readers.{all_readers}
use Rattle.stream_registry.specs.declared.lingering.LogPlace.{LogPlace}
use Rattle.stream_registry.specs.declared.pairs.Pair.{Pair}
use Rattle.stream_registry.specs.declared.row.LogRow.{LogRow}
use Rattle.stream_registry.specs.declared.row.Subscription.{Subscription}
use Rattle.stream_registry.specs.Leaving.{has_subscription, left}
use Rattle.stream_registry.specs.Pairs.{fits, is_pair, pair_of, pairs_of}
use Rattle.stream_registry.specs.Streams.{Streams}
use Rattle.client_registry.specs.declared.client.Client.{Client}
use Rattle.client_registry.specs.Clients.{ClientList, without}
use Rattle.policy_core.specs.RuleList.{Rules}

abbrev pub is_same_pair : Pair → Pair → Bool
is_same_pair pair other = pair.source == other.source && pair.subscription == other.subscription

abbrev pub is_lacked_by : List Pair → Pair → Bool
is_lacked_by others pair = not (list_any (is_same_pair pair) others)

-- the pairs that the others lack
abbrev pub lacking : List Pair → List Pair → List Pair
lacking pairs others = filter (is_lacked_by others) pairs

-- the subscription reads the log
abbrev pub is_read_by : List Client → Rules → ℕ → Subscription → LogRow → Bool
is_read_by clients policy epoch subscription log = is_pair clients policy epoch log subscription

abbrev pub pair_with : Subscription → LogRow → Pair
pair_with subscription log = pair_of log subscription

-- the pairs of this subscription, by source
abbrev pub pairs_with : List Client → Rules → ℕ → List LogRow → Subscription → List Pair
pairs_with clients policy epoch logs subscription =
    map (pair_with subscription) (filter (is_read_by clients policy epoch subscription) logs)

abbrev pub pair_at : ℕ → ℕ → Pair
pair_at source number = record { source = source; subscription = number }

-- the pairs of these rows of numbers, a row for each log
abbrev pub told : List LogRow → List (List ℕ) → List Pair
told [] readers = []
told (log ∷ logs) [] = []
told (log ∷ logs) (numbers ∷ readers) = map (pair_at log.number) numbers ++ told logs readers

-- the pairs of a log, where the subscription fits
abbrev pub told_at : Subscription → LogRow → List ℕ → List Pair
told_at subscription log numbers = if fits log subscription then map (pair_at log.number) numbers else []

-- those of each of these logs, a row of numbers for each
abbrev pub told_to : Subscription → List LogRow → List (List ℕ) → List Pair
told_to subscription [] readers = []
told_to subscription (log ∷ logs) [] = []
told_to subscription (log ∷ logs) (numbers ∷ readers) =
    told_at subscription log numbers ++ told_to subscription logs readers

-- it is of the subscription of this number
abbrev pub is_of_number : ℕ → Pair → Bool
is_of_number number pair = pair.subscription == number

-- it is of a subscription of this client
abbrev pub is_of_client : Streams → ℕ → Pair → Bool
is_of_client s client pair = has_subscription s client pair.subscription

-- it is of a log that closes
abbrev pub is_of_closing : List LogPlace → Pair → Bool
is_of_closing closes pair = list_any (λ closed. closed.source == pair.source) closes

-- the same subscriptions read the same logs
pub record IsReadAlike (s after : Streams) (clients others : List Client) (policy : Rules) (epoch : ℕ) : Type 0 where
  pub pairs : pairs_of after others policy epoch ≡ pairs_of s clients policy epoch
  pub readers : all_readers after others policy epoch ≡ all_readers s clients policy epoch

-- what went and what came where these pairs became those
pub record IsTurnover (before after went came : List Pair) : Type 0 where
  pub gone : lacking before after ≡ went
  pub come : lacking after before ≡ came

-- these clients leave at this moment, one after another
abbrev pub all_left : Streams → List ℕ → ℕ → Streams
all_left s [] now = s
all_left s (client ∷ clients) now = all_left (left s client now) clients now

-- and go
abbrev pub all_without : ClientList → List ℕ → ClientList
all_without clients [] = clients
all_without clients (client ∷ others) = all_without (without clients client) others

-- it is of a subscription of one of these clients
abbrev pub is_of_any : Streams → List ℕ → Pair → Bool
is_of_any s clients pair = list_any (λ client. is_of_client s client pair) clients

-- the subscription has this number, and one of these clients has it
abbrev pub is_had_by : ℕ → List ℕ → Subscription → Bool
is_had_by number clients row = row.number == number && list_any (λ client. row.client == client) clients

-- it goes where these clients and these logs go
abbrev pub is_going : Streams → List ℕ → List LogPlace → Pair → Bool
is_going s clients closes pair = is_of_any s clients pair || is_of_closing closes pair
