-- Which subscriptions read each log, by their numbers: the pairs of the lists, log by log. Own rules.
use Rattle.std.specs.Prelude.{ℕ, Bool, not, ◌==◌, List, [], ◌∷◌, ◌++◌, map, filter, if◌then◌else◌}
use Rattle.log_readers.specs.Numbering.{number_of}
use Rattle.stream_registry.specs.declared.row.LogRow.{LogRow}
use Rattle.stream_registry.specs.declared.row.Subscription.{Subscription}
use Rattle.stream_registry.specs.Leaving.{has_subscription}
use Rattle.stream_registry.specs.Pairs.{fits, is_pair}
use Rattle.stream_registry.specs.Streams.{Streams}
use Rattle.client_registry.specs.declared.client.Client.{Client}
use Rattle.policy_core.specs.RuleList.{Rules}

-- the numbers of the subscriptions that read the log, in their order
abbrev pub readers_at : List Client → Rules → ℕ → List Subscription → LogRow → List ℕ
readers_at clients policy epoch subscriptions log =
    map number_of (filter (is_pair clients policy epoch log) subscriptions)

-- those of each log, in the order of the logs
unfoldable pub all_readers : Streams → List Client → Rules → ℕ → List (List ℕ)
all_readers s clients policy epoch = map (readers_at clients policy epoch s.subscriptions) s.sources

-- the subscription's number stands after those of the log, where it fits
abbrev pub noted_at : Subscription → LogRow → List ℕ → List ℕ
noted_at subscription log numbers =
    if fits log subscription then numbers ++ subscription.number ∷ [] else numbers

-- so at each of these logs
abbrev pub noted : Subscription → List LogRow → List (List ℕ) → List (List ℕ)
noted subscription [] readers = readers
noted subscription (log ∷ logs) [] = []
noted subscription (log ∷ logs) (numbers ∷ readers) =
    noted_at subscription log numbers ∷ noted subscription logs readers

abbrev pub is_unlike : ℕ → ℕ → Bool
is_unlike number other = not (other == number)

-- the subscription's number is gone from those of the log, where it fits
abbrev pub forgotten_at : Subscription → LogRow → List ℕ → List ℕ
forgotten_at subscription log numbers =
    if fits log subscription then filter (is_unlike subscription.number) numbers else numbers

-- so at each of these logs
abbrev pub forgotten : Subscription → List LogRow → List (List ℕ) → List (List ℕ)
forgotten subscription [] readers = readers
forgotten subscription (log ∷ logs) [] = []
forgotten subscription (log ∷ logs) (numbers ∷ readers) =
    forgotten_at subscription log numbers ∷ forgotten subscription logs readers

-- it is not the number of a subscription of this client
abbrev pub is_of_others : Streams → ℕ → ℕ → Bool
is_of_others s client number = not (has_subscription s client number)

-- the readers of those logs that stay
abbrev pub beside : (LogRow → Bool) → List LogRow → List (List ℕ) → List (List ℕ)
beside stays [] readers = []
beside stays (log ∷ logs) [] = []
beside stays (log ∷ logs) (numbers ∷ readers) =
    if stays log then numbers ∷ beside stays logs readers else beside stays logs readers
