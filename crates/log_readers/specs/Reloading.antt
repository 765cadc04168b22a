-- What another policy takes away and brings, from the readers that are kept and its verdict on each subscription. Own rules.
use Rattle.std.specs.Prelude.{ℕ, Bool, true, false, not, ◌&&◌, List, [], ◌∷◌, ◌++◌}
use Rattle.log_readers.specs.Finding.{is_among}
use Rattle.stream_registry.specs.declared.pairs.Pair.{Pair}
use Rattle.stream_registry.specs.declared.row.LogRow.{LogRow}
use Rattle.stream_registry.specs.declared.row.Subscription.{Subscription}
use Rattle.stream_registry.specs.Pairs.{fits, pair_of}

-- a pair goes that was there and is no more, and one comes that was not there
abbrev pub goes : Bool → Bool → Bool
goes before after = before && not after

abbrev pub comes : Bool → Bool → Bool
comes before after = not before && after

abbrev pub alone_if : Bool → Pair → List Pair
alone_if true pair = pair ∷ []
alone_if false pair = []

-- the pairs of a log that turn so, where it had these readers, by subscription; each is allowed or not
abbrev pub turned_at : (Bool → Bool → Bool) → List Subscription → List Bool → LogRow → List ℕ → List Pair
turned_at turns [] allowed log numbers = []
turned_at turns (subscription ∷ subscriptions) [] log numbers = []
turned_at turns (subscription ∷ subscriptions) (allows ∷ allowed) log numbers =
    alone_if (turns (is_among numbers subscription.number) (allows && fits log subscription))
    (pair_of log subscription)
    ++ turned_at turns subscriptions allowed log numbers

-- those of these logs, which had these readers, by source
abbrev pub turned_over : (Bool → Bool → Bool) → List Subscription → List Bool → List LogRow → List (List ℕ) → List Pair
turned_over turns subscriptions allowed [] readers = []
turned_over turns subscriptions allowed (log ∷ logs) [] = []
turned_over turns subscriptions allowed (log ∷ logs) (numbers ∷ readers) =
    turned_at turns subscriptions allowed log numbers ++ turned_over turns subscriptions allowed logs readers
