-- Images that no subscription reads. Own rules.
use Rattle.std.specs.Prelude.{ℕ, Bool, true, false, not, ◌==◌, ◌&&◌, ◌||◌, List, [], ◌∷◌, map, filter, if◌then◌else◌}
use Rattle.std.specs.List.{list_any}
use Rattle.log_readers.specs.Numbering.{source_of}
use Rattle.log_readers.specs.Turnover.{is_lacked_by, lacking, pair_at}
use Rattle.stream_registry.specs.declared.lingering.LogPlace.{LogPlace}
use Rattle.stream_registry.specs.declared.pairs.Pair.{Pair}
use Rattle.stream_registry.specs.declared.row.LogRow.{LogRow}
use Rattle.stream_registry.specs.Lingering.{place_of}
use Rattle.stream_registry.specs.Origins.{is_remote}
use Rattle.stream_registry.specs.Pairs.{pairs_of}
use Rattle.stream_registry.specs.Streams.{Streams}
use Rattle.client_registry.specs.declared.client.Client.{Client}
use Rattle.policy_core.specs.RuleList.{Rules}

abbrev pub is_of_source : ℕ → Pair → Bool
is_of_source source pair = pair.source == source

-- some pair is of the log
abbrev pub has_pair : List Pair → LogRow → Bool
has_pair pairs log = list_any (is_of_source log.number) pairs

-- an image of which no pair is
abbrev pub is_unread : List Pair → LogRow → Bool
is_unread pairs log = is_remote log && not (has_pair pairs log)

abbrev pub is_kept : List Pair → LogRow → Bool
is_kept pairs log = not (is_unread pairs log)

-- their numbers
abbrev pub unread_of : Streams → List Pair → List ℕ
unread_of s pairs = map source_of (filter (is_unread pairs) s.sources)

-- they are gone; a publication stays, read or not
unfoldable pub without_unread : Streams → List Client → Rules → ℕ → Streams
without_unread s clients policy epoch =
    record s { sources = filter (is_kept (pairs_of s clients policy epoch)) s.sources }

-- ---- by what is kept beside the logs

abbrev pub has_none : List ℕ → Bool
has_none [] = true
has_none (number ∷ numbers) = false

-- the numbers of the images beside which no subscription's number stands
abbrev pub unread_beside : List LogRow → List (List ℕ) → List ℕ
unread_beside [] readers = []
unread_beside (log ∷ logs) [] = []
unread_beside (log ∷ logs) (numbers ∷ readers) =
    if is_remote log && has_none numbers
    then log.number ∷ unread_beside logs readers
    else unread_beside logs readers

-- ---- where pairs go and come

-- it is none of those that close
abbrev pub is_left : List LogPlace → LogRow → Bool
is_left closes log = not (list_any (λ closed. closed.source == log.number) closes)

-- some pair of the log stays where these go, or comes
abbrev pub has_left : List Pair → List Pair → List Pair → LogRow → Bool
has_left pairs gone come log = has_pair (lacking pairs gone) log || has_pair come log

-- it is one of those that close, or an image of which no pair is left
abbrev pub is_closed : List Pair → List LogPlace → List Pair → List Pair → LogRow → Bool
is_closed pairs closes gone come log =
    not (is_left closes log) || (is_remote log && not (has_left pairs gone come log))

-- by the subscriptions' numbers that stand beside it
abbrev pub is_closed_beside : List LogPlace → List Pair → List Pair → LogRow → List ℕ → Bool
is_closed_beside closes gone come log numbers =
    not (is_left closes log)
    || (is_remote log
    && not (list_any (λ number. is_lacked_by gone (pair_at log.number number)) numbers || has_pair come log))

-- so of each of these logs
abbrev pub closed_beside : List LogPlace → List Pair → List Pair → List LogRow → List (List ℕ) → List LogPlace
closed_beside closes gone come [] readers = []
closed_beside closes gone come (log ∷ logs) [] = []
closed_beside closes gone come (log ∷ logs) (numbers ∷ readers) =
    if is_closed_beside closes gone come log numbers
    then place_of log ∷ closed_beside closes gone come logs readers
    else closed_beside closes gone come logs readers
