-- Images that no subscription reads: each goes with the event that takes its last pair.
use Rattle.std.specs.Prelude.{Bool, not, ◌||◌, List, map, filter}
use Rattle.driver_core.specs.Change.{Change}
use Rattle.driver_core.specs.Pairs.{pairs_of}
use Rattle.driver_core.specs.State.{State}
use Rattle.log_readers.specs.Unread.{has_none, is_left, is_unread, unread_of, without_unread as without_unread_in}
use Rattle.stream_registry.specs.declared.lingering.LogPlace.{LogPlace}
use Rattle.stream_registry.specs.declared.row.LogRow.{LogRow}
use Rattle.stream_registry.specs.Lingering.{place_of}

-- each image has a pair
abbrev pub are_all_read : State → Bool
are_all_read s = has_none (unread_of s.streams (pairs_of s))

-- they are gone; a publication stays, read or not
unfoldable pub without_unread : State → State
without_unread s =
    record s { streams = without_unread_in s.streams s.clients.rows s.policy s.epoch }

-- the event's own rule closes it, or it is an image of which no pair is left
abbrev pub is_closed : Change → LogRow → Bool
is_closed change log = not (is_left change.outcome.closes log) || is_unread (pairs_of change.after) log

-- where those lie that were there before
abbrev pub closed_from : State → Change → List LogPlace
closed_from before change = map place_of (filter (is_closed change) before.streams.sources)

-- After all that the event reports, images close that none reads. What was reported and decided of their pairs stands.
unfoldable pub dropping : State → Change → Change
dropping before change = record {
  after = without_unread change.after;
  outcome = record change.outcome { closes = closed_from before change };
}
