-- What an event takes away and brings beside what its own rule does to the lists: the pairs are renewed by the policy as it is at
-- the event's moment. Laws speak of two registries: the one before the event, and the one to which the event comes, which is the
-- same but for the policy, which is what it is at that moment.
use Rattle.std.specs.Prelude.{◌≡◌, map, filter}
use Rattle.driver_core.specs.Change.{Change}
use Rattle.driver_core.specs.Pairs.{pairs_of}
use Rattle.driver_core.specs.Renewal.{come_to, gone_from}
use Rattle.driver_core.specs.State.{State}
use Rattle.log_readers.specs.Unread.{is_unread}
use Rattle.stream_registry.specs.Lingering.{place_of}

-- Those pairs go that the registry before has and this one lacks, and those come that it gains; of the images that were there, and
-- of no other log, those close of which it has no pair. Where both have the same pairs, nothing goes or comes.
pub record TurnsTo (before after : State) (change : Change) : Type 0 where
  pub gone : change.outcome.gone ≡ gone_from before after
  pub come : change.outcome.come ≡ come_to before after
  pub closes : change.outcome.closes ≡ map place_of (filter (is_unread (pairs_of after)) before.streams.sources)
