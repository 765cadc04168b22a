-- What is remembered of how a client goes on with what it has to read, as its calls are made. Own rules.
use Rattle.std.specs.Prelude.{◌≡◌, ◌⊎◌, ℕ, Bool, true, false, Option, Some, None, Result, Ok, Err, if◌then◌else◌}
use Rattle.driver_core.specs.declared.state.replies.Reply.TheVariants as replies
use Rattle.driver_service.specs.declared.reason.Reason.{Reason}
use Rattle.driver_service.specs.declared.reason.Reason.TheVariants.{NoMemory, Unread}
use Rattle.media_agents.specs.declared.mail.ClientReply.{ClientReply}
use Rattle.media_agents.specs.declared.mail.ClientReply.TheVariants as client_replies
use Rattle.media_driver.specs.declared.faults.PositionFault.{PositionFault}
use Rattle.media_driver.specs.declared.faults.PositionFault.TheVariants.{Closed, NoLook}
use Rattle.media_driver.specs.declared.positions.ImagePositions.{ImagePositions}
use Rattle.reading_progress.specs.Pairs.{with_pair}
use Rattle.reading_progress.specs.Watches.{Watching, after_seen, after_subscribing, without_pair}
use Rattle.reading_progress.specs.declared.pairs.Pair.{Pair}

-- it is watched from its first subscription on
abbrev pub after_handing : Bool → Watching → Watching
after_handing subscribes watch = if subscribes then after_subscribing watch else watch

-- a pair that is not there any more is forgotten; where there was no look, nothing is known
abbrev pub after_looking : ℕ → Pair → Result ImagePositions PositionFault → Watching → Watching
after_looking now pair (Ok shown) watch = after_seen pair.subscription pair.source now shown.position shown.received watch
after_looking now pair (Err Closed) watch = without_pair pair.subscription pair.source watch
after_looking now pair (Err NoLook) watch = watch

abbrev pub is_there : Result ImagePositions PositionFault → Bool
is_there (Ok shown) = true
is_there (Err Closed) = false
is_there (Err NoLook) = true

-- who is left behind is gone
abbrev pub gone_after : Bool → Option Reason → Option Reason
gone_after left gone = if left then Some Unread else gone

-- the pair is one of those that it reads; or there was no memory for it, and the client is gone
abbrev pub Reads : ℕ → ℕ → Watching → Watching → Option Reason → Type 0
Reads subscription source old new gone =
    (new ≡ record old { pairs = with_pair subscription source old.pairs }) ⊎ ((new ≡ old) × (gone ≡ Some NoMemory))

-- a reply that an image is there says what it reads; no other reply says anything of that
abbrev pub IsNoted : ClientReply → Watching → Watching → Option Reason → Type 0
IsNoted (client_replies.Of (replies.AvailableImage source subscription session stream position identity)) old new gone = Reads subscription source old new gone
IsNoted other old new _ = new ≡ old
