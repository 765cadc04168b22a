-- The lines that say why something on the wire comes to nothing, and which rows of a driver's tallies have one. Own rules.
use Rattle.std.specs.Prelude.{ℕ, Bool, true, false, List, ◌++◌, Option, Some, None, codes, if◌then◌else◌}
use Rattle.channel_uri.specs.Address.{address_text}
use Rattle.drop_tallies.specs.declared.miss.Miss.{Miss}
use Rattle.drop_tallies.specs.declared.miss.Miss.TheVariants.{Unread, NoStream, Stranger, OutOfWindow, Full, Empty, Lingering, Busy, NoMemory, Denied, Withheld, QueueFull, BadSetup, NoSubscription, Unimaged, TooMany, NoRoom, Unsent, Unheard}
use Rattle.drop_tallies.specs.declared.tally.Tally.{Tally}
use Rattle.policy_core.specs.declared.verdict.Verdict.{Verdict}
use Rattle.policy_core.specs.Verdict.{verdict_text}
use Rattle.wire_causes.specs.declared.cause.Cause.{Cause}
use Rattle.wire_causes.specs.declared.cause.Side.{Side}
use Rattle.wire_causes.specs.declared.cause.Side.TheVariants.{Sends, Learns, Receives, Serves}

-- a NAK for what is sent again already keeps nothing back; a driver that receives counts the SETUP of a stream that it has not
abbrev pub is_said : Side → Miss → Bool
is_said side Empty = false
is_said side Lingering = false
is_said side Busy = false
is_said Receives NoStream = false
is_said Serves NoStream = false
is_said side miss = true

abbrev pub cause_of : Side → Tally → Option Cause
cause_of side tally = if is_said side tally.miss then Some (record { side = side; tally = tally }) else None

abbrev pub what_of : Side → Miss → List ℕ
what_of side Withheld = codes "withheld from"
what_of side Unsent = codes "cannot send to"
what_of side Unheard = codes "cannot read at"
what_of side Unread = codes "datagram from"
what_of side Stranger = codes "datagram from"
what_of side NoMemory = codes "datagram from"
what_of side NoStream = codes "NAK or status message from"
what_of side OutOfWindow = codes "NAK or status message from"
what_of Learns Denied = codes "NAK or status message from"
what_of Serves Denied = codes "NAK or status message from"
what_of Sends Denied = codes "NAK from"
what_of Receives Denied = codes "NAK from"
what_of side Empty = codes "NAK from"
what_of side Lingering = codes "NAK from"
what_of side Busy = codes "NAK from"
what_of side Full = codes "status message from"
what_of side QueueFull = codes "SETUP from"
what_of side BadSetup = codes "SETUP from"
what_of side NoSubscription = codes "SETUP from"
what_of side Unimaged = codes "SETUP from"
what_of side TooMany = codes "SETUP from"
what_of side NoRoom = codes "SETUP from"

abbrev pub why_of : Miss → List ℕ
why_of Unread = codes ": none of the protocol"
why_of NoStream = codes ": of no stream that is here"
why_of Stranger = codes ": of a stream from another address"
why_of OutOfWindow = codes ": out of the window"
why_of Full = codes ": no room for one more destination"
why_of NoMemory = codes ": no memory"
why_of QueueFull = codes ": too many at once"
why_of BadSetup = codes ": unsound"
why_of NoSubscription = codes ": for no subscription"
why_of TooMany = codes ": a limit of the driver is reached"
why_of NoRoom = codes ": no room for its log"
why_of miss = codes ""

-- the verdict says why where there is one
abbrev pub rest_of : Miss → Option Verdict → List ℕ
rest_of miss (Some verdict) = codes ": " ++ verdict_text verdict
rest_of miss None = why_of miss

abbrev pub cause_text : Cause → List ℕ
cause_text cause =
    what_of cause.side cause.tally.miss ++ (codes " " ++ (address_text cause.tally.address
    ++ rest_of cause.tally.miss cause.tally.verdict))
