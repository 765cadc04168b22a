-- What is counted: as what a datagram that was dropped, and what each step leaves in the tallies. Own rules.
use Rattle.std.specs.Prelude.{◌+◌, ◌-◌, ◌^◌, ℕ, Bool, true, false, List, [], ◌∷◌, Option, Some, None, Result, Ok, fold, if◌then◌else◌, length, min}
use Rattle.channel_uri.specs.declared.address.Address.{Address}
use Rattle.driver_core.specs.declared.state.event.Event.{Event}
use Rattle.driver_core.specs.declared.state.event.Event.TheVariants.{Setup as SetUp}
use Rattle.driver_core.specs.declared.asked.image_request.Astray.TheVariants as strays
use Rattle.driver_core.specs.declared.state.outcome.Response.{Response}
use Rattle.driver_core.specs.declared.asked.send_request.Outlet.{Outlet}
use Rattle.driver_core.specs.declared.state.outcome.Response.TheVariants as responses
use Rattle.driver_core.specs.declared.state.setup_fault.SetupFault.{SetupFault}
use Rattle.driver_core.specs.declared.state.setup_fault.SetupFault.TheVariants as faults
use Rattle.log_steps.specs.declared.answer.Answer.{Answer}
use Rattle.log_steps.specs.declared.answer.Answer.TheVariants as answers
use Rattle.log_steps.specs.declared.cause.Cause.{Cause}
use Rattle.log_steps.specs.declared.cause.Cause.TheVariants as causes
use Rattle.drop_tallies.specs.declared.miss.Miss.{Miss}
use Rattle.drop_tallies.specs.declared.miss.Miss.TheVariants as misses
use Rattle.drop_tallies.specs.declared.tally.Tally.{Tally}
use Rattle.drop_tallies.specs.Tallies.{Table, noted}
use Rattle.frame_codec.specs.declared.fault.BadPacket.{BadPacket}
use Rattle.frame_codec.specs.Datagram.{Content, nak, packet_of}
use Rattle.policy_core.specs.declared.verdict.Verdict.{Verdict}

-- ---- as what

-- the cause, and by which verdict
abbrev pub miss_by : Cause → Miss × Option Verdict
miss_by (causes.Unread fault) = (misses.Unread, None)
miss_by (causes.Astray strays.NoStream) = (misses.NoStream, None)
miss_by (causes.Astray strays.Stranger) = (misses.Stranger, None)
miss_by (causes.Denied verdict) = (misses.Denied, Some verdict)
miss_by causes.Full = (misses.Full, None)
miss_by causes.Empty = (misses.Empty, None)
miss_by causes.OutOfWindow = (misses.OutOfWindow, None)
miss_by causes.Lingering = (misses.Lingering, None)
miss_by causes.Busy = (misses.Busy, None)

-- none is counted of any other answer
abbrev pub miss_of : Answer → Option (Miss × Option Verdict)
miss_of (answers.Dropped cause) = Some (miss_by cause)
miss_of answers.NoMemory = Some (misses.NoMemory, None)
miss_of answer = None

-- a SETUP that makes no image, and of whose stream there is none
abbrev pub miss_of_fault : SetupFault → Option (Miss × Option Verdict)
miss_of_fault faults.BadSetup = Some (misses.BadSetup, None)
miss_of_fault faults.Exists = None
miss_of_fault faults.NoSubscription = Some (misses.NoSubscription, None)
miss_of_fault (faults.Denied verdict) = Some (misses.Unimaged, Some verdict)
miss_of_fault faults.Full = Some (misses.TooMany, None)
miss_of_fault faults.NoRoom = Some (misses.NoRoom, None)

abbrev pub miss_of_set_up : Response → Option (Miss × Option Verdict)
miss_of_set_up (responses.Dropped fault) = miss_of_fault fault
miss_of_set_up response = None

-- ---- what is left of the tallies

-- it happened once, to that address or from there
abbrev pub tally_of : Miss → Option Verdict → Address → Tally
tally_of miss verdict address = record { miss = miss; verdict = verdict; address = address; count = 1 }

abbrev pub noted_if : Option (Miss × Option Verdict) → Address → Table → Table
noted_if None address table = table
noted_if (Some miss) address table = noted (tally_of miss.0 miss.1 address) table

-- a NAK came; one is due; so many datagrams were cut again
abbrev pub heard_more : Table → Table
heard_more table = record table { repairs = record table.repairs { heard = min (table.repairs.heard + 1) (2 ^ 64 - 1) } }

abbrev pub asked_more : Table → Table
asked_more table = record table { repairs = record table.repairs { asked = min (table.repairs.asked + 1) (2 ^ 64 - 1) } }

abbrev pub resent_more : ℕ → Table → Table
resent_more datagrams table = record table { repairs = record table.repairs { resent = min (table.repairs.resent + datagrams) (2 ^ 64 - 1) } }

-- the step of a datagram from that address was answered that: the datagrams that go out again count, or that it was dropped
abbrev pub resent_by : Answer → Table → Table
resent_by (answers.Resent to datagrams) table = resent_more (length datagrams) table
resent_by answer table = table

abbrev pub after_answer : Address → Answer → Table → Table
after_answer from answer table = noted_if (miss_of answer) from (resent_by answer table)

-- the receiver's step was answered that: a NAK is due where it is the first of the datagrams
abbrev pub is_nak : Result Content BadPacket → Bool
is_nak (Ok (nak fields)) = true
is_nak read = false

abbrev pub begins_with_nak : List (List ℕ) → Bool
begins_with_nak [] = false
begins_with_nak (first ∷ later) = is_nak (packet_of first)

abbrev pub is_asking : Answer → Bool
is_asking (answers.Reported to datagrams) = begins_with_nak datagrams
is_asking answer = false

abbrev pub after_report : Answer → Table → Table
after_report answer table = if is_asking answer then asked_more table else table

-- the sender's step was answered that: each destination counts that the datagram may not go to
abbrev pub after_outlet : Table → Outlet → Table
after_outlet table outlet =
    if outlet.decision.verdict.allow then table else noted (tally_of misses.Withheld (Some outlet.decision.verdict) outlet.to) table

abbrev pub after_cut : Answer → Table → Table
after_cut (answers.Sent bytes outlets) table = fold after_outlet table outlets
after_cut answer table = table

-- the conductor took an event, and its response was that: a SETUP counts that makes no image, and there is none of its stream
abbrev pub after_event : Event → Response → Table → Table
after_event (SetUp now local from fields) response table = noted_if (miss_of_set_up response) from table
after_event event response table = table
