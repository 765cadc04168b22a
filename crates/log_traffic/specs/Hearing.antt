-- What becomes of a publication's log by a status message (Aeron Transport Protocol Specification, flow control by status
-- messages). What is done on one is this project's own.
use Rattle.std.specs.Prelude.{ℕ, ◌/◌, true, min, if◌then◌else◌}
use Rattle.frame_codec.specs.declared.status_message.StatusMessage.{StatusMessage}
use Rattle.frame_codec.specs.Flags.{asks_for_setup}
use Rattle.frame_codec.specs.Position.{position_of}
use Rattle.log_traffic.specs.declared.hearing.StatusAnswer.{StatusAnswer}
use Rattle.log_traffic.specs.declared.hearing.StatusAnswer.TheVariants.{Elicited, Limit, OutOfWindow}
use Rattle.term_log.specs.declared.ident.Ident.{Ident}
use Rattle.term_log.specs.declared.status.Status.{Status}
use Rattle.term_log.specs.declared.status.Status.TheVariants as statuses
use Rattle.term_log.specs.Sender.{Sending, after_status, status_of}
use Rattle.term_log.specs.Whole.{Whole}

-- the position up to which the receiver took all
abbrev pub consumed : Ident → StatusMessage → ℕ
consumed i message = position_of i.initial_term message.consumption_term_id message.consumption_term_offset i.term_length

-- how much room after it counts: half a term at most
abbrev pub room_of : Ident → StatusMessage → ℕ
room_of i message = min message.receiver_window (i.term_length / 2)

-- what it says of how far may be sent
abbrev pub status_by : Ident → Sending → StatusMessage → Status
status_by i s message = status_of s (consumed i message) (room_of i message)

abbrev pub answer_as : Status → StatusAnswer
answer_as (statuses.Accepted limit) = Limit limit
answer_as statuses.OutOfWindow = OutOfWindow

-- one that asks for a SETUP does nothing else
unfoldable pub answer_of : Ident → Sending → StatusMessage → StatusAnswer
answer_of i s message = if asks_for_setup message.flags then Elicited else answer_as (status_by i s message)

abbrev pub sending_after : ℕ → Ident → Sending → StatusMessage → Sending
sending_after now i s message =
    if asks_for_setup message.flags then record s { elicited = true } else after_status (status_by i s message) now s

-- the log after it
unfoldable pub heard_of : ℕ → StatusMessage → Whole → Whole
heard_of now message w = record w { sender = sending_after now w.ident w.sender message }
