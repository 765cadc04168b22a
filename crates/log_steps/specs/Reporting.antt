-- A turn of the receiver with the log of an image. Own rules.
use Rattle.std.specs.Prelude.{ℕ, List, Option, Some, None}
use Rattle.log_traffic.specs.Reporting.{after_report, receiver_behind, report_of}
use Rattle.channel_uri.specs.declared.address.Address.{Address}
use Rattle.log_steps.specs.declared.answer.Answer.{Answer}
use Rattle.log_steps.specs.declared.answer.Answer.TheVariants.{Gone, Reported}
use Rattle.driver_core.specs.PublicationRequests.{publisher_of}
use Rattle.driver_core.specs.State.{State}
use Rattle.log_steps.specs.Moves.{Move, WholeLog, answered}

-- what is due goes to the publisher's address; a publication of this driver has no publisher elsewhere
abbrev pub answer_reported : Address → Option (List (List ℕ)) → Answer
answer_reported to None = Gone
answer_reported to (Some datagrams) = Reported to datagrams

-- by a receiver of that id; what is due counts as reported, whoever gets it
abbrev pub report_move : ℕ → ℕ → Address → WholeLog → Move
report_move now id to log = record {
  after = record log {
    whole = after_report now log.recovery.receiver log.whole;
    recovery = record log.recovery { receiver = receiver_behind now log.recovery.receiver log.whole };
  };
  answer = answer_reported to (report_of now id log.recovery.receiver log.whole);
}

-- as the registry says who publishes the image of that number
abbrev pub report_by : State → ℕ → WholeLog → Option Address → Move
report_by s now log None = answered log Gone
report_by s now log (Some to) = report_move now s.settings.receiver_id to log

abbrev pub image_move : State → ℕ → WholeLog → Move
image_move s now log = report_by s now log (publisher_of s log.source)
