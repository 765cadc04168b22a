-- A turn of the sender with the log of a publication. Own rules.
use Rattle.std.specs.Prelude.{ℕ, Bool, List, Option, Some, None}
use Rattle.log_traffic.specs.Sending.{after_turn, turn_of}
use Rattle.learnt_addresses.specs.declared.learnt_address.LearntAddress.{LearntAddress}
use Rattle.learnt_addresses.specs.LearntAddresses.{standing}
use Rattle.driver_core.specs.declared.asked.send_request.Outlet.{Outlet}
use Rattle.driver_core.specs.declared.state.settings.Settings.{Settings}
use Rattle.driver_core.specs.SendRequests.{outlets_of, sending_of}
use Rattle.driver_core.specs.State.{State}
use Rattle.log_steps.specs.declared.answer.Answer.{Answer}
use Rattle.log_steps.specs.declared.answer.Answer.TheVariants.{Gone, Idle, Sent}
use Rattle.log_steps.specs.Hearing.{with_learnt}
use Rattle.log_steps.specs.Moves.{Move, WholeLog, answered}
use Rattle.log_traffic.specs.declared.cutting.Pace.{Pace}

-- how often a sender says what
abbrev pub pace_of : Settings → Pace
pace_of settings = record {
  connection_timeout = settings.connection_timeout;
  setup_interval = settings.setup_interval;
  heartbeat_interval = settings.heartbeat_interval;
}

-- the one datagram, and where it goes or may not go; nothing is due; the log is not sent
abbrev pub answer_sent : List Outlet → Option (Option (List ℕ)) → Answer
answer_sent outlets None = Gone
answer_sent outlets (Some None) = Idle
answer_sent outlets (Some (Some bytes)) = Sent bytes outlets

-- the addresses that the log has learnt, but for those of which nothing was heard for longer than the timeout
abbrev pub standing_of : Settings → ℕ → WholeLog → List LearntAddress
standing_of settings now log = standing now settings.destination_timeout log.recovery.learnt

-- they are forgotten
abbrev pub expired : Settings → ℕ → WholeLog → WholeLog
expired settings now log = with_learnt (standing_of settings now log) log

-- the addresses past the timeout are forgotten, also where nothing is due; the log moves on by what was cut, whoever gets it
abbrev pub send_by : State → ℕ → WholeLog → Option Bool → Move
send_by s now log None = answered log Gone
send_by s now log (Some lingers) = record {
  after = record (expired s.settings now log) { whole = after_turn (pace_of s.settings) now log.whole };
  answer =
      answer_sent (outlets_of s (standing_of s.settings now log) log.source)
      (turn_of (pace_of s.settings) now lingers log.whole);
}

-- as the registry says that the publication of that number lingers, and where it goes
unfoldable pub send_move : State → ℕ → WholeLog → Move
send_move s now log = send_by s now log (sending_of s log.source)
