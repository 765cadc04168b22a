-- The sender's turns at the end of every run: which datagram is cut, where it goes, and by whose leave.
use Rattle.std.specs.Prelude.{◌≡◌, ℕ, true, false, List, map, Option, Some, None}
use Rattle.std.specs.Option.{is_some}
use Rattle.destinations.specs.declared.destination.Destination.{Destination}
use Rattle.destinations.specs.Destinations.{of}
use Rattle.driver_core.specs.declared.asked.send_request.Outlet.{Outlet}
use Rattle.driver_core.specs.Renewal.{source_at}
use Rattle.driver_core.specs.PublicationRequests.{principal_at}
use Rattle.driver_core.specs.SendRequests.{is_sent, learnt_outlet, outlet_channel, outlet_of, sending_of}
use Rattle.driver_core.specs.State.{State}
use Rattle.driver_core.specs.Verdicts.{IsByPolicy}
use Rattle.log_steps.specs.declared.answer.Answer.TheVariants.{Gone, Idle, Sent}
use Rattle.driver_steps.specs.declared.step.Step.TheVariants.{Send}
use Rattle.driver_steps.specs.Ends.{RunEnd, Moved, log_at, moved, with_log}
use Rattle.driver_steps.specs.Laws.{AtEachEnd, stays}
use Rattle.log_steps.specs.Moves.{WholeLog}
use Rattle.log_steps.specs.Sending.{expired, pace_of, standing_of}
use Rattle.learnt_addresses.specs.declared.learnt_address.LearntAddress.{LearntAddress}
use Rattle.log_traffic.specs.Whole.{whole}
use Rattle.log_traffic.specs.Cutting.{cut_of, datagram_of}
use Rattle.policy_core.specs.declared.act.Act.TheVariants.{Send as ToSend}
use Rattle.policy_core.specs.Question.{Question}
use Rattle.stream_registry.specs.declared.row.LogRow.{LogRow}
use Rattle.stream_registry.specs.Origins.{lingering_since}
use Rattle.stream_registry.specs.Places.{is_dynamic}
use Rattle.term_log.specs.Whole.{Whole}

-- whether a datagram may go to a destination: its maker's principal is asked for, on the destination's channel where it was
-- named by hand and else on the log's, and on the log's stream
abbrev pub send_question : LogRow → Destination → Question
send_question publication destination = record {
  principal = destination.principal;
  act = ToSend;
  channel = outlet_channel publication destination;
  stream = publication.stream;
}

-- it goes to that address, and the first rule that matches, or the default, says whether it may
pub record OutletIsDecided (s : State) (publication : LogRow) (destination : Destination) (outlet : Outlet) : Type 0 where
  pub to_is : outlet.to ≡ destination.address
  pub by : IsByPolicy s (send_question publication destination) outlet.decision.verdict

-- whether it may go to an address that was learnt: the principal that is bound to the address is asked for, on the log's
-- channel and stream
abbrev pub learnt_question : State → LogRow → LearntAddress → Question
learnt_question s publication learnt = record {
  principal = principal_at s.peers learnt.address;
  act = ToSend;
  channel = publication.channel;
  stream = publication.stream;
}

-- it goes to that address, and the first rule that matches, or the default, says whether it may
pub record LearntIsDecided (s : State) (publication : LogRow) (learnt : LearntAddress) (outlet : Outlet) : Type 0 where
  pub to_is : outlet.to ≡ learnt.address
  pub by : IsByPolicy s (learnt_question s publication learnt) outlet.decision.verdict

-- addresses of which nothing was heard for longer than the timeout are forgotten, and no other log is changed
abbrev pub idle_by_log : RunEnd → ℕ → WholeLog → Moved
idle_by_log e now log = record {
  after = record e { logs = with_log e.logs log.source (expired e.registry.settings now log) };
  answer = Idle;
}

-- the log moves on by what was cut, whoever gets it, and no other log is changed
abbrev pub cut_by_log : RunEnd → ℕ → WholeLog → Whole → List ℕ → List Outlet → Moved
cut_by_log e now log frames bytes outlets = record {
  after = record e {
    logs = with_log e.logs log.source
        (record (expired e.registry.settings now log) { whole = whole (cut_of (pace_of e.registry.settings) now frames) });
  };
  answer = Sent bytes outlets;
}

-- the datagram that is due of all frames that were ever appended
abbrev pub due_of_log : RunEnd → ℕ → LogRow → Whole → Option (List ℕ)
due_of_log e now publication frames =
    datagram_of (pace_of e.registry.settings) now (is_some (lingering_since publication)) frames

-- Nothing is sent where nothing is due; else one datagram, for each destination of the publication, in the order in which
-- they were named, or for each address that the log has learnt and that is not past the timeout, in the order in which they
-- were learnt.
pub record SendIsDecided (e : RunEnd) (now : ℕ) (publication : LogRow) (log : WholeLog) (frames : Whole) (what : Moved) : Type 0 where
  pub outlets : List Outlet
  pub named :
      is_dynamic publication.channel ≡ false →
      outlets ≡ map (outlet_of e.registry publication) (of e.registry.destinations.rows publication.number)
  pub learnt :
      is_dynamic publication.channel ≡ true →
      outlets ≡ map (learnt_outlet e.registry publication) (standing_of e.registry.settings now log)
  pub decided :
      (destination : Destination) →
      OutletIsDecided e.registry publication destination (outlet_of e.registry publication destination)
  pub decided_learnt :
      (learnt : LearntAddress) → LearntIsDecided e.registry publication learnt (learnt_outlet e.registry publication learnt)
  pub idle : due_of_log e now publication frames ≡ None → what ≡ idle_by_log e now log
  pub sent :
      (bytes : List ℕ) → due_of_log e now publication frames ≡ Some bytes →
      what ≡ cut_by_log e now log frames bytes outlets

-- the log of a publication is one of frames that were appended
pub record SendsAreDecided (e : RunEnd) : Type 0 where
  pub there :
      (now source : ℕ) (publication : LogRow) (log : WholeLog) →
      source_at e.registry.streams.sources source ≡ Some publication → is_sent publication ≡ true →
      log_at e.logs source ≡ Some log →
      (frames : Whole)
      × (log.whole ≡ whole frames)
      × SendIsDecided e now publication log frames (moved e (Send now source))
  pub gone :
      (now source : ℕ) → sending_of e.registry source ≡ None → moved e (Send now source) ≡ stays e Gone

abbrev pub SendsAreGrantedExactly : Type 0
SendsAreGrantedExactly = AtEachEnd SendsAreDecided
