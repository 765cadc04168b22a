-- Status messages for a publication that learns its destinations, at the end of every run: by whose leave an address becomes
-- one, which addresses are learnt, and which steps change them. Own rules.
use Rattle.std.specs.Prelude.{◌≡◌, ◌⊎◌, ℕ, true, false, All, Some, None, Result, Ok}
use Rattle.channel_uri.specs.declared.address.Address.{Address}
use Rattle.driver_core.specs.PublicationRequests.{principal_at, publication_at}
use Rattle.driver_core.specs.State.{State}
use Rattle.driver_core.specs.Verdicts.{IsByPolicy}
use Rattle.log_steps.specs.declared.answer.Answer.{Answer}
use Rattle.log_steps.specs.declared.answer.Answer.TheVariants.{Dropped}
use Rattle.log_steps.specs.declared.cause.Cause.TheVariants.{Denied, Full as IsFull}
use Rattle.driver_steps.specs.declared.step.Step.{Step}
use Rattle.driver_steps.specs.declared.step.Step.TheVariants.{Packet, Send}
use Rattle.driver_steps.specs.Ends.{RunEnd, Moved, log_at, on_packet, with_log}
use Rattle.log_steps.specs.Hearing.{heard_move, with_learnt}
use Rattle.driver_steps.specs.Laws.{AtEachEnd, stays}
use Rattle.log_steps.specs.Moves.{Move, WholeLog}
use Rattle.driver_steps.specs.Runs.{Reading, left_by, read_by}
use Rattle.log_steps.specs.Sending.{standing_of}
use Rattle.frame_codec.specs.declared.fault.BadPacket.{BadPacket}
use Rattle.frame_codec.specs.declared.status_message.StatusMessage.{StatusMessage}
use Rattle.frame_codec.specs.Datagram.{Content, packet_of, status}
use Rattle.learnt_addresses.specs.declared.learning.Learning.TheVariants.{Full}
use Rattle.learnt_addresses.specs.Laws.{AreOrderly}
use Rattle.learnt_addresses.specs.LearntAddresses.{forgotten, learning, learnt, none}
use Rattle.policy_core.specs.declared.act.Act.TheVariants.{Join}
use Rattle.policy_core.specs.declared.verdict.Verdict.{Verdict}
use Rattle.policy_core.specs.Question.{Question}
use Rattle.policy_core.specs.Rules.{verdict_of}
use Rattle.stream_registry.specs.declared.row.LogRow.{LogRow}
use Rattle.stream_registry.specs.Places.{is_dynamic}

-- whether an address may become a destination: the principal that is bound to it is asked for, on the log's channel and stream
abbrev pub join_question : State → Address → LogRow → Question
join_question s from publication = record {
  principal = principal_at s.peers from;
  act = Join;
  channel = publication.channel;
  stream = publication.stream;
}

abbrev pub join_verdict : State → Address → LogRow → Verdict
join_verdict s from publication = verdict_of s.policy s.epoch (join_question s from publication)

-- that one log moves so, and no other is changed
abbrev pub moved_by_log : RunEnd → WholeLog → Move → Moved
moved_by_log e log move = record {
  after = record e { logs = with_log e.logs log.source move.after };
  answer = move.answer;
}

-- Denied, it is forgotten; where there is no room for it nothing is changed; else it is learnt, or heard of again, and then the
-- log hears the message.
pub record JoinIsDecided (e : RunEnd) (now : ℕ) (from : Address) (fields : StatusMessage) (publication : LogRow) (log : WholeLog) (what : Moved) : Type 0 where
  pub by : IsByPolicy e.registry (join_question e.registry from publication) (join_verdict e.registry from publication)
  pub denied :
      (join_verdict e.registry from publication).allow ≡ false →
      what
      ≡ moved_by_log e log (record {
        after = with_learnt (forgotten from log.recovery.learnt) log;
        answer = Dropped (Denied (join_verdict e.registry from publication));
      })
  pub full :
      (join_verdict e.registry from publication).allow ≡ true → learning log.recovery.learnt from ≡ Full →
      what ≡ stays e (Dropped IsFull)
  pub joined :
      (join_verdict e.registry from publication).allow ≡ true → (learning log.recovery.learnt from ≡ Full → ⊥) →
      what ≡ moved_by_log e log (heard_move now fields (with_learnt (learnt now from log.recovery.learnt) log))

pub record JoinsAreDecided (e : RunEnd) : Type 0 where
  pub there :
      (now : ℕ) (local from : Address) (fields : StatusMessage) (publication : LogRow) (log : WholeLog) →
      publication_at e.registry fields.session_id fields.stream_id ≡ Some publication → is_dynamic publication.channel ≡ true →
      log_at e.logs publication.number ≡ Some log →
      JoinIsDecided e now from fields publication log (on_packet e.registry e now local from (Ok (status fields)))

-- no log has learnt an address twice, or more than 32
abbrev pub LearnOrderly : RunEnd → Type 0
LearnOrderly e = All (λ log. AreOrderly log.recovery.learnt) e.logs

-- ---- which steps change them

-- a status message for the publication of that log: let join, the address is learnt if there is room; denied, it is forgotten
pub record ChangesByStatus (s : State) (now : ℕ) (from : Address) (fields : StatusMessage) (log after : WholeLog) : Type 0 where
  pub publication : LogRow
  pub publication_is : publication_at s fields.session_id fields.stream_id ≡ Some publication
  pub dynamic : is_dynamic publication.channel ≡ true
  pub number_is : publication.number ≡ log.source
  pub joins :
      (join_verdict s from publication).allow ≡ true → after.recovery.learnt ≡ learnt now from log.recovery.learnt
  pub denied :
      (join_verdict s from publication).allow ≡ false → after.recovery.learnt ≡ forgotten from log.recovery.learnt

abbrev pub ChangesByPacket : State → ℕ → Address → Result Content BadPacket → WholeLog → WholeLog → Type 0
ChangesByPacket s now from (Ok (status fields)) log after = ChangesByStatus s now from fields log after
ChangesByPacket s now from read log after = ⊥

-- a status message, or a turn of the sender with that log, at which the addresses past the timeout are forgotten
abbrev pub ChangesBy : State → Step → WholeLog → WholeLog → Type 0
ChangesBy s (Packet now local from bytes) log after = ChangesByPacket s now from (packet_of bytes) log after
ChangesBy s (Send now source) log after =
    (source ≡ log.source) × (after.recovery.learnt ≡ standing_of s.settings now log)
ChangesBy s step log after = ⊥

-- Whichever registry a step goes by, and whatever it is answered: of a log that is open before and after it the same addresses
-- are learnt, heard of at the same moments and in the same order, but for those two changes; and a log begins without any. So
-- an address goes by a denied status message from it, by its timeout, or with its log, and in no other way.
pub record LearntStays (e : RunEnd) : Type 0 where
  pub stays :
      (reading : Reading) (answer : Answer) (number : ℕ) (log after : WholeLog) →
      log_at e.logs number ≡ Some log → log_at (left_by e reading answer).logs number ≡ Some after →
      (after.recovery.learnt ≡ log.recovery.learnt) ⊎ ChangesBy (read_by e reading.older) reading.step log after
  pub begins :
      (reading : Reading) (answer : Answer) (number : ℕ) (after : WholeLog) →
      log_at e.logs number ≡ None → log_at (left_by e reading answer).logs number ≡ Some after →
      after.recovery.learnt ≡ none

pub record AddressesAreLearnt (e : RunEnd) : Type 0 where
  pub joins : JoinsAreDecided e
  pub orderly : LearnOrderly e
  pub stays : LearntStays e

abbrev pub AddressesAreLearntExactly : Type 0
AddressesAreLearntExactly = AtEachEnd AddressesAreLearnt
