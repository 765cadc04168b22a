-- What is sent again on a NAK comes from the live log, to who asks, where the policy allows it. Own rules.
use Rattle.std.specs.Prelude.{◌≡◌, ℕ, true, false, List, Some, Ok}
use Rattle.channel_uri.specs.declared.address.Address.{Address}
use Rattle.driver_core.specs.PublicationRequests.{principal_at, publication_at}
use Rattle.driver_core.specs.State.{State}
use Rattle.driver_core.specs.Verdicts.{IsByPolicy}
use Rattle.log_steps.specs.declared.answer.Answer.TheVariants.{Dropped, Resent}
use Rattle.log_steps.specs.declared.cause.Cause.TheVariants.{Denied}
use Rattle.driver_steps.specs.declared.step.Step.TheVariants.{Packet}
use Rattle.driver_steps.specs.Ends.{RunEnd, log_at, moved, IsAnswer}
use Rattle.driver_steps.specs.Laws.{AtEachEnd, stays}
use Rattle.log_steps.specs.Moves.{WholeLog}
use Rattle.frame_codec.specs.declared.nak.Nak.{Nak}
use Rattle.frame_codec.specs.Datagram.{nak, packet_of}
use Rattle.log_traffic.specs.Whole.{whole}
use Rattle.log_traffic.specs.Resending.{resent_of}
use Rattle.policy_core.specs.declared.act.Act.TheVariants.{Retransmit}
use Rattle.policy_core.specs.declared.verdict.Verdict.{Verdict}
use Rattle.policy_core.specs.Question.{Question}
use Rattle.policy_core.specs.Rules.{verdict_of}
use Rattle.stream_registry.specs.declared.row.LogRow.{LogRow}
use Rattle.term_log.specs.Whole.{Whole}

-- whether the principal that is bound to the address may have frames again, on the log's channel and stream
abbrev pub resend_question : State → Address → LogRow → Question
resend_question s from publication = record {
  principal = principal_at s.peers from;
  act = Retransmit;
  channel = publication.channel;
  stream = publication.stream;
}

abbrev pub resend_verdict : State → Address → LogRow → Verdict
resend_verdict s from publication = verdict_of s.policy s.epoch (resend_question s from publication)

-- These datagrams are what the NAK asks for of all frames of the publication of its session and stream, whose log is open.
-- They go to the address that asks, and the verdict allows it, which is the first matching rule's or the default's.
pub record IsResentFrom (e : RunEnd) (from : Address) (fields : Nak) (to : Address) (datagrams : List (List ℕ)) : Type 0 where
  pub publication : LogRow
  pub publication_is : publication_at e.registry fields.session_id fields.stream_id ≡ Some publication
  pub by :
      IsByPolicy e.registry (resend_question e.registry from publication) (resend_verdict e.registry from publication)
  pub allows : (resend_verdict e.registry from publication).allow ≡ true
  pub to_is : to ≡ from
  pub log : WholeLog
  pub live : log_at e.logs publication.number ≡ Some log
  pub frames : Whole
  pub frames_are : log.whole ≡ whole frames
  pub datagrams_are : datagrams ≡ resent_of frames fields

pub record ResendsAreDecided (e : RunEnd) : Type 0 where
  pub resent :
      (now : ℕ) (local from to : Address) (bytes : List ℕ) (datagrams : List (List ℕ)) →
      IsAnswer e (Packet now local from bytes) (Resent to datagrams) →
      (fields : Nak) × (packet_of bytes ≡ Ok (nak fields)) × IsResentFrom e from fields to datagrams
  pub denied :
      (now : ℕ) (local from : Address) (bytes : List ℕ) (fields : Nak) (publication : LogRow) →
      packet_of bytes ≡ Ok (nak fields) →
      publication_at e.registry fields.session_id fields.stream_id ≡ Some publication →
      (resend_verdict e.registry from publication).allow ≡ false →
      moved e (Packet now local from bytes) ≡ stays e (Dropped (Denied (resend_verdict e.registry from publication)))

abbrev pub ResendsComeFromTheLiveLog : Type 0
ResendsComeFromTheLiveLog = AtEachEnd ResendsAreDecided
