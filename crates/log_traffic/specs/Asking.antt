-- What receivers ask of a log by status messages and NAKs (Aeron Transport Protocol Specification, flow control by status
-- messages, loss recovery). Only the log of a publication is asked. What is done on them is this project's own.
use Rattle.std.specs.Prelude.{◌≡◌, ℕ, Bool, true, false, not, Option, Some, None, if◌then◌else◌}
use Rattle.frame_codec.specs.declared.nak.Nak.{Nak}
use Rattle.frame_codec.specs.declared.status_message.StatusMessage.{StatusMessage}
use Rattle.log_traffic.specs.declared.any_log.AnyLog.{AnyLog}
use Rattle.log_traffic.specs.declared.asking.NakReply.{NakReply}
use Rattle.log_traffic.specs.declared.asking.NakReply.TheVariants.{Denied, Empty, OutOfWindow, Lingering, Busy, Resent}
use Rattle.log_traffic.specs.Whole.{AnyWhole, whole, rebuilt, StandsFor}
use Rattle.log_traffic.specs.declared.hearing.StatusAnswer.{StatusAnswer}
use Rattle.log_traffic.specs.Hearing.{answer_of, heard_of}
use Rattle.log_traffic.specs.Resending.{asking_in, gate_after, resent_of}
use Rattle.policy_core.specs.declared.decision.Decision.{Decision}
use Rattle.retransmit_gate.specs.declared.answer.Answer.{Answer as Word}
use Rattle.retransmit_gate.specs.declared.answer.Answer.TheVariants as words
use Rattle.retransmit_gate.specs.Gate.{Resends}
use Rattle.retransmit_gate.specs.ResendLaws.{answer_to}
use Rattle.term_log.specs.Log.{Log}
use Rattle.term_log.specs.Whole.{Stands, Whole}

-- ---- a status message

-- it asks for a SETUP, says how far may be sent, or is dropped
abbrev pub status_answer : StatusMessage → AnyWhole → Option StatusAnswer
status_answer message (whole w) = Some (answer_of w.ident w.sender message)
status_answer message (rebuilt r) = None

abbrev pub after_status : ℕ → StatusMessage → AnyWhole → AnyWhole
after_status now message (whole w) = whole (heard_of now message w)
after_status now message (rebuilt r) = rebuilt r

-- ---- a NAK

-- the gate's word; what it grants is sent again
abbrev pub reply_by : Nak → Whole → Word → NakReply
reply_by nak w words.Empty = Empty
reply_by nak w words.OutOfWindow = OutOfWindow
reply_by nak w words.Lingering = Lingering
reply_by nak w words.Busy = Busy
reply_by nak w words.Resend = Resent (resent_of w nak)

-- the decision comes first, and then the gate, which does not see what is denied
abbrev pub reply_of : Decision → ℕ → Nak → Resends → Whole → NakReply
reply_of decision now nak gate w =
    if not decision.verdict.allow then Denied decision.verdict
    else reply_by nak w (answer_to gate (asking_in now w nak))

abbrev pub nak_reply : Decision → ℕ → Nak → Resends → AnyWhole → Option NakReply
nak_reply decision now nak gate (whole w) = Some (reply_of decision now nak gate w)
nak_reply decision now nak gate (rebuilt r) = None

-- what the gate keeps then
abbrev pub gate_behind : Decision → ℕ → Nak → Resends → AnyWhole → Resends
gate_behind decision now nak gate (whole w) = gate_after decision.verdict.allow gate (asking_in now w nak)
gate_behind decision now nak gate (rebuilt r) = gate

-- datagrams are sent again
abbrev pub is_resent : Option NakReply → Bool
is_resent (Some (Resent datagrams)) = true
is_resent reply = false

-- ---- of a log that is held, whatever it stands for

-- of a publication's log
pub record RepliesTo (decision : Decision) (now : ℕ) (nak : Nak) (gate : Resends) (log : Log) (reply : NakReply) : Type 0 where
  pub on : (w : Whole) → Stands log w → reply ≡ reply_of decision now nak gate w

pub record IsGranted (decision : Decision) (now : ℕ) (nak : Nak) (gate : Resends) (log : Log) : Type 0 where
  pub on : (w : Whole) → Stands log w → is_resent (Some (reply_of decision now nak gate w)) ≡ true

pub record Hears (log : AnyLog) (message : StatusMessage) (answer : Option StatusAnswer) : Type 0 where
  pub on : (w : AnyWhole) → StandsFor log w → answer ≡ status_answer message w

pub record Replies (log : AnyLog) (decision : Decision) (now : ℕ) (nak : Nak) (gate : Resends) (reply : Option NakReply) : Type 0 where
  pub on : (w : AnyWhole) → StandsFor log w → reply ≡ nak_reply decision now nak gate w

pub record Keeps (log : AnyLog) (decision : Decision) (now : ℕ) (nak : Nak) (old new : Resends) : Type 0 where
  pub on : (w : AnyWhole) → StandsFor log w → new ≡ gate_behind decision now nak old w

pub record IsToResend (log : AnyLog) (decision : Decision) (now : ℕ) (nak : Nak) (gate : Resends) : Type 0 where
  pub on : (w : AnyWhole) → StandsFor log w → is_resent (nak_reply decision now nak gate w) ≡ true
