-- Which frames of a log are sent again by a NAK (Aeron Transport Protocol Specification, loss recovery). Who is asked
-- first is this project's own.
use Rattle.std.specs.Prelude.{◌≡◌, ℕ, ◌-◌, ◌*◌, ◌/◌, max, unsigned_abs, true, false, Bool, List, filter, if◌then◌else◌}
use Rattle.std.specs.declared.ops.Range.{Range}
use Rattle.frame_codec.specs.declared.nak.Nak.{Nak}
use Rattle.frame_codec.specs.Position.{position_of}
use Rattle.log_traffic.specs.declared.resending.NakAnswer.{NakAnswer}
use Rattle.log_traffic.specs.declared.resending.NakAnswer.TheVariants as answers
use Rattle.log_traffic.specs.Datagrams.{Resending, datagrams_of}
use Rattle.policy_core.specs.declared.decision.Decision.{Decision}
use Rattle.retransmit_gate.specs.declared.answer.Answer.{Answer}
use Rattle.retransmit_gate.specs.declared.answer.Answer.TheVariants as words
use Rattle.retransmit_gate.specs.Gate.{Resends, kept_of}
use Rattle.retransmit_gate.specs.ResendLaws.{Asking, after_asking}
use Rattle.term_log.specs.declared.ident.Ident.{Ident}
use Rattle.term_log.specs.Log.{Log}
use Rattle.term_log.specs.Ranges.{meets}
use Rattle.term_log.specs.Reading.{Given, all_given}
use Rattle.term_log.specs.Whole.{Stands, Whole, tail_of}

-- ---- what a NAK asks the gate of a log

-- the position that it asks for
abbrev pub asked_at : Ident → Nak → ℕ
asked_at i nak = position_of i.initial_term nak.term_id nak.term_offset i.term_length

-- The positions that may be sent again of a log with that tail, of which all up to a position was sent: what is held, that
-- is, the term of the tail and the two before it, within one term below what was sent.
unfoldable pub window_at : Ident → ℕ → ℕ → Range ℕ
window_at i tail sent = record {
  start = max (max i.start ((tail / i.term_length - 2) * i.term_length)) (sent - i.term_length);
  end = sent;
}

abbrev pub asking_at : ℕ → Ident → ℕ → ℕ → Nak → Asking
asking_at now i tail sent nak =
    record { now = now; position = asked_at i nak; size = nak.length; window = window_at i tail sent }

-- of a log that is held
abbrev pub asking_of : ℕ → Log → Nak → Asking
asking_of now l nak = asking_at now l.kept.ident l.kept.tail l.sender.position nak

-- of a whole log
abbrev pub asking_in : ℕ → Whole → Nak → Asking
asking_in now w nak = asking_at now w.ident (tail_of w) w.sender.position nak

-- what the gate keeps then, which sees what is allowed alone
abbrev pub gate_after : Bool → Resends → Asking → Resends
gate_after allowed gate asking = if allowed then kept_of (after_asking gate asking) else gate

-- ---- what is sent again

-- all frames whose ranges meet a range, in order
abbrev pub frames_meeting : ℕ → ℕ → Whole → List Given
frames_meeting position size w = filter (meets position size) (all_given w.ident w.ident.start w.frames)

-- those that a NAK asks for
abbrev pub asked_of : Whole → Nak → List Given
asked_of w nak = frames_meeting (asked_at w.ident nak) (unsigned_abs nak.length) w

-- the datagrams of these
unfoldable pub resent_of : Whole → Nak → List (List ℕ)
resent_of w nak = datagrams_of w.ident.term_length w.ident.mtu (asked_of w nak)

-- of a log that is held, whichever whole log it stands for
pub record ResendsOver (l : Log) (nak : Nak) (resending : Resending) : Type 0 where
  pub mtu : resending.mtu ≡ l.kept.ident.mtu
  pub on : (w : Whole) → Stands l w → resending.datagrams ≡ resent_of w nak

-- What becomes of a NAK: it is denied by the decision, or the gate refuses it, or what it asks for is sent again.
abbrev pub IsNakAnswer : Decision → Answer → Log → Nak → NakAnswer → Type 0
IsNakAnswer decision word l nak (answers.Denied by) = (decision.verdict.allow ≡ false) × (by ≡ decision)
IsNakAnswer decision word l nak answers.Empty = (decision.verdict.allow ≡ true) × (word ≡ words.Empty)
IsNakAnswer decision word l nak answers.OutOfWindow = (decision.verdict.allow ≡ true) × (word ≡ words.OutOfWindow)
IsNakAnswer decision word l nak answers.Lingering = (decision.verdict.allow ≡ true) × (word ≡ words.Lingering)
IsNakAnswer decision word l nak answers.Busy = (decision.verdict.allow ≡ true) × (word ≡ words.Busy)
IsNakAnswer decision word l nak (answers.Resent datagrams) =
    (decision.verdict.allow ≡ true) × (word ≡ words.Resend) × ResendsOver l nak datagrams
