-- No call but an offer changes how many messages a log has taken, whatever the log stands for.
use Rattle.std.proofs.Common.{◌≡◌, ℕ, Bool, true, false, List, Option, Some, None, refl, ap}
use Rattle.std.specs.Prelude.{if◌then◌else◌}
use Rattle.frame_codec.specs.declared.header.TermPlace.{TermPlace}
use Rattle.frame_codec.specs.declared.status_message.StatusMessage.{StatusMessage}
use Rattle.frame_codec.specs.Frame.{Sent}
use Rattle.log_pairs.specs.Pairs.{position_of}
use Rattle.log_traffic.specs.Asking.{after_status}
use Rattle.log_traffic.specs.Reporting.{after_report}
use Rattle.log_traffic.specs.Sending.{after_turn}
use Rattle.log_traffic.specs.Whole.{AnyWhole, whole, rebuilt, beaten, messages_in, polled, received}
use Rattle.log_traffic.specs.Receiver.{Receiving}
use Rattle.log_traffic.specs.declared.cutting.DatagramKind.{DatagramKind}
use Rattle.log_traffic.specs.declared.cutting.DatagramKind.TheVariants as kinds
use Rattle.log_traffic.specs.declared.cutting.Pace.{Pace}
use Rattle.log_traffic.specs.Cutting.{after_due, cut_of, due_of}
use Rattle.log_traffic.specs.Hearing.{heard_of}
use Rattle.term_log.specs.Frames.{messages_of}
use Rattle.term_log.specs.SenderSteps.{datagram_cut, sent_on, sent_to, setup_cut}
use Rattle.term_log.specs.Whole.{Whole, polled as term_polled, polled_from}

-- ---- a poll

polled_from_keeps : (w : Whole) (subscription limit : ℕ) (at : Option ℕ) → (polled_from w subscription limit at).after.frames ≡ w.frames
polled_from_keeps w subscription limit None = refl
polled_from_keeps w subscription limit (Some at) = refl

pub polled_keeps : (w : AnyWhole) (subscription limit : ℕ) → messages_in (polled w subscription limit).after ≡ messages_in w
unfolding term_polled
polled_keeps (whole w) subscription limit = ap messages_of (polled_from_keeps w subscription limit (position_of w.pairs subscription))
polled_keeps (rebuilt r) subscription limit = refl

-- ---- what comes

pub received_keeps : (w : AnyWhole) (now : ℕ) (frames : List Sent) → messages_in (received now frames w) ≡ messages_in w
received_keeps (whole w) now frames = refl
received_keeps (rebuilt r) now frames = refl

pub beaten_keeps : (w : AnyWhole) (now : ℕ) (place : TermPlace) → messages_in (beaten now place w) ≡ messages_in w
beaten_keeps (whole w) now place = refl
beaten_keeps (rebuilt r) now place = refl

pub status_keeps : (w : AnyWhole) (now : ℕ) (message : StatusMessage) → messages_in (after_status now message w) ≡ messages_in w
unfolding heard_of
status_keeps (whole w) now message = refl
status_keeps (rebuilt r) now message = refl

pub report_keeps : (w : AnyWhole) (now : ℕ) (receiver : Receiving) → messages_in (after_report now receiver w) ≡ messages_in w
report_keeps (whole w) now receiver = refl
report_keeps (rebuilt r) now receiver = refl

-- ---- a turn of the sender

due_keeps : (w : Whole) (now : ℕ) (due : Option DatagramKind) → (after_due now w due).frames ≡ w.frames
unfolding datagram_cut sent_on sent_to setup_cut
due_keeps w now None = refl
due_keeps w now (Some kinds.Setup) = refl
due_keeps w now (Some kinds.Frames) = refl
due_keeps w now (Some kinds.Heartbeat) = refl

turn_by : (w : Whole) (pace : Pace) (now : ℕ) (sends : Bool) → messages_in (if sends then whole (cut_of pace now w) else whole w) ≡ messages_in (whole w)
unfolding cut_of
turn_by w pace now true = ap messages_of (due_keeps w now (due_of pace now w))
turn_by w pace now false = refl

pub turn_keeps : (w : AnyWhole) (pace : Pace) (now : ℕ) → messages_in (after_turn pace now w) ≡ messages_in w
turn_keeps (whole w) pace now = turn_by w pace now _
turn_keeps (rebuilt r) pace now = refl
