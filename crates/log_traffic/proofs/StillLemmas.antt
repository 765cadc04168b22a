-- What is heard, told and sent of a log leaves its frames, who reads it and what it is made for.
use Rattle.std.proofs.Common.{◌≡◌, ℕ, Bool, true, false, cond, map, Option, Some, None, refl, ap}
use Rattle.frame_codec.specs.declared.status_message.StatusMessage.{StatusMessage}
use Rattle.image_log.specs.Rebuilt.{Rebuilt}
use Rattle.log_pairs.specs.declared.pair.Pair.{Pair}
use Rattle.log_traffic.specs.Asking.{after_status as after_hearing}
use Rattle.log_traffic.specs.Held.{for_publication, for_stream}
use Rattle.log_traffic.specs.Reporting.{after_report}
use Rattle.log_traffic.specs.Sending.{after_turn}
use Rattle.log_traffic.specs.Whole.{AnyWhole, whole, rebuilt, made_for, readers_in}
use Rattle.log_traffic.specs.Receiver.{Receiving, after_status}
use Rattle.log_traffic.specs.declared.cutting.DatagramKind.{DatagramKind}
use Rattle.log_traffic.specs.declared.cutting.DatagramKind.TheVariants as kinds
use Rattle.log_traffic.specs.declared.cutting.Pace.{Pace}
use Rattle.log_traffic.specs.Cutting.{after_due, cut_of, due_of}
use Rattle.log_traffic.specs.Hearing.{heard_of}
use Rattle.term_log.specs.Ident.{is_udp}
use Rattle.term_log.specs.SenderSteps.{datagram_cut, sent_on, sent_to, setup_cut}
use Rattle.term_log.specs.Whole.{Whole}

-- ---- two logs of the same frames and readers, made for the same

pub record IsSameWhole (w v : Whole) : Type 0 where
  pub ident : v.ident ≡ w.ident
  pub frames : v.frames ≡ w.frames
  pub pairs : v.pairs ≡ w.pairs

pub record IsSameRebuilt (r s : Rebuilt) : Type 0 where
  pub ident : s.ident ≡ r.ident
  pub frames : s.frames ≡ r.frames
  pub pairs : s.pairs ≡ r.pairs

abbrev pub IsStill : AnyWhole → AnyWhole → Type 0
IsStill (whole w) (whole v) = IsSameWhole w v
IsStill (whole w) (rebuilt s) = ⊥
IsStill (rebuilt r) (whole v) = ⊥
IsStill (rebuilt r) (rebuilt s) = IsSameRebuilt r s

pub is_still : (w : AnyWhole) → IsStill w w
is_still (whole w) = record { ident = refl; frames = refl; pairs = refl }
is_still (rebuilt r) = record { ident = refl; frames = refl; pairs = refl }

pub still_made : (w v : AnyWhole) → IsStill w v → made_for v ≡ made_for w
still_made (whole w) (whole v) still = ap for_publication still.ident
still_made (whole w) (rebuilt s) still = absurd still
still_made (rebuilt r) (whole v) still = absurd still
still_made (rebuilt r) (rebuilt s) still = ap for_stream still.ident

pub still_readers : (w v : AnyWhole) → IsStill w v → readers_in v ≡ readers_in w
still_readers (whole w) (whole v) still = ap (map (λ (pair : Pair). pair.subscription)) still.pairs
still_readers (whole w) (rebuilt s) still = absurd still
still_readers (rebuilt r) (whole v) still = absurd still
still_readers (rebuilt r) (rebuilt s) still = ap (map (λ (pair : Pair). pair.subscription)) still.pairs

-- ---- what leaves a log so

-- a status message changes what the sender keeps
pub hearing_still : (now : ℕ) (message : StatusMessage) (w : AnyWhole) → IsStill w (after_hearing now message w)
unfolding heard_of
hearing_still now message (whole w) = record { ident = refl; frames = refl; pairs = refl }
hearing_still now message (rebuilt r) = record { ident = refl; frames = refl; pairs = refl }

told_same : (b : Bool) (r s : Rebuilt) → IsSameRebuilt r s → IsSameRebuilt r (cond b s r)
told_same true r s same = same
told_same false r s same = record { ident = refl; frames = refl; pairs = refl }

-- what is due to a publisher changes the status message that was told last
pub report_still : (now : ℕ) (receiver : Receiving) (w : AnyWhole) → IsStill w (after_report now receiver w)
unfolding after_status
report_still now receiver (whole w) = record { ident = refl; frames = refl; pairs = refl }
report_still now receiver (rebuilt r) = told_same _ r _ (record { ident = refl; frames = refl; pairs = refl })

due_same : (now : ℕ) (w : Whole) (due : Option DatagramKind) → IsSameWhole w (after_due now w due)
unfolding setup_cut datagram_cut sent_on sent_to
due_same now w None = record { ident = refl; frames = refl; pairs = refl }
due_same now w (Some kinds.Setup) = record { ident = refl; frames = refl; pairs = refl }
due_same now w (Some kinds.Frames) = record { ident = refl; frames = refl; pairs = refl }
due_same now w (Some kinds.Heartbeat) = record { ident = refl; frames = refl; pairs = refl }

cut_same : (pace : Pace) (now : ℕ) (w : Whole) → IsSameWhole w (cut_of pace now w)
unfolding cut_of
cut_same pace now w = due_same now w (due_of pace now w)

turned_still : (b : Bool) (w v : Whole) → IsSameWhole w v → IsStill (whole w) (cond b (whole v) (whole w))
turned_still true w v same = same
turned_still false w v same = record { ident = refl; frames = refl; pairs = refl }

-- a turn of the sender changes what it keeps
pub turn_still : (pace : Pace) (now : ℕ) (w : AnyWhole) → IsStill w (after_turn pace now w)
turn_still pace now (whole w) = turned_still (is_udp w.ident.kind) w _ (cut_same pace now w)
turn_still pace now (rebuilt r) = record { ident = refl; frames = refl; pairs = refl }
