-- The frames of a publication's log are sound where they stand, and its sender stands where one begins, whatever is done with it.
use Rattle.std.proofs.Common.{◌≡◌, ℕ, ◌+◌, ◌*◌, ◌%◌, ◌<◌, ◌≤◌, Bool, true, false, cond, List, [], ◌∷◌, ◌++◌, length, map, drop, Option, Some, None, refl, sym, subst, ◌∙◌, append_assoc, arith}
use Rattle.std.specs.Prelude.{nat_lt, nat_le}
use Rattle.std.specs.List.{range_with_len}
use Rattle.std.proofs.lemmas.Bool.{cond_both}
use Rattle.std.proofs.lemmas.Bool.Decides.{nat_tests}
use Rattle.std.proofs.lemmas.List.{length-take}
use Rattle.driver_laws.proofs.WireLemmas.{due_frames}
use Rattle.frame_codec.specs.Flags.{asks_for_setup}
use Rattle.frame_codec.specs.Frame.{padded}
use Rattle.frame_codec.specs.declared.status_message.StatusMessage.{StatusMessage}
use Rattle.log_traffic.specs.declared.cutting.DatagramKind.{DatagramKind}
use Rattle.log_traffic.specs.declared.cutting.DatagramKind.TheVariants as kinds
use Rattle.log_traffic.specs.declared.cutting.Pace.{Pace}
use Rattle.log_traffic.specs.Cutting.{after_due, cut_of, due_of}
use Rattle.log_traffic.specs.Hearing.{heard_of, sending_after}
use Rattle.term_log.specs.declared.ident.Ident.{Ident}
use Rattle.term_log.specs.declared.offer.Offer.{Offer}
use Rattle.term_log.specs.Cut.{cut, last_part, part_of}
use Rattle.term_log.specs.Frames.{Frame, IsRun, fragment, pad, span, total}
use Rattle.term_log.specs.Ident.{IsIdent, greatest_position, payload_length}
use Rattle.term_log.specs.Kept.{IsStart}
use Rattle.term_log.specs.Log.{answer_of, appended_at, greatest_message, rest_at}
use Rattle.term_log.specs.Sender.{Sending}
use Rattle.term_log.specs.SenderSteps.{datagram_cut, next_frames, sent_on, sent_to, setup_cut}
use Rattle.term_log.specs.Whole.{Whole, answer_to, fresh, limit_at, offered, tail_of}
use Rattle.term_log.proofs.Held.{total_both}
use Rattle.term_log.proofs.Places.{aligned_rest, mod_within}
use Rattle.term_log.proofs.Starts.{start_more}

-- each frame is sound where it stands, the next one begins at a multiple of 32, and the sender stands where one begins or after
-- the last
pub record IsWell (w : Whole) : Type 0 where
  pub run : IsRun w.ident w.ident.start w.frames
  pub aligned : tail_of w % 32 ≡ 0
  pub sent : IsStart w.ident.start w.frames w.sender.position

-- ---- a log that begins

pub well_begins : (i : Ident) → IsIdent i → IsWell (fresh i)
well_begins i sound = record {
  run = tt;
  aligned = omega (arith, sound.start_aligned);
  sent = record { before = []; after = []; is = refl; place = omega arith };
}

-- ---- what is appended

run_both : (i : Ident) (position : ℕ) (fs gs : List Frame) → IsRun i position fs → IsRun i (position + total fs) gs → IsRun i position (fs ++ gs)
run_both i position [] gs first second =
    let here : position + 0 ≡ position = omega arith in subst (λ (p : ℕ). IsRun i p gs) here second
run_both i position (f ∷ fs) gs first second =
    let here : position + (span f + total fs) ≡ position + span f + total fs = omega arith in
    (first.0, run_both i (position + span f) fs gs first.1 (subst (λ (p : ℕ). IsRun i p gs) here second))

-- frames that carry parts of a message
abbrev AreParts : ℕ → List Frame → Type 0
AreParts most [] = Unit {0}
AreParts most (fragment flags payload ∷ fs) = (32 + length payload ≤ most) × AreParts most fs
AreParts most (pad size ∷ fs) = ⊥

parts_are : (payload most : ℕ) (message : List ℕ) → 32 + payload ≤ most → (xs : List ℕ) → AreParts most (map (part_of payload message) xs)
parts_are payload most message fits [] = tt
parts_are payload most message fits (x ∷ xs) =
    let size = length-take payload (drop (x * payload) message) in
    (omega (arith, size, fits), parts_are payload most message fits xs)

parts_aligned : (most : ℕ) (fs : List Frame) → AreParts most fs → total fs % 32 ≡ 0
parts_aligned most [] parts = omega arith
parts_aligned most (fragment flags payload ∷ fs) parts = (let rest = parts_aligned most fs parts.1 in omega (arith, rest))
parts_aligned most (pad size ∷ fs) parts = absurd parts

-- they stand in one term
parts_run : (i : Ident) (position : ℕ) (fs : List Frame) → 0 < i.term_length → AreParts i.mtu fs →
    position % i.term_length + total fs ≤ i.term_length → IsRun i position fs
parts_run i position [] some parts fits = tt
parts_run i position (pad size ∷ fs) some parts fits = absurd parts
parts_run i position (fragment flags payload ∷ fs) some parts fits =
    let s : ℕ = padded (32 + length payload) in
    let rest : (position + s) % i.term_length + total fs ≤ i.term_length =
    elim (nat_le i.term_length (position % i.term_length + s)) as (λ b. nat_le i.term_length (position % i.term_length + s) ≡ b →
    (position + s) % i.term_length + total fs ≤ i.term_length) [
      | true ↦ λ is.
          let over : i.term_length ≤ position % i.term_length + s = grind (arith, nat_tests, is) in
          let none : total fs ≡ 0 = omega (arith, fits, over) in
          omega (arith, none, some)
      | false ↦ λ is.
          let under : position % i.term_length + s < i.term_length = grind (arith, nat_tests, is) in
          let goes = mod_within position s i.term_length some under in
          omega (arith, goes, fits)
    ]
    refl in
    ((parts.0, omega (arith, fits)), parts_run i (position + s) fs some parts.1 rest)

record IsAppended (i : Ident) (tail : ℕ) (fs : List Frame) : Type 0 where
  run : IsRun i tail fs
  aligned : total fs % 32 ≡ 0

nothing_more : (i : Ident) (tail : ℕ) → IsAppended i tail []
nothing_more i tail = record { run = tt; aligned = omega arith }

message_fits : (i : Ident) (tail : ℕ) (message : List ℕ) → IsIdent i → total (cut (payload_length i) message) ≤ rest_at i tail →
    IsAppended i tail (cut (payload_length i) message)
unfolding cut
message_fits i tail message sizes fits =
    let parts = parts_are (payload_length i) i.mtu message (omega (arith, sizes.mtu_low)) (range_with_len 0 (last_part (payload_length i) (length message) + 1)) in
    let some : 0 < i.term_length = omega (arith, sizes.term_low) in
    record {
      run = parts_run i tail (cut (payload_length i) message) some parts (omega (arith, fits, some));
      aligned = parts_aligned i.mtu (cut (payload_length i) message) parts;
    }

pad_fits : (i : Ident) (tail : ℕ) → IsIdent i → tail % 32 ≡ 0 → IsAppended i tail (pad (rest_at i tail) ∷ [])
pad_fits i tail sizes aligned =
    let some : 0 < i.term_length = omega (arith, sizes.term_low) in
    let rest = aligned_rest tail i.term_length aligned sizes.term_aligned some in
    record {
      run = ((rest.1, omega (arith, some)), tt);
      aligned = omega (arith, rest.0);
    }

appended_fits : (i : Ident) (tail limit : ℕ) (message : List ℕ) → IsIdent i → tail % 32 ≡ 0 →
    IsAppended i tail (appended_at (answer_of i tail limit message) i tail message)
unfolding answer_of
appended_fits i tail limit message sizes aligned =
    let size : ℕ = total (cut (payload_length i) message) in
    let P : Offer → Type 0 = λ answer. IsAppended i tail (appended_at answer i tail message) in
    cond_both (nat_lt (greatest_message i) (length message)) _ _ P (λ _. nothing_more i tail)
    (λ _. cond_both (nat_lt (greatest_position i) (tail + size)) _ _ P (λ _. nothing_more i tail)
    (λ _. cond_both (nat_le limit tail) _ _ P (λ _. nothing_more i tail)
    (λ _. cond_both (nat_lt (rest_at i tail) size) _ _ P (λ _. pad_fits i tail sizes aligned)
    (λ is.
    let fits : size ≤ rest_at i tail = grind (arith, nat_tests, is) in
    message_fits i tail message sizes fits))))

pub well_offers : (w : Whole) → IsIdent w.ident → IsWell w → (message : List ℕ) → IsWell (offered w message)
unfolding offered
well_offers w sound well message =
    let more : List Frame = appended_at (answer_to w message) w.ident (tail_of w) message in
    let fits = appended_fits w.ident (tail_of w) (limit_at w) message sound well.aligned in
    let sum = total_both w.frames more in
    record {
      run = run_both w.ident w.ident.start w.frames more well.run fits.run;
      aligned = omega (arith, sum, fits.aligned, well.aligned);
      sent = start_more w.ident.start w.sender.position w.frames more well.sent;
    }

-- ---- what is heard, and what is cut

-- the sender keeps something else, and stands there
with_sender : (w : Whole) (sender : Sending) → IsWell w → IsStart w.ident.start w.frames sender.position → IsWell (record w { sender = sender })
with_sender w sender well sent = record { run = well.run; aligned = well.aligned; sent = sent }

heard_place : (b : Bool) (a c s : Sending) → a.position ≡ s.position → c.position ≡ s.position → (cond b a c).position ≡ s.position
heard_place true a c s first second = first
heard_place false a c s first second = second

pub well_hears : (w : Whole) → IsWell w → (now : ℕ) (message : StatusMessage) → IsWell (heard_of now message w)
unfolding heard_of
well_hears w well now message =
    let same : (sending_after now w.ident w.sender message).position ≡ w.sender.position =
    heard_place (asks_for_setup message.flags) _ _ w.sender refl refl in
    with_sender w (sending_after now w.ident w.sender message) well
    (subst (IsStart w.ident.start w.frames) (sym same) well.sent)

sent_start : (w : Whole) → IsWell w → IsStart w.ident.start w.frames (w.sender.position + total (next_frames w))
sent_start w well =
    let due = due_frames w well.sent in
    let place = due.place in
    let sum = total_both due.before (next_frames w) in
    record {
      before = due.before ++ next_frames w;
      after = due.later;
      is = due.is ∙ sym (append_assoc due.before (next_frames w) due.later);
      place = omega (arith, place, sum);
    }

well_due : (now : ℕ) (w : Whole) (due : Option DatagramKind) → IsWell w → IsWell (after_due now w due)
unfolding setup_cut datagram_cut sent_on sent_to
well_due now w None well = well
well_due now w (Some kinds.Setup) well = with_sender w _ well well.sent
well_due now w (Some kinds.Frames) well = with_sender w _ well (sent_start w well)
well_due now w (Some kinds.Heartbeat) well = with_sender w _ well well.sent

pub well_cuts : (w : Whole) → IsWell w → (pace : Pace) (now : ℕ) → IsWell (cut_of pace now w)
unfolding cut_of
well_cuts w well pace now = well_due now w (due_of pace now w) well

-- who reads it makes no difference
pub with_readers : (w v : Whole) → v.ident ≡ w.ident → v.frames ≡ w.frames → v.sender ≡ w.sender → IsWell w → IsWell v
with_readers w v ident frames sender well = record {
  run = rw (ident, frames) well.run;
  aligned = rw (ident, frames) well.aligned;
  sent = rw (ident, frames, sender) well.sent;
}

-- ---- what it is made for stays

pub offered_ident : (w : Whole) (message : List ℕ) → (offered w message).ident ≡ w.ident
unfolding offered
offered_ident w message = refl

pub heard_ident : (now : ℕ) (message : StatusMessage) (w : Whole) → (heard_of now message w).ident ≡ w.ident
unfolding heard_of
heard_ident now message w = refl

due_ident : (now : ℕ) (w : Whole) (due : Option DatagramKind) → (after_due now w due).ident ≡ w.ident
unfolding setup_cut datagram_cut sent_on sent_to
due_ident now w None = refl
due_ident now w (Some kinds.Setup) = refl
due_ident now w (Some kinds.Frames) = refl
due_ident now w (Some kinds.Heartbeat) = refl

pub cut_ident : (pace : Pace) (now : ℕ) (w : Whole) → (cut_of pace now w).ident ≡ w.ident
unfolding cut_of
cut_ident pace now w = due_ident now w (due_of pace now w)
