-- The frames of a publication's log are sound where they stand, and its sender stands where one begins, whatever is done with it.
use Rattle.std.proofs.Common.{◌≡◌, ℕ, ◌+◌, ◌-◌, ◌*◌, ◌%◌, ◌<◌, ◌≤◌, Bool, true, false, cond, List, [], ◌∷◌, ◌++◌, length, map, drop, Option, Some, None, refl, sym, ap, ◌∙◌, subst, arith, append_assoc, inl, inr}
use Rattle.std.specs.Prelude.{nat_lt, nat_le, if◌then◌else◌}
use Rattle.std.specs.List.{range_with_len}
use Rattle.std.proofs.lemmas.Bool.{cond_both}
use Rattle.std.proofs.lemmas.List.{length-take}
use Rattle.frame_codec.specs.Flags.{asks_for_setup}
use Rattle.frame_codec.specs.Frame.{padded}
use Rattle.frame_codec.specs.declared.status_message.StatusMessage.{StatusMessage}
use Rattle.image_log.proofs.Tests.{is_ge, is_le, is_lt, le_no, le_or}
use Rattle.log_traffic.specs.declared.cutting.DatagramKind.{DatagramKind}
use Rattle.log_traffic.specs.declared.cutting.DatagramKind.TheVariants as kinds
use Rattle.log_traffic.specs.declared.cutting.Pace.{Pace}
use Rattle.log_traffic.specs.Cutting.{after_due, cut_of, due_of}
use Rattle.log_traffic.specs.Hearing.{heard_of, sending_after}
use Rattle.term_log.specs.declared.ident.Ident.{Ident}
use Rattle.term_log.specs.declared.offer.Offer.{Offer}
use Rattle.term_log.specs.Cut.{cut, last_part, part_of}
use Rattle.term_log.specs.Frames.{Frame, IsRun, fragment, pad, span, total}
use Rattle.term_log.specs.Ident.{IsIdent, greatest_position, payload_length}
use Rattle.term_log.specs.Kept.{IsStart}
use Rattle.term_log.specs.Log.{answer_of, appended_at, greatest_message, rest_at}
use Rattle.term_log.specs.Reading.{of_term, sent_size, within}
use Rattle.term_log.specs.Sender.{Sending, budget_of}
use Rattle.term_log.specs.SenderSteps.{datagram_cut, frames_for, next_frames, sent_on, sent_to, setup_cut}
use Rattle.term_log.specs.Whole.{Whole, answer_to, fresh, frames_behind, limit_at, offered, tail_of}
use Rattle.term_log.proofs.Held.{total_both}
use Rattle.term_log.proofs.Places.{aligned_rest, mod_within}
use Rattle.term_log.proofs.Starts.{start_more}
use Rattle.two_drivers.specs.Sending.{IsFit, IsWell, WholesStayWell}

-- ---- a log that begins

pub well_begins : (i : Ident) → IsFit i → IsWell (fresh i)
well_begins i fit = record {
  run = tt;
  high = omega (arith, fit.sizes.start_below);
  aligned = omega (arith, fit.sizes.start_aligned);
  sent = record { before = []; after = []; is = refl; place = omega arith };
}

-- ---- frames behind others

run_both : (i : Ident) (position : ℕ) (fs gs : List Frame) → IsRun i position fs → IsRun i (position + total fs) gs → IsRun i position (fs ++ gs)
run_both i position [] gs first second =
    let here : position + 0 ≡ position = omega arith in subst (λ (p : ℕ). IsRun i p gs) here second
run_both i position (f ∷ fs) gs first second =
    let here : position + (span f + total fs) ≡ position + span f + total fs = omega arith in
    (first.0, run_both i (position + span f) fs gs first.1 (subst (λ (p : ℕ). IsRun i p gs) here second))

-- frames that carry parts of a message
abbrev AreParts : ℕ → List Frame → Type 0
AreParts most [] = Unit {0}
AreParts most (fragment flags payload ∷ fs) = (32 + length payload ≤ most) × AreParts most fs
AreParts most (pad size ∷ fs) = ⊥

parts_are : (payload most : ℕ) (message : List ℕ) → 32 + payload ≤ most → (xs : List ℕ) → AreParts most (map (part_of payload message) xs)
parts_are payload most message fits [] = tt
parts_are payload most message fits (x ∷ xs) =
    let size = length-take payload (drop (x * payload) message) in
    (omega (arith, size, fits), parts_are payload most message fits xs)

parts_aligned : (most : ℕ) (fs : List Frame) → AreParts most fs → total fs % 32 ≡ 0
parts_aligned most [] parts = omega arith
parts_aligned most (fragment flags payload ∷ fs) parts = (let rest = parts_aligned most fs parts.1 in omega (arith, rest))
parts_aligned most (pad size ∷ fs) parts = absurd parts

-- they stand in one term
parts_run : (i : Ident) (position : ℕ) (fs : List Frame) → 0 < i.term_length → AreParts i.mtu fs →
    position % i.term_length + total fs ≤ i.term_length → IsRun i position fs
parts_run i position [] some parts fits = tt
parts_run i position (pad size ∷ fs) some parts fits = absurd parts
parts_run i position (fragment flags payload ∷ fs) some parts fits =
    let s : ℕ = padded (32 + length payload) in
    let rest : (position + s) % i.term_length + total fs ≤ i.term_length =
    elim (le_or i.term_length (position % i.term_length + s)) [
      | inl whole ↦ (let none : total fs ≡ 0 = omega (arith, fits, whole) in omega (arith, none, some))
      | inr within ↦ (let goes = mod_within position s i.term_length some within in omega (arith, goes, fits))
    ] in
    ((parts.0, omega (arith, fits)), parts_run i (position + s) fs some parts.1 rest)

-- ---- what is appended

record IsAppended (i : Ident) (tail : ℕ) (fs : List Frame) : Type 0 where
  run : IsRun i tail fs
  high : tail + total fs ≤ greatest_position i
  aligned : total fs % 32 ≡ 0

nothing_more : (i : Ident) (tail : ℕ) → tail ≤ greatest_position i → IsAppended i tail []
nothing_more i tail high = record { run = tt; high = omega (arith, high); aligned = omega arith }

message_fits : (i : Ident) (tail : ℕ) (message : List ℕ) → IsIdent i →
    tail + total (cut (payload_length i) message) ≤ greatest_position i → total (cut (payload_length i) message) ≤ rest_at i tail →
    IsAppended i tail (cut (payload_length i) message)
unfolding cut
message_fits i tail message sizes high fits =
    let parts = parts_are (payload_length i) i.mtu message (omega (arith, sizes.mtu_low)) (range_with_len 0 (last_part (payload_length i) (length message) + 1)) in
    let some : 0 < i.term_length = omega (arith, sizes.term_low) in
    record {
      run = parts_run i tail (cut (payload_length i) message) some parts (omega (arith, fits, some));
      high = high;
      aligned = parts_aligned i.mtu (cut (payload_length i) message) parts;
    }

pad_fits : (i : Ident) (tail size : ℕ) → IsIdent i → tail % 32 ≡ 0 → tail + size ≤ greatest_position i → rest_at i tail < size →
    IsAppended i tail (pad (rest_at i tail) ∷ [])
pad_fits i tail size sizes aligned high less =
    let some : 0 < i.term_length = omega (arith, sizes.term_low) in
    let rest = aligned_rest tail i.term_length aligned sizes.term_aligned some in
    record {
      run = ((rest.1, omega (arith, some)), tt);
      high = omega (arith, high, less);
      aligned = omega (arith, rest.0);
    }

appended_fits : (i : Ident) (tail limit : ℕ) (message : List ℕ) → IsIdent i → tail % 32 ≡ 0 → tail ≤ greatest_position i →
    IsAppended i tail (appended_at (answer_of i tail limit message) i tail message)
unfolding answer_of
appended_fits i tail limit message sizes aligned high =
    let size : ℕ = total (cut (payload_length i) message) in
    let P : Offer → Type 0 = λ answer. IsAppended i tail (appended_at answer i tail message) in
    cond_both (nat_lt (greatest_message i) (length message)) _ _ P (λ _. nothing_more i tail high)
    (λ _. cond_both (nat_lt (greatest_position i) (tail + size)) _ _ P (λ _. nothing_more i tail high)
    (λ low. cond_both (nat_le limit tail) _ _ P (λ _. nothing_more i tail high)
    (λ _. cond_both (nat_lt (rest_at i tail) size) _ _ P
    (λ less. pad_fits i tail size sizes aligned (is_ge (greatest_position i) (tail + size) low) (is_lt (rest_at i tail) size less))
    (λ fits. message_fits i tail message sizes (is_ge (greatest_position i) (tail + size) low) (is_ge (rest_at i tail) size fits)))))

pub well_offers : (w : Whole) → IsFit w.ident → IsWell w → (message : List ℕ) → IsWell (offered w message)
unfolding offered
well_offers w fit well message =
    let more : List Frame = appended_at (answer_to w message) w.ident (tail_of w) message in
    let fits = appended_fits w.ident (tail_of w) (limit_at w) message fit.sizes well.aligned well.high in
    let sum = total_both w.frames more in
    record {
      run = run_both w.ident w.ident.start w.frames more well.run fits.run;
      high = omega (arith, sum, fits.high);
      aligned = omega (arith, sum, fits.aligned, well.aligned);
      sent = start_more w.ident.start w.sender.position w.frames more well.sent;
    }

-- ---- who hears

-- the sender keeps something else, and stands there
with_sender : (w : Whole) (sender : Sending) → IsWell w → IsStart w.ident.start w.frames sender.position → IsWell (record w { sender = sender })
with_sender w sender well sent = record { run = well.run; high = well.high; aligned = well.aligned; sent = sent }

heard_place : (b : Bool) (a c s : Sending) → a.position ≡ s.position → c.position ≡ s.position → (cond b a c).position ≡ s.position
heard_place true a c s first second = first
heard_place false a c s first second = second

pub well_hears : (w : Whole) → IsWell w → (now : ℕ) (message : StatusMessage) → IsWell (heard_of now message w)
unfolding heard_of
well_hears w well now message =
    let same : (sending_after now w.ident w.sender message).position ≡ w.sender.position =
    heard_place (asks_for_setup message.flags) _ _ w.sender refl refl in
    with_sender w (sending_after now w.ident w.sender message) well
    (subst (IsStart w.ident.start w.frames) (sym same) well.sent)

-- ---- what is cut

record IsFrontOf (fs all : List Frame) : Type 0 where
  rest : List Frame
  is : all ≡ fs ++ rest

front_within : (budget : ℕ) (fs : List Frame) → IsFrontOf (within budget fs) fs
front_within budget [] = record { rest = []; is = refl }
front_within budget (f ∷ fs) =
    let others = front_within (budget - sent_size f) fs in
    elim (nat_lt budget (sent_size f)) as (λ b. IsFrontOf (if b then [] else f ∷ within (budget - sent_size f) fs) (f ∷ fs)) [
      | true ↦ record { rest = f ∷ fs; is = refl }
      | false ↦ record { rest = others.rest; is = ap (λ (gs : List Frame). f ∷ gs) others.is }
    ]

front_term : (term position : ℕ) (fs : List Frame) → IsFrontOf (of_term term position fs) fs
front_term term position [] = record { rest = []; is = refl }
front_term term position (f ∷ fs) =
    let others = front_term term (position + span f) fs in
    elim (nat_le term (position % term + span f)) as (λ b. IsFrontOf (f ∷ (if b then [] else of_term term (position + span f) fs)) (f ∷ fs)) [
      | true ↦ record { rest = fs; is = refl }
      | false ↦ record { rest = others.rest; is = ap (λ (gs : List Frame). f ∷ gs) others.is }
    ]

front_both : (fs gs all : List Frame) → IsFrontOf fs gs → IsFrontOf gs all → IsFrontOf fs all
front_both fs gs all first second = record {
  rest = first.rest ++ second.rest;
  is = second.is ∙ ap (λ (xs : List Frame). xs ++ second.rest) first.is ∙ append_assoc fs first.rest second.rest;
}

-- the frames from a start on, and those before it
pub record IsBehind (position at : ℕ) (frames : List Frame) : Type 0 where
  pub before : List Frame
  pub is : frames ≡ before ++ frames_behind at position frames
  pub place : at ≡ position + total before

behind_first : (position at : ℕ) (f : Frame) (fs : List Frame) (b : Bool) → nat_le at position ≡ b →
    (b ≡ true → at ≡ position) → (b ≡ false → IsBehind (position + span f) at fs) → IsBehind position at (f ∷ fs)
behind_first position at f fs true is first later =
    record { before = []; is = rw is refl; place = omega (arith, first refl) }
behind_first position at f fs false is first later =
    let rest = later refl in
    let place = rest.place in
    record {
      before = f ∷ rest.before;
      is = rw is (ap (λ (gs : List Frame). f ∷ gs) rest.is);
      place = omega (arith, place);
    }

behind_from : (position at : ℕ) (before after : List Frame) → at ≡ position + total before → IsBehind position at (before ++ after)
behind_from position at [] [] is = record { before = []; is = refl; place = is }
behind_from position at [] (f ∷ fs) is =
    behind_first position at f fs (nat_le at position) refl (λ first. omega (arith, is))
    (λ later. (let past = le_no at position later in absurd (omega (arith, is, past))))
behind_from position at (f ∷ fs) after is =
    behind_first position at f (fs ++ after) (nat_le at position) refl (λ first. (let up = is_le at position first in omega (arith, is, up)))
    (λ later. behind_from (position + span f) at fs after (omega (arith, is)))

pub behind_start : (position at : ℕ) (frames : List Frame) → IsStart position frames at → IsBehind position at frames
behind_start position at frames start =
    subst (IsBehind position at) (sym start.is) (behind_from position at start.before start.after start.place)

-- the frames that are due, those before them and those behind them
pub record AreDue (w : Whole) : Type 0 where
  pub before : List Frame
  pub after : List Frame
  pub is : w.frames ≡ before ++ (next_frames w ++ after)
  pub place : w.sender.position ≡ w.ident.start + total before

pub due_frames : (w : Whole) → IsWell w → AreDue w
unfolding frames_for
due_frames w well =
    let at : ℕ = w.sender.position in
    let from = behind_start w.ident.start at w.frames well.sent in
    let behind : List Frame = frames_behind at w.ident.start w.frames in
    let here : List Frame = of_term w.ident.term_length at behind in
    let budget : ℕ = budget_of w.sender w.ident.mtu in
    let front = front_both (within budget here) here behind (front_within budget here) (front_term w.ident.term_length at behind) in
    let place = from.place in
    record {
      before = from.before;
      after = front.rest;
      is = from.is ∙ ap (λ (gs : List Frame). from.before ++ gs) front.is;
      place = place;
    }

sent_start : (w : Whole) → IsWell w → IsStart w.ident.start w.frames (w.sender.position + total (next_frames w))
sent_start w well =
    let due = due_frames w well in
    let place = due.place in
    let sum = total_both due.before (next_frames w) in
    record {
      before = due.before ++ next_frames w;
      after = due.after;
      is = due.is ∙ sym (append_assoc due.before (next_frames w) due.after);
      place = omega (arith, place, sum);
    }

well_due : (now : ℕ) (w : Whole) (due : Option DatagramKind) → IsWell w → IsWell (after_due now w due)
unfolding setup_cut datagram_cut sent_on sent_to
well_due now w None well = well
well_due now w (Some kinds.Setup) well = with_sender w _ well well.sent
well_due now w (Some kinds.Frames) well = with_sender w _ well (sent_start w well)
well_due now w (Some kinds.Heartbeat) well = with_sender w _ well well.sent

pub well_cuts : (w : Whole) → IsWell w → (pace : Pace) (now : ℕ) → IsWell (cut_of pace now w)
unfolding cut_of
well_cuts w well pace now = well_due now w (due_of pace now w) well

due_ident : (now : ℕ) (w : Whole) (due : Option DatagramKind) → (after_due now w due).ident ≡ w.ident
unfolding setup_cut datagram_cut sent_on sent_to
due_ident now w None = refl
due_ident now w (Some kinds.Setup) = refl
due_ident now w (Some kinds.Frames) = refl
due_ident now w (Some kinds.Heartbeat) = refl

pub cut_ident : (pace : Pace) (now : ℕ) (w : Whole) → (cut_of pace now w).ident ≡ w.ident
unfolding cut_of
cut_ident pace now w = due_ident now w (due_of pace now w)

pub stay_well : WholesStayWell
stay_well = record {
  begins = well_begins;
  stays = λ w fit well. record {
    offers = well_offers w fit well;
    hears = well_hears w well;
    cuts = well_cuts w well;
  };
}
