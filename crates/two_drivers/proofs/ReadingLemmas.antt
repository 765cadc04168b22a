-- Whatever frames and whichever SETUP are read of what a publication's log sends are its own.
use Rattle.std.proofs.Common.{◌≡◌, ℕ, zero, suc, ℤ, pos, ◌+◌, ◌-◌, ◌/◌, ◌%◌, ◌^◌, ◌<◌, ◌≤◌, ◌==◌, Bool, cond, List, [], ◌∷◌, ◌++◌, length, map, drop, Option, Some, None, Ok, Err, refl, sym, ap, ap₂, ◌∙◌, subst, arith, append_assoc, option_map, unsigned_abs}
use Rattle.std.specs.List.{All}
use Rattle.std.specs.Prelude.{FitsSigned, nat_lt, not}
use Rattle.std.specs.Int.{w32, cast_signed, cast_unsigned}
use Rattle.std.proofs.lemmas.Bool.{cond_both}
use Rattle.std.proofs.lemmas.Int.{SFits-int_wrap, fits_signed_from_abs, wrapping_add_onto}
use Rattle.std.proofs.lemmas.List.{append-nil}
use Rattle.std.proofs.lemmas.List.Elements.{All-nil, All-cons, All-head, All-tail, All-filter, All-drop}
use Rattle.frame_codec.specs.declared.flags.Flags.{Flags}
use Rattle.frame_codec.specs.declared.header.TermPlace.{TermPlace}
use Rattle.frame_codec.specs.declared.header.Kind.TheVariants.{Data, Pad}
use Rattle.frame_codec.specs.declared.nak.Nak.{Nak}
use Rattle.frame_codec.specs.declared.setup.Setup.{Setup}
use Rattle.frame_codec.specs.Datagram as contents
use Rattle.frame_codec.specs.Datagram.{content_as, packet_of}
use Rattle.frame_codec.specs.Fields.{byte_at, half_at, number_at}
use Rattle.frame_codec.specs.Frame.{Sent, beat_bytes, data_bytes, data_header, frame_of, pad_bytes, padded}
use Rattle.frame_codec.specs.Frames.{behind}
use Rattle.frame_codec.specs.FrameType.{sized, type_numbered, type_of}
use Rattle.frame_codec.specs.Nak.{nak_bytes, nak_of}
use Rattle.frame_codec.specs.StatusMessage.{status_bytes, status_of}
use Rattle.frame_codec.specs.Steps.{◌>>=◌}
use Rattle.frame_codec.specs.declared.fault.BadPacket.TheVariants.{BadVersion, TooShort}
use Rattle.frame_codec.specs.declared.status_message.StatusMessage.{StatusMessage}
use Rattle.frame_codec.specs.Header.{header_bytes, plain_header}
use Rattle.frame_codec.specs.Position.{term_id_of}
use Rattle.frame_codec.specs.Setup.{setup_bytes}
use Rattle.frame_codec.specs.Writing.{front_bytes, number_bytes, signed_bytes}
use Rattle.frame_codec.specs.Written.{IsPlace, IsSetup, IsWritten, Written, all_bytes, all_frames, part, padding, written_bytes, written_frame}
use Rattle.frame_codec.proofs.Chains.{bind_ok, guard_ok, ok_is, step}
use Rattle.frame_codec.proofs.FramesAgain.{beat_again, behind_again, first_again}
use Rattle.frame_codec.proofs.FramesBack.{AreRead, packet_read}
use Rattle.frame_codec.proofs.PositionLemmas.{position_back}
use Rattle.frame_codec.proofs.RoundTrips.{half_back, number_back, setup_again}
use Rattle.frame_codec.proofs.WriteBack.{found, type_number}
use Rattle.image_log.specs.Frame.{Frame as Kept, framed}
use Rattle.image_log.specs.Handed.{position_in, span_of}
use Rattle.log_traffic.specs.declared.cutting.DatagramKind.{DatagramKind}
use Rattle.log_traffic.specs.declared.cutting.DatagramKind.TheVariants as kinds
use Rattle.log_traffic.specs.Cutting.{beat_flags, bytes_as, datagram_of, due_of, setup_at}
use Rattle.log_traffic.specs.Datagrams.{ahead, datagrams_in, datagrams_of, first_run, fits, fitting}
use Rattle.log_traffic.specs.Resending.{asked_at, asked_of, resent_of}
use Rattle.term_log.specs.declared.ident.Ident.{Ident}
use Rattle.term_log.specs.Frames.{Frame, IsFrame, IsRun, fragment, pad, pad_flags, span, total}
use Rattle.term_log.specs.Ident.{IsIdent, greatest_position, place_at}
use Rattle.term_log.specs.Ranges.{meets}
use Rattle.term_log.specs.Reading.{Given, all_given, given, sent_bytes}
use Rattle.term_log.specs.SenderSteps.{next_frames}
use Rattle.term_log.specs.Whole.{Whole}
use Rattle.term_log.proofs.Held.{run_front, run_rest, total_both}
use Rattle.term_log.proofs.Places.{aligned_offset}
use Rattle.term_log.proofs.Stands.{frame_fits}
use Rattle.two_drivers.specs.Line.{IsIn, IsLine, kept_as, line_of, stream_of, written_as}
use Rattle.two_drivers.specs.Sending.{DatagramsAreOfTheLog, IsDatagramOf, IsFit, IsOfLog, IsQuiet, IsWell, ReportsAreQuiet, ResendsAreOfTheLog, all_of}
use Rattle.two_drivers.proofs.WellLemmas.{due_frames}

-- ---- a list of frames that was written, whatever is read of it

none_read : (frame : Sent) → frame_of [] ≡ Ok frame → ⊥
unfolding frame_of type_of
none_read frame is = absurd (cc is)

-- each of these can be written
abbrev AreWritten : List Written → Type 0
AreWritten [] = Unit {0}
AreWritten (w ∷ ws) = IsWritten w × AreWritten ws

reads_those : (ws : List Written) (bytes : List ℕ) (sent : List Sent) → AreWritten ws → bytes ≡ all_bytes ws → AreRead sent bytes →
    sent ≡ all_frames ws
reads_those [] bytes [] fits is read = refl
reads_those [] bytes (frame ∷ later) fits is read =
    absurd (none_read frame (subst (λ (b : List ℕ). frame_of b ≡ Ok frame) is read.0))
reads_those (w ∷ ws) bytes [] fits is read =
    absurd (none_read (written_frame w) (ap frame_of (sym read ∙ is) ∙ first_again w (all_bytes ws) fits.0))
reads_those (w ∷ ws) bytes (frame ∷ later) fits is read =
    let first : frame ≡ written_frame w = ok_is frame (written_frame w) (sym read.0 ∙ ap frame_of is ∙ first_again w (all_bytes ws) fits.0) in
    let left : behind frame bytes ≡ all_bytes ws = ap₂ behind first is ∙ behind_again w (all_bytes ws) in
    ap₂ (λ (f : Sent) (fs : List Sent). f ∷ fs) first (reads_those ws (behind frame bytes) later fits.1 left read.1)

-- ---- the frames of a log where they stand

-- one of the log's frames, as it is given where it stands
pub record IsGiven (w : Whole) (g : Given) : Type 0 where
  pub before : List Frame
  pub frame : Frame
  pub after : List Frame
  pub is : w.frames ≡ before ++ frame ∷ after
  pub given_is : g ≡ given w.ident (w.ident.start + total before) frame

are_given : (w : Whole) (before fs after : List Frame) (position : ℕ) → w.frames ≡ before ++ (fs ++ after) →
    position ≡ w.ident.start + total before → All (IsGiven w) (all_given w.ident position fs)
are_given w before [] after position is at = All-nil (IsGiven w)
are_given w before (f ∷ fs) after position is at =
    let sum = total_both before (f ∷ []) in
    let rest = are_given w (before ++ f ∷ []) fs after (position + span f)
    (is ∙ sym (append_assoc before (f ∷ []) (fs ++ after))) (omega (arith, at, sum)) in
    All-cons (IsGiven w) (given w.ident position f) (all_given w.ident (position + span f) fs)
    (record {
      before = before;
      frame = f;
      after = fs ++ after;
      is = is;
      given_is = ap (λ (p : ℕ). given w.ident p f) at;
    }) rest

-- ---- as it is written

bytes_written : (i : Ident) (position : ℕ) (f : Frame) → (given i position f).bytes ≡ written_bytes (written_as i position f)
bytes_written i position (fragment flags payload) = refl
bytes_written i position (pad size) = refl

abbrev written_given : Ident → Given → Written
written_given i g = written_as i g.position g.frame

given_written : (w : Whole) (g : Given) → IsGiven w g → g.bytes ≡ written_bytes (written_given w.ident g)
given_written w g is =
    ap (λ (x : Given). x.bytes) is.given_is
    ∙ bytes_written w.ident (w.ident.start + total is.before) is.frame
    ∙ ap (λ (x : Given). written_bytes (written_given w.ident x)) (sym is.given_is)

all_written : (w : Whole) (gs : List Given) → All (IsGiven w) gs → sent_bytes gs ≡ all_bytes (map (written_given w.ident) gs)
all_written w [] are = refl
all_written w (g ∷ gs) are =
    ap₂ (λ (b c : List ℕ). b ++ c) (given_written w g (All-head (IsGiven w) g gs are)) (all_written w gs (All-tail (IsGiven w) g gs are))

term_fits : (initial : ℤ) (position size : ℕ) → FitsSigned w32 initial → FitsSigned w32 (term_id_of initial position size)
unfolding term_id_of
term_fits initial position size fits =
    let d : ℕ = position / size % 2 ^ 32 in
    let turn : (cast_unsigned w32 initial + d) % 2 ^ 32 ≡ (d + cast_unsigned w32 initial) % 2 ^ 32 = omega arith in
    let wrapped = wrapping_add_onto w32 d initial (omega arith) fits in
    subst (FitsSigned w32) (sym (ap (cast_signed w32) turn ∙ wrapped)) (SFits-int_wrap w32 _)

-- what is known of a frame where it stands
record IsSoundAt (i : Ident) (position : ℕ) (f : Frame) : Type 0 where
  frame : IsFrame i position f
  low : position + span f ≤ greatest_position i
  aligned : position % 32 ≡ 0

-- spans are multiples of 32
span_aligned : (i : Ident) (position : ℕ) (f : Frame) → IsIdent i → position % 32 ≡ 0 → IsFrame i position f → span f % 32 ≡ 0
span_aligned i position (fragment flags payload) sizes at is = omega arith
span_aligned i position (pad size) sizes at is =
    let offset = aligned_offset position i.term_length at sizes.term_aligned in
    omega (arith, is.1, offset, sizes.term_aligned)

total_aligned : (i : Ident) (position : ℕ) (fs : List Frame) → IsIdent i → position % 32 ≡ 0 → IsRun i position fs → (position + total fs) % 32 ≡ 0
total_aligned i position [] sizes at run = omega (arith, at)
total_aligned i position (f ∷ fs) sizes at run =
    let one = span_aligned i position f sizes at run.0 in
    let rest = total_aligned i (position + span f) fs sizes (omega (arith, at, one)) run.1 in
    let same : position + (span f + total fs) ≡ position + span f + total fs = omega arith in
    subst (λ (n : ℕ). n % 32 ≡ 0) (sym same) rest

sound_at : (w : Whole) (before after : List Frame) (f : Frame) → IsFit w.ident → IsWell w → w.frames ≡ before ++ f ∷ after →
    IsSoundAt w.ident (w.ident.start + total before) f
sound_at w before after f fit well is =
    let run : IsRun w.ident w.ident.start (before ++ f ∷ after) = subst (IsRun w.ident w.ident.start) is well.run in
    let rest = run_rest w.ident w.ident.start before (f ∷ after) run in
    let sum = ap total is ∙ total_both before (f ∷ after) in
    record {
      frame = rest.0;
      low = omega (arith, sum, well.high);
      aligned = total_aligned w.ident w.ident.start before fit.sizes fit.sizes.start_aligned (run_front w.ident w.ident.start before (f ∷ after) run);
    }

place_sound : (i : Ident) (position : ℕ) (f : Frame) → IsFit i → IsSoundAt i position f → IsPlace (place_at i position)
place_sound i position f fit sound =
    let offset = aligned_offset position i.term_length sound.aligned fit.sizes.term_aligned in
    record {
      session_id = fit.session;
      stream_id = fit.stream;
      term_id = term_fits i.initial_term position i.term_length fit.initial_term;
      offset_fits = omega (arith, fit.sizes.term_low, fit.sizes.term_high);
      offset_aligned = offset;
    }

frame_written : (i : Ident) (position : ℕ) (f : Frame) → IsFit i → IsSoundAt i position f → IsWritten (written_as i position f)
frame_written i position (fragment flags payload) fit sound =
    (place_sound i position (fragment flags payload) fit sound, omega (arith, sound.frame.0, fit.sizes.mtu_high))
frame_written i position (pad size) fit sound =
    let aligned = span_aligned i position (pad size) fit.sizes sound.aligned sound.frame in
    (place_sound i position (pad size) fit sound, omega (arith, sound.frame.0), omega (arith, sound.frame.1, fit.sizes.term_high), aligned)

are_written : (w : Whole) (gs : List Given) → IsFit w.ident → IsWell w → All (IsGiven w) gs → AreWritten (map (written_given w.ident) gs)
are_written w [] fit well are = tt
are_written w (g ∷ gs) fit well are =
    let is = All-head (IsGiven w) g gs are in
    let sound = sound_at w is.before is.after is.frame fit well is.is in (
      subst (λ (x : Given). IsWritten (written_given w.ident x)) (sym is.given_is)
          (frame_written w.ident (w.ident.start + total is.before) is.frame fit sound),
      are_written w gs fit well (All-tail (IsGiven w) g gs are),
    )

-- ---- as it is kept

header_place : (i : Ident) (position : ℕ) (f : Frame) → (written_frame (written_as i position f)).header.place ≡ place_at i position
header_place i position (fragment flags payload) = refl
header_place i position (pad size) = refl

data_span : (flags : Flags) (place : TermPlace) (payload : List ℕ) → 32 + length payload < 2 ^ 31 →
    span_of (header_bytes (data_header flags place payload) ++ payload) ≡ padded (32 + length payload)
unfolding span_of header_bytes front_bytes number_bytes
data_span flags place payload fits =
    let small : (32 + length payload) % 2 ^ 32 ≡ 32 + length payload = Rattle.std.proofs.Math.Nat.mod-eq_of_lt (omega (arith, fits)) in
    let read = number_back 0 ((32 + length payload) % 2 ^ 32) (header_bytes (data_header flags place payload) ++ payload) _ refl (omega (arith, small, fits)) in
    ap padded (read ∙ small)

pad_span : (flags : Flags) (place : TermPlace) (size : ℕ) → size < 2 ^ 31 → size % 32 ≡ 0 → span_of (pad_bytes flags place size) ≡ size
unfolding span_of pad_bytes header_bytes front_bytes number_bytes
pad_span flags place size fits aligned =
    let b : List ℕ = header_bytes (plain_header Pad size flags place) in
    let read : number_at 0 b ≡ size = number_back 0 size b _ refl (omega (arith, fits)) in
    ap padded read ∙ omega (arith, aligned)

written_span : (i : Ident) (position : ℕ) (f : Frame) → IsWritten (written_as i position f) → span_of (written_frame (written_as i position f)).bytes ≡ span f
written_span i position (fragment flags payload) fits = data_span flags (place_at i position) payload fits.1
written_span i position (pad size) fits = pad_span pad_flags (place_at i position) size fits.2 fits.3

place_back : (i : Ident) (position : ℕ) → IsFit i → position ≤ greatest_position i → position_in (stream_of i) (place_at i position) ≡ position
place_back i position fit low =
    position_back i.initial_term position i.term_length fit.initial_term (omega (arith, fit.sizes.term_low)) (omega (arith, fit.sizes.term_low, low))

-- where a frame stands in the line
line_at : (i : Ident) (position : ℕ) (before after : List Frame) (f : Frame) →
    IsIn (line_of i position (before ++ f ∷ after)) (kept_as i (position + total before) f)
line_at i position [] after f =
    let here : position + 0 ≡ position = omega arith in
    record {
      before = [];
      after = line_of i (position + span f) after;
      is = ap (λ (p : ℕ). kept_as i p f ∷ line_of i (position + span f) after) (sym here);
    }
line_at i position (g ∷ before) after f =
    let rest = line_at i (position + span g) before after f in
    let here : position + span g + total before ≡ position + (span g + total before) = omega arith in
    record {
      before = kept_as i position g ∷ rest.before;
      after = rest.after;
      is = ap (λ (l : List Kept). kept_as i position g ∷ l)
          (rest.is ∙ ap (λ (p : ℕ). rest.before ++ kept_as i p f ∷ rest.after) here);
    }

of_log : (w : Whole) (before after : List Frame) (f : Frame) → IsFit w.ident → IsWell w → w.frames ≡ before ++ f ∷ after →
    IsOfLog w.ident (all_of w) (written_frame (written_as w.ident (w.ident.start + total before) f))
of_log w before after f fit well is =
    let i : Ident = w.ident in
    let at : ℕ = i.start + total before in
    let sound = sound_at w before after f fit well is in
    let place = header_place i at f in
    let low : at ≤ greatest_position i = omega (arith, sound.low) in
    let position : position_in (stream_of i) (written_frame (written_as i at f)).header.place ≡ at =
    ap (position_in (stream_of i)) place ∙ place_back i at fit low in
    let spans = written_span i at f (frame_written i at f fit sound) in
    record {
      session = ap (λ (p : TermPlace). p.session_id) place;
      stream = ap (λ (p : TermPlace). p.stream_id) place;
      there = subst (λ (k : Kept). IsIn (all_of w) k)
          (sym (ap₂ (λ (p s : ℕ). framed p s (written_frame (written_as i at f)).bytes) position spans))
          (subst (λ (fs : List Frame). IsIn (line_of i i.start fs) (kept_as i at f)) (sym is) (line_at i i.start before after f));
    }

all_of_log : (w : Whole) (gs : List Given) → IsFit w.ident → IsWell w → All (IsGiven w) gs →
    All (IsOfLog w.ident (all_of w)) (all_frames (map (written_given w.ident) gs))
all_of_log w [] fit well are = All-nil (IsOfLog w.ident (all_of w))
all_of_log w (g ∷ gs) fit well are =
    let is = All-head (IsGiven w) g gs are in
    All-cons (IsOfLog w.ident (all_of w)) (written_frame (written_given w.ident g)) (all_frames (map (written_given w.ident) gs))
    (subst (λ (x : Given). IsOfLog w.ident (all_of w) (written_frame (written_given w.ident x))) (sym is.given_is)
    (of_log w is.before is.after is.frame fit well is.is))
    (all_of_log w gs fit well (All-tail (IsGiven w) g gs are))

-- ---- datagrams

-- of that type, no SETUP is read, and of another one no frames are
no_setup : (bytes : List ℕ) (fields : Setup) (number : ℕ) → half_at 6 bytes ≡ number → (number ≡ 5 → ⊥) → packet_of bytes ≡ Ok (contents.setup fields) → ⊥
no_setup bytes fields number is other read =
    let x = found bytes (contents.setup fields) read in
    other (sym is ∙ x.front.number_is ∙ ap type_number x.is.0)

-- what begins with a frame is no SETUP
first_type : (w : Written) (bytes : List ℕ) → half_at 6 (written_bytes w ++ bytes) ≡ 5 → ⊥
unfolding data_bytes pad_bytes header_bytes front_bytes number_bytes
first_type (part flags place payload) bytes is =
    let read = half_back 6 1 (written_bytes (part flags place payload) ++ bytes) _ refl (omega arith) in absurd (omega (arith, read, is))
first_type (padding flags place size) bytes is =
    let read = half_back 6 0 (written_bytes (padding flags place size) ++ bytes) _ refl (omega arith) in absurd (omega (arith, read, is))

no_setup_written : (ws : List Written) (fields : Setup) → packet_of (all_bytes ws) ≡ Ok (contents.setup fields) → ⊥
unfolding packet_of type_of
no_setup_written [] fields read = absurd (cc read)
no_setup_written (w ∷ ws) fields read =
    let x = found (written_bytes w ++ all_bytes ws) (contents.setup fields) read in
    first_type w (all_bytes ws) (x.front.number_is ∙ ap type_number x.is.0)

-- frames of the log, one behind the other
pub run_read : (w : Whole) (gs : List Given) → IsFit w.ident → IsWell w → All (IsGiven w) gs → IsDatagramOf w.ident (all_of w) (sent_bytes gs)
run_read w gs fit well are =
    let ws : List Written = map (written_given w.ident) gs in
    let same = all_written w gs are in
    record {
      frames = λ sent read.
          let those = reads_those ws (sent_bytes gs) sent (are_written w gs fit well are) same (packet_read (sent_bytes gs) sent read) in
          subst (All (IsOfLog w.ident (all_of w))) (sym those) (all_of_log w gs fit well are);
      setup = λ fields read.
          absurd (no_setup_written ws fields (subst (λ (b : List ℕ). packet_of b ≡ Ok (contents.setup fields)) same read));
    }

-- a heartbeat
beat_type : (flags : Flags) (place : TermPlace) → half_at 6 (beat_bytes flags place) ≡ 1
unfolding beat_bytes header_bytes front_bytes number_bytes
beat_type flags place = half_back 6 1 (header_bytes (plain_header Data 0 flags place)) _ refl (omega arith)

beat_read : (i : Ident) (position : ℕ) (flags : Flags) (line : List Kept) → IsPlace (place_at i position) →
    IsDatagramOf i line (beat_bytes flags (place_at i position))
beat_read i position flags line place =
    let again = beat_again flags (place_at i position) place in
    record {
      frames = λ sent read. absurd (cc (sym again ∙ read));
      setup = λ fields read. absurd (cc (sym again ∙ read));
    }

-- a SETUP
setup_fits : (i : Ident) (position : ℕ) → IsFit i → IsPlace (place_at i position) → IsSetup (setup_at i position)
setup_fits i position fit place = record {
  no_flags = refl;
  offset_fits = place.offset_fits;
  offset_aligned = place.offset_aligned;
  session_id = fit.session;
  stream_id = fit.stream;
  initial_term_id = fit.initial_term;
  active_term_id = place.term_id;
  term_length = fits_signed_from_abs w32 (pos i.term_length) (omega (arith, fit.sizes.term_high));
  mtu = fits_signed_from_abs w32 (pos i.mtu) (omega (arith, fit.sizes.mtu_high));
  no_ttl = refl;
}

content_setup : (a b : Setup) → contents.setup a ≡ contents.setup b → a ≡ b
content_setup a b is = cc

setup_read : (i : Ident) (position : ℕ) (line : List Kept) → IsFit i → IsPlace (place_at i position) →
    IsDatagramOf i line (setup_bytes (setup_at i position))
setup_read i position line fit place =
    let told : packet_of (setup_bytes (setup_at i position)) ≡ Ok (contents.setup (setup_at i position)) =
    ap packet_of (sym (append-nil (setup_bytes (setup_at i position)))) ∙ setup_again (setup_at i position) [] (setup_fits i position fit place) in
    record {
      frames = λ sent read. absurd (cc (sym told ∙ read));
      setup = λ fields read.
          let same : setup_at i position ≡ fields = content_setup (setup_at i position) fields (ok_is (contents.setup (setup_at i position)) (contents.setup fields) (sym told ∙ read)) in
          record {
            session = ap (λ (s : Setup). s.session_id) (sym same);
            stream = ap (λ (s : Setup). s.stream_id) (sym same);
            initial_term = ap (λ (s : Setup). s.initial_term_id) (sym same);
            term_length = ap (λ (s : Setup). s.term_length) (sym same);
          };
    }

-- where the sender stands
sender_place : (w : Whole) → IsFit w.ident → IsWell w → IsPlace (place_at w.ident w.sender.position)
sender_place w fit well =
    let due = due_frames w well in
    let run : IsRun w.ident w.ident.start (due.before ++ (next_frames w ++ due.after)) = subst (IsRun w.ident w.ident.start) due.is well.run in
    let place = due.place in
    let whole = total_aligned w.ident w.ident.start due.before fit.sizes fit.sizes.start_aligned (run_front w.ident w.ident.start due.before (next_frames w ++ due.after) run) in
    let at : w.sender.position % 32 ≡ 0 = subst (λ (n : ℕ). n % 32 ≡ 0) (sym place) whole in
    let offset = aligned_offset w.sender.position w.ident.term_length at fit.sizes.term_aligned in
    record {
      session_id = fit.session;
      stream_id = fit.stream;
      term_id = term_fits w.ident.initial_term w.sender.position w.ident.term_length fit.initial_term;
      offset_fits = omega (arith, fit.sizes.term_low, fit.sizes.term_high);
      offset_aligned = offset;
    }

cut_read : (lingers : Bool) (w : Whole) (kind : DatagramKind) → IsFit w.ident → IsWell w → IsDatagramOf w.ident (all_of w) (bytes_as lingers w kind)
cut_read lingers w kinds.Setup fit well = setup_read w.ident w.sender.position (all_of w) fit (sender_place w fit well)
cut_read lingers w kinds.Frames fit well =
    let due = due_frames w well in
    run_read w (all_given w.ident w.sender.position (next_frames w)) fit well
    (are_given w due.before (next_frames w) due.after w.sender.position due.is due.place)
cut_read lingers w kinds.Heartbeat fit well =
    beat_read w.ident w.sender.position (beat_flags lingers) (all_of w) (sender_place w fit well)

due_read : (lingers : Bool) (w : Whole) (due : Option DatagramKind) (bytes : List ℕ) → IsFit w.ident → IsWell w →
    option_map (bytes_as lingers w) due ≡ Some bytes → IsDatagramOf w.ident (all_of w) bytes
due_read lingers w None bytes fit well is = absurd (cc is)
due_read lingers w (Some kind) bytes fit well is =
    let same : bytes_as lingers w kind ≡ bytes = cc is in
    subst (IsDatagramOf w.ident (all_of w)) same (cut_read lingers w kind fit well)

pub datagrams_read : DatagramsAreOfTheLog
unfolding datagram_of
datagrams_read pace now lingers w bytes fit well is = due_read lingers w (due_of pace now w) bytes fit well is

-- ---- what is sent again

fitting_given : (w : Whole) (term number budget : ℕ) (gs : List Given) → All (IsGiven w) gs → All (IsGiven w) (fitting term number budget gs)
fitting_given w term number budget [] are = are
fitting_given w term number budget (g ∷ gs) are =
    cond_both (fits term number budget g) (g ∷ fitting term number (budget - length g.bytes) gs) [] (All (IsGiven w))
    (λ _.
    All-cons (IsGiven w) g (fitting term number (budget - length g.bytes) gs) (All-head (IsGiven w) g gs are)
    (fitting_given w term number (budget - length g.bytes) gs (All-tail (IsGiven w) g gs are)))
    (λ _. All-nil (IsGiven w))

first_given : (w : Whole) (term mtu : ℕ) (gs : List Given) → All (IsGiven w) gs → All (IsGiven w) (first_run term mtu gs)
first_given w term mtu [] are = are
first_given w term mtu (g ∷ gs) are = fitting_given w term (g.position / term) mtu (g ∷ gs) are

ahead_read : (w : Whole) (run : List Given) (others : List (List ℕ)) → IsFit w.ident → IsWell w → All (IsGiven w) run →
    All (IsDatagramOf w.ident (all_of w)) others → All (IsDatagramOf w.ident (all_of w)) (ahead run others)
ahead_read w [] others fit well are rest = All-nil (IsDatagramOf w.ident (all_of w))
ahead_read w (g ∷ gs) others fit well are rest =
    All-cons (IsDatagramOf w.ident (all_of w)) (sent_bytes (g ∷ gs)) others (run_read w (g ∷ gs) fit well are) rest

datagrams_in_read : (n : ℕ) (w : Whole) (term mtu : ℕ) (gs : List Given) → IsFit w.ident → IsWell w → All (IsGiven w) gs →
    All (IsDatagramOf w.ident (all_of w)) (datagrams_in n term mtu gs)
datagrams_in_read zero w term mtu gs fit well are = All-nil (IsDatagramOf w.ident (all_of w))
datagrams_in_read (suc n) w term mtu gs fit well are =
    ahead_read w (first_run term mtu gs) (datagrams_in n term mtu (drop (length (first_run term mtu gs)) gs)) fit well
    (first_given w term mtu gs are)
    (datagrams_in_read n w term mtu (drop (length (first_run term mtu gs)) gs) fit well
    (All-drop (IsGiven w) (length (first_run term mtu gs)) gs are))

pub resends_read : ResendsAreOfTheLog
unfolding resent_of datagrams_of
resends_read w nak fit well =
    let all : List Given = all_given w.ident w.ident.start w.frames in
    let are = are_given w [] w.frames [] w.ident.start (sym (append-nil w.frames)) (omega arith) in
    datagrams_in_read (length (asked_of w nak)) w w.ident.term_length w.ident.mtu (asked_of w nak) fit well
    (All-filter (meets (asked_at w.ident nak) (unsigned_abs nak.length)) (IsGiven w) all are)

-- ---- all frames are a line

pub line_is : (i : Ident) (position : ℕ) (fs : List Frame) → IsRun i position fs → IsLine i.term_length position (line_of i position fs)
line_is i position [] run = tt
line_is i position (f ∷ fs) run =
    (refl, spans i position f run.0, frame_fits i position f run.0, line_is i (position + span f) fs run.1)
  where
    spans : (i : Ident) (position : ℕ) (f : Frame) → IsFrame i position f → 32 ≤ span f
    spans i position (fragment flags payload) is = omega arith
    spans i position (pad size) is = is.0

pub wholes_line : (w : Whole) → IsWell w → IsLine w.ident.term_length w.ident.start (all_of w)
wholes_line w well = line_is w.ident w.ident.start w.frames well.run

-- ---- what receivers tell

nak_content : (bytes : List ℕ) (c : contents.Content) → half_at 6 bytes ≡ 2 → packet_of bytes ≡ Ok c → (n : Nak) × (c ≡ contents.nak n)
unfolding packet_of type_of
nak_content bytes c is read =
    elim (bind_ok (type_of bytes) (content_as bytes) c read) [
      | step kind kind_is after ↦
          let a = guard_ok (nat_lt (length bytes) 8) TooShort (cond (not (byte_at 4 bytes == 0)) (Err BadVersion) (type_numbered (half_at 6 bytes) >>= sized bytes)) kind kind_is in
          let b = guard_ok (not (byte_at 4 bytes == 0)) BadVersion (type_numbered (half_at 6 bytes) >>= sized bytes) kind a.1 in
          let n : (type_numbered 2 >>= sized bytes) ≡ Ok kind = subst (λ (k : ℕ). (type_numbered k >>= sized bytes) ≡ Ok kind) is b.1 in
          let d = guard_ok (nat_lt (length bytes) 28) TooShort _ kind n in
          elim (bind_ok (nak_of bytes) (λ fields. Ok (contents.nak fields)) c (ap (λ r. r >>= content_as bytes) d.1 ∙ after)) [
            | step fields fields_is last ↦ (fields, sym (ok_is (contents.nak fields) c last))
          ]
    ]

status_content : (bytes : List ℕ) (c : contents.Content) → half_at 6 bytes ≡ 3 → packet_of bytes ≡ Ok c → (s : StatusMessage) × (c ≡ contents.status s)
unfolding packet_of type_of
status_content bytes c is read =
    elim (bind_ok (type_of bytes) (content_as bytes) c read) [
      | step kind kind_is after ↦
          let a = guard_ok (nat_lt (length bytes) 8) TooShort (cond (not (byte_at 4 bytes == 0)) (Err BadVersion) (type_numbered (half_at 6 bytes) >>= sized bytes)) kind kind_is in
          let b = guard_ok (not (byte_at 4 bytes == 0)) BadVersion (type_numbered (half_at 6 bytes) >>= sized bytes) kind a.1 in
          let n : (type_numbered 3 >>= sized bytes) ≡ Ok kind = subst (λ (k : ℕ). (type_numbered k >>= sized bytes) ≡ Ok kind) is b.1 in
          let d = guard_ok (nat_lt (length bytes) 36) TooShort _ kind n in
          elim (bind_ok (status_of bytes) (λ fields. Ok (contents.status fields)) c (ap (λ r. r >>= content_as bytes) d.1 ∙ after)) [
            | step fields fields_is last ↦ (fields, sym (ok_is (contents.status fields) c last))
          ]
    ]

nak_type : (n : Nak) → half_at 6 (nak_bytes n) ≡ 2
unfolding nak_bytes front_bytes number_bytes signed_bytes
nak_type n = half_back 6 2 (nak_bytes n) _ refl (omega arith)

status_type : (s : StatusMessage) → half_at 6 (status_bytes s) ≡ 3
unfolding status_bytes front_bytes number_bytes signed_bytes
status_type s = half_back 6 3 (status_bytes s) _ refl (omega arith)

pub nak_silent : (n : Nak) → IsQuiet (nak_bytes n)
nak_silent n = record {
  frames = λ sent read. (let is = nak_content (nak_bytes n) (contents.frames sent) (nak_type n) read in absurd (cc is.1));
  setup = λ fields read. (let is = nak_content (nak_bytes n) (contents.setup fields) (nak_type n) read in absurd (cc is.1));
}

pub status_silent : (s : StatusMessage) → IsQuiet (status_bytes s)
status_silent s = record {
  frames = λ sent read. (let is = status_content (status_bytes s) (contents.frames sent) (status_type s) read in absurd (cc is.1));
  setup = λ fields read. (let is = status_content (status_bytes s) (contents.setup fields) (status_type s) read in absurd (cc is.1));
}

pub reports_quiet : ReportsAreQuiet
reports_quiet = record { naks = nak_silent; statuses = status_silent }
