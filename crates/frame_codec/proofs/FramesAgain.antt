-- Frames of a term that were written are read back.
use Rattle.std.proofs.Common.{◌≡◌, ℕ, zero, suc, ◌+◌, ◌-◌, ◌%◌, ◌^◌, ◌<◌, ◌≤◌, ◌==◌, Bool, true, false, not, cond, List, [], ◌∷◌, ◌++◌, length, take, Result, Ok, refl, sym, ap, subst, ◌∙◌, append_assoc, arith}
use Rattle.std.specs.Prelude.{replicate}
use Rattle.std.proofs.lemmas.Bool.{eq-eqb, ne_eqb, le-ltb}
use Rattle.std.proofs.lemmas.List.{take_at, drop_at, length-append, length-replicate, append-nil}
use Rattle.std.proofs.Math.Nat.{mod-eq_of_lt}
use Rattle.frame_codec.specs.declared.fault.BadPacket.{BadPacket}
use Rattle.frame_codec.specs.declared.frame_type.FrameType.TheVariants as types
use Rattle.frame_codec.specs.declared.flags.Flags.{Flags}
use Rattle.frame_codec.specs.declared.header.Kind.{Kind}
use Rattle.frame_codec.specs.declared.header.Kind.TheVariants.{Data, Pad}
use Rattle.frame_codec.specs.declared.header.Header.{Header}
use Rattle.frame_codec.specs.declared.header.TermPlace.{TermPlace}
use Rattle.frame_codec.specs.Steps.{◌>>=◌}
use Rattle.frame_codec.specs.Fields.{byte_at, half_at, number_at, signed_at, long_at, natural_at, aligned}
use Rattle.frame_codec.specs.FrameType.{type_of}
use Rattle.frame_codec.specs.Writing.{number_bytes, signed_bytes, front_bytes}
use Rattle.frame_codec.specs.Header.{header_of, header_bytes, kind_number, plain_header}
use Rattle.frame_codec.specs.Frame.{Sent, padded, data_of, pad_of, pad_length, beat_of, frame_of, data_header, data_bytes, pad_bytes, beat_bytes}
use Rattle.frame_codec.specs.Frames.{follows, behind, next_of, later_of, frames_of}
use Rattle.frame_codec.specs.Datagram.{packet_of, data_content, content_as}
use Rattle.frame_codec.specs.Datagram as contents
use Rattle.frame_codec.specs.Written.{IsPlace, Written, part, padding, written_bytes, written_frame, IsWritten, AreBehind, all_bytes, all_frames, fill_length, filling, ArePlain}
use Rattle.frame_codec.proofs.RoundTrips.{front_long, half_back, number_back, long_back, signed_back, natural_back, stated_back, aligned_back, type_back}
use Rattle.frame_codec.proofs.WritingLemmas.{length-header_bytes}
use Rattle.frame_codec.proofs.FramesLemmas.{later_step, none_later}

-- ---- headers

-- what stands in bytes that begin with a header
pub record Begins (bytes : List ℕ) (h : Header) : Type 0 where
  pub long : 32 ≤ length bytes
  pub version : byte_at 4 bytes ≡ 0
  pub flags : byte_at 5 bytes ≡ h.flags.bits
  pub kind : half_at 6 bytes ≡ kind_number h.kind
  pub number : number_at 0 bytes ≡ h.length
  pub size : natural_at 0 bytes ≡ Ok h.length
  pub offset : natural_at 8 bytes ≡ Ok h.place.term_offset
  pub even : aligned h.place.term_offset ≡ Ok h.place.term_offset
  pub session : signed_at 12 bytes ≡ h.place.session_id
  pub stream : signed_at 16 bytes ≡ h.place.stream_id
  pub term : signed_at 20 bytes ≡ h.place.term_id
  pub reserved : long_at 24 bytes ≡ h.reserved_value

kind_fits : (kind : Kind) → kind_number kind < 256 ^ 2
kind_fits Data = omega arith
kind_fits Pad = omega arith

begins : (h : Header) (rest : List ℕ) → IsPlace h.place → h.length < 2 ^ 31 → h.reserved_value < 256 ^ 8 → Begins (header_bytes h ++ rest) h
unfolding header_bytes front_bytes number_bytes signed_bytes byte_at
begins h rest place low reserved =
    let b : List ℕ = header_bytes h ++ rest in
    record {
      long = front_long (header_bytes h) rest 32 refl;
      version = refl;
      flags = refl;
      kind = half_back 6 (kind_number h.kind) b _ refl (kind_fits h.kind);
      number = number_back 0 h.length b _ refl (omega (arith, low));
      size = natural_back 0 h.length b _ refl low;
      offset = natural_back 8 h.place.term_offset b _ refl place.offset_fits;
      even = aligned_back h.place.term_offset place.offset_aligned;
      session = signed_back 12 h.place.session_id b _ refl place.session_id;
      stream = signed_back 16 h.place.stream_id b _ refl place.stream_id;
      term = signed_back 20 h.place.term_id b _ refl place.term_id;
      reserved = long_back 24 h.reserved_value b _ refl reserved;
    }

header_is : (bytes : List ℕ) (h : Header) → Begins bytes h → header_of h.kind h.length h.place.term_offset bytes ≡ h
unfolding header_of
header_is bytes h is =
    let flags = is.flags in let session = is.session in let stream = is.stream in let term = is.term in let reserved = is.reserved in
    rw (flags, session, stream, term, reserved) refl

-- ---- one frame

data_from : (bytes tail payload : List ℕ) (h : Header) → h.kind ≡ Data → Begins bytes h → bytes ≡ (header_bytes h ++ payload) ++ tail → h.length ≡ 32 + length payload
    → frame_of bytes ≡ Ok (record { header = h; bytes = header_bytes h ++ payload })
unfolding frame_of data_of
data_from bytes tail payload h kind is whole size =
    let long = is.long in
    let number : half_at 6 bytes ≡ 1 = is.kind ∙ ap kind_number kind in
    let type_is = type_back bytes 1 types.Data (omega arith) is.version number refl long in
    let front : length (header_bytes h ++ payload) ≡ h.length = omega (arith, length-append (header_bytes h) payload, length-header_bytes h, size) in
    let within : h.length ≤ length bytes = rw whole (omega (arith, length-append (header_bytes h ++ payload) tail, front)) in
    let stated = stated_back 32 h.length bytes is.size (omega (arith, size)) within in
    let taken : take h.length bytes ≡ header_bytes h ++ payload = ap (take h.length) whole ∙ take_at (header_bytes h ++ payload) tail h.length front in
    let offset = is.offset in
    let even = is.even in
    let header : header_of Data h.length h.place.term_offset bytes ≡ h = ap (λ k. header_of k h.length h.place.term_offset bytes) (sym kind) ∙ header_is bytes h is in
    rw (type_is, stated, offset, even, taken, header) refl

pad_length_back : (n : ℕ) → 0 < n → n % 32 ≡ 0 → pad_length n ≡ Ok n
pad_length_back n some multiple = rw (ne_eqb n 0 (λ none. omega (arith, some, none)), eq-eqb (n % 32) 0 multiple) refl

pad_from : (bytes tail : List ℕ) (h : Header) → h.kind ≡ Pad → Begins bytes h → bytes ≡ header_bytes h ++ tail → 0 < h.length → h.length % 32 ≡ 0
    → frame_of bytes ≡ Ok (record { header = h; bytes = header_bytes h })
unfolding frame_of pad_of
pad_from bytes tail h kind is whole some multiple =
    let long = is.long in
    let number : half_at 6 bytes ≡ 0 = is.kind ∙ ap kind_number kind in
    let type_is = type_back bytes 0 types.Pad (omega arith) is.version number refl long in
    let size = is.size in
    let full : pad_length h.length ≡ Ok h.length = pad_length_back h.length some multiple in
    let taken : take 32 bytes ≡ header_bytes h = ap (take 32) whole ∙ take_at (header_bytes h) tail 32 (length-header_bytes h) in
    let offset = is.offset in
    let even = is.even in
    let header : header_of Pad h.length h.place.term_offset bytes ≡ h = ap (λ k. header_of k h.length h.place.term_offset bytes) (sym kind) ∙ header_is bytes h is in
    rw (type_is, size, full, offset, even, taken, header) refl

-- the length of a data frame is its own, and not only its lowest bytes
own_length : (payload : List ℕ) → 32 + length payload < 2 ^ 31 → (32 + length payload) % 2 ^ 32 ≡ 32 + length payload
own_length payload fits = mod-eq_of_lt (omega arith)

-- the filling of a payload
abbrev fill : List ℕ → List ℕ
fill payload = replicate (padded (32 + length payload) - (32 + length payload)) 0

part_is : (flags : Flags) (place : TermPlace) (payload tail : List ℕ) → data_bytes flags place payload ++ tail ≡ (header_bytes (data_header flags place payload) ++ payload) ++ (fill payload ++ tail)
unfolding data_bytes
part_is flags place payload tail = append_assoc (header_bytes (data_header flags place payload) ++ payload) (fill payload) tail

part_begins : (flags : Flags) (place : TermPlace) (payload rest : List ℕ) → IsPlace place → 32 + length payload < 2 ^ 31
    → Begins (header_bytes (data_header flags place payload) ++ rest) (data_header flags place payload)
part_begins flags place payload rest at fits =
    let low : (32 + length payload) % 2 ^ 32 < 2 ^ 31 = omega (arith, own_length payload fits, fits) in
    let nothing : 0 < 256 ^ 8 = omega arith in
    begins (data_header flags place payload) rest at low nothing

pad_begins : (flags : Flags) (place : TermPlace) (size : ℕ) (rest : List ℕ) → IsPlace place → size < 2 ^ 31
    → Begins (header_bytes (plain_header Pad size flags place) ++ rest) (plain_header Pad size flags place)
pad_begins flags place size rest at low =
    let nothing : 0 < 256 ^ 8 = omega arith in
    begins (plain_header Pad size flags place) rest at low nothing

-- what begins with a frame begins with its header
written_begins : (w : Written) (tail : List ℕ) → IsWritten w → Begins (written_bytes w ++ tail) (written_frame w).header
unfolding pad_bytes
written_begins (part flags place payload) tail fits =
    let regrouped : data_bytes flags place payload ++ tail ≡ header_bytes (data_header flags place payload) ++ (payload ++ (fill payload ++ tail)) =
    part_is flags place payload tail ∙ append_assoc (header_bytes (data_header flags place payload)) payload (fill payload ++ tail) in
    subst (λ (b : List ℕ). Begins b (data_header flags place payload)) (sym regrouped) (part_begins flags place payload (payload ++ (fill payload ++ tail)) fits.0 fits.1)
written_begins (padding flags place size) tail fits = pad_begins flags place size tail fits.0 fits.2

pub first_again : (w : Written) (tail : List ℕ) → IsWritten w → frame_of (written_bytes w ++ tail) ≡ Ok (written_frame w)
unfolding pad_bytes
first_again (part flags place payload) tail fits =
    data_from (data_bytes flags place payload ++ tail) (fill payload ++ tail) payload (data_header flags place payload) refl
    (written_begins (part flags place payload) tail fits) (part_is flags place payload tail) (own_length payload fits.1)
first_again (padding flags place size) tail fits =
    pad_from (pad_bytes flags place size ++ tail) tail (plain_header Pad size flags place) refl
    (written_begins (padding flags place size) tail fits) refl fits.1 fits.3

part_size : (front filling : List ℕ) (n : ℕ) → length front ≡ n → length filling ≡ padded n - n → length (front ++ filling) ≡ padded (length front)
part_size front filling n a b = omega (arith, length-append front filling, a, b)

pub behind_again : (w : Written) (tail : List ℕ) → behind (written_frame w) (written_bytes w ++ tail) ≡ tail
unfolding data_bytes pad_bytes
behind_again (part flags place payload) tail =
    let front : List ℕ = header_bytes (data_header flags place payload) ++ payload in
    let size : length front ≡ 32 + length payload = omega (arith, length-append (header_bytes (data_header flags place payload)) payload, length-header_bytes (data_header flags place payload)) in
    let whole = part_size front (fill payload) (32 + length payload) size (length-replicate (padded (32 + length payload) - (32 + length payload)) 0) in
    drop_at (front ++ fill payload) tail (padded (length front)) whole
behind_again (padding flags place size) tail =
    let is = length-header_bytes (plain_header Pad size flags place) in
    let whole : length (header_bytes (plain_header Pad size flags place)) ≡ padded (length (header_bytes (plain_header Pad size flags place))) = omega (arith, is) in
    drop_at (header_bytes (plain_header Pad size flags place)) tail (padded (length (header_bytes (plain_header Pad size flags place)))) whole

-- ---- several frames

next_again : (before : Header) (w : Written) (tail : List ℕ) → IsWritten w → follows before (written_frame w).header ≡ true
    → next_of before (written_bytes w ++ tail) ≡ Ok (written_frame w)
unfolding next_of
next_again before w tail fits goes_on =
    let long = (written_begins w tail fits).long in
    rw (le-ltb (length (written_bytes w ++ tail)) 32 long, first_again w tail fits, goes_on) refl

written_long : (w : Written) → IsWritten w → 32 ≤ length (written_bytes w)
written_long w fits =
    let long = (written_begins w [] fits).long in
    let same = ap length (append-nil (written_bytes w)) in
    omega (arith, long, same)

shorter : (w : Written) (tail : List ℕ) (n : ℕ) → IsWritten w → length (written_bytes w ++ tail) ≤ suc n → length tail ≤ n
shorter w tail n fits enough =
    let some = written_long w fits in
    omega (arith, length-append (written_bytes w) tail)

later_again : (n : ℕ) (before : Header) (ws : List Written) → AreBehind before ws → length (all_bytes ws) ≤ n → later_of n before (all_bytes ws) ≡ Ok (all_frames ws)
later_again n before [] are enough = none_later n before
later_again zero before (w ∷ ws) are enough = let long = (written_begins w (all_bytes ws) are.0).long in absurd (omega arith)
later_again (suc n) before (w ∷ ws) are enough =
    let long = (written_begins w (all_bytes ws) are.0).long in
    let step = later_step n before (written_bytes w ++ all_bytes ws) (written_frame w) (omega arith) (next_again before w (all_bytes ws) are.0 are.1) in
    let left = behind_again w (all_bytes ws) in
    let less : length (all_bytes ws) ≤ n = shorter w (all_bytes ws) n are.0 enough in
    let ih = later_again n (written_frame w).header ws are.2 less in
    step
    ∙ ap (λ (b : List ℕ). later_of n (written_frame w).header b >>= λ later. Ok (written_frame w ∷ later)) left
    ∙ ap (λ (r : Result (List Sent) BadPacket). r >>= λ later. Ok (written_frame w ∷ later)) ih

frames_from : (bytes rest : List ℕ) (frame : Sent) (later : List Sent) → frame_of bytes ≡ Ok frame → behind frame bytes ≡ rest → later_of (length rest) frame.header rest ≡ Ok later
    → frames_of bytes ≡ Ok (frame ∷ later)
unfolding frames_of
frames_from bytes rest frame later first left more = rw (first, left, more) refl

all_again : (w : Written) (ws : List Written) → IsWritten w → AreBehind (written_frame w).header ws → frames_of (all_bytes (w ∷ ws)) ≡ Ok (all_frames (w ∷ ws))
all_again w ws fits are =
    frames_from (written_bytes w ++ all_bytes ws) (all_bytes ws) (written_frame w) (all_frames ws) (first_again w (all_bytes ws) fits) (behind_again w (all_bytes ws))
    (later_again (length (all_bytes ws)) (written_frame w).header ws are (omega arith))

-- frames of data are no heartbeat
no_beat : (bytes : List ℕ) (frames : List Sent) → (number_at 0 bytes ≡ 0 → ⊥) → frames_of bytes ≡ Ok frames → data_content bytes ≡ Ok (contents.frames frames)
unfolding data_content
no_beat bytes frames some read =
    elim (length bytes == 32) as (λ (b : Bool). cond (not b) (frames_of bytes >>= λ sent. Ok (contents.frames sent)) (cond (not (number_at 0 bytes == 0)) (frames_of bytes >>= λ sent. Ok (contents.frames sent)) (beat_of bytes >>= λ header. Ok (contents.beat header))) ≡ Ok (contents.frames frames)) [
      | true ↦ rw (ne_eqb (number_at 0 bytes) 0 some, read) refl
      | false ↦ rw read refl
    ]

data_packet : (bytes : List ℕ) (frames : List Sent) → type_of bytes ≡ Ok types.Data → data_content bytes ≡ Ok (contents.frames frames) → packet_of bytes ≡ Ok (contents.frames frames)
unfolding packet_of
data_packet bytes frames kind is = rw kind is

pad_packet : (bytes : List ℕ) (frames : List Sent) → type_of bytes ≡ Ok types.Pad → frames_of bytes ≡ Ok frames → packet_of bytes ≡ Ok (contents.frames frames)
unfolding packet_of
pad_packet bytes frames kind is = rw (kind, is) refl

pub frames_again : (w : Written) (ws : List Written) → IsWritten w → AreBehind (written_frame w).header ws
    → packet_of (all_bytes (w ∷ ws)) ≡ Ok (contents.frames (all_frames (w ∷ ws)))
frames_again (part flags place payload) ws fits are =
    let is = written_begins (part flags place payload) (all_bytes ws) fits in
    let long = is.long in
    let type_is = type_back (data_bytes flags place payload ++ all_bytes ws) 1 types.Data (omega arith) is.version is.kind refl long in
    let size : number_at 0 (data_bytes flags place payload ++ all_bytes ws) ≡ 32 + length payload = is.number ∙ own_length payload fits.1 in
    data_packet (data_bytes flags place payload ++ all_bytes ws) (all_frames (part flags place payload ∷ ws)) type_is
    (no_beat (data_bytes flags place payload ++ all_bytes ws) (all_frames (part flags place payload ∷ ws)) (λ none. omega (arith, size, none)) (all_again (part flags place payload) ws fits are))
frames_again (padding flags place size) ws fits are =
    let is = written_begins (padding flags place size) (all_bytes ws) fits in
    let long = is.long in
    let type_is = type_back (pad_bytes flags place size ++ all_bytes ws) 0 types.Pad (omega arith) is.version is.kind refl long in
    pad_packet (pad_bytes flags place size ++ all_bytes ws) (all_frames (padding flags place size ∷ ws)) type_is (all_again (padding flags place size) ws fits are)

-- ---- what is written has the form in which frames are written

no_reserved : (w : Written) → (written_frame w).header.reserved_value ≡ 0
no_reserved (part flags place payload) = refl
no_reserved (padding flags place size) = refl

header_fills : (flags : Flags) (place : TermPlace) (size : ℕ) → fill_length (written_frame (padding flags place size)) ≡ 0
unfolding pad_bytes
header_fills flags place size = omega (arith, length-header_bytes (plain_header Pad size flags place))

written_filling : (w : Written) (tail : List ℕ) → filling (written_frame w) (written_bytes w ++ tail) ≡ replicate (fill_length (written_frame w)) 0
written_filling (part flags place payload) tail =
    let front : List ℕ = header_bytes (data_header flags place payload) ++ payload in
    let size : length front ≡ 32 + length payload = omega (arith, length-append (header_bytes (data_header flags place payload)) payload, length-header_bytes (data_header flags place payload)) in
    let zeros : length (fill payload) ≡ padded (length front) - length front = length-replicate (padded (32 + length payload) - (32 + length payload)) 0 ∙ ap (λ (n : ℕ). padded n - n) (sym size) in
    ap (filling (written_frame (part flags place payload))) (part_is flags place payload tail)
    ∙ ap (take (padded (length front) - length front)) (drop_at front (fill payload ++ tail) (length front) refl)
    ∙ take_at (fill payload) tail (padded (length front) - length front) zeros
    ∙ ap (λ (n : ℕ). replicate (padded n - n) 0) (sym size)
written_filling (padding flags place size) tail =
    let none : fill_length (written_frame (padding flags place size)) ≡ 0 = header_fills flags place size in
    rw none refl

pub all_plain : (ws : List Written) → ArePlain (all_frames ws) (all_bytes ws)
all_plain [] = tt
all_plain (w ∷ ws) = (no_reserved w, written_filling w (all_bytes ws), subst (ArePlain (all_frames ws)) (sym (behind_again w (all_bytes ws))) (all_plain ws))

-- ---- heartbeats

beat_from : (bytes : List ℕ) (h : Header) → h.kind ≡ Data → h.length ≡ 0 → length bytes ≡ 32 → Begins bytes h → packet_of bytes ≡ Ok (contents.beat h)
unfolding packet_of data_content beat_of
beat_from bytes h kind none size is =
    let number : half_at 6 bytes ≡ 1 = is.kind ∙ ap kind_number kind in
    let type_is = type_back bytes 1 types.Data (omega arith) is.version number refl is.long in
    let nothing : number_at 0 bytes ≡ 0 = is.number ∙ none in
    let offset = is.offset in
    let even = is.even in
    let header : header_of Data 0 h.place.term_offset bytes ≡ h =
    ap (λ k. header_of k 0 h.place.term_offset bytes) (sym kind) ∙ ap (λ n. header_of h.kind n h.place.term_offset bytes) (sym none) ∙ header_is bytes h is in
    rw (type_is, eq-eqb (length bytes) 32 size, eq-eqb (number_at 0 bytes) 0 nothing, offset, even, header) refl

pub beat_again : (flags : Flags) (place : TermPlace) → IsPlace place → packet_of (beat_bytes flags place) ≡ Ok (contents.beat (plain_header Data 0 flags place))
unfolding beat_bytes
beat_again flags place at =
    let h : Header = plain_header Data 0 flags place in
    let none : 0 < 2 ^ 31 = omega arith in
    let nothing : 0 < 256 ^ 8 = omega arith in
    let is : Begins (header_bytes h) h = subst (λ (b : List ℕ). Begins b h) (append-nil (header_bytes h)) (begins h [] at none nothing) in
    beat_from (header_bytes h) h refl refl (length-header_bytes h) is
