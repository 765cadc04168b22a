-- Datagrams of frames of a term, and heartbeats, that were read are written as the bytes that they were read from.
use Rattle.std.proofs.Common.{◌≡◌, ℕ, ◌+◌, ◌-◌, ◌%◌, ◌^◌, ◌<◌, ◌≤◌, List, [], ◌∷◌, ◌++◌, length, take, drop, Ok, refl, sym, ap, subst, ◌∙◌, arith, length-drop}
use Rattle.std.specs.Prelude.{replicate}
use Rattle.std.proofs.lemmas.List.{take-append-drop, take_all, length-take, drop_all, append-nil}
use Rattle.std.proofs.Math.Seq.{take-add}
use Rattle.std.proofs.Math.Nat.{mod-eq_of_lt}
use Rattle.frame_codec.specs.declared.fault.BadPacket.TheVariants.{Mixed}
use Rattle.frame_codec.specs.declared.frame_type.FrameType.{FrameType}
use Rattle.frame_codec.specs.declared.frame_type.FrameType.TheVariants as types
use Rattle.frame_codec.specs.declared.header.Kind.{Kind}
use Rattle.frame_codec.specs.declared.header.Kind.TheVariants.{Data, Pad}
use Rattle.frame_codec.specs.declared.header.Header.{Header}
use Rattle.frame_codec.specs.Steps.{◌>>=◌}
use Rattle.frame_codec.specs.Fields.{IsBytes, number_at, natural_at, stated_length, aligned}
use Rattle.frame_codec.specs.FrameType.{type_of, type_size}
use Rattle.frame_codec.specs.Header.{header_of, header_bytes, plain_header}
use Rattle.frame_codec.specs.Frame.{Sent, padded, data_of, pad_of, pad_length, beat_of, frame_of, frame_as, data_header, data_bytes, pad_bytes, beat_bytes}
use Rattle.frame_codec.specs.Frames.{behind}
use Rattle.frame_codec.specs.Nak.{nak_of}
use Rattle.frame_codec.specs.StatusMessage.{status_of}
use Rattle.frame_codec.specs.Setup.{setup_of}
use Rattle.frame_codec.specs.Datagram.{packet_of}
use Rattle.frame_codec.specs.Datagram as contents
use Rattle.frame_codec.specs.Written.{IsKept, StandIn, fill_length, filling, ArePlain, written_bytes, written_as, all_bytes, all_written}
use Rattle.frame_codec.proofs.Chains.{bind_ok, step}
use Rattle.frame_codec.proofs.Readers.{type_fits, stated_ok, placed_ok, refused, frame_fits}
use Rattle.frame_codec.proofs.WriteBack.{IsBytes-drop, IsFront, type_number, found}
use Rattle.frame_codec.proofs.FramesBack.{header_fields, frame_kept, AreRead, packet_read}

-- ---- one frame, as it stands in the bytes

-- how long the bytes of a frame are
abbrev Size : Kind → Sent → Type 0
Size Data frame = (frame.header.length ≡ length frame.bytes) × (length frame.bytes < 2 ^ 31)
Size Pad frame = length frame.bytes ≡ 32

-- a frame stands at the front of the bytes
record Stands (bytes : List ℕ) (frame : Sent) : Type 0 where
  pub front : take (length frame.bytes) bytes ≡ frame.bytes
  pub size : Size frame.header.kind frame

data_stands : (bytes : List ℕ) (frame : Sent) → data_of bytes ≡ Ok frame → Stands bytes frame
unfolding data_of header_of
data_stands bytes frame e =
    elim (bind_ok (stated_length 32 bytes) (λ size. natural_at 8 bytes >>= λ offset. aligned offset >>= λ start. Ok (record { header = header_of Data size start bytes; bytes = take size bytes })) frame e) [
      | step size size_is after ↦
          let stated = stated_ok 32 bytes size size_is in
          let within = stated.within in let low = stated.low in
          let placed = placed_ok 8 bytes (λ start. record { header = header_of Data size start bytes; bytes = take size bytes }) frame after in
          let same : length (take size bytes) ≡ size = omega (arith, length-take size bytes, within) in
          let stands : Stands bytes (record { header = header_of Data size placed.offset bytes; bytes = take size bytes }) = record {
            front = ap (λ (n : ℕ). take n bytes) same;
            size = (sym same, omega (arith, same, low));
          } in
          subst (Stands bytes) placed.made stands
    ]

pad_stands : (bytes : List ℕ) (frame : Sent) → 32 ≤ length bytes → pad_of bytes ≡ Ok frame → Stands bytes frame
unfolding pad_of header_of
pad_stands bytes frame long e =
    elim (bind_ok (natural_at 0 bytes) (λ stated. pad_length stated >>= λ size. natural_at 8 bytes >>= λ offset. aligned offset >>= λ start. Ok (record { header = header_of Pad size start bytes; bytes = take 32 bytes })) frame e) [
      | step stated stated_is after ↦
          elim (bind_ok (pad_length stated) (λ size. natural_at 8 bytes >>= λ offset. aligned offset >>= λ start. Ok (record { header = header_of Pad size start bytes; bytes = take 32 bytes })) frame after) [
            | step size size_is last ↦
                let placed = placed_ok 8 bytes (λ start. record { header = header_of Pad size start bytes; bytes = take 32 bytes }) frame last in
                let same : length (take 32 bytes) ≡ 32 = omega (arith, length-take 32 bytes, long) in
                let stands : Stands bytes (record { header = header_of Pad size placed.offset bytes; bytes = take 32 bytes }) = record {
                  front = ap (λ (n : ℕ). take n bytes) same;
                  size = same;
                } in
                subst (Stands bytes) placed.made stands
          ]
    ]

frame_as_stands : (bytes : List ℕ) (kind : FrameType) (frame : Sent) → type_size kind ≤ length bytes → frame_as bytes kind ≡ Ok frame → Stands bytes frame
frame_as_stands bytes types.Pad frame long e = pad_stands bytes frame long e
frame_as_stands bytes types.Data frame long e = data_stands bytes frame e
frame_as_stands bytes types.Nak frame long e = absurd (refused (nak_of bytes) Mixed frame e)
frame_as_stands bytes types.StatusMessage frame long e = absurd (refused (status_of bytes) Mixed frame e)
frame_as_stands bytes types.Setup frame long e = absurd (refused (setup_of bytes) Mixed frame e)

frame_stands : (bytes : List ℕ) (frame : Sent) → frame_of bytes ≡ Ok frame → Stands bytes frame
unfolding frame_of
frame_stands bytes frame e =
    elim (bind_ok (type_of bytes) (frame_as bytes) frame e) [
      | step kind kind_is after ↦ frame_as_stands bytes kind frame (type_fits bytes kind kind_is) after
    ]

-- ---- all frames stand in the bytes

all_stand : (frames : List Sent) (bytes : List ℕ) → AreRead frames bytes → StandIn frames bytes
all_stand [] bytes are = are
all_stand (frame ∷ later) bytes are = ((frame_stands bytes frame are.0).front, all_stand later (behind frame bytes) are.1)

pub frames_stand : (bytes : List ℕ) (frames : List Sent) → packet_of bytes ≡ Ok (contents.frames frames) → StandIn frames bytes
frames_stand bytes frames e = all_stand frames bytes (packet_read bytes frames e)

-- ---- one frame, written again

abbrev reserving : Header → ℕ → Header
reserving h value = record { kind = h.kind; length = h.length; flags = h.flags; place = h.place; reserved_value = value }

header_plain : (h : Header) (kind : Kind) (size : ℕ) → h.kind ≡ kind → h.length ≡ size → h.reserved_value ≡ 0 → plain_header kind size h.flags h.place ≡ h
header_plain h kind size kind_is size_is none =
    ap (λ (k : Kind). plain_header k size h.flags h.place) (sym kind_is)
    ∙ ap (λ (n : ℕ). plain_header h.kind n h.flags h.place) (sym size_is)
    ∙ ap (reserving h) (sym none)

-- a frame's bytes, and zeros up to the next multiple of 32
abbrev filled : Sent → List ℕ
filled frame = frame.bytes ++ replicate (fill_length frame) 0

part_written : (frame : Sent) → frame.header.kind ≡ Data → Size Data frame → 32 ≤ length frame.bytes → IsKept frame → frame.header.reserved_value ≡ 0
    → data_bytes frame.header.flags frame.header.place (drop 32 frame.bytes) ≡ filled frame
unfolding data_bytes
part_written frame kind size long kept none =
    let low = size.1 in
    let same : 32 + length (drop 32 frame.bytes) ≡ length frame.bytes = omega (arith, length-drop 32 frame.bytes, long) in
    let fits : 32 + length (drop 32 frame.bytes) < 2 ^ 32 = omega (arith, same, low) in
    let own : (32 + length (drop 32 frame.bytes)) % 2 ^ 32 ≡ frame.header.length = mod-eq_of_lt fits ∙ same ∙ sym size.0 in
    let header : data_header frame.header.flags frame.header.place (drop 32 frame.bytes) ≡ frame.header =
    header_plain frame.header Data ((32 + length (drop 32 frame.bytes)) % 2 ^ 32) kind (sym own) none in
    ap (λ (h : Header). (header_bytes h ++ drop 32 frame.bytes) ++ replicate (padded (32 + length (drop 32 frame.bytes)) - (32 + length (drop 32 frame.bytes))) 0) header
    ∙ ap (λ (front : List ℕ). front ++ replicate (padded (32 + length (drop 32 frame.bytes)) - (32 + length (drop 32 frame.bytes))) 0) kept
    ∙ ap (λ (n : ℕ). frame.bytes ++ replicate (padded n - n) 0) same

pad_written : (frame : Sent) → frame.header.kind ≡ Pad → Size Pad frame → IsKept frame → frame.header.reserved_value ≡ 0
    → pad_bytes frame.header.flags frame.header.place frame.header.length ≡ filled frame
unfolding pad_bytes
pad_written frame kind size kept none =
    let header = header_plain frame.header Pad frame.header.length kind refl none in
    let no_payload : drop 32 frame.bytes ≡ [] = drop_all 32 frame.bytes (omega (arith, size)) in
    let no_filling : fill_length frame ≡ 0 = omega (arith, size) in
    ap header_bytes header
    ∙ sym (append-nil (header_bytes frame.header))
    ∙ ap (λ (rest : List ℕ). header_bytes frame.header ++ rest) (sym no_payload)
    ∙ kept
    ∙ sym (append-nil frame.bytes)
    ∙ ap (λ (n : ℕ). frame.bytes ++ replicate n 0) (sym no_filling)

written_by : (kind : Kind) (frame : Sent) → frame.header.kind ≡ kind → Size kind frame → 32 ≤ length frame.bytes → IsKept frame → frame.header.reserved_value ≡ 0
    → written_bytes (written_as kind frame) ≡ filled frame
written_by Data frame is size long kept none = part_written frame is size long kept none
written_by Pad frame is size long kept none = pad_written frame is size kept none

-- a frame with its filling is what stands before the frames behind it
filled_front : (bytes : List ℕ) (frame : Sent) → Stands bytes frame → filling frame bytes ≡ replicate (fill_length frame) 0
    → filled frame ++ behind frame bytes ≡ bytes
filled_front bytes frame stands zeros =
    let whole : length frame.bytes + fill_length frame ≡ padded (length frame.bytes) = omega arith in
    ap (λ (list : List ℕ). (list ++ replicate (fill_length frame) 0) ++ behind frame bytes) (sym stands.front)
    ∙ ap (λ (list : List ℕ). (take (length frame.bytes) bytes ++ list) ++ behind frame bytes) (sym zeros)
    ∙ ap (λ (list : List ℕ). list ++ behind frame bytes) (sym (take-add (length frame.bytes) (fill_length frame) bytes))
    ∙ ap (λ (n : ℕ). take n bytes ++ behind frame bytes) whole
    ∙ take-append-drop (padded (length frame.bytes)) bytes

first_written : (bytes : List ℕ) (frame : Sent) → IsBytes bytes → frame_of bytes ≡ Ok frame → frame.header.reserved_value ≡ 0
    → filling frame bytes ≡ replicate (fill_length frame) 0 → written_bytes (written_as frame.header.kind frame) ++ behind frame bytes ≡ bytes
first_written bytes frame fits e none zeros =
    let stands = frame_stands bytes frame e in
    ap (λ (list : List ℕ). list ++ behind frame bytes) (written_by frame.header.kind frame refl stands.size (frame_fits bytes frame e).0 (frame_kept bytes frame fits e) none)
    ∙ filled_front bytes frame stands zeros

-- ---- all frames, written again

all_written_again : (frames : List Sent) (bytes : List ℕ) → IsBytes bytes → AreRead frames bytes → ArePlain frames bytes → all_bytes (all_written frames) ≡ bytes
all_written_again [] bytes fits are plain = sym are
all_written_again (frame ∷ later) bytes fits are plain =
    ap (λ (rest : List ℕ). written_bytes (written_as frame.header.kind frame) ++ rest)
    (all_written_again later (behind frame bytes) (IsBytes-drop (padded (length frame.bytes)) bytes fits) are.1 plain.2)
    ∙ first_written bytes frame fits are.0 plain.0 plain.1

pub datagram_written : (bytes : List ℕ) (frames : List Sent) → IsBytes bytes → packet_of bytes ≡ Ok (contents.frames frames) → ArePlain frames bytes → all_bytes (all_written frames) ≡ bytes
datagram_written bytes frames fits e plain = all_written_again frames bytes fits (packet_read bytes frames e) plain

-- ---- heartbeats

beat_read : (bytes : List ℕ) (h : Header) → IsBytes bytes → IsFront bytes 1 → length bytes ≡ 32 → number_at 0 bytes ≡ 0 → beat_of bytes ≡ Ok h → h.reserved_value ≡ 0
    → beat_bytes h.flags h.place ≡ bytes
unfolding beat_of beat_bytes header_of
beat_read bytes h fits front long nothing e none =
    let placed = placed_ok 8 bytes (λ start. header_of Data 0 start bytes) h e in
    let header = header_fields bytes h Data 0 placed.offset fits (omega (arith, long)) front nothing placed.is placed.made in
    let kind : h.kind ≡ Data = sym (ap (λ (x : Header). x.kind) placed.made) in
    let size : h.length ≡ 0 = sym (ap (λ (x : Header). x.length) placed.made) in
    ap header_bytes (header_plain h Data 0 kind size none) ∙ header ∙ take_all 32 bytes (omega (arith, long))

pub beat_written : (bytes : List ℕ) (h : Header) → IsBytes bytes → packet_of bytes ≡ Ok (contents.beat h) → h.reserved_value ≡ 0 → beat_bytes h.flags h.place ≡ bytes
beat_written bytes h fits e none =
    let is = found bytes (contents.beat h) e in
    let read = is.is in
    let front : IsFront bytes 1 = subst (λ (kind : FrameType). IsFront bytes (type_number kind)) read.0 is.front in
    beat_read bytes h fits front read.1 read.2 read.3 none
