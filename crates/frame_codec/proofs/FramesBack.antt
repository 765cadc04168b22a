-- Frames of a term that were read are written as the bytes that they were read from.
use Rattle.std.proofs.Common.{◌≡◌, ℕ, zero, suc, ◌+◌, ◌-◌, ◌%◌, ◌≤◌, ◌==◌, cond, List, [], ◌∷◌, ◌++◌, length, take, drop, Ok, Err, refl, sym, ap, subst, ◌∙◌, arith}
use Rattle.std.proofs.lemmas.List.{drop-take, nil_from_length}
use Rattle.std.proofs.Math.Seq.{take-add}
use Rattle.frame_codec.specs.declared.fault.BadPacket.TheVariants.{BadLength, Mixed}
use Rattle.frame_codec.specs.declared.frame_type.FrameType.{FrameType}
use Rattle.frame_codec.specs.declared.frame_type.FrameType.TheVariants as types
use Rattle.frame_codec.specs.declared.header.Kind.{Kind}
use Rattle.frame_codec.specs.declared.header.Kind.TheVariants.{Data, Pad}
use Rattle.frame_codec.specs.declared.header.Header.{Header}
use Rattle.frame_codec.specs.Steps.{◌>>=◌}
use Rattle.frame_codec.specs.Fields.{IsBytes, number_at, natural_at, stated_length, aligned}
use Rattle.frame_codec.specs.FrameType.{type_of, type_size}
use Rattle.frame_codec.specs.Header.{header_of, header_bytes, kind_number}
use Rattle.frame_codec.specs.Frame.{Sent, padded, data_of, pad_of, pad_length, frame_of, frame_as}
use Rattle.frame_codec.specs.Frames.{behind, next_of, later_of, all_later, frames_of}
use Rattle.frame_codec.specs.Nak.{nak_of}
use Rattle.frame_codec.specs.StatusMessage.{status_of}
use Rattle.frame_codec.specs.Setup.{setup_of}
use Rattle.frame_codec.specs.Datagram.{Content, packet_of, content_as, data_content}
use Rattle.frame_codec.specs.Datagram as contents
use Rattle.frame_codec.specs.Written.{AreKept, IsKept}
use Rattle.frame_codec.proofs.Chains.{bind_ok, step, ok_is, guard_ok, wanted_ok}
use Rattle.frame_codec.proofs.Readers.{type_fits, natural_ok, stated_ok, placed_ok, refused}
use Rattle.frame_codec.proofs.FramesLemmas.{behind_less, next_ok}
use Rattle.frame_codec.proofs.WriteBack.{IsBytes-drop, IsFront, type_number, type_ok, found, front_back, then_number, then_signed, then_long}

-- ---- one frame

pub header_fields : (bytes : List ℕ) (h : Header) (kind : Kind) (size offset : ℕ) → IsBytes bytes → 32 ≤ length bytes → IsFront bytes (kind_number kind)
    → number_at 0 bytes ≡ size → number_at 8 bytes ≡ offset → header_of kind size offset bytes ≡ h → header_bytes h ≡ take 32 bytes
unfolding header_bytes header_of
header_fields bytes h kind size offset fits long front stated is made =
    let same : IsFront bytes (kind_number h.kind) = subst (λ (x : Header). IsFront bytes (kind_number x.kind)) made front in
    let s0 = front_back bytes h.length h.flags (kind_number h.kind) fits (omega arith) same (stated ∙ ap (λ (x : Header). x.length) made) (ap (λ (x : Header). x.flags.bits) made) in
    let s1 = then_number 8 h.place.term_offset bytes _ fits (omega arith) (is ∙ ap (λ (x : Header). x.place.term_offset) made) s0 in
    let s2 = then_signed 12 h.place.session_id bytes _ fits (omega arith) (ap (λ (x : Header). x.place.session_id) made) s1 in
    let s3 = then_signed 16 h.place.stream_id bytes _ fits (omega arith) (ap (λ (x : Header). x.place.stream_id) made) s2 in
    let s4 = then_signed 20 h.place.term_id bytes _ fits (omega arith) (ap (λ (x : Header). x.place.term_id) made) s3 in
    then_long 24 h.reserved_value bytes _ fits (omega arith) (ap (λ (x : Header). x.reserved_value) made) s4

-- the header, and the rest of the first n bytes
kept_by : (bytes header : List ℕ) (m : ℕ) → header ≡ take 32 bytes → header ++ drop 32 (take (32 + m) bytes) ≡ take (32 + m) bytes
kept_by bytes header m is =
    ap (λ (rest : List ℕ). header ++ rest) (drop-take 32 m bytes) ∙ ap (λ (front : List ℕ). front ++ take m (drop 32 bytes)) is ∙ sym (take-add 32 m bytes)

kept_all : (bytes header : List ℕ) (n : ℕ) → 32 ≤ n → header ≡ take 32 bytes → header ++ drop 32 (take n bytes) ≡ take n bytes
kept_all bytes header n above is =
    let whole : 32 + (n - 32) ≡ n = omega (arith, above) in
    subst (λ (k : ℕ). header ++ drop 32 (take k bytes) ≡ take k bytes) whole (kept_by bytes header (n - 32) is)

data_kept : (bytes : List ℕ) (frame : Sent) → IsBytes bytes → IsFront bytes 1 → data_of bytes ≡ Ok frame → IsKept frame
unfolding data_of
data_kept bytes frame fits front e =
    elim (bind_ok (stated_length 32 bytes) (λ size. natural_at 8 bytes >>= λ offset. aligned offset >>= λ start. Ok (record { header = header_of Data size start bytes; bytes = take size bytes })) frame e) [
      | step size size_is after ↦
          let stated = stated_ok 32 bytes size size_is in
          let above = stated.above in let within = stated.within in
          let placed = placed_ok 8 bytes (λ start. record { header = header_of Data size start bytes; bytes = take size bytes }) frame after in
          let long : 32 ≤ length bytes = omega (arith, above, within) in
          let header = header_fields bytes (header_of Data size placed.offset bytes) Data size placed.offset fits long front stated.is placed.is refl in
          subst IsKept placed.made (kept_all bytes (header_bytes (header_of Data size placed.offset bytes)) size above header)
    ]

pad_length_same : (stated size : ℕ) → pad_length stated ≡ Ok size → stated ≡ size
pad_length_same stated size e =
    let a = guard_ok (stated == 0) BadLength (cond (stated % 32 == 0) (Ok stated) (Err BadLength)) size e in
    let b = wanted_ok (stated % 32 == 0) BadLength (Ok stated) size a.1 in
    ok_is stated size b.1

pad_kept : (bytes : List ℕ) (frame : Sent) → IsBytes bytes → IsFront bytes 0 → 32 ≤ length bytes → pad_of bytes ≡ Ok frame → IsKept frame
unfolding pad_of
pad_kept bytes frame fits front long e =
    elim (bind_ok (natural_at 0 bytes) (λ stated. pad_length stated >>= λ size. natural_at 8 bytes >>= λ offset. aligned offset >>= λ start. Ok (record { header = header_of Pad size start bytes; bytes = take 32 bytes })) frame e) [
      | step stated stated_is after ↦
          elim (bind_ok (pad_length stated) (λ size. natural_at 8 bytes >>= λ offset. aligned offset >>= λ start. Ok (record { header = header_of Pad size start bytes; bytes = take 32 bytes })) frame after) [
            | step size size_is last ↦
                let placed = placed_ok 8 bytes (λ start. record { header = header_of Pad size start bytes; bytes = take 32 bytes }) frame last in
                let number : number_at 0 bytes ≡ size = (natural_ok 0 bytes stated stated_is).0 ∙ pad_length_same stated size size_is in
                let header = header_fields bytes (header_of Pad size placed.offset bytes) Pad size placed.offset fits long front number placed.is refl in
                subst IsKept placed.made (kept_all bytes (header_bytes (header_of Pad size placed.offset bytes)) 32 (omega arith) header)
          ]
    ]

frame_as_kept : (bytes : List ℕ) (kind : FrameType) (frame : Sent) → IsBytes bytes → IsFront bytes (type_number kind) → type_size kind ≤ length bytes → frame_as bytes kind ≡ Ok frame → IsKept frame
frame_as_kept bytes types.Pad frame fits front long e = pad_kept bytes frame fits front long e
frame_as_kept bytes types.Data frame fits front long e = data_kept bytes frame fits front e
frame_as_kept bytes types.Nak frame fits front long e = absurd (refused (nak_of bytes) Mixed frame e)
frame_as_kept bytes types.StatusMessage frame fits front long e = absurd (refused (status_of bytes) Mixed frame e)
frame_as_kept bytes types.Setup frame fits front long e = absurd (refused (setup_of bytes) Mixed frame e)

pub frame_kept : (bytes : List ℕ) (frame : Sent) → IsBytes bytes → frame_of bytes ≡ Ok frame → IsKept frame
unfolding frame_of
frame_kept bytes frame fits e =
    elim (bind_ok (type_of bytes) (frame_as bytes) frame e) [
      | step kind kind_is after ↦ frame_as_kept bytes kind frame fits (type_ok bytes kind kind_is) (type_fits bytes kind kind_is) after
    ]

-- ---- all frames of a datagram

-- frames that were read one behind the other, to the last byte
abbrev pub AreRead : List Sent → List ℕ → Type 0
AreRead [] bytes = bytes ≡ []
AreRead (frame ∷ later) bytes = (frame_of bytes ≡ Ok frame) × AreRead later (behind frame bytes)

later_read : (n : ℕ) (before : Header) (bytes : List ℕ) (frames : List Sent) → length bytes ≤ n → later_of n before bytes ≡ Ok frames → AreRead frames bytes
unfolding later_of
later_read zero before bytes frames h e = subst (λ (fs : List Sent). AreRead fs bytes) (ok_is [] frames e) (nil_from_length bytes (omega arith))
later_read (suc n) before [] frames h e = subst (λ (fs : List Sent). AreRead fs []) (ok_is [] frames e) refl
later_read (suc n) before (b ∷ bytes) frames h e =
    elim (bind_ok (next_of before (b ∷ bytes)) (λ frame. later_of n frame.header (behind frame (b ∷ bytes)) >>= λ later. Ok (frame ∷ later)) frames e) [
      | step frame frame_is after ↦
          let read = (next_ok before (b ∷ bytes) frame frame_is).0 in
          let less = behind_less (b ∷ bytes) frame read in
          elim (bind_ok (later_of n frame.header (behind frame (b ∷ bytes))) (λ later. Ok (frame ∷ later)) frames after) [
            | step later later_is last ↦
                subst (λ (fs : List Sent). AreRead fs (b ∷ bytes)) (ok_is (frame ∷ later) frames last)
                (read, later_read n frame.header (behind frame (b ∷ bytes)) later (omega arith) later_is)
          ]
    ]

all_read : (bytes : List ℕ) (frames : List Sent) → frames_of bytes ≡ Ok frames → AreRead frames bytes
unfolding frames_of
all_read bytes frames e =
    elim (bind_ok (frame_of bytes) (λ frame. all_later frame.header (behind frame bytes) >>= λ later. Ok (frame ∷ later)) frames e) [
      | step frame frame_is after ↦
          elim (bind_ok (all_later frame.header (behind frame bytes)) (λ later. Ok (frame ∷ later)) frames after) [
            | step later later_is last ↦
                subst (λ (fs : List Sent). AreRead fs bytes) (ok_is (frame ∷ later) frames last)
                (frame_is, later_read (length (behind frame bytes)) frame.header (behind frame bytes) later (omega arith) later_is)
          ]
    ]

pub packet_read : (bytes : List ℕ) (frames : List Sent) → packet_of bytes ≡ Ok (contents.frames frames) → AreRead frames bytes
packet_read bytes frames e = all_read bytes frames (found bytes (contents.frames frames) e).is

all_kept : (frames : List Sent) (bytes : List ℕ) → IsBytes bytes → AreRead frames bytes → AreKept frames
all_kept [] bytes fits are = tt
all_kept (frame ∷ later) bytes fits are =
    (frame_kept bytes frame fits are.0, all_kept later (behind frame bytes) (IsBytes-drop (padded (length frame.bytes)) bytes fits) are.1)

pub frames_written : (bytes : List ℕ) (frames : List Sent) → IsBytes bytes → packet_of bytes ≡ Ok (contents.frames frames) → AreKept frames
frames_written bytes frames fits e = all_kept frames bytes fits (packet_read bytes frames e)
