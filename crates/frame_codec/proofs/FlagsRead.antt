-- The flags of a frame are the sixth byte of it.
use Rattle.std.proofs.Common.{◌≡◌, ℕ, List, [], ◌∷◌, ◌++◌, drop, All, Ok, refl, sym, ap, ◌∙◌}
use Rattle.std.specs.Prelude.{slice_index}
use Rattle.std.proofs.lemmas.List.Elements.{All-nil, All-cons}
use Rattle.frame_codec.specs.declared.flags.Flags.{Flags}
use Rattle.frame_codec.specs.declared.header.Header.{Header}
use Rattle.frame_codec.specs.declared.header.Kind.TheVariants.{Data}
use Rattle.frame_codec.specs.declared.header.TermPlace.{TermPlace}
use Rattle.frame_codec.specs.declared.status_message.StatusMessage.{StatusMessage}
use Rattle.frame_codec.specs.Datagram as contents
use Rattle.frame_codec.specs.Datagram.{packet_of}
use Rattle.frame_codec.specs.Fields.{byte_at, natural_at, stated_length}
use Rattle.frame_codec.specs.FlagLaws.{HasFlags, FlagsAreRead, FlagsAreWritten}
use Rattle.frame_codec.specs.Frame.{Sent, beat_of, data_bytes, pad_bytes, beat_bytes}
use Rattle.frame_codec.specs.Header.{header_of, header_bytes}
use Rattle.frame_codec.specs.StatusMessage.{status_of, status_at, status_bytes}
use Rattle.frame_codec.specs.Steps.{◌>>=◌}
use Rattle.frame_codec.specs.Writing.{number_bytes, signed_bytes, front_bytes}
use Rattle.frame_codec.specs.Written.{AreKept}
use Rattle.frame_codec.proofs.Chains.{bind_ok, step, ok_is}
use Rattle.frame_codec.proofs.FramesBack.{frames_written}
use Rattle.frame_codec.proofs.Readers.{placed_ok}
use Rattle.frame_codec.proofs.WriteBack.{found}

header_has : (header : Header) (rest : List ℕ) → HasFlags header.flags (header_bytes header ++ rest)
unfolding header_bytes front_bytes number_bytes signed_bytes
header_has header rest = refl

-- ---- read

kept_have : (frames : List Sent) → AreKept frames → All (λ frame. HasFlags frame.header.flags frame.bytes) frames
kept_have [] kept = All-nil (λ (frame : Sent). HasFlags frame.header.flags frame.bytes)
kept_have (frame ∷ later) kept =
    All-cons (λ (f : Sent). HasFlags f.header.flags f.bytes) frame later
    (ap (λ (bytes : List ℕ). slice_index bytes 5) (sym kept.0) ∙ header_has frame.header (drop 32 frame.bytes)) (kept_have later kept.1)

beat_has : (bytes : List ℕ) (header : Header) → beat_of bytes ≡ Ok header → HasFlags header.flags bytes
unfolding beat_of header_of byte_at
beat_has bytes header is =
    let placed = placed_ok 8 bytes (λ start. header_of Data 0 start bytes) header is in
    ap (λ (h : Header). h.flags.bits) placed.made

status_has : (bytes : List ℕ) (message : StatusMessage) → status_of bytes ≡ Ok message → HasFlags message.flags bytes
unfolding status_of status_at byte_at
status_has bytes message is =
    elim (bind_ok (stated_length 36 bytes) (λ size. natural_at 20 bytes >>= λ offset. natural_at 24 bytes >>= λ window. Ok (status_at offset window bytes)) message is) [
      | step size size_is after ↦
          elim (bind_ok (natural_at 20 bytes) (λ offset. natural_at 24 bytes >>= λ window. Ok (status_at offset window bytes)) message after) [
            | step offset offset_is next ↦
                elim (bind_ok (natural_at 24 bytes) (λ window. Ok (status_at offset window bytes)) message next) [
                  | step window window_is last ↦ ap (λ (m : StatusMessage). m.flags.bits) (ok_is (status_at offset window bytes) message last)
                ]
          ]
    ]

pub flags_read : FlagsAreRead
flags_read = record {
  frames = λ bytes frames fits is. kept_have frames (frames_written bytes frames fits is);
  beat = λ bytes header is. beat_has bytes header (found bytes (contents.beat header) is).is.3;
  status = λ bytes message is. status_has bytes message (found bytes (contents.status message) is).is.1;
}

-- ---- written

data_has : (flags : Flags) (place : TermPlace) (payload : List ℕ) → HasFlags flags (data_bytes flags place payload)
unfolding data_bytes header_bytes front_bytes number_bytes signed_bytes
data_has flags place payload = refl

pad_has : (flags : Flags) (place : TermPlace) (size : ℕ) → HasFlags flags (pad_bytes flags place size)
unfolding pad_bytes header_bytes front_bytes number_bytes signed_bytes
pad_has flags place size = refl

beat_written_has : (flags : Flags) (place : TermPlace) → HasFlags flags (beat_bytes flags place)
unfolding beat_bytes header_bytes front_bytes number_bytes signed_bytes
beat_written_has flags place = refl

status_has_none : (message : StatusMessage) → slice_index (status_bytes message) 5 ≡ 0
unfolding status_bytes front_bytes number_bytes signed_bytes
status_has_none message = refl

pub flags_written : FlagsAreWritten
flags_written = record {
  fragment = data_has;
  pad = pad_has;
  beat = beat_written_has;
  status = status_has_none;
}
