-- What a datagram holds, or why it is dropped (Aeron Transport Protocol Specification).
use Rattle.std.specs.Prelude.{ℕ, ◌==◌, not, if◌then◌else◌, List, length, Result, Ok}
use Rattle.frame_codec.specs.declared.fault.BadPacket.{BadPacket}
use Rattle.frame_codec.specs.declared.frame_type.FrameType.{FrameType}
use Rattle.frame_codec.specs.declared.frame_type.FrameType.TheVariants as types
use Rattle.frame_codec.specs.declared.header.Header.{Header}
use Rattle.frame_codec.specs.declared.nak.Nak.{Nak}
use Rattle.frame_codec.specs.declared.status_message.StatusMessage.{StatusMessage}
use Rattle.frame_codec.specs.declared.setup.Setup.{Setup}
use Rattle.frame_codec.specs.declared.datagram.Packet.{Packet}
use Rattle.frame_codec.specs.declared.datagram.Packet.TheVariants as packets
use Rattle.frame_codec.specs.Steps.{◌>>=◌}
use Rattle.frame_codec.specs.Fields.{number_at}
use Rattle.frame_codec.specs.FrameType.{type_of}
use Rattle.frame_codec.specs.Frame.{Sent, beat_of}
use Rattle.frame_codec.specs.Frames.{frames_of, frames_left}
use Rattle.frame_codec.specs.Nak.{nak_of}
use Rattle.frame_codec.specs.StatusMessage.{status_of}
use Rattle.frame_codec.specs.Setup.{setup_of}

-- what a datagram holds: frames of one term, or one frame of another type
pub data Content : Type 0 where
  frames : List Sent → Content
  beat : Header → Content
  nak : Nak → Content
  status : StatusMessage → Content
  setup : Setup → Content

abbrev pub content : Packet → Content
content (packets.Data left) = frames (frames_left left)
content (packets.Beat header) = beat header
content (packets.Nak fields) = nak fields
content (packets.Sm fields) = status fields
content (packets.Setup fields) = setup fields

-- frames of one term
abbrev pub term_content : List ℕ → Result Content BadPacket
term_content bytes = frames_of bytes >>= λ sent. Ok (frames sent)

-- data, or a heartbeat: 32 bytes of which the length is 0
unfoldable pub data_content : List ℕ → Result Content BadPacket
data_content bytes =
    if not (length bytes == 32) then term_content bytes
    else if not (number_at 0 bytes == 0) then term_content bytes
    else beat_of bytes >>= λ header. Ok (beat header)

abbrev pub content_as : List ℕ → FrameType → Result Content BadPacket
content_as bytes types.Pad = term_content bytes
content_as bytes types.Data = data_content bytes
content_as bytes types.Nak = nak_of bytes >>= λ fields. Ok (nak fields)
content_as bytes types.StatusMessage = status_of bytes >>= λ fields. Ok (status fields)
content_as bytes types.Setup = setup_of bytes >>= λ fields. Ok (setup fields)

-- by the type of the first frame
unfoldable pub packet_of : List ℕ → Result Content BadPacket
packet_of bytes = type_of bytes >>= content_as bytes
