-- Where the flags of a frame stand in its bytes (Aeron Transport Protocol Specification, frame headers).
use Rattle.std.specs.Prelude.{◌≡◌, ℕ, List, Ok, All, slice_index}
use Rattle.frame_codec.specs.declared.flags.Flags.{Flags}
use Rattle.frame_codec.specs.declared.header.Header.{Header}
use Rattle.frame_codec.specs.declared.header.TermPlace.{TermPlace}
use Rattle.frame_codec.specs.declared.status_message.StatusMessage.{StatusMessage}
use Rattle.frame_codec.specs.Datagram as contents
use Rattle.frame_codec.specs.Datagram.{packet_of}
use Rattle.frame_codec.specs.Fields.{IsBytes}
use Rattle.frame_codec.specs.Frame.{Sent, data_bytes, pad_bytes, beat_bytes}
use Rattle.frame_codec.specs.StatusMessage.{status_bytes}

-- the sixth byte of a frame has these flags
abbrev pub HasFlags : Flags → List ℕ → Type 0
HasFlags flags bytes = slice_index bytes 5 ≡ flags.bits

-- so it is with each frame that was read
pub record FlagsAreRead : Type 0 where
  pub frames : (bytes : List ℕ) (frames : List Sent) → IsBytes bytes → packet_of bytes ≡ Ok (contents.frames frames) →
      All (λ frame. HasFlags frame.header.flags frame.bytes) frames
  pub beat : (bytes : List ℕ) (header : Header) → packet_of bytes ≡ Ok (contents.beat header) → HasFlags header.flags bytes
  pub status : (bytes : List ℕ) (message : StatusMessage) → packet_of bytes ≡ Ok (contents.status message) →
      HasFlags message.flags bytes

-- and with each that is written; a status message is written without a flag
pub record FlagsAreWritten : Type 0 where
  pub fragment : (flags : Flags) (place : TermPlace) (payload : List ℕ) → HasFlags flags (data_bytes flags place payload)
  pub pad : (flags : Flags) (place : TermPlace) (size : ℕ) → HasFlags flags (pad_bytes flags place size)
  pub beat : (flags : Flags) (place : TermPlace) → HasFlags flags (beat_bytes flags place)
  pub status : (message : StatusMessage) → slice_index (status_bytes message) 5 ≡ 0
