-- Status messages: a receiver reports what it has taken, and for how much more it has room
-- (Aeron Transport Protocol Specification, status message).
use Rattle.std.specs.Prelude.{ℕ, List, ◌++◌, Result, Ok}
use Rattle.frame_codec.specs.declared.fault.BadPacket.{BadPacket}
use Rattle.frame_codec.specs.declared.status_message.StatusMessage.{StatusMessage}
use Rattle.frame_codec.specs.Steps.{◌>>=◌}
use Rattle.frame_codec.specs.Writing.{number_bytes, signed_bytes, front_bytes, no_flags}
use Rattle.frame_codec.specs.Fields.{byte_at, signed_at, long_at, natural_at, stated_length}

-- the fields of a status message of that offset and window
unfoldable pub status_at : ℕ → ℕ → List ℕ → StatusMessage
status_at offset window bytes = record {
  flags = record { bits = byte_at 5 bytes };
  session_id = signed_at 8 bytes;
  stream_id = signed_at 12 bytes;
  consumption_term_id = signed_at 16 bytes;
  consumption_term_offset = offset;
  receiver_window = window;
  receiver_id = long_at 28 bytes;
}

-- the status message in the first 36 bytes; what stands after it is not looked at
unfoldable pub status_of : List ℕ → Result StatusMessage BadPacket
status_of bytes = do
  size ← stated_length 36 bytes
  offset ← natural_at 20 bytes
  window ← natural_at 24 bytes
  Ok (status_at offset window bytes)

-- a status message as it is written here, of 36 bytes and without flags
unfoldable pub status_bytes : StatusMessage → List ℕ
status_bytes status =
    front_bytes 36 no_flags 3
    ++ signed_bytes status.session_id
    ++ signed_bytes status.stream_id
    ++ signed_bytes status.consumption_term_id
    ++ number_bytes 4 status.consumption_term_offset
    ++ number_bytes 4 status.receiver_window
    ++ number_bytes 8 status.receiver_id
