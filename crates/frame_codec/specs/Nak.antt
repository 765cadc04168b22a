-- NAK frames: a receiver asks for bytes of a term again (Aeron Transport Protocol Specification, NAK frame).
use Rattle.std.specs.Prelude.{ℕ, List, ◌++◌, Result, Ok}
use Rattle.frame_codec.specs.declared.fault.BadPacket.{BadPacket}
use Rattle.frame_codec.specs.declared.nak.Nak.{Nak}
use Rattle.frame_codec.specs.Steps.{◌>>=◌}
use Rattle.frame_codec.specs.Writing.{number_bytes, signed_bytes, front_bytes, no_flags}
use Rattle.frame_codec.specs.Fields.{byte_at, signed_at, natural_at, stated_length, aligned}

-- the fields of a NAK at that term offset
unfoldable pub nak_at : ℕ → List ℕ → Nak
nak_at offset bytes = record {
  flags = record { bits = byte_at 5 bytes };
  session_id = signed_at 8 bytes;
  stream_id = signed_at 12 bytes;
  term_id = signed_at 16 bytes;
  term_offset = offset;
  length = signed_at 24 bytes;
}

-- the NAK in the first 28 bytes; what stands after it is not looked at
unfoldable pub nak_of : List ℕ → Result Nak BadPacket
nak_of bytes = do
  size ← stated_length 28 bytes
  offset ← natural_at 20 bytes
  start ← aligned offset
  Ok (nak_at start bytes)

-- a NAK as it is written here, without flags
unfoldable pub nak_bytes : Nak → List ℕ
nak_bytes nak =
    front_bytes 28 no_flags 2
    ++ signed_bytes nak.session_id
    ++ signed_bytes nak.stream_id
    ++ signed_bytes nak.term_id
    ++ number_bytes 4 nak.term_offset
    ++ signed_bytes nak.length
