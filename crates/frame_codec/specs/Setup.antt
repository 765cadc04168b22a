-- SETUP frames: a sender announces its stream and where it stands (Aeron Transport Protocol Specification, setup frame).
use Rattle.std.specs.Prelude.{ℕ, pos, List, ◌++◌, Result, Ok}
use Rattle.frame_codec.specs.declared.fault.BadPacket.{BadPacket}
use Rattle.frame_codec.specs.declared.setup.Setup.{Setup}
use Rattle.frame_codec.specs.Steps.{◌>>=◌}
use Rattle.frame_codec.specs.Writing.{number_bytes, signed_bytes, front_bytes, no_flags}
use Rattle.frame_codec.specs.Fields.{byte_at, signed_at, natural_at, stated_length, aligned}

-- the fields of a SETUP at that term offset
unfoldable pub setup_at : ℕ → List ℕ → Setup
setup_at offset bytes = record {
  flags = record { bits = byte_at 5 bytes };
  term_offset = offset;
  session_id = signed_at 12 bytes;
  stream_id = signed_at 16 bytes;
  initial_term_id = signed_at 20 bytes;
  active_term_id = signed_at 24 bytes;
  term_length = signed_at 28 bytes;
  mtu = signed_at 32 bytes;
  ttl = signed_at 36 bytes;
}

-- the SETUP in the first 40 bytes; what stands after it is not looked at
unfoldable pub setup_of : List ℕ → Result Setup BadPacket
setup_of bytes = do
  size ← stated_length 40 bytes
  offset ← natural_at 8 bytes
  start ← aligned offset
  Ok (setup_at start bytes)

-- a SETUP as it is written here, without flags and with TTL 0
unfoldable pub setup_bytes : Setup → List ℕ
setup_bytes setup =
    front_bytes 40 no_flags 5
    ++ number_bytes 4 setup.term_offset
    ++ signed_bytes setup.session_id
    ++ signed_bytes setup.stream_id
    ++ signed_bytes setup.initial_term_id
    ++ signed_bytes setup.active_term_id
    ++ signed_bytes setup.term_length
    ++ signed_bytes setup.mtu
    ++ signed_bytes (pos 0)
