-- The header of data frames, pads and heartbeats (Aeron Transport Protocol Specification, data frame).
use Rattle.std.specs.Prelude.{ℕ, List, ◌++◌}
use Rattle.frame_codec.specs.declared.header.Kind.{Kind}
use Rattle.frame_codec.specs.declared.header.Kind.TheVariants.{Data, Pad}
use Rattle.frame_codec.specs.declared.header.Header.{Header}
use Rattle.frame_codec.specs.declared.header.TermPlace.{TermPlace}
use Rattle.frame_codec.specs.declared.flags.Flags.{Flags}
use Rattle.frame_codec.specs.Fields.{byte_at, signed_at, long_at}
use Rattle.frame_codec.specs.Writing.{number_bytes, signed_bytes, front_bytes}

-- the header in the first 32 bytes, of that kind, length and term offset
unfoldable pub header_of : Kind → ℕ → ℕ → List ℕ → Header
header_of kind size offset bytes = record {
  kind = kind;
  length = size;
  flags = record { bits = byte_at 5 bytes };
  place = record { session_id = signed_at 12 bytes; stream_id = signed_at 16 bytes; term_id = signed_at 20 bytes; term_offset = offset };
  reserved_value = long_at 24 bytes;
}

-- the type number of a kind
abbrev pub kind_number : Kind → ℕ
kind_number Pad = 0
kind_number Data = 1

-- the 32 bytes of a header
unfoldable pub header_bytes : Header → List ℕ
header_bytes header =
    front_bytes header.length header.flags (kind_number header.kind)
    ++ number_bytes 4 header.place.term_offset
    ++ signed_bytes header.place.session_id
    ++ signed_bytes header.place.stream_id
    ++ signed_bytes header.place.term_id
    ++ number_bytes 8 header.reserved_value

-- a header as it is written here: its reserved value is 0
abbrev pub plain_header : Kind → ℕ → Flags → TermPlace → Header
plain_header kind size flags place = record { kind = kind; length = size; flags = flags; place = place; reserved_value = 0 }
