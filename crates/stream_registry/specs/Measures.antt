-- What a log is made by (Aeron wiki, channel configuration: `mtu`, `term-length`, `linger`).
use Rattle.std.specs.Prelude.{Bool, ◌==◌, ◌&&◌, unwrap_or}
use Rattle.stream_registry.specs.declared.measures.Measures.{Measures}
use Rattle.channel_uri.specs.Channel.{Shape}
use Rattle.channel_uri.specs.Parameters.{stated_mtu_of, stated_term_length_of, stated_linger_of}

-- what the channel says, and what these say where it says nothing
unfoldable pub measures_of : Measures → Shape → Measures
measures_of defaults channel = record {
  mtu = unwrap_or (stated_mtu_of channel) defaults.mtu;
  term_length = unwrap_or (stated_term_length_of channel) defaults.term_length;
  linger = unwrap_or (stated_linger_of channel) defaults.linger;
}

abbrev pub is_same : Measures → Measures → Bool
is_same measures other =
    measures.mtu == other.mtu && measures.term_length == other.term_length && measures.linger == other.linger
