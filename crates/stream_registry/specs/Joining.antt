-- Which publication an ADD joins.
use Rattle.std.specs.Prelude.{ℤ, Bool, not, ◌&&◌, ◌||◌, List, Option, find, is_none}
use Rattle.std.specs.Ordering.{int_eq}
use Rattle.stream_registry.specs.declared.measures.Measures.{Measures}
use Rattle.stream_registry.specs.declared.row.LogRow.{LogRow}
use Rattle.stream_registry.specs.Measures.{measures_of, is_same}
use Rattle.stream_registry.specs.Origins.{is_exclusive, is_published, lingering_since}
use Rattle.stream_registry.specs.Places.{is_same_place, is_manual}
use Rattle.stream_registry.specs.Sessions.{agrees_with}
use Rattle.channel_uri.specs.Channel.{Shape}
use Rattle.channel_uri.specs.Parameters.{stated_session_of}

-- it is a publication that is shared, its destinations are not named by hand, and somebody is registered with it
abbrev pub is_open : LogRow → Bool
is_open log =
    is_published log && not (is_exclusive log) && not (is_manual log.channel) && is_none (lingering_since log)

-- it is of this place and stream, and others may join it
unfoldable pub is_joinable : Shape → ℤ → LogRow → Bool
is_joinable channel stream log =
    is_open log && int_eq log.stream stream && is_same_place log.channel channel

abbrev pub joined_at : List LogRow → Shape → ℤ → Option LogRow
joined_at logs channel stream = find (is_joinable channel stream) logs

-- the channel would have another log than this one, or another session
unfoldable pub contradicts : Measures → Shape → LogRow → Bool
contradicts defaults channel log =
    not (is_same (measures_of defaults channel) log.measures)
    || not (agrees_with log.session (stated_session_of channel))
