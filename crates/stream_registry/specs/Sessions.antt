-- Session ids (Aeron wiki, channel configuration: `session-id`). Own: how one is found that no channel states.
use Rattle.std.specs.Prelude.{ℤ, pos, Bool, true, false, ◌&&◌, List, [], ◌∷◌, Option, Some, None, if◌then◌else◌}
use Rattle.std.specs.Int.{int_wrapping_add, w32}
use Rattle.std.specs.List.{list_any}
use Rattle.std.specs.Ordering.{int_eq}
use Rattle.stream_registry.specs.declared.row.LogRow.{LogRow}
use Rattle.stream_registry.specs.Origins.{is_published}
use Rattle.stream_registry.specs.Places.{is_same_media}
use Rattle.channel_uri.specs.declared.media.Media.{Media}

-- ids have 32 bits, and the least one comes after the greatest
abbrev pub after : ℤ → ℤ
after session = int_wrapping_add w32 session (pos 1)

-- it is a publication of that session; an image's session is its publisher's, and takes none of ours
abbrev pub has_session : ℤ → LogRow → Bool
has_session session log = is_published log && int_eq log.session session

-- a live publication has the session
abbrev pub is_taken : List LogRow → ℤ → Bool
is_taken logs session = list_any (has_session session) logs

-- the first number from this one on that no live publication has; as many tries as there are others suffice
abbrev pub free_from : List LogRow → List LogRow → ℤ → ℤ
free_from [] logs session = session
free_from (other ∷ others) logs session =
    if is_taken logs session then free_from others logs (after session) else session

unfoldable pub free_session : List LogRow → ℤ → ℤ
free_session logs session = free_from logs logs session

-- what a channel states is this session, or it states none
abbrev pub agrees_with : ℤ → Option ℤ → Bool
agrees_with session None = true
agrees_with session (Some stated) = int_eq stated session

-- it has the session on this medium and stream
unfoldable pub has_session_at : Media → ℤ → ℤ → LogRow → Bool
has_session_at media stream session log =
    is_same_media log.channel.media media && int_eq log.stream stream && has_session session log

-- the session that is stated, if one is, is that of a live publication of the same medium and stream
abbrev pub is_stated_again : List LogRow → Media → ℤ → Option ℤ → Bool
is_stated_again logs media stream None = false
is_stated_again logs media stream (Some stated) = list_any (has_session_at media stream stated) logs
