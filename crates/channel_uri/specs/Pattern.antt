-- Patterns of a policy's rules, and which channels they cover.
use Rattle.std.specs.Prelude.{ℕ, Bool, true, false, ◌&&◌, ◌||◌, ◌==◌, List, Option, Some, None, Result, Ok, Err, nat_eq, nat_lt, length, codes, if◌then◌else◌}
use Rattle.std.specs.List.{list_all, starts_with}
use Rattle.std.specs.Str.{bytes_eq}
use Rattle.channel_uri.specs.declared.error.UriError.{UriError}
use Rattle.channel_uri.specs.declared.error.UriError.TheVariants.{TooLong, BadMedia}
use Rattle.channel_uri.specs.declared.media.Media.{Media}
use Rattle.channel_uri.specs.declared.media.Media.TheVariants.{Udp, Ipc, Counter}
use Rattle.channel_uri.specs.declared.pattern.Pattern.{Pattern}
use Rattle.channel_uri.specs.declared.pattern.Pattern.TheVariants.{Any, Of}
use Rattle.channel_uri.specs.Channel.{Shape}
use Rattle.channel_uri.specs.Keys.{Pair, value_at}
use Rattle.channel_uri.specs.Media.{media_number}
use Rattle.channel_uri.specs.Syntax.{◌>>=◌, before_end, behind_scheme, halves, keys_of}

-- the medium of a pattern's text
abbrev pub pattern_media_of : List ℕ → Result Media UriError
pattern_media_of word =
    if bytes_eq word (codes "udp") then Ok Udp
    else if bytes_eq word (codes "ipc") then Ok Ipc
    else if bytes_eq word (codes "counter") then Ok Counter
    else Err BadMedia

-- the pattern that the text is, or its first fault from the left
unfoldable pub pattern_of : List ℕ → Result Pattern UriError
pattern_of text =
    if nat_lt 1024 (length text) then Err TooLong
    else if bytes_eq text (codes "*") then Ok Any
    else behind_scheme text >>= λ rest.
    pattern_media_of (halves rest).0 >>= λ media.
    keys_of (halves rest).1 >>= λ keys.
    Ok (Of media keys)

-- what stands before a final `*`
abbrev pub front_of : List ℕ → Option (List ℕ)
front_of wanted = before_end (codes "*") wanted

-- the value begins with the front, where there is one
abbrev pub begins_with : List ℕ → Option (List ℕ) → Bool
begins_with value None = false
begins_with value (Some front) = starts_with nat_eq value front

-- the value is the wanted one, or begins with what stands before the wanted one's final `*`
abbrev pub value_fits : List ℕ → List ℕ → Bool
value_fits wanted value = bytes_eq wanted value || begins_with value (front_of wanted)

-- there is such a value
abbrev pub is_fit : List ℕ → Option (List ℕ) → Bool
is_fit wanted None = false
is_fit wanted (Some value) = value_fits wanted value

-- each wanted key is a key of the channel, with a value that fits
abbrev pub all_fit : List Pair → List Pair → Bool
all_fit wanted keys = list_all (λ pair. is_fit pair.1 (value_at pair.0 keys)) wanted

-- the pattern covers the channel, whether that asks for a spy or not
unfoldable pub covers : Pattern → Shape → Bool
covers Any channel = true
covers (Of media wanted) channel =
    (media_number media == media_number channel.media) && all_fit wanted channel.keys
