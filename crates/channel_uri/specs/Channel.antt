-- What a text denotes as a channel (Aeron wiki, channel configuration).
use Rattle.std.specs.Prelude.{◌≡◌, ℕ, Bool, false, List, [], ◌∷◌, ◌++◌, Option, IfSome, Result, Ok, Err, nat_lt, length, codes, if◌then◌else◌}
use Rattle.std.specs.Str.{bytes_eq}
use Rattle.channel_uri.specs.declared.address.Address.{Address}
use Rattle.channel_uri.specs.declared.error.UriError.{UriError}
use Rattle.channel_uri.specs.declared.error.UriError.TheVariants.{TooLong, BadMedia}
use Rattle.channel_uri.specs.declared.media.Media.{Media}
use Rattle.channel_uri.specs.declared.media.Media.TheVariants.{Udp, Ipc, Counter}
use Rattle.channel_uri.specs.Address.{IsEndpoint, address_text}
use Rattle.channel_uri.specs.Keys.{Pair}
use Rattle.channel_uri.specs.Syntax.{◌>>=◌, unspied, behind_scheme, halves, keys_of}
use Rattle.channel_uri.specs.Values.{first_fault, checked}

-- a channel: whether it asks for a spy, its medium, and its keys with their values in the byte order of the keys
pub record Shape : Type 0 where
  pub spy : Bool
  pub media : Media
  pub keys : List Pair

-- the medium of a channel's text; there is no spy of `ipc`
abbrev pub media_of : Bool → List ℕ → Result Media UriError
media_of spy word =
    if bytes_eq word (codes "udp") then Ok Udp
    else if spy then Err BadMedia
    else if bytes_eq word (codes "ipc") then Ok Ipc
    else Err BadMedia

-- the channel that the text is, or its first fault: its length, then its syntax from the left, then the values that are
-- kept, in the byte order of their keys
unfoldable pub denotes : List ℕ → Result Shape UriError
denotes text =
    if nat_lt 1024 (length text) then Err TooLong
    else behind_scheme (unspied text).1 >>= λ rest.
    media_of (unspied text).0 (halves rest).0 >>= λ media.
    keys_of (halves rest).1 >>= λ keys.
    checked (first_fault keys) (record { spy = (unspied text).0; media = media; keys = keys })

-- the subject of a rule on counters
abbrev pub counter_shape : Shape
counter_shape = record { spy = false; media = Counter; keys = [] }

-- shared memory without any key
abbrev pub ipc_shape : Shape
ipc_shape = record { spy = false; media = Ipc; keys = [] }

-- datagrams to this address
abbrev pub endpoint_shape : Address → Shape
endpoint_shape address = record { spy = false; media = Udp; keys = (codes "endpoint", address_text address) ∷ [] }

-- it is the channel of that address, where one is known
abbrev pub IsKnownAs : Shape → Option Address → Type 0
IsKnownAs channel known = IfSome known (λ address. channel ≡ endpoint_shape address)

-- it is what its text denotes
abbrev pub EndpointsAreDenoted : Type 0
EndpointsAreDenoted =
    (address : Address) → IsEndpoint address →
    denotes (codes "aeron:udp?endpoint=" ++ address_text address) ≡ Ok (endpoint_shape address)
