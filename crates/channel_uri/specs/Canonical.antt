-- The one text of a channel: its keys in byte order.
use Rattle.std.specs.Prelude.{◌≡◌, ℕ, Bool, true, false, List, [], ◌∷◌, ◌++◌, Ok, codes, if◌then◌else◌}
use Rattle.channel_uri.specs.Channel.{Shape, denotes}
use Rattle.channel_uri.specs.Keys.{Pair, InByteOrder}
use Rattle.channel_uri.specs.Media.{name_of}

-- the mark before a pair: `?` before the first one, `|` before the others
abbrev pub mark_of : Bool → List ℕ
mark_of true = codes "?"
mark_of false = codes "|"

-- each pair after its mark
abbrev pub pairs_text : Bool → List Pair → List ℕ
pairs_text first [] = []
pairs_text first (pair ∷ pairs) = mark_of first ++ (pair.0 ++ (codes "=" ++ (pair.1 ++ pairs_text false pairs)))

-- the text of the channel
unfoldable pub canonical_of : Shape → List ℕ
canonical_of channel =
    (if channel.spy then codes "aeron-spy:aeron:" else codes "aeron:")
    ++ (name_of channel.media ++ pairs_text true channel.keys)

-- the keys stand in byte order, and the canonical text denotes the channel
pub record IsCanonical (channel : Shape) : Type 0 where
  pub in_order : InByteOrder channel.keys
  pub read_back : denotes (canonical_of channel) ≡ Ok channel

-- so it is with each channel that a text denotes
abbrev pub CanonicalDenotes : Type 0
CanonicalDenotes = (text : List ℕ) (channel : Shape) → denotes text ≡ Ok channel → IsCanonical channel
