-- Where the log of a channel is: publications, spies and images of one place and stream meet.
use Rattle.std.specs.Prelude.{ℕ, Bool, List, Option, Some, None, codes, if◌then◌else◌, false}
use Rattle.std.specs.Option.{option_map}
use Rattle.std.specs.Str.{bytes_eq}
use Rattle.channel_uri.specs.declared.media.Media.{Media}
use Rattle.channel_uri.specs.declared.media.Media.TheVariants.{Udp, Ipc, Counter}
use Rattle.channel_uri.specs.declared.place.Place.{Place}
use Rattle.channel_uri.specs.declared.place.Place.TheVariants.{Ipc as IpcOf, Manual as ManualOf, Control as ControlOf, Endpoint as EndpointOf}
use Rattle.channel_uri.specs.Channel.{Shape}
use Rattle.channel_uri.specs.Keys.{value_at}

-- a place with the text of its address
pub data Spot : Type 0 where
  AtIpc : Spot
  AtManual : Spot
  AtControl : List ℕ → Spot
  AtEndpoint : List ℕ → Spot

-- the value is this text
abbrev pub is_text : List ℕ → Option (List ℕ) → Bool
is_text text None = false
is_text text (Some value) = bytes_eq text value

-- over datagrams the first that fits: destinations that a publisher names by hand; the address at which receivers make
-- themselves known; an endpoint
abbrev pub udp_spot : Bool → Bool → Option (List ℕ) → Option (List ℕ) → Option Spot
udp_spot manual dynamic control endpoint =
    if manual then Some AtManual
    else if dynamic then option_map AtControl control
    else option_map AtEndpoint endpoint

abbrev pub spot_from : Media → Bool → Bool → Option (List ℕ) → Option (List ℕ) → Option Spot
spot_from Ipc manual dynamic control endpoint = Some AtIpc
spot_from Udp manual dynamic control endpoint = udp_spot manual dynamic control endpoint
spot_from Counter manual dynamic control endpoint = None

unfoldable pub spot_of : Shape → Option Spot
spot_of channel =
    spot_from channel.media
    (is_text (codes "manual") (value_at (codes "control-mode") channel.keys))
    (is_text (codes "dynamic") (value_at (codes "control-mode") channel.keys))
    (value_at (codes "control") channel.keys)
    (value_at (codes "endpoint") channel.keys)

-- it is the endpoint of that text
abbrev pub is_at_text : List ℕ → Option Spot → Bool
is_at_text text (Some (AtEndpoint endpoint)) = bytes_eq endpoint text
is_at_text text spot = false

-- what a `Place` shows
abbrev pub spot_at : Place → Spot
spot_at IpcOf = AtIpc
spot_at ManualOf = AtManual
spot_at (ControlOf text) = AtControl text.now
spot_at (EndpointOf text) = AtEndpoint text.now
