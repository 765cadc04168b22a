-- Where the logs of a registry are, and where its subscriptions and its publications take datagrams. Own rules.
use Rattle.std.specs.Prelude.{◌≡◌, ◌<◌, ◌⊎◌, List, Option, Some, None, ◌++◌, ◌∷◌, [], All, Contains, filter, filter_map, if◌then◌else◌, length, map, take}
use Rattle.channel_uri.specs.declared.address.Address.{Address}
use Rattle.channel_uri.specs.Address.{address_of}
use Rattle.channel_uri.specs.Parameters.{endpoint_of}
use Rattle.channel_uri.specs.Place.{Spot, AtControl, spot_of}
use Rattle.driver_core.specs.Directing.{target_address}
use Rattle.driver_core.specs.SendRequests.{is_sent}
use Rattle.driver_core.specs.State.{State}
use Rattle.media_agents.specs.declared.listing.ImageAt.{ImageAt}
use Rattle.media_agents.specs.declared.slots.LogAt.{LogAt}
use Rattle.stream_registry.specs.Origins.{is_published, is_remote}
use Rattle.stream_registry.specs.declared.row.LogRow.{LogRow}
use Rattle.stream_registry.specs.declared.row.Subscription.{Subscription}

-- where the log of a row is
abbrev pub log_at : LogRow → LogAt
log_at row = record { source = row.number; published = is_published row; slot = row.slot }

-- where the logs of publications over datagrams are, in the order of their numbers, 256 at most
abbrev pub publications_of : State → List LogAt
publications_of s = take 256 (map log_at (filter is_sent s.streams.sources))

-- where the log of an image is, and at which address the image reads: the endpoint of its channel
abbrev pub image_at : LogRow → Option Address → Option ImageAt
image_at row None = None
image_at row (Some endpoint) = Some (record { log = log_at row; endpoint = endpoint })

-- of a row that is an image
abbrev pub image_in : LogRow → Option ImageAt
image_in row = if is_remote row then image_at row (endpoint_of row.channel) else None

-- an image joins others, if there is one, and there are fewer than 512
abbrev pub with_image : Option ImageAt → List ImageAt → List ImageAt
with_image None images = images
with_image (Some image) images = take 512 (images ++ image ∷ [])

-- the images, in the order of their numbers, 512 at most
abbrev pub images_of : State → List ImageAt
images_of s = take 512 (filter_map image_in s.streams.sources)

-- where a subscription takes datagrams: a spy takes none
abbrev pub endpoint_in : Subscription → Option Address
endpoint_in subscription = target_address subscription.channel

abbrev pub named_by : List Subscription → List Address
named_by subscriptions = filter_map endpoint_in subscriptions

-- an address joined others, if it was not among them and there was room for it
abbrev pub Adds : List Address → Address → List Address → Type 0
Adds old address new =
    ((new ≡ old) × (Contains old address ⊎ (length old ≡ 512)))
    ⊎ ((new ≡ old ++ address ∷ []) × (length old < 512) × (Contains old address → ⊥))

-- so it did, if there is one
abbrev pub AddsIf : Option Address → List Address → List Address → Type 0
AddsIf None old new = new ≡ old
AddsIf (Some address) old new = Adds old address new

-- none stands twice
abbrev pub AreDistinct : List Address → Type 0
AreDistinct [] = Unit {0}
AreDistinct (address ∷ others) = (Contains others address → ⊥) × AreDistinct others

-- each is one of those that are named, once, and all of them are there, or 512
pub record AreNamed (named endpoints : List Address) : Type 0 where
  pub once : AreDistinct endpoints
  pub each : All (Contains named) endpoints
  pub all : All (Contains endpoints) named ⊎ (length endpoints ≡ 512)

-- these are where the subscriptions of a registry take datagrams
abbrev pub AreEndpoints : State → List Address → Type 0
AreEndpoints s endpoints = AreNamed (named_by s.streams.subscriptions) endpoints

-- where a publication takes datagrams: one that learns there where its own go
abbrev pub control_at : Option Spot → Option Address
control_at (Some (AtControl text)) = address_of text
control_at spot = None

abbrev pub control_in : LogRow → Option Address
control_in row = if is_published row then control_at (spot_of row.channel) else None

-- these are where the publications of a registry take datagrams
abbrev pub AreControls : State → List Address → Type 0
AreControls s controls = AreNamed (filter_map control_in s.streams.sources) controls
