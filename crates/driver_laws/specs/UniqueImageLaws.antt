-- Over every list of events: no two images are of one endpoint, session and stream.
use Rattle.std.specs.Prelude.{◌≡◌, ℤ, true, Contains, Some}
use Rattle.driver_core.specs.State.{State}
use Rattle.driver_laws.specs.Events.{AfterAnyEvents}
use Rattle.channel_uri.specs.Channel.{Shape}
use Rattle.stream_registry.specs.declared.row.LogRow.{LogRow}
use Rattle.stream_registry.specs.Images.{image_at, is_image_at}
use Rattle.stream_registry.specs.Origins.{is_remote}
use Rattle.stream_registry.specs.Places.{is_same_place}

-- both are images of one session and stream, and their channels name one place
pub record AreOfOnePublisher (log other : LogRow) : Type 0 where
  pub is_image : is_remote log ≡ true
  pub other_is_image : is_remote other ≡ true
  pub place : is_same_place log.channel other.channel ≡ true
  pub session : log.session ≡ other.session
  pub stream : log.stream ≡ other.stream

-- two live images that are so are one, and an image that is looked for by its place, session and stream is the one found
pub record HasUniqueImages (s : State) : Type 0 where
  pub one :
      (log other : LogRow) → Contains s.streams.sources log → Contains s.streams.sources other →
      AreOfOnePublisher log other → log ≡ other
  pub found :
      (channel : Shape) (session stream : ℤ) (log : LogRow) → Contains s.streams.sources log →
      is_image_at channel session stream log ≡ true → image_at s.streams channel session stream ≡ Some log

abbrev pub ImagesAreUnique : Type 0
ImagesAreUnique = AfterAnyEvents HasUniqueImages
