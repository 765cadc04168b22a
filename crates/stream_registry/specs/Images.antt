-- Images: the logs of remote publishers.
use Rattle.std.specs.Prelude.{ℕ, ℤ, Bool, false, not, ◌&&◌, nat_lt, List, [], ◌∷◌, ◌++◌, length, filter, find, Option}
use Rattle.std.specs.Ordering.{int_eq}
use Rattle.stream_registry.specs.declared.row.Origin.TheVariants.{Remote}
use Rattle.stream_registry.specs.declared.row.LogRow.{LogRow}
use Rattle.stream_registry.specs.declared.wanted.ImageWanted.{ImageWanted}
use Rattle.stream_registry.specs.Lingering.{is_image_of}
use Rattle.stream_registry.specs.LogPages.{free_place, pages_of}
use Rattle.stream_registry.specs.Origins.{is_remote}
use Rattle.stream_registry.specs.Places.{is_same_place}
use Rattle.stream_registry.specs.Slots.{free_slot}
use Rattle.stream_registry.specs.Streams.{Streams}
use Rattle.channel_uri.specs.Channel.{Shape}

-- there are at most 512 of them
abbrev pub has_room_for_image : Streams → Bool
has_room_for_image s = nat_lt (length (filter is_remote s.sources)) 512

-- the image of a publisher that sends to that place on that stream, with that session
unfoldable pub is_image_at : Shape → ℤ → ℤ → LogRow → Bool
is_image_at channel session stream log =
    is_remote log && int_eq log.session session && int_eq log.stream stream && is_same_place log.channel channel

abbrev pub image_at : Streams → Shape → ℤ → ℤ → Option LogRow
image_at s channel session stream = find (is_image_at channel session stream) s.sources

-- an image by this number, at this place
abbrev pub image_of : Streams → ℕ → ImageWanted → ℕ → LogRow
image_of s number wanted place = record {
  number = number;
  channel = wanted.channel;
  stream = wanted.stream;
  session = wanted.session;
  place = place;
  slot = free_slot false s.sources;
  measures = wanted.measures;
  origin = Remote wanted.address wanted.initial_term wanted.join;
}

-- it is there
abbrev pub imaged : Streams → ℕ → ImageWanted → ℕ → Streams
imaged s number wanted place = record s { sources = s.sources ++ image_of s number wanted place ∷ [] }

-- where an image goes
abbrev pub image_place_for : Streams → ℕ → ImageWanted → Option ℕ
image_place_for s arena_pages wanted = free_place s arena_pages (pages_of wanted.measures.term_length)

-- publications stay, whatever their numbers, and so do all other images
abbrev pub stays_beside : List ℕ → LogRow → Bool
stays_beside numbers log = not (is_image_of numbers log)

-- the images of these numbers are gone
unfoldable pub without_images : Streams → List ℕ → Streams
without_images s numbers = record s { sources = filter (stays_beside numbers) s.sources }
