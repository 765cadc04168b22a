-- Which image a datagram of a remote publisher's stream is for. Own rules.
use Rattle.std.specs.Prelude.{ℕ, ℤ, Option, Some, None, Result, Ok, Err, if◌then◌else◌}
use Rattle.channel_uri.specs.declared.address.Address.{Address}
use Rattle.channel_uri.specs.Address.{is_same}
use Rattle.channel_uri.specs.Channel.{endpoint_shape}
use Rattle.driver_core.specs.declared.asked.image_request.Astray.{Astray}
use Rattle.driver_core.specs.declared.asked.image_request.Astray.TheVariants.{NoStream, Stranger}
use Rattle.driver_core.specs.State.{State}
use Rattle.stream_registry.specs.declared.row.LogRow.{LogRow}
use Rattle.stream_registry.specs.Images.{image_at}
use Rattle.stream_registry.specs.Origins.{address_of}

-- ---- by any sender

abbrev pub number_in : Option LogRow → Option ℕ
number_in None = None
number_in (Some image) = Some image.number

-- the source number of the image of that address, session and stream, whoever asks
unfoldable pub image_named : State → Address → ℤ → ℤ → Option ℕ
image_named s local session stream = number_in (image_at s.streams (endpoint_shape local) session stream)

-- ---- by its publisher

-- it is from the address at which its publisher is
abbrev pub sent_to : Address → LogRow → Option Address → Result ℕ Astray
sent_to from image None = Err Stranger
sent_to from image (Some publisher) = if is_same publisher from then Ok image.number else Err Stranger

abbrev pub received_by : Address → Option LogRow → Result ℕ Astray
received_by from None = Err NoStream
received_by from (Some image) = sent_to from image (address_of image)

-- The source number of the image of that address, session and stream, where its publisher sent the datagram.
unfoldable pub image_for : State → Address → Address → ℤ → ℤ → Result ℕ Astray
image_for s local from session stream = received_by from (image_at s.streams (endpoint_shape local) session stream)
