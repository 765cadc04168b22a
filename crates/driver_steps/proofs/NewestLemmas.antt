-- By the newest registry an image is still there.
use Rattle.std.proofs.Common.{◌≡◌, ◌==◌, ℕ, Option, Some, None, Result, Ok, Err, [], ◌∷◌, refl, ap}
use Rattle.std.proofs.lemmas.Bool.{eq-eqb}
use Rattle.channel_uri.specs.declared.address.Address.{Address}
use Rattle.channel_uri.specs.Channel.{endpoint_shape}
use Rattle.driver_core.specs.declared.asked.image_request.Astray.{Astray}
use Rattle.driver_core.specs.declared.asked.image_request.Astray.TheVariants.{NoStream, Stranger}
use Rattle.driver_core.specs.ImageRequests.{image_for, image_named, number_in, received_by, sent_to}
use Rattle.driver_core.specs.State.{State}
use Rattle.driver_steps.specs.Ends.{image_between, is_same_image, still_there}
use Rattle.driver_steps.specs.Requests.{request_by}
use Rattle.frame_codec.specs.declared.header.TermPlace.{TermPlace}
use Rattle.frame_codec.specs.Datagram.{Content, frames, beat, nak, status, setup}
use Rattle.log_steps.specs.Packets.{of_image, packet_request}
use Rattle.stream_registry.specs.declared.row.LogRow.{LogRow}
use Rattle.stream_registry.specs.Images.{image_at}
use Rattle.stream_registry.specs.Origins.{address_of}

found_still : (image : ℕ) (found : Result ℕ Astray) → still_there (image == image) found found ≡ found
found_still image (Err NoStream) = refl
found_still image (Err Stranger) = rw (eq-eqb image image refl) refl
found_still image (Ok source) = rw (eq-eqb source source refl) refl

image_still : (from : Address) (image : Option LogRow) →
    still_there (is_same_image (number_in image) (number_in image)) (received_by from image) (received_by from image)
    ≡ received_by from image
image_still from None = refl
image_still from (Some image) = found_still image.number (sent_to from image (address_of image))

there_still : (s : State) (local from : Address) (place : TermPlace) →
    image_between s s local from place ≡ image_for s local from place.session_id place.stream_id
unfolding image_for image_named
there_still s local from place = image_still from (image_at s.streams (endpoint_shape local) place.session_id place.stream_id)

-- so a datagram is for whom the newest registry says
pub request_still : (s : State) (local from : Address) (content : Content) →
    request_by s s local from content ≡ packet_request s local from content
request_still s local from (frames []) = refl
request_still s local from (frames (frame ∷ later)) = ap of_image (there_still s local from frame.header.place)
request_still s local from (beat header) = ap of_image (there_still s local from header.place)
request_still s local from (setup fields) = refl
request_still s local from (nak fields) = refl
request_still s local from (status fields) = refl
