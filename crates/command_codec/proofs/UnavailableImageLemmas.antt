-- The fields of ON_UNAVAILABLE_IMAGE are read as they were written, and written as they were read.
use Rattle.std.proofs.Common.{◌≡◌, ℕ, List, [], ◌++◌, Ok, refl, ap, subst, ◌∙◌, append_assoc}
use Rattle.std.specs.Int.{w32}
use Rattle.command_codec.specs.declared.unavailable_image.UnavailableImage.{UnavailableImage}
use Rattle.command_codec.specs.Gives.{◌>>=◌}
use Rattle.command_codec.specs.Fields.{number_at, signed_at, ended, number_bytes, signed_bytes, IsBytes}
use Rattle.command_codec.specs.UnavailableImage.{unavailable_image_of, unavailable_image_bytes, IsUnavailableImage}
use Rattle.command_codec.proofs.FieldLemmas.{bind_ok, step, Takes, Takes-then, Takes-all, number_takes, number_again, signed32_takes, signed32_last, ended_takes}

-- the fields that were read, and what each took
taken : (r : UnavailableImage) (bytes after_source after_subscription after : List ℕ) → Takes bytes (number_bytes 8 r.source) after_source → Takes after_source (number_bytes 8 r.subscription) after_subscription → Takes after_subscription (signed_bytes w32 4 r.stream) after → after ≡ [] → bytes ≡ unavailable_image_bytes r
unfolding unavailable_image_bytes
taken r bytes after_source after_subscription after source_taken subscription_taken stream_taken e =
    let two = Takes-then bytes (number_bytes 8 r.source) after_source (number_bytes 8 r.subscription) after_subscription source_taken subscription_taken in
    let three = Takes-then bytes (number_bytes 8 r.source ++ number_bytes 8 r.subscription) after_subscription (signed_bytes w32 4 r.stream) after two stream_taken in
    Takes-all bytes (number_bytes 8 r.source ++ number_bytes 8 r.subscription ++ signed_bytes w32 4 r.stream) after three e

pub unavailable_image_takes : (bytes : List ℕ) (r : UnavailableImage) → IsBytes bytes → unavailable_image_of bytes ≡ Ok r → (bytes ≡ unavailable_image_bytes r) × IsUnavailableImage r
unfolding unavailable_image_of
unavailable_image_takes bytes r fits e =
    elim (bind_ok (number_at 8 bytes) (λ source. number_at 8 source.1 >>= λ subscription. signed_at w32 4 subscription.1 >>= λ stream. ended (record { source = source.0; subscription = subscription.0; stream = stream.0 }) stream.1) r e) [
      | step source_read source_is after_source ↦
          elim (bind_ok (number_at 8 source_read.1) (λ subscription. signed_at w32 4 subscription.1 >>= λ stream. ended (record { source = source_read.0; subscription = subscription.0; stream = stream.0 }) stream.1) r after_source) [
            | step subscription_read subscription_is after_subscription ↦
                elim (bind_ok (signed_at w32 4 subscription_read.1) (λ stream. ended (record { source = source_read.0; subscription = subscription_read.0; stream = stream.0 }) stream.1) r after_subscription) [
                  | step stream_read stream_is after_stream ↦
                      let made : UnavailableImage = record { source = source_read.0; subscription = subscription_read.0; stream = stream_read.0 } in
                      let done = ended_takes made r stream_read.1 after_stream in
                      let t0 = number_takes 8 bytes source_read fits source_is in
                      let t1 = number_takes 8 source_read.1 subscription_read t0.0.rest_fits subscription_is in
                      let t2 = signed32_takes subscription_read.1 stream_read t1.0.rest_fits stream_is in
                      subst (λ (x : UnavailableImage). (bytes ≡ unavailable_image_bytes x) × IsUnavailableImage x) done.0 (taken made bytes source_read.1 subscription_read.1 stream_read.1 t0.0 t1.0 t2.0 done.1, record { source = t0.1; subscription = t1.1; stream = t2.1 })
                ]
          ]
    ]

pub unavailable_image_again : (r : UnavailableImage) → IsUnavailableImage r → unavailable_image_of (unavailable_image_bytes r) ≡ Ok r
unfolding unavailable_image_of unavailable_image_bytes
unavailable_image_again r fits =
    let regrouped : unavailable_image_bytes r ≡ number_bytes 8 r.source ++ (number_bytes 8 r.subscription ++ signed_bytes w32 4 r.stream) = append_assoc (number_bytes 8 r.source) (number_bytes 8 r.subscription) (signed_bytes w32 4 r.stream) in
    ap unavailable_image_of regrouped ∙ rw (number_again 8 r.source (number_bytes 8 r.subscription ++ signed_bytes w32 4 r.stream) fits.source, number_again 8 r.subscription (signed_bytes w32 4 r.stream) fits.subscription, signed32_last r.stream fits.stream) refl
