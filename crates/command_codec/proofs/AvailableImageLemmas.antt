-- The fields of ON_AVAILABLE_IMAGE are read as they were written, and written as they were read.
use Rattle.std.proofs.Common.{◌≡◌, ℕ, ◌<◌, ◌^◌, List, [], ◌++◌, Ok, refl, ap, subst, ◌∙◌, append_assoc, arith}
use Rattle.std.specs.Int.{w32}
use Rattle.command_codec.specs.declared.available_image.AvailableImage.{AvailableImage}
use Rattle.command_codec.specs.Gives.{◌>>=◌}
use Rattle.command_codec.specs.Fields.{number_at, signed_at, longest, text_at, ended, number_bytes, signed_bytes, with_length, IsBytes}
use Rattle.command_codec.specs.AvailableImage.{available_image_of, available_image_bytes, IsAvailableImage}
use Rattle.command_codec.proofs.FieldLemmas.{bind_ok, step, Takes, Takes-then, Takes-all, number_takes, number_again, signed32_takes, signed32_again, text_takes, text_last, ended_takes}

-- the fields that were read, and what each took
taken : (r : AvailableImage) (bytes after_source after_subscription after_session after_stream after_position after : List ℕ) → Takes bytes (number_bytes 8 r.source) after_source → Takes after_source (number_bytes 8 r.subscription) after_subscription → Takes after_subscription (signed_bytes w32 4 r.session) after_session → Takes after_session (signed_bytes w32 4 r.stream) after_stream → Takes after_stream (number_bytes 8 r.position) after_position → Takes after_position (with_length r.origin) after → after ≡ [] → bytes ≡ available_image_bytes r
unfolding available_image_bytes
taken r bytes after_source after_subscription after_session after_stream after_position after source_taken subscription_taken session_taken stream_taken position_taken origin_taken e =
    let two = Takes-then bytes (number_bytes 8 r.source) after_source (number_bytes 8 r.subscription) after_subscription source_taken subscription_taken in
    let three = Takes-then bytes (number_bytes 8 r.source ++ number_bytes 8 r.subscription) after_subscription (signed_bytes w32 4 r.session) after_session two session_taken in
    let four = Takes-then bytes (number_bytes 8 r.source ++ number_bytes 8 r.subscription ++ signed_bytes w32 4 r.session) after_session (signed_bytes w32 4 r.stream) after_stream three stream_taken in
    let five = Takes-then bytes (number_bytes 8 r.source ++ number_bytes 8 r.subscription ++ signed_bytes w32 4 r.session ++ signed_bytes w32 4 r.stream) after_stream (number_bytes 8 r.position) after_position four position_taken in
    let six = Takes-then bytes (number_bytes 8 r.source ++ number_bytes 8 r.subscription ++ signed_bytes w32 4 r.session ++ signed_bytes w32 4 r.stream ++ number_bytes 8 r.position) after_position (with_length r.origin) after five origin_taken in
    Takes-all bytes (number_bytes 8 r.source ++ number_bytes 8 r.subscription ++ signed_bytes w32 4 r.session ++ signed_bytes w32 4 r.stream ++ number_bytes 8 r.position ++ with_length r.origin) after six e

pub available_image_takes : (bytes : List ℕ) (r : AvailableImage) → IsBytes bytes → available_image_of bytes ≡ Ok r → (bytes ≡ available_image_bytes r) × IsAvailableImage r
unfolding available_image_of
available_image_takes bytes r fits e =
    elim (bind_ok (number_at 8 bytes) (λ source. number_at 8 source.1 >>= λ subscription. signed_at w32 4 subscription.1 >>= λ session. signed_at w32 4 session.1 >>= λ stream. number_at 8 stream.1 >>= λ position. text_at longest position.1 >>= λ origin. ended (record { source = source.0; subscription = subscription.0; session = session.0; stream = stream.0; position = position.0; origin = origin.0 }) origin.1) r e) [
      | step source_read source_is after_source ↦
          elim (bind_ok (number_at 8 source_read.1) (λ subscription. signed_at w32 4 subscription.1 >>= λ session. signed_at w32 4 session.1 >>= λ stream. number_at 8 stream.1 >>= λ position. text_at longest position.1 >>= λ origin. ended (record { source = source_read.0; subscription = subscription.0; session = session.0; stream = stream.0; position = position.0; origin = origin.0 }) origin.1) r after_source) [
            | step subscription_read subscription_is after_subscription ↦
                elim (bind_ok (signed_at w32 4 subscription_read.1) (λ session. signed_at w32 4 session.1 >>= λ stream. number_at 8 stream.1 >>= λ position. text_at longest position.1 >>= λ origin. ended (record { source = source_read.0; subscription = subscription_read.0; session = session.0; stream = stream.0; position = position.0; origin = origin.0 }) origin.1) r after_subscription) [
                  | step session_read session_is after_session ↦
                      elim (bind_ok (signed_at w32 4 session_read.1) (λ stream. number_at 8 stream.1 >>= λ position. text_at longest position.1 >>= λ origin. ended (record { source = source_read.0; subscription = subscription_read.0; session = session_read.0; stream = stream.0; position = position.0; origin = origin.0 }) origin.1) r after_session) [
                        | step stream_read stream_is after_stream ↦
                            elim (bind_ok (number_at 8 stream_read.1) (λ position. text_at longest position.1 >>= λ origin. ended (record { source = source_read.0; subscription = subscription_read.0; session = session_read.0; stream = stream_read.0; position = position.0; origin = origin.0 }) origin.1) r after_stream) [
                              | step position_read position_is after_position ↦
                                  elim (bind_ok (text_at longest position_read.1) (λ origin. ended (record { source = source_read.0; subscription = subscription_read.0; session = session_read.0; stream = stream_read.0; position = position_read.0; origin = origin.0 }) origin.1) r after_position) [
                                    | step origin_read origin_is after_origin ↦
                                        let made : AvailableImage = record { source = source_read.0; subscription = subscription_read.0; session = session_read.0; stream = stream_read.0; position = position_read.0; origin = origin_read.0 } in
                                        let done = ended_takes made r origin_read.1 after_origin in
                                        let t0 = number_takes 8 bytes source_read fits source_is in
                                        let t1 = number_takes 8 source_read.1 subscription_read t0.0.rest_fits subscription_is in
                                        let t2 = signed32_takes subscription_read.1 session_read t1.0.rest_fits session_is in
                                        let t3 = signed32_takes session_read.1 stream_read t2.0.rest_fits stream_is in
                                        let t4 = number_takes 8 stream_read.1 position_read t3.0.rest_fits position_is in
                                        let t5 = text_takes longest position_read.1 origin_read t4.0.rest_fits origin_is in
                                        subst (λ (x : AvailableImage). (bytes ≡ available_image_bytes x) × IsAvailableImage x) done.0 (taken made bytes source_read.1 subscription_read.1 session_read.1 stream_read.1 position_read.1 origin_read.1 t0.0 t1.0 t2.0 t3.0 t4.0 t5.0 done.1, record { source = t0.1; subscription = t1.1; session = t2.1; stream = t3.1; position = t4.1; origin = t5.1 })
                                  ]
                            ]
                      ]
                ]
          ]
    ]

pub available_image_again : (r : AvailableImage) → IsAvailableImage r → available_image_of (available_image_bytes r) ≡ Ok r
unfolding available_image_of available_image_bytes
available_image_again r fits =
    let fit : longest < 256 ^ 4 = omega arith in
    let regrouped : available_image_bytes r ≡ number_bytes 8 r.source ++ (number_bytes 8 r.subscription ++ (signed_bytes w32 4 r.session ++ (signed_bytes w32 4 r.stream ++ (number_bytes 8 r.position ++ with_length r.origin)))) = append_assoc (number_bytes 8 r.source ++ number_bytes 8 r.subscription ++ signed_bytes w32 4 r.session ++ signed_bytes w32 4 r.stream) (number_bytes 8 r.position) (with_length r.origin) ∙ append_assoc (number_bytes 8 r.source ++ number_bytes 8 r.subscription ++ signed_bytes w32 4 r.session) (signed_bytes w32 4 r.stream) (number_bytes 8 r.position ++ with_length r.origin) ∙ append_assoc (number_bytes 8 r.source ++ number_bytes 8 r.subscription) (signed_bytes w32 4 r.session) (signed_bytes w32 4 r.stream ++ (number_bytes 8 r.position ++ with_length r.origin)) ∙ append_assoc (number_bytes 8 r.source) (number_bytes 8 r.subscription) (signed_bytes w32 4 r.session ++ (signed_bytes w32 4 r.stream ++ (number_bytes 8 r.position ++ with_length r.origin))) in
    ap available_image_of regrouped ∙ rw (number_again 8 r.source (number_bytes 8 r.subscription ++ (signed_bytes w32 4 r.session ++ (signed_bytes w32 4 r.stream ++ (number_bytes 8 r.position ++ with_length r.origin)))) fits.source, number_again 8 r.subscription (signed_bytes w32 4 r.session ++ (signed_bytes w32 4 r.stream ++ (number_bytes 8 r.position ++ with_length r.origin))) fits.subscription, signed32_again r.session (signed_bytes w32 4 r.stream ++ (number_bytes 8 r.position ++ with_length r.origin)) fits.session, signed32_again r.stream (number_bytes 8 r.position ++ with_length r.origin) fits.stream, number_again 8 r.position (with_length r.origin) fits.position, text_last longest r.origin fit fits.origin) refl
