-- The fields of ON_PUBLICATION_READY and ON_EXCLUSIVE_PUBLICATION_READY are read as they were written, and written as they were read.
use Rattle.std.proofs.Common.{◌≡◌, ℕ, List, [], ◌++◌, Ok, refl, ap, subst, ◌∙◌, append_assoc}
use Rattle.std.specs.Int.{w32}
use Rattle.command_codec.specs.declared.publication_ready.PublicationReady.{PublicationReady}
use Rattle.command_codec.specs.Gives.{◌>>=◌}
use Rattle.command_codec.specs.Fields.{number_at, signed_at, ended, number_bytes, signed_bytes, IsBytes}
use Rattle.command_codec.specs.PublicationReady.{publication_ready_of, publication_ready_bytes, IsPublicationReady}
use Rattle.command_codec.proofs.FieldLemmas.{bind_ok, step, Takes, Takes-then, Takes-all, number_takes, number_again, signed32_takes, signed32_again, signed32_last, ended_takes}

-- the fields that were read, and what each took
taken : (r : PublicationReady) (bytes after_correlation after_registration after_session after : List ℕ) → Takes bytes (number_bytes 8 r.correlation) after_correlation → Takes after_correlation (number_bytes 8 r.registration) after_registration → Takes after_registration (signed_bytes w32 4 r.session) after_session → Takes after_session (signed_bytes w32 4 r.stream) after → after ≡ [] → bytes ≡ publication_ready_bytes r
unfolding publication_ready_bytes
taken r bytes after_correlation after_registration after_session after correlation_taken registration_taken session_taken stream_taken e =
    let two = Takes-then bytes (number_bytes 8 r.correlation) after_correlation (number_bytes 8 r.registration) after_registration correlation_taken registration_taken in
    let three = Takes-then bytes (number_bytes 8 r.correlation ++ number_bytes 8 r.registration) after_registration (signed_bytes w32 4 r.session) after_session two session_taken in
    let four = Takes-then bytes (number_bytes 8 r.correlation ++ number_bytes 8 r.registration ++ signed_bytes w32 4 r.session) after_session (signed_bytes w32 4 r.stream) after three stream_taken in
    Takes-all bytes (number_bytes 8 r.correlation ++ number_bytes 8 r.registration ++ signed_bytes w32 4 r.session ++ signed_bytes w32 4 r.stream) after four e

pub publication_ready_takes : (bytes : List ℕ) (r : PublicationReady) → IsBytes bytes → publication_ready_of bytes ≡ Ok r → (bytes ≡ publication_ready_bytes r) × IsPublicationReady r
unfolding publication_ready_of
publication_ready_takes bytes r fits e =
    elim (bind_ok (number_at 8 bytes) (λ correlation. number_at 8 correlation.1 >>= λ registration. signed_at w32 4 registration.1 >>= λ session. signed_at w32 4 session.1 >>= λ stream. ended (record { correlation = correlation.0; registration = registration.0; session = session.0; stream = stream.0 }) stream.1) r e) [
      | step correlation_read correlation_is after_correlation ↦
          elim (bind_ok (number_at 8 correlation_read.1) (λ registration. signed_at w32 4 registration.1 >>= λ session. signed_at w32 4 session.1 >>= λ stream. ended (record { correlation = correlation_read.0; registration = registration.0; session = session.0; stream = stream.0 }) stream.1) r after_correlation) [
            | step registration_read registration_is after_registration ↦
                elim (bind_ok (signed_at w32 4 registration_read.1) (λ session. signed_at w32 4 session.1 >>= λ stream. ended (record { correlation = correlation_read.0; registration = registration_read.0; session = session.0; stream = stream.0 }) stream.1) r after_registration) [
                  | step session_read session_is after_session ↦
                      elim (bind_ok (signed_at w32 4 session_read.1) (λ stream. ended (record { correlation = correlation_read.0; registration = registration_read.0; session = session_read.0; stream = stream.0 }) stream.1) r after_session) [
                        | step stream_read stream_is after_stream ↦
                            let made : PublicationReady = record { correlation = correlation_read.0; registration = registration_read.0; session = session_read.0; stream = stream_read.0 } in
                            let done = ended_takes made r stream_read.1 after_stream in
                            let t0 = number_takes 8 bytes correlation_read fits correlation_is in
                            let t1 = number_takes 8 correlation_read.1 registration_read t0.0.rest_fits registration_is in
                            let t2 = signed32_takes registration_read.1 session_read t1.0.rest_fits session_is in
                            let t3 = signed32_takes session_read.1 stream_read t2.0.rest_fits stream_is in
                            subst (λ (x : PublicationReady). (bytes ≡ publication_ready_bytes x) × IsPublicationReady x) done.0 (taken made bytes correlation_read.1 registration_read.1 session_read.1 stream_read.1 t0.0 t1.0 t2.0 t3.0 done.1, record { correlation = t0.1; registration = t1.1; session = t2.1; stream = t3.1 })
                      ]
                ]
          ]
    ]

pub publication_ready_again : (r : PublicationReady) → IsPublicationReady r → publication_ready_of (publication_ready_bytes r) ≡ Ok r
unfolding publication_ready_of publication_ready_bytes
publication_ready_again r fits =
    let regrouped : publication_ready_bytes r ≡ number_bytes 8 r.correlation ++ (number_bytes 8 r.registration ++ (signed_bytes w32 4 r.session ++ signed_bytes w32 4 r.stream)) = append_assoc (number_bytes 8 r.correlation ++ number_bytes 8 r.registration) (signed_bytes w32 4 r.session) (signed_bytes w32 4 r.stream) ∙ append_assoc (number_bytes 8 r.correlation) (number_bytes 8 r.registration) (signed_bytes w32 4 r.session ++ signed_bytes w32 4 r.stream) in
    ap publication_ready_of regrouped ∙ rw (number_again 8 r.correlation (number_bytes 8 r.registration ++ (signed_bytes w32 4 r.session ++ signed_bytes w32 4 r.stream)) fits.correlation, number_again 8 r.registration (signed_bytes w32 4 r.session ++ signed_bytes w32 4 r.stream) fits.registration, signed32_again r.session (signed_bytes w32 4 r.stream) fits.session, signed32_last r.stream fits.stream) refl
