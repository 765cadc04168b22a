-- The fields of ADD_DESTINATION and REMOVE_DESTINATION are read as they were written, and written as they were read.
use Rattle.std.proofs.Common.{◌≡◌, ℕ, ◌<◌, ◌^◌, List, [], ◌++◌, Ok, refl, subst, arith}
use Rattle.command_codec.specs.declared.destination.Destination.{Destination}
use Rattle.command_codec.specs.Gives.{◌>>=◌}
use Rattle.command_codec.specs.Fields.{number_at, longest, text_at, ended, number_bytes, with_length, IsBytes}
use Rattle.command_codec.specs.Destination.{destination_of, destination_bytes, IsDestination, DestinationsReadBack}
use Rattle.command_codec.proofs.FieldLemmas.{bind_ok, step, Takes, Takes-then, Takes-all, number_takes, number_again, text_takes, text_last, ended_takes}

-- the fields that were read, and what each took
taken : (d : Destination) (bytes after_registration after : List ℕ) → Takes bytes (number_bytes 8 d.registration) after_registration →
    Takes after_registration (with_length d.channel) after → after ≡ [] → bytes ≡ destination_bytes d
unfolding destination_bytes
taken d bytes after_registration after registration_taken channel_taken e =
    let two = Takes-then bytes (number_bytes 8 d.registration) after_registration (with_length d.channel) after registration_taken channel_taken in
    Takes-all bytes (number_bytes 8 d.registration ++ with_length d.channel) after two e

pub destination_takes : (bytes : List ℕ) (d : Destination) → IsBytes bytes → destination_of bytes ≡ Ok d → (bytes ≡ destination_bytes d) × IsDestination d
unfolding destination_of
destination_takes bytes d fits e =
    elim (bind_ok (number_at 8 bytes) (λ registration. text_at longest registration.1 >>= λ channel. ended (record { registration = registration.0; channel = channel.0 }) channel.1) d e) [
      | step registration_read registration_is after_registration ↦
          elim (bind_ok (text_at longest registration_read.1) (λ channel. ended (record { registration = registration_read.0; channel = channel.0 }) channel.1) d after_registration) [
            | step channel_read channel_is after_channel ↦
                let made : Destination = record { registration = registration_read.0; channel = channel_read.0 } in
                let done = ended_takes made d channel_read.1 after_channel in
                let t0 = number_takes 8 bytes registration_read fits registration_is in
                let t1 = text_takes longest registration_read.1 channel_read t0.0.rest_fits channel_is in
                subst (λ (x : Destination). (bytes ≡ destination_bytes x) × IsDestination x) done.0
                (taken made bytes registration_read.1 channel_read.1 t0.0 t1.0 done.1, record { registration = t0.1; channel = t1.1 })
          ]
    ]

pub destination_again : (d : Destination) → IsDestination d → destination_of (destination_bytes d) ≡ Ok d
unfolding destination_of destination_bytes
destination_again d fits =
    let fit : longest < 256 ^ 4 = omega arith in
    rw (number_again 8 d.registration (with_length d.channel) fits.registration, text_last longest d.channel fit fits.channel) refl

pub destinations_read_back : DestinationsReadBack
destinations_read_back = record { again = destination_again; one_spelling = destination_takes }
