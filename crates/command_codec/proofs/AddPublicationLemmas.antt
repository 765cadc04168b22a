-- The fields of ADD_PUBLICATION and ADD_EXCLUSIVE_PUBLICATION are read as they were written, and written as they were read.
use Rattle.std.proofs.Common.{◌≡◌, ℕ, ◌<◌, ◌^◌, List, [], ◌++◌, Ok, refl, subst, arith}
use Rattle.std.specs.Int.{w32}
use Rattle.command_codec.specs.declared.add_publication.AddPublication.{AddPublication}
use Rattle.command_codec.specs.Gives.{◌>>=◌}
use Rattle.command_codec.specs.Fields.{signed_at, longest, text_at, ended, signed_bytes, with_length, IsBytes}
use Rattle.command_codec.specs.AddPublication.{add_publication_of, add_publication_bytes, IsAddPublication}
use Rattle.command_codec.proofs.FieldLemmas.{bind_ok, step, Takes, Takes-then, Takes-all, signed32_takes, signed32_again, text_takes, text_last, ended_takes}

-- the fields that were read, and what each took
taken : (a : AddPublication) (bytes after_stream after : List ℕ) → Takes bytes (signed_bytes w32 4 a.stream) after_stream → Takes after_stream (with_length a.channel) after → after ≡ [] → bytes ≡ add_publication_bytes a
unfolding add_publication_bytes
taken a bytes after_stream after stream_taken channel_taken e =
    let two = Takes-then bytes (signed_bytes w32 4 a.stream) after_stream (with_length a.channel) after stream_taken channel_taken in
    Takes-all bytes (signed_bytes w32 4 a.stream ++ with_length a.channel) after two e

pub add_publication_takes : (bytes : List ℕ) (a : AddPublication) → IsBytes bytes → add_publication_of bytes ≡ Ok a → (bytes ≡ add_publication_bytes a) × IsAddPublication a
unfolding add_publication_of
add_publication_takes bytes a fits e =
    elim (bind_ok (signed_at w32 4 bytes) (λ stream. text_at longest stream.1 >>= λ channel. ended (record { stream = stream.0; channel = channel.0 }) channel.1) a e) [
      | step stream_read stream_is after_stream ↦
          elim (bind_ok (text_at longest stream_read.1) (λ channel. ended (record { stream = stream_read.0; channel = channel.0 }) channel.1) a after_stream) [
            | step channel_read channel_is after_channel ↦
                let made : AddPublication = record { stream = stream_read.0; channel = channel_read.0 } in
                let done = ended_takes made a channel_read.1 after_channel in
                let t0 = signed32_takes bytes stream_read fits stream_is in
                let t1 = text_takes longest stream_read.1 channel_read t0.0.rest_fits channel_is in
                subst (λ (x : AddPublication). (bytes ≡ add_publication_bytes x) × IsAddPublication x) done.0 (taken made bytes stream_read.1 channel_read.1 t0.0 t1.0 done.1, record { stream = t0.1; channel = t1.1 })
          ]
    ]

pub add_publication_again : (a : AddPublication) → IsAddPublication a → add_publication_of (add_publication_bytes a) ≡ Ok a
unfolding add_publication_of add_publication_bytes
add_publication_again a fits =
    let fit : longest < 256 ^ 4 = omega arith in
    rw (signed32_again a.stream (with_length a.channel) fits.stream, text_last longest a.channel fit fits.channel) refl
