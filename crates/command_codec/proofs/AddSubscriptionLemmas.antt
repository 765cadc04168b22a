-- The fields of ADD_SUBSCRIPTION are read as they were written, and written as they were read.
use Rattle.std.proofs.Common.{◌≡◌, ℕ, ◌<◌, ◌^◌, List, [], ◌++◌, Ok, refl, ap, subst, ◌∙◌, append_assoc, arith}
use Rattle.std.specs.Int.{w32}
use Rattle.command_codec.specs.declared.add_subscription.AddSubscription.{AddSubscription}
use Rattle.command_codec.specs.Gives.{◌>>=◌}
use Rattle.command_codec.specs.Fields.{number_at, signed_at, longest, text_at, ended, number_bytes, signed_bytes, with_length, IsBytes}
use Rattle.command_codec.specs.AddSubscription.{add_subscription_of, add_subscription_bytes, IsAddSubscription}
use Rattle.command_codec.proofs.FieldLemmas.{bind_ok, step, Takes, Takes-then, Takes-all, number_takes, number_again, signed32_takes, signed32_again, text_takes, text_last, ended_takes}

-- the fields that were read, and what each took
taken : (a : AddSubscription) (bytes after_registration after_stream after : List ℕ) → Takes bytes (number_bytes 8 a.registration_correlation) after_registration → Takes after_registration (signed_bytes w32 4 a.stream) after_stream → Takes after_stream (with_length a.channel) after → after ≡ [] → bytes ≡ add_subscription_bytes a
unfolding add_subscription_bytes
taken a bytes after_registration after_stream after p q r e =
    let two = Takes-then bytes (number_bytes 8 a.registration_correlation) after_registration (signed_bytes w32 4 a.stream) after_stream p q in
    let three = Takes-then bytes (number_bytes 8 a.registration_correlation ++ signed_bytes w32 4 a.stream) after_stream (with_length a.channel) after two r in
    Takes-all bytes (number_bytes 8 a.registration_correlation ++ signed_bytes w32 4 a.stream ++ with_length a.channel) after three e

pub add_subscription_takes : (bytes : List ℕ) (a : AddSubscription) → IsBytes bytes → add_subscription_of bytes ≡ Ok a → (bytes ≡ add_subscription_bytes a) × IsAddSubscription a
unfolding add_subscription_of
add_subscription_takes bytes a fits e =
    elim (bind_ok (number_at 8 bytes) (λ registration. signed_at w32 4 registration.1 >>= λ stream. text_at longest stream.1 >>= λ channel. ended (record { registration_correlation = registration.0; stream = stream.0; channel = channel.0 }) channel.1) a e) [
      | step r r_is after_r ↦
          elim (bind_ok (signed_at w32 4 r.1) (λ stream. text_at longest stream.1 >>= λ channel. ended (record { registration_correlation = r.0; stream = stream.0; channel = channel.0 }) channel.1) a after_r) [
            | step s s_is after_s ↦
                elim (bind_ok (text_at longest s.1) (λ channel. ended (record { registration_correlation = r.0; stream = s.0; channel = channel.0 }) channel.1) a after_s) [
                  | step t t_is after_t ↦
                      let made : AddSubscription = record { registration_correlation = r.0; stream = s.0; channel = t.0 } in
                      let done = ended_takes made a t.1 after_t in
                      let t0 = number_takes 8 bytes r fits r_is in
                      let t1 = signed32_takes r.1 s t0.0.rest_fits s_is in
                      let t2 = text_takes longest s.1 t t1.0.rest_fits t_is in
                      subst (λ (x : AddSubscription). (bytes ≡ add_subscription_bytes x) × IsAddSubscription x) done.0 (taken made bytes r.1 s.1 t.1 t0.0 t1.0 t2.0 done.1, record { registration_correlation = t0.1; stream = t1.1; channel = t2.1 })
                ]
          ]
    ]

pub add_subscription_again : (a : AddSubscription) → IsAddSubscription a → add_subscription_of (add_subscription_bytes a) ≡ Ok a
unfolding add_subscription_of add_subscription_bytes
add_subscription_again a fits =
    let fit : longest < 256 ^ 4 = omega arith in
    let regrouped : add_subscription_bytes a ≡ number_bytes 8 a.registration_correlation ++ (signed_bytes w32 4 a.stream ++ with_length a.channel) = append_assoc (number_bytes 8 a.registration_correlation) (signed_bytes w32 4 a.stream) (with_length a.channel) in
    ap add_subscription_of regrouped ∙ rw (number_again 8 a.registration_correlation (signed_bytes w32 4 a.stream ++ with_length a.channel) fits.registration_correlation, signed32_again a.stream (with_length a.channel) fits.stream, text_last longest a.channel fit fits.channel) refl
