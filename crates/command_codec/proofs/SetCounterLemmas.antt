-- The fields of SET_COUNTER are read as they were written, and written as they were read.
use Rattle.std.proofs.Common.{◌≡◌, ℕ, List, [], ◌++◌, Ok, refl, subst}
use Rattle.std.specs.Int.{w64}
use Rattle.command_codec.specs.declared.set_counter.SetCounter.{SetCounter}
use Rattle.command_codec.specs.Gives.{◌>>=◌}
use Rattle.command_codec.specs.Fields.{number_at, signed_at, ended, number_bytes, signed_bytes, IsBytes}
use Rattle.command_codec.specs.SetCounter.{set_counter_of, set_counter_bytes, IsSetCounter}
use Rattle.command_codec.proofs.FieldLemmas.{bind_ok, step, Takes, Takes-then, Takes-all, number_takes, number_again, signed64_takes, signed64_last, ended_takes}

-- the fields that were read, and what each took
taken : (s : SetCounter) (bytes after_registration after : List ℕ) → Takes bytes (number_bytes 8 s.registration) after_registration → Takes after_registration (signed_bytes w64 8 s.value) after → after ≡ [] → bytes ≡ set_counter_bytes s
unfolding set_counter_bytes
taken s bytes after_registration after p q e =
    let two = Takes-then bytes (number_bytes 8 s.registration) after_registration (signed_bytes w64 8 s.value) after p q in
    Takes-all bytes (number_bytes 8 s.registration ++ signed_bytes w64 8 s.value) after two e

pub set_counter_takes : (bytes : List ℕ) (s : SetCounter) → IsBytes bytes → set_counter_of bytes ≡ Ok s → (bytes ≡ set_counter_bytes s) × IsSetCounter s
unfolding set_counter_of
set_counter_takes bytes s fits e =
    elim (bind_ok (number_at 8 bytes) (λ registration. signed_at w64 8 registration.1 >>= λ value. ended (record { registration = registration.0; value = value.0 }) value.1) s e) [
      | step r r_is after_r ↦
          elim (bind_ok (signed_at w64 8 r.1) (λ value. ended (record { registration = r.0; value = value.0 }) value.1) s after_r) [
            | step v v_is after_v ↦
                let made : SetCounter = record { registration = r.0; value = v.0 } in
                let done = ended_takes made s v.1 after_v in
                let t0 = number_takes 8 bytes r fits r_is in
                let t1 = signed64_takes r.1 v t0.0.rest_fits v_is in
                subst (λ (x : SetCounter). (bytes ≡ set_counter_bytes x) × IsSetCounter x) done.0 (taken made bytes r.1 v.1 t0.0 t1.0 done.1, record { registration = t0.1; value = t1.1 })
          ]
    ]

pub set_counter_again : (s : SetCounter) → IsSetCounter s → set_counter_of (set_counter_bytes s) ≡ Ok s
unfolding set_counter_of set_counter_bytes
set_counter_again s fits = rw (number_again 8 s.registration (signed_bytes w64 8 s.value) fits.registration, signed64_last s.value fits.value) refl
