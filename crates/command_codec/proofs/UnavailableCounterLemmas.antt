-- The fields of ON_UNAVAILABLE_COUNTER are read as they were written, and written as they were read.
use Rattle.std.proofs.Common.{◌≡◌, ℕ, List, Ok, refl}
use Rattle.command_codec.specs.declared.unavailable_counter.UnavailableCounter.{UnavailableCounter}
use Rattle.command_codec.specs.Fields.{one_number, IsBytes}
use Rattle.command_codec.specs.UnavailableCounter.{unavailable_counter_of, unavailable_counter_bytes, IsUnavailableCounter}
use Rattle.command_codec.proofs.FieldLemmas.{made_from, one_number_takes, one_number_again}

pub unavailable_counter_takes : (bytes : List ℕ) (r : UnavailableCounter) → IsBytes bytes → unavailable_counter_of bytes ≡ Ok r → (bytes ≡ unavailable_counter_bytes r) × IsUnavailableCounter r
unfolding unavailable_counter_of unavailable_counter_bytes
unavailable_counter_takes bytes r fits e =
    made_from (one_number bytes) (λ (number : ℕ). record { registration = number }) (λ (x : UnavailableCounter). (bytes ≡ unavailable_counter_bytes x) × IsUnavailableCounter x) r (λ number is.
    let t = one_number_takes bytes number fits is in
    (t.0, record { registration = t.1 })) e

pub unavailable_counter_again : (r : UnavailableCounter) → IsUnavailableCounter r → unavailable_counter_of (unavailable_counter_bytes r) ≡ Ok r
unfolding unavailable_counter_of unavailable_counter_bytes
unavailable_counter_again r fits = rw (one_number_again r.registration fits.registration) refl
