-- The fields of ON_COUNTER_READY are read as they were written, and written as they were read.
use Rattle.std.proofs.Common.{◌≡◌, ℕ, List, Ok, refl}
use Rattle.command_codec.specs.declared.counter_ready.CounterReady.{CounterReady}
use Rattle.command_codec.specs.Fields.{two_numbers, IsBytes}
use Rattle.command_codec.specs.CounterReady.{counter_ready_of, counter_ready_bytes, IsCounterReady}
use Rattle.command_codec.proofs.FieldLemmas.{made_from, two_numbers_take, two_numbers_again}

pub counter_ready_takes : (bytes : List ℕ) (r : CounterReady) → IsBytes bytes → counter_ready_of bytes ≡ Ok r → (bytes ≡ counter_ready_bytes r) × IsCounterReady r
unfolding counter_ready_of counter_ready_bytes
counter_ready_takes bytes r fits e =
    made_from (two_numbers bytes) (λ (numbers : ℕ × ℕ). record { correlation = numbers.0; registration = numbers.1 }) (λ (x : CounterReady). (bytes ≡ counter_ready_bytes x) × IsCounterReady x) r (λ numbers is.
    let t = two_numbers_take bytes numbers fits is in
    (t.0, record { correlation = t.1; registration = t.2 })) e

pub counter_ready_again : (r : CounterReady) → IsCounterReady r → counter_ready_of (counter_ready_bytes r) ≡ Ok r
unfolding counter_ready_of counter_ready_bytes
counter_ready_again r fits = rw (two_numbers_again r.correlation r.registration fits.correlation fits.registration) refl
