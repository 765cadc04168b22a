-- The fields of ON_SUBSCRIPTION_READY are read as they were written, and written as they were read.
use Rattle.std.proofs.Common.{◌≡◌, ℕ, List, Ok, refl}
use Rattle.command_codec.specs.declared.subscription_ready.SubscriptionReady.{SubscriptionReady}
use Rattle.command_codec.specs.Fields.{two_numbers, IsBytes}
use Rattle.command_codec.specs.SubscriptionReady.{subscription_ready_of, subscription_ready_bytes, IsSubscriptionReady}
use Rattle.command_codec.proofs.FieldLemmas.{made_from, two_numbers_take, two_numbers_again}

pub subscription_ready_takes : (bytes : List ℕ) (r : SubscriptionReady) → IsBytes bytes → subscription_ready_of bytes ≡ Ok r → (bytes ≡ subscription_ready_bytes r) × IsSubscriptionReady r
unfolding subscription_ready_of subscription_ready_bytes
subscription_ready_takes bytes r fits e =
    made_from (two_numbers bytes) (λ (numbers : ℕ × ℕ). record { correlation = numbers.0; registration = numbers.1 }) (λ (x : SubscriptionReady). (bytes ≡ subscription_ready_bytes x) × IsSubscriptionReady x) r (λ numbers is.
    let t = two_numbers_take bytes numbers fits is in
    (t.0, record { correlation = t.1; registration = t.2 })) e

pub subscription_ready_again : (r : SubscriptionReady) → IsSubscriptionReady r → subscription_ready_of (subscription_ready_bytes r) ≡ Ok r
unfolding subscription_ready_of subscription_ready_bytes
subscription_ready_again r fits = rw (two_numbers_again r.correlation r.registration fits.correlation fits.registration) refl
