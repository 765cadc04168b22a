-- The fields of ON_CLIENT_TIMEOUT are read as they were written, and written as they were read.
use Rattle.std.proofs.Common.{◌≡◌, ℕ, List, Ok, refl}
use Rattle.command_codec.specs.declared.client_timeout.ClientTimeout.{ClientTimeout}
use Rattle.command_codec.specs.Fields.{one_number, IsBytes}
use Rattle.command_codec.specs.ClientTimeout.{client_timeout_of, client_timeout_bytes, IsClientTimeout}
use Rattle.command_codec.proofs.FieldLemmas.{made_from, one_number_takes, one_number_again}

pub client_timeout_takes : (bytes : List ℕ) (r : ClientTimeout) → IsBytes bytes → client_timeout_of bytes ≡ Ok r → (bytes ≡ client_timeout_bytes r) × IsClientTimeout r
unfolding client_timeout_of client_timeout_bytes
client_timeout_takes bytes r fits e =
    made_from (one_number bytes) (λ (number : ℕ). record { client = number }) (λ (x : ClientTimeout). (bytes ≡ client_timeout_bytes x) × IsClientTimeout x) r (λ number is.
    let t = one_number_takes bytes number fits is in
    (t.0, record { client = t.1 })) e

pub client_timeout_again : (r : ClientTimeout) → IsClientTimeout r → client_timeout_of (client_timeout_bytes r) ≡ Ok r
unfolding client_timeout_of client_timeout_bytes
client_timeout_again r fits = rw (one_number_again r.client fits.client) refl
