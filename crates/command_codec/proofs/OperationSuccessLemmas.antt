-- The fields of ON_OPERATION_SUCCESS are read as they were written, and written as they were read.
use Rattle.std.proofs.Common.{◌≡◌, ℕ, List, Ok, refl}
use Rattle.command_codec.specs.declared.operation_success.OperationSuccess.{OperationSuccess}
use Rattle.command_codec.specs.Fields.{one_number, IsBytes}
use Rattle.command_codec.specs.OperationSuccess.{operation_success_of, operation_success_bytes, IsOperationSuccess}
use Rattle.command_codec.proofs.FieldLemmas.{made_from, one_number_takes, one_number_again}

pub operation_success_takes : (bytes : List ℕ) (r : OperationSuccess) → IsBytes bytes → operation_success_of bytes ≡ Ok r → (bytes ≡ operation_success_bytes r) × IsOperationSuccess r
unfolding operation_success_of operation_success_bytes
operation_success_takes bytes r fits e =
    made_from (one_number bytes) (λ (number : ℕ). record { correlation = number }) (λ (x : OperationSuccess). (bytes ≡ operation_success_bytes x) × IsOperationSuccess x) r (λ number is.
    let t = one_number_takes bytes number fits is in
    (t.0, record { correlation = t.1 })) e

pub operation_success_again : (r : OperationSuccess) → IsOperationSuccess r → operation_success_of (operation_success_bytes r) ≡ Ok r
unfolding operation_success_of operation_success_bytes
operation_success_again r fits = rw (one_number_again r.correlation fits.correlation) refl
