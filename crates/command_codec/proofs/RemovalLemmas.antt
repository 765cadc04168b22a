-- The fields of the commands that remove are read as they were written, and written as they were read.
use Rattle.std.proofs.Common.{◌≡◌, ℕ, List, Ok, refl}
use Rattle.command_codec.specs.declared.removal.Removal.{Removal}
use Rattle.command_codec.specs.Fields.{one_number, IsBytes}
use Rattle.command_codec.specs.Removal.{removal_of, removal_bytes, IsRemoval}
use Rattle.command_codec.proofs.FieldLemmas.{made_from, one_number_takes, one_number_again}

pub removal_takes : (bytes : List ℕ) (r : Removal) → IsBytes bytes → removal_of bytes ≡ Ok r → (bytes ≡ removal_bytes r) × IsRemoval r
unfolding removal_of removal_bytes
removal_takes bytes r fits e =
    made_from (one_number bytes) (λ (number : ℕ). record { registration = number }) (λ (x : Removal). (bytes ≡ removal_bytes x) × IsRemoval x) r (λ number is.
    let t = one_number_takes bytes number fits is in
    (t.0, record { registration = t.1 })) e

pub removal_again : (r : Removal) → IsRemoval r → removal_of (removal_bytes r) ≡ Ok r
unfolding removal_of removal_bytes
removal_again r fits = rw (one_number_again r.registration fits.registration) refl
