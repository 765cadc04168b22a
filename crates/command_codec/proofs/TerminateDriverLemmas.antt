-- The fields of TERMINATE_DRIVER are read as they were written, and written as they were read.
use Rattle.std.proofs.Common.{◌≡◌, ℕ, ◌<◌, ◌^◌, List, Ok, refl, subst, arith}
use Rattle.command_codec.specs.declared.terminate_driver.TerminateDriver.{TerminateDriver}
use Rattle.command_codec.specs.Fields.{bytes_at, ended, with_length, IsBytes}
use Rattle.command_codec.specs.TerminateDriver.{longest_token, terminate_driver_of, terminate_driver_bytes, IsTerminateDriver}
use Rattle.command_codec.proofs.FieldLemmas.{bind_ok, step, Takes-all, bytes_takes, bytes_last, ended_takes}

pub terminate_driver_takes : (bytes : List ℕ) (t : TerminateDriver) → IsBytes bytes → terminate_driver_of bytes ≡ Ok t → (bytes ≡ terminate_driver_bytes t) × IsTerminateDriver t
unfolding terminate_driver_of terminate_driver_bytes
terminate_driver_takes bytes t fits e =
    elim (bind_ok (bytes_at longest_token bytes) (λ token. ended (record { token = token.0 }) token.1) t e) [
      | step k k_is after ↦
          let made : TerminateDriver = record { token = k.0 } in
          let done = ended_takes made t k.1 after in
          let b = bytes_takes longest_token bytes k fits k_is in
          subst (λ (x : TerminateDriver). (bytes ≡ terminate_driver_bytes x) × IsTerminateDriver x) done.0 (Takes-all bytes (with_length k.0) k.1 b.0 done.1, record { token = b.1 })
    ]

pub terminate_driver_again : (t : TerminateDriver) → IsTerminateDriver t → terminate_driver_of (terminate_driver_bytes t) ≡ Ok t
unfolding terminate_driver_of terminate_driver_bytes
terminate_driver_again t fits =
    let fit : longest_token < 256 ^ 4 = omega arith in
    rw (bytes_last longest_token t.token fit fits.token) refl
