-- The fields of ON_ERROR are read as they were written, and written as they were read.
use Rattle.std.proofs.Common.{◌≡◌, ℕ, ℤ, List, [], ◌++◌, Ok, refl, ap, subst, ◌∙◌, append_assoc, arith, ok_or, ◌<◌, ◌^◌}
use Rattle.std.specs.Int.{w32}
use Rattle.command_codec.specs.declared.fault.CommandFault.TheVariants.{Malformed}
use Rattle.command_codec.specs.declared.error_reply.ErrorReply.{ErrorReply}
use Rattle.command_codec.specs.Gives.{◌>>=◌}
use Rattle.command_codec.specs.Fields.{number_at, signed_at, longest, text_at, ended, number_bytes, signed_bytes, with_length, IsBytes}
use Rattle.command_codec.specs.ErrorCode.{code_of, code_number}
use Rattle.command_codec.specs.ErrorReply.{error_of, error_bytes, IsErrorReply}
use Rattle.command_codec.proofs.CodeLemmas.{code_again, code_fits, code_takes}
use Rattle.command_codec.proofs.FieldLemmas.{bind_ok, step, was_some, Takes, Takes-then, Takes-all, number_takes, number_again, signed32_takes, signed32_again, text_takes, text_last, ended_takes}

-- the fields that were read, and what each took
taken : (reply : ErrorReply) (number : ℤ) (bytes after_correlation after_number after : List ℕ) → Takes bytes (number_bytes 8 reply.correlation) after_correlation → Takes after_correlation (signed_bytes w32 4 number) after_number → number ≡ code_number reply.code → Takes after_number (with_length reply.text) after → after ≡ [] → bytes ≡ error_bytes reply
unfolding error_bytes
taken reply number bytes after_correlation after_number after p q is r e =
    let two = Takes-then bytes (number_bytes 8 reply.correlation) after_correlation (signed_bytes w32 4 number) after_number p q in
    let three = Takes-then bytes (number_bytes 8 reply.correlation ++ signed_bytes w32 4 number) after_number (with_length reply.text) after two r in
    let spelt = Takes-all bytes (number_bytes 8 reply.correlation ++ signed_bytes w32 4 number ++ with_length reply.text) after three e in
    spelt ∙ ap (λ (z : ℤ). number_bytes 8 reply.correlation ++ signed_bytes w32 4 z ++ with_length reply.text) is

pub error_takes : (bytes : List ℕ) (reply : ErrorReply) → IsBytes bytes → error_of bytes ≡ Ok reply → (bytes ≡ error_bytes reply) × IsErrorReply reply
unfolding error_of
error_takes bytes reply fits e =
    elim (bind_ok (number_at 8 bytes) (λ correlation. signed_at w32 4 correlation.1 >>= λ number. ok_or (code_of number.0) Malformed >>= λ code. text_at longest number.1 >>= λ text. ended (record { correlation = correlation.0; code = code; text = text.0 }) text.1) reply e) [
      | step c c_is after_c ↦
          elim (bind_ok (signed_at w32 4 c.1) (λ number. ok_or (code_of number.0) Malformed >>= λ code. text_at longest number.1 >>= λ text. ended (record { correlation = c.0; code = code; text = text.0 }) text.1) reply after_c) [
            | step n n_is after_n ↦
                elim (bind_ok (ok_or (code_of n.0) Malformed) (λ code. text_at longest n.1 >>= λ text. ended (record { correlation = c.0; code = code; text = text.0 }) text.1) reply after_n) [
                  | step code code_is after_code ↦
                      elim (bind_ok (text_at longest n.1) (λ text. ended (record { correlation = c.0; code = code; text = text.0 }) text.1) reply after_code) [
                        | step t t_is after_t ↦
                            let made : ErrorReply = record { correlation = c.0; code = code; text = t.0 } in
                            let done = ended_takes made reply t.1 after_t in
                            let t0 = number_takes 8 bytes c fits c_is in
                            let t1 = signed32_takes c.1 n t0.0.rest_fits n_is in
                            let t2 = text_takes longest n.1 t t1.0.rest_fits t_is in
                            let number : n.0 ≡ code_number code = code_takes n.0 code (was_some (code_of n.0) Malformed code code_is) in
                            subst (λ (x : ErrorReply). (bytes ≡ error_bytes x) × IsErrorReply x) done.0 (taken made n.0 bytes c.1 n.1 t.1 t0.0 t1.0 number t2.0 done.1, record { correlation = t0.1; text = t2.1 })
                      ]
                ]
          ]
    ]

pub error_again : (reply : ErrorReply) → IsErrorReply reply → error_of (error_bytes reply) ≡ Ok reply
unfolding error_of error_bytes
error_again reply fits =
    let z = code_number reply.code in
    let fit : longest < 256 ^ 4 = omega arith in
    let regrouped : error_bytes reply ≡ number_bytes 8 reply.correlation ++ (signed_bytes w32 4 z ++ with_length reply.text) = append_assoc (number_bytes 8 reply.correlation) (signed_bytes w32 4 z) (with_length reply.text) in
    ap error_of regrouped ∙ rw (number_again 8 reply.correlation (signed_bytes w32 4 z ++ with_length reply.text) fits.correlation, signed32_again z (with_length reply.text) (code_fits reply.code), code_again reply.code, text_last longest reply.text fit fits.text) refl
