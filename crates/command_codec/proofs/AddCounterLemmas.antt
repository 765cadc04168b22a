-- The fields of ADD_COUNTER are read as they were written, and written as they were read.
use Rattle.std.proofs.Common.{◌≡◌, ℕ, ◌<◌, ◌^◌, List, [], ◌++◌, Ok, refl, ap, subst, ◌∙◌, append_assoc, arith}
use Rattle.std.specs.Int.{w32}
use Rattle.command_codec.specs.declared.add_counter.AddCounter.{AddCounter}
use Rattle.command_codec.specs.Gives.{◌>>=◌}
use Rattle.command_codec.specs.Fields.{signed_at, bytes_at, text_at, ended, signed_bytes, with_length, IsBytes}
use Rattle.command_codec.specs.AddCounter.{longest_key, longest_label, add_counter_of, add_counter_bytes, IsAddCounter}
use Rattle.command_codec.proofs.FieldLemmas.{bind_ok, step, Takes, Takes-then, Takes-all, signed32_takes, signed32_again, bytes_takes, bytes_again, text_takes, text_last, ended_takes}

-- the fields that were read, and what each took
taken : (a : AddCounter) (bytes after_type after_key after : List ℕ) → Takes bytes (signed_bytes w32 4 a.type_id) after_type → Takes after_type (with_length a.key) after_key → Takes after_key (with_length a.label) after → after ≡ [] → bytes ≡ add_counter_bytes a
unfolding add_counter_bytes
taken a bytes after_type after_key after p q r e =
    let two = Takes-then bytes (signed_bytes w32 4 a.type_id) after_type (with_length a.key) after_key p q in
    let three = Takes-then bytes (signed_bytes w32 4 a.type_id ++ with_length a.key) after_key (with_length a.label) after two r in
    Takes-all bytes (signed_bytes w32 4 a.type_id ++ with_length a.key ++ with_length a.label) after three e

pub add_counter_takes : (bytes : List ℕ) (a : AddCounter) → IsBytes bytes → add_counter_of bytes ≡ Ok a → (bytes ≡ add_counter_bytes a) × IsAddCounter a
unfolding add_counter_of
add_counter_takes bytes a fits e =
    elim (bind_ok (signed_at w32 4 bytes) (λ type_id. bytes_at longest_key type_id.1 >>= λ key. text_at longest_label key.1 >>= λ label. ended (record { type_id = type_id.0; key = key.0; label = label.0 }) label.1) a e) [
      | step t t_is after_t ↦
          elim (bind_ok (bytes_at longest_key t.1) (λ key. text_at longest_label key.1 >>= λ label. ended (record { type_id = t.0; key = key.0; label = label.0 }) label.1) a after_t) [
            | step k k_is after_k ↦
                elim (bind_ok (text_at longest_label k.1) (λ label. ended (record { type_id = t.0; key = k.0; label = label.0 }) label.1) a after_k) [
                  | step l l_is after_l ↦
                      let made : AddCounter = record { type_id = t.0; key = k.0; label = l.0 } in
                      let done = ended_takes made a l.1 after_l in
                      let t0 = signed32_takes bytes t fits t_is in
                      let t1 = bytes_takes longest_key t.1 k t0.0.rest_fits k_is in
                      let t2 = text_takes longest_label k.1 l t1.0.rest_fits l_is in
                      subst (λ (x : AddCounter). (bytes ≡ add_counter_bytes x) × IsAddCounter x) done.0 (taken made bytes t.1 k.1 l.1 t0.0 t1.0 t2.0 done.1, record { type_id = t0.1; key = t1.1; label = t2.1 })
                ]
          ]
    ]

pub add_counter_again : (a : AddCounter) → IsAddCounter a → add_counter_of (add_counter_bytes a) ≡ Ok a
unfolding add_counter_of add_counter_bytes
add_counter_again a fits =
    let key_fit : longest_key < 256 ^ 4 = omega arith in
    let label_fit : longest_label < 256 ^ 4 = omega arith in
    let regrouped : add_counter_bytes a ≡ signed_bytes w32 4 a.type_id ++ (with_length a.key ++ with_length a.label) = append_assoc (signed_bytes w32 4 a.type_id) (with_length a.key) (with_length a.label) in
    ap add_counter_of regrouped ∙ rw (signed32_again a.type_id (with_length a.key ++ with_length a.label) fits.type_id, bytes_again longest_key a.key (with_length a.label) key_fit fits.key, text_last longest_label a.label label_fit fits.label) refl
