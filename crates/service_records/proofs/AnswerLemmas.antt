-- Answers are read as they were written, and written as they were read.
use Rattle.std.proofs.Common.{◌≡◌, ℕ, ℤ, ◌^◌, ◌<◌, cond, eqb, List, [], ◌++◌, Result, Ok, Err, refl, sym, ap, subst, ◌∙◌, append_assoc, arith, inl, inr}
use Rattle.std.proofs.lemmas.Bool.{eqb-true}
use Rattle.std.specs.Int.{w32, w64}
use Rattle.service_records.specs.declared.fault.RecordFault.{RecordFault}
use Rattle.service_records.specs.declared.fault.RecordFault.TheVariants.{Unknown}
use Rattle.service_records.specs.declared.answer.Answer.{Answer}
use Rattle.service_records.specs.declared.answer.Answer.TheVariants as answers
use Rattle.service_records.specs.Gives.{◌>>=◌}
use Rattle.service_records.specs.Fields.{number_at, signed_at, ended, number_bytes, signed_bytes, IsBytes}
use Rattle.service_records.specs.Answer.{welcome_in, reply_in, taken_in, refused_in, fragment_in, done_in, row_in, value_in, bye_in, line_in, part_in, part_refused_in, publication_positions_in, image_positions_in, answer_in, answer_of, kind_number, fields_bytes, answer_body, IsAnswer, IsTail}
use Rattle.service_records.proofs.PositionLemmas.{Taken, publication_positions_takes, publication_positions_again, image_positions_takes, image_positions_again}
use Rattle.service_records.proofs.FieldLemmas.{bind_ok, step, ok_is, chosen, Takes-then, number_takes, number_again, signed32_takes, signed32_again, signed64_takes, signed64_again, ended_takes}

welcome_takes : (bytes : List ℕ) (x : Answer × List ℕ) → IsBytes bytes → welcome_in bytes ≡ Ok x → Taken bytes 257 x
unfolding kind_number fields_bytes
welcome_takes bytes x fits e =
    elim (bind_ok (number_at 4 bytes) (λ version. number_at 4 version.1 >>= λ principal. number_at 8 principal.1 >>= λ client. number_at 8 client.1 >>= λ liveness. ended (answers.Welcome version.0 principal.0 client.0 liveness.0, []) liveness.1) x e) [
      | step version version_is after_version ↦
          let t_version = number_takes 4 bytes version fits version_is in
          elim (bind_ok (number_at 4 version.1) (λ principal. number_at 8 principal.1 >>= λ client. number_at 8 client.1 >>= λ liveness. ended (answers.Welcome version.0 principal.0 client.0 liveness.0, []) liveness.1) x after_version) [
            | step principal principal_is after_principal ↦
                let t_principal = number_takes 4 version.1 principal t_version.0.rest_fits principal_is in
                elim (bind_ok (number_at 8 principal.1) (λ client. number_at 8 client.1 >>= λ liveness. ended (answers.Welcome version.0 principal.0 client.0 liveness.0, []) liveness.1) x after_principal) [
                  | step client client_is after_client ↦
                      let t_client = number_takes 8 principal.1 client t_principal.0.rest_fits client_is in
                      elim (bind_ok (number_at 8 client.1) (λ liveness. ended (answers.Welcome version.0 principal.0 client.0 liveness.0, []) liveness.1) x after_client) [
                        | step liveness liveness_is after_liveness ↦
                            let t_liveness = number_takes 8 client.1 liveness t_client.0.rest_fits liveness_is in
                            let made : Answer × List ℕ = (answers.Welcome version.0 principal.0 client.0 liveness.0, []) in
                            let w_principal = Takes-then bytes (number_bytes 4 version.0) version.1 (number_bytes 4 principal.0) principal.1 t_version.0 t_principal.0 in
                            let w_client = Takes-then bytes ((number_bytes 4 version.0) ++ number_bytes 4 principal.0) principal.1 (number_bytes 8 client.0) client.1 w_principal t_client.0 in
                            let w_liveness = Takes-then bytes (((number_bytes 4 version.0) ++ number_bytes 4 principal.0) ++ number_bytes 8 client.0) client.1 (number_bytes 8 liveness.0) liveness.1 w_client t_liveness.0 in
                            let last = ended_takes made x liveness.1 after_liveness in
                            let all : bytes ≡ ((((number_bytes 4 version.0) ++ number_bytes 4 principal.0) ++ number_bytes 8 client.0) ++ number_bytes 8 liveness.0) ++ [] = w_liveness.parts ∙ ap (λ (rest : List ℕ). ((((number_bytes 4 version.0) ++ number_bytes 4 principal.0) ++ number_bytes 8 client.0) ++ number_bytes 8 liveness.0) ++ rest) last.1 in
                            let found : Taken bytes 257 made = record { kind_is = refl; parts = all; fits = (t_version.1, t_principal.1, t_client.1, t_liveness.1); tail = refl } in
                            subst (λ (y : Answer × List ℕ). Taken bytes 257 y) last.0 found
                      ]
                ]
          ]
    ]

welcome_again : (version : ℕ) (principal : ℕ) (client : ℕ) (liveness : ℕ) → IsAnswer (answers.Welcome version principal client liveness) → welcome_in (fields_bytes (answers.Welcome version principal client liveness) ++ []) ≡ Ok ((answers.Welcome version principal client liveness), [])
unfolding fields_bytes
welcome_again version principal client liveness fits =
    let regrouped : fields_bytes (answers.Welcome version principal client liveness) ++ [] ≡ number_bytes 4 version ++ (number_bytes 4 principal ++ (number_bytes 8 client ++ (number_bytes 8 liveness ++ []))) = append_assoc (number_bytes 4 version ++ number_bytes 4 principal ++ number_bytes 8 client) (number_bytes 8 liveness) ([]) ∙ append_assoc (number_bytes 4 version ++ number_bytes 4 principal) (number_bytes 8 client) (number_bytes 8 liveness ++ []) ∙ append_assoc (number_bytes 4 version) (number_bytes 4 principal) (number_bytes 8 client ++ (number_bytes 8 liveness ++ [])) in
    ap welcome_in regrouped ∙ rw (number_again 4 version (number_bytes 4 principal ++ (number_bytes 8 client ++ (number_bytes 8 liveness ++ []))) fits.0, number_again 4 principal (number_bytes 8 client ++ (number_bytes 8 liveness ++ [])) fits.1, number_again 8 client (number_bytes 8 liveness ++ []) fits.2, number_again 8 liveness ([]) fits.3) refl

reply_takes : (bytes : List ℕ) (x : Answer × List ℕ) → IsBytes bytes → reply_in bytes ≡ Ok x → Taken bytes 258 x
unfolding kind_number fields_bytes
reply_takes bytes x fits e =
    elim (bind_ok (number_at 8 bytes) (λ lost. Ok (answers.Reply lost.0, lost.1)) x e) [
      | step lost lost_is after_lost ↦
          let t_lost = number_takes 8 bytes lost fits lost_is in
          let made : Answer × List ℕ = (answers.Reply lost.0, lost.1) in
          let found : Taken bytes 258 made = record { kind_is = refl; parts = t_lost.0.parts; fits = t_lost.1; tail = record {} } in
          subst (λ (y : Answer × List ℕ). Taken bytes 258 y) (ok_is made x after_lost) found
    ]

reply_again : (lost : ℕ) (tail : List ℕ) → IsAnswer (answers.Reply lost) → reply_in (fields_bytes (answers.Reply lost) ++ tail) ≡ Ok ((answers.Reply lost), tail)
unfolding fields_bytes
reply_again lost tail fits =
    let regrouped : fields_bytes (answers.Reply lost) ++ tail ≡ number_bytes 8 lost ++ tail = refl in
    ap reply_in regrouped ∙ rw (number_again 8 lost (tail) fits) refl

taken_takes : (bytes : List ℕ) (x : Answer × List ℕ) → IsBytes bytes → taken_in bytes ≡ Ok x → Taken bytes 259 x
unfolding kind_number fields_bytes
taken_takes bytes x fits e =
    elim (bind_ok (number_at 8 bytes) (λ position. ended (answers.Taken position.0, []) position.1) x e) [
      | step position position_is after_position ↦
          let t_position = number_takes 8 bytes position fits position_is in
          let made : Answer × List ℕ = (answers.Taken position.0, []) in
          let last = ended_takes made x position.1 after_position in
          let all : bytes ≡ (number_bytes 8 position.0) ++ [] = t_position.0.parts ∙ ap (λ (rest : List ℕ). (number_bytes 8 position.0) ++ rest) last.1 in
          let found : Taken bytes 259 made = record { kind_is = refl; parts = all; fits = t_position.1; tail = refl } in
          subst (λ (y : Answer × List ℕ). Taken bytes 259 y) last.0 found
    ]

taken_again : (position : ℕ) → IsAnswer (answers.Taken position) → taken_in (fields_bytes (answers.Taken position) ++ []) ≡ Ok ((answers.Taken position), [])
unfolding fields_bytes
taken_again position fits =
    let regrouped : fields_bytes (answers.Taken position) ++ [] ≡ number_bytes 8 position ++ [] = refl in
    ap taken_in regrouped ∙ rw (number_again 8 position ([]) fits) refl

refused_takes : (bytes : List ℕ) (x : Answer × List ℕ) → IsBytes bytes → refused_in bytes ≡ Ok x → Taken bytes 260 x
unfolding kind_number fields_bytes
refused_takes bytes x fits e =
    elim (bind_ok (signed_at w32 4 bytes) (λ code. Ok (answers.Refused code.0, code.1)) x e) [
      | step code code_is after_code ↦
          let t_code = signed32_takes bytes code fits code_is in
          let made : Answer × List ℕ = (answers.Refused code.0, code.1) in
          let found : Taken bytes 260 made = record { kind_is = refl; parts = t_code.0.parts; fits = t_code.1; tail = record {} } in
          subst (λ (y : Answer × List ℕ). Taken bytes 260 y) (ok_is made x after_code) found
    ]

refused_again : (code : ℤ) (tail : List ℕ) → IsAnswer (answers.Refused code) → refused_in (fields_bytes (answers.Refused code) ++ tail) ≡ Ok ((answers.Refused code), tail)
unfolding fields_bytes
refused_again code tail fits =
    let regrouped : fields_bytes (answers.Refused code) ++ tail ≡ signed_bytes w32 4 code ++ tail = refl in
    ap refused_in regrouped ∙ rw (signed32_again code (tail) fits) refl

fragment_takes : (bytes : List ℕ) (x : Answer × List ℕ) → IsBytes bytes → fragment_in bytes ≡ Ok x → Taken bytes 261 x
unfolding kind_number fields_bytes
fragment_takes bytes x fits e =
    elim (bind_ok (number_at 8 bytes) (λ position. number_at 4 position.1 >>= λ flags. Ok (answers.Fragment position.0 flags.0, flags.1)) x e) [
      | step position position_is after_position ↦
          let t_position = number_takes 8 bytes position fits position_is in
          elim (bind_ok (number_at 4 position.1) (λ flags. Ok (answers.Fragment position.0 flags.0, flags.1)) x after_position) [
            | step flags flags_is after_flags ↦
                let t_flags = number_takes 4 position.1 flags t_position.0.rest_fits flags_is in
                let made : Answer × List ℕ = (answers.Fragment position.0 flags.0, flags.1) in
                let w_flags = Takes-then bytes (number_bytes 8 position.0) position.1 (number_bytes 4 flags.0) flags.1 t_position.0 t_flags.0 in
                let found : Taken bytes 261 made = record { kind_is = refl; parts = w_flags.parts; fits = (t_position.1, t_flags.1); tail = record {} } in
                subst (λ (y : Answer × List ℕ). Taken bytes 261 y) (ok_is made x after_flags) found
          ]
    ]

fragment_again : (position : ℕ) (flags : ℕ) (tail : List ℕ) → IsAnswer (answers.Fragment position flags) → fragment_in (fields_bytes (answers.Fragment position flags) ++ tail) ≡ Ok ((answers.Fragment position flags), tail)
unfolding fields_bytes
fragment_again position flags tail fits =
    let regrouped : fields_bytes (answers.Fragment position flags) ++ tail ≡ number_bytes 8 position ++ (number_bytes 4 flags ++ tail) = append_assoc (number_bytes 8 position) (number_bytes 4 flags) (tail) in
    ap fragment_in regrouped ∙ rw (number_again 8 position (number_bytes 4 flags ++ tail) fits.0, number_again 4 flags (tail) fits.1) refl

done_takes : (bytes : List ℕ) (x : Answer × List ℕ) → IsBytes bytes → done_in bytes ≡ Ok x → Taken bytes 262 x
unfolding kind_number fields_bytes
done_takes bytes x fits e =
    elim (bind_ok (number_at 4 bytes) (λ count. ended (answers.Done count.0, []) count.1) x e) [
      | step count count_is after_count ↦
          let t_count = number_takes 4 bytes count fits count_is in
          let made : Answer × List ℕ = (answers.Done count.0, []) in
          let last = ended_takes made x count.1 after_count in
          let all : bytes ≡ (number_bytes 4 count.0) ++ [] = t_count.0.parts ∙ ap (λ (rest : List ℕ). (number_bytes 4 count.0) ++ rest) last.1 in
          let found : Taken bytes 262 made = record { kind_is = refl; parts = all; fits = t_count.1; tail = refl } in
          subst (λ (y : Answer × List ℕ). Taken bytes 262 y) last.0 found
    ]

done_again : (count : ℕ) → IsAnswer (answers.Done count) → done_in (fields_bytes (answers.Done count) ++ []) ≡ Ok ((answers.Done count), [])
unfolding fields_bytes
done_again count fits =
    let regrouped : fields_bytes (answers.Done count) ++ [] ≡ number_bytes 4 count ++ [] = refl in
    ap done_in regrouped ∙ rw (number_again 4 count ([]) fits) refl

row_takes : (bytes : List ℕ) (x : Answer × List ℕ) → IsBytes bytes → row_in bytes ≡ Ok x → Taken bytes 263 x
unfolding kind_number fields_bytes
row_takes bytes x fits e =
    elim (bind_ok (number_at 8 bytes) (λ number. signed_at w32 4 number.1 >>= λ type_id. signed_at w64 8 type_id.1 >>= λ value. Ok (answers.Row number.0 type_id.0 value.0, value.1)) x e) [
      | step number number_is after_number ↦
          let t_number = number_takes 8 bytes number fits number_is in
          elim (bind_ok (signed_at w32 4 number.1) (λ type_id. signed_at w64 8 type_id.1 >>= λ value. Ok (answers.Row number.0 type_id.0 value.0, value.1)) x after_number) [
            | step type_id type_id_is after_type_id ↦
                let t_type_id = signed32_takes number.1 type_id t_number.0.rest_fits type_id_is in
                elim (bind_ok (signed_at w64 8 type_id.1) (λ value. Ok (answers.Row number.0 type_id.0 value.0, value.1)) x after_type_id) [
                  | step value value_is after_value ↦
                      let t_value = signed64_takes type_id.1 value t_type_id.0.rest_fits value_is in
                      let made : Answer × List ℕ = (answers.Row number.0 type_id.0 value.0, value.1) in
                      let w_type_id = Takes-then bytes (number_bytes 8 number.0) number.1 (signed_bytes w32 4 type_id.0) type_id.1 t_number.0 t_type_id.0 in
                      let w_value = Takes-then bytes ((number_bytes 8 number.0) ++ signed_bytes w32 4 type_id.0) type_id.1 (signed_bytes w64 8 value.0) value.1 w_type_id t_value.0 in
                      let found : Taken bytes 263 made = record { kind_is = refl; parts = w_value.parts; fits = (t_number.1, t_type_id.1, t_value.1); tail = record {} } in
                      subst (λ (y : Answer × List ℕ). Taken bytes 263 y) (ok_is made x after_value) found
                ]
          ]
    ]

row_again : (number : ℕ) (type_id : ℤ) (value : ℤ) (tail : List ℕ) → IsAnswer (answers.Row number type_id value) → row_in (fields_bytes (answers.Row number type_id value) ++ tail) ≡ Ok ((answers.Row number type_id value), tail)
unfolding fields_bytes
row_again number type_id value tail fits =
    let regrouped : fields_bytes (answers.Row number type_id value) ++ tail ≡ number_bytes 8 number ++ (signed_bytes w32 4 type_id ++ (signed_bytes w64 8 value ++ tail)) = append_assoc (number_bytes 8 number ++ signed_bytes w32 4 type_id) (signed_bytes w64 8 value) (tail) ∙ append_assoc (number_bytes 8 number) (signed_bytes w32 4 type_id) (signed_bytes w64 8 value ++ tail) in
    ap row_in regrouped ∙ rw (number_again 8 number (signed_bytes w32 4 type_id ++ (signed_bytes w64 8 value ++ tail)) fits.0, signed32_again type_id (signed_bytes w64 8 value ++ tail) fits.1, signed64_again value (tail) fits.2) refl

value_takes : (bytes : List ℕ) (x : Answer × List ℕ) → IsBytes bytes → value_in bytes ≡ Ok x → Taken bytes 264 x
unfolding kind_number fields_bytes
value_takes bytes x fits e =
    elim (bind_ok (signed_at w64 8 bytes) (λ value. ended (answers.Value value.0, []) value.1) x e) [
      | step value value_is after_value ↦
          let t_value = signed64_takes bytes value fits value_is in
          let made : Answer × List ℕ = (answers.Value value.0, []) in
          let last = ended_takes made x value.1 after_value in
          let all : bytes ≡ (signed_bytes w64 8 value.0) ++ [] = t_value.0.parts ∙ ap (λ (rest : List ℕ). (signed_bytes w64 8 value.0) ++ rest) last.1 in
          let found : Taken bytes 264 made = record { kind_is = refl; parts = all; fits = t_value.1; tail = refl } in
          subst (λ (y : Answer × List ℕ). Taken bytes 264 y) last.0 found
    ]

value_again : (value : ℤ) → IsAnswer (answers.Value value) → value_in (fields_bytes (answers.Value value) ++ []) ≡ Ok ((answers.Value value), [])
unfolding fields_bytes
value_again value fits =
    let regrouped : fields_bytes (answers.Value value) ++ [] ≡ signed_bytes w64 8 value ++ [] = refl in
    ap value_in regrouped ∙ rw (signed64_again value ([]) fits) refl

bye_takes : (bytes : List ℕ) (x : Answer × List ℕ) → IsBytes bytes → bye_in bytes ≡ Ok x → Taken bytes 265 x
unfolding kind_number fields_bytes
bye_takes bytes x fits e =
    elim (bind_ok (signed_at w32 4 bytes) (λ code. Ok (answers.Bye code.0, code.1)) x e) [
      | step code code_is after_code ↦
          let t_code = signed32_takes bytes code fits code_is in
          let made : Answer × List ℕ = (answers.Bye code.0, code.1) in
          let found : Taken bytes 265 made = record { kind_is = refl; parts = t_code.0.parts; fits = t_code.1; tail = record {} } in
          subst (λ (y : Answer × List ℕ). Taken bytes 265 y) (ok_is made x after_code) found
    ]

bye_again : (code : ℤ) (tail : List ℕ) → IsAnswer (answers.Bye code) → bye_in (fields_bytes (answers.Bye code) ++ tail) ≡ Ok ((answers.Bye code), tail)
unfolding fields_bytes
bye_again code tail fits =
    let regrouped : fields_bytes (answers.Bye code) ++ tail ≡ signed_bytes w32 4 code ++ tail = refl in
    ap bye_in regrouped ∙ rw (signed32_again code (tail) fits) refl

line_takes : (bytes : List ℕ) (x : Answer × List ℕ) → IsBytes bytes → line_in bytes ≡ Ok x → Taken bytes 266 x
unfolding kind_number fields_bytes
line_takes bytes x fits e =
    let made : Answer × List ℕ = (answers.Line, bytes) in
    let found : Taken bytes 266 made = record { kind_is = refl; parts = refl; fits = record {}; tail = record {} } in
    subst (λ (y : Answer × List ℕ). Taken bytes 266 y) (ok_is made x e) found

line_again : (tail : List ℕ) → line_in (fields_bytes answers.Line ++ tail) ≡ Ok (answers.Line, tail)
unfolding fields_bytes
line_again tail = refl

part_takes : (bytes : List ℕ) (x : Answer × List ℕ) → IsBytes bytes → part_in bytes ≡ Ok x → Taken bytes 267 x
unfolding kind_number fields_bytes
part_takes bytes x fits e =
    elim (bind_ok (number_at 4 bytes) (λ place. ended (answers.Part place.0, []) place.1) x e) [
      | step place place_is after_place ↦
          let t_place = number_takes 4 bytes place fits place_is in
          let made : Answer × List ℕ = (answers.Part place.0, []) in
          let last = ended_takes made x place.1 after_place in
          let all : bytes ≡ (number_bytes 4 place.0) ++ [] = t_place.0.parts ∙ ap (λ (rest : List ℕ). (number_bytes 4 place.0) ++ rest) last.1 in
          let found : Taken bytes 267 made = record { kind_is = refl; parts = all; fits = t_place.1; tail = refl } in
          subst (λ (y : Answer × List ℕ). Taken bytes 267 y) last.0 found
    ]

part_again : (place : ℕ) → IsAnswer (answers.Part place) → part_in (fields_bytes (answers.Part place) ++ []) ≡ Ok ((answers.Part place), [])
unfolding fields_bytes
part_again place fits =
    let regrouped : fields_bytes (answers.Part place) ++ [] ≡ number_bytes 4 place ++ [] = refl in
    ap part_in regrouped ∙ rw (number_again 4 place ([]) fits) refl

part_refused_takes : (bytes : List ℕ) (x : Answer × List ℕ) → IsBytes bytes → part_refused_in bytes ≡ Ok x → Taken bytes 268 x
unfolding kind_number fields_bytes
part_refused_takes bytes x fits e =
    elim (bind_ok (signed_at w32 4 bytes) (λ code. Ok (answers.PartRefused code.0, code.1)) x e) [
      | step code code_is after_code ↦
          let t_code = signed32_takes bytes code fits code_is in
          let made : Answer × List ℕ = (answers.PartRefused code.0, code.1) in
          let found : Taken bytes 268 made = record { kind_is = refl; parts = t_code.0.parts; fits = t_code.1; tail = record {} } in
          subst (λ (y : Answer × List ℕ). Taken bytes 268 y) (ok_is made x after_code) found
    ]

part_refused_again : (code : ℤ) (tail : List ℕ) → IsAnswer (answers.PartRefused code) → part_refused_in (fields_bytes (answers.PartRefused code) ++ tail) ≡ Ok ((answers.PartRefused code), tail)
unfolding fields_bytes
part_refused_again code tail fits =
    let regrouped : fields_bytes (answers.PartRefused code) ++ tail ≡ signed_bytes w32 4 code ++ tail = refl in
    ap part_refused_in regrouped ∙ rw (signed32_again code (tail) fits) refl

-- ---- the kind

abbrev none : Result (Answer × List ℕ) RecordFault
none = Err Unknown

unknown_is_none : (x : Answer × List ℕ) → none ≡ Ok x → ⊥
unknown_is_none x e = cc

kind_takes : (kind : ℕ) (bytes : List ℕ) (x : Answer × List ℕ) → IsBytes bytes → answer_in kind bytes ≡ Ok x → Taken bytes kind x
unfolding answer_in
kind_takes kind bytes x fits e =
    elim (chosen (eqb kind 257) (welcome_in bytes) (cond (eqb kind 258) (reply_in bytes) (cond (eqb kind 259) (taken_in bytes) (cond (eqb kind 260) (refused_in bytes) (cond (eqb kind 261) (fragment_in bytes) (cond (eqb kind 262) (done_in bytes) (cond (eqb kind 263) (row_in bytes) (cond (eqb kind 264) (value_in bytes) (cond (eqb kind 265) (bye_in bytes) (cond (eqb kind 266) (line_in bytes) (cond (eqb kind 267) (part_in bytes) (cond (eqb kind 268) (part_refused_in bytes) (cond (eqb kind 269) (publication_positions_in bytes) (cond (eqb kind 270) (image_positions_in bytes) (Err Unknown)))))))))))))) x e) [
      | inl here ↦ subst (λ (k : ℕ). Taken bytes k x) (sym (eqb-true kind 257 here.0)) (welcome_takes bytes x fits here.1)
      | inr later0 ↦
          elim (chosen (eqb kind 258) (reply_in bytes) (cond (eqb kind 259) (taken_in bytes) (cond (eqb kind 260) (refused_in bytes) (cond (eqb kind 261) (fragment_in bytes) (cond (eqb kind 262) (done_in bytes) (cond (eqb kind 263) (row_in bytes) (cond (eqb kind 264) (value_in bytes) (cond (eqb kind 265) (bye_in bytes) (cond (eqb kind 266) (line_in bytes) (cond (eqb kind 267) (part_in bytes) (cond (eqb kind 268) (part_refused_in bytes) (cond (eqb kind 269) (publication_positions_in bytes) (cond (eqb kind 270) (image_positions_in bytes) (Err Unknown))))))))))))) x later0.1) [
            | inl here ↦ subst (λ (k : ℕ). Taken bytes k x) (sym (eqb-true kind 258 here.0)) (reply_takes bytes x fits here.1)
            | inr later1 ↦
                elim (chosen (eqb kind 259) (taken_in bytes) (cond (eqb kind 260) (refused_in bytes) (cond (eqb kind 261) (fragment_in bytes) (cond (eqb kind 262) (done_in bytes) (cond (eqb kind 263) (row_in bytes) (cond (eqb kind 264) (value_in bytes) (cond (eqb kind 265) (bye_in bytes) (cond (eqb kind 266) (line_in bytes) (cond (eqb kind 267) (part_in bytes) (cond (eqb kind 268) (part_refused_in bytes) (cond (eqb kind 269) (publication_positions_in bytes) (cond (eqb kind 270) (image_positions_in bytes) (Err Unknown)))))))))))) x later1.1) [
                  | inl here ↦ subst (λ (k : ℕ). Taken bytes k x) (sym (eqb-true kind 259 here.0)) (taken_takes bytes x fits here.1)
                  | inr later2 ↦
                      elim (chosen (eqb kind 260) (refused_in bytes) (cond (eqb kind 261) (fragment_in bytes) (cond (eqb kind 262) (done_in bytes) (cond (eqb kind 263) (row_in bytes) (cond (eqb kind 264) (value_in bytes) (cond (eqb kind 265) (bye_in bytes) (cond (eqb kind 266) (line_in bytes) (cond (eqb kind 267) (part_in bytes) (cond (eqb kind 268) (part_refused_in bytes) (cond (eqb kind 269) (publication_positions_in bytes) (cond (eqb kind 270) (image_positions_in bytes) (Err Unknown))))))))))) x later2.1) [
                        | inl here ↦ subst (λ (k : ℕ). Taken bytes k x) (sym (eqb-true kind 260 here.0)) (refused_takes bytes x fits here.1)
                        | inr later3 ↦
                            elim (chosen (eqb kind 261) (fragment_in bytes) (cond (eqb kind 262) (done_in bytes) (cond (eqb kind 263) (row_in bytes) (cond (eqb kind 264) (value_in bytes) (cond (eqb kind 265) (bye_in bytes) (cond (eqb kind 266) (line_in bytes) (cond (eqb kind 267) (part_in bytes) (cond (eqb kind 268) (part_refused_in bytes) (cond (eqb kind 269) (publication_positions_in bytes) (cond (eqb kind 270) (image_positions_in bytes) (Err Unknown)))))))))) x later3.1) [
                              | inl here ↦ subst (λ (k : ℕ). Taken bytes k x) (sym (eqb-true kind 261 here.0)) (fragment_takes bytes x fits here.1)
                              | inr later4 ↦
                                  elim (chosen (eqb kind 262) (done_in bytes) (cond (eqb kind 263) (row_in bytes) (cond (eqb kind 264) (value_in bytes) (cond (eqb kind 265) (bye_in bytes) (cond (eqb kind 266) (line_in bytes) (cond (eqb kind 267) (part_in bytes) (cond (eqb kind 268) (part_refused_in bytes) (cond (eqb kind 269) (publication_positions_in bytes) (cond (eqb kind 270) (image_positions_in bytes) (Err Unknown))))))))) x later4.1) [
                                    | inl here ↦ subst (λ (k : ℕ). Taken bytes k x) (sym (eqb-true kind 262 here.0)) (done_takes bytes x fits here.1)
                                    | inr later5 ↦
                                        elim (chosen (eqb kind 263) (row_in bytes) (cond (eqb kind 264) (value_in bytes) (cond (eqb kind 265) (bye_in bytes) (cond (eqb kind 266) (line_in bytes) (cond (eqb kind 267) (part_in bytes) (cond (eqb kind 268) (part_refused_in bytes) (cond (eqb kind 269) (publication_positions_in bytes) (cond (eqb kind 270) (image_positions_in bytes) (Err Unknown)))))))) x later5.1) [
                                          | inl here ↦ subst (λ (k : ℕ). Taken bytes k x) (sym (eqb-true kind 263 here.0)) (row_takes bytes x fits here.1)
                                          | inr later6 ↦
                                              elim (chosen (eqb kind 264) (value_in bytes) (cond (eqb kind 265) (bye_in bytes) (cond (eqb kind 266) (line_in bytes) (cond (eqb kind 267) (part_in bytes) (cond (eqb kind 268) (part_refused_in bytes) (cond (eqb kind 269) (publication_positions_in bytes) (cond (eqb kind 270) (image_positions_in bytes) (Err Unknown))))))) x later6.1) [
                                                | inl here ↦ subst (λ (k : ℕ). Taken bytes k x) (sym (eqb-true kind 264 here.0)) (value_takes bytes x fits here.1)
                                                | inr later7 ↦
                                                    elim (chosen (eqb kind 265) (bye_in bytes) (cond (eqb kind 266) (line_in bytes) (cond (eqb kind 267) (part_in bytes) (cond (eqb kind 268) (part_refused_in bytes) (cond (eqb kind 269) (publication_positions_in bytes) (cond (eqb kind 270) (image_positions_in bytes) (Err Unknown)))))) x later7.1) [
                                                      | inl here ↦ subst (λ (k : ℕ). Taken bytes k x) (sym (eqb-true kind 265 here.0)) (bye_takes bytes x fits here.1)
                                                      | inr later8 ↦
                                                          elim (chosen (eqb kind 266) (line_in bytes) (cond (eqb kind 267) (part_in bytes) (cond (eqb kind 268) (part_refused_in bytes) (cond (eqb kind 269) (publication_positions_in bytes) (cond (eqb kind 270) (image_positions_in bytes) (Err Unknown))))) x later8.1) [
                                                            | inl here ↦ subst (λ (k : ℕ). Taken bytes k x) (sym (eqb-true kind 266 here.0)) (line_takes bytes x fits here.1)
                                                            | inr later9 ↦
                                                                elim (chosen (eqb kind 267) (part_in bytes) (cond (eqb kind 268) (part_refused_in bytes) (cond (eqb kind 269) (publication_positions_in bytes) (cond (eqb kind 270) (image_positions_in bytes) (Err Unknown)))) x later9.1) [
                                                                  | inl here ↦ subst (λ (k : ℕ). Taken bytes k x) (sym (eqb-true kind 267 here.0)) (part_takes bytes x fits here.1)
                                                                  | inr later10 ↦
                                                                      elim (chosen (eqb kind 268) (part_refused_in bytes) (cond (eqb kind 269) (publication_positions_in bytes) (cond (eqb kind 270) (image_positions_in bytes) (Err Unknown))) x later10.1) [
                                                                        | inl here ↦ subst (λ (k : ℕ). Taken bytes k x) (sym (eqb-true kind 268 here.0)) (part_refused_takes bytes x fits here.1)
                                                                        | inr later11 ↦
                                                                            elim (chosen (eqb kind 269) (publication_positions_in bytes) (cond (eqb kind 270) (image_positions_in bytes) (Err Unknown)) x later11.1) [
                                                                              | inl here ↦ subst (λ (k : ℕ). Taken bytes k x) (sym (eqb-true kind 269 here.0)) (publication_positions_takes bytes x fits here.1)
                                                                              | inr later12 ↦
                                                                                  elim (chosen (eqb kind 270) (image_positions_in bytes) (Err Unknown) x later12.1) [
                                                                                    | inl here ↦ subst (λ (k : ℕ). Taken bytes k x) (sym (eqb-true kind 270 here.0)) (image_positions_takes bytes x fits here.1)
                                                                                    | inr later13 ↦
                                                                                        absurd (unknown_is_none x later13.1)
                                                                                  ]
                                                                            ]
                                                                      ]
                                                                ]
                                                          ]
                                                    ]
                                              ]
                                        ]
                                  ]
                            ]
                      ]
                ]
          ]
    ]

kind_again : (x : Answer) (tail : List ℕ) → IsAnswer x → IsTail x tail → answer_in (kind_number x) (fields_bytes x ++ tail) ≡ Ok (x, tail)
unfolding answer_in kind_number
kind_again (answers.Welcome version principal client liveness) tail fits ok = rw ok (welcome_again version principal client liveness fits)
kind_again (answers.Reply lost) tail fits ok = reply_again lost tail fits
kind_again (answers.Taken position) tail fits ok = rw ok (taken_again position fits)
kind_again (answers.Refused code) tail fits ok = refused_again code tail fits
kind_again (answers.Fragment position flags) tail fits ok = fragment_again position flags tail fits
kind_again (answers.Done count) tail fits ok = rw ok (done_again count fits)
kind_again (answers.Row number type_id value) tail fits ok = row_again number type_id value tail fits
kind_again (answers.Value value) tail fits ok = rw ok (value_again value fits)
kind_again (answers.Bye code) tail fits ok = bye_again code tail fits
kind_again answers.Line tail fits ok = line_again tail
kind_again (answers.Part place) tail fits ok = rw ok (part_again place fits)
kind_again (answers.PartRefused code) tail fits ok = part_refused_again code tail fits
kind_again (answers.PublicationPositions position limit sent consumed flags) tail fits ok = rw ok (publication_positions_again position limit sent consumed flags fits)
kind_again (answers.ImagePositions joined position received) tail fits ok = rw ok (image_positions_again joined position received fits)

kind_fits : (x : Answer) → kind_number x < 256 ^ 4
unfolding kind_number
kind_fits (answers.Welcome version principal client liveness) = omega arith
kind_fits (answers.Reply lost) = omega arith
kind_fits (answers.Taken position) = omega arith
kind_fits (answers.Refused code) = omega arith
kind_fits (answers.Fragment position flags) = omega arith
kind_fits (answers.Done count) = omega arith
kind_fits (answers.Row number type_id value) = omega arith
kind_fits (answers.Value value) = omega arith
kind_fits (answers.Bye code) = omega arith
kind_fits answers.Line = omega arith
kind_fits (answers.Part place) = omega arith
kind_fits (answers.PartRefused code) = omega arith
kind_fits (answers.PublicationPositions position limit sent consumed flags) = omega arith
kind_fits (answers.ImagePositions joined position received) = omega arith

-- ---- the whole

pub record Spelt (bytes : List ℕ) (x : Answer × List ℕ) : Type 0 where
  pub spelt : answer_body x.0 x.1 ≡ bytes
  pub fits : IsAnswer x.0
  pub tail : IsTail x.0 x.1

pub answer_takes : (bytes : List ℕ) (x : Answer × List ℕ) → IsBytes bytes → answer_of bytes ≡ Ok x → Spelt bytes x
unfolding answer_of answer_body
answer_takes bytes x fits e =
    elim (bind_ok (number_at 4 bytes) (λ kind. answer_in kind.0 kind.1) x e) [
      | step kind kind_is after ↦
          let t = number_takes 4 bytes kind fits kind_is in
          let taken = kind_takes kind.0 kind.1 x t.0.rest_fits after in
          let whole : bytes ≡ number_bytes 4 (kind_number x.0) ++ (fields_bytes x.0 ++ x.1) =
          t.0.parts ∙ ap (λ (k : ℕ). number_bytes 4 k ++ kind.1) taken.kind_is ∙ ap (λ (rest : List ℕ). number_bytes 4 (kind_number x.0) ++ rest) taken.parts in
          record { spelt = sym whole; fits = taken.fits; tail = taken.tail }
    ]

pub answer_again : (x : Answer) (tail : List ℕ) → IsAnswer x → IsTail x tail → answer_of (answer_body x tail) ≡ Ok (x, tail)
unfolding answer_of answer_body
answer_again x tail fits ok = rw (number_again 4 (kind_number x) (fields_bytes x ++ tail) (kind_fits x), kind_again x tail fits ok) refl
