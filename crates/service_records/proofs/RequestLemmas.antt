-- Requests are read as they were written, and written as they were read.
use Rattle.std.proofs.Common.{◌≡◌, ℕ, ◌^◌, ◌<◌, cond, eqb, List, [], ◌++◌, Result, Ok, Err, refl, sym, ap, subst, ◌∙◌, append_assoc, arith, inl, inr}
use Rattle.std.proofs.lemmas.Bool.{eqb-true}
use Rattle.service_records.specs.declared.fault.RecordFault.{RecordFault}
use Rattle.service_records.specs.declared.fault.RecordFault.TheVariants.{Unknown}
use Rattle.service_records.specs.declared.request.Request.{Request}
use Rattle.service_records.specs.declared.request.Request.TheVariants as requests
use Rattle.service_records.specs.Gives.{◌>>=◌}
use Rattle.service_records.specs.Fields.{number_at, ended, paired, number_bytes, IsBytes}
use Rattle.service_records.specs.Request.{command_in, offer_in, poll_in, mail_in, list_in, value_in, stop_in, reload_in, status_in, poll_all_in, publication_positions_in, image_positions_in, decisions_in, request_in, request_of, kind_number, fields_bytes, request_body, IsRequest, IsTail}
use Rattle.service_records.proofs.FieldLemmas.{bind_ok, step, ok_is, chosen, Takes-then, number_takes, number_again, ended_takes, paired_takes, paired_again}

-- what was read after a kind is what was written, and can be written
pub record Taken (bytes : List ℕ) (kind : ℕ) (x : Request × List ℕ) : Type 0 where
  pub kind_is : kind ≡ kind_number x.0
  pub parts : bytes ≡ fields_bytes x.0 ++ x.1
  pub fits : IsRequest x.0
  pub tail : IsTail x.0 x.1

command_takes : (bytes : List ℕ) (x : Request × List ℕ) → IsBytes bytes → command_in bytes ≡ Ok x → Taken bytes 1 x
unfolding kind_number fields_bytes
command_takes bytes x fits e =
    let made : Request × List ℕ = (requests.Command, bytes) in
    let found : Taken bytes 1 made = record { kind_is = refl; parts = refl; fits = record {}; tail = record {} } in
    subst (λ (y : Request × List ℕ). Taken bytes 1 y) (ok_is made x e) found

command_again : (tail : List ℕ) → command_in (fields_bytes requests.Command ++ tail) ≡ Ok (requests.Command, tail)
unfolding fields_bytes
command_again tail = refl

offer_takes : (bytes : List ℕ) (x : Request × List ℕ) → IsBytes bytes → offer_in bytes ≡ Ok x → Taken bytes 2 x
unfolding kind_number fields_bytes
offer_takes bytes x fits e =
    elim (bind_ok (number_at 4 bytes) (λ seen. number_at 4 seen.1 >>= λ wait. number_at 8 wait.1 >>= λ registration. Ok (requests.Offer seen.0 wait.0 registration.0, registration.1)) x e) [
      | step seen seen_is after_seen ↦
          let t_seen = number_takes 4 bytes seen fits seen_is in
          elim (bind_ok (number_at 4 seen.1) (λ wait. number_at 8 wait.1 >>= λ registration. Ok (requests.Offer seen.0 wait.0 registration.0, registration.1)) x after_seen) [
            | step wait wait_is after_wait ↦
                let t_wait = number_takes 4 seen.1 wait t_seen.0.rest_fits wait_is in
                elim (bind_ok (number_at 8 wait.1) (λ registration. Ok (requests.Offer seen.0 wait.0 registration.0, registration.1)) x after_wait) [
                  | step registration registration_is after_registration ↦
                      let t_registration = number_takes 8 wait.1 registration t_wait.0.rest_fits registration_is in
                      let made : Request × List ℕ = (requests.Offer seen.0 wait.0 registration.0, registration.1) in
                      let w_wait = Takes-then bytes (number_bytes 4 seen.0) seen.1 (number_bytes 4 wait.0) wait.1 t_seen.0 t_wait.0 in
                      let w_registration = Takes-then bytes ((number_bytes 4 seen.0) ++ number_bytes 4 wait.0) wait.1 (number_bytes 8 registration.0) registration.1 w_wait t_registration.0 in
                      let found : Taken bytes 2 made = record { kind_is = refl; parts = w_registration.parts; fits = (t_seen.1, t_wait.1, t_registration.1); tail = record {} } in
                      subst (λ (y : Request × List ℕ). Taken bytes 2 y) (ok_is made x after_registration) found
                ]
          ]
    ]

offer_again : (seen : ℕ) (wait : ℕ) (registration : ℕ) (tail : List ℕ) → IsRequest (requests.Offer seen wait registration) → offer_in (fields_bytes (requests.Offer seen wait registration) ++ tail) ≡ Ok ((requests.Offer seen wait registration), tail)
unfolding fields_bytes
offer_again seen wait registration tail fits =
    let regrouped : fields_bytes (requests.Offer seen wait registration) ++ tail ≡ number_bytes 4 seen ++ (number_bytes 4 wait ++ (number_bytes 8 registration ++ tail)) = append_assoc (number_bytes 4 seen ++ number_bytes 4 wait) (number_bytes 8 registration) (tail) ∙ append_assoc (number_bytes 4 seen) (number_bytes 4 wait) (number_bytes 8 registration ++ tail) in
    ap offer_in regrouped ∙ rw (number_again 4 seen (number_bytes 4 wait ++ (number_bytes 8 registration ++ tail)) fits.0, number_again 4 wait (number_bytes 8 registration ++ tail) fits.1, number_again 8 registration (tail) fits.2) refl

poll_takes : (bytes : List ℕ) (x : Request × List ℕ) → IsBytes bytes → poll_in bytes ≡ Ok x → Taken bytes 3 x
unfolding kind_number fields_bytes
poll_takes bytes x fits e =
    elim (bind_ok (number_at 4 bytes) (λ limit. number_at 4 limit.1 >>= λ wait. number_at 8 wait.1 >>= λ subscription. number_at 8 subscription.1 >>= λ source. ended (requests.Poll limit.0 wait.0 subscription.0 source.0, []) source.1) x e) [
      | step limit limit_is after_limit ↦
          let t_limit = number_takes 4 bytes limit fits limit_is in
          elim (bind_ok (number_at 4 limit.1) (λ wait. number_at 8 wait.1 >>= λ subscription. number_at 8 subscription.1 >>= λ source. ended (requests.Poll limit.0 wait.0 subscription.0 source.0, []) source.1) x after_limit) [
            | step wait wait_is after_wait ↦
                let t_wait = number_takes 4 limit.1 wait t_limit.0.rest_fits wait_is in
                elim (bind_ok (number_at 8 wait.1) (λ subscription. number_at 8 subscription.1 >>= λ source. ended (requests.Poll limit.0 wait.0 subscription.0 source.0, []) source.1) x after_wait) [
                  | step subscription subscription_is after_subscription ↦
                      let t_subscription = number_takes 8 wait.1 subscription t_wait.0.rest_fits subscription_is in
                      elim (bind_ok (number_at 8 subscription.1) (λ source. ended (requests.Poll limit.0 wait.0 subscription.0 source.0, []) source.1) x after_subscription) [
                        | step source source_is after_source ↦
                            let t_source = number_takes 8 subscription.1 source t_subscription.0.rest_fits source_is in
                            let made : Request × List ℕ = (requests.Poll limit.0 wait.0 subscription.0 source.0, []) in
                            let w_wait = Takes-then bytes (number_bytes 4 limit.0) limit.1 (number_bytes 4 wait.0) wait.1 t_limit.0 t_wait.0 in
                            let w_subscription = Takes-then bytes ((number_bytes 4 limit.0) ++ number_bytes 4 wait.0) wait.1 (number_bytes 8 subscription.0) subscription.1 w_wait t_subscription.0 in
                            let w_source = Takes-then bytes (((number_bytes 4 limit.0) ++ number_bytes 4 wait.0) ++ number_bytes 8 subscription.0) subscription.1 (number_bytes 8 source.0) source.1 w_subscription t_source.0 in
                            let last = ended_takes made x source.1 after_source in
                            let all : bytes ≡ ((((number_bytes 4 limit.0) ++ number_bytes 4 wait.0) ++ number_bytes 8 subscription.0) ++ number_bytes 8 source.0) ++ [] = w_source.parts ∙ ap (λ (rest : List ℕ). ((((number_bytes 4 limit.0) ++ number_bytes 4 wait.0) ++ number_bytes 8 subscription.0) ++ number_bytes 8 source.0) ++ rest) last.1 in
                            let found : Taken bytes 3 made = record { kind_is = refl; parts = all; fits = (t_limit.1, t_wait.1, t_subscription.1, t_source.1); tail = refl } in
                            subst (λ (y : Request × List ℕ). Taken bytes 3 y) last.0 found
                      ]
                ]
          ]
    ]

poll_again : (limit : ℕ) (wait : ℕ) (subscription : ℕ) (source : ℕ) → IsRequest (requests.Poll limit wait subscription source) → poll_in (fields_bytes (requests.Poll limit wait subscription source) ++ []) ≡ Ok ((requests.Poll limit wait subscription source), [])
unfolding fields_bytes
poll_again limit wait subscription source fits =
    let regrouped : fields_bytes (requests.Poll limit wait subscription source) ++ [] ≡ number_bytes 4 limit ++ (number_bytes 4 wait ++ (number_bytes 8 subscription ++ (number_bytes 8 source ++ []))) = append_assoc (number_bytes 4 limit ++ number_bytes 4 wait ++ number_bytes 8 subscription) (number_bytes 8 source) ([]) ∙ append_assoc (number_bytes 4 limit ++ number_bytes 4 wait) (number_bytes 8 subscription) (number_bytes 8 source ++ []) ∙ append_assoc (number_bytes 4 limit) (number_bytes 4 wait) (number_bytes 8 subscription ++ (number_bytes 8 source ++ [])) in
    ap poll_in regrouped ∙ rw (number_again 4 limit (number_bytes 4 wait ++ (number_bytes 8 subscription ++ (number_bytes 8 source ++ []))) fits.0, number_again 4 wait (number_bytes 8 subscription ++ (number_bytes 8 source ++ [])) fits.1, number_again 8 subscription (number_bytes 8 source ++ []) fits.2, number_again 8 source ([]) fits.3) refl

mail_takes : (bytes : List ℕ) (x : Request × List ℕ) → IsBytes bytes → mail_in bytes ≡ Ok x → Taken bytes 4 x
unfolding kind_number fields_bytes
mail_takes bytes x fits e =
    elim (bind_ok (number_at 4 bytes) (λ wait. ended (requests.Mail wait.0, []) wait.1) x e) [
      | step wait wait_is after_wait ↦
          let t_wait = number_takes 4 bytes wait fits wait_is in
          let made : Request × List ℕ = (requests.Mail wait.0, []) in
          let last = ended_takes made x wait.1 after_wait in
          let all : bytes ≡ (number_bytes 4 wait.0) ++ [] = t_wait.0.parts ∙ ap (λ (rest : List ℕ). (number_bytes 4 wait.0) ++ rest) last.1 in
          let found : Taken bytes 4 made = record { kind_is = refl; parts = all; fits = t_wait.1; tail = refl } in
          subst (λ (y : Request × List ℕ). Taken bytes 4 y) last.0 found
    ]

mail_again : (wait : ℕ) → IsRequest (requests.Mail wait) → mail_in (fields_bytes (requests.Mail wait) ++ []) ≡ Ok ((requests.Mail wait), [])
unfolding fields_bytes
mail_again wait fits =
    let regrouped : fields_bytes (requests.Mail wait) ++ [] ≡ number_bytes 4 wait ++ [] = refl in
    ap mail_in regrouped ∙ rw (number_again 4 wait ([]) fits) refl

list_takes : (bytes : List ℕ) (x : Request × List ℕ) → IsBytes bytes → list_in bytes ≡ Ok x → Taken bytes 5 x
unfolding kind_number fields_bytes
list_takes bytes x fits e =
    let made : Request × List ℕ = (requests.List, []) in
    let last = ended_takes made x bytes e in
    let found : Taken bytes 5 made = record { kind_is = refl; parts = last.1; fits = record {}; tail = refl } in
    subst (λ (y : Request × List ℕ). Taken bytes 5 y) last.0 found

list_again : list_in (fields_bytes requests.List ++ []) ≡ Ok (requests.List, [])
unfolding fields_bytes
list_again = refl

value_takes : (bytes : List ℕ) (x : Request × List ℕ) → IsBytes bytes → value_in bytes ≡ Ok x → Taken bytes 6 x
unfolding kind_number fields_bytes
value_takes bytes x fits e =
    elim (bind_ok (number_at 8 bytes) (λ number. ended (requests.Value number.0, []) number.1) x e) [
      | step number number_is after_number ↦
          let t_number = number_takes 8 bytes number fits number_is in
          let made : Request × List ℕ = (requests.Value number.0, []) in
          let last = ended_takes made x number.1 after_number in
          let all : bytes ≡ (number_bytes 8 number.0) ++ [] = t_number.0.parts ∙ ap (λ (rest : List ℕ). (number_bytes 8 number.0) ++ rest) last.1 in
          let found : Taken bytes 6 made = record { kind_is = refl; parts = all; fits = t_number.1; tail = refl } in
          subst (λ (y : Request × List ℕ). Taken bytes 6 y) last.0 found
    ]

value_again : (number : ℕ) → IsRequest (requests.Value number) → value_in (fields_bytes (requests.Value number) ++ []) ≡ Ok ((requests.Value number), [])
unfolding fields_bytes
value_again number fits =
    let regrouped : fields_bytes (requests.Value number) ++ [] ≡ number_bytes 8 number ++ [] = refl in
    ap value_in regrouped ∙ rw (number_again 8 number ([]) fits) refl

stop_takes : (bytes : List ℕ) (x : Request × List ℕ) → IsBytes bytes → stop_in bytes ≡ Ok x → Taken bytes 7 x
unfolding kind_number fields_bytes
stop_takes bytes x fits e =
    let made : Request × List ℕ = (requests.Stop, []) in
    let last = ended_takes made x bytes e in
    let found : Taken bytes 7 made = record { kind_is = refl; parts = last.1; fits = record {}; tail = refl } in
    subst (λ (y : Request × List ℕ). Taken bytes 7 y) last.0 found

stop_again : stop_in (fields_bytes requests.Stop ++ []) ≡ Ok (requests.Stop, [])
unfolding fields_bytes
stop_again = refl

reload_takes : (bytes : List ℕ) (x : Request × List ℕ) → IsBytes bytes → reload_in bytes ≡ Ok x → Taken bytes 8 x
unfolding kind_number fields_bytes
reload_takes bytes x fits e =
    let made : Request × List ℕ = (requests.Reload, []) in
    let last = ended_takes made x bytes e in
    let found : Taken bytes 8 made = record { kind_is = refl; parts = last.1; fits = record {}; tail = refl } in
    subst (λ (y : Request × List ℕ). Taken bytes 8 y) last.0 found

reload_again : reload_in (fields_bytes requests.Reload ++ []) ≡ Ok (requests.Reload, [])
unfolding fields_bytes
reload_again = refl

status_takes : (bytes : List ℕ) (x : Request × List ℕ) → IsBytes bytes → status_in bytes ≡ Ok x → Taken bytes 9 x
unfolding kind_number fields_bytes
status_takes bytes x fits e =
    let made : Request × List ℕ = (requests.Status, []) in
    let last = ended_takes made x bytes e in
    let found : Taken bytes 9 made = record { kind_is = refl; parts = last.1; fits = record {}; tail = refl } in
    subst (λ (y : Request × List ℕ). Taken bytes 9 y) last.0 found

status_again : status_in (fields_bytes requests.Status ++ []) ≡ Ok (requests.Status, [])
unfolding fields_bytes
status_again = refl

poll_all_takes : (bytes : List ℕ) (x : Request × List ℕ) → IsBytes bytes → poll_all_in bytes ≡ Ok x → Taken bytes 10 x
unfolding kind_number fields_bytes
poll_all_takes bytes x fits e =
    elim (bind_ok (number_at 4 bytes) (λ limit. number_at 4 limit.1 >>= λ wait. paired (requests.PollAll limit.0 wait.0, wait.1) wait.1) x e) [
      | step limit limit_is after_limit ↦
          let t_limit = number_takes 4 bytes limit fits limit_is in
          elim (bind_ok (number_at 4 limit.1) (λ wait. paired (requests.PollAll limit.0 wait.0, wait.1) wait.1) x after_limit) [
            | step wait wait_is after_wait ↦
                let t_wait = number_takes 4 limit.1 wait t_limit.0.rest_fits wait_is in
                let made : Request × List ℕ = (requests.PollAll limit.0 wait.0, wait.1) in
                let w_wait = Takes-then bytes (number_bytes 4 limit.0) limit.1 (number_bytes 4 wait.0) wait.1 t_limit.0 t_wait.0 in
                let last = paired_takes made x wait.1 after_wait in
                let found : Taken bytes 10 made = record { kind_is = refl; parts = w_wait.parts; fits = (t_limit.1, t_wait.1); tail = (last.1, last.2) } in
                subst (λ (y : Request × List ℕ). Taken bytes 10 y) last.0 found
          ]
    ]

poll_all_again : (limit : ℕ) (wait : ℕ) (tail : List ℕ) → IsRequest (requests.PollAll limit wait) → IsTail (requests.PollAll limit wait) tail → poll_all_in (fields_bytes (requests.PollAll limit wait) ++ tail) ≡ Ok ((requests.PollAll limit wait), tail)
unfolding fields_bytes
poll_all_again limit wait tail fits ok =
    let regrouped : fields_bytes (requests.PollAll limit wait) ++ tail ≡ number_bytes 4 limit ++ (number_bytes 4 wait ++ tail) = append_assoc (number_bytes 4 limit) (number_bytes 4 wait) (tail) in
    let made : Request × List ℕ = (requests.PollAll limit wait, tail) in
    ap poll_all_in regrouped ∙ rw (number_again 4 limit (number_bytes 4 wait ++ tail) fits.0, number_again 4 wait tail fits.1) (paired_again made tail ok.0 ok.1)

publication_positions_takes : (bytes : List ℕ) (x : Request × List ℕ) → IsBytes bytes → publication_positions_in bytes ≡ Ok x → Taken bytes 11 x
unfolding kind_number fields_bytes
publication_positions_takes bytes x fits e =
    elim (bind_ok (number_at 8 bytes) (λ registration. ended (requests.PublicationPositions registration.0, []) registration.1) x e) [
      | step registration registration_is after_registration ↦
          let t_registration = number_takes 8 bytes registration fits registration_is in
          let made : Request × List ℕ = (requests.PublicationPositions registration.0, []) in
          let last = ended_takes made x registration.1 after_registration in
          let all : bytes ≡ (number_bytes 8 registration.0) ++ [] = t_registration.0.parts ∙ ap (λ (rest : List ℕ). (number_bytes 8 registration.0) ++ rest) last.1 in
          let found : Taken bytes 11 made = record { kind_is = refl; parts = all; fits = t_registration.1; tail = refl } in
          subst (λ (y : Request × List ℕ). Taken bytes 11 y) last.0 found
    ]

publication_positions_again : (registration : ℕ) → IsRequest (requests.PublicationPositions registration) → publication_positions_in (fields_bytes (requests.PublicationPositions registration) ++ []) ≡ Ok ((requests.PublicationPositions registration), [])
unfolding fields_bytes
publication_positions_again registration fits =
    let regrouped : fields_bytes (requests.PublicationPositions registration) ++ [] ≡ number_bytes 8 registration ++ [] = refl in
    ap publication_positions_in regrouped ∙ rw (number_again 8 registration ([]) fits) refl

image_positions_takes : (bytes : List ℕ) (x : Request × List ℕ) → IsBytes bytes → image_positions_in bytes ≡ Ok x → Taken bytes 12 x
unfolding kind_number fields_bytes
image_positions_takes bytes x fits e =
    elim (bind_ok (number_at 8 bytes) (λ subscription. number_at 8 subscription.1 >>= λ source. ended (requests.ImagePositions subscription.0 source.0, []) source.1) x e) [
      | step subscription subscription_is after_subscription ↦
          let t_subscription = number_takes 8 bytes subscription fits subscription_is in
          elim (bind_ok (number_at 8 subscription.1) (λ source. ended (requests.ImagePositions subscription.0 source.0, []) source.1) x after_subscription) [
            | step source source_is after_source ↦
                let t_source = number_takes 8 subscription.1 source t_subscription.0.rest_fits source_is in
                let made : Request × List ℕ = (requests.ImagePositions subscription.0 source.0, []) in
                let w_source = Takes-then bytes (number_bytes 8 subscription.0) subscription.1 (number_bytes 8 source.0) source.1 t_subscription.0 t_source.0 in
                let last = ended_takes made x source.1 after_source in
                let all : bytes ≡ ((number_bytes 8 subscription.0) ++ number_bytes 8 source.0) ++ [] = w_source.parts ∙ ap (λ (rest : List ℕ). ((number_bytes 8 subscription.0) ++ number_bytes 8 source.0) ++ rest) last.1 in
                let found : Taken bytes 12 made = record { kind_is = refl; parts = all; fits = (t_subscription.1, t_source.1); tail = refl } in
                subst (λ (y : Request × List ℕ). Taken bytes 12 y) last.0 found
          ]
    ]

image_positions_again : (subscription : ℕ) (source : ℕ) → IsRequest (requests.ImagePositions subscription source) → image_positions_in (fields_bytes (requests.ImagePositions subscription source) ++ []) ≡ Ok ((requests.ImagePositions subscription source), [])
unfolding fields_bytes
image_positions_again subscription source fits =
    let regrouped : fields_bytes (requests.ImagePositions subscription source) ++ [] ≡ number_bytes 8 subscription ++ (number_bytes 8 source ++ []) = append_assoc (number_bytes 8 subscription) (number_bytes 8 source) ([]) in
    ap image_positions_in regrouped ∙ rw (number_again 8 subscription (number_bytes 8 source ++ []) fits.0, number_again 8 source ([]) fits.1) refl

decisions_takes : (bytes : List ℕ) (x : Request × List ℕ) → IsBytes bytes → decisions_in bytes ≡ Ok x → Taken bytes 13 x
unfolding kind_number fields_bytes
decisions_takes bytes x fits e =
    elim (bind_ok (number_at 8 bytes) (λ from. number_at 4 from.1 >>= λ choice. ended (requests.Decisions from.0 choice.0, []) choice.1) x e) [
      | step from from_is after_from ↦
          let t_from = number_takes 8 bytes from fits from_is in
          elim (bind_ok (number_at 4 from.1) (λ choice. ended (requests.Decisions from.0 choice.0, []) choice.1) x after_from) [
            | step choice choice_is after_choice ↦
                let t_choice = number_takes 4 from.1 choice t_from.0.rest_fits choice_is in
                let made : Request × List ℕ = (requests.Decisions from.0 choice.0, []) in
                let w_choice = Takes-then bytes (number_bytes 8 from.0) from.1 (number_bytes 4 choice.0) choice.1 t_from.0 t_choice.0 in
                let last = ended_takes made x choice.1 after_choice in
                let all : bytes ≡ ((number_bytes 8 from.0) ++ number_bytes 4 choice.0) ++ [] = w_choice.parts ∙ ap (λ (rest : List ℕ). ((number_bytes 8 from.0) ++ number_bytes 4 choice.0) ++ rest) last.1 in
                let found : Taken bytes 13 made = record { kind_is = refl; parts = all; fits = (t_from.1, t_choice.1); tail = refl } in
                subst (λ (y : Request × List ℕ). Taken bytes 13 y) last.0 found
          ]
    ]

decisions_again : (from : ℕ) (choice : ℕ) → IsRequest (requests.Decisions from choice) → decisions_in (fields_bytes (requests.Decisions from choice) ++ []) ≡ Ok ((requests.Decisions from choice), [])
unfolding fields_bytes
decisions_again from choice fits =
    let regrouped : fields_bytes (requests.Decisions from choice) ++ [] ≡ number_bytes 8 from ++ (number_bytes 4 choice ++ []) = append_assoc (number_bytes 8 from) (number_bytes 4 choice) ([]) in
    ap decisions_in regrouped ∙ rw (number_again 8 from (number_bytes 4 choice ++ []) fits.0, number_again 4 choice ([]) fits.1) refl

-- ---- the kind

abbrev none : Result (Request × List ℕ) RecordFault
none = Err Unknown

unknown_is_none : (x : Request × List ℕ) → none ≡ Ok x → ⊥
unknown_is_none x e = cc

kind_takes : (kind : ℕ) (bytes : List ℕ) (x : Request × List ℕ) → IsBytes bytes → request_in kind bytes ≡ Ok x → Taken bytes kind x
unfolding request_in
kind_takes kind bytes x fits e =
    elim (chosen (eqb kind 1) (command_in bytes) (cond (eqb kind 2) (offer_in bytes) (cond (eqb kind 3) (poll_in bytes) (cond (eqb kind 4) (mail_in bytes) (cond (eqb kind 5) (list_in bytes) (cond (eqb kind 6) (value_in bytes) (cond (eqb kind 7) (stop_in bytes) (cond (eqb kind 8) (reload_in bytes) (cond (eqb kind 9) (status_in bytes) (cond (eqb kind 10) (poll_all_in bytes) (cond (eqb kind 11) (publication_positions_in bytes) (cond (eqb kind 12) (image_positions_in bytes) (cond (eqb kind 13) (decisions_in bytes) (Err Unknown))))))))))))) x e) [
      | inl here ↦ subst (λ (k : ℕ). Taken bytes k x) (sym (eqb-true kind 1 here.0)) (command_takes bytes x fits here.1)
      | inr later0 ↦
          elim (chosen (eqb kind 2) (offer_in bytes) (cond (eqb kind 3) (poll_in bytes) (cond (eqb kind 4) (mail_in bytes) (cond (eqb kind 5) (list_in bytes) (cond (eqb kind 6) (value_in bytes) (cond (eqb kind 7) (stop_in bytes) (cond (eqb kind 8) (reload_in bytes) (cond (eqb kind 9) (status_in bytes) (cond (eqb kind 10) (poll_all_in bytes) (cond (eqb kind 11) (publication_positions_in bytes) (cond (eqb kind 12) (image_positions_in bytes) (cond (eqb kind 13) (decisions_in bytes) (Err Unknown)))))))))))) x later0.1) [
            | inl here ↦ subst (λ (k : ℕ). Taken bytes k x) (sym (eqb-true kind 2 here.0)) (offer_takes bytes x fits here.1)
            | inr later1 ↦
                elim (chosen (eqb kind 3) (poll_in bytes) (cond (eqb kind 4) (mail_in bytes) (cond (eqb kind 5) (list_in bytes) (cond (eqb kind 6) (value_in bytes) (cond (eqb kind 7) (stop_in bytes) (cond (eqb kind 8) (reload_in bytes) (cond (eqb kind 9) (status_in bytes) (cond (eqb kind 10) (poll_all_in bytes) (cond (eqb kind 11) (publication_positions_in bytes) (cond (eqb kind 12) (image_positions_in bytes) (cond (eqb kind 13) (decisions_in bytes) (Err Unknown))))))))))) x later1.1) [
                  | inl here ↦ subst (λ (k : ℕ). Taken bytes k x) (sym (eqb-true kind 3 here.0)) (poll_takes bytes x fits here.1)
                  | inr later2 ↦
                      elim (chosen (eqb kind 4) (mail_in bytes) (cond (eqb kind 5) (list_in bytes) (cond (eqb kind 6) (value_in bytes) (cond (eqb kind 7) (stop_in bytes) (cond (eqb kind 8) (reload_in bytes) (cond (eqb kind 9) (status_in bytes) (cond (eqb kind 10) (poll_all_in bytes) (cond (eqb kind 11) (publication_positions_in bytes) (cond (eqb kind 12) (image_positions_in bytes) (cond (eqb kind 13) (decisions_in bytes) (Err Unknown)))))))))) x later2.1) [
                        | inl here ↦ subst (λ (k : ℕ). Taken bytes k x) (sym (eqb-true kind 4 here.0)) (mail_takes bytes x fits here.1)
                        | inr later3 ↦
                            elim (chosen (eqb kind 5) (list_in bytes) (cond (eqb kind 6) (value_in bytes) (cond (eqb kind 7) (stop_in bytes) (cond (eqb kind 8) (reload_in bytes) (cond (eqb kind 9) (status_in bytes) (cond (eqb kind 10) (poll_all_in bytes) (cond (eqb kind 11) (publication_positions_in bytes) (cond (eqb kind 12) (image_positions_in bytes) (cond (eqb kind 13) (decisions_in bytes) (Err Unknown))))))))) x later3.1) [
                              | inl here ↦ subst (λ (k : ℕ). Taken bytes k x) (sym (eqb-true kind 5 here.0)) (list_takes bytes x fits here.1)
                              | inr later4 ↦
                                  elim (chosen (eqb kind 6) (value_in bytes) (cond (eqb kind 7) (stop_in bytes) (cond (eqb kind 8) (reload_in bytes) (cond (eqb kind 9) (status_in bytes) (cond (eqb kind 10) (poll_all_in bytes) (cond (eqb kind 11) (publication_positions_in bytes) (cond (eqb kind 12) (image_positions_in bytes) (cond (eqb kind 13) (decisions_in bytes) (Err Unknown)))))))) x later4.1) [
                                    | inl here ↦ subst (λ (k : ℕ). Taken bytes k x) (sym (eqb-true kind 6 here.0)) (value_takes bytes x fits here.1)
                                    | inr later5 ↦
                                        elim (chosen (eqb kind 7) (stop_in bytes) (cond (eqb kind 8) (reload_in bytes) (cond (eqb kind 9) (status_in bytes) (cond (eqb kind 10) (poll_all_in bytes) (cond (eqb kind 11) (publication_positions_in bytes) (cond (eqb kind 12) (image_positions_in bytes) (cond (eqb kind 13) (decisions_in bytes) (Err Unknown))))))) x later5.1) [
                                          | inl here ↦ subst (λ (k : ℕ). Taken bytes k x) (sym (eqb-true kind 7 here.0)) (stop_takes bytes x fits here.1)
                                          | inr later6 ↦
                                              elim (chosen (eqb kind 8) (reload_in bytes) (cond (eqb kind 9) (status_in bytes) (cond (eqb kind 10) (poll_all_in bytes) (cond (eqb kind 11) (publication_positions_in bytes) (cond (eqb kind 12) (image_positions_in bytes) (cond (eqb kind 13) (decisions_in bytes) (Err Unknown)))))) x later6.1) [
                                                | inl here ↦ subst (λ (k : ℕ). Taken bytes k x) (sym (eqb-true kind 8 here.0)) (reload_takes bytes x fits here.1)
                                                | inr later7 ↦
                                                    elim (chosen (eqb kind 9) (status_in bytes) (cond (eqb kind 10) (poll_all_in bytes) (cond (eqb kind 11) (publication_positions_in bytes) (cond (eqb kind 12) (image_positions_in bytes) (cond (eqb kind 13) (decisions_in bytes) (Err Unknown))))) x later7.1) [
                                                      | inl here ↦ subst (λ (k : ℕ). Taken bytes k x) (sym (eqb-true kind 9 here.0)) (status_takes bytes x fits here.1)
                                                      | inr later8 ↦
                                                          elim (chosen (eqb kind 10) (poll_all_in bytes) (cond (eqb kind 11) (publication_positions_in bytes) (cond (eqb kind 12) (image_positions_in bytes) (cond (eqb kind 13) (decisions_in bytes) (Err Unknown)))) x later8.1) [
                                                            | inl here ↦ subst (λ (k : ℕ). Taken bytes k x) (sym (eqb-true kind 10 here.0)) (poll_all_takes bytes x fits here.1)
                                                            | inr later9 ↦
                                                                elim (chosen (eqb kind 11) (publication_positions_in bytes) (cond (eqb kind 12) (image_positions_in bytes) (cond (eqb kind 13) (decisions_in bytes) (Err Unknown))) x later9.1) [
                                                                  | inl here ↦ subst (λ (k : ℕ). Taken bytes k x) (sym (eqb-true kind 11 here.0)) (publication_positions_takes bytes x fits here.1)
                                                                  | inr later10 ↦
                                                                      elim (chosen (eqb kind 12) (image_positions_in bytes) (cond (eqb kind 13) (decisions_in bytes) (Err Unknown)) x later10.1) [
                                                                        | inl here ↦ subst (λ (k : ℕ). Taken bytes k x) (sym (eqb-true kind 12 here.0)) (image_positions_takes bytes x fits here.1)
                                                                        | inr later11 ↦
                                                                            elim (chosen (eqb kind 13) (decisions_in bytes) (Err Unknown) x later11.1) [
                                                                              | inl here ↦ subst (λ (k : ℕ). Taken bytes k x) (sym (eqb-true kind 13 here.0)) (decisions_takes bytes x fits here.1)
                                                                              | inr later12 ↦
                                                                                  absurd (unknown_is_none x later12.1)
                                                                            ]
                                                                      ]
                                                                ]
                                                          ]
                                                    ]
                                              ]
                                        ]
                                  ]
                            ]
                      ]
                ]
          ]
    ]

kind_again : (x : Request) (tail : List ℕ) → IsRequest x → IsTail x tail → request_in (kind_number x) (fields_bytes x ++ tail) ≡ Ok (x, tail)
unfolding request_in kind_number
kind_again requests.Command tail fits ok = command_again tail
kind_again (requests.Offer seen wait registration) tail fits ok = offer_again seen wait registration tail fits
kind_again (requests.Poll limit wait subscription source) tail fits ok = rw ok (poll_again limit wait subscription source fits)
kind_again (requests.Mail wait) tail fits ok = rw ok (mail_again wait fits)
kind_again requests.List tail fits ok = rw ok (list_again)
kind_again (requests.Value number) tail fits ok = rw ok (value_again number fits)
kind_again requests.Stop tail fits ok = rw ok (stop_again)
kind_again requests.Reload tail fits ok = rw ok (reload_again)
kind_again requests.Status tail fits ok = rw ok (status_again)
kind_again (requests.PollAll limit wait) tail fits ok = poll_all_again limit wait tail fits ok
kind_again (requests.PublicationPositions registration) tail fits ok = rw ok (publication_positions_again registration fits)
kind_again (requests.ImagePositions subscription source) tail fits ok = rw ok (image_positions_again subscription source fits)
kind_again (requests.Decisions from choice) tail fits ok = rw ok (decisions_again from choice fits)

kind_fits : (x : Request) → kind_number x < 256 ^ 4
unfolding kind_number
kind_fits requests.Command = omega arith
kind_fits (requests.Offer seen wait registration) = omega arith
kind_fits (requests.Poll limit wait subscription source) = omega arith
kind_fits (requests.Mail wait) = omega arith
kind_fits requests.List = omega arith
kind_fits (requests.Value number) = omega arith
kind_fits requests.Stop = omega arith
kind_fits requests.Reload = omega arith
kind_fits requests.Status = omega arith
kind_fits (requests.PollAll limit wait) = omega arith
kind_fits (requests.PublicationPositions registration) = omega arith
kind_fits (requests.ImagePositions subscription source) = omega arith
kind_fits (requests.Decisions from choice) = omega arith

-- ---- the whole

pub record Spelt (bytes : List ℕ) (x : Request × List ℕ) : Type 0 where
  pub spelt : request_body x.0 x.1 ≡ bytes
  pub fits : IsRequest x.0
  pub tail : IsTail x.0 x.1

pub request_takes : (bytes : List ℕ) (x : Request × List ℕ) → IsBytes bytes → request_of bytes ≡ Ok x → Spelt bytes x
unfolding request_of request_body
request_takes bytes x fits e =
    elim (bind_ok (number_at 4 bytes) (λ kind. request_in kind.0 kind.1) x e) [
      | step kind kind_is after ↦
          let t = number_takes 4 bytes kind fits kind_is in
          let taken = kind_takes kind.0 kind.1 x t.0.rest_fits after in
          let whole : bytes ≡ number_bytes 4 (kind_number x.0) ++ (fields_bytes x.0 ++ x.1) =
          t.0.parts ∙ ap (λ (k : ℕ). number_bytes 4 k ++ kind.1) taken.kind_is ∙ ap (λ (rest : List ℕ). number_bytes 4 (kind_number x.0) ++ rest) taken.parts in
          record { spelt = sym whole; fits = taken.fits; tail = taken.tail }
    ]

pub request_again : (x : Request) (tail : List ℕ) → IsRequest x → IsTail x tail → request_of (request_body x tail) ≡ Ok (x, tail)
unfolding request_of request_body
request_again x tail fits ok = rw (number_again 4 (kind_number x) (fields_bytes x ++ tail) (kind_fits x), kind_again x tail fits ok) refl
