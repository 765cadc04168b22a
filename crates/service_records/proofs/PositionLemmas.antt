-- Positions are read as they were written, and written as they were read.
use Rattle.std.proofs.Common.{◌≡◌, ℕ, List, [], ◌++◌, Ok, refl, ap, subst, ◌∙◌, append_assoc}
use Rattle.service_records.specs.declared.answer.Answer.{Answer}
use Rattle.service_records.specs.declared.answer.Answer.TheVariants as answers
use Rattle.service_records.specs.Gives.{◌>>=◌}
use Rattle.service_records.specs.Fields.{number_at, ended, number_bytes, IsBytes}
use Rattle.service_records.specs.Answer.{publication_positions_in, image_positions_in, kind_number, fields_bytes, IsAnswer, IsTail}
use Rattle.service_records.proofs.FieldLemmas.{bind_ok, step, Takes-then, number_takes, number_again, ended_takes}

-- what was read after a kind is what was written, and can be written
pub record Taken (bytes : List ℕ) (kind : ℕ) (x : Answer × List ℕ) : Type 0 where
  pub kind_is : kind ≡ kind_number x.0
  pub parts : bytes ≡ fields_bytes x.0 ++ x.1
  pub fits : IsAnswer x.0
  pub tail : IsTail x.0 x.1

pub publication_positions_takes : (bytes : List ℕ) (x : Answer × List ℕ) → IsBytes bytes → publication_positions_in bytes ≡ Ok x → Taken bytes 269 x
unfolding kind_number fields_bytes
publication_positions_takes bytes x fits e =
    elim (bind_ok (number_at 8 bytes) (λ position. number_at 8 position.1 >>= λ limit. number_at 8 limit.1 >>= λ sent. number_at 8 sent.1 >>= λ consumed. number_at 4 consumed.1 >>= λ flags. ended (answers.PublicationPositions position.0 limit.0 sent.0 consumed.0 flags.0, []) flags.1) x e) [
      | step position position_is after_position ↦
          let t_position = number_takes 8 bytes position fits position_is in
          elim (bind_ok (number_at 8 position.1) (λ limit. number_at 8 limit.1 >>= λ sent. number_at 8 sent.1 >>= λ consumed. number_at 4 consumed.1 >>= λ flags. ended (answers.PublicationPositions position.0 limit.0 sent.0 consumed.0 flags.0, []) flags.1) x after_position) [
            | step limit limit_is after_limit ↦
                let t_limit = number_takes 8 position.1 limit t_position.0.rest_fits limit_is in
                elim (bind_ok (number_at 8 limit.1) (λ sent. number_at 8 sent.1 >>= λ consumed. number_at 4 consumed.1 >>= λ flags. ended (answers.PublicationPositions position.0 limit.0 sent.0 consumed.0 flags.0, []) flags.1) x after_limit) [
                  | step sent sent_is after_sent ↦
                      let t_sent = number_takes 8 limit.1 sent t_limit.0.rest_fits sent_is in
                      elim (bind_ok (number_at 8 sent.1) (λ consumed. number_at 4 consumed.1 >>= λ flags. ended (answers.PublicationPositions position.0 limit.0 sent.0 consumed.0 flags.0, []) flags.1) x after_sent) [
                        | step consumed consumed_is after_consumed ↦
                            let t_consumed = number_takes 8 sent.1 consumed t_sent.0.rest_fits consumed_is in
                            elim (bind_ok (number_at 4 consumed.1) (λ flags. ended (answers.PublicationPositions position.0 limit.0 sent.0 consumed.0 flags.0, []) flags.1) x after_consumed) [
                              | step flags flags_is after_flags ↦
                                  let t_flags = number_takes 4 consumed.1 flags t_consumed.0.rest_fits flags_is in
                                  let made : Answer × List ℕ = (answers.PublicationPositions position.0 limit.0 sent.0 consumed.0 flags.0, []) in
                                  let w_limit = Takes-then bytes (number_bytes 8 position.0) position.1 (number_bytes 8 limit.0) limit.1 t_position.0 t_limit.0 in
                                  let w_sent = Takes-then bytes ((number_bytes 8 position.0) ++ number_bytes 8 limit.0) limit.1 (number_bytes 8 sent.0) sent.1 w_limit t_sent.0 in
                                  let w_consumed = Takes-then bytes (((number_bytes 8 position.0) ++ number_bytes 8 limit.0) ++ number_bytes 8 sent.0) sent.1 (number_bytes 8 consumed.0) consumed.1 w_sent t_consumed.0 in
                                  let w_flags = Takes-then bytes ((((number_bytes 8 position.0) ++ number_bytes 8 limit.0) ++ number_bytes 8 sent.0) ++ number_bytes 8 consumed.0) consumed.1 (number_bytes 4 flags.0) flags.1 w_consumed t_flags.0 in
                                  let last = ended_takes made x flags.1 after_flags in
                                  let all : bytes ≡ (((((number_bytes 8 position.0) ++ number_bytes 8 limit.0) ++ number_bytes 8 sent.0) ++ number_bytes 8 consumed.0) ++ number_bytes 4 flags.0) ++ [] = w_flags.parts ∙ ap (λ (rest : List ℕ). (((((number_bytes 8 position.0) ++ number_bytes 8 limit.0) ++ number_bytes 8 sent.0) ++ number_bytes 8 consumed.0) ++ number_bytes 4 flags.0) ++ rest) last.1 in
                                  let found : Taken bytes 269 made = record { kind_is = refl; parts = all; fits = (t_position.1, t_limit.1, t_sent.1, t_consumed.1, t_flags.1); tail = refl } in
                                  subst (λ (y : Answer × List ℕ). Taken bytes 269 y) last.0 found
                            ]
                      ]
                ]
          ]
    ]

pub publication_positions_again : (position : ℕ) (limit : ℕ) (sent : ℕ) (consumed : ℕ) (flags : ℕ) → IsAnswer (answers.PublicationPositions position limit sent consumed flags) → publication_positions_in (fields_bytes (answers.PublicationPositions position limit sent consumed flags) ++ []) ≡ Ok ((answers.PublicationPositions position limit sent consumed flags), [])
unfolding fields_bytes
publication_positions_again position limit sent consumed flags fits =
    let regrouped : fields_bytes (answers.PublicationPositions position limit sent consumed flags) ++ [] ≡ number_bytes 8 position ++ (number_bytes 8 limit ++ (number_bytes 8 sent ++ (number_bytes 8 consumed ++ (number_bytes 4 flags ++ [])))) = append_assoc (number_bytes 8 position ++ number_bytes 8 limit ++ number_bytes 8 sent ++ number_bytes 8 consumed) (number_bytes 4 flags) ([]) ∙ append_assoc (number_bytes 8 position ++ number_bytes 8 limit ++ number_bytes 8 sent) (number_bytes 8 consumed) (number_bytes 4 flags ++ []) ∙ append_assoc (number_bytes 8 position ++ number_bytes 8 limit) (number_bytes 8 sent) (number_bytes 8 consumed ++ (number_bytes 4 flags ++ [])) ∙ append_assoc (number_bytes 8 position) (number_bytes 8 limit) (number_bytes 8 sent ++ (number_bytes 8 consumed ++ (number_bytes 4 flags ++ []))) in
    ap publication_positions_in regrouped ∙ rw (number_again 8 position (number_bytes 8 limit ++ (number_bytes 8 sent ++ (number_bytes 8 consumed ++ (number_bytes 4 flags ++ [])))) fits.0, number_again 8 limit (number_bytes 8 sent ++ (number_bytes 8 consumed ++ (number_bytes 4 flags ++ []))) fits.1, number_again 8 sent (number_bytes 8 consumed ++ (number_bytes 4 flags ++ [])) fits.2, number_again 8 consumed (number_bytes 4 flags ++ []) fits.3, number_again 4 flags ([]) fits.4) refl

pub image_positions_takes : (bytes : List ℕ) (x : Answer × List ℕ) → IsBytes bytes → image_positions_in bytes ≡ Ok x → Taken bytes 270 x
unfolding kind_number fields_bytes
image_positions_takes bytes x fits e =
    elim (bind_ok (number_at 8 bytes) (λ joined. number_at 8 joined.1 >>= λ position. number_at 8 position.1 >>= λ received. ended (answers.ImagePositions joined.0 position.0 received.0, []) received.1) x e) [
      | step joined joined_is after_joined ↦
          let t_joined = number_takes 8 bytes joined fits joined_is in
          elim (bind_ok (number_at 8 joined.1) (λ position. number_at 8 position.1 >>= λ received. ended (answers.ImagePositions joined.0 position.0 received.0, []) received.1) x after_joined) [
            | step position position_is after_position ↦
                let t_position = number_takes 8 joined.1 position t_joined.0.rest_fits position_is in
                elim (bind_ok (number_at 8 position.1) (λ received. ended (answers.ImagePositions joined.0 position.0 received.0, []) received.1) x after_position) [
                  | step received received_is after_received ↦
                      let t_received = number_takes 8 position.1 received t_position.0.rest_fits received_is in
                      let made : Answer × List ℕ = (answers.ImagePositions joined.0 position.0 received.0, []) in
                      let w_position = Takes-then bytes (number_bytes 8 joined.0) joined.1 (number_bytes 8 position.0) position.1 t_joined.0 t_position.0 in
                      let w_received = Takes-then bytes ((number_bytes 8 joined.0) ++ number_bytes 8 position.0) position.1 (number_bytes 8 received.0) received.1 w_position t_received.0 in
                      let last = ended_takes made x received.1 after_received in
                      let all : bytes ≡ (((number_bytes 8 joined.0) ++ number_bytes 8 position.0) ++ number_bytes 8 received.0) ++ [] = w_received.parts ∙ ap (λ (rest : List ℕ). (((number_bytes 8 joined.0) ++ number_bytes 8 position.0) ++ number_bytes 8 received.0) ++ rest) last.1 in
                      let found : Taken bytes 270 made = record { kind_is = refl; parts = all; fits = (t_joined.1, t_position.1, t_received.1); tail = refl } in
                      subst (λ (y : Answer × List ℕ). Taken bytes 270 y) last.0 found
                ]
          ]
    ]

pub image_positions_again : (joined : ℕ) (position : ℕ) (received : ℕ) → IsAnswer (answers.ImagePositions joined position received) → image_positions_in (fields_bytes (answers.ImagePositions joined position received) ++ []) ≡ Ok ((answers.ImagePositions joined position received), [])
unfolding fields_bytes
image_positions_again joined position received fits =
    let regrouped : fields_bytes (answers.ImagePositions joined position received) ++ [] ≡ number_bytes 8 joined ++ (number_bytes 8 position ++ (number_bytes 8 received ++ [])) = append_assoc (number_bytes 8 joined ++ number_bytes 8 position) (number_bytes 8 received) ([]) ∙ append_assoc (number_bytes 8 joined) (number_bytes 8 position) (number_bytes 8 received ++ []) in
    ap image_positions_in regrouped ∙ rw (number_again 8 joined (number_bytes 8 position ++ (number_bytes 8 received ++ [])) fits.0, number_again 8 position (number_bytes 8 received ++ []) fits.1, number_again 8 received ([]) fits.2) refl
