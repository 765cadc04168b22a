-- Status messages by any registry of a run.
use Rattle.std.proofs.Common.{◌≡◌, ℕ, Bool, true, false, cond, List, Option, Some, None, Ok, refl, sym, ap, ◌∙◌}
use Rattle.channel_uri.specs.declared.address.Address.{Address}
use Rattle.driver_core.specs.declared.asked.publication_request.JoinRequest.{JoinRequest}
use Rattle.driver_core.specs.PublicationRequests.{join_decision, joined_by, joining_of, publication_at}
use Rattle.driver_core.specs.State.{State}
use Rattle.driver_core.proofs.VerdictLemmas.{by_policy}
use Rattle.driver_laws.specs.OlderLaws.{JoinIsDecidedBy, JoinsAreDecidedBy, JoinsByAnyRegistryAreGrantedExactly}
use Rattle.driver_laws.specs.StepActs.{join_question}
use Rattle.log_steps.specs.declared.answer.Answer.TheVariants.{Dropped}
use Rattle.log_steps.specs.declared.cause.Cause.TheVariants.{Denied, Full as IsFull}
use Rattle.driver_steps.specs.declared.step.Step.TheVariants.{Packet}
use Rattle.driver_steps.specs.Ends.{log_at, moved_by, moved_on, on_log, on_packet, on_told, RunEnd}
use Rattle.log_steps.specs.Hearing.{heard_move, learn_move, status_move, with_learnt}
use Rattle.driver_steps.specs.JoinLaws.{moved_by_log}
use Rattle.driver_steps.specs.Laws.{stays}
use Rattle.log_steps.specs.Moves.{Move, WholeLog, answered}
use Rattle.log_steps.specs.Receiving.{unheard}
use Rattle.driver_steps.proofs.DecisionLemmas.{left_by, log_moves, stays_left}
use Rattle.driver_steps.proofs.FoundLemmas.{found_source}
use Rattle.frame_codec.specs.declared.status_message.StatusMessage.{StatusMessage}
use Rattle.frame_codec.specs.Datagram.{status, packet_of}
use Rattle.learnt_addresses.specs.declared.learning.Learning.{Learning}
use Rattle.learnt_addresses.specs.declared.learning.Learning.TheVariants.{Full, Learnt, Renewed}
use Rattle.learnt_addresses.specs.LearntAddresses.{forgotten, learning, learnt}
use Rattle.policy_core.specs.declared.decision.Decision.{Decision}
use Rattle.stream_registry.specs.declared.row.LogRow.{LogRow}
use Rattle.stream_registry.specs.Places.{is_dynamic}

-- ---- what is asked of the policy

told_is : (s : State) (e : RunEnd) (now : ℕ) (local from : Address) (bytes : List ℕ) (fields : StatusMessage) (o : Option LogRow) →
    packet_of bytes ≡ Ok (status fields) → publication_at s fields.session_id fields.stream_id ≡ o →
    moved_by s e (Packet now local from bytes) ≡ on_told e now from fields (joined_by s from o)
unfolding joining_of
told_is s e now local from bytes fields o read is =
    ap (on_packet s e now local from) read ∙ ap (λ (p : Option LogRow). on_told e now from fields (joined_by s from p)) is

-- a publication that learns its destinations asks the policy, and another one does not
abbrev request_by : LogRow → Option Decision → Option JoinRequest
request_by publication decision = Some (record { source = publication.number; decision = decision })

joins_by : (s : State) (from : Address) (publication : LogRow) (dynamic : Bool) → is_dynamic publication.channel ≡ dynamic →
    joined_by s from (Some publication)
    ≡ request_by publication (cond dynamic (Some (join_decision s from publication)) None)
joins_by s from publication dynamic is =
    ap (λ (b : Bool). request_by publication (cond b (Some (join_decision s from publication)) None)) is

told_on : (s : State) (e : RunEnd) (now : ℕ) (local from : Address) (bytes : List ℕ) (fields : StatusMessage) (publication : LogRow)
    (log : WholeLog) (dynamic : Bool) → packet_of bytes ≡ Ok (status fields) →
    publication_at s fields.session_id fields.stream_id ≡ Some publication → is_dynamic publication.channel ≡ dynamic →
    log_at e.logs publication.number ≡ Some log →
    moved_by s e (Packet now local from bytes)
    ≡ left_by e publication.number
    (status_move now from (cond dynamic (Some (join_decision s from publication)) None) fields log)
told_on s e now local from bytes fields publication log dynamic read is kind found =
    told_is s e now local from bytes fields (Some publication) read is
    ∙ ap (on_told e now from fields) (joins_by s from publication dynamic kind)
    ∙ log_moves e publication.number
    (status_move now from (cond dynamic (Some (join_decision s from publication)) None) fields) unheard log found

-- ---- the move

by_log : (e : RunEnd) (n : ℕ) (log : WholeLog) (move : Move) → log_at e.logs n ≡ Some log → left_by e n move ≡ moved_by_log e log move
by_log e n log move found = ap (λ (m : ℕ). left_by e m move) (sym (found_source n log e.logs found))

-- where it is allowed, and where it is not
abbrev join_on : ℕ → Address → Decision → StatusMessage → WholeLog → Bool → Move
join_on now from decision fields log allow =
    cond allow (learn_move now from fields log (learning log.recovery.learnt from))
    (answered (with_learnt (forgotten from log.recovery.learnt) log) (Dropped (Denied decision.verdict)))

heard_after : (now : ℕ) (from : Address) (fields : StatusMessage) (log : WholeLog) (answer : Learning) → (answer ≡ Full → ⊥) →
    learn_move now from fields log answer ≡ heard_move now fields (with_learnt (learnt now from log.recovery.learnt) log)
heard_after now from fields log Full other = absurd (other refl)
heard_after now from fields log Learnt other = refl
heard_after now from fields log Renewed other = refl

join_there : (s : State) (e : RunEnd) (now : ℕ) (local from : Address) (bytes : List ℕ) (fields : StatusMessage) (publication : LogRow)
    (log : WholeLog) → packet_of bytes ≡ Ok (status fields) →
    publication_at s fields.session_id fields.stream_id ≡ Some publication → is_dynamic publication.channel ≡ true →
    log_at e.logs publication.number ≡ Some log →
    JoinIsDecidedBy s e now from fields publication log (moved_by s e (Packet now local from bytes))
join_there s e now local from bytes fields publication log read is dynamic found =
    let decision : Decision = join_decision s from publication in
    let n : ℕ = publication.number in
    let moves : moved_by s e (Packet now local from bytes) ≡ left_by e n (join_on now from decision fields log decision.verdict.allow) =
    told_on s e now local from bytes fields publication log true read is dynamic found in
    let allowed : decision.verdict.allow ≡ true →
    moved_by s e (Packet now local from bytes) ≡ left_by e n (learn_move now from fields log (learning log.recovery.learnt from)) =
    λ allows. moves ∙ ap (λ (b : Bool). left_by e n (join_on now from decision fields log b)) allows in
    record {
      by = by_policy s (join_question s from publication);
      denied = λ denies.
          moves
          ∙ ap (λ (b : Bool). left_by e n (join_on now from decision fields log b)) denies
          ∙ by_log e n log (join_on now from decision fields log false) found;
      full = λ allows full.
          allowed allows
          ∙ ap (λ (l : Learning). left_by e n (learn_move now from fields log l)) full
          ∙ stays_left e n log (Dropped IsFull) found;
      joined = λ allows other.
          allowed allows
          ∙ ap (left_by e n) (heard_after now from fields log (learning log.recovery.learnt from) other)
          ∙ by_log e n log (heard_move now fields (with_learnt (learnt now from log.recovery.learnt) log)) found;
    }

join_closed : (s : State) (e : RunEnd) (now : ℕ) (local from : Address) (bytes : List ℕ) (fields : StatusMessage) (publication : LogRow) →
    packet_of bytes ≡ Ok (status fields) → publication_at s fields.session_id fields.stream_id ≡ Some publication →
    log_at e.logs publication.number ≡ None → moved_by s e (Packet now local from bytes) ≡ stays e unheard
unfolding on_log
join_closed s e now local from bytes fields publication read is none =
    told_is s e now local from bytes fields (Some publication) read is
    ∙ ap
    (moved_on e publication.number
    (status_move now from (cond (is_dynamic publication.channel) (Some (join_decision s from publication)) None) fields) unheard) none

joined_by_any : (s : State) (e : RunEnd) → JoinsAreDecidedBy s e
joined_by_any s e = record {
  there = join_there s e;
  named = λ now local from bytes fields publication log read is dynamic found.
      told_on s e now local from bytes fields publication log false read is dynamic found
      ∙ by_log e publication.number log (heard_move now fields log) found;
  closed = join_closed s e;
  nobody = λ now local from bytes fields read none. told_is s e now local from bytes fields None read none;
}

pub joins_by_any : JoinsByAnyRegistryAreGrantedExactly
joins_by_any settings policy peers readings answers k sound are = joined_by_any _ _
